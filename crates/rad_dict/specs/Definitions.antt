-- What a dictionary holds, and what is looked up in it: the first row that fits. Names are compared
-- without regard to ASCII case, after dictionary(5) of FreeRADIUS.
use Rattle.std.specs.Prelude.{ℕ, Bool, ◌&&◌, ◌==◌, List, Option, option_map, find}
use Rattle.std.specs.Str.{str_eq_ignore_ascii_case}
use Rattle.rad_words.specs.declared.attributes.AttrId.{AttrId}
use Rattle.rad_words.specs.Attribute.{same_attr}
use Rattle.rad_dict.specs.declared.definitions.AttrDef.{AttrDef}
use Rattle.rad_dict.specs.declared.definitions.ValueDef.{ValueDef}

-- The attributes and the named values of a dictionary, in the order in which they were defined.
pub record Definitions : Type 0 where
  pub attrs : List AttrDef
  pub values : List ValueDef

-- The attribute of this name.
abbrev pub attr_named : List ℕ → Definitions → Option AttrDef
attr_named name d = find (λ (row : AttrDef). str_eq_ignore_ascii_case row.name name) d.attrs

-- The definition of this attribute.
abbrev pub definition_of : AttrId → Definitions → Option AttrDef
definition_of id d = find (λ (row : AttrDef). same_attr row.id id) d.attrs

-- Whether the row is the one of this value of the attribute, by its number or by its name.
abbrev pub is_number_of : AttrId → ℕ → ValueDef → Bool
is_number_of id number row = same_attr row.attr id && row.number == number

-- The row is the attribute's value of this name.
abbrev pub is_name_of : AttrId → List ℕ → ValueDef → Bool
is_name_of id name row = same_attr row.attr id && str_eq_ignore_ascii_case row.name name

-- The name of this value of the attribute.
abbrev pub name_of : AttrId → ℕ → Definitions → Option (List ℕ)
name_of id number d = option_map (λ (row : ValueDef). row.name) (find (is_number_of id number) d.values)

-- The value of the attribute that has this name.
abbrev pub number_of : AttrId → List ℕ → Definitions → Option ℕ
number_of id name d = option_map (λ (row : ValueDef). row.number) (find (is_name_of id name) d.values)
