-- What holds of every dictionary, whatever its files define: the base stays, names have their form, and no name stands
-- for two things. After the manual page dictionary(5) of FreeRADIUS; that the base stays is this project's own.
use Rattle.std.specs.Prelude.{◌≡◌, ℕ, List, length, take, IsTrue}
use Rattle.std.specs.List.{Contains}
use Rattle.std.specs.Str.{str_eq_ignore_ascii_case}
use Rattle.rad_dict.specs.declared.definitions.AttrDef.{AttrDef}
use Rattle.rad_dict.specs.declared.definitions.ValueDef.{ValueDef}
use Rattle.rad_dict.specs.Definitions.{Definitions}
use Rattle.rad_dict.specs.NameForms.{is_attr_name, is_value_name}
use Rattle.rad_dict.specs.BaseAttributes.{base_attrs}
use Rattle.rad_dict.specs.BaseValues.{base_values}

-- A list begins with these.
abbrev pub BeginsWith : {T : Type 0} → List T → List T → Type 0
BeginsWith first whole = take (length first) whole ≡ first

-- Two names are one, in any case of their ASCII letters.
abbrev pub IsSameName : List ℕ → List ℕ → Type 0
IsSameName name other = IsTrue (str_eq_ignore_ascii_case name other)

-- The base's rows come first, in their order. Each name is of its form. Attributes of one name are one attribute, and
-- values of one attribute that have one name are one value.
pub record IsDictionary (dict : Definitions) : Type 0 where
  pub base_first : BeginsWith base_attrs dict.attrs
  pub base_values_first : BeginsWith base_values dict.values
  pub attr_names : (row : AttrDef) → Contains dict.attrs row → IsTrue (is_attr_name row.name)
  pub one_attr : (row other : AttrDef) → Contains dict.attrs row → Contains dict.attrs other → IsSameName row.name other.name → row ≡ other
  pub value_names : (row : ValueDef) → Contains dict.values row → IsTrue (is_value_name row.name)
  pub one_value : (row other : ValueDef) → Contains dict.values row → Contains dict.values other → row.attr ≡ other.attr → IsSameName row.name other.name → row ≡ other
