-- What a row of a table of attributes or values defines. This project's own form.
use Rattle.std.specs.Prelude.{ℕ, List, [], ◌∷◌, map}
use Rattle.rad_words.specs.Names.{Row}
use Rattle.rad_words.specs.declared.attributes.Kind.{Kind}
use Rattle.rad_words.specs.declared.attributes.Space.{Space}
use Rattle.rad_words.specs.declared.attributes.Space.TheVariants.{Standard}
use Rattle.rad_dict.specs.declared.definitions.AttrDef.{AttrDef}
use Rattle.rad_dict.specs.declared.definitions.ValueDef.{ValueDef}

-- An attribute by its space, number, kind and name.
abbrev pub attr_def : Space → ℕ → Kind → List ℕ → AttrDef
attr_def space number kind name = record {
  id = record { space = space; number = number };
  kind = kind;
  name = name;
}

-- A named value of a standard attribute.
abbrev pub value_def : ℕ → ℕ → List ℕ → ValueDef
value_def attr number name = record {
  attr = record { space = Standard; number = attr };
  number = number;
  name = name;
}

-- The attributes of a table of names and numbers and of their kinds, in this space.
abbrev pub attrs_of : Space → List Row → List Kind → List AttrDef
attrs_of space [] kinds = []
attrs_of space (row ∷ rows) [] = []
attrs_of space (row ∷ rows) (kind ∷ kinds) = attr_def space row.number kind row.name ∷ attrs_of space rows kinds

-- The values of a standard attribute, by the table of their names and numbers.
abbrev pub values_of : ℕ → List Row → List ValueDef
values_of attr rows = map (λ (row : Row). value_def attr row.number row.name) rows
