-- The keys by which rows are indexed, each below 2 ^ 64. Rows that a look-up takes for the same have the same key;
-- others may have it too. This project's own; names go by the hash of Fowler, Noll and Vo, with a sum.
use Rattle.std.specs.Prelude.{ℕ, ◌+◌, ◌*◌, ◌^◌, ◌%◌, List, [], ◌∷◌}
use Rattle.std.specs.Str.{str_to_ascii_lowercase}
use Rattle.rad_words.specs.declared.attributes.AttrId.{AttrId}
use Rattle.rad_words.specs.declared.attributes.Space.{Space}
use Rattle.rad_words.specs.declared.attributes.Space.TheVariants.{Standard, Vendor, Internal}
use Rattle.rad_dict.specs.declared.definitions.AttrDef.{AttrDef}
use Rattle.rad_dict.specs.declared.definitions.ValueDef.{ValueDef}

-- A key that goes on with a number.
unfoldable pub key_with : ℕ → ℕ → ℕ
key_with key number = (key * 1099511628211 + number) % 2 ^ 64

-- A key that goes on with octets.
unfoldable pub octets_key : ℕ → List ℕ → ℕ
octets_key key [] = key
octets_key key (octet ∷ octets) = octets_key (key_with key octet) octets

-- The key of a name behind another key: that of its octets in small letters.
abbrev pub name_key : ℕ → List ℕ → ℕ
name_key key name = octets_key key (str_to_ascii_lowercase name)

-- The key of a space.
abbrev pub space_key : Space → ℕ
space_key Standard = 0
space_key (Vendor vendor) = vendor + 1
space_key Internal = 2 ^ 32

-- The key of an attribute.
unfoldable pub attr_key : AttrId → ℕ
attr_key id = key_with (space_key id.space) id.number

-- An attribute's definition by its name and by its attribute, a named value by its number and by its name.
abbrev pub by_name : AttrDef → ℕ
by_name row = name_key 0 row.name

-- The key of an attribute's row.
abbrev pub by_attr : AttrDef → ℕ
by_attr row = attr_key row.id

-- The key of a value's row, by its number.
abbrev pub by_value : ValueDef → ℕ
by_value row = key_with (attr_key row.attr) row.number

-- The key of a value's row, by its name.
abbrev pub by_value_name : ValueDef → ℕ
by_value_name row = name_key (attr_key row.attr) row.name
