-- The attribute that a name means: the dictionary's, or one by its number as `Attr-N`, or `Attr-26.V.N` for number
-- N of vendor V (this project's own). Names are compared without regard to ASCII case, after dictionary(5).
use Rattle.std.specs.Prelude.{ℕ, ◌&&◌, ◌==◌, List, [], ◌∷◌, take, drop, Option, Some, None, nat_lt, codes, if◌then◌else◌}
use Rattle.std.specs.Option.{option_map}
use Rattle.std.specs.Str.{str_eq_ignore_ascii_case}
use Rattle.rad_words.specs.declared.attributes.AttrId.{AttrId}
use Rattle.rad_words.specs.declared.attributes.Space.TheVariants.{Standard, Vendor}
use Rattle.rad_words.specs.declared.attributes.Kind.{Kind}
use Rattle.rad_words.specs.declared.attributes.Kind.TheVariants.{Octets}
use Rattle.rad_dict.specs.Definitions.{Definitions, attr_named, definition_of}
use Rattle.rad_pairs.specs.declared.attr_reading.AttrKind.{AttrKind}
use Rattle.rad_text.specs.Find.{◌>>=◌}
use Rattle.rad_text.specs.Numerals.{number_at, number_of}

-- The vendor's attribute of this number, 255 at most.
abbrev pub vendor_attr : ℕ → ℕ → Option AttrId
vendor_attr vendor number = if nat_lt number 256 then Some (record { space = Vendor vendor; number = number }) else None

-- `N`, behind a vendor and a dot.
abbrev pub vendor_number : ℕ × List ℕ → Option AttrId
vendor_number vendor = elim vendor.1 [
  | [] ↦ None
  | c ∷ rest ↦ if c == 46 then number_of 10 rest >>= vendor_attr vendor.0 else None
]

-- `N`, or `26.V.N`
abbrev pub attr_by : ℕ × List ℕ → Option AttrId
attr_by first = elim first.1 [
  | [] ↦ if nat_lt first.0 256 then Some (record { space = Standard; number = first.0 }) else None
  | c ∷ rest ↦ if c == 46 && first.0 == 26 then number_at 10 rest >>= vendor_number else None
]

-- The attribute that a name spells by its number.
unfoldable pub numbered : List ℕ → Option AttrId
numbered name = if str_eq_ignore_ascii_case (take 5 name) (codes "Attr-") then number_at 10 (drop 5 name) >>= attr_by else None

-- The kind of an attribute's first definition, else Octets.
unfoldable pub kind_or_octets : AttrId → Definitions → Kind
kind_or_octets attr dict = elim (definition_of attr dict) [ Some row ↦ row.kind | None ↦ Octets ]

-- The attribute of a name, and the kind that the name gives it. The empty name is none.
unfoldable pub named : List ℕ → Definitions → Option AttrKind
named [] dict = None
named (c ∷ name) dict = elim (attr_named (c ∷ name) dict) [
  | Some row ↦ Some (record { id = row.id; kind = row.kind })
  | None ↦ option_map (λ (id : AttrId). record { id = id; kind = kind_or_octets id dict }) (numbered (c ∷ name))
]
