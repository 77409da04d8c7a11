-- What makes a printed pair read back as that pair: its value is of its attribute's kind. This project's own.
use Rattle.std.specs.Prelude.{◌≡◌, ℕ, ◌<◌, ◌^◌, List, [], ◌∷◌, ◌++◌, Option, Some, None, nat_lt, if◌then◌else◌}
use Rattle.std.specs.List.{flat_map, AllByRecursion}
use Rattle.rad_words.specs.declared.attributes.AttrId.{AttrId}
use Rattle.rad_words.specs.declared.attributes.Space.{Space}
use Rattle.rad_words.specs.declared.attributes.Space.TheVariants.{Standard, Vendor, Internal}
use Rattle.rad_words.specs.declared.attributes.Kind.{Kind}
use Rattle.rad_words.specs.declared.attributes.Kind.TheVariants as kind
use Rattle.rad_value.specs.declared.values.Value.{Value}
use Rattle.rad_value.specs.declared.values.Value.TheVariants as value
use Rattle.rad_value.specs.declared.values.Pair.{Pair}
use Rattle.rad_value.specs.Kinds.{kind_of_value}
use Rattle.rad_dict.specs.Definitions.{Definitions, definition_of}
use Rattle.rad_pairs.specs.declared.items.Item.{Item}
use Rattle.rad_pairs.specs.declared.items.PairOp.TheVariants as op
use Rattle.rad_pairs.specs.ValueText.{pair_text}

-- The kind of an attribute without a definition: Octets, where its number is one of the wire's.
abbrev pub unnamed_kind : Space → ℕ → Option Kind
unnamed_kind Standard number = if nat_lt number 256 then Some kind.Octets else None
unnamed_kind (Vendor vendor) number = if nat_lt number 256 then Some kind.Octets else None
unnamed_kind Internal number = None

-- The kind of an attribute: its first definition's, where it has one.
abbrev pub kind_of : AttrId → Definitions → Option Kind
kind_of attr dict = elim (definition_of attr dict) [ Some row ↦ Some row.kind | None ↦ unnamed_kind attr.space attr.number ]

-- Numbers that are octets.
abbrev pub AreOctets : List ℕ → Type 0
AreOctets octets = AllByRecursion (λ c. c < 256) octets

-- A value in the range of its type.
abbrev pub InRange : Value → Type 0
InRange (value.Text text) = AreOctets text
InRange (value.Octets octets) = AreOctets octets
InRange (value.Addr address) = address < 2 ^ 32
InRange (value.Number number) = number < 2 ^ 32
InRange (value.Date seconds) = seconds < 2 ^ 32
InRange (value.Byte number) = number < 2 ^ 8
InRange (value.Short number) = number < 2 ^ 16

-- A vendor in the range of its type.
abbrev pub IsSpace : Space → Type 0
IsSpace Standard = Unit {0}
IsSpace (Vendor vendor) = vendor < 2 ^ 32
IsSpace Internal = Unit {0}

-- The pair's value is of its attribute's kind.
abbrev pub HasItsKind : Pair → Definitions → Type 0
HasItsKind pair dict = kind_of pair.attr dict ≡ Some (kind_of_value pair.value)

-- The same, and all is in the range of its type, as it is in every pair of the program.
pub record IsOfKind (pair : Pair) (dict : Definitions) : Type 0 where
  pub kind : HasItsKind pair dict
  pub value : InRange pair.value
  pub space : IsSpace pair.attr.space

-- What a printed pair is read as.
abbrev pub item_of : Pair → Item
item_of pair = record { attr = pair.attr; op = op.Eq; value = pair.value }

-- Pairs in print, each with a line end behind it.
abbrev pub lines_text : List Pair → Definitions → List ℕ
lines_text pairs dict = flat_map (λ (pair : Pair). pair_text pair dict ++ 10 ∷ []) pairs

-- All of the pairs are of their kinds.
abbrev pub AreOfKind : List Pair → Definitions → Type 0
AreOfKind pairs dict = AllByRecursion (λ (pair : Pair). IsOfKind pair dict) pairs
