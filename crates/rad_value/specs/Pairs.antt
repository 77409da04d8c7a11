-- The pairs of one attribute in a list of pairs, and the text of the first. This project's own words.
use Rattle.std.specs.Prelude.{ℕ, Bool, List, Option, Some, None, filter, map, slice_get}
use Rattle.std.specs.Option.{option_and_then}
use Rattle.rad_words.specs.declared.attributes.AttrId.{AttrId}
use Rattle.rad_words.specs.Attribute.{same_attr}
use Rattle.rad_value.specs.declared.values.Pair.{Pair}
use Rattle.rad_value.specs.declared.values.Value.{Value}
use Rattle.rad_value.specs.declared.values.Value.TheVariants as value

-- Whether the pair is one of this attribute.
abbrev pub is_of : AttrId → Pair → Bool
is_of attr pair = same_attr pair.attr attr

-- The attribute's pairs, in the list's order.
abbrev pub pairs_of : AttrId → List Pair → List Pair
pairs_of attr pairs = filter (is_of attr) pairs

-- The attribute's values, in the list's order.
abbrev pub values_of : AttrId → List Pair → List Value
values_of attr pairs = map (λ (p : Pair). p.value) (pairs_of attr pairs)

-- The text of a value, where it is one.
abbrev pub text_of : Value → Option (List ℕ)
text_of (value.Text text) = Some text
text_of (value.Octets octets) = None
text_of (value.Addr address) = None
text_of (value.Number number) = None
text_of (value.Date seconds) = None
text_of (value.Byte number) = None
text_of (value.Short number) = None

-- The value of the attribute's first pair.
abbrev pub first_value : AttrId → List Pair → Option Value
first_value attr pairs = slice_get (values_of attr pairs) 0

-- Its text. A value that is no text counts as none, and no later pair is looked for.
abbrev pub first_text : AttrId → List Pair → Option (List ℕ)
first_text attr pairs = option_and_then text_of (first_value attr pairs)
