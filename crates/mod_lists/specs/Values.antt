-- The octets of a value that is a text or octets (RFC 2865 section 5).
use Rattle.std.specs.Prelude.{ℕ, List, Option, Some, None}
use Rattle.std.specs.Option.{option_and_then}
use Rattle.rad_words.specs.declared.attributes.AttrId.{AttrId}
use Rattle.rad_value.specs.declared.values.Pair.{Pair}
use Rattle.rad_value.specs.declared.values.Value.{Value}
use Rattle.rad_value.specs.declared.values.Value.TheVariants as value
use Rattle.rad_value.specs.Pairs.{first_value}

-- The octets of a value, where it is a text or octets.
abbrev pub octets_of : Value → Option (List ℕ)
octets_of (value.Text text) = Some text
octets_of (value.Octets octets) = Some octets
octets_of (value.Addr address) = None
octets_of (value.Number number) = None
octets_of (value.Date seconds) = None
octets_of (value.Byte number) = None
octets_of (value.Short number) = None

-- The octets of the attribute's first pair. Another kind of value counts as none, and no later pair is looked for.
abbrev pub first_octets : AttrId → List Pair → Option (List ℕ)
first_octets attr pairs = option_and_then octets_of (first_value attr pairs)
