-- How an attribute's value stands in a packet: RFC 2865 section 5.
use Rattle.std.specs.Prelude.{ℕ, ◌==◌, if◌then◌else◌, List, [], ◌∷◌, length, slice_index}
use Rattle.std.specs.Int.{w16, w32, from_be_bytes, to_be_bytes}
use Rattle.rad_words.specs.declared.attributes.Kind.{Kind}
use Rattle.rad_words.specs.declared.attributes.Kind.TheVariants as kinds
use Rattle.rad_value.specs.declared.values.Value.{Value}
use Rattle.rad_value.specs.declared.values.Value.TheVariants as values

-- The value that octets are by a kind: an address, a number and a date are 4 octets, a short number 2 and a byte 1,
-- the highest octet first. Octets of another length stay octets (RFC 2865 section 5).
abbrev pub value_of : Kind → List ℕ → Value
value_of kinds.Text octets = values.Text octets
value_of kinds.Octets octets = values.Octets octets
value_of kinds.Addr octets = if length octets == 4 then values.Addr (from_be_bytes w32 octets) else values.Octets octets
value_of kinds.Number octets = if length octets == 4 then values.Number (from_be_bytes w32 octets) else values.Octets octets
value_of kinds.Date octets = if length octets == 4 then values.Date (from_be_bytes w32 octets) else values.Octets octets
value_of kinds.Byte octets = if length octets == 1 then values.Byte (slice_index octets 0) else values.Octets octets
value_of kinds.Short octets = if length octets == 2 then values.Short (from_be_bytes w16 octets) else values.Octets octets

-- The octets of a value, the highest first in a number (RFC 2865 section 5).
abbrev pub octets_of : Value → List ℕ
octets_of (values.Text text) = text
octets_of (values.Octets octets) = octets
octets_of (values.Addr address) = to_be_bytes w32 address
octets_of (values.Number number) = to_be_bytes w32 number
octets_of (values.Date seconds) = to_be_bytes w32 seconds
octets_of (values.Byte number) = number ∷ []
octets_of (values.Short number) = to_be_bytes w16 number
