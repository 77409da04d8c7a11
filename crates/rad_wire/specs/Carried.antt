-- Which pairs come back from a reply or a request as they were: RFC 2865 sections 5, 5.2 and 5.26.
use Rattle.std.specs.Prelude.{ℕ, ◌≡◌, ◌≢◌, ◌<◌, ◌≤◌, ◌^◌, List, [], length, map}
use Rattle.std.specs.List.{flat_map}
use Rattle.rad_words.specs.declared.attributes.Space.{Space}
use Rattle.rad_words.specs.declared.attributes.Space.TheVariants.{Standard, Vendor, Internal}
use Rattle.rad_value.specs.declared.values.Pair.{Pair}
use Rattle.rad_value.specs.declared.values.Value.{Value}
use Rattle.rad_value.specs.declared.values.Value.TheVariants as values
use Rattle.rad_value.specs.Kinds.{kind_of_value}
use Rattle.rad_dict.specs.Definitions.{Definitions}
use Rattle.rad_packet.specs.Hiding.{HasNoTrailingZero}
use Rattle.rad_packet.specs.Packet.{Attribute, spelled}
use Rattle.rad_wire.specs.Pairs.{kind_of, pair_of, standard, vendor_parts}
use Rattle.rad_wire.specs.Reply.{attributes_for, proxy_state_attributes, room_beside}
use Rattle.rad_wire.specs.Values.{octets_of}

-- A value's number fits the octets of its kind.
abbrev pub IsInRange : Value → Type 0
IsInRange (values.Text text) = Unit {0}
IsInRange (values.Octets octets) = Unit {0}
IsInRange (values.Addr address) = address < 2 ^ 32
IsInRange (values.Number number) = number < 2 ^ 32
IsInRange (values.Date seconds) = seconds < 2 ^ 32
IsInRange (values.Byte number) = number < 2 ^ 8
IsInRange (values.Short number) = number < 2 ^ 16

-- A value of so many octets is written uncut in this space, and a vendor's number fits its four octets.
abbrev pub IsUncut : Space → ℕ → Type 0
IsUncut Standard count = count ≤ 253
IsUncut (Vendor vendor) count = (count ≤ 247) × (vendor < 2 ^ 32)
IsUncut Internal count = ⊥

-- A value of the standard attribute 26 is octets that aren't a Vendor-Id and parts.
abbrev pub HasNoParts : Value → Type 0
HasNoParts (values.Octets octets) = vendor_parts octets ≡ []
HasNoParts _ = ⊥

-- A reply carries this pair, and it is read again by this dictionary: it isn't left out, its value is of its
-- attribute's kind, in range and uncut, and one of the standard attribute 26 isn't read as parts.
pub record IsCarried (dict : Definitions) (pair : Pair) : Type 0 where
  pub sent : attributes_for pair ≢ []
  pub kind : kind_of_value pair.value ≡ kind_of pair.attr dict
  pub range : IsInRange pair.value
  pub uncut : IsUncut pair.attr.space (length (octets_of pair.value))
  pub plain : pair.attr ≡ standard 26 → HasNoParts pair.value

-- All these pairs fit into a reply to the request.
abbrev pub FitBeside : List Pair → List ℕ → Type 0
FitBeside pairs request = length (flat_map spelled (flat_map attributes_for pairs)) ≤ room_beside request

-- The request's Proxy-State attributes as pairs.
abbrev pub proxy_state_pairs : List ℕ → Definitions → List Pair
proxy_state_pairs request dict =
    map (λ (a : Attribute). pair_of (standard a.kind) a.value dict) (proxy_state_attributes request)

-- A password that is hidden and revealed again: text of at most 128 octets without a zero octet at its end (RFC 2865
-- section 5.2).
abbrev pub IsPassword : Value → Type 0
IsPassword (values.Text text) = (length text ≤ 128) × HasNoTrailingZero text
IsPassword (values.Octets octets) = ⊥
IsPassword (values.Addr address) = ⊥
IsPassword (values.Number number) = ⊥
IsPassword (values.Date seconds) = ⊥
IsPassword (values.Byte number) = ⊥
IsPassword (values.Short number) = ⊥

-- An Access-Request carries this pair, and it is read again by this dictionary: it has a number of one octet and isn't
-- internal, its value is uncut, in range and of its attribute's kind, a User-Password is a password, a CHAP-Password has the
-- 17 octets of one, a value of the standard attribute 26 isn't read as parts, and it is no Message-Authenticator.
pub record IsAsked (dict : Definitions) (pair : Pair) : Type 0 where
  pub number : pair.attr.number ≤ 255
  pub uncut : IsUncut pair.attr.space (length (octets_of pair.value))
  pub kind : pair.attr ≢ standard 2 → kind_of_value pair.value ≡ kind_of pair.attr dict
  pub range : IsInRange pair.value
  pub password : pair.attr ≡ standard 2 → IsPassword pair.value
  pub chap : pair.attr ≡ standard 3 → length (octets_of pair.value) ≡ 17
  pub plain : pair.attr ≡ standard 26 → HasNoParts pair.value
  pub other : pair.attr ≢ standard 80
