-- The attribute at the front of octets: RFC 2865 section 5.
use Rattle.std.specs.Prelude.{ℕ, ◌≡◌, ◌≤◌, List, ◌++◌, length}
use Rattle.rad_packet.specs.Packet.{Attribute, spelled}

-- These octets are this attribute and then the rest, and its length fits its octet (RFC 2865 section 5).
pub record IsFront (attribute : Attribute) (octets rest : List ℕ) : Type 0 where
  pub joined : octets ≡ spelled attribute ++ rest
  pub fits : length attribute.value ≤ 253

-- What was split off the front of octets is an attribute, of this type, these octets and this value, and the rest
-- follows it (RFC 2865 section 5).
pub record IsSplit (octets : List ℕ) (kind : ℕ) (front value rest : List ℕ) : Type 0 where
  pub attribute : Attribute
  pub stands : IsFront attribute octets rest
  pub kind_is : kind ≡ attribute.kind
  pub front_is : front ≡ spelled attribute
  pub value_is : value ≡ attribute.value
