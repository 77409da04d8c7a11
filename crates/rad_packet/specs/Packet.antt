-- What a RADIUS packet is: RFC 2865 sections 3 and 5.
use Rattle.std.specs.Prelude.{ℕ, zero, suc, ◌≡◌, ◌+◌, ◌-◌, ◌*◌, ◌≤◌, List, [], ◌∷◌, length, take, drop, slice_index}
use Rattle.std.specs.List.{flat_map, AllByRecursion}

-- An attribute: its type, and the octets of its value.
pub record Attribute : Type 0 where
  pub kind : ℕ
  pub value : List ℕ

-- An attribute's octets: its type, its length, which counts all three fields, and its value (RFC 2865 section 5).
abbrev pub spelled : Attribute → List ℕ
spelled attribute = attribute.kind ∷ (length attribute.value + 2) ∷ attribute.value

-- These octets are these attributes, one after another, and each length fits its octet.
pub record AreAttributes (attributes : List Attribute) (octets : List ℕ) : Type 0 where
  pub joined : octets ≡ flat_map spelled attributes
  pub fit : AllByRecursion (λ a. length a.value ≤ 253) attributes

-- The fields of the header (RFC 2865 section 3): Code, Identifier, Length (two octets, the higher first), Authenticator.
abbrev pub code_of : List ℕ → ℕ
code_of octets = slice_index octets 0

-- The Identifier of a packet, its second octet (RFC 2865 section 3).
abbrev pub id_of : List ℕ → ℕ
id_of octets = slice_index octets 1

-- The Length of a packet, in its third and fourth octet, big-endian (RFC 2865 section 3).
abbrev pub length_of : List ℕ → ℕ
length_of octets = 256 * slice_index octets 2 + slice_index octets 3

-- The Authenticator of a packet, 16 octets behind its Length (RFC 2865 section 3).
abbrev pub authenticator_of : List ℕ → List ℕ
authenticator_of octets = take 16 (drop 4 octets)

-- A packet is a header of 20 octets and these attributes. Its Length counts all of it and is at most 4,096.
pub record IsPacket (attributes : List Attribute) (octets : List ℕ) : Type 0 where
  pub header : 20 ≤ length octets
  pub limit : length octets ≤ 4096
  pub counted : length_of octets ≡ length octets
  pub rest : AreAttributes attributes (drop 20 octets)

-- The octets are a packet.
abbrev pub IsWellFormed : List ℕ → Type 0
IsWellFormed octets = (attributes : List Attribute) × IsPacket attributes octets

-- The packet at the front of a datagram. What follows its Length is padding and is ignored (RFC 2865 section 3).
abbrev pub packet_of : List ℕ → List ℕ
packet_of datagram = take (length_of datagram) datagram

-- The attributes that octets hold, in order, read from the front for at most so many turns.
abbrev pub attributes_in : ℕ → List ℕ → List Attribute
attributes_in zero octets = []
attributes_in (suc turns) [] = []
attributes_in (suc turns) (kind ∷ []) = []
attributes_in (suc turns) (kind ∷ size ∷ rest) =
    record { kind = kind; value = take (size - 2) rest } ∷ attributes_in turns (drop (size - 2) rest)

-- The attributes of a packet, in order.
abbrev pub attributes_of : List ℕ → List Attribute
attributes_of octets = attributes_in (length octets) (drop 20 octets)
