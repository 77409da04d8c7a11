-- What the attributes of a packet say, as pairs: RFC 2865 sections 5, 5.2 and 5.26.
use Rattle.std.specs.Prelude.{ℕ, ◌==◌, ◌&&◌, if◌then◌else◌, List, [], ◌∷◌, length, map, take, drop}
use Rattle.std.specs.Int.{w32, from_be_bytes}
use Rattle.std.specs.List.{flat_map}
use Rattle.std.specs.Option.{option_map_or}
use Rattle.std.specs.Str.{bytes_eq}
use Rattle.rad_words.specs.declared.attributes.AttrId.{AttrId}
use Rattle.rad_words.specs.declared.attributes.Kind.{Kind}
use Rattle.rad_words.specs.declared.attributes.Kind.TheVariants as kinds
use Rattle.rad_words.specs.declared.attributes.Space.TheVariants.{Standard, Vendor}
use Rattle.rad_value.specs.declared.values.Pair.{Pair}
use Rattle.rad_value.specs.declared.values.Value.{Value}
use Rattle.rad_value.specs.declared.values.Value.TheVariants as values
use Rattle.rad_value.specs.PairLists.{PairLists}
use Rattle.rad_dict.specs.declared.definitions.AttrDef.{AttrDef}
use Rattle.rad_dict.specs.Definitions.{Definitions, definition_of}
use Rattle.rad_packet.specs.Packet.{Attribute, spelled, attributes_in, attributes_of, authenticator_of, code_of}
use Rattle.rad_packet.specs.Hiding.{is_hidden_length, revealed}
use Rattle.rad_wire.specs.Values.{value_of}

-- The attribute of this number among the standard ones, and among those of a vendor.
abbrev pub standard : ℕ → AttrId
standard number = record { space = Standard; number = number }

-- A vendor's attribute of this number (RFC 2865 section 5.26).
abbrev pub of_vendor : ℕ → ℕ → AttrId
of_vendor vendor number = record { space = Vendor vendor; number = number }

-- The kind of an attribute's values: that of its first definition, and octets where it has none.
abbrev pub kind_of : AttrId → Definitions → Kind
kind_of attr dict = option_map_or (λ (row : AttrDef). row.kind) (definition_of attr dict) kinds.Octets

-- The pair of an attribute and the octets of its value.
abbrev pub pair_of : AttrId → List ℕ → Definitions → Pair
pair_of attr octets dict = record { attr = attr; value = value_of (kind_of attr dict) octets }

-- The Vendor-Id at the front of the value of a Vendor-Specific attribute (RFC 2865 section 5.26).
abbrev pub vendor_of : List ℕ → ℕ
vendor_of octets = from_be_bytes w32 (take 4 octets)

-- What follows the Vendor-Id, where it is parts that are spelled as attributes are, one after another and nothing else,
-- and no parts where it isn't (RFC 2865 section 5.26).
abbrev pub vendor_parts : List ℕ → List Attribute
vendor_parts octets =
    let parts = attributes_in (length octets) (drop 4 octets) in
    if bytes_eq (flat_map spelled parts) (drop 4 octets) then parts else []

-- The pairs of a Vendor-Specific attribute: one for each part, or itself with its octets as they are where it has no
-- parts (RFC 2865 section 5.26).
abbrev pub vendor_pairs : List ℕ → Definitions → List Attribute → List Pair
vendor_pairs octets dict [] = record { attr = standard 26; value = values.Octets octets } ∷ []
vendor_pairs octets dict (part ∷ parts) =
    map (λ (p : Attribute). pair_of (of_vendor (vendor_of octets) p.kind) p.value dict) (part ∷ parts)

-- The value of a User-Password in an Access-Request: the password that it hides, or its octets as they are where they
-- can't hide one (RFC 2865 section 5.2).
abbrev pub password_of : List ℕ → List ℕ → List ℕ → Value
password_of octets secret authenticator =
    if is_hidden_length (length octets) then values.Text (revealed octets secret authenticator) else values.Octets octets

-- The pairs of one attribute of a packet. User-Password is type 2, Vendor-Specific 26, and Access-Request code 1.
unfoldable pub attribute_pairs : List ℕ → List ℕ → Definitions → Attribute → List Pair
attribute_pairs packet secret dict attribute =
    if attribute.kind == 26 then vendor_pairs attribute.value dict (vendor_parts attribute.value)
    else (if attribute.kind == 2 && code_of packet == 1
    then record { attr = standard 2; value = password_of attribute.value secret (authenticator_of packet) } ∷ []
    else pair_of (standard attribute.kind) attribute.value dict ∷ [])

-- The pairs of a packet, in the order of its attributes.
unfoldable pub pairs_of : List ℕ → List ℕ → Definitions → List Pair
pairs_of packet secret dict = flat_map (attribute_pairs packet secret dict) (attributes_of packet)

-- The three lists of a policy as a request begins: its pairs, no reply and nothing to control.
abbrev pub requested : List Pair → PairLists
requested pairs = record {
  request = pairs;
  reply = [];
  control = [];
}
