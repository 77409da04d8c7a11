-- The octets of a reply: RFC 2865 sections 3, 5, 5.26 and 5.33.
use Rattle.std.specs.Prelude.{ℕ, ◌==◌, ◌||◌, ◌-◌, Bool, nat_lt, if◌then◌else◌, List, [], ◌∷◌, ◌++◌, length, take, filter}
use Rattle.std.specs.Int.{w32, to_be_bytes}
use Rattle.std.specs.List.{flat_map}
use Rattle.rad_words.specs.declared.attributes.Space.{Space}
use Rattle.rad_words.specs.declared.attributes.Space.TheVariants.{Standard, Vendor, Internal}
use Rattle.rad_value.specs.declared.values.Pair.{Pair}
use Rattle.rad_packet.specs.Packet.{Attribute, spelled, attributes_of, authenticator_of, id_of}
use Rattle.rad_packet.specs.Octets.{proxy_states, signed_reply}
use Rattle.rad_wire.specs.Values.{octets_of}

-- Whether a reply carries no standard attribute of this number from its list: User-Password, CHAP-Password, Proxy-State
-- and Message-Authenticator, and what has no number of one octet.
abbrev pub is_left_out : ℕ → Bool
is_left_out number = nat_lt 255 number || number == 2 || number == 3 || number == 33 || number == 80

-- The attribute that a reply carries for an attribute of this space and number with these octets, in a list, and none
-- where it is left out. A value is cut at 253 octets. A vendor's attribute is the one part of a Vendor-Specific
-- attribute, and its value is cut at 247 octets. Internal attributes aren't sent (RFC 2865 sections 5 and 5.26).
abbrev pub sent_attributes : Space → ℕ → List ℕ → List Attribute
sent_attributes Standard number octets =
    if is_left_out number then [] else record { kind = number; value = take 253 octets } ∷ []
sent_attributes (Vendor vendor) number octets =
    if nat_lt 255 number then []
    else record { kind = 26; value = to_be_bytes w32 vendor ++ spelled (record { kind = number; value = take 247 octets }) } ∷ []
sent_attributes Internal number octets = []

-- The attribute that a reply carries for a pair, in a list, and none where the pair is left out.
unfoldable pub attributes_for : Pair → List Attribute
attributes_for pair = sent_attributes pair.attr.space pair.attr.number (octets_of pair.value)

-- The attributes before the first that doesn't fit into this room, in octets.
unfoldable pub fitting : ℕ → List Attribute → List Attribute
fitting room [] = []
fitting room (attribute ∷ others) =
    if nat_lt room (length (spelled attribute)) then []
    else attribute ∷ fitting (room - length (spelled attribute)) others

-- The request's Proxy-State attributes, in order (RFC 2865 section 5.33).
abbrev pub proxy_state_attributes : List ℕ → List Attribute
proxy_state_attributes request = filter (λ (a : Attribute). a.kind == 33) (attributes_of request)

-- The room for the pairs of a reply: 4,096 octets less the header and less the request's Proxy-State attributes.
abbrev pub room_beside : List ℕ → ℕ
room_beside request = 4096 - 20 - length (proxy_states request)

-- The attributes of a reply: those of its pairs up to the first that doesn't fit, then the request's Proxy-State
-- attributes, unchanged and in order (RFC 2865 section 5.33).
unfoldable pub reply_attributes : List Pair → List ℕ → List Attribute
reply_attributes pairs request =
    fitting (room_beside request) (flat_map attributes_for pairs) ++ proxy_state_attributes request

-- The reply of a code with these pairs to a request (RFC 2865 section 3).
unfoldable pub reply_octets : ℕ → List Pair → List ℕ → List ℕ → List ℕ
reply_octets code pairs request secret =
    signed_reply code (id_of request) (authenticator_of request) (flat_map spelled (reply_attributes pairs request)) secret
