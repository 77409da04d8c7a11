-- Which answers of the wire are the reply that a request waits for: RFC 2865 section 3, RFC 2866 section 3, RFC 3579
-- section 3.2.
use Rattle.std.specs.Prelude.{ℕ, ◌==◌, ◌&&◌, ◌||◌, Bool, true, false, not, List, [], ◌∷◌, length, drop, nat_le, if◌then◌else◌}
use Rattle.std.specs.List.{flat_map, list_all}
use Rattle.std.specs.Str.{bytes_eq}
use Rattle.rad_outside.specs.declared.listen.Peer.{Peer}
use Rattle.rad_outside.specs.declared.wire.Heard.{Heard}
use Rattle.rad_outside.specs.declared.wire.Heard.TheVariants as heard
use Rattle.rad_packet.specs.Packet.{Attribute, attributes_of, authenticator_of, code_of, id_of, length_of, packet_of, spelled}
use Rattle.rad_packet.specs.Signatures.{digest_with, message_authenticator, message_authenticators}
use Rattle.rad_wire.specs.Accepts.{is_reply_code}
use Rattle.radclient.specs.declared.asked.Asked.{Asked}

-- Whether the octets are a packet: a header, a Length that is their number, and attributes that fill them (RFC 2865
-- section 3).
abbrev pub is_packet : List ℕ → Bool
is_packet octets =
    nat_le 20 (length octets) && nat_le (length octets) 4096 && (length_of octets == length octets)
    && bytes_eq (flat_map spelled (attributes_of octets)) (drop 20 octets)
    && list_all (λ (a : Attribute). nat_le (length a.value) 253) (attributes_of octets)

-- Whether these Message-Authenticator attributes of a packet vouch for it: there is none, or one of this value (RFC 3579
-- section 3.2).
abbrev pub vouch : List ℕ → List Attribute → Bool
vouch value [] = true
vouch value (attribute ∷ []) = bytes_eq attribute.value value
vouch value (attribute ∷ second ∷ more) = false

-- Whether a reply is accepted for a request under a secret, as a test that can be computed.
unfoldable pub is_accepted : List ℕ → List ℕ → List ℕ → Bool
is_accepted request reply secret =
    is_packet (packet_of reply) && is_reply_code (code_of request) (code_of reply) && (id_of reply == id_of request)
    && bytes_eq (authenticator_of (packet_of reply)) (digest_with (packet_of reply) (authenticator_of request) secret)
    && (not (code_of request == 1)
    || vouch (message_authenticator (packet_of reply) (authenticator_of request) secret) (message_authenticators (packet_of reply)))

-- Whether two addresses with ports are the same.
abbrev pub is_peer : Peer → Peer → Bool
is_peer one other = one.addr == other.addr && one.port == other.port

-- What an answer of the wire is to a request: the reply that it waits for, another answer, or the wire's failure.
pub data Judged : Type 0 where
  Reply : (octets : List ℕ) → Judged
  Other : Judged
  Broken : Judged

-- A datagram from the server that is accepted is the reply; any other datagram isn't, nor that nothing came for a while,
-- nor that the wire ended (radclient(1)).
abbrev pub judged : Asked → List ℕ → Heard → Judged
judged asked request (heard.Datagram octets from) =
    if is_peer from asked.server && is_accepted request octets asked.secret then Reply octets else Other
judged asked request heard.Quiet = Other
judged asked request heard.Ended = Other
judged asked request heard.Failed = Broken
