-- What vouches for a packet: its authenticator where that is a digest (RFC 2865 section 3, RFC 2866 section 3), and the
-- attribute Message-Authenticator (RFC 3579 section 3.2).
use Rattle.std.specs.Prelude.{ℕ, ◌≡◌, ◌≢◌, ◌≤◌, ◌==◌, ◌⊎◌, if◌then◌else◌, List, [], ◌∷◌, ◌++◌, length, take, drop, map, filter, replicate, Any}
use Rattle.std.specs.List.{flat_map}
use Rattle.md5.specs.Md5.{md5}
use Rattle.rad_packet.specs.Hmac.{hmac_md5}
use Rattle.rad_packet.specs.Packet.{Attribute, spelled, attributes_of}

-- The digest of a packet with these 16 octets in the place of its authenticator: the MD5 of Code, Identifier, Length,
-- those octets, attributes and secret. With the Request Authenticator it is the Response Authenticator (RFC 2865 section 3).
abbrev pub digest_with : List ℕ → List ℕ → List ℕ → List ℕ
digest_with packet authenticator secret = md5 (take 4 packet ++ authenticator ++ drop 20 packet ++ secret)

-- The authenticator of an Accounting-Request: that digest with sixteen zero octets (RFC 2866 section 3).
abbrev pub accounting_authenticator : List ℕ → List ℕ → List ℕ
accounting_authenticator packet secret = digest_with packet (replicate 16 0) secret

-- An attribute as it is signed: a Message-Authenticator has sixteen zero octets (RFC 3579 section 3.2).
abbrev pub zeroed : Attribute → Attribute
zeroed attribute =
    if attribute.kind == 80 then record { kind = attribute.kind; value = replicate 16 0 } else attribute

-- The value of Message-Authenticator in a packet: the HMAC-MD5, under the secret, of Code, Identifier, Length, the
-- Request Authenticator and the attributes, its own value as sixteen zero octets (RFC 3579 section 3.2).
abbrev pub message_authenticator : List ℕ → List ℕ → List ℕ → List ℕ
message_authenticator packet authenticator secret =
    hmac_md5 secret (take 4 packet ++ authenticator ++ flat_map spelled (map zeroed (attributes_of packet)))

-- The attributes of this type, in order.
abbrev pub of_kind : ℕ → List Attribute → List Attribute
of_kind kind attributes = filter (λ (a : Attribute). a.kind == kind) attributes

-- The Message-Authenticator attributes of a packet, in order.
abbrev pub message_authenticators : List ℕ → List Attribute
message_authenticators packet = of_kind 80 (attributes_of packet)

-- A packet is intact under a secret and the authenticator of its request: it has no Message-Authenticator, or one, and that
-- has the right value (RFC 3579 section 3.2).
abbrev pub IsIntact : List ℕ → List ℕ → List ℕ → Type 0
IsIntact packet authenticator secret =
    (message_authenticators packet ≡ [])
    ⊎ (message_authenticators packet ≡ record { kind = 80; value = message_authenticator packet authenticator secret } ∷ [])

-- A packet isn't intact: it has Message-Authenticator twice or more, or one whose value isn't the right one. A value of
-- other than 16 octets never is (RFC 3579 section 3.2).
abbrev pub IsTampered : List ℕ → List ℕ → List ℕ → Type 0
IsTampered packet authenticator secret =
    (2 ≤ length (message_authenticators packet))
    ⊎ Any (λ (a : Attribute). a.value ≢ message_authenticator packet authenticator secret) (message_authenticators packet)
