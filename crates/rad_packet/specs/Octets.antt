-- The octets of a reply: RFC 2865 sections 3 and 5.33.
use Rattle.std.specs.Prelude.{ℕ, ◌≡◌, ◌==◌, ◌+◌, ◌/◌, ◌%◌, List, [], ◌∷◌, ◌++◌, length, filter}
use Rattle.std.specs.List.{flat_map}
use Rattle.md5.specs.Md5.{md5}
use Rattle.rad_packet.specs.Packet.{Attribute, spelled, code_of, id_of, attributes_of, IsWellFormed}
use Rattle.rad_packet.specs.declared.checking.Checked.{Checked}

-- Code, Identifier and Length of a reply whose attributes are these octets.
abbrev pub reply_head : ℕ → ℕ → List ℕ → List ℕ
reply_head code id body = code ∷ id ∷ ((20 + length body) / 256) ∷ ((20 + length body) % 256) ∷ []

-- The Response Authenticator: the MD5 of Code, Identifier, Length, Request Authenticator, attributes and secret.
abbrev pub response_authenticator : ℕ → ℕ → List ℕ → List ℕ → List ℕ → List ℕ
response_authenticator code id authenticator body secret =
    md5 (reply_head code id body ++ authenticator ++ body ++ secret)

-- A reply to the request of this Identifier and Request Authenticator, with these octets as its attributes.
abbrev pub signed_reply : ℕ → ℕ → List ℕ → List ℕ → List ℕ → List ℕ
signed_reply code id authenticator body secret =
    reply_head code id body ++ response_authenticator code id authenticator body secret ++ body

-- The octets of the Proxy-State attributes among these, unchanged and in order (RFC 2865 section 5.33).
abbrev pub proxy_octets : List Attribute → List ℕ
proxy_octets attributes = flat_map spelled (filter (λ (a : Attribute). a.kind == 33) attributes)

-- The request's Proxy-State attributes, unchanged and in order (RFC 2865 section 5.33).
abbrev pub proxy_states : List ℕ → List ℕ
proxy_states request = proxy_octets (attributes_of request)

-- A checked packet is well formed, and its code and identifier are its first two octets.
pub record IsChecked (packet : Checked) : Type 0 where
  pub code : packet.code ≡ code_of packet.octets.now
  pub id : packet.id ≡ id_of packet.octets.now
  pub well_formed : IsWellFormed packet.octets.now
