-- What an Access-Accept says of the request that it answers. After RFC 2865 sections 3 and 4.
use Rattle.std.specs.Prelude.{ℕ, ◌≡◌, Bool, List, [], ◌∷◌, take}
use Rattle.mod_base.specs.Situation.{Situation}
use Rattle.rad_packet.specs.Packet.{packet_of, authenticator_of}
use Rattle.rad_wire.specs.Pairs.{pairs_of, requested}
use Rattle.rad_policy.specs.declared.arrival.Arrived.{Arrived}
use Rattle.rad_access.specs.Access.{authorized}
use Rattle.rad_site.specs.Site.{Site}
use Rattle.rad_site.specs.Request.{secret_of, begun_scope, begun_in}

-- The octets are those of an Access-Accept: the first one is 2.
abbrev pub IsAccessAccept : List ℕ → Type 0
IsAccessAccept octets = take 1 octets ≡ 2 ∷ []

-- The situation in which the policy of an arrival begins, at a moment, with a luck word and these answers of devices still to come.
abbrev pub begun_by : Site → Arrived → ℕ → ℕ → List Bool → Situation
begun_by site arrival moment luck answers =
    begun_in (begun_scope (requested (pairs_of (packet_of arrival.bytes) (secret_of site arrival.from.addr) site.dict)) arrival.from moment luck (authenticator_of (packet_of arrival.bytes))) answers

-- The situation behind its section authorize.
abbrev pub authorized_by : Site → Arrived → ℕ → ℕ → List Bool → Situation
authorized_by site arrival moment luck answers = (authorized site.policies site.dict arrival.server (begun_by site arrival moment luck answers)).0
