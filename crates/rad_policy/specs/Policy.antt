-- What a policy means. This project's own, after FreeRADIUS' radiusd.conf(5) and unlang(5).
use Rattle.std.specs.Prelude.{ℕ, ◌≡◌, ◌⊎◌, List, Bool, Option, Result, Ok, Err}
use Rattle.rad_outside.specs.Files.{File}
use Rattle.rad_packet.specs.declared.client.Client.{Client}
use Rattle.rad_packet.specs.Authentic.{IsAuthentic}
use Rattle.rad_policy.specs.declared.arrival.Arrived.{Arrived}
use Rattle.rad_policy.specs.declared.ending.Ending.{Ending}
use Rattle.rad_policy.specs.declared.ending.Ending.TheVariants.{Sent, Withheld, OutOfMemory}

-- What a site is built from: the map of its files, and its folder.
pub record Sources : Type 0 where
  pub files : List File
  pub folder : List ℕ

-- What a policy gives for a request: the octets of a reply, or none.
pub data Reply : Type 0 where
  Replies : (octets : List ℕ) → Reply
  Withholds : Reply

-- What a generation means. `access` takes the arrival, the moment, a luck word and the answers that devices give,
-- true for each that was done.
pub record Meaning (P F : Type 0) : Type 0 where
  pub built : Sources → Result P F
  pub memory_fault : F
  pub read_fault : F
  pub client : P → ℕ → Option Client
  pub has_server : P → List ℕ → Bool
  pub max_requests : P → ℕ
  pub cleanup_delay : P → ℕ
  pub access : P → Arrived → ℕ → ℕ → List Bool → Reply

-- A build answers what the sources mean, or their fault. Want of memory and a read fault say nothing of the sources.
abbrev pub IsBuilt : {P F : Type 0} → Meaning P F → Sources → Result P F → Type 0
IsBuilt meaning sources (Ok generation) = meaning.built sources ≡ Ok generation
IsBuilt meaning sources (Err fault) =
    (meaning.built sources ≡ Err fault) ⊎ ((fault ≡ meaning.memory_fault) ⊎ (fault ≡ meaning.read_fault))

-- The datagram is authentic under this generation.
abbrev pub IsAuthenticUnder : {P F : Type 0} → Meaning P F → P → Arrived → Type 0
IsAuthenticUnder meaning generation arrival =
    IsAuthentic arrival.bytes (meaning.client generation arrival.from.addr) arrival.kind

-- The policy gives this ending for an arrival under a generation, at this moment, with this luck word and these answers
-- of devices.
abbrev pub GivesEnding : {P F : Type 0} → Meaning P F → P → Arrived → ℕ → ℕ → List Bool → Ending → Type 0
GivesEnding meaning generation arrival moment luck answers (Sent octets) =
    meaning.access generation arrival moment luck answers ≡ Replies octets
GivesEnding meaning generation arrival moment luck answers Withheld =
    meaning.access generation arrival moment luck answers ≡ Withholds
GivesEnding meaning generation arrival moment luck answers OutOfMemory = Unit {0}
