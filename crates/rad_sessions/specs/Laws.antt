-- What can be written to the log, and what is read of it. This project's own.
use Rattle.std.specs.Prelude.{ℕ, ◌<◌, ◌^◌, List}
use Rattle.std.specs.List.{AllByRecursion}
use Rattle.rad_sessions.specs.declared.session.Session.{Session}
use Rattle.rad_sessions.specs.declared.change.Change.{Change}
use Rattle.rad_sessions.specs.declared.change.Change.TheVariants.{Begin, Renew, End, Clear}

-- Each number is an octet.
abbrev pub AreOctets : List ℕ → Type 0
AreOctets octets = AllByRecursion (λ b. b < 256) octets

-- The fields of a session are of their types: 32 bits, 64 bits for its beginning, and octets.
pub record IsSession (session : Session) : Type 0 where
  pub nas : session.nas < 2 ^ 32
  pub port : session.port < 2 ^ 32
  pub framed : session.framed < 2 ^ 32
  pub since : session.since < 2 ^ 64
  pub user : AreOctets session.user
  pub id : AreOctets session.id

-- The fields of a change are of their types.
abbrev pub IsChange : Change → Type 0
IsChange (Begin session) = IsSession session
IsChange (Renew nas port framed) = (nas < 2 ^ 32) × (port < 2 ^ 32) × (framed < 2 ^ 32)
IsChange (End nas port) = (nas < 2 ^ 32) × (port < 2 ^ 32)
IsChange (Clear nas) = nas < 2 ^ 32
