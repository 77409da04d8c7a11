-- How a worker leaves, and what its wire and its entries say then. This project's own.
use Rattle.std.specs.Prelude.{ℕ, ◌≡◌, ◌≤◌, ◌++◌, List, [], ◌∷◌, Option, Some, None, IsTrue}
use Rattle.std.specs.List.{AllByRecursion}
use Rattle.rad_outside.specs.declared.wire.Heard.{Heard}
use Rattle.rad_outside.specs.declared.wire.Heard.TheVariants as heard
use Rattle.rad_outside.specs.Telling.{Tells}
use Rattle.rad_outside.specs.Wire.{WireTold}
use Rattle.rad_core.specs.declared.seen.Seen.{Seen}
use Rattle.rad_core.specs.State.{ServerState}
use Rattle.rad_core.specs.declared.entry.Entry.TheVariants.{Look, Stop}
use Rattle.rad_core.specs.Worker.{Placed, At, OnlyServes}
use Rattle.rad_build.specs.declared.fault.BuildFault.{BuildFault}
use Rattle.rad_serve.specs.declared.left.Left.{Left}
use Rattle.rad_serve.specs.declared.left.Left.TheVariants as left
use Rattle.rad_site.specs.Site.{Site}
use Rattle.rad_serve.specs.Told.{KitTells}

-- The answer isn't that the wire ended.
abbrev pub IsOpen : Heard → Type 0
IsOpen (heard.Datagram octets from) = Unit {0}
IsOpen heard.Quiet = Unit {0}
IsOpen heard.Ended = ⊥
IsOpen heard.Failed = Unit {0}

-- The wire hasn't answered since that it ended.
abbrev pub StaysOpen : WireTold → WireTold → Type 0
StaysOpen before now = (answers : List Heard) × (now.heard ≡ before.heard ++ answers) × AllByRecursion IsOpen answers

-- The wire's last answer since is this one, and it hadn't answered before that it ended.
abbrev pub HearsLast : Heard → WireTold → WireTold → Type 0
HearsLast answer before now =
    (front : List Heard) × (now.heard ≡ before.heard ++ (front ++ answer ∷ [])) × AllByRecursion IsOpen front

-- The last of these entries is a look that shows a stop, and the first that does.
pub record SeesStop (mine : List (Placed Site BuildFault)) : Type 0 where
  pub front : List (Placed Site BuildFault)
  pub before : ServerState Site
  pub worker : ℕ
  pub seen : Seen
  pub last : mine ≡ front ++ At before (Look worker seen) ∷ []
  pub shows : IsTrue seen.stopped
  pub only : OnlyServes front

-- The last of these entries is a stop, and the only one.
pub record StopsLast (mine : List (Placed Site BuildFault)) : Type 0 where
  pub front : List (Placed Site BuildFault)
  pub before : ServerState Site
  pub worker : ℕ
  pub last : mine ≡ front ++ At before (Stop worker) ∷ []
  pub only : OnlyServes front

-- What its wire, as it was before and as it is now, and its entries say of a worker that left, or serves on. One that
-- has ended heard so last, and hadn't heard so before; one that was stopped heard nothing last, and its look, the last
-- entry, is the first that shows a stop; one that is deaf has a wire whose last 100 asks failed, and stopped the server.
-- No other stop and no load is among a worker's entries.
abbrev pub Leaves : {W K U : Type 0} → KitTells W K U → Option Left → W → W → List (Placed Site BuildFault) → Type 0
Leaves tells None before now mine = OnlyServes mine × Tells (tells.wire before) (tells.wire now) StaysOpen
Leaves tells (Some left.Ended) before now mine =
    OnlyServes mine × IsTrue (tells.has_ended now)
    × Tells (tells.wire before) (tells.wire now) (HearsLast heard.Ended)
Leaves tells (Some left.Stopped) before now mine =
    SeesStop mine × Tells (tells.wire before) (tells.wire now) (HearsLast heard.Quiet)
Leaves tells (Some left.Deaf) before now mine =
    StopsLast mine × (100 ≤ tells.failures now) × Tells (tells.wire before) (tells.wire now) StaysOpen
Leaves tells (Some left.Worn) before now mine = OnlyServes mine × Tells (tells.wire before) (tells.wire now) StaysOpen

-- A worker that left as its wire ended, or as the server was stopped.
abbrev pub IsAtEnd : Option Left → Type 0
IsAtEnd None = ⊥
IsAtEnd (Some left.Ended) = Unit {0}
IsAtEnd (Some left.Stopped) = Unit {0}
IsAtEnd (Some left.Deaf) = ⊥
IsAtEnd (Some left.Worn) = ⊥
