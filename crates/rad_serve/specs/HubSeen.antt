-- A hub as callers see it. This project's own.
use Rattle.std.specs.Prelude.{ℕ, List}
use Rattle.rad_core.specs.declared.entry.Entry.{Entry}
use Rattle.rad_build.specs.declared.fault.BuildFault.{BuildFault}
use Rattle.rad_site.specs.Site.{Site}

-- Its history, which exists in proofs alone, and what that goes out from: the session log and the path of it.
pub record HubSeen (L : Type 0) : Type 0 where
  pub history : List (Entry Site BuildFault)
  pub origin : L × List ℕ
