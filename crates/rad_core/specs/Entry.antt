-- The entries of a history: what was asked of the core, and what it answered. This project's own.
use Rattle.std.specs.Prelude.{ℕ}
pub use Rattle.rad_core.specs.declared.entry.Entry.{Entry}
pub use Rattle.rad_core.specs.declared.entry.Entry.TheVariants.{Start, Finish, Install, Look, Stop}

-- Whose entry it is.
abbrev pub worker_of : {P F : Type 0} → Entry P F → ℕ
worker_of (Start arrival answer) = arrival.worker
worker_of (Finish worker place ending) = worker
worker_of (Install worker load listeners answer) = worker
worker_of (Look worker seen) = worker
worker_of (Stop worker) = worker
