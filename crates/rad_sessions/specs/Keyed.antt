-- How sessions are kept: each under its place, and shared. These words serve the crate's own clauses. This project's own.
use Rattle.std.specs.Prelude.{◌≡◌, ℕ, ◌≤◌, List, [], ◌∷◌, length, Option, Some, None}
use Rattle.std.specs.List.{AllByRecursion}
use Rattle.rad_sessions.specs.declared.session.Session.{Session}
use Rattle.rad_sessions.specs.declared.change.Change.{Change}
use Rattle.rad_sessions.specs.Listed.{place_of, after, limit}

module _ {V : Type 0} (session : V → Session) where
  -- The sessions of entries, in their order.
  abbrev pub sessions_of : List ((ℕ × ℕ) × V) → List Session
  sessions_of [] = []
  sessions_of (entry ∷ entries) = session entry.1 ∷ sessions_of entries

  -- Each session is kept under its place.
  abbrev pub AreKeyed : List ((ℕ × ℕ) × V) → Type 0
  AreKeyed entries = AllByRecursion (λ entry. entry.0 ≡ place_of (session entry.1)) entries

-- The sessions of a list that is shared, or none.
abbrev pub list_of : {V : Type 0} → (V → List Session) → Option V → List Session
list_of sessions None = []
list_of sessions (Some shared) = sessions shared

-- How many sessions more there are where one begins, by the session that stands at its place.
abbrev pub grown : Option Session → ℕ
grown None = 1
grown (Some session) = 0

-- A list that is ready to take another's place is that list after the change that it was made for, and isn't too long.
pub record IsReady (sessions : List Session) (change : Change) (ready : List Session) : Type 0 where
  pub is : ready ≡ after sessions change
  pub fits : length ready ≤ limit
