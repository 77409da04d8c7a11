-- Moments, in seconds since 1970-01-01 00:00:00 UTC. The bound is this project's own.
use Rattle.std.specs.Prelude.{ℕ, ◌≤◌}

-- The last moment that the server counts to, 9892-03-08 12:26:40 UTC.
abbrev pub last_moment : ℕ
last_moment = 250000000000

-- A moment up to the last.
abbrev pub IsInTime : ℕ → Type 0
IsInTime moment = moment ≤ last_moment
