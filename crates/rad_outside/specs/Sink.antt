-- What a sink tells: the octets that were written. This project's own.
use Rattle.std.specs.Prelude.{ℕ, ◌≡◌, ◌≤◌, ◌++◌, List, length, take, Result, MatchResult}
use Rattle.rad_outside.specs.declared.fault.Failed.{Failed}

-- These octets were written whole, or after a failure a prefix of them.
abbrev pub Writes : List ℕ → Result (Unit {0}) Failed → List ℕ → List ℕ → Type 0
Writes octets result before now =
    (written : ℕ) × (now ≡ before ++ take written octets)
    × MatchResult result (λ _. written ≡ length octets) (λ _. written ≤ length octets)
