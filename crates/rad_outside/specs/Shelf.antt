-- What a shelf tells: the pieces that were handed to it, in order. This project's own.
use Rattle.std.specs.Prelude.{ℕ, ◌≡◌, ◌<◌, ◌++◌, List, [], ◌∷◌, length, take, Result, MatchResult}
use Rattle.std.specs.List.{flat_map}
use Rattle.std.specs.Str.{bytes_eq}
use Rattle.std.specs.Prelude.{if◌then◌else◌}
use Rattle.rad_outside.specs.declared.shelf.Append.{Append}
use Rattle.rad_outside.specs.declared.fault.Failed.{Failed}

-- One more piece was handed in. It was appended whole, or after a failure a proper prefix of it.
abbrev pub Appends : List ℕ → List ℕ → Result (Unit {0}) Failed → List Append → List Append → Type 0
Appends path piece result before now =
    (written : ℕ) × (now ≡ before ++ record { path = path; piece = piece; written = written } ∷ [])
    × MatchResult result (λ _. written ≡ length piece) (λ _. written < length piece)

-- What these appends have put into the file at a path.
abbrev pub octets_on : List ℕ → List Append → List ℕ
octets_on path appends =
    flat_map (λ (a : Append). if bytes_eq a.path path then take a.written a.piece else []) appends
