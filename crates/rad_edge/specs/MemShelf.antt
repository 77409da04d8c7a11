-- A shelf in memory: what it tells, its count of faults and the appends that are to fail. This project's own.
use Rattle.std.specs.Prelude.{ℕ, ◌≡◌, ◌-◌, ◌++◌, ◌⊎◌, min, List, [], ◌∷◌, length, Option, Some, None, is_some, Result, IsErr, is_err}
use Rattle.std.specs.Option.{option_map}
use Rattle.rad_edge.specs.Memory.{faults_after}
use Rattle.rad_edge.specs.Failing.{Plan, next_cut, called}
use Rattle.rad_outside.specs.declared.shelf.Append.{Append}
use Rattle.rad_outside.specs.declared.fault.Failed.{Failed}

-- What it tells, its count of faults, and which appends are to fail.
pub record ShelfState : Type 0 where
  pub told : Option (List Append)
  pub faults : ℕ
  pub appends : Plan (ℕ × ℕ)

-- How many octets of a piece are appended: all, or those that a planned failure leaves, cut to one below the piece's length.
abbrev pub count_written : Option ℕ → List ℕ → ℕ
count_written None piece = length piece
count_written (Some count) piece = min count (length piece - 1)

-- What the shelf is after an append that it tells.
abbrev pub after_append : ShelfState → List ℕ → List ℕ → Result (Unit {0}) Failed → ShelfState
after_append shelf path piece result = record {
  told = option_map (λ told. told ++ record { path = path; piece = piece; written = count_written (next_cut shelf.appends) piece } ∷ []) shelf.told;
  faults = faults_after result shelf.faults;
  appends = called shelf.appends;
}

-- The same shelf, but it tells nothing.
abbrev pub untold : ShelfState → ShelfState
untold shelf = record shelf { told = None }

-- An append fails exactly where it is to fail, and is told. For want of memory for the record it fails too, and the shelf tells nothing from then on.
abbrev pub AppendsNext : List ℕ → List ℕ → ShelfState → Result (Unit {0}) Failed → ShelfState → Type 0
AppendsNext path piece before result now =
    ((is_err result ≡ is_some (next_cut before.appends)) × (now ≡ after_append before path piece result))
    ⊎ (IsErr result × (now ≡ untold (after_append before path piece result)))
