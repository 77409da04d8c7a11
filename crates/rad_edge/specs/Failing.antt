-- The calls of a form in memory that are to fail, by their numbers, counted from 1. This project's own.
use Rattle.std.specs.Prelude.{ℕ, ◌+◌, ◌==◌, Bool, List, Option}
use Rattle.std.specs.List.{find, list_any}
use Rattle.std.specs.Option.{option_map}
use Rattle.rad_edge.specs.Memory.{risen}

-- The calls that are to fail, and how many calls were made, up to the end of 64 bits.
pub record Plan (C : Type 0) : Type 0 where
  pub failing : List C
  pub made : ℕ

-- The plan after one more call.
abbrev pub called : {C : Type 0} → Plan C → Plan C
called plan = record { failing = plan.failing; made = risen plan.made }

-- Whether the call after so many has this number.
abbrev pub is_next : ℕ → ℕ → Bool
is_next made number = number == made + 1

-- Whether the next call is to fail, where the plan has the numbers.
abbrev pub fails_next : Plan ℕ → Bool
fails_next plan = list_any (is_next plan.made) plan.failing

-- How many octets the next append still appends where it is to fail, where the plan has these with the numbers.
-- Where a number stands twice, the first counts.
abbrev pub next_cut : Plan (ℕ × ℕ) → Option ℕ
next_cut plan = option_map (λ cut. cut.1) (find (λ cut. is_next plan.made cut.0) plan.failing)
