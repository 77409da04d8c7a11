use Rattle.std.proofs.Common.{◌≡◌, ◌++◌, List, ℕ, length}
use Rattle.std.specs.Option.{option_map}
use Rattle.rad_pairs.specs.ValueReading.{digit_pairs}
use Rattle.rad_pairs.proofs.value_reading.digit_pairs.Given as goal

abbrev pub invariant-loop-first : goal.invariant-loop-first
invariant-loop-first l = option_map (λ (octets : List ℕ). l.octets.items ++ octets) (digit_pairs l.rest) ≡ digit_pairs l.text

abbrev pub decreases-loop-first : goal.decreases-loop-first
decreases-loop-first l = length l.rest
