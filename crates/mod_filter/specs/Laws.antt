-- What an operator relies on in a filter. This project's own, after rlm_attr_filter(5).
use Rattle.std.specs.Prelude.{◌≡◌, Bool, List, filter}
use Rattle.rad_value.specs.declared.values.Pair.{Pair}

-- Some of these pairs, in their order: those that pass a test.
pub record AreSomeOf (some all : List Pair) : Type 0 where
  pub test : Pair → Bool
  pub same : some ≡ filter test all
