use Rattle.std.proofs.Common.{ap}
use Rattle.mod_filter.specs.Filter.{found, rules_in, filtered_by, filter_done}
use Rattle.mod_filter.proofs.Adding.{some_stay}
use Rattle.mod_filter.proofs.laws.filters_never_add_but_by_set.Goals as goal

pub returns : goal.returns
unfolding filter_done
returns c = record {
  adds = λ users key dict list lists attr free. some_stay attr users key dict list lists free;
  without = λ users key dict list lists none. ap (λ b. filtered_by b (rules_in (found users key)) dict list lists) none;
}
