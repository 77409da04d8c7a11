use Rattle.std.proofs.Common.{rules, tests}
use Rattle.std.proofs.lemmas.Iterator.{YieldsList-from_slice}
use Rattle.std.proofs.lemmas.Iterator.Consumers.{nth_from_yields_List, YieldsList-from_filter}
use Rattle.rad_value.specs.Pairs.{is_of}
use Rattle.rad_value.proofs.listed.nth_pair.Goals as goal

pub returns : goal.returns
returns c =
    nth_from_yields_List c.nth.result c.nth.new.self c.args.n c.nth.ensures.ran (YieldsList-from_filter _ (is_of c.args.attr) (YieldsList-from_slice c.args.pairs.now cc) c.filter.ensures.closure (λ x b q k. search (rules, tests)))
