use Rattle.std.proofs.Common.{◌≡◌, is_some, sym, ap, ◌∙◌, rules, tests}
use Rattle.std.specs.List.{position}
use Rattle.std.proofs.lemmas.Iterator.{YieldsList-from_slice}
use Rattle.std.proofs.lemmas.Iterator.Search.{position_from_yields_List}
use Rattle.rad_value.specs.Pairs.{is_of}
use Rattle.rad_value.proofs.Positions.{list_any-position}
use Rattle.rad_value.proofs.listed.first_of.Goals as goal

pub returns-clause-found : goal.returns-clause-found
returns-clause-found c =
    let p = is_of c.args.attr in
    let place : c.position.result ≡ position p c.args.pairs.now = position_from_yields_List p _ _ c.position.result c.position.ensures.ran (YieldsList-from_slice c.args.pairs.now cc) (λ x b q k. search (rules, tests)) in
    ap is_some place ∙ sym (list_any-position p c.args.pairs.now)
