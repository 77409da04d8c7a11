use Rattle.std.proofs.Common.{◌≡◌, false, IsTrue, true, rules}
use Rattle.rad_value.specs.Edit.{has_attr}
use Rattle.rad_value.proofs.listed.add_if_none.Goals as goal

pub returns-in-None-clause-full : goal.returns-in-None-clause-full
returns-in-None-clause-full c =
    let found = c.in-None.ensures.found in
    let none : has_attr c.args.edit.now.attr c.args.pairs.now.items ≡ false = cc in
    let added : IsTrue true = search rules in
    λ n. (λ e. let was = (c.append.ensures.full n).0 e in (was.0, was.1, rw none added), λ full. (c.append.ensures.full n).1 (full.0, full.1, added))
