use Rattle.std.proofs.Common.{sym, ◌∙◌}
use Rattle.mod_filter.proofs.Ruling.{found_on, found_ends}
use Rattle.mod_filter.proofs.rules.rules_for.Goals as goal

pub returns-then-not-branch-clause-found : goal.returns-then-not-branch-clause-found
returns-then-not-branch-clause-found c =
    let loop = c.loop-n in
    let at = sym c.in-Some.ensures in
    let taken = c.in_ok-take_entry.ensures in
    (found_ends c.args.users.now c.args.key.now loop.n loop.made.found c.take_entry.new.made.found loop.made.rules.items c.take_entry.new.made.rules.items c.in-Some.entry.now at loop.invariant
    (sym taken.more ∙ c.if-not-branch.true) taken.found (taken.rules c.args.users.now at)).0

pub returns-then-not-branch-clause-rules : goal.returns-then-not-branch-clause-rules
returns-then-not-branch-clause-rules c =
    let loop = c.loop-n in
    let at = sym c.in-Some.ensures in
    let taken = c.in_ok-take_entry.ensures in
    (found_ends c.args.users.now c.args.key.now loop.n loop.made.found c.take_entry.new.made.found loop.made.rules.items c.take_entry.new.made.rules.items c.in-Some.entry.now at loop.invariant
    (sym taken.more ∙ c.if-not-branch.true) taken.found (taken.rules c.args.users.now at)).1

pub loop-n-preserved : goal.loop-n-preserved
loop-n-preserved c =
    let loop = c.loop-n in
    let at = sym c.in-Some.ensures in
    let taken = c.in_ok-take_entry.ensures in
    found_on c.args.users.now c.args.key.now loop.n loop.made.found c.take_entry.new.made.found loop.made.rules.items c.take_entry.new.made.rules.items c.in-Some.entry.now at loop.invariant
    (sym taken.more ∙ c.if-not-branch.false) taken.found (taken.rules c.args.users.now at)
