use Rattle.mod_users.proofs.RowLemmas.{items_start, items_go_on, items_end}
use Rattle.mod_users.proofs.row.ready_items.Goals as goal

pub loop-placed-init : goal.loop-placed-init
loop-placed-init c = rw (c.new-items.ensures.items, c.new-patterns.ensures.items, c.reverse.ensures.items, c.into_vec-unread.ensures) (items_start c.args.placed)

pub loop-placed-preserved : goal.loop-placed-preserved
loop-placed-preserved c =
    let l = c.loop-placed in
    rw (c.in_ok-keep-in-Ok.ensures.items, c.in_ok-keep-in-Ok.ensures.patterns)
    (items_go_on c.args.placed l.unread.items c.pop.new.self.items l.items.items l.patterns.items c.in-Some.placed c.in-Ok.regex l.invariant c.in-Some.ensures.items c.in-Ok.ensures.ready)

pub returns-in-Err-clause-refused : goal.returns-in-Err-clause-refused
returns-in-Err-clause-refused c =
    let l = c.loop-placed in
    items_end c.in-Err.error c.args.placed l.unread.items c.pop.new.self.items l.items.items l.patterns.items c.in-Some.placed l.invariant c.in-Some.ensures.items c.in-Err.ensures.refused
