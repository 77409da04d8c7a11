use Rattle.std.proofs.Common.{◌≡◌, [], rules}
use Rattle.mod_users.proofs.RowLemmas.{rows_start, rows_go_on, rows_end, rows_done, rows_length}
use Rattle.mod_users.proofs.row.rows_of.Goals as goal

pub loop-draft-init : goal.loop-draft-init
loop-draft-init c = rw (c.new-rows.ensures.items, c.reverse.ensures.items) (rows_start c.args.drafts.items)

pub loop-draft-preserved : goal.loop-draft-preserved
loop-draft-preserved c =
    let l = c.loop-draft in
    rw c.in_ok-push-in-Ok.ensures.items
    (rows_go_on c.args.drafts.items l.unread.items c.pop.new.self.items l.rows.items c.in-Some.draft c.in-Ok.row l.invariant c.in-Some.ensures.items c.in-Ok.ensures.ready)

pub returns-in-Err-clause-refused : goal.returns-in-Err-clause-refused
returns-in-Err-clause-refused c =
    let l = c.loop-draft in
    rows_end c.in-Err.error c.args.drafts.items l.unread.items c.pop.new.self.items l.rows.items c.in-Some.draft l.invariant c.in-Some.ensures.items c.in-Err.ensures.refused

pub returns-clause-bound : goal.returns-clause-bound
returns-clause-bound c =
    let l = c.loop-draft in
    let none : l.unread.items ≡ [] = search rules in
    rows_length c.args.drafts.items l.rows.items (rows_done c.args.drafts.items l.rows.items (rw none at l.invariant))
