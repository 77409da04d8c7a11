use Rattle.std.proofs.Common.{length}
use Rattle.mod_users.proofs.RowLemmas.{BuiltRows}
use Rattle.mod_users.proofs.row.rows_of.Given as goal

abbrev pub invariant-loop-draft : goal.invariant-loop-draft
invariant-loop-draft l = BuiltRows l.fn.drafts.items l.unread.items l.rows.items

abbrev pub decreases-loop-draft : goal.decreases-loop-draft
decreases-loop-draft l = length l.unread.items
