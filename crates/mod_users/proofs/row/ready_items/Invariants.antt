use Rattle.std.proofs.Common.{length}
use Rattle.mod_users.proofs.RowLemmas.{Built}
use Rattle.mod_users.proofs.row.ready_items.Given as goal

abbrev pub invariant-loop-placed : goal.invariant-loop-placed
invariant-loop-placed l = Built l.fn.placed l.unread.items l.items.items l.patterns.items

abbrev pub decreases-loop-placed : goal.decreases-loop-placed
decreases-loop-placed l = length l.unread.items
