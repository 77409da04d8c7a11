use Rattle.std.proofs.Common.{length}
use Rattle.mod_users.specs.Items.{items_of}
use Rattle.mod_users.proofs.ItemTurns.{Enough}
use Rattle.mod_users.proofs.items.items_of.Given as goal

abbrev pub invariant-loop-rest : goal.invariant-loop-rest
invariant-loop-rest l = Enough l.form l.dict l.number l.width l.items.items l.rest (items_of l.form l.parted l.number l.width l.text l.dict)

abbrev pub decreases-loop-rest : goal.decreases-loop-rest
decreases-loop-rest l = length l.rest
