use Rattle.mod_auth.proofs.Differences.{same_of_one_length}
use Rattle.mod_auth.proofs.compare.is_same.Goals as goal

pub returns-then-one-other : goal.returns-then-one-other
returns-then-one-other c = rw c.differences.ensures (same_of_one_length c.args.one.now c.args.other.now c.if-one-other.true)
