use Rattle.std.proofs.Common.{◌≡◌, drop}
use Rattle.radclient.specs.Groups.{with_items}
use Rattle.radclient.proofs.groups.add_items.Given as goal

-- the group with the items that are left is the group with all
abbrev pub invariant-loop-n : goal.invariant-loop-n
invariant-loop-n l = with_items l.initial.pairs l.items ≡ with_items l.pairs (drop l.n l.items)
