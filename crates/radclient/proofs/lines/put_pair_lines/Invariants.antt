use Rattle.std.proofs.Common.{◌≡◌, ◌++◌, drop}
use Rattle.radclient.specs.Lines.{pair_lines}
use Rattle.radclient.proofs.lines.put_pair_lines.Given as goal

-- the lines so far and those of the pairs that are left are all
abbrev pub invariant-loop-n : goal.invariant-loop-n
invariant-loop-n l = l.text.items ++ pair_lines (drop l.n l.pairs.request) ≡ l.initial.text.items ++ pair_lines l.pairs.request
