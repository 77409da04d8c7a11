use Rattle.std.proofs.Common.{◌≡◌, ◌++◌, drop}
use Rattle.radwho.specs.Lines.{lines_of}
use Rattle.radwho.proofs.listing.lines_of.Given as goal

abbrev pub invariant-loop-index : goal.invariant-loop-index
invariant-loop-index l = l.text.items ++ lines_of l.wanted (drop l.index l.sessions) ≡ lines_of l.wanted l.sessions
