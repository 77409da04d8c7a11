use Rattle.rad_wire.specs.Draft.{frame_in}
use Rattle.rad_wire.proofs.Drafts.{Asks}
use Rattle.rad_wire.proofs.draft.asked.Given as goal

abbrev pub invariant-loop-n : goal.invariant-loop-n
invariant-loop-n l = Asks (frame_in l.asking) l.value l.lists.request l.n l.draft
