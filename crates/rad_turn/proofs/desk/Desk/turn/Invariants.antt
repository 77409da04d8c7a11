use Rattle.std.proofs.Common.{◌∷◌, []}
use Rattle.rad_turn.proofs.desk.Desk.turn.Given as goal

-- the entry that the step made
abbrev pub ghosts-give : goal.ghosts-give
ghosts-give g a = record { entries = g.M.Move.entry a._done.now.was.value a._done.now.before.value a._done.now.reply a._done.now.after.value a._step.now ∷ [] }
