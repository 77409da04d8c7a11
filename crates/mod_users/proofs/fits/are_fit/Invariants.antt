use Rattle.std.proofs.Common.{◌≡◌, drop}
use Rattle.mod_users.specs.Fits.{are_fit}
use Rattle.mod_users.proofs.fits.are_fit.Given as goal

abbrev pub invariant-loop-n : goal.invariant-loop-n
invariant-loop-n l = are_fit (drop l.n l.items) l.lists.request l.dict ≡ are_fit l.items l.lists.request l.dict
