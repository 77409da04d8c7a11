use Rattle.std.proofs.Common.{◌≡◌, drop}
use Rattle.std.specs.List.{list_any}
use Rattle.mod_users.specs.Fits.{is_equal_to}
use Rattle.mod_users.proofs.fits.has_equal.Given as goal

abbrev pub invariant-loop-n : goal.invariant-loop-n
invariant-loop-n l = list_any (is_equal_to l.item) (drop l.n l.lists.request) ≡ list_any (is_equal_to l.item) l.lists.request
