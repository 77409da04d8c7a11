use Rattle.std.proofs.Common.{◌≡◌, ◌+◌, ◌≤◌, cond, eqb, drop}
use Rattle.rad_text.specs.Paths.{folder_len}
use Rattle.rad_text.proofs.paths.folder_len.Given as goal

abbrev pub invariant-loop-i : goal.invariant-loop-i
invariant-loop-i l = record {
  so_far : cond (eqb (folder_len (drop l.i l.path)) 0) l.len (l.i + folder_len (drop l.i l.path)) ≡ folder_len l.path;
  within : l.len ≤ l.i;
}
