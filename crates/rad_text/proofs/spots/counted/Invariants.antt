use Rattle.std.proofs.Common.{◌≡◌, ◌≤◌, drop}
use Rattle.rad_text.specs.Spots.{counted}
use Rattle.rad_text.proofs.spots.counted.Given as goal

abbrev pub invariant-loop-octet : goal.invariant-loop-octet
invariant-loop-octet l = record {
  so_far : counted (l.lines, l.columns) (drop l.octet-index l.text) ≡ counted (0, 0) l.text;
  lines : l.lines ≤ l.octet-index;
  columns : l.columns ≤ l.octet-index;
}
