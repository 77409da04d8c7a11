use Rattle.std.proofs.Common.{◌≤◌, drop}
use Rattle.rad_outside.specs.Telling.{Tells}
use Rattle.rad_policy.specs.Policy.{Sources}
use Rattle.rad_build.specs.ModulesBlock.{with_module}
use Rattle.rad_build.proofs.FileTurns.{Reads}
use Rattle.rad_build.proofs.modules.with_items.Given as goal

abbrev pub invariant-loop-item : goal.invariant-loop-item
invariant-loop-item g l = record {
  read : Tells (g.F.Files.told l.initial.files) (g.F.Files.told l.files) (Reads l.dir (λ (sources : Sources). with_module sources l.dict) l.initial.known l.known (drop l.item-index l.items) l.items);
  later : g.F.Files.faults l.initial.files ≤ g.F.Files.faults l.files;
}
