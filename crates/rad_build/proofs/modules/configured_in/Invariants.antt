use Rattle.std.proofs.Common.{◌≤◌, drop}
use Rattle.rad_outside.specs.Telling.{Tells}
use Rattle.rad_policy.specs.Policy.{Sources}
use Rattle.rad_build.specs.ModulesBlock.{with_modules}
use Rattle.rad_build.proofs.FileTurns.{Reads}
use Rattle.rad_build.proofs.modules.configured_in.Given as goal

abbrev pub invariant-loop-node : goal.invariant-loop-node
invariant-loop-node g l = record {
  read : Tells (g.F.Files.told l.initial.files) (g.F.Files.told l.files) (Reads l.dir (λ (sources : Sources). with_modules sources l.dict) l.initial.known l.known (drop l.node-index l.nodes) l.nodes);
  later : g.F.Files.faults l.initial.files ≤ g.F.Files.faults l.files;
}
