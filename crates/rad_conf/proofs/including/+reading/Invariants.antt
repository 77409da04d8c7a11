use Rattle.std.proofs.Common.{◌≡◌, ◌+◌, ◌*◌, ◌-◌, ◌≤◌, length}
use Rattle.rad_outside.specs.Telling.{Tells}
use Rattle.rad_conf.specs.Growth.{text_read}
use Rattle.rad_conf.specs.Includes.{paths_read, include_read}
use Rattle.rad_conf.proofs.Going.{Going}
use Rattle.rad_conf.proofs.including.+reading.Given as goal

abbrev pub decreases-found_read : goal.decreases-found_read
decreases-found_read g l = 4 * l.left

abbrev pub decreases-include_read : goal.decreases-include_read
decreases-include_read g l = 4 * l.left + 1

abbrev pub decreases-taken : goal.decreases-taken
decreases-taken g l = 4 * l.left + 2

abbrev pub decreases-text_read : goal.decreases-text_read
decreases-text_read g l = 4 * l.left + 3

abbrev pub invariant-include_read-loop-path : goal.invariant-include_read-loop-path
invariant-include_read-loop-path g l = record {
  told : Tells (g.F.Files.told l.fn.files) (g.F.Files.told l.files) (λ before now.
      (now ≡ before) × (paths_read (include_read before.present l.root (l.left - 1)) before.present l.root l.place l.optional l.rest l.growth ≡ include_read before.present l.root l.left l.place l.optional l.fn.path l.fn.growth));
  faults : g.F.Files.faults l.fn.files ≤ g.F.Files.faults l.files;
  line : l.growth.line ≡ l.fn.growth.line;
}

abbrev pub decreases-include_read-loop-path : goal.decreases-include_read-loop-path
decreases-include_read-loop-path g l = length l.rest

abbrev pub invariant-text_read-loop-rest : goal.invariant-text_read-loop-rest
invariant-text_read-loop-rest g l = record {
  told : Tells (g.F.Files.told l.fn.files) (g.F.Files.told l.files) (λ before now.
      (now ≡ before) × Going (include_read before.present l.root l.left) l.file l.line l.outside l.growth l.rest (text_read (include_read before.present l.root l.left) l.file l.text l.fn.growth));
  faults : g.F.Files.faults l.fn.files ≤ g.F.Files.faults l.files;
  lines : l.growth.line + length l.rest ≤ length l.text + 1;
  fits : length l.text ≤ 4194304;
}

abbrev pub decreases-text_read-loop-rest : goal.decreases-text_read-loop-rest
decreases-text_read-loop-rest g l = length l.rest
