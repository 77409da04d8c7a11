use Rattle.std.proofs.Common.{◌≡◌, ◌+◌, ◌≤◌, length}
use Rattle.rad_outside.specs.Telling.{Tells}
use Rattle.rad_text.specs.Lines.{lines_of}
use Rattle.rad_dict.specs.Includes.{include_read, lines_read, text_read}
use Rattle.rad_dict.proofs.including.+text_read.Given as goal

abbrev pub decreases-text_read : goal.decreases-text_read
decreases-text_read g l = l.left

abbrev pub invariant-loop-rest : goal.invariant-loop-rest
invariant-loop-rest g l = record {
  told : Tells (g.F.Files.told l.initial.files) (g.F.Files.told l.files) (λ before now.
      (now ≡ before) × (lines_read (include_read before.present l.root l.left) l.file l.line l.reading (lines_of l.rest) ≡ text_read (include_read before.present l.root l.left) l.file l.text l.fn.reading));
  faults : g.F.Files.faults l.initial.files ≤ g.F.Files.faults l.files;
  lines : l.line + length l.rest ≤ length l.text + 1;
  fits : length l.text ≤ 4194304;
}

abbrev pub decreases-loop-rest : goal.decreases-loop-rest
decreases-loop-rest g l = length l.rest
