use Rattle.std.proofs.Common.{◌≡◌, ◌+◌, ◌≤◌, length}
use Rattle.mod_users.specs.Lines.{lines_of}
use Rattle.mod_users.specs.Reading.{after_lines, drafts_of}
use Rattle.mod_users.proofs.reading.drafts_of.Given as goal

abbrev pub invariant-loop-rest : goal.invariant-loop-rest
invariant-loop-rest l = record {
  read : after_lines l.form l.number l.drafts.items (lines_of l.rest) l.dict ≡ drafts_of l.form l.text l.dict;
  lines : l.number + length l.rest ≤ length l.text + 1;
  bound : length l.drafts.items + length l.rest ≤ length l.text;
}

abbrev pub decreases-loop-rest : goal.decreases-loop-rest
decreases-loop-rest l = length l.rest
