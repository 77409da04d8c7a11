use Rattle.std.proofs.Common.{length, ◌+◌}
use Rattle.mod_users.specs.Files.{files_done}
use Rattle.mod_users.specs.Rows.{entries_in}
use Rattle.mod_users.proofs.Searching.{Left}
use Rattle.mod_users.proofs.users.Users.do_entries.Given as goal

abbrev pub invariant-loop-place : goal.invariant-loop-place
invariant-loop-place l = Left (entries_in l.rows) l.key l.dict l.named l.others l.found l.lists (files_done l.fn.self l.key l.dict l.fn.lists)

abbrev pub decreases-loop-place : goal.decreases-loop-place
decreases-loop-place l = length l.named + length l.others
