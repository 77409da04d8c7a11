use Rattle.std.proofs.Common.{◌≡◌, drop}
use Rattle.mod_users.specs.Files.{edits_of, all_tried}
use Rattle.mod_users.proofs.edits.do_items.Given as goal

abbrev pub invariant-loop-n : goal.invariant-loop-n
invariant-loop-n l = all_tried l.lists (edits_of l.list (drop l.n l.items)) ≡ all_tried l.fn.lists (edits_of l.list l.items)
