use Rattle.std.proofs.Common.{◌≡◌, [], drop}
use Rattle.unlang_tree.specs.Readings.{most_statements, after_each}
use Rattle.unlang_tree.specs.Sites.{site_of}
use Rattle.unlang_tree.specs.Sections.{with_item}
use Rattle.unlang_tree.proofs.servers.known_of.Given as goal

abbrev pub invariant-loop-item : goal.invariant-loop-item
invariant-loop-item l = after_each (with_item (site_of l.site)) l.known (drop l.item-index l.items) ≡ after_each (with_item (site_of l.site)) (record { sections = []; room = most_statements }) l.items
