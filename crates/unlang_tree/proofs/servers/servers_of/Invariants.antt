use Rattle.std.proofs.Common.{◌≡◌, [], drop}
use Rattle.unlang_tree.specs.Readings.{after_each}
use Rattle.unlang_tree.specs.Sites.{site_of}
use Rattle.unlang_tree.specs.Policies.{with_server}
use Rattle.unlang_tree.proofs.servers.servers_of.Given as goal

abbrev pub invariant-loop-node : goal.invariant-loop-node
invariant-loop-node l = after_each (with_server (site_of l.site)) l.servers (drop l.node-index l.site.root.now) ≡ after_each (with_server (site_of l.site)) [] l.site.root.now
