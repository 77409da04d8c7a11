use Rattle.std.proofs.Common.{◌≡◌, drop}
use Rattle.rad_build.specs.Nodes.{after_each}
use Rattle.rad_build.specs.ServerBlocks.{no_servers, with_server}
use Rattle.rad_build.proofs.servers.servers_in.Given as goal

abbrev pub invariant-loop-node : goal.invariant-loop-node
invariant-loop-node l = after_each with_server l.known (drop l.node-index l.nodes) ≡ after_each with_server no_servers l.nodes
