use Rattle.std.proofs.Common.{◌≡◌, map}
use Rattle.rad_edge.proofs.mem.files.in_octets.Given as goal

abbrev pub invariant-loop-name : goal.invariant-loop-name
invariant-loop-name l = l.octets.items ≡ map (λ name. name.items) l.yielded
