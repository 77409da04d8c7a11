use Rattle.std.proofs.Common.{◌≡◌, length, map}
use Rattle.std.specs.List.{fold}
use Rattle.rad_outside.specs.Files.{names_in, with_name}
use Rattle.rad_edge.specs.MemFiles.{files_of}
use Rattle.rad_edge.proofs.mem.files.names_of.Given as goal

abbrev pub invariant-loop-file : goal.invariant-loop-file
invariant-loop-file l = fold (with_name l.dir) (map (λ name. name.items) l.names.keys) (files_of l.rest) ≡ names_in l.dir (files_of l.map)

abbrev pub decreases-loop-file : goal.decreases-loop-file
decreases-loop-file l = length l.rest
