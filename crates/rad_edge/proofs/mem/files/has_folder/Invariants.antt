use Rattle.std.proofs.Common.{◌≡◌, length}
use Rattle.rad_outside.specs.Files.{is_folder}
use Rattle.rad_edge.specs.MemFiles.{files_of}
use Rattle.rad_edge.proofs.mem.files.has_folder.Given as goal

abbrev pub invariant-loop-file : goal.invariant-loop-file
invariant-loop-file l = is_folder l.dir (files_of l.rest) ≡ is_folder l.dir (files_of l.map)

abbrev pub decreases-loop-file : goal.decreases-loop-file
decreases-loop-file l = length l.rest
