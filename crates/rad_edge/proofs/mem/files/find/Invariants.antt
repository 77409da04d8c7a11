use Rattle.std.proofs.Common.{◌≡◌, drop}
use Rattle.rad_outside.specs.Files.{octets_at}
use Rattle.rad_edge.specs.MemFiles.{files_of}
use Rattle.rad_edge.proofs.mem.files.find.Given as goal

abbrev pub invariant-loop-name : goal.invariant-loop-name
invariant-loop-name l = octets_at l.path (files_of l.map) ≡ octets_at l.path (files_of (drop l.name-index l.map))
