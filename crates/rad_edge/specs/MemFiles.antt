-- Files in memory: a list of maps, of which the first so many were begun, and the reads that are to fail. This project's own.
use Rattle.std.specs.Prelude.{ℕ, ◌-◌, List, [], map, drop, slice_index_or}
use Rattle.rad_edge.specs.Memory.{risen}
use Rattle.rad_edge.specs.Failing.{Plan, called}
use Rattle.rad_outside.specs.Files.{File, FilesTold, begun}
use Rattle.rad_outside.specs.declared.files.Found.{Found}
use Rattle.rad_outside.specs.declared.files.Found.TheVariants as found
use Rattle.rad_outside.specs.declared.files.Listed.{Listed}
use Rattle.rad_outside.specs.declared.files.Listed.TheVariants as listed

-- What they tell, their count of faults, and which reads and looks into folders are to fail, counted together.
pub record FilesState : Type 0 where
  pub told : FilesTold
  pub faults : ℕ
  pub reads : Plan ℕ

-- The file of a path and octets.
abbrev pub file_of : List ℕ × List ℕ → File
file_of pair = record { path = pair.0; octets = pair.1 }

-- The files of a list of paths and octets.
abbrev pub files_of : List (List ℕ × List ℕ) → List File
files_of pairs = map file_of pairs

-- What they tell. Before the first begin the first map is present and all maps are to come.
abbrev pub told_after : ℕ → List (List File) → FilesTold
told_after begins maps = record { present = slice_index_or maps (begins - 1) []; to_come = drop begins maps }

-- What the files are after a begin.
abbrev pub after_begin : FilesState → FilesState
after_begin files = record { told = begun files.told; faults = files.faults; reads = files.reads }

-- The count of faults after a read: a failure raises it, and nothing else does.
abbrev pub faults_after : Found → ℕ → ℕ
faults_after (found.Bytes octets) count = count
faults_after found.Missing count = count
faults_after found.Failed count = risen count
faults_after found.NoMemory count = count

-- The count of faults after a look into a folder: a failure raises it, and nothing else does.
abbrev pub faults_after_list : Listed → ℕ → ℕ
faults_after_list (listed.Names names) count = count
faults_after_list listed.Missing count = count
faults_after_list listed.Failed count = risen count
faults_after_list listed.NoMemory count = count

-- What the files are after a look into a folder.
abbrev pub after_list : FilesState → Listed → FilesState
after_list files answer = record { told = files.told; faults = faults_after_list answer files.faults; reads = called files.reads }

-- What the files are after a read.
abbrev pub after_read : FilesState → Found → FilesState
after_read files answer = record { told = files.told; faults = faults_after answer files.faults; reads = called files.reads }
