-- What files tell: the present map from paths to octets, and the maps to come. This project's own.
use Rattle.std.specs.Prelude.{ℕ, ◌≡◌, ◌==◌, List, [], ◌∷◌, Option, Some, None, is_some, Bool, true, false, length, take, drop, if◌then◌else◌}
use Rattle.std.specs.List.{find, fold, list_any}
use Rattle.std.specs.Option.{option_map, option_and_then}
use Rattle.std.specs.Ordering.{nat_cmp}
use Rattle.std.specs.Cmp.Lexicographic.{slice_cmp}
use Rattle.std.specs.BTreeSet.{insert_key}
use Rattle.std.specs.Str.{bytes_eq}
use Rattle.rad_outside.specs.declared.files.Found.{Found}
use Rattle.rad_outside.specs.declared.files.Found.TheVariants as found
use Rattle.rad_outside.specs.declared.files.Listed.{Listed}
use Rattle.rad_outside.specs.declared.files.Listed.TheVariants as listed

-- A file of a map: its path and its octets.
pub record File : Type 0 where
  pub path : List ℕ
  pub octets : List ℕ

-- The present map, and the maps to come.
pub record FilesTold : Type 0 where
  pub present : List File
  pub to_come : List (List File)

-- The octets of the file at a path, or none where the path is missing.
abbrev pub octets_at : List ℕ → List File → Option (List ℕ)
octets_at path files = option_map (λ f. f.octets) (find (λ f. bytes_eq f.path path) files)

-- The first map to come, where there is one, becomes the present one.
abbrev pub begun : FilesTold → FilesTold
begun told = elim told.to_come [ [] ↦ told | files ∷ more ↦ record { present = files; to_come = more } ]

-- A read answers the path's octets, or that it is missing, exactly as the map has it. A failure and want of memory say nothing of the map.
abbrev pub IsReading : List File → List ℕ → Found → Type 0
IsReading files path (found.Bytes octets) = octets_at path files ≡ Some octets
IsReading files path found.Missing = octets_at path files ≡ None
IsReading files path found.Failed = Unit {0}
IsReading files path found.NoMemory = Unit {0}

-- What follows a beginning, where the octets begin so.
abbrev pub after_beginning : List ℕ → List ℕ → Option (List ℕ)
after_beginning beginning octets =
    if bytes_eq (take (length beginning) octets) beginning then Some (drop (length beginning) octets) else None

-- What of a path follows a folder and one slash, where the path stands below that folder.
abbrev pub below : List ℕ → List ℕ → Option (List ℕ)
below dir path = option_and_then (after_beginning (47 ∷ [])) (after_beginning dir path)

-- Whether a slash stands in a name.
abbrev pub has_slash : List ℕ → Bool
has_slash name = list_any (λ octet. octet == 47) name

-- A name, where it has no slash.
abbrev pub plain_name : List ℕ → Option (List ℕ)
plain_name name = if has_slash name then None else Some name

-- The name of a file that stands right in the folder: what follows has no slash.
abbrev pub name_in : List ℕ → List ℕ → Option (List ℕ)
name_in dir path = option_and_then plain_name (below dir path)

-- The names with that of a file in its place in byte order, where it stands right in the folder and isn't there yet.
abbrev pub with_name : List ℕ → List (List ℕ) → File → List (List ℕ)
with_name dir names file =
    elim (name_in dir file.path) [ None ↦ names | Some name ↦ insert_key (slice_cmp nat_cmp) names name ]

-- The names of the files that stand right in a folder, in byte order, each once.
abbrev pub names_in : List ℕ → List File → List (List ℕ)
names_in dir files = fold (with_name dir) [] files

-- Whether a name is one of these.
abbrev pub is_among : List ℕ → List (List ℕ) → Bool
is_among name names = list_any (bytes_eq name) names

-- Whether the map has a file at this path.
abbrev pub has_path : List ℕ → List File → Bool
has_path path files = list_any (λ (file : File). bytes_eq file.path path) files

-- Whether a path of the map stands below the folder.
abbrev pub is_folder : List ℕ → List File → Bool
is_folder dir files = list_any (λ (file : File). is_some (below dir file.path)) files

-- A look into a folder answers its names, or that it is missing, exactly as the map has it. A failure and want of memory say nothing of the map.
abbrev pub IsListing : List File → List ℕ → Listed → Type 0
IsListing files dir (listed.Names names) = (is_folder dir files ≡ true) × (names ≡ names_in dir files)
IsListing files dir listed.Missing = is_folder dir files ≡ false
IsListing files dir listed.Failed = Unit {0}
IsListing files dir listed.NoMemory = Unit {0}
