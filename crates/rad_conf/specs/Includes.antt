-- Files and folders that are included, sixteen within one another at most. After the manual page radiusd.conf(5); the limits are
-- this project's own.
use Rattle.std.specs.Prelude.{◌≡◌, ℕ, zero, suc, ◌-◌, Bool, true, false, ◌&&◌, ◌||◌, ◌==◌, List, [], ◌∷◌, ◌++◌, length, take, slice_index, Option, Some, None, Result, Ok, Err, nat_le, if◌then◌else◌}
use Rattle.std.specs.Str.{is_utf8}
use Rattle.rad_outside.specs.declared.files.Place.{Place}
use Rattle.rad_outside.specs.Files.{File, octets_at, names_in, is_folder}
use Rattle.rad_text.specs.Read.{◌>>=◌}
use Rattle.rad_text.specs.Paths.{joined}
use Rattle.rad_conf.specs.declared.fault.ConfFault.{ConfFault}
use Rattle.rad_conf.specs.declared.fault.ConfFault.TheVariants as fault
use Rattle.rad_conf.specs.declared.growth.Growth.{Growth}
use Rattle.rad_conf.specs.Answers.{IsTextFault}
use Rattle.rad_conf.specs.Growth.{Include, text_read}

-- A letter, a digit, `_`, `-` or `.`.
unfoldable pub is_name_octet : ℕ → Bool
is_name_octet c =
    (nat_le 97 c && nat_le c 122) || (nat_le 65 c && nat_le c 90) || (nat_le 48 c && nat_le c 57) || c == 95 || c == 45 || c == 46

-- The name of a file that a folder's include takes.
unfoldable pub is_name : List ℕ → Bool
is_name [] = true
is_name (c ∷ name) = if is_name_octet c then is_name name else false

-- The paths of the files that a folder's include takes, by the folder's path and the names in it.
unfoldable pub named_in : List ℕ → List (List ℕ) → List (List ℕ)
named_in path [] = []
named_in path (name ∷ names) = if is_name name then (path ++ name) ∷ named_in path names else named_in path names

-- A path that ends in a slash names a folder.
unfoldable pub names_folder : List ℕ → Bool
names_folder path = slice_index path (length path - 1) == 47

-- A folder's path without the slash at its end.
abbrev pub without_slash : List ℕ → List ℕ
without_slash path = take (length path - 1) path

-- The files of a folder, by its path and where that stands, in byte order. One whose path isn't UTF-8 isn't there.
unfoldable pub folder_paths : List File → List ℕ → List ℕ → Option (List (List ℕ))
folder_paths files path at =
    if is_utf8 at && is_folder at files then Some (named_in path (names_in at files)) else None

-- The paths of the files that an include takes: the files of a folder, or the path itself.
unfoldable pub paths_of : List File → List ℕ → List ℕ → Option (List (List ℕ))
paths_of files root path = if names_folder path then folder_paths files path (without_slash (joined root path)) else Some (path ∷ [])

-- The octets of a file. One whose path isn't UTF-8 isn't there.
unfoldable pub found_at : List ℕ → List File → Option (List ℕ)
found_at path files = if is_utf8 path then octets_at path files else None

-- What isn't there is a fault, unless it may be missing.
abbrev pub missing : Place → Bool → Growth → Result Growth ConfFault
missing place optional growth = if optional then Ok growth else Err (fault.Missing place)

-- What an answer says where something isn't there: nothing where it may be missing, else the fault, or want of memory for its place.
abbrev pub Misses : Place → Bool → Result (Unit {0}) ConfFault → Type 0
Misses place optional (Ok done) = optional ≡ true
Misses place optional (Err wrong) = (optional ≡ false) × IsTextFault (fault.Missing place) wrong

-- The tree after a file, by what was found of it.
abbrev pub found_read : Include → Place → Bool → List ℕ → Growth → Option (List ℕ) → Result Growth ConfFault
found_read include place optional path growth None = missing place optional growth
found_read include place optional path growth (Some text) = text_read include path text growth

-- The tree after files, in order.
unfoldable pub paths_read : Include → List File → List ℕ → Place → Bool → List (List ℕ) → Growth → Result Growth ConfFault
paths_read include files root place optional [] growth = Ok growth
paths_read include files root place optional (path ∷ paths) growth =
    found_read include place optional path growth (found_at (joined root path) files) >>= (λ (next : Growth).
    paths_read include files root place optional paths next)

-- The tree after the files of an include, none where its file or its folder is missing.
abbrev pub listed_read : Include → List File → List ℕ → Place → Bool → Growth → Option (List (List ℕ)) → Result Growth ConfFault
listed_read include files root place optional growth None = missing place optional growth
listed_read include files root place optional growth (Some paths) = paths_read include files root place optional paths growth

-- The tree after an include, so many levels above the deepest.
unfoldable pub include_read : List File → List ℕ → ℕ → Include
include_read files root zero place optional path growth = Err (fault.TooDeep place)
include_read files root (suc left) place optional path growth =
    listed_read (include_read files root left) files root place optional growth (paths_of files root path)
