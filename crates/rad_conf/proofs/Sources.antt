-- The files that an include takes, by what the files have at a path.
use Rattle.std.proofs.Common.{◌≡◌, ℕ, Bool, true, false, List, Some, None, refl}
use Rattle.std.specs.Str.{IsUtf8, is_utf8}
use Rattle.std.proofs.lemmas.Str.{IsUtf8-from_is_utf8, is_utf8-from_IsUtf8}
use Rattle.rad_outside.specs.Files.{File, octets_at, is_folder, names_in}
use Rattle.rad_conf.specs.Includes.{named_in, folder_paths, found_at}

not_utf8 : (path : List ℕ) → ¬ (IsUtf8 path) → is_utf8 path ≡ false
not_utf8 path bad = is_bad (is_utf8 path) refl where
  is_bad : (b : Bool) → is_utf8 path ≡ b → is_utf8 path ≡ false
  is_bad true e = absurd (bad (IsUtf8-from_is_utf8 path e))
  is_bad false e = e

pub found_good : (path at : List ℕ) (files : List File) → at ≡ path → IsUtf8 path → found_at path files ≡ octets_at at files
unfolding found_at
found_good path at files same good = rw (same, is_utf8-from_IsUtf8 path good) refl

pub found_bad : (path : List ℕ) (files : List File) → ¬ (IsUtf8 path) → found_at path files ≡ None
unfolding found_at
found_bad path files bad = rw (not_utf8 path bad) refl

pub folder_good : (files : List File) (path at place : List ℕ) → place ≡ at → IsUtf8 at → is_folder place files ≡ true → folder_paths files path at ≡ Some (named_in path (names_in place files))
unfolding folder_paths
folder_good files path at place same good there = rw (is_utf8-from_IsUtf8 at good, ← same, there) refl

pub folder_bad : (files : List File) (path at : List ℕ) → ¬ (IsUtf8 at) → folder_paths files path at ≡ None
unfolding folder_paths
folder_bad files path at bad = rw (not_utf8 at bad) refl
