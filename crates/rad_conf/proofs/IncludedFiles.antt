-- Includes, and the files that they take.
use Rattle.std.proofs.Common.{◌≡◌, ℕ, zero, suc, ◌-◌, ◌≢◌, Bool, List, [], ◌∷◌, length, Option, Some, None, Result, Ok, Err, refl, sym, ap, ◌∙◌, arith}
use Rattle.rad_outside.specs.declared.files.Place.{Place}
use Rattle.rad_outside.specs.Files.{File}
use Rattle.rad_text.specs.Read.{◌>>=◌}
use Rattle.rad_text.specs.Paths.{joined}
use Rattle.rad_conf.specs.declared.fault.ConfFault.{ConfFault}
use Rattle.rad_conf.specs.declared.fault.ConfFault.TheVariants as fault
use Rattle.rad_conf.specs.declared.growth.Growth.{Growth}
use Rattle.rad_conf.specs.Answers.{IsFault, Reads}
use Rattle.rad_conf.specs.Growth.{Include}
use Rattle.rad_conf.specs.Includes.{paths_of, found_at, missing, Misses, found_read, listed_read, paths_read, include_read}
use Rattle.rad_conf.proofs.Going.{made, is_fault, fails_first}

pub too_deep : (files : List File) (root : List ℕ) (left : ℕ) (place : Place) (optional : Bool) (path : List ℕ) (growth : Growth) → left ≡ 0 → include_read files root left place optional path growth ≡ Err (fault.TooDeep place)
unfolding include_read
too_deep files root zero place optional path growth e = refl
too_deep files root (suc left) place optional path growth e = absurd (omega arith)

one_include : (files : List File) (root : List ℕ) (left : ℕ) (place : Place) (optional : Bool) (path : List ℕ) (growth : Growth) → left ≢ 0
    → include_read files root left place optional path growth ≡ listed_read (include_read files root (left - 1)) files root place optional growth (paths_of files root path)
unfolding include_read
one_include files root zero place optional path growth some = absurd (some refl)
one_include files root (suc left) place optional path growth some =
    let same : suc left - 1 ≡ left = omega arith in rw same refl

misses : (place : Place) (optional : Bool) (growth : Growth) (result : Result (Unit {0}) ConfFault) → Misses place optional result → Reads (missing place optional growth) growth result
misses place optional growth (Ok done) same = rw same refl
misses place optional growth (Err wrong) same = rw same.0 (is_fault Growth (fault.Missing place) wrong same.1)

pub include_missing : (files : List File) (root : List ℕ) (left : ℕ) (place : Place) (optional : Bool) (path : List ℕ) (growth : Growth) (result : Result (Unit {0}) ConfFault) → left ≢ 0 → paths_of files root path ≡ None → Misses place optional result
    → Reads (include_read files root left place optional path growth) growth result
include_missing files root left place optional path growth result some none same =
    rw (one_include files root left place optional path growth some, none) (misses place optional growth result same)

pub include_begins : (files : List File) (root : List ℕ) (left : ℕ) (place : Place) (optional : Bool) (path : List ℕ) (growth : Growth) (paths rest : List (List ℕ)) → left ≢ 0 → paths_of files root path ≡ Some paths → rest ≡ paths
    → paths_read (include_read files root (left - 1)) files root place optional rest growth ≡ include_read files root left place optional path growth
include_begins files root left place optional path growth paths rest some e same =
    rw same (sym (one_include files root left place optional path growth some ∙ rw e refl))

module _ (include : Include) (files : List File) (root : List ℕ) (place : Place) (optional : Bool) where
  one_path : (path : List ℕ) (paths : List (List ℕ)) (growth : Growth) → paths_read include files root place optional (path ∷ paths) growth
      ≡ (found_read include place optional path growth (found_at (joined root path) files) >>= (λ (next : Growth). paths_read include files root place optional paths next))
  unfolding paths_read
  one_path path paths growth = refl

  no_paths : (growth : Growth) → paths_read include files root place optional [] growth ≡ made growth
  unfolding paths_read
  no_paths growth = refl

  pub path_fails : (rest paths : List (List ℕ)) (path : List ℕ) (growth : Growth) (total : Result Growth ConfFault) (e : ConfFault) → rest ≡ path ∷ paths → paths_read include files root place optional rest growth ≡ total
      → IsFault (found_read include place optional path growth (found_at (joined root path) files)) e → IsFault total e
  path_fails rest paths path growth total e split same wrong = rw (← same, split, one_path path paths growth) (fails_first _ _ e wrong)

  pub path_goes : (rest paths : List (List ℕ)) (path : List ℕ) (growth next : Growth) (total : Result Growth ConfFault) → rest ≡ path ∷ paths → paths_read include files root place optional rest growth ≡ total
      → found_read include place optional path growth (found_at (joined root path) files) ≡ Ok next → paths_read include files root place optional paths next ≡ total
  path_goes rest paths path growth next total split same e = sym (ap (λ (ps : List (List ℕ)). paths_read include files root place optional ps growth) split ∙ one_path path paths growth ∙ rw e refl) ∙ same

  pub paths_done : (rest : List (List ℕ)) (growth : Growth) (total : Result Growth ConfFault) → length rest ≡ 0 → paths_read include files root place optional rest growth ≡ total → total ≡ made growth
  paths_done [] growth total empty same = sym same ∙ no_paths growth
  paths_done (path ∷ rest) growth total empty same = absurd (omega arith)

abbrev pub listed : Option (List (List ℕ)) → Result (Option (List (List ℕ))) ConfFault
listed paths = Ok paths

-- The same answer is the same list.
pub same_value : (x y : Option (List (List ℕ))) → listed x ≡ listed y → x ≡ y
same_value x y e = cc
