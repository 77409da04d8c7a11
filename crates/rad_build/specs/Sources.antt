-- What is read from a site's files. This project's own.
use Rattle.std.specs.Prelude.{◌≡◌, ℕ, List, Option, Result, Ok, Err}
use Rattle.rad_outside.specs.Files.{FilesTold}
use Rattle.rad_outside.specs.Telling.{Tells}
use Rattle.rad_policy.specs.Policy.{Sources}
use Rattle.rad_build.specs.declared.fault.BuildFault.{BuildFault}
use Rattle.rad_build.specs.declared.fault.BuildFault.TheVariants as fault

-- What a function answered is what reading gives, unless memory ran out or the files failed.
abbrev pub Misses : {Y : Type 0} → BuildFault → Result Y BuildFault → Type 0
Misses (fault.Conf wrong) read = read ≡ Err (fault.Conf wrong)
Misses (fault.Dict wrong) read = read ≡ Err (fault.Dict wrong)
Misses (fault.Users file wrong) read = read ≡ Err (fault.Users file wrong)
Misses (fault.Tree wrong) read = read ≡ Err (fault.Tree wrong)
Misses (fault.UnknownModule place kind) read = read ≡ Err (fault.UnknownModule place kind)
Misses (fault.BadSetting place name) read = read ≡ Err (fault.BadSetting place name)
Misses fault.ReadFault read = Unit {0}
Misses fault.NoMemory read = Unit {0}

-- A function that reads files gives what is said, or memory ran out, or a read failed.
abbrev pub Finds : {Y : Type 0} → Result Y BuildFault → Result Y BuildFault → Type 0
Finds (Ok x) read = read ≡ Ok x
Finds (Err e) read = Misses e read

-- Files that tell their maps told the same before, and what was answered is what reading gives of their present map
-- and the folder.
abbrev pub FindsIn : {Y : Type 0} → List ℕ → (Sources → Result Y BuildFault) → Result Y BuildFault → Option FilesTold → Option FilesTold → Type 0
FindsIn folder reading answer before now = Tells before now (λ b n.
    (n ≡ b) × Finds answer (reading (record { files = b.present; folder = folder })))
