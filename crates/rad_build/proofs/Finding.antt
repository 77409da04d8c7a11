-- What is read from a site's files, step by step.
use Rattle.std.proofs.Common.{◌≡◌, ℕ, List, Option, Some, None, Result, Ok, Err, refl, sym, ap, subst, ◌∙◌}
use Rattle.rad_outside.specs.Files.{FilesTold}
use Rattle.rad_policy.specs.Policy.{Sources}
use Rattle.rad_build.specs.declared.fault.BuildFault.{BuildFault}
use Rattle.rad_build.specs.declared.fault.BuildFault.TheVariants as fault
use Rattle.rad_build.specs.Nodes.{◌>>=◌, Fails, Gives}
use Rattle.rad_build.specs.Sources.{Misses, Finds, FindsIn}

-- what is read without a file
misses : {Y : Type 0} (e : BuildFault) (read : Result Y BuildFault) → Fails e read → Misses e read
misses (fault.Conf wrong) read fails = fails
misses (fault.Dict wrong) read fails = fails
misses (fault.Users file wrong) read fails = fails
misses (fault.Tree wrong) read fails = fails
misses (fault.UnknownModule place kind) read fails = fails
misses (fault.BadSetting place name) read fails = fails
misses fault.ReadFault read fails = tt
misses fault.NoMemory read fails = tt

pub Finds-pure : {Y : Type 0} (answer read : Result Y BuildFault) → Gives answer read → Finds answer read
Finds-pure (Ok x) read gives = gives
Finds-pure (Err e) read gives = misses e read gives

-- no file is read
pub FindsIn-pure : {Y : Type 0} (folder : List ℕ) (reading : Sources → Result Y BuildFault) (answer read : Result Y BuildFault) (told : Option FilesTold)
    → ((sources : Sources) → reading sources ≡ read) → Gives answer read → FindsIn folder reading answer told told
FindsIn-pure folder reading answer read None is gives = tt
FindsIn-pure folder reading answer read (Some files) is gives =
    (refl, subst (λ r. Finds answer r) (sym (is (record { files = files.present; folder = folder }))) (Finds-pure answer read gives))

-- a fault that came first
pub misses_first : {A B : Type 0} (e : BuildFault) (read : Result A BuildFault) (then_read : A → Result B BuildFault) → Misses e read → Misses e (read >>= then_read)
misses_first (fault.Conf wrong) read then_read is = ap (λ r. r >>= then_read) is
misses_first (fault.Dict wrong) read then_read is = ap (λ r. r >>= then_read) is
misses_first (fault.Users file wrong) read then_read is = ap (λ r. r >>= then_read) is
misses_first (fault.Tree wrong) read then_read is = ap (λ r. r >>= then_read) is
misses_first (fault.UnknownModule place kind) read then_read is = ap (λ r. r >>= then_read) is
misses_first (fault.BadSetting place name) read then_read is = ap (λ r. r >>= then_read) is
misses_first fault.ReadFault read then_read is = tt
misses_first fault.NoMemory read then_read is = tt

pub FindsIn-stops : {A B : Type 0} (folder : List ℕ) (reading : Sources → Result A BuildFault) (then_read : Sources → A → Result B BuildFault) (e : BuildFault) (a b : Option FilesTold)
    → FindsIn folder reading (Err e) a b → FindsIn folder (λ sources. reading sources >>= then_read sources) (Err e) a b
FindsIn-stops folder reading then_read e a None finds = tt
FindsIn-stops folder reading then_read e None (Some now) finds = absurd finds
FindsIn-stops folder reading then_read e (Some before) (Some now) finds =
    let sources : Sources = record { files = before.present; folder = folder } in
    (finds.0, misses_first e (reading sources) (then_read sources) finds.1)

-- one reading after another
pub FindsIn-then : {A B : Type 0} (folder : List ℕ) (reading : Sources → Result A BuildFault) (then_read : Sources → A → Result B BuildFault) (x : A) (answer : Result B BuildFault) (a b c : Option FilesTold)
    → FindsIn folder reading (Ok x) a b → FindsIn folder (λ sources. then_read sources x) answer b c → FindsIn folder (λ sources. reading sources >>= then_read sources) answer a c
FindsIn-then folder reading then_read x answer a b None first second = tt
FindsIn-then folder reading then_read x answer a None (Some z) first second = absurd second
FindsIn-then folder reading then_read x answer None (Some y) (Some z) first second = absurd first
FindsIn-then folder reading then_read x answer (Some before) (Some between) (Some now) first second =
    let at : FilesTold → Sources = λ told. record { files = told.present; folder = folder } in (
      second.0 ∙ first.0,
      subst (λ r. Finds answer (r >>= then_read (at before))) (sym first.1)
          (subst (λ told. Finds answer (then_read (at told) x)) first.0 second.1),
    )

-- another reading that comes to the same
pub FindsIn-same : {Y : Type 0} (folder : List ℕ) (reading other : Sources → Result Y BuildFault) (answer : Result Y BuildFault) (a b : Option FilesTold)
    → ((sources : Sources) → reading sources ≡ other sources) → FindsIn folder reading answer a b → FindsIn folder other answer a b
FindsIn-same folder reading other answer a None is finds = tt
FindsIn-same folder reading other answer None (Some now) is finds = absurd finds
FindsIn-same folder reading other answer (Some before) (Some now) is finds =
    (finds.0, subst (λ r. Finds answer r) (is (record { files = before.present; folder = folder })) finds.1)
