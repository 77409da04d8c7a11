-- The dictionary of a site, by its file that was read.
use Rattle.std.proofs.Common.{◌≡◌, ℕ, List, Option, Some, None, Result, Ok, Err, sym, ap, subst, ◌∙◌}
use Rattle.rad_outside.specs.Files.{File, FilesTold, octets_at}
use Rattle.rad_outside.specs.Telling.{Tells}
use Rattle.rad_dict.specs.declared.fault.DictFault.{DictFault}
use Rattle.rad_dict.specs.declared.fault.DictFault.TheVariants as dict
use Rattle.rad_dict.specs.Answers.{IsAnswer}
use Rattle.rad_dict.specs.Base.{base_definitions}
use Rattle.rad_dict.specs.Definitions.{Definitions}
use Rattle.rad_dict.specs.Includes.{dict_from, dict_of}
use Rattle.rad_conf.specs.Conf.{path_of}
use Rattle.rad_policy.specs.Policy.{Sources}
use Rattle.rad_build.specs.declared.fault.BuildFault.{BuildFault}
use Rattle.rad_build.specs.DictFault.{of_dict}
use Rattle.rad_build.specs.Sources.{Finds, FindsIn}
use Rattle.rad_site.specs.Built.{dict_name, dict_at}

-- the dictionary of a file that may be missing
by_file : List ℕ → Sources → Option (List ℕ) → Result Definitions BuildFault
by_file path sources None = Ok base_definitions
by_file path sources (Some text) = of_dict (dict_of path sources.files)

by_path : (sources : Sources) (path : List ℕ) (found : Option (List ℕ)) → path ≡ path_of sources.folder dict_name → octets_at path sources.files ≡ found → dict_at sources ≡ by_file path sources found
unfolding dict_at by_file
by_path sources path found is read =
    sym (ap (λ p. by_file p sources (octets_at p sources.files)) is) ∙ ap (by_file path sources) read

pub found_missing : (folder path : List ℕ) (a b : Option FilesTold) → path ≡ path_of folder dict_name → Tells a b (λ before now. (now ≡ before) × (octets_at path before.present ≡ None))
    → FindsIn folder dict_at (Ok base_definitions) a b
unfolding by_file
found_missing folder path a None is read = tt
found_missing folder path None (Some now) is read = absurd read
found_missing folder path (Some before) (Some now) is read =
    (read.0, by_path (record { files = before.present; folder = folder }) path None is read.1)

said : (answer : Result Definitions DictFault) (all : Result Definitions DictFault) → IsAnswer all answer → Finds (of_dict answer) (of_dict all)
said (Ok found) all is = ap of_dict is
said (Err (dict.BadLine place)) all is = ap of_dict is
said (Err (dict.UnknownVendor place)) all is = ap of_dict is
said (Err (dict.Taken place)) all is = ap of_dict is
said (Err (dict.TooDeep place)) all is = ap of_dict is
said (Err (dict.Missing place)) all is = ap of_dict is
said (Err (dict.TooLong place)) all is = ap of_dict is
said (Err dict.ReadFault) all is = tt
said (Err dict.NoMemory) all is = tt

of_text : (path text : List ℕ) (files : List File) → octets_at path files ≡ Some text → dict_from path files (Some text) ≡ dict_of path files
unfolding dict_of
of_text path text files read = ap (dict_from path files) (sym read)

pub found_read : (folder path text : List ℕ) (answer : Result Definitions DictFault) (a b c : Option FilesTold) → path ≡ path_of folder dict_name
    → Tells a b (λ before now. (now ≡ before) × (octets_at path before.present ≡ Some text)) → Tells b c (λ before now. (now ≡ before) × IsAnswer (dict_from path before.present (Some text)) answer)
    → FindsIn folder dict_at (of_dict answer) a c
unfolding by_file
found_read folder path text answer a b None is first second = tt
found_read folder path text answer a None (Some now) is first second = absurd second
found_read folder path text answer None (Some between) (Some now) is first second = absurd first
found_read folder path text answer (Some before) (Some between) (Some now) is first second =
    let sources : Sources = record { files = before.present; folder = folder } in
    let of_file = subst (λ (told : FilesTold). IsAnswer (dict_from path told.present (Some text)) answer) first.0 second.1 in (
      second.0 ∙ first.0,
      subst (λ r. Finds (of_dict answer) r) (sym (by_path sources path (Some text) is first.1))
          (said answer (dict_of path before.present) (subst (λ r. IsAnswer r answer) (of_text path text before.present first.1) of_file)),
    )
