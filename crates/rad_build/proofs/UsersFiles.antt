-- The users of a file that was read.
use Rattle.std.specs.Str.{is_utf8}
use Rattle.std.proofs.Common.{◌≡◌, ℕ, true, cond, codes, List, Option, Some, None, Result, sym, ap, subst, ◌∙◌}
use Rattle.rad_outside.specs.declared.files.Place.{Place}
use Rattle.rad_outside.specs.Files.{FilesTold, octets_at}
use Rattle.rad_outside.specs.Telling.{Tells}
use Rattle.rad_dict.specs.Definitions.{Definitions}
use Rattle.mod_users.specs.declared.entry.Entry.{Entry}
use Rattle.rad_build.specs.declared.fault.BuildFault.{BuildFault}
use Rattle.rad_build.specs.declared.users.EntryFile.{EntryFile}
use Rattle.rad_build.specs.Nodes.{Gives, bad_setting}
use Rattle.rad_build.specs.Sources.{Finds, FindsIn}
use Rattle.rad_build.specs.ModulesBlock.{file_path, users_in, users_at}
use Rattle.rad_build.proofs.Finding.{Finds-pure}

pub found_bytes : (file : EntryFile) (folder : List ℕ) (dict : Definitions) (place : Place) (name path text : List ℕ) (answer : Result (List Entry) BuildFault) (a b : Option FilesTold)
    → is_utf8 name ≡ true → path ≡ file_path folder name → Tells a b (λ before now. (now ≡ before) × (octets_at path before.present ≡ Some text))
    → Gives answer (users_in file dict place name (Some text)) → FindsIn folder (λ sources. users_at file sources dict place name) answer a b
unfolding users_at
found_bytes file folder dict place name path text answer a None utf8 is read gives = tt
found_bytes file folder dict place name path text answer None (Some now) utf8 is read gives = absurd read
found_bytes file folder dict place name path text answer (Some before) (Some now) utf8 is read gives = (read.0, found) where
  found : Finds answer (users_at file (record { files = before.present; folder = folder }) dict place name)
  found = subst (λ r. Finds answer r)
      (ap (users_in file dict place name) (sym (sym (ap (λ p. octets_at p before.present) is) ∙ read.1))
      ∙ ap (λ b. cond b (users_in file dict place name (octets_at (file_path folder name) before.present)) (bad_setting place (codes "filename"))) (sym utf8))
      (Finds-pure answer (users_in file dict place name (Some text)) gives)
