use Rattle.std.specs.Str.{is_utf8}
use Rattle.std.proofs.Common.{◌≡◌, false, cond, codes, ap, ◌∙◌}
use Rattle.std.proofs.lemmas.Bool.{false_from_ne_true}
use Rattle.std.proofs.lemmas.Str.{IsUtf8-from_is_utf8, is_utf8-from_IsUtf8}
use Rattle.rad_outside.specs.Files.{octets_at}
use Rattle.rad_build.specs.Nodes.{bad_setting}
use Rattle.rad_build.specs.ModulesBlock.{file_path, users_in, users_at}
use Rattle.rad_build.proofs.Finding.{FindsIn-pure}
use Rattle.rad_build.proofs.UsersFiles.{found_bytes}
use Rattle.rad_build.proofs.users.users_at.Goals as goal

pub returns-in_default-clause-told : goal.returns-in_default-clause-told
unfolding users_at
returns-in_default-clause-told g c =
    let name = c.args.name.now in
    let other : is_utf8 name ≡ false = false_from_ne_true (is_utf8 name) (λ is. c.in_default.ensures.cases.0 (IsUtf8-from_is_utf8 name is)) in
    FindsIn-pure c.args.dir.now (λ sources. users_at c.args.file sources c.args.dict.now c.args.place.now name) c.refuse_setting.result (bad_setting c.args.place.now (codes "filename")) (g.F.Files.told c.args.files.now)
    (λ sources. ap (λ b. cond b (users_in c.args.file c.args.dict.now c.args.place.now name (octets_at (file_path sources.folder name) sources.files)) (bad_setting c.args.place.now (codes "filename"))) other)
    c.refuse_setting.ensures

pub returns-in-Bytes-clause-told : goal.returns-in-Bytes-clause-told
returns-in-Bytes-clause-told g c =
    let name = c.args.name.now in
    let path : c.as_str.result.now ≡ file_path c.args.dir.now name =
    c.as_str.ensures.value ∙ c.in_ok-path.ensures ∙ ap (file_path c.args.dir.now) c.in-Ok.ensures.cases.0 in
    found_bytes c.args.file c.args.dir.now c.args.dict.now c.args.place.now name c.as_str.result.now c.in-Bytes.octets c.users_in.result (g.F.Files.told c.args.files.now) (g.F.Files.told c.read.new.self)
    (is_utf8-from_IsUtf8 name c.in-Ok.ensures.cases.1) path c.in-Bytes.ensures.told (rw c.as_slice.ensures at c.users_in.ensures)
