use Rattle.std.proofs.Common.{Ok, Err, ◌∙◌}
use Rattle.std.proofs.lemmas.Result.{err_from_is_err_and}
use Rattle.rad_site.proofs.Dictionaries.{found_missing, found_read}
use Rattle.rad_site.proofs.build.dictionary.dict_at.Goals as goal

pub returns-in-Missing-clause-told : goal.returns-in-Missing-clause-told
returns-in-Missing-clause-told g c =
    rw c.in_ok-base-in-Missing.ensures (found_missing c.args.dir.now c.as_str.result.now (g.F.Files.told c.args.files.now) (g.F.Files.told c.read.new.self)
    (c.as_str.ensures.value ∙ c.in_ok-path.ensures) c.in-Missing.ensures.told)

pub returns-in_err-of_file-in-Bytes-clause-told : goal.returns-in_err-of_file-in-Bytes-clause-told
returns-in_err-of_file-in-Bytes-clause-told g c =
    let p = err_from_is_err_and c.from_residual-in_err-of_file-in-Bytes.result c.from_residual-in_err-of_file-in-Bytes.ensures.1 in
    rw (p.1, p.2) (found_read c.args.dir.now c.as_str.result.now c.in-Bytes.octets (Err c.in_err-of_file-in-Bytes.field-0.0) (g.F.Files.told c.args.files.now) (g.F.Files.told c.read.new.self) (g.F.Files.told c.of_file.new.files)
    (c.as_str.ensures.value ∙ c.in_ok-path.ensures) c.in-Bytes.ensures.told (rw (c.as_str-in-Bytes.ensures.value, ← c.as_str.ensures.value, c.as_slice-text.ensures) at c.in_err-of_file-in-Bytes.ensures.told))

pub returns-in-Bytes-clause-told : goal.returns-in-Bytes-clause-told
returns-in-Bytes-clause-told g c =
    found_read c.args.dir.now c.as_str.result.now c.in-Bytes.octets (Ok c.in_ok-of_file-in-Bytes.field-0) (g.F.Files.told c.args.files.now) (g.F.Files.told c.read.new.self) (g.F.Files.told c.of_file.new.files)
    (c.as_str.ensures.value ∙ c.in_ok-path.ensures) c.in-Bytes.ensures.told (rw (c.as_str-in-Bytes.ensures.value, ← c.as_str.ensures.value, c.as_slice-text.ensures) at c.in_ok-of_file-in-Bytes.ensures.told)
