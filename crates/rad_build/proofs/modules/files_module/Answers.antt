use Rattle.std.proofs.Common.{cond, ap}
use Rattle.rad_build.specs.ModulesBlock.{key_then_file, file_then_key, files_module}
use Rattle.rad_build.proofs.Finding.{FindsIn-same}
use Rattle.rad_build.proofs.modules.files_module.Goals as goal

pub returns-then-has_key_first-clause-told : goal.returns-then-has_key_first-clause-told
unfolding files_module
returns-then-has_key_first-clause-told g c =
    let place = c.args.place.now in
    let items = c.args.items.now in
    FindsIn-same c.args.dir.now (λ sources. key_then_file c.args.file sources c.args.dict.now place items) (λ sources. files_module c.args.file sources c.args.dict.now place items) c.key_then_file.result (g.F.Files.told c.args.files.now) (g.F.Files.told c.key_then_file.new.files)
    (λ sources. ap (λ b. cond b (key_then_file c.args.file sources c.args.dict.now place items) (file_then_key c.args.file sources c.args.dict.now place items)) c.if-has_key_first.ensures) c.key_then_file.ensures.told

pub returns-clause-told : goal.returns-clause-told
unfolding files_module
returns-clause-told g c =
    let place = c.args.place.now in
    let items = c.args.items.now in
    FindsIn-same c.args.dir.now (λ sources. file_then_key c.args.file sources c.args.dict.now place items) (λ sources. files_module c.args.file sources c.args.dict.now place items) c.file_then_key.result (g.F.Files.told c.args.files.now) (g.F.Files.told c.file_then_key.new.files)
    (λ sources. ap (λ b. cond b (key_then_file c.args.file sources c.args.dict.now place items) (file_then_key c.args.file sources c.args.dict.now place items)) c.if-has_key_first.ensures) c.file_then_key.ensures.told
