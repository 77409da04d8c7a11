use Rattle.std.proofs.Common.{List, Ok, Err, cond, refl, sym, ap, subst}
use Rattle.mod_realm.specs.declared.realms.Realm.{Realm}
use Rattle.std.proofs.lemmas.Result.{err_from_is_err_and}
use Rattle.rad_build.specs.Nodes.{◌>>=◌, bad_setting}
use Rattle.rad_build.specs.Sources.{FindsIn}
use Rattle.rad_build.specs.ModulesBlock.{instance_of, and_room, with_instance}
use Rattle.rad_build.proofs.Finding.{FindsIn-pure, FindsIn-same, FindsIn-stops, FindsIn-then}
use Rattle.rad_build.proofs.modules.with_instance.Goals as goal

pub returns-then-is_taken-clause-told : goal.returns-then-is_taken-clause-told
unfolding with_instance
returns-then-is_taken-clause-told g c =
    let place = c.args.place.now in
    let kind = c.args.kind.now in
    let name = c.args.name.now in
    let items = c.args.items.now in
    FindsIn-pure c.args.dir.now (λ sources. with_instance sources c.args.dict.now c.args.known place kind name items) c.refuse_setting.result (bad_setting place name) (g.F.Files.told c.args.files.now)
    (λ sources. ap (λ b. cond b (bad_setting place name) (instance_of sources c.args.dict.now c.args.known.realms place kind name items >>= λ m. and_room place c.args.known name m)) (sym c.if-is_taken.ensures)) c.refuse_setting.ensures

pub returns-in_err-module-clause-told : goal.returns-in_err-module-clause-told
unfolding with_instance
returns-in_err-module-clause-told g c =
    let p = err_from_is_err_and c.from_residual.result c.from_residual.ensures.1 in
    let place = c.args.place.now in
    let kind = c.args.kind.now in
    let name = c.args.name.now in
    let items = c.args.items.now in
    let found = subst (λ (realms : List Realm). FindsIn c.args.dir.now (λ sources. instance_of sources c.args.dict.now realms place kind name items) (Err c.in_err-module.field-0.0) (g.F.Files.told c.args.files.now) (g.F.Files.told c.instance_of.new.files)) c.realms.ensures c.in_err-module.ensures.told in
    rw (p.1, p.2) (FindsIn-same c.args.dir.now (λ sources. instance_of sources c.args.dict.now c.args.known.realms place kind name items >>= λ m. and_room place c.args.known name m) (λ sources. with_instance sources c.args.dict.now c.args.known place kind name items) (Err c.in_err-module.field-0.0) (g.F.Files.told c.args.files.now) (g.F.Files.told c.instance_of.new.files)
    (λ sources. ap (λ b. cond b (bad_setting place name) (instance_of sources c.args.dict.now c.args.known.realms place kind name items >>= λ m. and_room place c.args.known name m)) c.if-is_taken.ensures)
    (FindsIn-stops c.args.dir.now (λ sources. instance_of sources c.args.dict.now c.args.known.realms place kind name items) (λ sources m. and_room place c.args.known name m) c.in_err-module.field-0.0 (g.F.Files.told c.args.files.now) (g.F.Files.told c.instance_of.new.files) found))

pub returns-clause-told : goal.returns-clause-told
unfolding with_instance
returns-clause-told g c =
    let place = c.args.place.now in
    let kind = c.args.kind.now in
    let name = c.args.name.now in
    let items = c.args.items.now in
    let now = g.F.Files.told c.instance_of.new.files in
    let m = c.in_ok-module.module in
    let found = subst (λ (realms : List Realm). FindsIn c.args.dir.now (λ sources. instance_of sources c.args.dict.now realms place kind name items) (Ok m) (g.F.Files.told c.args.files.now) now) c.realms.ensures c.in_ok-module.ensures.told in
    FindsIn-same c.args.dir.now (λ sources. instance_of sources c.args.dict.now c.args.known.realms place kind name items >>= λ one. and_room place c.args.known name one) (λ sources. with_instance sources c.args.dict.now c.args.known place kind name items) c.and_room.result (g.F.Files.told c.args.files.now) now
    (λ sources. ap (λ b. cond b (bad_setting place name) (instance_of sources c.args.dict.now c.args.known.realms place kind name items >>= λ one. and_room place c.args.known name one)) c.if-is_taken.ensures)
    (FindsIn-then c.args.dir.now (λ sources. instance_of sources c.args.dict.now c.args.known.realms place kind name items) (λ sources one. and_room place c.args.known name one) m c.and_room.result (g.F.Files.told c.args.files.now) now now found
    (FindsIn-pure c.args.dir.now (λ sources. and_room place c.args.known name m) c.and_room.result (and_room place c.args.known name m) now (λ sources. refl) c.and_room.ensures))
