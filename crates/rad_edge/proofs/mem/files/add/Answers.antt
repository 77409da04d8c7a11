use Rattle.std.proofs.Common.{◌≡◌, Some, map, sym, ap, ◌∙◌}
use Rattle.std.specs.Option.{option_map}
use Rattle.rad_outside.specs.Files.{name_in}
use Rattle.rad_edge.proofs.Names.{map-insert_key, with_name-some}
use Rattle.rad_edge.specs.MemFiles.{file_of}
use Rattle.rad_edge.proofs.mem.files.add.Goals as goal

pub returns-in_ok-insert : goal.returns-in_ok-insert
returns-in_ok-insert c =
    let name = c.in_ok-from_slice.field-0 in
    let found : name_in c.args.dir.now (file_of c.args.file.now).path ≡ Some name.items =
    ap (name_in c.args.dir.now) (sym c.as_slice.ensures) ∙ sym c.file_name.ensures
    ∙ ap (option_map (λ n. n.now)) c.in-Some.is ∙ ap Some (sym c.in_ok-from_slice.ensures.items) in
    ap (map (λ n. n.items)) c.in_ok-insert.ensures.keys
    ∙ map-insert_key (λ n. n.items) c.args.names.now.keys name
    ∙ with_name-some c.args.dir.now name.items (map (λ n. n.items) c.args.names.now.keys) (file_of c.args.file.now) found
