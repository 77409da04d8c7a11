use Rattle.std.proofs.Common.{Err, sym, ap, ◌∙◌}
use Rattle.rad_outside.specs.declared.files.Place.{Place}
use Rattle.rad_outside.specs.Files.{FilesTold}
use Rattle.rad_dict.specs.declared.fault.DictFault.TheVariants as fault
use Rattle.rad_outside.proofs.Tellings.{Tells-weaker}
use Rattle.rad_dict.proofs.Readings.{dict_missing, told_dict}
use Rattle.rad_dict.proofs.dictionary.Dict.read.Goals as goal

pub returns-in-Bytes-clause-told : goal.returns-in-Bytes-clause-told
returns-in-Bytes-clause-told g c =
    told_dict c.args.path.now c.in-Bytes.octets c.as_slice.result.now c.of_file.result (g.F.Files.told c.args.files.now) (g.F.Files.told c.read.new.self) (g.F.Files.told c.of_file.new.files)
    c.as_slice.ensures c.in-Bytes.ensures.told c.of_file.ensures.told

pub returns-in_ok-place_at-in-Missing-clause-told : goal.returns-in_ok-place_at-in-Missing-clause-told
returns-in_ok-place_at-in-Missing-clause-told g c =
    Tells-weaker _ (g.F.Files.told c.args.files.now) (g.F.Files.told c.read.new.self)
    (λ (b n : FilesTold) told. (told.0, dict_missing c.args.path.now c.parts_of.result.1.now b.present c.parts_of.ensures.last told.1 ∙ ap (λ (place : Place). Err (fault.Missing place)) (sym c.in_ok-place_at-in-Missing.ensures)))
    c.in-Missing.ensures.told
