use Rattle.std.proofs.Common.{◌≡◌, Bool, List, refl, ap, ◌∙◌}
use Rattle.std.specs.List.{find}
use Rattle.rad_dict.specs.declared.definitions.ValueDef.{ValueDef}
use Rattle.rad_index.specs.Places.{places_of}
use Rattle.rad_index.specs.Search.{found_at}
use Rattle.rad_dict.specs.Definitions.{is_number_of}
use Rattle.rad_dict.specs.Keys.{by_value, key_with, attr_key}
use Rattle.rad_index.proofs.Searches.{looked_up}
use Rattle.rad_dict.proofs.Indexed.{by_value_only}
use Rattle.rad_dict.proofs.value_rows.ValueRows.numbered.Goals as goal

pub returns : goal.returns
returns c =
    let test : ValueDef → Bool = is_number_of c.args.id c.args.number in
    let places = c.places-places.result.now in
    let at : places ≡ places_of (key_with (attr_key c.args.id) c.args.number) c.self.inside.numbers = rw (c.places-places.ensures, c.key_with-key.ensures, c.attr_key.ensures, c.from.ensures) refl in
    c.value_numbered_at.ensures ∙ ap (λ (rows : List ValueDef). found_at test rows places) c.as_slice.ensures.value
    ∙ looked_up test by_value (key_with (attr_key c.args.id) c.args.number) (by_value_only c.args.id c.args.number) c.self.inside.rows.items c.self.inside.numbers places at c.self.invariant.0
    ∙ ap (find test) c.self.view_is
