use Rattle.std.proofs.Common.{◌≡◌, Bool, List, refl, ap, ◌∙◌}
use Rattle.std.specs.List.{find}
use Rattle.rad_dict.specs.declared.definitions.ValueDef.{ValueDef}
use Rattle.rad_index.specs.Places.{places_of}
use Rattle.rad_index.specs.Search.{found_at}
use Rattle.rad_dict.specs.Definitions.{is_name_of}
use Rattle.rad_dict.specs.Keys.{by_value_name, name_key, attr_key}
use Rattle.rad_index.proofs.Searches.{looked_up}
use Rattle.rad_dict.proofs.Indexed.{by_value_name_only}
use Rattle.rad_dict.proofs.value_rows.ValueRows.named.Goals as goal

pub returns : goal.returns
returns c =
    let test : ValueDef → Bool = is_name_of c.args.id c.args.name.now in
    let places = c.places-places.result.now in
    let at : places ≡ places_of (name_key (attr_key c.args.id) c.args.name.now) c.self.inside.names = rw (c.places-places.ensures, c.name_key.ensures, c.attr_key.ensures) refl in
    c.value_named_at.ensures ∙ ap (λ (rows : List ValueDef). found_at test rows places) c.as_slice.ensures.value
    ∙ looked_up test by_value_name (name_key (attr_key c.args.id) c.args.name.now) (by_value_name_only c.args.id c.args.name.now) c.self.inside.rows.items c.self.inside.names places at c.self.invariant.1
    ∙ ap (find test) c.self.view_is
