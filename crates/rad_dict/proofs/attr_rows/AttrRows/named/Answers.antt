use Rattle.std.proofs.Common.{◌≡◌, Bool, List, refl, ap, ◌∙◌}
use Rattle.std.specs.List.{find}
use Rattle.rad_dict.specs.declared.definitions.AttrDef.{AttrDef}
use Rattle.rad_index.specs.Places.{places_of}
use Rattle.rad_index.specs.Search.{found_at}
use Rattle.std.specs.Str.{str_eq_ignore_ascii_case}
use Rattle.rad_dict.specs.Keys.{by_name, name_key}
use Rattle.rad_index.proofs.Searches.{looked_up}
use Rattle.rad_dict.proofs.Indexed.{by_name_only}
use Rattle.rad_dict.proofs.attr_rows.AttrRows.named.Goals as goal

pub returns : goal.returns
returns c =
    let test : AttrDef → Bool = λ row. str_eq_ignore_ascii_case row.name c.args.name.now in
    let places = c.places-places.result.now in
    let at : places ≡ places_of (name_key 0 c.args.name.now) c.self.inside.names = rw (c.places-places.ensures, c.name_key.ensures) refl in
    c.attr_named_at.ensures ∙ ap (λ (rows : List AttrDef). found_at test rows places) c.as_slice.ensures.value
    ∙ looked_up test by_name (name_key 0 c.args.name.now) (by_name_only c.args.name.now) c.self.inside.rows.items c.self.inside.names places at c.self.invariant.0
    ∙ ap (find test) c.self.view_is
