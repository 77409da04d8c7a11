use Rattle.std.proofs.Common.{◌≡◌, Bool, List, refl, ap, ◌∙◌}
use Rattle.std.specs.List.{find}
use Rattle.rad_dict.specs.declared.definitions.AttrDef.{AttrDef}
use Rattle.rad_index.specs.Places.{places_of}
use Rattle.rad_index.specs.Search.{found_at}
use Rattle.rad_words.specs.Attribute.{same_attr}
use Rattle.rad_dict.specs.Keys.{by_attr, attr_key}
use Rattle.rad_index.proofs.Searches.{looked_up}
use Rattle.rad_dict.proofs.Indexed.{by_attr_only}
use Rattle.rad_dict.proofs.attr_rows.AttrRows.of.Goals as goal

pub returns : goal.returns
returns c =
    let test : AttrDef → Bool = λ row. same_attr row.id c.args.id in
    let places = c.places-places.result.now in
    let at : places ≡ places_of (attr_key c.args.id) c.self.inside.ids = rw (c.places-places.ensures, c.attr_key.ensures) refl in
    c.attr_at.ensures ∙ ap (λ (rows : List AttrDef). found_at test rows places) c.as_slice.ensures.value
    ∙ looked_up test by_attr (attr_key c.args.id) (by_attr_only c.args.id) c.self.inside.rows.items c.self.inside.ids places at c.self.invariant.1
    ∙ ap (find test) c.self.view_is
