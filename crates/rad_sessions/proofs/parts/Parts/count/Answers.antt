use Rattle.std.proofs.Common.{◌≡◌, Some, map, length, option_map, slice_get, refl, sym, ap, ap₂, ◌∙◌, arith}
use Rattle.std.specs.Arc.{arc_value}
use Rattle.std.proofs.lemmas.Option.{slice_get-map, slice_get_read}
use Rattle.rad_sessions.specs.Listed.{count_of}
use Rattle.rad_sessions.specs.Parts.{part_of}
use Rattle.rad_sessions.proofs.Merging.{length_mapped, part_small}
use Rattle.rad_sessions.proofs.Parting.{part_counts, part_fits}
use Rattle.rad_sessions.proofs.parts.Parts.count.Goals as goal

pub count-requires : goal.count-requires
count-requires c =
    let lists = map arc_value c.self.inside.parts.items in
    let number = part_of c.args.user.now in
    let got : slice_get c.self.inside.parts.items number ≡ Some c.in-Some.part.now =
    ap₂ slice_get (sym c.deref.ensures.value) (sym c.part_of.ensures) ∙ slice_get_read c.deref.result.now (length c.deref.result.now) c.part_of.result c.in-Some.part.now refl c.in-Some.ensures.lookup.3.0 c.in-Some.ensures.lookup.1 in
    let there = slice_get-map arc_value c.self.inside.parts.items number ∙ ap (option_map arc_value) got in
    let fits = part_fits c.args.user.now lists (arc_value c.in-Some.part.now) c.self.invariant there in
    omega (arith, fits, ap length c.deref-in-Some.ensures, ap length c.self.view_is, c.requires)

pub returns-in-Some : goal.returns-in-Some
returns-in-Some c =
    let lists = map arc_value c.self.inside.parts.items in
    let number = part_of c.args.user.now in
    let got : slice_get c.self.inside.parts.items number ≡ Some c.in-Some.part.now =
    ap₂ slice_get (sym c.deref.ensures.value) (sym c.part_of.ensures) ∙ slice_get_read c.deref.result.now (length c.deref.result.now) c.part_of.result c.in-Some.part.now refl c.in-Some.ensures.lookup.3.0 c.in-Some.ensures.lookup.1 in
    let there = slice_get-map arc_value c.self.inside.parts.items number ∙ ap (option_map arc_value) got in
    c.count.ensures ∙ ap (count_of c.args.user.now) c.deref-in-Some.ensures
    ∙ part_counts c.args.user.now lists (arc_value c.in-Some.part.now) c.self.invariant there ∙ ap (count_of c.args.user.now) c.self.view_is

pub returns-in-None : goal.returns-in-None
returns-in-None c = absurd (omega (arith, c.in-None.ensures.lookup.3, ap length c.deref.ensures.value, length_mapped arc_value c.self.inside.parts.items, c.self.invariant.count, c.part_of.ensures, part_small c.args.user.now))
