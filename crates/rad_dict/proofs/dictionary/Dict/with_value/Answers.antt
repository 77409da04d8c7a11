use Rattle.std.proofs.Common.{◌≡◌, None, sym, subst}
use Rattle.rad_dict.specs.Definitions.{Definitions, number_of}
use Rattle.rad_dict.proofs.Growing.{value_more}
use Rattle.rad_dict.proofs.dictionary.Dict.with_value.Goals as goal

pub invariant_of-result : goal.invariant_of-result
invariant_of-result c =
    let new = subst (λ (d : Definitions). number_of c.args.def.attr c.args.def.name d ≡ None) (sym c.self.view_is) c.requires.new in
    rw (c.in_ok-values-2.ensures.ok, c.in_ok-values.ensures, c.into_inner.ensures) (value_more (record { attrs = c.self.inside.attrs.value; values = c.self.inside.values.value }) c.args.def c.self.invariant c.requires.form new)
