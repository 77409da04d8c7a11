use Rattle.std.proofs.Common.{◌≡◌, None, sym, subst}
use Rattle.rad_dict.specs.Definitions.{Definitions, attr_named}
use Rattle.rad_dict.proofs.Growing.{attr_more}
use Rattle.rad_dict.proofs.dictionary.Dict.with_attr.Goals as goal

pub invariant_of-result : goal.invariant_of-result
invariant_of-result c =
    let new = subst (λ (d : Definitions). attr_named c.args.def.name d ≡ None) (sym c.self.view_is) c.requires.new in
    rw (c.in_ok-attrs-2.ensures.ok, c.in_ok-attrs.ensures, c.into_inner.ensures) (attr_more (record { attrs = c.self.inside.attrs.value; values = c.self.inside.values.value }) c.args.def c.self.invariant c.requires.form new)
