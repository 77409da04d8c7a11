use Rattle.std.proofs.Common.{◌≡◌, ◌++◌, List, IfOk, refl, subst, ap, ◌∙◌}
use Rattle.rad_words.specs.declared.attributes.Space.{Space}
use Rattle.rad_words.specs.declared.attributes.Space.TheVariants.{Standard, Internal}
use Rattle.rad_words.specs.declared.attributes.Kind.{Kind}
use Rattle.rad_words.specs.Names.{Row}
use Rattle.rad_dict.specs.declared.definitions.AttrDef.{AttrDef}
use Rattle.rad_dict.specs.Rows.{attrs_of}
use Rattle.rad_dict.specs.BaseAttributes.{standard_attrs, internal_attrs, names_of, kinds_of}
use Rattle.rad_dict.proofs.base_attributes.base_attrs.Goals as goal

-- a table of a space's names and kinds has its attributes
of_table : (space : Space) (names : List Row) (kinds : List Kind) (attrs : List AttrDef) → names ≡ names_of attrs → kinds ≡ kinds_of attrs → attrs_of space (names_of attrs) (kinds_of attrs) ≡ attrs
    → attrs_of space names kinds ≡ attrs
of_table space names kinds attrs same_names same_kinds all = rw (same_names, same_kinds) all

all_standard : attrs_of Standard (names_of standard_attrs) (kinds_of standard_attrs) ≡ standard_attrs
unfolding standard_attrs
all_standard = refl

all_internal : attrs_of Internal (names_of internal_attrs) (kinds_of internal_attrs) ≡ internal_attrs
unfolding internal_attrs
all_internal = refl

pub returns : goal.returns
returns c =
    let first = of_table Standard c.standard.result.names c.standard.result.kinds standard_attrs c.standard.ensures.names c.standard.ensures.kinds all_standard in
    let second = of_table Internal c.internal.result.names c.internal.result.kinds internal_attrs c.internal.ensures.names c.internal.ensures.kinds all_internal in
    let before : c.in_ok-rows.rows ≡ standard_attrs =
    c.in_ok-rows.ensures ∙ ap (λ (rows : List AttrDef). rows ++ attrs_of Standard c.standard.result.names c.standard.result.kinds) c.new.ensures ∙ first in
    subst (λ (all : List AttrDef). IfOk c.add_table-2.result (λ new. new ≡ all))
    (ap (λ (rows : List AttrDef). rows ++ attrs_of Internal c.internal.result.names c.internal.result.kinds) before ∙ ap (λ (more : List AttrDef). standard_attrs ++ more) second) c.add_table-2.ensures
