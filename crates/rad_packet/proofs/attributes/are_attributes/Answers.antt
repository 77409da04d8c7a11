use Rattle.std.proofs.Common.{List, ◌≡◌, [], sym, ◌∙◌, eq-eqb}
use Rattle.std.proofs.lemmas.Bool.{OnTrue_from, OnFalse_from, eqb-true}
use Rattle.std.proofs.lemmas.List.{nil_from_length}
use Rattle.rad_packet.specs.Packet.{Attribute, AreAttributes}
use Rattle.rad_packet.proofs.AttributeLists.{Reaches-start, Reaches-more, Reaches-yes, Reaches-no}
use Rattle.rad_packet.proofs.attributes.are_attributes.Goals as goal

pub loop-front-init : goal.loop-front-init
loop-front-init c = Reaches-start c.args.octets.now

pub loop-front-preserved : goal.loop-front-preserved
loop-front-preserved c =
    let split = c.in-Some.ensures.found in
    Reaches-more c.args.octets.now c.loop-front.rest.now c.in-Some.front.rest.now split.attribute c.loop-front.invariant split.stands

pub returns-clause-yes : goal.returns-clause-yes
returns-clause-yes c =
    OnTrue_from _ _ (λ yes.
    let empty : c.loop-front.rest.now ≡ [] = nil_from_length c.loop-front.rest.now (eqb-true _ _ (sym c.is_empty.ensures ∙ yes)) in
    Reaches-yes c.args.octets.now (rw empty at c.loop-front.invariant))

pub returns-clause-no : goal.returns-clause-no
returns-clause-no c =
    OnFalse_from c.is_empty.result ((attributes : List Attribute) → ¬ AreAttributes attributes c.args.octets.now) (λ no attributes h.
    let empty = Reaches-no c.args.octets.now c.loop-front.rest.now c.loop-front.invariant c.in_default.ensures.none attributes h in
    let yes = c.is_empty.ensures ∙ eq-eqb _ _ empty in
    cc)
