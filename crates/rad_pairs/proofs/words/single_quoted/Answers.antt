use Rattle.std.proofs.Common.{◌≡◌, ◌∷◌, false, eqb, take, drop, rules, sym, ap, ◌∙◌, arith}
use Rattle.rad_pairs.specs.Words.{single_quoted}
use Rattle.rad_pairs.proofs.WordLemmas.{in_front, take_next, drop_next, single_goes_on}
use Rattle.rad_pairs.proofs.words.single_quoted.Goals as goal

pub loop-octet-preserved : goal.loop-octet-preserved
loop-octet-preserved c =
    let text = c.args.text.now in
    let len = c.loop-octet.len in
    let octet = c.in-Some.octet.now in
    let after = c.in-Some.after.now in
    let here : drop len text ≡ octet ∷ after = c.loop-octet.invariant.rest_is ∙ c.in-Some.ensures.cases.0 in
    let quote : eqb octet 39 ≡ false = search rules in
    let line : eqb octet 10 ≡ false = search rules in
    let said : in_front (take len text) (single_quoted (octet ∷ after)) ≡ single_quoted text = ap (λ x. in_front (take len text) (single_quoted x)) (sym c.in-Some.ensures.cases.0) ∙ c.loop-octet.invariant.so_far in
    record {
      so_far = rw (take_next len text octet after here) (sym (single_goes_on (take len text) octet after quote line) ∙ said);
      rest_is = drop_next len text octet after here;
      length_so_far = omega (arith, c.in-Some.ensures.cases.1);
    }
