use Rattle.std.proofs.Common.{◌≡◌, ◌∷◌, false, eqb, sym, ap, ◌∙◌, rules, arith}
use Rattle.rad_pairs.specs.Words.{double_quoted}
use Rattle.rad_pairs.proofs.WordLemmas.{in_front, double_goes_on}
use Rattle.rad_pairs.proofs.words.double_quoted.Goals as goal

pub loop-octet-preserved : goal.loop-octet-preserved
loop-octet-preserved c =
    let octets = c.loop-octet.octets.items in
    let octet = c.in-Some.octet.now in
    let after = c.in-Some.after.now in
    let quote : eqb octet 34 ≡ false = search rules in
    let line : eqb octet 10 ≡ false = search rules in
    let said : in_front octets (double_quoted 0 (octet ∷ after)) ≡ double_quoted 0 c.args.text.now = ap (λ x. in_front octets (double_quoted 0 x)) (sym c.in-Some.ensures.cases.0) ∙ c.loop-octet.invariant.so_far in
    record {
      so_far = rw (c.in_ok-push-in_default-octet.ensures.items, c.split_at.ensures.back, c.written-value.ensures.exact) (sym (double_goes_on octets octet after quote line) ∙ said);
      shorter = omega (arith, c.in-Some.ensures.cases.1, c.split_at.ensures.back_len);
    }
