use Rattle.std.proofs.Common.{◌≡◌, ◌∷◌, true, sym, ap, ◌∙◌}
use Rattle.std.specs.Char.{is_digit}
use Rattle.rad_pairs.specs.ValueReading.{digit_pairs}
use Rattle.rad_pairs.proofs.DigitPairs.{in_front, goes_on}
use Rattle.rad_pairs.proofs.value_reading.digit_pairs.Goals as goal

pub loop-first-preserved : goal.loop-first-preserved
loop-first-preserved c =
    let octets = c.loop-first.octets.items in
    let first = c.in-Some.first.now in
    let second = c.in-Some-split_first.second.now in
    let after = c.in-Some-split_first.after.now in
    let one : is_digit first 16 ≡ true = cc in
    let two : is_digit second 16 ≡ true = cc in
    let rest : c.loop-first.rest.now ≡ first ∷ second ∷ after = c.in-Some.ensures.cases.0 ∙ ap (λ x. first ∷ x) c.in-Some-split_first.ensures.cases.0 in
    let said : in_front octets (digit_pairs (first ∷ second ∷ after)) ≡ digit_pairs c.args.text.now = ap (λ x. in_front octets (digit_pairs x)) (sym rest) ∙ c.loop-first.invariant in
    rw (c.in_ok-push.ensures.items, c.digit_value.ensures, c.digit_value-in-Some.ensures) (sym (goes_on octets first second after one two) ∙ said)
