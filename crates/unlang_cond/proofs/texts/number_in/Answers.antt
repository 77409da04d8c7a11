use Rattle.std.proofs.Common.{◌≡◌, ◌<◌, length, suc, true, false, [], ap, ◌∙◌, arith}
use Rattle.std.proofs.lemmas.List.{nil_from_length}
use Rattle.std.specs.Char.{digit_value, is_digit}
use borrow.Author.Tests.{ltb-true}
use Rattle.unlang_cond.proofs.Digits.{no_number, a_number, one_more_digit, goes_on}
use Rattle.unlang_cond.proofs.texts.number_in.Goals as goal

pub returns-then-not-is_digit : goal.returns-then-not-is_digit
returns-then-not-is_digit c =
    let none : is_digit c.in-Some.octet.now 10 ≡ false = cc in
    no_number c.args.text.now c.loop-octet.rest.now c.in-Some.after.now c.loop-octet.number c.in-Some.octet.now c.in-Some.ensures.cases.0 none c.loop-octet.invariant.so_far

pub overflow_mul-number : goal.overflow_mul-number
overflow_mul-number c =
    let digit : is_digit c.in-Some.octet.now 10 ≡ true = cc in
    let small : digit_value c.in-Some.octet.now < 10 = ltb-true (digit_value c.in-Some.octet.now) 10 digit in
    let one : length c.loop-octet.rest.now ≡ suc (length c.in-Some.after.now) = ap length c.in-Some.ensures.cases.0 in
    let fits = one_more_digit (length c.args.text.now) (length c.loop-octet.rest.now) (length c.in-Some.after.now) c.loop-octet.number (digit_value c.in-Some.octet.now)
    c.loop-octet.invariant.short c.loop-octet.invariant.shorter one c.loop-octet.invariant.small small in
    omega (arith, fits.1)

pub overflow_add-number : goal.overflow_add-number
overflow_add-number c =
    let digit : is_digit c.in-Some.octet.now 10 ≡ true = cc in
    let small : digit_value c.in-Some.octet.now < 10 = ltb-true (digit_value c.in-Some.octet.now) 10 digit in
    let one : length c.loop-octet.rest.now ≡ suc (length c.in-Some.after.now) = ap length c.in-Some.ensures.cases.0 in
    let fits = one_more_digit (length c.args.text.now) (length c.loop-octet.rest.now) (length c.in-Some.after.now) c.loop-octet.number (digit_value c.in-Some.octet.now)
    c.loop-octet.invariant.short c.loop-octet.invariant.shorter one c.loop-octet.invariant.small small in
    let value : c.from.result ≡ digit_value c.in-Some.octet.now = c.from.ensures ∙ c.digit_value.ensures in
    rw value (omega (arith, fits.1))

pub loop-octet-preserved : goal.loop-octet-preserved
loop-octet-preserved c =
    let digit : is_digit c.in-Some.octet.now 10 ≡ true = cc in
    let value : c.from.result ≡ digit_value c.in-Some.octet.now = c.from.ensures ∙ c.digit_value.ensures in
    let small : digit_value c.in-Some.octet.now < 10 = ltb-true (digit_value c.in-Some.octet.now) 10 digit in
    let one : length c.loop-octet.rest.now ≡ suc (length c.in-Some.after.now) = ap length c.in-Some.ensures.cases.0 in
    let fits = one_more_digit (length c.args.text.now) (length c.loop-octet.rest.now) (length c.in-Some.after.now) c.loop-octet.number (digit_value c.in-Some.octet.now)
    c.loop-octet.invariant.short c.loop-octet.invariant.shorter one c.loop-octet.invariant.small small in
    record {
      so_far = goes_on c.args.text.now c.loop-octet.rest.now c.in-Some.after.now c.loop-octet.number c.in-Some.octet.now c.from.result c.in-Some.ensures.cases.0 digit value c.loop-octet.invariant.so_far;
      shorter = omega arith;
      some = omega arith;
      short = omega arith;
      small = rw value fits.0;
    }

pub returns : goal.returns
returns c =
    let none : c.loop-octet.rest.now ≡ [] = nil_from_length c.loop-octet.rest.now c.in_default.ensures.cases in
    a_number c.args.text.now c.loop-octet.rest.now c.loop-octet.number none c.loop-octet.invariant.some c.loop-octet.invariant.short c.loop-octet.invariant.so_far
