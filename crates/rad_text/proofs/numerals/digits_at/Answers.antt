use Rattle.std.proofs.Common.{◌≡◌, ◌*◌, true, false, arith}
use Rattle.std.proofs.lemmas.List.{nil_from_length}
use Rattle.std.specs.Char.{digit_value, is_digit}
use Rattle.rad_text.specs.Numerals.{digits_at}
use Rattle.rad_text.proofs.DigitLemmas.{too_large, ended, no_digit, no_text}
use Rattle.rad_text.proofs.numerals.digits_at.Goals as goal
use Rattle.rad_text.proofs.numerals.digits_at.Goals.{in-Some+then-not-is_digit, in_default}

pub returns-in_err-checked_mul-clause-exact : goal.returns-in_err-checked_mul-clause-exact
returns-in_err-checked_mul-clause-exact c =
    let digit : is_digit c.in-Some.octet.now c.args.radix ≡ true = cc in
    rw c.from_residual.ensures
    (too_large c.args.radix c.loop-octet.number c.in-Some.octet.now c.in-Some.after.now c.loop-octet.rest.now (digits_at c.args.radix 0 c.args.text.now) c.in-Some.ensures.cases.0 digit (omega (arith, c.in_err-checked_mul.ensures)) c.loop-octet.invariant.so_far)

pub returns-in_err-number-clause-exact : goal.returns-in_err-number-clause-exact
returns-in_err-number-clause-exact c =
    let digit : is_digit c.in-Some.octet.now c.args.radix ≡ true = cc in
    let product : c.in_ok-checked_mul.field-0 ≡ c.loop-octet.number * c.args.radix = omega (arith, c.in_ok-checked_mul.ensures) in
    let value : c.digit_value.result ≡ digit_value c.in-Some.octet.now = c.digit_value.ensures in
    rw c.from_residual-in_err-number.ensures
    (too_large c.args.radix c.loop-octet.number c.in-Some.octet.now c.in-Some.after.now c.loop-octet.rest.now (digits_at c.args.radix 0 c.args.text.now) c.in-Some.ensures.cases.0 digit (rw (← product, ← value) (omega (arith, c.in_err-number.ensures))) c.loop-octet.invariant.so_far)

pub returns-clause-exact : goal.returns-clause-exact
returns-clause-exact c =
    ended c.args.radix c.loop-octet.number c.loop-octet.rest.now (digits_at c.args.radix 0 c.args.text.now) c.loop-octet.invariant.fits
    (elim c.match-split_first.branch [
      | in-Some+then-not-is_digit w ↦
          let none : is_digit w.in-Some.octet.now c.args.radix ≡ false = cc in
          rw w.in-Some.ensures.cases.0 (no_digit c.args.radix c.loop-octet.number w.in-Some.octet.now w.in-Some.after.now none)
      | in_default w ↦ no_text c.args.radix c.loop-octet.number c.loop-octet.rest.now (nil_from_length c.loop-octet.rest.now w.in_default.ensures.cases)
    ])
    c.loop-octet.invariant.so_far
