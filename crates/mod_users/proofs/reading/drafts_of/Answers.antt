use Rattle.std.proofs.Common.{◌≡◌, true, false, length, sym, ap, ◌∙◌, arith}
use Rattle.std.specs.Option.{is_some}
use Rattle.std.proofs.lemmas.Bool.{eqb-true}
use Rattle.mod_users.specs.Lines.{lines_of}
use Rattle.mod_users.specs.Reading.{after_lines, drafts_of}
use Rattle.mod_users.proofs.ReadingLemmas.{goes_on, ends, is_done}
use Rattle.mod_users.proofs.reading.drafts_of.Goals as goal

pub loop-rest-init : goal.loop-rest-init
unfolding drafts_of
loop-rest-init c = record {
  read = ap (λ drafts. after_lines c.args.form 1 drafts (lines_of c.args.text.now) c.args.dict.now) c.new-drafts.ensures.items;
  lines = omega arith;
  bound = rw c.new-drafts.ensures.items (omega arith);
}

pub returns-then-is_some-clause-read : goal.returns-then-is_some-clause-read
returns-then-is_some-clause-read c =
    let dict = c.args.dict.now in
    let l = c.loop-rest in
    let more = lines_of c.first_line.result.1.now in
    let some : is_some c.in_ok-wrong.wrong ≡ true = cc in
    ends c.args.form l.number l.drafts.items c.take_line.new.drafts.items c.in_ok-wrong.wrong c.first_line.result.0.now more dict some c.in_ok-wrong.ensures.ok
    ∙ ap (λ lines. after_lines c.args.form l.number l.drafts.items lines dict) (sym c.first_line.ensures.lines)
    ∙ l.invariant.read

pub loop-rest-preserved : goal.loop-rest-preserved
loop-rest-preserved c =
    let dict = c.args.dict.now in
    let l = c.loop-rest in
    let more = lines_of c.first_line.result.1.now in
    let none : is_some c.in_ok-wrong.wrong ≡ false = cc in
    record {
      read = goes_on c.args.form l.number l.drafts.items c.take_line.new.drafts.items c.in_ok-wrong.wrong c.first_line.result.0.now more dict none c.in_ok-wrong.ensures.ok
          ∙ ap (λ lines. after_lines c.args.form l.number l.drafts.items lines dict) (sym c.first_line.ensures.lines)
          ∙ l.invariant.read;
      lines = omega (arith, c.first_line.ensures.shorter, l.invariant.lines);
      bound = omega (arith, c.first_line.ensures.shorter, l.invariant.bound, c.in_ok-wrong.ensures.bound);
    }

pub returns-clause-read : goal.returns-clause-read
returns-clause-read c =
    let l = c.loop-rest in
    let ended : length l.rest.now ≡ 0 = eqb-true (length l.rest.now) 0 (sym c.loop-rest-test.ensures) in
    is_done c.args.form l.number l.drafts.items l.rest.now c.args.dict.now (drafts_of c.args.form c.args.text.now c.args.dict.now) ended l.invariant.read
