use Rattle.std.proofs.Common.{drop, ap, rules, arith, ◌∙◌}
use Rattle.std.proofs.lemmas.List.{drop_all}
use Rattle.unlang_xlat.specs.Texts.{part_text, text_of, expanded}
use Rattle.unlang_xlat.proofs.Cuts.{cut_off, cut_done, second_text}
use Rattle.unlang_xlat.proofs.texts.+texts.Goals as goal

pub put_within-returns-then-len-ge-LONGEST : goal.put_within-returns-then-len-ge-LONGEST
put_within-returns-then-len-ge-LONGEST t c = λ more. cut_off c.args.text.now.items (part_text c.args.scope.now c.args.dict.now c.args.part.now) more (omega arith)

pub put_part-returns-in_ok-put_part-in-Alternative-2 : goal.put_part-returns-in_ok-put_part-in-Alternative-2
put_part-returns-in_ok-put_part-in-Alternative-2 t c =
    second_text c.args.scope.now c.args.dict.now c.args.part.now c.get.result.now c.get-then-len-start.result.now c.args.text.now.items c.put_part.new.text.items
    c.put_part-then-len-start.new.text.items (search rules) c.in_ok-put_part-in-Alternative.ensures (omega arith) c.in_ok-put_part-in-Alternative-2.ensures

pub cut_text-returns : goal.cut_text-returns
cut_text-returns t c =
    let scope = c.args.scope.now in
    let dict = c.args.dict.now in
    let left = drop c.loop-part.part-index c.args.parts.now in
    c.truncate.ensures.items
    ∙ cut_done c.loop-part.text.items (text_of scope dict left) (expanded scope dict c.args.parts.now)
    (ap (text_of scope dict) (drop_all c.loop-part.part-index c.args.parts.now (omega (arith, c.loop-part-test.false, c.loop-part.auto.part-index-end)))) c.loop-part.invariant
