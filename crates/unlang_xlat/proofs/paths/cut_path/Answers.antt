use Rattle.std.proofs.Common.{drop, ap, arith, ◌∙◌}
use Rattle.std.proofs.lemmas.List.{drop_all}
use Rattle.unlang_xlat.specs.Paths.{path_of, path_expanded}
use Rattle.unlang_xlat.proofs.Cuts.{cut_done}
use Rattle.unlang_xlat.proofs.paths.cut_path.Goals as goal

pub returns : goal.returns
returns c =
    let scope = c.args.scope.now in
    let dict = c.args.dict.now in
    let left = drop c.loop-part.part-index c.args.parts.now in
    c.truncate.ensures.items
    ∙ cut_done c.loop-part.path.items (path_of scope dict left) (path_expanded scope dict c.args.parts.now)
    (ap (path_of scope dict) (drop_all c.loop-part.part-index c.args.parts.now (omega (arith, c.loop-part-test.false, c.loop-part.auto.part-index-end)))) c.loop-part.invariant
