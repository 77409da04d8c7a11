use Rattle.std.proofs.Common.{◌++◌, List, ap, ◌∙◌, append_assoc, take}
use Rattle.std.specs.Prelude.{slice_get}
use Rattle.std.specs.Option.{option_to_list}
use Rattle.rad_value.specs.PairLists.{list_of}
use Rattle.rad_value.specs.Pairs.{values_of}
use Rattle.rad_value.specs.declared.values.Value.{Value}
use Rattle.unlang_reference.proofs.OneMore.{one_more}
use Rattle.unlang_reference.proofs.reference.push_all.Goals as goal

pub loop-n-preserved : goal.loop-n-preserved
loop-n-preserved c =
    let pairs = list_of c.args.lists.now c.args.list in
    let so_far = values_of c.args.attr (take c.loop-n.n pairs) in
    let next = values_of c.args.attr (option_to_list (slice_get pairs c.loop-n.n)) in
    rw one_more
    (c.in_ok-push_of.ensures ∙ ap (λ o. c.loop-n.values.items ++ values_of c.args.attr (option_to_list o)) c.get.ensures
    ∙ ap (λ (xs : List Value). xs ++ next) c.loop-n.invariant ∙ append_assoc c.args.values.now.items so_far next)
