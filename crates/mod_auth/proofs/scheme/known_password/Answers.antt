use Rattle.std.specs.List.{find}
use Rattle.std.specs.Option.{option_copied}
use Rattle.std.proofs.Common.{◌+◌, cond, drop, Some, sym, ap, ◌∙◌}
use Rattle.std.proofs.Math.ListN.{drop_of_length-le}
use Rattle.mod_auth.specs.Known.{is_password}
use Rattle.mod_auth.proofs.FirstKnown.{find_from, find_past}
use Rattle.mod_auth.proofs.scheme.known_password.Goals as goal
use Rattle.mod_auth.proofs.scheme.known_password.Goals.{else-loop-n-test, then-loop-n-test+in_default}

pub returns-then-is_password : goal.returns-then-is_password
returns-then-is_password c =
    let control = c.args.lists.now.control in
    let pair = c.in-Some.pair.now in
    sym (c.loop-n.invariant ∙ find_from is_password control c.loop-n.n pair (sym c.in-Some.ensures) ∙ ap (λ b. cond b (Some pair) (find is_password (drop (c.loop-n.n + 1) control))) (sym c.is_password.ensures ∙ c.if-is_password.true))

pub loop-n-preserved : goal.loop-n-preserved
loop-n-preserved c =
    let control = c.args.lists.now.control in
    let pair = c.in-Some.pair.now in
    c.loop-n.invariant ∙ find_from is_password control c.loop-n.n pair (sym c.in-Some.ensures) ∙ ap (λ b. cond b (Some pair) (find is_password (drop (c.loop-n.n + 1) control))) (sym c.is_password.ensures ∙ c.if-is_password.false)

pub returns : goal.returns
returns c =
    let control = c.args.lists.now.control in
    elim c.loop-n-test.branch [
      | else-loop-n-test w ↦ sym (c.loop-n.invariant ∙ ap (find is_password) (drop_of_length-le control (rw c.len-n-end.ensures.length at w.loop-n-test.false)))
      | then-loop-n-test+in_default w ↦ sym (c.loop-n.invariant ∙ find_past is_password control c.loop-n.n (sym w.get.ensures ∙ ap option_copied w.in_default.is))
    ]
