use Rattle.std.proofs.Common.{sym, arith, rules}
use Rattle.rad_wire.specs.Draft.{frame_in}
use Rattle.rad_wire.proofs.Fitting.{none_past}
use Rattle.rad_wire.proofs.Drafts.{Asks-end, Asks-more, Asks-refused}
use Rattle.rad_wire.proofs.draft.asked.Goals as goal
use Rattle.rad_wire.proofs.draft.asked.Goals.{else-loop-n-test, then-loop-n-test+in_default}

pub returns-in_err-push_pair-clause-refused : goal.returns-in_err-push_pair-clause-refused
returns-in_err-push_pair-clause-refused c =
    let all = Asks-refused (frame_in c.args.asking.now) c.args.value.now c.args.lists.now.request c.loop-n.n c.loop-n.draft c.in-Some.pair.now c.in_err-push_pair.field-0.0
    c.loop-n.invariant (sym c.in-Some.ensures) c.in_err-push_pair.ensures.refused in
    search rules

pub loop-n-preserved : goal.loop-n-preserved
loop-n-preserved c =
    Asks-more (frame_in c.args.asking.now) c.args.value.now c.args.lists.now.request c.loop-n.n c.loop-n.draft c.push_pair.new.draft c.in-Some.pair.now
    c.loop-n.invariant (sym c.in-Some.ensures) c.in_ok-push_pair.ensures.written c.in_ok-push_pair.ensures.short

pub returns-clause-octets : goal.returns-clause-octets
returns-clause-octets c =
    let frame = frame_in c.args.asking.now in
    let pairs = c.args.lists.now.request in
    elim c.loop-n-test.branch [
      | else-loop-n-test w ↦
          (Asks-end frame c.args.value.now pairs c.loop-n.n c.loop-n.draft c.loop-n.invariant (omega (arith, w.loop-n-test.false, c.len-n-end.ensures.length))).0
      | then-loop-n-test+in_default w ↦
          (Asks-end frame c.args.value.now pairs c.loop-n.n c.loop-n.draft c.loop-n.invariant (none_past pairs c.loop-n.n (sym w.in_default.ensures))).0
    ]

pub returns-clause-short : goal.returns-clause-short
returns-clause-short c =
    let frame = frame_in c.args.asking.now in
    let pairs = c.args.lists.now.request in
    elim c.loop-n-test.branch [
      | else-loop-n-test w ↦
          (Asks-end frame c.args.value.now pairs c.loop-n.n c.loop-n.draft c.loop-n.invariant (omega (arith, w.loop-n-test.false, c.len-n-end.ensures.length))).1
      | then-loop-n-test+in_default w ↦
          (Asks-end frame c.args.value.now pairs c.loop-n.n c.loop-n.draft c.loop-n.invariant (none_past pairs c.loop-n.n (sym w.in_default.ensures))).1
    ]
