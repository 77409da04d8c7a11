use Rattle.std.proofs.Common.{ℕ, List, ◌++◌, subst}
use Rattle.rad_outside.specs.Telling.{Rose, Tells}
use Rattle.rad_outside.specs.Printing.{Prints}
use Rattle.rad_outside.proofs.Printings.{Prints-behind, Prints-weaker, Prints-followed}
use Rattle.radiusd.proofs.Printings.{Rose-since}
use Rattle.radiusd.proofs.site.close_failed.Goals as goal

pub returns-in-Ok-clause-printed : goal.returns-in-Ok-clause-printed
returns-in-Ok-clause-printed g c =
    let a = g.O.Sink.told c.args.out.now in
    let b = g.O.Sink.told c.say.new.out in
    let z = g.O.Sink.told c.say-in-Ok.new.out in
    let fa = g.O.Sink.faults c.args.out.now in
    let fb = g.O.Sink.faults c.say.new.out in
    let fz = g.O.Sink.faults c.say-in-Ok.new.out in
    subst (λ (counts : List ℕ). Tells a z (Prints (counts ++ c.args.line.now) (Rose fa fz))) c.as_slice.ensures
    (Prints-behind a b z c.as_slice.result.now c.args.line.now (Rose fa fz) c.in-Ok.ensures.ok
    (Prints-weaker b z c.args.line.now (Rose fb fz) (Rose fa fz) (λ rose. Rose-since fa fb fz c.say.ensures.later rose) c.say-in-Ok.ensures.printed))

pub returns-in-Err-clause-printed : goal.returns-in-Err-clause-printed
returns-in-Err-clause-printed g c =
    let a = g.O.Sink.told c.args.out.now in
    let b = g.O.Sink.told c.say.new.out in
    let rose = Rose (g.O.Sink.faults c.args.out.now) (g.O.Sink.faults c.say.new.out) in
    subst (λ (counts : List ℕ). Tells a b (Prints (counts ++ c.args.line.now) rose)) c.as_slice.ensures
    (Prints-followed a b c.as_slice.result.now c.args.line.now rose c.in-Err.ensures.fault.1 c.say.ensures.printed)
