use Rattle.std.proofs.Common.{List, ℕ, subst, ◌∙◌, refl}
use Rattle.radclient.specs.Program.{Says}
use Rattle.radclient.specs.Seen.{Seen}
use Rattle.radclient.proofs.ending.refuse_place.Goals as goal

pub returns-in-Ok : goal.returns-in-Ok
returns-in-Ok g c = λ wire wire_faults luck.
    let before : Seen = record { wire = wire; wire_faults = wire_faults; luck = luck; out = g.O.Sink.told c.args.out.now; out_faults = g.O.Sink.faults c.args.out.now } in
    let now : Seen = record { wire = wire; wire_faults = wire_faults; luck = luck; out = g.O.Sink.told c.tell.new.out; out_faults = g.O.Sink.faults c.tell.new.out } in
    subst (λ (lines : List ℕ). Says lines before now) (c.as_slice.ensures.value ∙ c.in-Ok.ensures) (c.tell.ensures wire wire_faults luck)

pub returns-in-Err : goal.returns-in-Err
returns-in-Err g c = λ wire wire_faults luck. refl
