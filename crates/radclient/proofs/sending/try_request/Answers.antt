use Rattle.std.proofs.Common.{◌-◌, Some, None, refl, take}
use Rattle.radclient.specs.Client.{tried}
use Rattle.radclient.specs.Lines.{sent_lines}
use Rattle.radclient.specs.Seen.{Seen}
use Rattle.radclient.proofs.Reaching.{Goes-same, Goes-trans, Stops-trans}
use Rattle.radclient.proofs.Tries.{again, one_try, tries_none, tries_once}
use Rattle.radclient.proofs.sending.try_request.Goals as goal

pub loop-left-init : goal.loop-left-init
loop-left-init g c = record {
  goes = λ next luck.
      let asked = c.args.asked.now in
      let before : Seen = record { wire = g.W.Wire.told c.args.wire.now; wire_faults = g.W.Wire.faults c.args.wire.now; luck = luck; out = g.O.Sink.told c.args.out.now; out_faults = g.O.Sink.faults c.args.out.now } in
      let act = tried asked c.args.request.now (sent_lines asked c.args.request.now c.args.pairs.now.request) asked.tries next in
      Goes-same act act before (λ come. refl);
  long = c.told-buffer;
}

pub returns-in-Ok-Some-clause-goes : goal.returns-in-Ok-Some-clause-goes
returns-in-Ok-Some-clause-goes g c = λ next luck.
    let asked = c.args.asked.now in
    let request = c.args.request.now in
    let lines = sent_lines asked request c.args.pairs.now.request in
    let first : Seen = record { wire = g.W.Wire.told c.args.wire.now; wire_faults = g.W.Wire.faults c.args.wire.now; luck = luck; out = g.O.Sink.told c.args.out.now; out_faults = g.O.Sink.faults c.args.out.now } in
    let before : Seen = record { wire = g.W.Wire.told c.loop-left.wire; wire_faults = g.W.Wire.faults c.loop-left.wire; luck = luck; out = g.O.Sink.told c.loop-left.out; out_faults = g.O.Sink.faults c.loop-left.out } in
    let now : Seen = record { wire = g.W.Wire.told c.try_once.new.wire; wire_faults = g.W.Wire.faults c.try_once.new.wire; luck = luck; out = g.O.Sink.told c.try_once.new.out; out_faults = g.O.Sink.faults c.try_once.new.out } in
    let left = c.loop-left.left in
    let so_far = Goes-trans (tried asked request lines asked.tries next) (tried asked request lines left next) (one_try asked request lines left next) first before before
    (c.loop-left.invariant.goes next luck) (tries_once asked request lines next left c.loop-left-test.true before) in
    Goes-trans (tried asked request lines asked.tries next) (one_try asked request lines left next) (next (Some (take c.in-Ok-Some.count c.try_once.new.buffer))) first before now so_far
    ((rw c.in-Ok-Some.field-0-is at c.in-Ok-Some.ensures.goes) (again asked request lines (left - 1) next) luck)

pub loop-left-preserved : goal.loop-left-preserved
loop-left-preserved g c = record {
  goes = λ next luck.
      let asked = c.args.asked.now in
      let request = c.args.request.now in
      let lines = sent_lines asked request c.args.pairs.now.request in
      let first : Seen = record { wire = g.W.Wire.told c.args.wire.now; wire_faults = g.W.Wire.faults c.args.wire.now; luck = luck; out = g.O.Sink.told c.args.out.now; out_faults = g.O.Sink.faults c.args.out.now } in
      let before : Seen = record { wire = g.W.Wire.told c.loop-left.wire; wire_faults = g.W.Wire.faults c.loop-left.wire; luck = luck; out = g.O.Sink.told c.loop-left.out; out_faults = g.O.Sink.faults c.loop-left.out } in
      let now : Seen = record { wire = g.W.Wire.told c.try_once.new.wire; wire_faults = g.W.Wire.faults c.try_once.new.wire; luck = luck; out = g.O.Sink.told c.try_once.new.out; out_faults = g.O.Sink.faults c.try_once.new.out } in
      let left = c.loop-left.left in
      let so_far = Goes-trans (tried asked request lines asked.tries next) (tried asked request lines left next) (one_try asked request lines left next) first before before
      (c.loop-left.invariant.goes next luck) (tries_once asked request lines next left c.loop-left-test.true before) in
      Goes-trans (tried asked request lines asked.tries next) (one_try asked request lines left next) (tried asked request lines (left - 1) next) first before now so_far
      ((rw c.in-Ok-None.field-0-is at c.in-Ok-None.ensures.goes) (again asked request lines (left - 1) next) luck);
  long = c.try_once.ensures.buffer;
}

pub returns-in-Err-clause-goes : goal.returns-in-Err-clause-goes
returns-in-Err-clause-goes g c = λ next luck.
    let asked = c.args.asked.now in
    let request = c.args.request.now in
    let lines = sent_lines asked request c.args.pairs.now.request in
    let first : Seen = record { wire = g.W.Wire.told c.args.wire.now; wire_faults = g.W.Wire.faults c.args.wire.now; luck = luck; out = g.O.Sink.told c.args.out.now; out_faults = g.O.Sink.faults c.args.out.now } in
    let before : Seen = record { wire = g.W.Wire.told c.loop-left.wire; wire_faults = g.W.Wire.faults c.loop-left.wire; luck = luck; out = g.O.Sink.told c.loop-left.out; out_faults = g.O.Sink.faults c.loop-left.out } in
    let now : Seen = record { wire = g.W.Wire.told c.try_once.new.wire; wire_faults = g.W.Wire.faults c.try_once.new.wire; luck = luck; out = g.O.Sink.told c.try_once.new.out; out_faults = g.O.Sink.faults c.try_once.new.out } in
    let left = c.loop-left.left in
    let so_far = Goes-trans (tried asked request lines asked.tries next) (tried asked request lines left next) (one_try asked request lines left next) first before before
    (c.loop-left.invariant.goes next luck) (tries_once asked request lines next left c.loop-left-test.true before) in
    Stops-trans (tried asked request lines asked.tries next) (one_try asked request lines left next) c.in-Err.stop first before now so_far
    (c.in-Err.ensures.goes (again asked request lines (left - 1) next) luck)

pub returns-clause-goes : goal.returns-clause-goes
returns-clause-goes g c = λ next luck.
    let asked = c.args.asked.now in
    let request = c.args.request.now in
    let lines = sent_lines asked request c.args.pairs.now.request in
    let first : Seen = record { wire = g.W.Wire.told c.args.wire.now; wire_faults = g.W.Wire.faults c.args.wire.now; luck = luck; out = g.O.Sink.told c.args.out.now; out_faults = g.O.Sink.faults c.args.out.now } in
    let before : Seen = record { wire = g.W.Wire.told c.loop-left.wire; wire_faults = g.W.Wire.faults c.loop-left.wire; luck = luck; out = g.O.Sink.told c.loop-left.out; out_faults = g.O.Sink.faults c.loop-left.out } in
    Goes-trans (tried asked request lines asked.tries next) (tried asked request lines c.loop-left.left next) (next None) first before before
    (c.loop-left.invariant.goes next luck) (tries_none asked request lines next c.loop-left.left c.loop-left-test.false before)
