use Rattle.std.proofs.Common.{◌≡◌, List, ℕ, Some, map, sym, ap, ◌∙◌, refl}
use Rattle.std.specs.Prelude.{string_bytes}
use Rattle.radclient.specs.Program.{Misworded, Starving}
use Rattle.radclient.specs.Seen.{Seen}
use Rattle.radclient.specs.Words.{line_of}
use Rattle.radclient.proofs.top.run_words.Goals as goal

pub returns-in-Ok-Some : goal.returns-in-Ok-Some
returns-in-Ok-Some g c =
    let words = map string_bytes c.args.words.now in
    let order = c.in-Ok-Some.order in
    let is : Some (record { asked = order.asked; file = order.file }) ≡ line_of words = rw c.in-Ok-Some.field-0-is at c.in-Ok-Some.ensures in
    c.try_file.ensures words (sym is ∙ ap (λ (file : List ℕ). Some (record { asked = order.asked; file = file })) (sym c.as_slice.ensures))

pub returns-in-Ok-None : goal.returns-in-Ok-None
returns-in-Ok-None g c =
    let before : Seen = record { wire = g.W.Wire.told c.args.wire.now; wire_faults = g.W.Wire.faults c.args.wire.now; luck = g.U.Luck.told c.args.luck.now; out = g.O.Sink.told c.args.out.now; out_faults = g.O.Sink.faults c.args.out.now } in
    Misworded (sym (rw c.in-Ok-None.field-0-is at c.in-Ok-None.ensures)) (c.tell.ensures before.wire before.wire_faults before.luck)

pub returns-in-Err : goal.returns-in-Err
returns-in-Err g c = Starving refl
