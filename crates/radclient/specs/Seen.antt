-- What is seen of the client's devices, and how far a run came by what they tell. This project's own.
use Rattle.std.specs.Prelude.{ℕ, ◌≡◌, ◌≤◌, List, [], ◌++◌, map, Option}
use Rattle.rad_outside.specs.declared.wire.Heard.{Heard}
use Rattle.rad_outside.specs.declared.wire.Sent.{Sent}
use Rattle.rad_outside.specs.Telling.{Tells, Rose}
use Rattle.rad_outside.specs.Wire.{WireTold}
use Rattle.radclient.specs.declared.stop.Stop.{Stop}
use Rattle.radclient.specs.declared.stop.Stop.TheVariants as stop
use Rattle.radclient.specs.Answers.{Act, ToCome, Sending, NotMade, SocketFault, ended, with_front}

-- What the wire, the luck and the sink tell at a moment, and the counts of faults of the wire and the sink.
pub record Seen : Type 0 where
  pub wire : Option WireTold
  pub wire_faults : ℕ
  pub luck : Option (List ℕ)
  pub out : Option (List ℕ)
  pub out_faults : ℕ

-- What devices answered from one moment to another, and what was printed.
pub record Gained : Type 0 where
  pub heard : List Heard
  pub sent : List Sent
  pub words : List ℕ
  pub printed : List ℕ

-- This was gained from one moment to another, as far as the devices tell. No count of faults fell.
pub record Gains (gained : Gained) (before now : Seen) : Type 0 where
  pub wire : Tells before.wire now.wire (λ old new. (new.heard ≡ old.heard ++ gained.heard) × (new.sent ≡ old.sent ++ gained.sent))
  pub luck : Tells before.luck now.luck (λ old new. new ≡ old ++ gained.words)
  pub out : Tells before.out now.out (λ old new. new ≡ old ++ gained.printed)
  pub wire_later : before.wire_faults ≤ now.wire_faults
  pub out_later : before.out_faults ≤ now.out_faults

-- The answers that were gained, and then later ones.
abbrev pub before_later : Gained → ToCome → ToCome
before_later gained later = record {
  taken = map (λ (s : Sent). s.done) gained.sent ++ later.taken;
  heard = gained.heard ++ later.heard;
  words = gained.words ++ later.words;
}

-- What was handed to the wire.
abbrev pub sending_of : Sent → Sending
sending_of sent = record { to = sent.to; octets = sent.octets }

-- From the one act the run came to the other by what was gained, whatever is answered later: it made these sends and
-- printed these lines, of which the last may not have been written.
pub record Reaches (from to : Act) (unwritten : List ℕ) (before now : Seen) : Type 0 where
  pub gained : Gained
  pub gains : Gains gained before now
  pub runs : (later : ToCome) → from (before_later gained later)
      ≡ with_front (map sending_of gained.sent) (gained.printed ++ unwritten) (to later)

-- The run went on from the one act to the other, and all its lines were written.
abbrev pub Goes : Act → Act → Seen → Seen → Type 0
Goes from to before now = Reaches from to [] before now

-- The run was cut off on its way: it has made the first sends of a run, and written the first octets of its lines,
-- whatever would have been answered later.
pub record IsCutOff (from : Act) (before now : Seen) : Type 0 where
  pub rest : Act
  pub unwritten : List ℕ
  pub reaches : Reaches from rest unwritten before now

-- Why the run stopped, and how far it came: it ended as its definition has it, since a packet can't be made or since the
-- wire failed, whose count of faults rose; or it was cut off, since the sink failed, whose count rose, or for want of memory.
abbrev pub Stops : Act → Stop → Seen → Seen → Type 0
Stops from (stop.Unmade reason) before now = Goes from (ended (NotMade reason)) before now
Stops from stop.SocketFault before now = Goes from (ended SocketFault) before now × Rose before.wire_faults now.wire_faults
Stops from stop.WriteFault before now = IsCutOff from before now × Rose before.out_faults now.out_faults
Stops from stop.NoMemory before now = IsCutOff from before now
