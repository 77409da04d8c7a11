-- A wire in memory: its script, what it tells, its counts and the calls that are to fail. This project's own.
use Rattle.std.specs.Prelude.{ℕ, ◌≡◌, ◌++◌, ◌⊎◌, List, [], ◌∷◌, Option, None, take, drop, Result, IsErr, is_ok, is_err, Bool, length, ◌==◌, if◌then◌else◌}
use Rattle.std.specs.Option.{option_map}
use Rattle.rad_edge.specs.Memory.{risen, faults_after}
use Rattle.rad_edge.specs.Failing.{Plan, fails_next, called}
use Rattle.rad_outside.specs.Wire.{WireTold}
use Rattle.rad_outside.specs.declared.fault.Failed.{Failed}
use Rattle.rad_outside.specs.declared.listen.Peer.{Peer}
use Rattle.rad_outside.specs.declared.wire.Heard.{Heard}
use Rattle.rad_outside.specs.declared.wire.Heard.TheVariants as heard
use Rattle.rad_edge.specs.declared.mem.wire.Cue.{Cue}
use Rattle.rad_edge.specs.declared.mem.wire.Cue.TheVariants as cue

-- The cues to come, what it tells, its counts, and which asks and which sends are to fail.
pub record WireState : Type 0 where
  pub script : List Cue
  pub told : Option WireTold
  pub faults : ℕ
  pub failures_in_a_row : ℕ
  pub receives : Plan ℕ
  pub sends : Plan ℕ

-- What the script has it answer: the next cue, a datagram cut to 4,096 octets, and that it ended where no cue is left.
abbrev pub next_answer : List Cue → Heard
next_answer [] = heard.Ended
next_answer (cue.Datagram octets from ∷ more) = heard.Datagram (take 4096 octets) from
next_answer (cue.Quiet ∷ more) = heard.Quiet

-- A wire has ended where its script is used up.
abbrev pub has_ended : WireState → Bool
has_ended wire = length wire.script == 0

-- An answer is the script's, or a failure.
abbrev pub FollowsScript : List Cue → Heard → Type 0
FollowsScript script answer = (answer ≡ next_answer script) ⊎ (answer ≡ heard.Failed)

-- The answer that is due: a failure where this ask is to fail, also before the end, and else the script's.
abbrev pub due_answer : WireState → Heard
due_answer wire = if fails_next wire.receives then heard.Failed else next_answer wire.script

-- What is told, with one more answer.
abbrev pub hearing : Heard → Option WireTold → Option WireTold
hearing answer told = option_map (λ told. record { heard = told.heard ++ answer ∷ []; sent = told.sent }) told

-- An answer of the script uses its cue.
abbrev pub answered : WireState → Heard → WireState
answered wire answer = record {
  script = drop 1 wire.script;
  told = hearing answer wire.told;
  faults = wire.faults;
  failures_in_a_row = 0;
  receives = called wire.receives;
  sends = wire.sends;
}

-- What the wire is after an answer that it tells. A failure uses no cue.
abbrev pub after_recv : WireState → Heard → WireState
after_recv wire (heard.Datagram octets from) = answered wire (heard.Datagram octets from)
after_recv wire heard.Quiet = answered wire heard.Quiet
after_recv wire heard.Ended = answered wire heard.Ended
after_recv wire heard.Failed = record {
  script = wire.script;
  told = hearing heard.Failed wire.told;
  faults = risen wire.faults;
  failures_in_a_row = risen wire.failures_in_a_row;
  receives = called wire.receives;
  sends = wire.sends;
}

-- What the wire is after a send that it tells.
abbrev pub after_send : WireState → Peer → List ℕ → Result (Unit {0}) Failed → WireState
after_send wire to octets result = record wire {
  told = option_map (λ told. record { heard = told.heard; sent = told.sent ++ record { to = to; octets = octets; done = is_ok result } ∷ [] }) wire.told;
  faults = faults_after result wire.faults;
  sends = called wire.sends;
}

-- The same wire, but it tells nothing.
abbrev pub untold : WireState → WireState
untold wire = record wire { told = None }

-- An ask gives the answer that is due and is told. For want of memory for the record it fails, and the wire tells nothing from then on.
abbrev pub ReceivesNext : WireState → Heard → WireState → Type 0
ReceivesNext before answer now =
    ((answer ≡ due_answer before) × (now ≡ after_recv before answer))
    ⊎ ((answer ≡ heard.Failed) × (now ≡ untold (after_recv before answer)))

-- A send fails exactly where it is to fail, and is told. For want of memory for the record it fails too, and the wire tells nothing from then on.
abbrev pub SendsNext : Peer → List ℕ → WireState → Result (Unit {0}) Failed → WireState → Type 0
SendsNext to octets before result now =
    ((is_err result ≡ fails_next before.sends) × (now ≡ after_send before to octets result))
    ⊎ (IsErr result × (now ≡ untold (after_send before to octets result)))
