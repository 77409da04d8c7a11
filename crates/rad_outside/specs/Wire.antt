-- What a wire tells: its answers in order, and the datagrams that were handed in, in order. This project's own.
use Rattle.std.specs.Prelude.{ℕ, ◌≡◌, ◌+◌, ◌-◌, ◌^◌, ◌≤◌, ◌⊎◌, min, take, List, Bool, IsTrue}
use Rattle.rad_outside.specs.declared.wire.Got.{Got}
use Rattle.rad_outside.specs.declared.wire.Got.TheVariants as got
use Rattle.rad_outside.specs.declared.wire.Heard.{Heard}
use Rattle.rad_outside.specs.declared.wire.Heard.TheVariants as heard
use Rattle.rad_outside.specs.declared.wire.Sent.{Sent}

-- The answers so far, and the datagrams handed in so far.
pub record WireTold : Type 0 where
  pub heard : List Heard
  pub sent : List Sent

-- The answer with its octets, which stand at the front of the buffer.
abbrev pub heard_of : Got → List ℕ → Heard
heard_of (got.Datagram count from) buffer = heard.Datagram (take count buffer) from
heard_of got.Quiet buffer = heard.Quiet
heard_of got.Ended buffer = heard.Ended
heard_of got.Failed buffer = heard.Failed

-- A datagram has at most 4,096 octets.
abbrev pub FitsBuffer : Got → Type 0
FitsBuffer (got.Datagram count from) = count ≤ 4096
FitsBuffer got.Quiet = Unit {0}
FitsBuffer got.Ended = Unit {0}
FitsBuffer got.Failed = Unit {0}

-- A failure adds one to the failures in a row, up to the end of 64 bits. Every other answer makes them 0.
abbrev pub failures_after : Got → ℕ → ℕ
failures_after got.Failed count = min (count + 1) (2 ^ 64 - 1)
failures_after (got.Datagram octets from) count = 0
failures_after got.Quiet count = 0
failures_after got.Ended count = 0

-- A wire that has ended stays so and answers that it ended, or fails. Only a wire that has ended answers so.
pub record IsEnding (before now : Bool) (answer : Got) : Type 0 where
  pub stays : IsTrue before → IsTrue now
  pub answers : IsTrue before → (answer ≡ got.Ended) ⊎ (answer ≡ got.Failed)
  pub only : answer ≡ got.Ended → IsTrue before
