-- What serving adds: one datagram's whole way, and a run of the serving loop. This project's own.
use Rattle.std.specs.Prelude.{ℕ, ◌≡◌, ◌<◌, ◌++◌, List, [], ◌∷◌, Option, Some, None, IsTrue}
use Rattle.std.specs.List.{AllByRecursion}
use Rattle.rad_outside.specs.declared.crew.Kit.{Kit}
use Rattle.rad_outside.specs.declared.listen.Listen.{Listen}
use Rattle.rad_outside.specs.declared.listen.Peer.{Peer}
use Rattle.rad_outside.specs.Telling.{Tells}
use Rattle.rad_outside.specs.Wire.{WireTold}
use Rattle.rad_policy.specs.declared.arrival.Arrived.{Arrived}
use Rattle.rad_core.specs.declared.entry.Entry.{Entry}
use Rattle.rad_core.specs.Step.{IsLegal}
use Rattle.rad_core.specs.Worker.{Answer, placed, IsOwn}
use Rattle.rad_build.specs.declared.fault.BuildFault.{BuildFault}
use Rattle.rad_serve.specs.declared.left.Left.{Left}
use Rattle.rad_serve.specs.declared.left.Left.TheVariants as leaving
use Rattle.rad_serve.specs.declared.serving.Passed.{Passed}
use Rattle.rad_serve.specs.declared.serving.Passed.TheVariants as passed
use Rattle.rad_site.specs.Site.{Site}
use Rattle.rad_site.specs.Meaning.{site_meaning}
use Rattle.rad_serve.specs.History.{state_after, IsFull}
use Rattle.rad_serve.specs.Turn.{AddsTurn}
use Rattle.rad_serve.specs.Told.{KitTells, Told, Sends, GrowsBy}
use Rattle.rad_serve.specs.Leaving.{Leaves}

-- The arrival of a datagram at a moment.
abbrev pub arrival_at : ℕ → ℕ → Listen → Peer → List ℕ → ℕ → Arrived
arrival_at worker listener listen from octets now = record {
  worker = worker;
  listener = listener;
  kind = listen.kind;
  server = listen.server;
  from = from;
  bytes = octets;
  now = now;
}

-- These replies were handed in, and no datagram was asked for.
abbrev pub OnlySends : List Answer → WireTold → WireTold → Type 0
OnlySends replies before now = (now.heard ≡ before.heard) × Sends replies before now

-- A datagram that was received has gone its whole way: the clock and the luck were asked once each before its start,
-- and its replies were handed to the wire.
pub record Serves {W S K U G : Type 0} (tells : KitTells W K U) (worker : ℕ) (listen : Listen) (before after : List (Entry Site BuildFault)) (old new : Kit W S K U G) (from : Peer) (octets : List ℕ) : Type 0 where
  pub now : ℕ
  pub luck : ℕ
  pub replies : List Answer
  pub turn : AddsTurn before after (state_after before) (state_after after)
      (arrival_at worker old.listener listen from octets now) luck replies
  pub listener : new.listener ≡ old.listener
  pub wire : Tells (tells.wire old.wire) (tells.wire new.wire) (OnlySends replies)
  pub clock : Tells (tells.clock old.clock) (tells.clock new.clock) (GrowsBy (now ∷ []))
  pub word : Tells (tells.luck old.luck) (tells.luck new.luck) (GrowsBy (luck ∷ []))
  pub failures : tells.failures new.wire ≡ tells.failures old.wire
  pub shelf : new.shelf ≡ old.shelf

-- How a worker left after a pass, or none where it serves on.
abbrev pub left_of : Passed → Option Left
left_of (passed.On failures) = None
left_of (passed.Leaving left) = Some left

-- A worker that serves on knows how many of its wire's last asks failed, which are fewer than 100.
abbrev pub IsCounted : Passed → ℕ → Type 0
IsCounted (passed.On failures) count = (failures ≡ count) × (count < 100)
IsCounted (passed.Leaving left) count = Unit {0}

-- The history has gone on legally by the entries that the kit tells of, all of this worker, under the same generation,
-- up to where the worker left in this way, or serves on.
pub record GoesOn {W S K U G : Type 0} (tells : KitTells W K U) (worker : ℕ) (listen : Listen) (left : Option Left) (before after : List (Entry Site BuildFault)) (old new : Kit W S K U G) : Type 0 where
  pub added : List (Entry Site BuildFault)
  pub grows : after ≡ before ++ added
  pub legal : IsLegal site_meaning (state_after before) added
  pub own : AllByRecursion (IsOwn worker) added
  pub present : (state_after after).present ≡ (state_after before).present
  pub told : Told tells worker listen old new (placed site_meaning (state_after before) added)
  pub leaves : Leaves tells left old.wire new.wire (placed site_meaning (state_after before) added)
  pub stop : left ≡ Some leaving.Stopped → IsTrue (state_after after).is_stopped
  pub worn : left ≡ Some leaving.Worn → IsFull after
