-- What a worker's kit tells of its entries: what its wire answered was served, and the replies were sent, in order.
-- This project's own.
use Rattle.std.specs.Prelude.{ℕ, ◌≡◌, ◌++◌, List, [], ◌∷◌, map, Option, Some, None, Bool}
use Rattle.std.specs.Option.{option_map}
use Rattle.std.specs.List.{AllByRecursion}
use Rattle.rad_outside.specs.declared.crew.Kit.{Kit}
use Rattle.rad_outside.specs.declared.listen.Listen.{Listen}
use Rattle.rad_outside.specs.declared.listen.Peer.{Peer}
use Rattle.rad_outside.specs.declared.wire.Heard.{Heard}
use Rattle.rad_outside.specs.declared.wire.Heard.TheVariants as heard
use Rattle.rad_outside.specs.declared.wire.Sent.{Sent}
use Rattle.rad_outside.specs.Telling.{Tells}
use Rattle.rad_outside.specs.Wire.{WireTold}
use Rattle.rad_policy.specs.declared.arrival.Arrived.{Arrived}
use Rattle.rad_core.specs.Worker.{Placed, Answer, served, asked, answered, IsClosed, HaveOutcomes}
use Rattle.rad_build.specs.declared.fault.BuildFault.{BuildFault}
use Rattle.rad_site.specs.Site.{Site}
use Rattle.rad_site.specs.Meaning.{site_meaning}

-- A datagram: its source and its octets.
pub record Datagram : Type 0 where
  pub from : Peer
  pub octets : List ℕ

-- The datagram of an arrival.
abbrev pub datagram_of : Arrived → Datagram
datagram_of arrival = record { from = arrival.from; octets = arrival.bytes }

-- What came among a wire's answers, in order: a datagram, or nothing for a while. That it ended, or failed, is no such
-- answer.
abbrev pub events : List Heard → List (Option Datagram)
events [] = []
events (heard.Datagram octets from ∷ more) = Some (record { from = from; octets = octets }) ∷ events more
events (heard.Quiet ∷ more) = None ∷ events more
events (heard.Ended ∷ more) = events more
events (heard.Failed ∷ more) = events more

-- What came by a worker's entries, in order: a start took its datagram, and a look is made where nothing came.
abbrev pub taken : List (Placed Site BuildFault) → List (Option Datagram)
taken mine = map (option_map datagram_of) (asked mine)

-- What was handed to a wire: to whom, and the octets.
abbrev pub answer_of : Sent → Answer
answer_of sent = record { to = sent.to; octets = sent.octets }

-- What came of asking the wire since is what came by these entries, in order.
abbrev pub Hears : List (Placed Site BuildFault) → WireTold → WireTold → Type 0
Hears mine before now = (answers : List Heard) × (now.heard ≡ before.heard ++ answers) × (events answers ≡ taken mine)

-- What was handed to the wire since are these replies, in order.
abbrev pub Sends : List Answer → WireTold → WireTold → Type 0
Sends replies before now = (handed : List Sent) × (now.sent ≡ before.sent ++ handed)
    × (map answer_of handed ≡ replies)

-- The list has since grown by these.
abbrev pub GrowsBy : {X : Type 0} → List X → List X → List X → Type 0
GrowsBy more before now = now ≡ before ++ more

-- The arrival is this worker's, on this listener.
pub record IsAt (worker listener : ℕ) (listen : Listen) (arrival : Arrived) : Type 0 where
  pub worker_is : arrival.worker ≡ worker
  pub listener_is : arrival.listener ≡ listener
  pub kind_is : arrival.kind ≡ listen.kind
  pub server_is : arrival.server ≡ listen.server

-- What the devices of a kit show: what they tell, how many of the wire's last asks failed, and whether it has ended.
pub record KitTells (W K U : Type 0) : Type 0 where
  pub wire : W → Option WireTold
  pub clock : K → Option (List ℕ)
  pub luck : U → Option (List ℕ)
  pub failures : W → ℕ
  pub has_ended : W → Bool

-- What a kit, as it was before and as it is now, says of its worker's entries since.
pub record Told {W S K U G : Type 0} (tells : KitTells W K U) (worker : ℕ) (listen : Listen) (before now : Kit W S K U G) (mine : List (Placed Site BuildFault)) : Type 0 where
  pub listener : now.listener ≡ before.listener
  -- each fresh start has its finish, with nothing of this worker between
  pub closed : IsClosed mine
  -- the arrivals are of this worker and its listener
  pub own : AllByRecursion (IsAt worker before.listener listen) (served mine)
  -- each datagram received is a start, and each time nothing came is a look, in order
  pub served_in_order : Tells (tells.wire before.wire) (tells.wire now.wire) (Hears mine)
  -- the sends handed in are the replies, in order, each to its arrival's source
  pub replies_in_order : Tells (tells.wire before.wire) (tells.wire now.wire) (Sends (answered mine))
  -- the arrivals have the clock's moments, in order
  pub moments_in_order : Tells (tells.clock before.clock) (tells.clock now.clock) (GrowsBy (map (λ (a : Arrived). a.now) (served mine)))
  -- each outcome is what the policy means, with the luck's words in order
  pub words : List ℕ
  pub words_in_order : Tells (tells.luck before.luck) (tells.luck now.luck) (GrowsBy words)
  pub outcomes : HaveOutcomes site_meaning words mine
  -- no policy appends yet
  pub shelf : now.shelf ≡ before.shelf
