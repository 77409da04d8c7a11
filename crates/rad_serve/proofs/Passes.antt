-- What a pass of the serving loop adds, and passes one after another.
use Rattle.std.proofs.Common.{ℕ, ◌≡◌, ◌++◌, List, [], ◌∷◌, map, refl, ap, sym, ◌∙◌, subst, append-nil, append_assoc, IsTrue, Option, Some, None}
use Rattle.std.specs.List.{AllByRecursion}
use Rattle.std.specs.Option.{option_map}
use Rattle.rad_outside.specs.declared.crew.Kit.{Kit}
use Rattle.rad_outside.specs.declared.listen.Listen.{Listen}
use Rattle.rad_outside.specs.declared.listen.Peer.{Peer}
use Rattle.rad_outside.specs.declared.wire.Heard.{Heard}
use Rattle.rad_outside.specs.declared.wire.Heard.TheVariants as heard
use Rattle.rad_outside.specs.Telling.{Tells}
use Rattle.rad_outside.specs.Wire.{WireTold}
use Rattle.rad_policy.specs.declared.arrival.Arrived.{Arrived}
use Rattle.rad_core.specs.declared.seen.Seen.{Seen}
use Rattle.rad_core.specs.State.{ServerState, opening}
use Rattle.rad_core.specs.declared.entry.Entry.{Entry}
use Rattle.rad_core.specs.declared.entry.Entry.TheVariants.{Look, Stop}
use Rattle.rad_core.specs.Step.{after, run, IsLegal}
use Rattle.rad_core.specs.Worker.{Placed, At, placed, Answer, IsOwn}
use Rattle.rad_core.proofs.Histories.{run-append, placed-append, IsLegal-append}
use Rattle.rad_build.specs.declared.fault.BuildFault.{BuildFault}
use Rattle.rad_serve.specs.declared.left.Left.{Left}
use Rattle.rad_serve.specs.declared.left.Left.TheVariants as leaving
use Rattle.rad_site.specs.Site.{Site}
use Rattle.rad_site.specs.Meaning.{site_meaning}
use Rattle.rad_serve.specs.History.{state_after, Adds, IsFull}
use Rattle.rad_serve.specs.Told.{Told, KitTells, IsAt, Hears, Sends, GrowsBy, events, datagram_of}
use Rattle.rad_serve.specs.Leaving.{Leaves, StaysOpen, IsOpen}
use Rattle.rad_serve.specs.Serving.{Serves, GoesOn, arrival_at}
use Rattle.rad_outside.proofs.Tellings.{Tells-trans, Tells-same, Tells-weaker}
use Rattle.rad_serve.proofs.Telling.{All-append}
use Rattle.rad_serve.proofs.Tolds.{Told-same, Told-trans}
use Rattle.rad_serve.proofs.Leavings.{Leaves-join}

-- one answer more was heard, and nothing was sent
abbrev pub OnlyHears : Heard → WireTold → WireTold → Type 0
OnlyHears answer before now = (now.heard ≡ before.heard ++ answer ∷ []) × (now.sent ≡ before.sent)

-- an answer that isn't the end leaves the wire open
pub open_after : {W K U : Type 0} (tells : KitTells W K U) (a b : W) (answer : Heard) → IsOpen answer → Tells (tells.wire a) (tells.wire b) (OnlyHears answer) → Tells (tells.wire a) (tells.wire b) StaysOpen
open_after tells a b answer is_open = Tells-weaker StaysOpen (tells.wire a) (tells.wire b) (λ x y h. (answer ∷ [], h.0, (is_open, tt)))

-- the kit is as it was but for its wire
pub record SameButWire {W S K U G : Type 0} (old new : Kit W S K U G) : Type 0 where
  pub listener : new.listener ≡ old.listener
  pub clock : new.clock ≡ old.clock
  pub luck : new.luck ≡ old.luck
  pub shelf : new.shelf ≡ old.shelf

-- one entry more leads to the state after it
pub state_after_one : (before now : List (Entry Site BuildFault)) (entry : Entry Site BuildFault) → now ≡ before ++ entry ∷ [] → state_after now ≡ after site_meaning (state_after before) entry
state_after_one before now entry grows = ap state_after grows ∙ run-append site_meaning opening before (entry ∷ [])

-- nothing was sent
no_sends : {W K U : Type 0} (tells : KitTells W K U) (a b : W) (answer : Heard) → Tells (tells.wire a) (tells.wire b) (OnlyHears answer) → Tells (tells.wire a) (tells.wire b) (Sends [])
no_sends tells a b answer wire = Tells-weaker (Sends []) (tells.wire a) (tells.wire b) (λ x y h. ([], h.1 ∙ sym (append-nil x.sent), refl)) wire

module _ {W S K U G : Type 0} (tells : KitTells W K U) (worker : ℕ) (listen : Listen) where
  no_moments : (old new : Kit W S K U G) → new.clock ≡ old.clock → Tells (tells.clock old.clock) (tells.clock new.clock) (GrowsBy [])
  no_moments old new clock = subst (λ (k : K). Tells (tells.clock old.clock) (tells.clock k) (GrowsBy [])) (sym clock) (Tells-same (GrowsBy []) (tells.clock old.clock) (λ x. sym (append-nil x)))

  no_words : (old new : Kit W S K U G) → new.luck ≡ old.luck → Tells (tells.luck old.luck) (tells.luck new.luck) (GrowsBy [])
  no_words old new luck = subst (λ (u : U). Tells (tells.luck old.luck) (tells.luck u) (GrowsBy [])) (sym luck) (Tells-same (GrowsBy []) (tells.luck old.luck) (λ x. sym (append-nil x)))

  -- the kit tells of nothing but an answer of its wire for which there is no entry
  pub goes_on_idly : (history : List (Entry Site BuildFault)) (old new : Kit W S K U G) (answer : Heard) (left : Option Left) → SameButWire old new → Tells (tells.wire old.wire) (tells.wire new.wire) (OnlyHears answer) → events (answer ∷ []) ≡ [] → Leaves tells left old.wire new.wire [] → ¬ (left ≡ Some leaving.Stopped) → ¬ (left ≡ Some leaving.Worn) → GoesOn tells worker listen left history history old new
  goes_on_idly history old new answer left same wire idle leaves unstopped unworn = record {
    added = [];
    grows = sym (append-nil history);
    legal = tt;
    own = tt;
    present = refl;
    told = record {
      listener = same.listener;
      closed = tt;
      own = tt;
      served_in_order = Tells-weaker (Hears []) (tells.wire old.wire) (tells.wire new.wire) (λ x y h. (answer ∷ [], h.0, idle)) wire;
      replies_in_order = no_sends tells old.wire new.wire answer wire;
      moments_in_order = no_moments old new same.clock;
      words = [];
      words_in_order = no_words old new same.luck;
      outcomes = refl;
      shelf = same.shelf;
    };
    leaves = leaves;
    stop = λ is. absurd (unstopped is);
    worn = λ is. absurd (unworn is);
  }

  -- the kit tells of nothing at all
  pub goes_on_still : (history : List (Entry Site BuildFault)) (kit : Kit W S K U G) (left : Option Left) → Leaves tells left kit.wire kit.wire [] → ¬ (left ≡ Some leaving.Stopped) → (left ≡ Some leaving.Worn → IsFull history) → GoesOn tells worker listen left history history kit kit
  goes_on_still history kit left leaves unstopped worn = record {
    added = [];
    grows = sym (append-nil history);
    legal = tt;
    own = tt;
    present = refl;
    told = Told-same tells worker listen kit;
    leaves = leaves;
    stop = λ is. absurd (unstopped is);
    worn = worn;
  }

  -- nothing came, and the worker looked
  pub goes_on_look : (before now : List (Entry Site BuildFault)) (old new : Kit W S K U G) (seen : Seen) (left : Option Left) → SameButWire old new → Tells (tells.wire old.wire) (tells.wire new.wire) (OnlyHears heard.Quiet) → Adds before now (Look worker seen) → Leaves tells left old.wire new.wire (At (state_after before) (Look worker seen) ∷ []) → (left ≡ Some leaving.Stopped → IsTrue seen.stopped) → ¬ (left ≡ Some leaving.Worn) → GoesOn tells worker listen left before now old new
  goes_on_look before now old new seen left same wire adds leaves shows unworn =
      let state = state_after_one before now (Look worker seen) adds.grows in
      record {
        added = Look worker seen ∷ [];
        grows = adds.grows;
        legal = (adds.may, tt);
        own = (refl, tt);
        present = ap (λ (s : ServerState Site). s.present) state;
        told = record {
          listener = same.listener;
          closed = tt;
          own = tt;
          served_in_order = Tells-weaker (Hears (At (state_after before) (Look worker seen) ∷ [])) (tells.wire old.wire) (tells.wire new.wire) (λ x y h. (heard.Quiet ∷ [], h.0, refl)) wire;
          replies_in_order = no_sends tells old.wire new.wire heard.Quiet wire;
          moments_in_order = no_moments old new same.clock;
          words = [];
          words_in_order = no_words old new same.luck;
          outcomes = refl;
          shelf = same.shelf;
        };
        leaves = leaves;
        stop = λ is. subst IsTrue (ap (λ (s : Seen). s.stopped) adds.may ∙ sym (ap (λ (s : ServerState Site). s.is_stopped) state)) (shows is);
        worn = λ is. absurd (unworn is);
      }

  -- the wire failed, and the worker stopped the server
  pub goes_on_stop : (before now : List (Entry Site BuildFault)) (old new : Kit W S K U G) (left : Option Left) → SameButWire old new → Tells (tells.wire old.wire) (tells.wire new.wire) (OnlyHears heard.Failed) → Adds before now (Stop worker) → Leaves tells left old.wire new.wire (At (state_after before) (Stop worker) ∷ []) → ¬ (left ≡ Some leaving.Stopped) → ¬ (left ≡ Some leaving.Worn) → GoesOn tells worker listen left before now old new
  goes_on_stop before now old new left same wire adds leaves unstopped unworn =
      let state = state_after_one before now (Stop worker) adds.grows in
      record {
        added = Stop worker ∷ [];
        grows = adds.grows;
        legal = (adds.may, tt);
        own = (refl, tt);
        present = ap (λ (s : ServerState Site). s.present) state;
        told = record {
          listener = same.listener;
          closed = tt;
          own = tt;
          served_in_order = Tells-weaker (Hears (At (state_after before) (Stop worker) ∷ [])) (tells.wire old.wire) (tells.wire new.wire) (λ x y h. (heard.Failed ∷ [], h.0, refl)) wire;
          replies_in_order = no_sends tells old.wire new.wire heard.Failed wire;
          moments_in_order = no_moments old new same.clock;
          words = [];
          words_in_order = no_words old new same.luck;
          outcomes = refl;
          shelf = same.shelf;
        };
        leaves = leaves;
        stop = λ is. absurd (unstopped is);
        worn = λ is. absurd (unworn is);
      }

  -- a datagram was heard and served
  pub goes_on_served : (before now : List (Entry Site BuildFault)) (old mid new : Kit W S K U G) (from : Peer) (octets : List ℕ) → SameButWire old mid → Tells (tells.wire old.wire) (tells.wire mid.wire) (OnlyHears (heard.Datagram octets from)) → Serves tells worker listen before now mid new from octets → GoesOn tells worker listen None before now old new
  goes_on_served before now old mid new from octets same wire serves =
      let arrival = arrival_at worker mid.listener listen from octets serves.now in
      let added = serves.turn.0 in
      let passes = serves.turn.2 in
      let mine = placed site_meaning (state_after before) added in
      record {
        added = added;
        grows = serves.turn.1;
        legal = passes.legal;
        own = passes.named;
        present = passes.present;
        told = record {
          listener = serves.listener ∙ same.listener;
          closed = passes.turn.closed;
          own = subst (AllByRecursion (IsAt worker old.listener listen)) (sym passes.turn.serves)
              ((record { worker_is = refl; listener_is = same.listener; kind_is = refl; server_is = refl }), tt);
          served_in_order = Tells-trans (Hears mine) (tells.wire old.wire) (tells.wire mid.wire) (tells.wire new.wire)
              (λ x y z h s. (heard.Datagram octets from ∷ [], s.0 ∙ h.0, ap (map (option_map datagram_of)) (sym passes.turn.asks))) wire serves.wire;
          replies_in_order = subst (λ (rs : List Answer). Tells (tells.wire old.wire) (tells.wire new.wire) (Sends rs)) (sym passes.turn.answers)
              (Tells-trans (Sends serves.replies) (tells.wire old.wire) (tells.wire mid.wire) (tells.wire new.wire)
              (λ x y z h s. (s.1.0, s.1.1 ∙ ap (λ l. l ++ s.1.0) h.1, s.1.2)) wire serves.wire);
          moments_in_order = subst (λ (arrivals : List Arrived). Tells (tells.clock old.clock) (tells.clock new.clock) (GrowsBy (map (λ (a : Arrived). a.now) arrivals))) (sym passes.turn.serves)
              (subst (λ (k : K). Tells (tells.clock k) (tells.clock new.clock) (GrowsBy (serves.now ∷ []))) same.clock serves.clock);
          words = serves.luck ∷ [];
          words_in_order = subst (λ (u : U). Tells (tells.luck u) (tells.luck new.luck) (GrowsBy (serves.luck ∷ []))) same.luck serves.word;
          outcomes = passes.turn.outcome;
          shelf = serves.shelf ∙ same.shelf;
        };
        leaves = (passes.turn.service, Tells-trans StaysOpen (tells.wire old.wire) (tells.wire mid.wire) (tells.wire new.wire) (λ x y z h s. (heard.Datagram octets from ∷ [], s.0 ∙ h.0, (tt, tt))) wire serves.wire);
        stop = λ is. cc;
        worn = λ is. cc;
      }

  -- one run after another
  pub GoesOn-trans : (left : Option Left) (h0 h1 h2 : List (Entry Site BuildFault)) (a b c : Kit W S K U G) → GoesOn tells worker listen None h0 h1 a b → GoesOn tells worker listen left h1 h2 b c → GoesOn tells worker listen left h0 h2 a c
  GoesOn-trans left h0 h1 h2 a b c first second =
      let state : state_after h1 ≡ run site_meaning (state_after h0) first.added = ap state_after first.grows ∙ run-append site_meaning opening h0 first.added in
      let xs = placed site_meaning (state_after h0) first.added in
      let ys = placed site_meaning (state_after h1) second.added in
      let all : xs ++ ys ≡ placed site_meaning (state_after h0) (first.added ++ second.added) =
      ap (λ (s : ServerState Site). xs ++ placed site_meaning s second.added) state ∙ sym (placed-append site_meaning (state_after h0) first.added second.added) in
      record {
        added = first.added ++ second.added;
        grows = second.grows ∙ ap (λ h. h ++ second.added) first.grows ∙ append_assoc h0 first.added second.added;
        legal = IsLegal-append site_meaning (state_after h0) first.added second.added first.legal
            (subst (λ (s : ServerState Site). IsLegal site_meaning s second.added) state second.legal);
        own = All-append (IsOwn worker) first.added second.added first.own second.own;
        present = second.present ∙ first.present;
        told = subst (λ (ps : List (Placed Site BuildFault)). Told tells worker listen a c ps) all
            (Told-trans tells worker listen a b c xs ys first.told second.told);
        leaves = subst (λ (ps : List (Placed Site BuildFault)). Leaves tells left a.wire c.wire ps) all
            (Leaves-join tells a.wire b.wire c.wire xs ys left first.leaves second.leaves);
        stop = second.stop;
        worn = second.worn;
      }
