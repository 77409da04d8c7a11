-- Answers of the wire, one after another.
use Rattle.std.proofs.Common.{◌≡◌, ℕ, zero, suc, ◌-◌, ◌<◌, ◌≤◌, Bool, true, false, cond, ◌&&◌, List, [], ◌∷◌, ◌++◌, Option, Some, None, refl, sym, ap, ◌∙◌, subst, append-nil, arith}
use Rattle.rad_outside.specs.declared.listen.Peer.{Peer}
use Rattle.rad_outside.specs.declared.wire.Heard.TheVariants as heard
use Rattle.rad_outside.specs.declared.wire.Heard.{Heard}
use Rattle.rad_outside.specs.Telling.{Tells}
use Rattle.rad_outside.specs.Wire.{WireTold}
use Rattle.radclient.specs.declared.asked.Asked.{Asked}
use Rattle.radclient.specs.Answers.{Act, ToCome, SocketFault, ended}
use Rattle.radclient.specs.Client.{awaited}
use Rattle.radclient.specs.Judging.{Judged, Reply, Other, Broken, judged, is_accepted, is_peer}
use Rattle.radclient.specs.Seen.{Seen, Gains, Goes}
use Rattle.radclient.proofs.Reaching.{Tells-weaker, Gains-nothing}

-- the wire was asked once
abbrev pub after_ask : Seen → Option WireTold → ℕ → Seen
after_ask before wire faults = record before { wire = wire; wire_faults = faults }

gains_answer : (answer : Heard) (before : Seen) (wire : Option WireTold) (faults : ℕ) → before.wire_faults ≤ faults
    → Tells before.wire wire (λ old new. (new.heard ≡ old.heard ++ answer ∷ []) × (new.sent ≡ old.sent))
    → Gains (record { heard = answer ∷ []; sent = []; words = []; printed = [] }) before (after_ask before wire faults)
gains_answer answer before wire faults later tells = record {
  wire = Tells-weaker (λ old new. (new.heard ≡ old.heard ++ answer ∷ []) × (new.sent ≡ old.sent ++ [])) before.wire wire (λ x y h. (h.0, h.1 ∙ sym (append-nil x.sent))) tells;
  luck = (Gains-nothing before).luck;
  out = (Gains-nothing before).out;
  wire_later = later;
  out_later = (Gains-nothing before).out_later;
}

-- what is done by what an answer is
abbrev pub resumed : Asked → List ℕ → ℕ → (Option (List ℕ) → Act) → Judged → Act
resumed asked request waits next judgement = elim judgement [
  | Reply octets ↦ next (Some octets)
  | Other ↦ awaited asked request waits next
  | Broken ↦ ended SocketFault
]

module _ (asked : Asked) (request : List ℕ) (next : Option (List ℕ) → Act) (before : Seen) (wire : Option WireTold) (faults : ℕ) (later : before.wire_faults ≤ faults) (answer : Heard) (tells : Tells before.wire wire (λ old new. (new.heard ≡ old.heard ++ answer ∷ []) × (new.sent ≡ old.sent))) where
  heard_as : (waits : ℕ) (to : Act) → ((come : ToCome) → resumed asked request waits next (judged asked request answer) come ≡ to come)
      → Goes (awaited asked request (suc waits) next) to before (after_ask before wire faults)
  unfolding awaited
  heard_as waits to same = record { gained = record { heard = answer ∷ []; sent = []; words = []; printed = [] }; gains = gains_answer answer before wire faults later tells; runs = same }

  pub heard_reply : (left : ℕ) (reply : List ℕ) → 0 < left → judged asked request answer ≡ Reply reply
      → Goes (awaited asked request left next) (next (Some reply)) before (after_ask before wire faults)
  heard_reply zero reply some is = absurd (omega arith)
  heard_reply (suc waits) reply some is = heard_as waits (next (Some reply)) (λ come. ap (λ (j : Judged). resumed asked request waits next j come) is)

  pub heard_other : (left : ℕ) → 0 < left → judged asked request answer ≡ Other
      → Goes (awaited asked request left next) (awaited asked request (left - 1) next) before (after_ask before wire faults)
  heard_other zero some is = absurd (omega arith)
  heard_other (suc waits) some is =
      let e : waits ≡ suc waits - 1 = omega arith in
      subst (λ (n : ℕ). Goes (awaited asked request (suc waits) next) (awaited asked request n next) before (after_ask before wire faults)) e
      (heard_as waits (awaited asked request waits next) (λ come. ap (λ (j : Judged). resumed asked request waits next j come) is))

  pub heard_broken : (left : ℕ) → 0 < left → judged asked request answer ≡ Broken
      → Goes (awaited asked request left next) (ended SocketFault) before (after_ask before wire faults)
  heard_broken zero some is = absurd (omega arith)
  heard_broken (suc waits) some is = heard_as waits (ended SocketFault) (λ come. ap (λ (j : Judged). resumed asked request waits next j come) is)

-- a datagram is the reply where the test says so, and else another answer
pub judged_reply : (asked : Asked) (request octets : List ℕ) (from : Peer) → (is_peer from asked.server && is_accepted request octets asked.secret) ≡ true → judged asked request (heard.Datagram octets from) ≡ Reply octets
judged_reply asked request octets from is = ap (λ (b : Bool). cond b (Reply octets) Other) is

pub judged_other : (asked : Asked) (request octets : List ℕ) (from : Peer) → (is_peer from asked.server && is_accepted request octets asked.secret) ≡ false → judged asked request (heard.Datagram octets from) ≡ Other
judged_other asked request octets from is = ap (λ (b : Bool). cond b (Reply octets) Other) is

-- no answers are left
pub awaited_none : (asked : Asked) (request : List ℕ) (next : Option (List ℕ) → Act) (left : ℕ) → left ≤ 0 → (come : ToCome) → awaited asked request left next come ≡ next None come
unfolding awaited
awaited_none asked request next zero none come = refl
awaited_none asked request next (suc left) none come = absurd (omega arith)
