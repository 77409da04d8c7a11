-- Datagrams that are handed to the wire, and requests that are sent again.
use Rattle.std.proofs.Common.{◌≡◌, ℕ, zero, suc, ◌-◌, ◌<◌, ◌≤◌, Bool, true, false, List, [], ◌∷◌, ◌++◌, Option, Some, None, refl, sym, ap, ◌∙◌, append-nil, arith}
use Rattle.rad_outside.specs.declared.listen.Peer.{Peer}
use Rattle.rad_outside.specs.Telling.{Tells}
use Rattle.rad_outside.specs.Wire.{WireTold}
use Rattle.radclient.specs.declared.asked.Asked.{Asked}
use Rattle.radclient.specs.Answers.{Act, SocketFault, ended, sending}
use Rattle.radclient.specs.Client.{awaited, sent_once, tried}
use Rattle.radclient.specs.Seen.{Seen, Gains, Goes}
use Rattle.radclient.proofs.Awaiting.{after_ask}
use Rattle.radclient.proofs.Reaching.{Tells-weaker, Gains-nothing, Goes-same}

module _ (to : Peer) (octets : List ℕ) (before : Seen) (wire : Option WireTold) (faults : ℕ) (later : before.wire_faults ≤ faults) where
  gains_send : (done : Bool) → Tells before.wire wire (λ old new. (new.heard ≡ old.heard) × (new.sent ≡ old.sent ++ record { to = to; octets = octets; done = done } ∷ []))
      → Gains (record { heard = []; sent = record { to = to; octets = octets; done = done } ∷ []; words = []; printed = [] }) before (after_ask before wire faults)
  gains_send done tells = record {
    wire = Tells-weaker (λ old new. (new.heard ≡ old.heard ++ []) × (new.sent ≡ old.sent ++ record { to = to; octets = octets; done = done } ∷ [])) before.wire wire (λ x y h. (h.0 ∙ sym (append-nil x.heard), h.1)) tells;
    luck = (Gains-nothing before).luck;
    out = (Gains-nothing before).out;
    wire_later = later;
    out_later = (Gains-nothing before).out_later;
  }

  pub sent_whole : (next : Act) → Tells before.wire wire (λ old new. (new.heard ≡ old.heard) × (new.sent ≡ old.sent ++ record { to = to; octets = octets; done = true } ∷ []))
      → Goes (sending (record { to = to; octets = octets }) next) next before (after_ask before wire faults)
  sent_whole next tells = record {
    gained = record { heard = []; sent = record { to = to; octets = octets; done = true } ∷ []; words = []; printed = [] };
    gains = gains_send true tells;
    runs = λ come. refl;
  }

  pub sent_badly : (next : Act) → Tells before.wire wire (λ old new. (new.heard ≡ old.heard) × (new.sent ≡ old.sent ++ record { to = to; octets = octets; done = false } ∷ []))
      → Goes (sending (record { to = to; octets = octets }) next) (ended SocketFault) before (after_ask before wire faults)
  sent_badly next tells = record {
    gained = record { heard = []; sent = record { to = to; octets = octets; done = false } ∷ []; words = []; printed = [] };
    gains = gains_send false tells;
    runs = λ come. refl;
  }

-- what is done by what was found: nothing more, or the request is sent again
abbrev pub again : Asked → List ℕ → List ℕ → ℕ → (Option (List ℕ) → Act) → Option (List ℕ) → Act
again asked request lines left next found = elim found [
  | Some reply ↦ next (Some reply)
  | None ↦ tried asked request lines left next
]

abbrev pub one_try : Asked → List ℕ → List ℕ → ℕ → (Option (List ℕ) → Act) → Act
one_try asked request lines left next =
    sent_once asked request lines left (awaited asked request asked.waits (again asked request lines (left - 1) next))

module _ (asked : Asked) (request lines : List ℕ) (next : Option (List ℕ) → Act) where
  pub tries_once : (left : ℕ) → 0 < left → (a : Seen) → Goes (tried asked request lines left next) (one_try asked request lines left next) a a
  unfolding tried
  tries_once zero some a = absurd (omega arith)
  tries_once (suc left) some a =
      let e : left ≡ suc left - 1 = omega arith in
      Goes-same (tried asked request lines (suc left) next) (one_try asked request lines (suc left) next) a
      (λ come. ap (λ (n : ℕ). sent_once asked request lines (suc left) (awaited asked request asked.waits (again asked request lines n next)) come) e)

  pub tries_none : (left : ℕ) → left ≤ 0 → (a : Seen) → Goes (tried asked request lines left next) (next None) a a
  unfolding tried
  tries_none zero none a = Goes-same (tried asked request lines zero next) (next None) a (λ come. refl)
  tries_none (suc left) none a = absurd (omega arith)
