-- What the wire answered while a reply was waited for, in runs that come to their end.
use Rattle.std.proofs.Common.{◌≡◌, ℕ, zero, suc, ◌<◌, Bool, true, false, cond, ◌&&◌, List, [], ◌∷◌, ◌++◌, length, Option, Some, None, refl, sym, ap, ◌∙◌, subst, arith}
use Rattle.std.specs.Prelude.{◌==◌}
use Rattle.std.specs.List.{AllByRecursion}
use Rattle.std.proofs.lemmas.Bool.{and_from, and_parts, eqb-true, eq-eqb}
use Rattle.rad_outside.specs.declared.listen.Peer.{Peer}
use Rattle.rad_outside.specs.declared.wire.Heard.{Heard}
use Rattle.rad_outside.specs.declared.wire.Heard.TheVariants as heard
use Rattle.rad_wire.specs.Accepts.{Accepts}
use Rattle.radclient.specs.declared.asked.Asked.{Asked}
use Rattle.radclient.specs.Answers.{Act, Ending, Finished, NotMade, SocketFault, Unanswered}
use Rattle.radclient.specs.Client.{awaited}
use Rattle.radclient.specs.Exchanges.{IsNoReply}
use Rattle.radclient.specs.Judging.{Judged, Reply, Other, Broken, judged, is_accepted, is_peer}
use Rattle.radclient.proofs.Accepting.{accepted_no, accepted_yes}
use Rattle.radclient.proofs.Awaiting.{judged_reply, resumed}

-- a run came to its end
abbrev pub HasEnded : Ending → Type 0
HasEnded (Finished bad) = Unit {0}
HasEnded (NotMade reason) = ⊥
HasEnded SocketFault = ⊥
HasEnded Unanswered = ⊥

peer_yes : (one other : Peer) → is_peer one other ≡ true → one ≡ other
peer_yes one other is =
    let parts = and_parts (one.addr == other.addr) (one.port == other.port) is in
    ap (λ (a : ℕ). record { addr = a; port = one.port }) (eqb-true one.addr other.addr parts.0)
    ∙ ap (λ (p : ℕ). record { addr = other.addr; port = p }) (eqb-true one.port other.port parts.1)

peer_no : (one other : Peer) → one ≡ other → is_peer one other ≡ true
peer_no one other same =
    and_from (one.addr == other.addr) (one.port == other.port)
    (eq-eqb one.addr other.addr (ap (λ (p : Peer). p.addr) same)) (eq-eqb one.port other.port (ap (λ (p : Peer). p.port) same))

-- the octets of a reply
abbrev reply_in : Judged → List ℕ
reply_in (Reply octets) = octets
reply_in Other = []
reply_in Broken = []

datagram_is : (asked : Asked) (request octets : List ℕ) (from : Peer) (reply : List ℕ) (b : Bool) → (is_peer from asked.server && is_accepted request octets asked.secret) ≡ b
    → cond b (Reply octets) Other ≡ Reply reply → (heard.Datagram octets from ≡ heard.Datagram reply asked.server) × Accepts request reply asked.secret
datagram_is asked request octets from reply true both is =
    let same : octets ≡ reply = ap reply_in is in
    let parts = and_parts (is_peer from asked.server) (is_accepted request octets asked.secret) both in (
      ap (λ (o : List ℕ). heard.Datagram o from) same ∙ ap (λ (p : Peer). heard.Datagram reply p) (peer_yes from asked.server parts.0),
      subst (λ (o : List ℕ). Accepts request o asked.secret) same (accepted_yes request octets asked.secret parts.1),
    )
datagram_is asked request octets from reply false both is = cc

judged_is : (asked : Asked) (request : List ℕ) (answer : Heard) (reply : List ℕ) → judged asked request answer ≡ Reply reply
    → (answer ≡ heard.Datagram reply asked.server) × Accepts request reply asked.secret
judged_is asked request (heard.Datagram octets from) reply is =
    datagram_is asked request octets from reply (is_peer from asked.server && is_accepted request octets asked.secret) refl is
judged_is asked request heard.Quiet reply is = cc
judged_is asked request heard.Ended reply is = cc
judged_is asked request heard.Failed reply is = cc

clash : (octets : List ℕ) → Reply octets ≡ Other → ⊥
clash octets same = cc

judged_no : (asked : Asked) (request : List ℕ) (answer : Heard) → judged asked request answer ≡ Other → IsNoReply asked request answer
judged_no asked request (heard.Datagram octets from) is = λ same accepted.
    let both = and_from (is_peer from asked.server) (is_accepted request octets asked.secret) (peer_no from asked.server same) (accepted_no request octets asked.secret accepted) in
    clash octets (sym (judged_reply asked request octets from both) ∙ is)
judged_no asked request heard.Quiet is = tt
judged_no asked request heard.Ended is = tt
judged_no asked request heard.Failed is = cc

-- these answers end with the first reply, and fewer came before than were waited for
pub record Found (asked : Asked) (request : List ℕ) (limit : ℕ) (used : List Heard) (reply : List ℕ) : Type 0 where
  pub before : List Heard
  pub last : used ≡ before ++ heard.Datagram reply asked.server ∷ []
  pub accepted : Accepts request reply asked.secret
  pub first : AllByRecursion (IsNoReply asked request) before
  pub soon : length before < limit

-- so many answers came, and none was the reply
pub record Missed (asked : Asked) (request : List ℕ) (limit : ℕ) (used : List Heard) : Type 0 where
  pub waited : length used ≡ limit
  pub none : AllByRecursion (IsNoReply asked request) used

abbrev pub WaitedFor : Asked → List ℕ → ℕ → List Heard → Option (List ℕ) → Type 0
WaitedFor asked request limit used (Some reply) = Found asked request limit used reply
WaitedFor asked request limit used None = Missed asked request limit used

one_more : (found : Option (List ℕ)) (asked : Asked) (request : List ℕ) (answer : Heard) (waits : ℕ) (used : List Heard) → IsNoReply asked request answer
    → WaitedFor asked request waits used found → WaitedFor asked request (suc waits) (answer ∷ used) found
one_more (Some reply) asked request answer waits used other f = record {
  before = answer ∷ f.before;
  last = ap (λ (l : List Heard). answer ∷ l) f.last;
  accepted = f.accepted;
  first = (other, f.first);
  soon = omega (arith, f.soon);
}
one_more None asked request answer waits used other f = record { waited = ap (λ (n : ℕ). suc n) f.waited; none = (other, f.none) }

-- the reply was waited for once, and what came of it is done next
pub record Waited (asked : Asked) (request : List ℕ) (waits : ℕ) (next : Option (List ℕ) → Act) (taken : List Bool) (answers : List Heard) (words : List ℕ) : Type 0 where
  pub used : List Heard
  pub rest : List Heard
  pub found : Option (List ℕ)
  pub split : answers ≡ used ++ rest
  pub facts : WaitedFor asked request waits used found
  pub runs : awaited asked request waits next (record { taken = taken; heard = answers; words = words }) ≡ next found (record { taken = taken; heard = rest; words = words })

module _ (asked : Asked) (request : List ℕ) (next : Option (List ℕ) → Act) (taken : List Bool) (words : List ℕ) where
  heard_all : (waits : ℕ) (answer : Heard) (more : List Heard) (j : Judged) → judged asked request answer ≡ j
      → HasEnded (resumed asked request waits next j (record { taken = taken; heard = more; words = words })).ending
      → (HasEnded (awaited asked request waits next (record { taken = taken; heard = more; words = words })).ending → Waited asked request waits next taken more words)
      → Waited asked request (suc waits) next taken (answer ∷ more) words
  unfolding awaited
  heard_all waits answer more (Reply reply) is ends below =
      let facts = judged_is asked request answer reply is in record {
        used = answer ∷ [];
        rest = more;
        found = Some reply;
        split = refl;
        facts = record { before = []; last = ap (λ (a : Heard). a ∷ []) facts.0; accepted = facts.1; first = tt; soon = omega arith };
        runs = ap (λ (j : Judged). resumed asked request waits next j (record { taken = taken; heard = more; words = words })) is;
      }
  heard_all waits answer more Other is ends below =
      let w = below ends in record {
        used = answer ∷ w.used;
        rest = w.rest;
        found = w.found;
        split = ap (λ (l : List Heard). answer ∷ l) w.split;
        facts = one_more w.found asked request answer waits w.used (judged_no asked request answer is) w.facts;
        runs = ap (λ (j : Judged). resumed asked request waits next j (record { taken = taken; heard = more; words = words })) is ∙ w.runs;
      }
  heard_all waits answer more Broken is ends below = absurd ends

  pub awaited_all : (waits : ℕ) (answers : List Heard) → HasEnded (awaited asked request waits next (record { taken = taken; heard = answers; words = words })).ending
      → Waited asked request waits next taken answers words
  unfolding awaited
  awaited_all zero answers ends = record { used = []; rest = answers; found = None; split = refl; facts = record { waited = refl; none = tt }; runs = refl }
  awaited_all (suc waits) [] ends = absurd ends
  awaited_all (suc waits) (answer ∷ more) ends =
      heard_all waits answer more (judged asked request answer) refl ends (λ later. awaited_all waits more later)
