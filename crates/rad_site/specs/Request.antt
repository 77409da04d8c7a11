-- What a site answers to a request. Codes after RFC 2865 section 4; the flow is this project's own, after FreeRADIUS.
use Rattle.std.specs.Prelude.{ℕ, ◌≡◌, List, [], Bool, Option, Some, None, replicate}
use Rattle.std.specs.Arc.{arc_value}
use Rattle.rad_outside.specs.declared.listen.Peer.{Peer}
use Rattle.rad_value.specs.declared.scope.Scope.{Scope}
use Rattle.rad_value.specs.PairLists.{PairLists}
use Rattle.rad_packet.specs.declared.client.Client.{Client}
use Rattle.rad_packet.specs.Packet.{packet_of, authenticator_of}
use Rattle.rad_clients.specs.Networks as networks
use Rattle.rad_wire.specs.Pairs.{pairs_of, requested}
use Rattle.rad_wire.specs.Reply.{reply_octets}
use Rattle.rad_policy.specs.declared.arrival.Arrived.{Arrived}
use Rattle.rad_policy.specs.declared.outcome.Outcome.{Outcome}
use Rattle.rad_policy.specs.declared.outcome.Outcome.TheVariants as outcome
use Rattle.rad_policy.specs.Policy.{Reply, Replies, Withholds}
use Rattle.mod_base.specs.Situation.{Situation}
use Rattle.rad_access.specs.declared.verdict.Verdict.{Verdict}
use Rattle.rad_access.specs.Access.{has_server}
use Rattle.rad_access.specs.Decided.{decided}
use Rattle.rad_access.specs.Responses.{response_of}
use Rattle.rad_site.specs.Site.{Site}

-- The client of a source address: of those whose network has it, the one with the longest prefix.
abbrev pub client_of : Site → ℕ → Option Client
client_of site addr = networks.client_of addr site.clients

-- Whether the site has a server of this name.
abbrev pub has_server_of : Site → List ℕ → Bool
has_server_of site name = has_server site.policies.table name

-- The secret shared with a source.
abbrev pub secret_of : Site → ℕ → List ℕ
secret_of site addr = elim (client_of site addr) [ None ↦ [] | Some client ↦ client.secret ]

-- The scope of a request as its policy begins: nothing is captured, no loop runs, no code was given and no choice was made.
abbrev pub begun_scope : PairLists → Peer → ℕ → ℕ → List ℕ → Scope
begun_scope lists from moment luck authenticator = record {
  lists = lists;
  captures = replicate 9 None;
  loops = replicate 8 None;
  last = None;
  choices = 0;
  from = from;
  moment = moment;
  luck = luck;
  authenticator = authenticator;
}

-- The situation in which the policy of a request begins, with these answers of devices still to come. There are no sessions
-- yet.
abbrev pub begun_in : Scope → List Bool → Situation
begun_in scope answers = record { scope = scope; sessions = []; answers = answers; effects = [] }

-- The situation at a request's end and what became of it, as its server's policy has it.
abbrev pub decided_by : Site → Arrived → List ℕ → List ℕ → ℕ → ℕ → List Bool → Situation × Verdict
decided_by site arrival packet secret moment luck answers =
    decided site.policies site.dict arrival.server
    (begun_in (begun_scope (requested (pairs_of packet secret site.dict)) arrival.from moment luck (authenticator_of packet)) answers)

-- The reply of a code: a packet of the reply list, or none.
abbrev pub reply_with : PairLists → Option ℕ → List ℕ → List ℕ → Reply
reply_with lists None packet secret = Withholds
reply_with lists (Some code) packet secret = Replies (reply_octets code lists.reply packet secret)

-- The reply of a verdict: a packet of the reply list by the code that the verdict and the control list make, or none.
abbrev pub reply_to : PairLists → Verdict → List ℕ → List ℕ → Reply
reply_to lists verdict packet secret = reply_with lists (response_of lists verdict) packet secret

-- What an authentic access request is answered at a moment, with a luck word and these answers of devices.
unfoldable pub access_of : Site → Arrived → ℕ → ℕ → List Bool → Reply
access_of site arrival moment luck answers =
    let packet = packet_of arrival.bytes in
    let secret = secret_of site arrival.from.addr in
    let end = decided_by site arrival packet secret moment luck answers in
    reply_to end.0.scope.lists end.1 packet secret

-- The outcome is this reply, unless memory ran out.
abbrev pub IsOutcome : Reply → Outcome → Type 0
IsOutcome reply (outcome.Sent octets) = reply ≡ Replies (arc_value octets)
IsOutcome reply outcome.Withheld = reply ≡ Withholds
IsOutcome reply outcome.NoMemory = Unit {0}

-- The outcome is what the site answers by some answers of devices, unless memory ran out.
abbrev pub Answers : Site → Arrived → ℕ → ℕ → Outcome → Type 0
Answers site arrival moment luck outcome = (answers : List Bool) × IsOutcome (access_of site arrival moment luck answers) outcome
