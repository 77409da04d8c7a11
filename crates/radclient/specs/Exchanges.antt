-- What came of each packet of a run, as whoever uses the client speaks of it: RFC 2865 section 2, radclient(1) of FreeRADIUS.
-- Nothing here follows the program's steps.
use Rattle.std.specs.Prelude.{ℕ, zero, suc, ◌≡◌, ◌+◌, ◌*◌, ◌%◌, ◌<◌, ◌≤◌, ◌⊎◌, true, List, [], ◌∷◌, ◌++◌, length, map, replicate, Option, Some, None, Ok}
use Rattle.std.specs.List.{AllByRecursion, flat_map}
use Rattle.rad_outside.specs.declared.wire.Heard.{Heard}
use Rattle.rad_outside.specs.declared.wire.Heard.TheVariants as heard
use Rattle.rad_outside.specs.declared.wire.Sent.{Sent}
use Rattle.rad_outside.specs.Files.{FilesTold}
use Rattle.rad_value.specs.declared.values.Pair.{Pair}
use Rattle.rad_value.specs.PairLists.{PairLists}
use Rattle.rad_packet.specs.Packet.{code_of}
use Rattle.rad_wire.specs.Accepts.{Accepts}
use Rattle.radclient.specs.declared.asked.Asked.{Asked}
use Rattle.radclient.specs.Client.{repeated}
use Rattle.radclient.specs.Groups.{groups_of}
use Rattle.radclient.specs.Lines.{closing_lines, sent_lines, unless_quiet}
use Rattle.radclient.specs.Making.{made}
use Rattle.radclient.specs.Program.{Holds, pairs_of_groups}
use Rattle.radclient.specs.Seen.{Seen, Gained, Gains}
use Rattle.radclient.specs.Words.{Line, line_of}

-- A packet's exchange with the server: its Identifier, the pairs of its group, the random words that it took, its octets,
-- how often they were sent, what the wire answered while its reply was waited for, in order, and the reply, if one came.
pub record Exchange : Type 0 where
  pub id : ℕ
  pub pairs : List Pair
  pub words : List ℕ
  pub request : List ℕ
  pub times : ℕ
  pub heard : List Heard
  pub reply : Option (List ℕ)

-- An answer of the wire isn't the reply to a request: it is no datagram that came from the server and is accepted for the
-- request (RFC 2865 section 3, RFC 2866 section 3, RFC 3579 section 3.2), and the wire didn't fail.
abbrev pub IsNoReply : Asked → List ℕ → Heard → Type 0
IsNoReply asked request (heard.Datagram octets from) = from ≡ asked.server → ¬ Accepts request octets asked.secret
IsNoReply asked request heard.Quiet = Unit {0}
IsNoReply asked request heard.Ended = Unit {0}
IsNoReply asked request heard.Failed = ⊥

-- The last answer was the reply: a datagram from the server that is accepted for the octets that were sent, and no answer
-- before it was. So many answers were waited for after each send but the last, and fewer after that one before the reply.
pub record IsReplied (asked : Asked) (exchange : Exchange) (reply : List ℕ) : Type 0 where
  pub before : List Heard
  pub last : exchange.heard ≡ before ++ heard.Datagram reply asked.server ∷ []
  pub accepted : Accepts exchange.request reply asked.secret
  pub first : AllByRecursion (IsNoReply asked exchange.request) before
  pub due : exchange.times * asked.waits ≤ length before + asked.waits
  pub soon : length before < exchange.times * asked.waits

-- No reply came: the octets were sent as often as is asked for, each time so many answers were waited for as are asked for,
-- and none of them was the reply.
pub record IsUnreplied (asked : Asked) (exchange : Exchange) : Type 0 where
  pub sent : exchange.times ≡ asked.tries
  pub waited : length exchange.heard ≡ asked.tries * asked.waits
  pub none : AllByRecursion (IsNoReply asked exchange.request) exchange.heard

-- What came of an exchange is its reply, or that there was none.
abbrev pub IsAnswered : Asked → Exchange → Option (List ℕ) → Type 0
IsAnswered asked exchange (Some reply) = IsReplied asked exchange reply
IsAnswered asked exchange None = IsUnreplied asked exchange

-- The exchange of the packet behind so many: its Identifier is that number modulo 256, its octets are the request of its pairs
-- and of two random words, they were sent so often at most as is asked for, and it was answered or not.
pub record IsExchange (asked : Asked) (place : ℕ) (exchange : Exchange) : Type 0 where
  pub id : exchange.id ≡ place % 256
  pub high : ℕ
  pub low : ℕ
  pub words : exchange.words ≡ high ∷ low ∷ []
  pub request : made asked exchange.id high low exchange.pairs ≡ Ok exchange.request
  pub times : exchange.times ≤ asked.tries
  pub answered : IsAnswered asked exchange exchange.reply

-- The exchanges of packets, one after another, behind so many.
unfoldable pub AreExchanges : Asked → ℕ → List Exchange → Type 0
AreExchanges asked place [] = Unit {0}
AreExchanges asked place (exchange ∷ more) = IsExchange asked place exchange × AreExchanges asked (suc place) more

-- The sends of an exchange: the same octets to the server each time, which the wire took.
abbrev pub sends_of : Asked → Exchange → List Sent
sends_of asked exchange = replicate exchange.times (record { to = asked.server; octets = exchange.request; done = true })

-- Lines of a request, where it was sent.
abbrev pub where_sent : ℕ → List ℕ → List ℕ
where_sent zero lines = []
where_sent (suc times) lines = lines

-- What is printed of an exchange: that the request was sent, once, and its reply or that there was none.
abbrev pub exchange_lines : Asked → Exchange → List ℕ
exchange_lines asked exchange = unless_quiet asked
    (where_sent exchange.times (sent_lines asked exchange.request exchange.pairs) ++ closing_lines asked exchange.id exchange.reply)

-- What devices told of a run over groups of pairs is these exchanges, one after another, one for each packet: all sends, all
-- that was heard, all random words and all that was printed.
pub record IsAccount (asked : Asked) (groups : List (List Pair)) (gained : Gained) (exchanges : List Exchange) : Type 0 where
  pub packets : map (λ (exchange : Exchange). exchange.pairs) exchanges ≡ repeated asked.count groups
  pub each : AreExchanges asked 0 exchanges
  pub sent : gained.sent ≡ flat_map (sends_of asked) exchanges
  pub heard : gained.heard ≡ flat_map (λ (exchange : Exchange). exchange.heard) exchanges
  pub words : gained.words ≡ flat_map (λ (exchange : Exchange). exchange.words) exchanges
  pub printed : gained.printed ≡ flat_map (exchange_lines asked) exchanges

-- A packet got a good reply: an Access-Accept, an Accounting-Response or an Access-Challenge.
abbrev pub IsGood : Option (List ℕ) → Type 0
IsGood (Some reply) = (code_of reply ≡ 2) ⊎ ((code_of reply ≡ 5) ⊎ (code_of reply ≡ 11))
IsGood None = ⊥

-- A packet got an Access-Reject, or no reply.
abbrev pub IsBad : Option (List ℕ) → Type 0
IsBad (Some reply) = code_of reply ≡ 3
IsBad None = Unit {0}

-- Each packet got a good reply.
abbrev pub AllGood : List Exchange → Type 0
AllGood exchanges = AllByRecursion (λ (exchange : Exchange). IsGood exchange.reply) exchanges

-- Some packet got an Access-Reject, or no reply.
unfoldable pub OneBad : List Exchange → Type 0
OneBad [] = ⊥
OneBad (exchange ∷ more) = IsBad exchange.reply ⊎ OneBad more

-- A whole run came to its end: by its words a line is asked for, the file that the line names has these octets, the octets are
-- these groups, and what the devices told of the run is these exchanges.
pub record IsWholeRun (words : List (List ℕ)) (files_before files_now : Option FilesTold) (before now : Seen) (exchanges : List Exchange) : Type 0 where
  pub line : Line
  pub asked : line_of words ≡ Some line
  pub octets : List ℕ
  pub read : Holds files_before files_now line.file octets
  pub groups : List PairLists
  pub grouped : groups_of octets ≡ Ok groups
  pub gained : Gained
  pub gains : Gains gained before now
  pub account : IsAccount line.asked (pairs_of_groups groups) gained exchanges
