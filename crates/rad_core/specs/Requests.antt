-- The table of requests: those in progress, and the replies that are kept for repeats. This project's own, after
-- RFC 2865 sections 2.5 and 3 and RFC 5080 section 2.2.2.
use Rattle.std.specs.Prelude.{ℕ, ◌+◌, ◌≤◌, ◌==◌, ◌&&◌, List, [], ◌∷◌, ◌++◌, length, Option, Some, None, Bool, not, filter, find, nat_lt}
use Rattle.std.specs.List.{AllByRecursion, before_first, after_first}
use Rattle.std.specs.Option.{option_map}
use Rattle.std.specs.Str.{bytes_eq}
use Rattle.rad_outside.specs.declared.listen.Peer.{Peer}
use Rattle.rad_packet.specs.Packet.{packet_of}
use Rattle.rad_policy.specs.declared.arrival.Arrived.{Arrived}
use Rattle.rad_policy.specs.declared.ending.Ending.{Ending}
use Rattle.rad_policy.specs.declared.ending.Ending.TheVariants.{Sent, Withheld, OutOfMemory}

-- What a request is known by: one listener, one source, and one packet, whatever padding follows that.
pub record RequestKey : Type 0 where
  pub listener : ℕ
  pub source : Peer
  pub packet : List ℕ

-- The key of an arrival.
abbrev pub key_of : Arrived → RequestKey
key_of arrival = record { listener = arrival.listener; source = arrival.from; packet = packet_of arrival.bytes }

-- Whether two keys are the same.
abbrev pub same_key : RequestKey → RequestKey → Bool
same_key a b = a.listener == b.listener && (a.source.addr == b.source.addr && (a.source.port == b.source.port && bytes_eq a.packet b.packet))

-- A request in progress: its place in the history, and the generation and the moment of that place.
pub record InProgress (P : Type 0) : Type 0 where
  pub place : ℕ
  pub arrival : Arrived
  pub generation : P
  pub moment : ℕ

-- A reply that is kept for repeats of its request, and the last second of its keeping time.
pub record KeptReply : Type 0 where
  pub key : RequestKey
  pub octets : List ℕ
  pub until : ℕ

-- The table.
pub record Requests (P : Type 0) : Type 0 where
  pub in_progress : List (InProgress P)
  pub kept : List KeptReply

-- The table without an entry.
abbrev pub no_requests : {P : Type 0} → Requests P
no_requests = record { in_progress = []; kept = [] }

-- How many entries the table has.
abbrev pub size_of : {P : Type 0} → Requests P → ℕ
size_of table = length table.kept + length table.in_progress

-- Whether a reply is kept for this key.
abbrev pub is_kept_for : RequestKey → KeptReply → Bool
is_kept_for key kept = same_key kept.key key

-- Whether a request in progress has this key.
abbrev pub is_run_for : {P : Type 0} → RequestKey → InProgress P → Bool
is_run_for key row = same_key (key_of row.arrival) key

-- The reply that is kept for a key.
abbrev pub reply_for : {P : Type 0} → RequestKey → Requests P → Option (List ℕ)
reply_for key table = option_map (λ (kept : KeptReply). kept.octets) (find (is_kept_for key) table.kept)

-- The place of the request in progress that has a key.
abbrev pub place_for : {P : Type 0} → RequestKey → Requests P → Option ℕ
place_for {P} key table = option_map (λ (row : InProgress P). row.place) (find (is_run_for key) table.in_progress)

-- Whether the keeping time of a reply lasts at a moment.
abbrev pub lasts_at : ℕ → KeptReply → Bool
lasts_at moment kept = not (nat_lt kept.until moment)

-- Every reply's keeping time lasts to a moment.
abbrev pub LastTo : ℕ → List KeptReply → Type 0
LastTo moment kept = AllByRecursion (λ (reply : KeptReply). moment ≤ reply.until) kept

-- The table at a moment: the replies whose keeping time is over have left.
abbrev pub table_at : {P : Type 0} → ℕ → Requests P → Requests P
table_at moment table = record table { kept = filter (lasts_at moment) table.kept }

-- One more request is in progress.
abbrev pub with_row : {P : Type 0} → InProgress P → Requests P → Requests P
with_row row table = record table { in_progress = table.in_progress ++ row ∷ [] }

-- Whether a request in progress has this place.
abbrev pub is_at : {P : Type 0} → ℕ → InProgress P → Bool
is_at place row = row.place == place

-- The requests without the one of a place.
abbrev pub without_place : {P : Type 0} → ℕ → List (InProgress P) → List (InProgress P)
without_place place rows = before_first (is_at place) rows ++ after_first (is_at place) rows

-- The reply that an ending leaves to be kept.
abbrev pub reply_in : Ending → Option (List ℕ)
reply_in (Sent octets) = Some octets
reply_in Withheld = None
reply_in OutOfMemory = None

-- What is kept of a request that ends at a moment, where its generation keeps replies for so many seconds.
abbrev pub kept_of : {P : Type 0} → (P → ℕ) → ℕ → List ℕ → InProgress P → KeptReply
kept_of delay moment octets row = record {
  key = key_of row.arrival;
  octets = octets;
  until = moment + delay row.generation;
}

-- The same, where the request is in progress and its ending leaves a reply.
abbrev pub kept_by : {P : Type 0} → (P → ℕ) → ℕ → Option (List ℕ) → Option (InProgress P) → List KeptReply
kept_by delay moment None row = []
kept_by delay moment (Some octets) None = []
kept_by delay moment (Some octets) (Some row) = kept_of delay moment octets row ∷ []

-- The request of a place has ended at a moment: it is in progress no more, and its reply is kept, where it has one.
abbrev pub without_request : {P : Type 0} → (P → ℕ) → ℕ → ℕ → Option (List ℕ) → Requests P → Requests P
without_request delay moment place reply table = record {
  in_progress = without_place place table.in_progress;
  kept = table.kept ++ kept_by delay moment reply (find (is_at place) table.in_progress);
}
