-- What the client does: radclient(1) of FreeRADIUS, in this project's profile.
use Rattle.std.specs.Prelude.{ℕ, zero, suc, ◌+◌, ◌-◌, ◌^◌, ◌%◌, min, ◌==◌, ◌||◌, Bool, true, false, List, [], ◌∷◌, Option, Some, None, Ok, Err, replicate, if◌then◌else◌}
use Rattle.std.specs.List.{flat_map}
use Rattle.rad_value.specs.declared.values.Pair.{Pair}
use Rattle.rad_packet.specs.Packet.{code_of}
use Rattle.radclient.specs.declared.asked.Asked.{Asked}
use Rattle.radclient.specs.declared.stop.Unmade.TheVariants as reason
use Rattle.radclient.specs.Answers.{Act, Finished, NotMade, SocketFault, ended, saying, sending, asking, drawing}
use Rattle.radclient.specs.Judging.{Reply, Other, Broken, judged}
use Rattle.radclient.specs.Lines.{unless_quiet, sent_lines, closing_lines}
use Rattle.radclient.specs.Making.{is_too_long, made}

-- Asks for the reply to a request, until it comes or so many answers of the wire were used: a datagram that isn't from the
-- server or isn't accepted uses one, and so does that nothing came.
unfoldable pub awaited : Asked → List ℕ → ℕ → (Option (List ℕ) → Act) → Act
awaited asked request zero next = next None
awaited asked request (suc waits) next = asking (λ answer. elim (judged asked request answer) [
  | Reply octets ↦ next (Some octets)
  | Other ↦ awaited asked request waits next
  | Broken ↦ ended SocketFault
])

-- The lines of a request that is still to be sent so often: they are printed at its first send alone.
abbrev pub lines_at : Asked → ℕ → List ℕ → List ℕ
lines_at asked left lines = if left == asked.tries then lines else []

-- Sends a request that is still to be sent so often, and prints its lines where that was taken.
abbrev pub sent_once : Asked → List ℕ → List ℕ → ℕ → Act → Act
sent_once asked request lines left next =
    sending (record { to = asked.server; octets = request }) (saying (unless_quiet asked (lines_at asked left lines)) next)

-- Sends a request and asks for its reply, and sends the same octets again where it doesn't come, until it was sent so many
-- times in all. These lines are printed once the first send was taken.
unfoldable pub tried : Asked → List ℕ → List ℕ → ℕ → (Option (List ℕ) → Act) → Act
tried asked request lines zero next = next None
tried asked request lines (suc left) next =
    sent_once asked request lines (suc left) (awaited asked request asked.waits (λ found. elim found [
      | Some reply ↦ next (Some reply)
      | None ↦ tried asked request lines left next
    ]))

-- A good reply is an Access-Accept, an Accounting-Response or an Access-Challenge.
abbrev pub is_good : Option (List ℕ) → Bool
is_good (Some reply) = code_of reply == 2 || (code_of reply == 5 || code_of reply == 11)
is_good None = false

-- Prints what came of a request, and goes on by whether it got a good reply.
abbrev pub closed : Asked → ℕ → (Bool → Act) → Option (List ℕ) → Act
closed asked id next found = saying (unless_quiet asked (closing_lines asked id found)) (next (is_good found))

-- A request's way, once it is made: it is tried, and its end is printed.
abbrev pub served : Asked → ℕ → List Pair → List ℕ → (Bool → Act) → Act
served asked id pairs request next = tried asked request (sent_lines asked request pairs) asked.tries (closed asked id next)

-- A packet's way: it is made of two random words and the pairs of its group, and is served. Where it can't be made the run
-- ends.
unfoldable pub packet : Asked → ℕ → List Pair → (Bool → Act) → Act
packet asked id pairs next =
    if is_too_long pairs then ended (NotMade reason.TooLong)
    else drawing (λ high. drawing (λ low. elim (made asked id high low pairs) [
      | Ok request ↦ served asked id pairs request next
      | Err wrong ↦ ended (NotMade wrong)
    ]))

-- One more packet that got no good reply, where it got none. The count stands still at the end of its 64 bits.
abbrev pub counted : Bool → ℕ → ℕ
counted true bad = bad
counted false bad = min (bad + 1) (2 ^ 64 - 1)

-- The packets of these groups, one after another, from this Identifier on, which counts modulo 256. So many got no good
-- reply before.
unfoldable pub packets : Asked → ℕ → ℕ → List (List Pair) → Act
packets asked id bad [] = ended (Finished bad)
packets asked id bad (pairs ∷ more) =
    packet asked id pairs (λ good. packets asked ((id + 1) % 256) (counted good bad) more)

-- The groups that packets are made of, in order: each as often as is asked for, before the next.
abbrev pub repeated : ℕ → List (List Pair) → List (List Pair)
repeated count groups = flat_map (replicate count) groups

-- The whole run: from each group so many packets, with the Identifiers 0, 1, .. modulo 256.
unfoldable pub client_run : Asked → List (List Pair) → Act
client_run asked groups = packets asked 0 0 (repeated asked.count groups)
