-- What came of all packets, in runs that come to their end.
use Rattle.std.proofs.Common.{◌≡◌, ℕ, zero, suc, ◌+◌, ◌%◌, ◌≤◌, Bool, true, false, cond, List, [], ◌∷◌, ◌++◌, map, replicate, Option, Some, None, Result, Ok, Err, refl, sym, ap, ◌∙◌, subst, append_assoc, arith}
use Rattle.std.specs.Prelude.{◌==◌}
use Rattle.std.specs.List.{flat_map}
use Rattle.std.proofs.lemmas.Bool.{eq-eqb}
use Rattle.std.proofs.lemmas.List.{map-append}
use Rattle.rad_outside.specs.declared.wire.Heard.{Heard}
use Rattle.rad_outside.specs.declared.wire.Sent.{Sent}
use Rattle.rad_value.specs.declared.values.Pair.{Pair}
use Rattle.radclient.specs.declared.asked.Asked.{Asked}
use Rattle.radclient.specs.declared.stop.Unmade.{Unmade}
use Rattle.radclient.specs.declared.stop.Unmade.TheVariants.{TooLong}
use Rattle.radclient.specs.Answers.{Act, Run, ToCome, Sending, Finished, NotMade, ended, with_front}
use Rattle.radclient.specs.Client.{closed, counted, is_good, packet, packets}
use Rattle.radclient.specs.Exchanges.{Exchange, IsAnswered, IsExchange, AreExchanges, exchange_lines, sends_of, where_sent}
use Rattle.radclient.specs.Lines.{closing_lines, sent_lines, unless_quiet}
use Rattle.radclient.specs.Making.{is_too_long, made}
use Rattle.radclient.specs.Seen.{sending_of}
use Rattle.radclient.proofs.Makings.{draws, made_act}
use Rattle.radclient.proofs.Waited.{HasEnded}
use Rattle.radclient.proofs.Tried.{TriedFor, first_lines, tried_all}

-- the lines of a first send and of the end are those of the exchange
joined_lines : (times : ℕ) (quiet first : Bool) (lines closing : List ℕ) → first ≡ true
    → where_sent times (cond quiet [] (cond first lines [])) ++ cond quiet [] closing ≡ cond quiet [] (where_sent times lines ++ closing)
joined_lines zero true first lines closing is = refl
joined_lines zero false first lines closing is = refl
joined_lines (suc times) true first lines closing is = refl
joined_lines (suc times) false first lines closing is = ap (λ (b : Bool). cond b lines [] ++ closing) is

within_of : (found : Option (List ℕ)) (asked : Asked) (request : List ℕ) (left times : ℕ) (used : List Heard) → TriedFor asked request left times used found → times ≤ left
within_of (Some reply) asked request left times used r = r.within
within_of None asked request left times used u = omega (arith, u.sent)

answered_of : (found : Option (List ℕ)) (asked : Asked) (exchange : Exchange) → TriedFor asked exchange.request asked.tries exchange.times exchange.heard found → IsAnswered asked exchange found
answered_of (Some reply) asked exchange r = record {
  before = r.found.before;
  last = r.found.last;
  accepted = r.found.accepted;
  first = r.found.first;
  due = r.due;
  soon = r.found.soon;
}
answered_of None asked exchange u = record { sent = u.sent; waited = u.missed.waited; none = u.missed.none }

-- a run that ended didn't stop at a choice's first branch
goes_on : (b : Bool) (why : Unmade) (act : Act) (come : ToCome) → HasEnded (cond b (ended (NotMade why)) act come).ending
    → HasEnded (act come).ending × (cond b (ended (NotMade why)) act come ≡ act come)
goes_on true why act come ends = absurd ends
goes_on false why act come ends = (ends, refl)

-- a packet was served, and what came of it is done next
module _ (asked : Asked) (id : ℕ) (pairs : List Pair) (next : Bool → Act) (taken : List Bool) (answers : List Heard) where
  pub record Exchanged (act : Act) (words : List ℕ) : Type 0 where
    pub exchange : Exchange
    pub rest : List Heard
    pub free : List Bool
    pub more : List ℕ
    pub grouped : exchange.pairs ≡ pairs
    pub split : answers ≡ exchange.heard ++ rest
    pub takes : taken ≡ replicate exchange.times true ++ free
    pub drawn : words ≡ exchange.words ++ more
    pub is : (place : ℕ) → id ≡ place % 256 → IsExchange asked place exchange
    pub runs : act (record { taken = taken; heard = answers; words = words })
        ≡ with_front (replicate exchange.times (record { to = asked.server; octets = exchange.request })) (exchange_lines asked exchange)
        (next (is_good exchange.reply) (record { taken = free; heard = rest; words = more }))

  by_made : (m : Result (List ℕ) Unmade) (high low : ℕ) (more : List ℕ) → made asked id high low pairs ≡ m
      → HasEnded (made_act asked id pairs next m (record { taken = taken; heard = answers; words = more })).ending
      → (act : Act) → act (record { taken = taken; heard = answers; words = high ∷ low ∷ more }) ≡ made_act asked id pairs next m (record { taken = taken; heard = answers; words = more })
      → Exchanged act (high ∷ low ∷ more)
  by_made (Ok request) high low more is ends act begins =
      let t = tried_all asked request (sent_lines asked request pairs) (closed asked id next) more asked.tries (omega arith) taken answers ends in
      let exchange : Exchange = record { id = id; pairs = pairs; words = high ∷ low ∷ []; request = request; times = t.times; heard = t.used; reply = t.found } in
      let then_come : ToCome = record { taken = t.free; heard = t.rest; words = more } in
      let sends : List Sending = replicate t.times (record { to = asked.server; octets = request }) in
      let first : List ℕ = first_lines asked asked.tries (sent_lines asked request pairs) t.times in
      let closing : List ℕ = unless_quiet asked (closing_lines asked id t.found) in
      let run : Run = next (is_good t.found) then_come in record {
        exchange = exchange;
        rest = t.rest;
        free = t.free;
        more = more;
        grouped = refl;
        split = t.split;
        takes = t.takes;
        drawn = refl;
        is = λ place at. record {
          id = at;
          high = high;
          low = low;
          words = refl;
          request = is;
          times = within_of t.found asked request asked.tries t.times t.used t.facts;
          answered = answered_of t.found asked exchange t.facts;
        };
        runs = begins ∙ t.runs
            ∙ ap (λ (l : List ℕ). record { sends = sends ++ run.sends; lines = l; ending = run.ending; left = run.left }) (sym (append_assoc first closing run.lines))
            ∙ ap (λ (l : List ℕ). with_front sends l run)
            (joined_lines t.times asked.quiet (asked.tries == asked.tries) (sent_lines asked request pairs) (closing_lines asked id t.found) (eq-eqb asked.tries asked.tries refl));
      }
  by_made (Err wrong) high low more is ends act begins = absurd ends

  pub packet_all : (words : List ℕ) → HasEnded (packet asked id pairs next (record { taken = taken; heard = answers; words = words })).ending
      → Exchanged (packet asked id pairs next) words
  unfolding packet
  packet_all [] ends =
      let on = goes_on (is_too_long pairs) TooLong (draws asked id pairs next) (record { taken = taken; heard = answers; words = [] }) ends in absurd on.0
  packet_all (high ∷ []) ends =
      let on = goes_on (is_too_long pairs) TooLong (draws asked id pairs next) (record { taken = taken; heard = answers; words = high ∷ [] }) ends in absurd on.0
  packet_all (high ∷ low ∷ more) ends =
      let on = goes_on (is_too_long pairs) TooLong (draws asked id pairs next) (record { taken = taken; heard = answers; words = high ∷ low ∷ more }) ends in
      by_made (made asked id high low pairs) high low more refl on.0 (packet asked id pairs next) on.1

-- one more packet without a good reply, for each
unfoldable pub counts : ℕ → List Exchange → ℕ
counts bad [] = bad
counts bad (exchange ∷ more) = counts (counted (is_good exchange.reply) bad) more

sendings_of : (asked : Asked) (times : ℕ) (request : List ℕ) → map sending_of (replicate times (record { to = asked.server; octets = request; done = true })) ≡ replicate times (record { to = asked.server; octets = request })
sendings_of asked zero request = refl
sendings_of asked (suc times) request = ap (λ (l : List Sending). record { to = asked.server; octets = request } ∷ l) (sendings_of asked times request)

dones_of : (asked : Asked) (times : ℕ) (request : List ℕ) → map (λ (s : Sent). s.done) (replicate times (record { to = asked.server; octets = request; done = true })) ≡ replicate times true
dones_of asked zero request = refl
dones_of asked (suc times) request = ap (λ (l : List Bool). true ∷ l) (dones_of asked times request)

abbrev pub all_sends : Asked → List Exchange → List Sent
all_sends asked exchanges = flat_map (sends_of asked) exchanges

abbrev pub all_heard : List Exchange → List Heard
all_heard exchanges = flat_map (λ (exchange : Exchange). exchange.heard) exchanges

abbrev pub all_words : List Exchange → List ℕ
all_words exchanges = flat_map (λ (exchange : Exchange). exchange.words) exchanges

abbrev pub all_lines : Asked → List Exchange → List ℕ
all_lines asked exchanges = flat_map (exchange_lines asked) exchanges

-- the packets behind so many were served, and the run ended
pub record Served (asked : Asked) (place bad : ℕ) (groups : List (List Pair)) (taken : List Bool) (answers : List Heard) (words : List ℕ) : Type 0 where
  pub exchanges : List Exchange
  pub rest : List Heard
  pub free : List Bool
  pub more : List ℕ
  pub of_groups : map (λ (exchange : Exchange). exchange.pairs) exchanges ≡ groups
  pub each : AreExchanges asked place exchanges
  pub split : answers ≡ all_heard exchanges ++ rest
  pub takes : taken ≡ map (λ (s : Sent). s.done) (all_sends asked exchanges) ++ free
  pub drawn : words ≡ all_words exchanges ++ more
  pub runs : packets asked (place % 256) bad groups (record { taken = taken; heard = answers; words = words })
      ≡ with_front (map sending_of (all_sends asked exchanges)) (all_lines asked exchanges)
      (ended (Finished (counts bad exchanges)) (record { taken = free; heard = rest; words = more }))

fronts : (s t : List Sending) (l m : List ℕ) (run : Run) → with_front s l (with_front t m run) ≡ with_front (s ++ t) (l ++ m) run
fronts s t l m run =
    ap (λ (sends : List Sending). record { sends = sends; lines = l ++ (m ++ run.lines); ending = run.ending; left = run.left }) (sym (append_assoc s t run.sends))
    ∙ ap (λ (lines : List ℕ). record { sends = (s ++ t) ++ run.sends; lines = lines; ending = run.ending; left = run.left }) (sym (append_assoc l m run.lines))

-- what was taken by one exchange and by the others
split_on : {X : Type 0} (whole one rest others left : List X) → whole ≡ one ++ rest → rest ≡ others ++ left → whole ≡ (one ++ others) ++ left
split_on {X = X} whole one rest others left first second = first ∙ ap (λ (l : List X). one ++ l) second ∙ sym (append_assoc one others left)

next_place : (place : ℕ) → (place % 256 + 1) % 256 ≡ suc place % 256
next_place place = omega arith

pub packets_all : (asked : Asked) (place bad : ℕ) (groups : List (List Pair)) (taken : List Bool) (answers : List Heard) (words : List ℕ)
    → HasEnded (packets asked (place % 256) bad groups (record { taken = taken; heard = answers; words = words })).ending
    → Served asked place bad groups taken answers words
unfolding packets AreExchanges counts
packets_all asked place bad [] taken answers words ends = record {
  exchanges = [];
  rest = answers;
  free = taken;
  more = words;
  of_groups = refl;
  each = tt;
  split = refl;
  takes = refl;
  drawn = refl;
  runs = refl;
}
packets_all asked place bad (pairs ∷ groups) taken answers words ends =
    let next : Bool → Act = λ (good : Bool). packets asked ((place % 256 + 1) % 256) (counted good bad) groups in
    let s = packet_all asked (place % 256) pairs next taken answers words ends in
    let e = s.exchange in
    let come : ToCome = record { taken = s.free; heard = s.rest; words = s.more } in
    let at : (id : ℕ) → Run = λ (id : ℕ). packets asked id (counted (is_good e.reply) bad) groups come in
    let later = subst (λ (run : Run). HasEnded run.ending) s.runs ends in
    let others = packets_all asked (suc place) (counted (is_good e.reply) bad) groups s.free s.rest s.more
    (subst (λ (id : ℕ). HasEnded (at id).ending) (next_place place) later) in
    let sends : List Sending = replicate e.times (record { to = asked.server; octets = e.request }) in
    let lines : List ℕ = exchange_lines asked e in
    let more_sends = all_sends asked others.exchanges in
    let more_lines = all_lines asked others.exchanges in
    let last : Run = ended (Finished (counts (counted (is_good e.reply) bad) others.exchanges)) (record { taken = others.free; heard = others.rest; words = others.more }) in record {
      exchanges = e ∷ others.exchanges;
      rest = others.rest;
      free = others.free;
      more = others.more;
      of_groups = ap (λ (p : List Pair). p ∷ map (λ (exchange : Exchange). exchange.pairs) others.exchanges) s.grouped ∙ ap (λ (l : List (List Pair)). pairs ∷ l) others.of_groups;
      each = (s.is place refl, others.each);
      split = split_on answers e.heard s.rest (all_heard others.exchanges) others.rest s.split others.split;
      takes = split_on taken (replicate e.times true) s.free (map (λ (x : Sent). x.done) more_sends) others.free s.takes others.takes
          ∙ ap (λ (l : List Bool). (l ++ map (λ (x : Sent). x.done) more_sends) ++ others.free) (sym (dones_of asked e.times e.request))
          ∙ ap (λ (l : List Bool). l ++ others.free) (sym (map-append (λ (x : Sent). x.done) (sends_of asked e) more_sends));
      drawn = split_on words e.words s.more (all_words others.exchanges) others.more s.drawn others.drawn;
      runs = s.runs
          ∙ ap (λ (id : ℕ). with_front sends lines (at id)) (next_place place)
          ∙ ap (with_front sends lines) others.runs
          ∙ fronts sends (map sending_of more_sends) lines more_lines last
          ∙ ap (λ (l : List Sending). with_front (l ++ map sending_of more_sends) (lines ++ more_lines) last) (sym (sendings_of asked e.times e.request))
          ∙ ap (λ (l : List Sending). with_front l (lines ++ more_lines) last) (sym (map-append sending_of (sends_of asked e) more_sends));
    }
