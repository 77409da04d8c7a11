-- What the status says of the packets of a run.
use Rattle.std.proofs.Common.{◌≡◌, ℕ, suc, ◌<◌, ◌≤◌, Bool, true, false, List, [], ◌∷◌, ◌++◌, map, Option, Some, None, Ok, refl, sym, ap, ◌∙◌, subst, append-nil, inl, inr, arith}
use Rattle.std.specs.Prelude.{◌==◌, ◌&&◌, ◌||◌, ◌⊎◌, ◌↔◌}
use Rattle.rad_outside.specs.declared.listen.Peer.{Peer}
use Rattle.rad_outside.specs.declared.wire.Heard.{Heard}
use Rattle.rad_value.specs.declared.values.Pair.{Pair}
use Rattle.std.proofs.lemmas.Bool.{and_parts, eqb-true, or_cases}
use Rattle.rad_outside.specs.declared.wire.Sent.{Sent}
use Rattle.rad_outside.specs.Files.{FilesTold}
use Rattle.rad_value.specs.PairLists.{PairLists}
use Rattle.rad_packet.specs.Packet.{code_of}
use Rattle.rad_wire.specs.Accepts.{is_reply_code}
use Rattle.radclient.specs.declared.asked.Asked.{Asked}
use Rattle.radclient.specs.declared.status.Status.{Status}
use Rattle.radclient.specs.declared.status.Status.TheVariants as status
use Rattle.radclient.specs.Answers.{Ending, Finished, NotMade, SocketFault, Unanswered, Run, ToCome, Sending, ended, with_front}
use Rattle.radclient.specs.Client.{client_run, counted, is_good, repeated}
use Rattle.radclient.specs.Exchanges.{AllGood, AreExchanges, Exchange, IsAccount, IsAnswered, IsBad, IsGood, IsWholeRun, OneBad}
use Rattle.radclient.specs.Groups.{groups_of}
use Rattle.radclient.specs.Program.{Bad, Ends, Good, Holds, Hungry, Misread, Misworded, Ran, Served, Starving, Tail, Tried, Unread, number_of, pairs_of_groups}
use Rattle.radclient.specs.Seen.{Seen, Gained, Goes, before_later, sending_of}
use Rattle.radclient.specs.Words.{Line, line_of}
use Rattle.radclient.proofs.Waited.{HasEnded}
use Rattle.radclient.proofs.Accounts.{all_heard, all_lines, all_sends, all_words, counts, packets_all}

abbrev is_two_five_eleven : ℕ → Bool
is_two_five_eleven code = code == 2 || (code == 5 || code == 11)

good_code : (code : ℕ) → ((code == 2) ≡ true) ⊎ ((code == 5 || code == 11) ≡ true) → (code ≡ 2) ⊎ ((code ≡ 5) ⊎ (code ≡ 11))
good_code code (inl is) = inl (eqb-true code 2 is)
good_code code (inr is) = elim (or_cases (code == 5) (code == 11) is) [
  | inl five ↦ inr (inl (eqb-true code 5 five))
  | inr eleven ↦ inr (inr (eqb-true code 11 eleven))
]

good_yes : (reply : Option (List ℕ)) → is_good reply ≡ true → IsGood reply
good_yes (Some reply) is = good_code (code_of reply) (or_cases (code_of reply == 2) (code_of reply == 5 || code_of reply == 11) is)
good_yes None is = cc

good_no : (reply : Option (List ℕ)) → IsGood reply → is_good reply ≡ true
good_no (Some reply) (inl is) = ap is_two_five_eleven is
good_no (Some reply) (inr (inl is)) = ap is_two_five_eleven is
good_no (Some reply) (inr (inr is)) = ap is_two_five_eleven is
good_no None good = absurd good

bad_no : (reply : Option (List ℕ)) → IsBad reply → is_good reply ≡ false
bad_no (Some reply) is = ap is_two_five_eleven is
bad_no None bad = refl

cc_of : (code good : ℕ) → code ≡ good → is_two_five_eleven good ≡ true → is_two_five_eleven code ≡ false → code ≡ 3
cc_of code good same is isnt =
    let clash : false ≡ true = sym isnt ∙ ap is_two_five_eleven same ∙ is in cc

-- a code that answers a request and is none of the good ones is that of an Access-Reject
other_code : (code : ℕ) → ((code == 2) ≡ true) ⊎ (((code == 3) ≡ true) ⊎ (((code == 11) ≡ true) ⊎ ((code == 5) ≡ true))) → is_two_five_eleven code ≡ false → code ≡ 3
other_code code (inl is) isnt = cc_of code 2 (eqb-true code 2 is) refl isnt
other_code code (inr (inl is)) isnt = eqb-true code 3 is
other_code code (inr (inr (inl is))) isnt = cc_of code 11 (eqb-true code 11 is) refl isnt
other_code code (inr (inr (inr is))) isnt = cc_of code 5 (eqb-true code 5 is) refl isnt

reply_code : (asked code : ℕ) → is_reply_code asked code ≡ true → ((code == 2) ≡ true) ⊎ (((code == 3) ≡ true) ⊎ (((code == 11) ≡ true) ⊎ ((code == 5) ≡ true)))
reply_code asked code is = elim (or_cases (asked == 1 && (code == 2 || code == 3 || code == 11)) (asked == 4 && code == 5) is) [
  | inl access ↦ elim (or_cases (code == 2 || code == 3) (code == 11) (and_parts (asked == 1) (code == 2 || code == 3 || code == 11) access).1) [
    | inl low ↦ elim (or_cases (code == 2) (code == 3) low) [
      | inl two ↦ inl two
      | inr three ↦ inr (inl three)
    ]
    | inr eleven ↦ inr (inr (inl eleven))
  ]
  | inr account ↦ inr (inr (inr (and_parts (asked == 4) (code == 5) account).1))
]

bad_yes : (reply : Option (List ℕ)) (asked : Asked) (exchange : Exchange) → IsAnswered asked exchange reply → is_good reply ≡ false → IsBad reply
bad_yes (Some reply) asked exchange answered isnt = other_code (code_of reply) (reply_code (code_of exchange.request) (code_of reply) answered.accepted.code) isnt
bad_yes None asked exchange answered isnt = tt

counted_rises : (good : Bool) (bad : ℕ) → 0 < bad → 0 < counted good bad
counted_rises true bad some = some
counted_rises false bad some = omega arith

counted_once : (bad : ℕ) → 0 < counted false bad
counted_once bad = omega arith

counts_rise : (exchanges : List Exchange) (bad : ℕ) → 0 < bad → 0 < counts bad exchanges
unfolding counts
counts_rise [] bad some = some
counts_rise (exchange ∷ more) bad some = counts_rise more (counted (is_good exchange.reply) bad) (counted_rises (is_good exchange.reply) bad some)

all_of_one : (exchange : Exchange) (more : List Exchange) (bad : ℕ) (good : Bool) → is_good exchange.reply ≡ good → counts (counted good bad) more ≡ 0
    → ((later : ℕ) → counts later more ≡ 0 → AllGood more) → AllGood (exchange ∷ more)
all_of_one exchange more bad true is none below = (good_yes exchange.reply is, below bad none)
all_of_one exchange more bad false is none below =
    let some = counts_rise more (counted false bad) (counted_once bad) in absurd (omega (arith, some, none))

pub all_of : (exchanges : List Exchange) (bad : ℕ) → counts bad exchanges ≡ 0 → AllGood exchanges
unfolding counts
all_of [] bad none = tt
all_of (exchange ∷ more) bad none = all_of_one exchange more bad (is_good exchange.reply) refl none (λ later later_none. all_of more later later_none)

pub of_all : (exchanges : List Exchange) (bad : ℕ) → AllGood exchanges → counts bad exchanges ≡ bad
unfolding counts
of_all [] bad all = refl
of_all (exchange ∷ more) bad all =
    ap (λ (good : Bool). counts (counted good bad) more) (good_no exchange.reply all.0) ∙ of_all more bad all.1

one_of_one : (exchange : Exchange) (more : List Exchange) (bad : ℕ) (good : Bool) → (is_good exchange.reply ≡ false → IsBad exchange.reply) → is_good exchange.reply ≡ good
    → 0 < counts (counted good bad) more → ((later : ℕ) → 0 < counts later more → (0 < later) ⊎ OneBad more) → (0 < bad) ⊎ OneBad (exchange ∷ more)
unfolding OneBad
one_of_one exchange more bad true bads is some below = elim (below bad some) [
  | inl before ↦ inl before
  | inr later ↦ inr (inr later)
]
one_of_one exchange more bad false bads is some below = inr (inl (bads is))

pub one_of : (asked : Asked) (place : ℕ) (exchanges : List Exchange) (bad : ℕ) → AreExchanges asked place exchanges → 0 < counts bad exchanges → (0 < bad) ⊎ OneBad exchanges
unfolding counts AreExchanges
one_of asked place [] bad are some = inl some
one_of asked place (exchange ∷ more) bad are some =
    one_of_one exchange more bad (is_good exchange.reply) (bad_yes exchange.reply asked exchange are.0.answered) refl some
    (λ later later_some. one_of asked (suc place) more later are.1 later_some)

pub of_one : (exchanges : List Exchange) (bad : ℕ) → OneBad exchanges → 0 < counts bad exchanges
unfolding counts OneBad
of_one [] bad one = absurd one
of_one (exchange ∷ more) bad (inl one) =
    subst (λ (good : Bool). 0 < counts (counted good bad) more) (sym (bad_no exchange.reply one)) (counts_rise more (counted false bad) (counted_once bad))
of_one (exchange ∷ more) bad (inr one) = of_one more (counted (is_good exchange.reply) bad) one

abbrev tail_of : {X : Type 0} → List X → List X
tail_of [] = []
tail_of (x ∷ xs) = xs

abbrev head_or : {X : Type 0} → X → List X → X
head_or x [] = x
head_or x (y ∷ ys) = y

same_sent : (xs ys : List Sent) → map sending_of xs ≡ map sending_of ys → map (λ (s : Sent). s.done) xs ≡ map (λ (s : Sent). s.done) ys → xs ≡ ys
same_sent [] [] sends dones = refl
same_sent [] (y ∷ ys) sends dones = cc
same_sent (x ∷ xs) [] sends dones = cc
same_sent (x ∷ xs) (y ∷ ys) sends dones =
    let one : sending_of x ≡ sending_of y = ap (head_or (sending_of x)) sends in
    let to : x.to ≡ y.to = ap (λ (s : Sending). s.to) one in
    let octets : x.octets ≡ y.octets = ap (λ (s : Sending). s.octets) one in
    let done : x.done ≡ y.done = ap (head_or x.done) dones in
    let same : x ≡ y =
    ap (λ (p : Peer). record { to = p; octets = x.octets; done = x.done }) to
    ∙ ap (λ (o : List ℕ). record { to = y.to; octets = o; done = x.done }) octets
    ∙ ap (λ (d : Bool). record { to = y.to; octets = y.octets; done = d }) done in
    ap (λ (z : Sent). z ∷ xs) same ∙ ap (λ (l : List Sent). y ∷ l) (same_sent xs ys (ap tail_of sends) (ap tail_of dones))

trim : {X : Type 0} (a b : List X) → a ++ [] ≡ b ++ [] → a ≡ b
trim a b same = sym (append-nil a) ∙ same ∙ append-nil b

abbrev bad_of : Ending → ℕ
bad_of (Finished bad) = bad
bad_of (NotMade reason) = 0
bad_of SocketFault = 0
bad_of Unanswered = 0

abbrev nothing_later : ToCome
nothing_later = record { taken = []; heard = []; words = [] }

-- what devices told of a run that came to its end
record Accounted (asked : Asked) (groups : List (List Pair)) (gained : Gained) (bad : ℕ) : Type 0 where
  pub exchanges : List Exchange
  pub account : IsAccount asked groups gained exchanges
  pub counted : bad ≡ counts 0 exchanges

accounted : (asked : Asked) (groups : List (List Pair)) (gained : Gained) (bad : ℕ)
    → ((later : ToCome) → client_run asked groups (before_later gained later) ≡ with_front (map sending_of gained.sent) (gained.printed ++ []) (ended (Finished bad) later))
    → Accounted asked groups gained bad
unfolding client_run
accounted asked groups gained bad runs =
    let dones : List Bool = map (λ (s : Sent). s.done) gained.sent in
    let ends = subst (λ (run : Run). HasEnded run.ending) (sym (runs nothing_later)) tt in
    let s = packets_all asked 0 0 (repeated asked.count groups) (dones ++ []) (gained.heard ++ []) (gained.words ++ []) ends in
    let e = s.exchanges in
    let whole = sym (runs nothing_later) ∙ s.runs in
    let sends = all_sends asked e in
    let free : [] ≡ s.free = ap (λ (run : Run). run.left.taken) whole in
    let rest : [] ≡ s.rest = ap (λ (run : Run). run.left.heard) whole in
    let more : [] ≡ s.more = ap (λ (run : Run). run.left.words) whole in record {
      exchanges = e;
      account = record {
        packets = s.of_groups;
        each = s.each;
        sent = same_sent gained.sent sends (trim (map sending_of gained.sent) (map sending_of sends) (ap (λ (run : Run). run.sends) whole))
            (trim dones (map (λ (s : Sent). s.done) sends) (s.takes ∙ ap (λ (l : List Bool). map (λ (s : Sent). s.done) sends ++ l) (sym free)));
        heard = trim gained.heard (all_heard e) (s.split ∙ ap (λ (l : List Heard). all_heard e ++ l) (sym rest));
        words = trim gained.words (all_words e) (s.drawn ∙ ap (λ (l : List ℕ). all_words e ++ l) (sym more));
        printed = sym (append-nil gained.printed) ∙ trim (gained.printed ++ []) (all_lines asked e) (ap (λ (run : Run). run.lines) whole);
      };
      counted = ap (λ (run : Run). bad_of run.ending) whole;
    }

-- what the status says of a run that came to its end
abbrev pub Says : List (List ℕ) → Option FilesTold → Option FilesTold → Seen → Seen → Status → Type 0
Says words files_before files_now before now answer =
    (exchanges : List Exchange) × IsWholeRun words files_before files_now before now exchanges
    × ((number_of answer ≡ 0) ↔ AllGood exchanges) × ((number_of answer ≡ 1) ↔ OneBad exchanges)

module _ (words : List (List ℕ)) (files_before files_now : Option FilesTold) (before now : Seen) (line : Line) (octets : List ℕ)
    (asked : line_of words ≡ Some line) (holds : Holds files_before files_now line.file octets) (groups : List PairLists) (grouped : groups_of octets ≡ Ok groups) where
  told : (bad : ℕ) (goes : Goes (client_run line.asked (pairs_of_groups groups)) (ended (Finished bad)) before now)
      → Accounted line.asked (pairs_of_groups groups) goes.gained bad
  told bad goes = accounted line.asked (pairs_of_groups groups) goes.gained bad goes.runs

  whole_run : (bad : ℕ) (goes : Goes (client_run line.asked (pairs_of_groups groups)) (ended (Finished bad)) before now) (told : Accounted line.asked (pairs_of_groups groups) goes.gained bad)
      → IsWholeRun words files_before files_now before now told.exchanges
  whole_run bad goes told = record {
    line = line;
    asked = asked;
    octets = octets;
    read = holds;
    groups = groups;
    grouped = grouped;
    gained = goes.gained;
    gains = goes.gains;
    account = told.account;
  }

  one_bad : (exchanges : List Exchange) → (0 < 0) ⊎ OneBad exchanges → OneBad exchanges
  one_bad exchanges (inl none) = absurd (omega (arith, none))
  one_bad exchanges (inr one) = one

  ran_says : (answer : Status) → number_of answer ≤ 1 → Ran (client_run line.asked (pairs_of_groups groups)) line.file before now answer → Says words files_before files_now before now answer
  ran_says status.Done few (Good goes) =
      let t = told 0 goes in (
        t.exchanges,
        whole_run 0 goes t,
        (λ none. all_of t.exchanges 0 (sym t.counted), λ all. refl),
        (λ one. absurd (omega (arith, one)), λ one. let some = of_one t.exchanges 0 one in absurd (omega (arith, some, t.counted))),
      )
  ran_says status.Unanswered few (Bad bad some goes) =
      let t = told bad goes in (
        t.exchanges,
        whole_run bad goes t,
        (λ none. absurd (omega (arith, none)), λ all. let none = of_all t.exchanges 0 all in absurd (omega (arith, none, some, t.counted))),
        (λ one. one_bad t.exchanges (one_of line.asked 0 t.exchanges 0 t.account.each (subst (λ (n : ℕ). 0 < n) t.counted some)), λ one. refl),
      )
  ran_says status.Refused few ran = absurd (omega (arith, few))
  ran_says status.ReadFault few ran = absurd (omega (arith, few))
  ran_says status.SocketFault few ran = absurd (omega (arith, few))
  ran_says status.WriteFault few ran = absurd (omega (arith, few))
  ran_says status.NoMemory few ran = absurd (omega (arith, few))

tail_says : (words : List (List ℕ)) (files_before files_now : Option FilesTold) (before now : Seen) (line : Line) (octets : List ℕ) → line_of words ≡ Some line
    → Holds files_before files_now line.file octets → (answer : Status) → number_of answer ≤ 1 → Tail line.asked line.file octets before now answer
    → Says words files_before files_now before now answer
tail_says words files_before files_now before now line octets asked holds _ few (Misread fault is says) = absurd (omega (arith, few))
tail_says words files_before files_now before now line octets asked holds _ few (Tried groups answer grouped ran) =
    ran_says words files_before files_now before now line octets asked holds groups grouped answer few ran
tail_says words files_before files_now before now line octets asked holds _ few (Hungry same) = absurd (omega (arith, few))

pub ends_say : (words : List (List ℕ)) (files_before files_now : Option FilesTold) (faults_before faults_now : ℕ) (before now : Seen) (answer : Status) → number_of answer ≤ 1
    → Ends words files_before files_now faults_before faults_now before now answer → Says words files_before files_now before now answer
ends_say words files_before files_now faults_before faults_now before now _ few (Misworded none says) = absurd (omega (arith, few))
ends_say words files_before files_now faults_before faults_now before now _ few (Unread line asked lacks says) = absurd (omega (arith, few))
ends_say words files_before files_now faults_before faults_now before now _ few (Served line octets answer asked holds tail) =
    tail_says words files_before files_now before now line octets asked holds answer few tail
ends_say words files_before files_now faults_before faults_now before now _ few (Starving same) = absurd (omega (arith, few))
