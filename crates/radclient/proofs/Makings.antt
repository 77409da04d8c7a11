-- Packets that are made, and those that can't be.
use Rattle.std.proofs.Common.{◌≡◌, ℕ, ◌<◌, ◌≤◌, Bool, cond, List, [], ◌∷◌, ◌++◌, Option, Result, Ok, Err, MatchResult, length, refl, sym, ap, subst, ◌∙◌}
use Rattle.std.proofs.lemmas.Bool.{lt-ltb, le-ltb, le-leb, lt-leb}
use Rattle.rad_outside.specs.Telling.{Tells}
use Rattle.rad_value.specs.declared.values.Pair.{Pair}
use Rattle.rad_wire.specs.declared.request_fault.RequestFault.{RequestFault}
use Rattle.rad_wire.specs.declared.request_fault.RequestFault.TheVariants as fault
use Rattle.rad_wire.specs.Request.{RequestRefused, long_passwords, request_octets}
use Rattle.radclient.specs.declared.asked.Asked.{Asked}
use Rattle.radclient.specs.declared.stop.Stop.{Stop}
use Rattle.radclient.specs.declared.stop.Stop.TheVariants as stop
use Rattle.radclient.specs.declared.stop.Unmade.{Unmade}
use Rattle.radclient.specs.declared.stop.Unmade.TheVariants.{TooLong}
use Rattle.radclient.specs.Answers.{Act, NotMade, drawing, ended}
use Rattle.radclient.specs.Client.{packet, served}
use Rattle.radclient.specs.Making.{IsUnmade, authenticator_of_words, code_for, made, stop_of, without_long}
use Rattle.radclient.specs.Seen.{Seen, Goes, Stops}
use Rattle.radclient.proofs.Reaching.{Gains-nothing, Goes-same, Goes-trans}

module _ (asked : Asked) (id high low : ℕ) (pairs : List Pair) (code : ℕ) (authenticator secret : List ℕ) (coded : code ≡ code_for asked.kind) (drawn : authenticator ≡ authenticator_of_words high low) (shared : secret ≡ asked.secret) where
  same_octets : request_octets code id authenticator pairs secret ≡ request_octets (code_for asked.kind) id (authenticator_of_words high low) pairs asked.secret
  same_octets =
      ap (λ (c : ℕ). request_octets c id authenticator pairs secret) coded
      ∙ ap (λ (a : List ℕ). request_octets (code_for asked.kind) id a pairs secret) drawn
      ∙ ap (λ (s : List ℕ). request_octets (code_for asked.kind) id (authenticator_of_words high low) pairs s) shared

  same_longs : long_passwords (code_for asked.kind) pairs ≡ long_passwords code pairs
  same_longs = ap (λ (c : ℕ). long_passwords c pairs) (sym coded)

  pub made_whole : (request : List ℕ) → long_passwords code pairs ≡ [] → request ≡ request_octets code id authenticator pairs secret → length request ≤ 4096
      → made asked id high low pairs ≡ Ok request
  unfolding made
  made_whole request short is few =
      let octets = request_octets (code_for asked.kind) id (authenticator_of_words high low) pairs asked.secret in
      let same : request ≡ octets = is ∙ same_octets in
      let fits : length octets ≤ 4096 = subst (λ (o : List ℕ). length o ≤ 4096) same few in
      ap (λ (longs : List ℕ). without_long longs octets) (same_longs ∙ short)
      ∙ ap (λ (b : Bool). cond b (Err TooLong) (Ok octets)) (le-ltb 4096 (length octets) fits)
      ∙ ap (λ (o : List ℕ). Ok o) (sym same)

  pub made_badly : (wrong : RequestFault) → RequestRefused code id authenticator pairs secret wrong → IsUnmade (made asked id high low pairs) (stop_of wrong)
  unfolding made
  made_badly (fault.PasswordTooLong count) refused =
      ap (λ (longs : List ℕ). without_long longs (request_octets (code_for asked.kind) id (authenticator_of_words high low) pairs asked.secret)) (same_longs ∙ refused.2)
  made_badly (fault.TooLong count) refused =
      let octets = request_octets (code_for asked.kind) id (authenticator_of_words high low) pairs asked.secret in
      let long : 4096 < length octets = subst (λ (o : List ℕ). 4096 < length o) same_octets refused.1 in
      ap (λ (longs : List ℕ). without_long longs octets) (same_longs ∙ refused.0)
      ∙ ap (λ (b : Bool). cond b (Err TooLong) (Ok octets)) (lt-ltb 4096 (length octets) long)
  made_badly fault.NoMemory refused = tt

-- what is done by what was made
abbrev pub made_act : Asked → ℕ → List Pair → (Bool → Act) → Result (List ℕ) Unmade → Act
made_act asked id pairs next made = elim made [
  | Ok request ↦ served asked id pairs request next
  | Err wrong ↦ ended (NotMade wrong)
]

abbrev pub draws : Asked → ℕ → List Pair → (Bool → Act) → Act
draws asked id pairs next = drawing (λ high. drawing (λ low. made_act asked id pairs next (made asked id high low pairs)))

module _ (asked : Asked) (id : ℕ) (pairs : List Pair) (next : Bool → Act) where
  pub too_long : 2147483648 ≤ length pairs → (a : Seen) → Goes (packet asked id pairs next) (ended (NotMade TooLong)) a a
  unfolding packet
  too_long long a = Goes-same (packet asked id pairs next) (ended (NotMade TooLong)) a
      (λ come. ap (λ (b : Bool). cond b (ended (NotMade TooLong)) (draws asked id pairs next) come) (le-leb 2147483648 (length pairs) long))

  begins : length pairs < 2147483648 → (a : Seen) → Goes (packet asked id pairs next) (draws asked id pairs next) a a
  unfolding packet
  begins short a = Goes-same (packet asked id pairs next) (draws asked id pairs next) a
      (λ come. ap (λ (b : Bool). cond b (ended (NotMade TooLong)) (draws asked id pairs next) come) (lt-leb 2147483648 (length pairs) short))

  -- the luck gave a word
  abbrev pub after_word : Seen → Option (List ℕ) → Seen
  after_word before luck = record before { luck = luck }

  drawn : (act : ℕ → Act) (word : ℕ) (before : Seen) (luck : Option (List ℕ)) → Tells before.luck luck (λ old new. new ≡ old ++ word ∷ [])
      → Goes (drawing act) (act word) before (after_word before luck)
  drawn act word before luck tells = record {
    gained = record { heard = []; sent = []; words = word ∷ []; printed = [] };
    gains = record {
      wire = (Gains-nothing before).wire;
      luck = tells;
      out = (Gains-nothing before).out;
      wire_later = (Gains-nothing before).wire_later;
      out_later = (Gains-nothing before).out_later;
    };
    runs = λ come. refl;
  }

  pub draws_twice : (high low : ℕ) (before : Seen) (luck then_luck : Option (List ℕ)) → length pairs < 2147483648
      → Tells before.luck luck (λ old new. new ≡ old ++ high ∷ []) → Tells luck then_luck (λ old new. new ≡ old ++ low ∷ [])
      → Goes (packet asked id pairs next) (made_act asked id pairs next (made asked id high low pairs)) before (after_word before then_luck)
  draws_twice high low before luck then_luck short first second =
      let mid = after_word before luck in
      let last = after_word before then_luck in
      let one : ℕ → Act = λ (h : ℕ). drawing (λ l. made_act asked id pairs next (made asked id h l pairs)) in
      let two : ℕ → Act = λ (l : ℕ). made_act asked id pairs next (made asked id high l pairs) in
      Goes-trans (packet asked id pairs next) (draws asked id pairs next) (two low) before before last
      (begins short before)
      (Goes-trans (draws asked id pairs next) (one high) (two low) before mid last (drawn one high before luck first) (drawn two low mid then_luck second))

  pub making_result : (act : Act) (made : Result (List ℕ) Unmade) (a b : Seen) (result : Result (List ℕ) Stop)
      → MatchResult result (λ request. made ≡ Ok request) (IsUnmade made) → Goes act (made_act asked id pairs next made) a b
      → MatchResult result (λ request. Goes act (served asked id pairs request next) a b) (λ stop. Stops act stop a b)
  making_result act made a b (Ok request) is goes = subst (λ (m : Result (List ℕ) Unmade). Goes act (made_act asked id pairs next m) a b) is goes
  making_result act made a b (Err (stop.Unmade reason)) is goes = subst (λ (m : Result (List ℕ) Unmade). Goes act (made_act asked id pairs next m) a b) is goes
  making_result act made a b (Err stop.SocketFault) is goes = absurd is
  making_result act made a b (Err stop.WriteFault) is goes = absurd is
  making_result act made a b (Err stop.NoMemory) is goes = record { rest = made_act asked id pairs next made; unwritten = []; reaches = goes }
