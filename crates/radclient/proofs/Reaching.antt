-- How far a run came, one step after another.
use Rattle.std.proofs.Common.{◌≡◌, ℕ, ◌≤◌, Bool, List, [], ◌++◌, map, Option, Some, None, Result, Ok, Err, MatchResult, refl, sym, ap, ◌∙◌, append_assoc, append-nil, arith}
use Rattle.std.proofs.lemmas.List.{map-append}
use Rattle.rad_outside.specs.declared.wire.Heard.{Heard}
use Rattle.rad_outside.specs.declared.wire.Sent.{Sent}
use Rattle.rad_outside.specs.Telling.{Tells, Rose}
use Rattle.radclient.specs.declared.stop.Stop.{Stop}
use Rattle.radclient.specs.declared.stop.Stop.TheVariants as stop
use Rattle.radclient.specs.Answers.{Act, Run, ToCome, Sending, NotMade, SocketFault, ended, with_front}
use Rattle.radclient.specs.Seen.{Seen, Gained, Gains, Reaches, Goes, IsCutOff, Stops, before_later, sending_of}

-- from one call to the next
pub Tells-trans : {T : Type 0} {R S : T → T → Type 0} (Q : T → T → Type 0) (a b c : Option T) → ((x y z : T) → R x y → S y z → Q x z) → Tells a b R → Tells b c S → Tells a c Q
Tells-trans Q a b None join first second = tt
Tells-trans Q a None (Some z) join first second = absurd second
Tells-trans Q None (Some y) (Some z) join first second = absurd first
Tells-trans Q (Some x) (Some y) (Some z) join first second = join x y z first second

pub Tells-same : {T : Type 0} (R : T → T → Type 0) (a : Option T) → ((x : T) → R x x) → Tells a a R
Tells-same R None holds = tt
Tells-same R (Some x) holds = holds x

pub Tells-weaker : {T : Type 0} {R : T → T → Type 0} (S : T → T → Type 0) (a b : Option T) → ((x y : T) → R x y → S x y) → Tells a b R → Tells a b S
Tells-weaker S a None weaker tells = tt
Tells-weaker S None (Some y) weaker tells = absurd tells
Tells-weaker S (Some x) (Some y) weaker tells = weaker x y tells

-- what was gained first and what was gained then
abbrev pub joined : Gained → Gained → Gained
joined first second = record {
  heard = first.heard ++ second.heard;
  sent = first.sent ++ second.sent;
  words = first.words ++ second.words;
  printed = first.printed ++ second.printed;
}

grown : {X : Type 0} (before mid now xs ys : List X) → mid ≡ before ++ xs → now ≡ mid ++ ys → now ≡ before ++ (xs ++ ys)
grown before mid now xs ys first second = second ∙ ap (λ l. l ++ ys) first ∙ append_assoc before xs ys

pub Gains-trans : (one two : Gained) (a b c : Seen) → Gains one a b → Gains two b c → Gains (joined one two) a c
Gains-trans one two a b c first second = record {
  wire = Tells-trans (λ old new. (new.heard ≡ old.heard ++ (one.heard ++ two.heard)) × (new.sent ≡ old.sent ++ (one.sent ++ two.sent))) a.wire b.wire c.wire
      (λ x y z f s. (grown x.heard y.heard z.heard one.heard two.heard f.0 s.0, grown x.sent y.sent z.sent one.sent two.sent f.1 s.1)) first.wire second.wire;
  luck = Tells-trans (λ old new. new ≡ old ++ (one.words ++ two.words)) a.luck b.luck c.luck (λ x y z f s. grown x y z one.words two.words f s) first.luck second.luck;
  out = Tells-trans (λ old new. new ≡ old ++ (one.printed ++ two.printed)) a.out b.out c.out (λ x y z f s. grown x y z one.printed two.printed f s) first.out second.out;
  wire_later = omega (arith, first.wire_later, second.wire_later);
  out_later = omega (arith, first.out_later, second.out_later);
}

-- answers that came first, then those that came then, and later ones
joined_later : (one two : Gained) (later : ToCome) → before_later (joined one two) later ≡ before_later one (before_later two later)
joined_later one two later =
    ap (λ (taken : List Bool). record { taken = taken; heard = (one.heard ++ two.heard) ++ later.heard; words = (one.words ++ two.words) ++ later.words })
    (ap (λ (l : List Bool). l ++ later.taken) (map-append (λ (s : Sent). s.done) one.sent two.sent)
    ∙ append_assoc (map (λ (s : Sent). s.done) one.sent) (map (λ (s : Sent). s.done) two.sent) later.taken)
    ∙ ap (λ (heard : List Heard). record { taken = map (λ (s : Sent). s.done) one.sent ++ (map (λ (s : Sent). s.done) two.sent ++ later.taken); heard = heard; words = (one.words ++ two.words) ++ later.words })
    (append_assoc one.heard two.heard later.heard)
    ∙ ap (λ (words : List ℕ). record { taken = map (λ (s : Sent). s.done) one.sent ++ (map (λ (s : Sent). s.done) two.sent ++ later.taken); heard = one.heard ++ (two.heard ++ later.heard); words = words })
    (append_assoc one.words two.words later.words)

fronts : (s t : List Sending) (l m : List ℕ) (run : Run) → with_front s l (with_front t m run) ≡ with_front (s ++ t) (l ++ m) run
fronts s t l m run =
    ap (λ (sends : List Sending). record { sends = sends; lines = l ++ (m ++ run.lines); ending = run.ending; left = run.left }) (sym (append_assoc s t run.sends))
    ∙ ap (λ (lines : List ℕ). record { sends = (s ++ t) ++ run.sends; lines = lines; ending = run.ending; left = run.left }) (sym (append_assoc l m run.lines))

-- one way and then another
pub Reaches-trans : (x y z : Act) (unwritten : List ℕ) (a b c : Seen) → Goes x y a b → Reaches y z unwritten b c → Reaches x z unwritten a c
Reaches-trans x y z unwritten a b c first second =
    let one = first.gained in
    let two = second.gained in
    record {
      gained = joined one two;
      gains = Gains-trans one two a b c first.gains second.gains;
      runs = λ later.
          ap x (joined_later one two later)
          ∙ first.runs (before_later two later)
          ∙ ap (with_front (map sending_of one.sent) (one.printed ++ [])) (second.runs later)
          ∙ ap (λ (l : List ℕ). with_front (map sending_of one.sent) l (with_front (map sending_of two.sent) (two.printed ++ unwritten) (z later))) (append-nil one.printed)
          ∙ fronts (map sending_of one.sent) (map sending_of two.sent) one.printed (two.printed ++ unwritten) (z later)
          ∙ ap (λ (s : List Sending). with_front s (one.printed ++ (two.printed ++ unwritten)) (z later)) (sym (map-append sending_of one.sent two.sent))
          ∙ ap (λ (l : List ℕ). with_front (map sending_of (one.sent ++ two.sent)) l (z later)) (sym (append_assoc one.printed two.printed unwritten));
    }

pub Goes-trans : (x y z : Act) (a b c : Seen) → Goes x y a b → Goes y z b c → Goes x z a c
Goes-trans x y z a b c first second = Reaches-trans x y z [] a b c first second

pub CutOff-trans : (x y : Act) (a b c : Seen) → Goes x y a b → IsCutOff y b c → IsCutOff x a c
CutOff-trans x y a b c first cut = record {
  rest = cut.rest;
  unwritten = cut.unwritten;
  reaches = Reaches-trans x y cut.rest cut.unwritten a b c first cut.reaches;
}

rose_since : (a b c : ℕ) → a ≤ b → Rose b c → Rose a c
rose_since a b c le rose = omega arith

pub Stops-trans : (x y : Act) (why : Stop) (a b c : Seen) → Goes x y a b → Stops y why b c → Stops x why a c
Stops-trans x y (stop.Unmade reason) a b c first stops = Goes-trans x y (ended (NotMade reason)) a b c first stops
Stops-trans x y stop.SocketFault a b c first stops = (Goes-trans x y (ended SocketFault) a b c first stops.0, rose_since a.wire_faults b.wire_faults c.wire_faults first.gains.wire_later stops.1)
Stops-trans x y stop.WriteFault a b c first stops = (CutOff-trans x y a b c first stops.0, rose_since a.out_faults b.out_faults c.out_faults first.gains.out_later stops.1)
Stops-trans x y stop.NoMemory a b c first stops = CutOff-trans x y a b c first stops

abbrev pub nothing : Gained
nothing = record { heard = []; sent = []; words = []; printed = [] }

pub Gains-nothing : (a : Seen) → Gains nothing a a
Gains-nothing a = record {
  wire = Tells-same (λ old new. (new.heard ≡ old.heard ++ []) × (new.sent ≡ old.sent ++ [])) a.wire (λ x. (sym (append-nil x.heard), sym (append-nil x.sent)));
  luck = Tells-same (λ old new. new ≡ old ++ []) a.luck (λ x. sym (append-nil x));
  out = Tells-same (λ old new. new ≡ old ++ []) a.out (λ x. sym (append-nil x));
  wire_later = omega arith;
  out_later = omega arith;
}

-- nothing was done yet, or is to be done but to look at the act in another way
pub Goes-same : (x y : Act) (a : Seen) → ((later : ToCome) → x later ≡ y later) → Goes x y a a
Goes-same x y a same = record { gained = nothing; gains = Gains-nothing a; runs = same }

pub CutOff-here : (x : Act) (a : Seen) → IsCutOff x a a
CutOff-here x a = record { rest = x; unwritten = []; reaches = Goes-same x x a (λ later. refl) }

-- one way, and then a call's
pub chained : {A : Type 0} (x y : Act) (to : A → Act) (a b c : Seen) (result : Result A Stop) → Goes x y a b
    → MatchResult result (λ v. Goes y (to v) b c) (λ stop. Stops y stop b c)
    → MatchResult result (λ v. Goes x (to v) a c) (λ stop. Stops x stop a c)
chained x y to a b c (Ok v) first second = Goes-trans x y (to v) a b c first second
chained x y to a b c (Err why) first second = Stops-trans x y why a b c first second
