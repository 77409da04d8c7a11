-- How often a request was sent and what came of it, in runs that come to their end.
use Rattle.std.proofs.Common.{◌≡◌, ℕ, zero, suc, ◌+◌, ◌*◌, ◌<◌, ◌≤◌, Bool, true, false, cond, List, [], ◌∷◌, ◌++◌, length, replicate, Option, Some, None, refl, sym, ap, ◌∙◌, subst, append_assoc, arith}
use Rattle.std.specs.Prelude.{◌==◌}
use Rattle.std.specs.List.{AllByRecursion}
use Rattle.std.proofs.Math.Nat.{suc-mul}
use Rattle.std.proofs.lemmas.Bool.{eqb-true, false_from_ne_true}
use Rattle.std.proofs.lemmas.List.{length-append}
use Rattle.rad_outside.specs.declared.wire.Heard.{Heard}
use Rattle.rad_outside.specs.declared.wire.Heard.TheVariants as heard
use Rattle.radclient.specs.declared.asked.Asked.{Asked}
use Rattle.radclient.specs.Answers.{Act, Run, ToCome, Sending, with_front}
use Rattle.radclient.specs.Client.{awaited, lines_at, tried}
use Rattle.radclient.specs.Exchanges.{IsNoReply, where_sent}
use Rattle.radclient.specs.Lines.{unless_quiet}
use Rattle.radclient.proofs.Tries.{again}
use Rattle.radclient.proofs.Waited.{HasEnded, Found, Missed, WaitedFor, awaited_all}

all_append : {X : Type 0} (P : X → Type 0) (xs ys : List X) → AllByRecursion P xs → AllByRecursion P ys → AllByRecursion P (xs ++ ys)
all_append P [] ys first second = second
all_append P (x ∷ xs) ys first second = (first.0, all_append P xs ys first.1 second)

-- the reply came behind the last of so many sends
pub record Replied (asked : Asked) (request : List ℕ) (left times : ℕ) (used : List Heard) (reply : List ℕ) : Type 0 where
  pub found : Found asked request (times * asked.waits) used reply
  pub due : times * asked.waits ≤ length found.before + asked.waits
  pub within : times ≤ left

-- no reply came behind so many sends
pub record Unreplied (asked : Asked) (request : List ℕ) (left times : ℕ) (used : List Heard) : Type 0 where
  pub sent : times ≡ left
  pub missed : Missed asked request (left * asked.waits) used

abbrev pub TriedFor : Asked → List ℕ → ℕ → ℕ → List Heard → Option (List ℕ) → Type 0
TriedFor asked request left times used (Some reply) = Replied asked request left times used reply
TriedFor asked request left times used None = Unreplied asked request left times used

more_tries : (found : Option (List ℕ)) (asked : Asked) (request : List ℕ) (left times : ℕ) (used more : List Heard) → Missed asked request asked.waits used
    → TriedFor asked request left times more found → TriedFor asked request (suc left) (suc times) (used ++ more) found
more_tries (Some reply) asked request left times used more m r =
    let f = r.found in
    let l = length-append used f.before in
    let p = suc-mul times asked.waits in record {
      found = record {
        before = used ++ f.before;
        last = ap (λ (l : List Heard). used ++ l) f.last ∙ sym (append_assoc used f.before (heard.Datagram reply asked.server ∷ []));
        accepted = f.accepted;
        first = all_append (IsNoReply asked request) used f.before m.none f.first;
        soon = omega (arith, l, p, m.waited, f.soon);
      };
      due = omega (arith, l, p, m.waited, r.due);
      within = omega (arith, r.within);
    }
more_tries None asked request left times used more m u =
    let l = length-append used more in
    let p = suc-mul left asked.waits in record {
      sent = ap (λ (n : ℕ). suc n) u.sent;
      missed = record {
        waited = omega (arith, l, p, m.waited, u.missed.waited);
        none = all_append (IsNoReply asked request) used more m.none u.missed.none;
      };
    }

-- what is printed where the first of so many sends is to be told
abbrev pub first_lines : Asked → ℕ → List ℕ → ℕ → List ℕ
first_lines asked left lines times = where_sent times (unless_quiet asked (lines_at asked left lines))

abbrev no_lines : List ℕ
no_lines = []

nothing_quiet : (quiet : Bool) → cond quiet [] [] ≡ no_lines
nothing_quiet true = refl
nothing_quiet false = refl

-- a send that isn't the first prints nothing
nothing_later : (times : ℕ) (asked : Asked) (left : ℕ) (lines : List ℕ) → left < asked.tries → first_lines asked left lines times ≡ []
nothing_later zero asked left lines later = refl
nothing_later (suc times) asked left lines later =
    let other : (left == asked.tries) ≡ false = false_from_ne_true (left == asked.tries) (λ same. let e = eqb-true left asked.tries same in omega (arith, e, later)) in
    ap (λ (b : Bool). cond asked.quiet [] (cond b lines [])) other ∙ nothing_quiet asked.quiet

module _ (asked : Asked) (request lines : List ℕ) (next : Option (List ℕ) → Act) (words : List ℕ) where
  abbrev the_sending : Sending
  the_sending = record { to = asked.server; octets = request }

  -- the request was sent so often, and what came of it is done next
  pub record Tried (left : ℕ) (taken : List Bool) (answers : List Heard) : Type 0 where
    pub times : ℕ
    pub used : List Heard
    pub rest : List Heard
    pub free : List Bool
    pub found : Option (List ℕ)
    pub split : answers ≡ used ++ rest
    pub takes : taken ≡ replicate times true ++ free
    pub facts : TriedFor asked request left times used found
    pub runs : tried asked request lines left next (record { taken = taken; heard = answers; words = words })
        ≡ with_front (replicate times the_sending) (first_lines asked left lines times) (next found (record { taken = free; heard = rest; words = words }))

  by_found : (found : Option (List ℕ)) (left : ℕ) → suc left ≤ asked.tries → (more : List Bool) (answers used rest : List Heard) → answers ≡ used ++ rest
      → WaitedFor asked request asked.waits used found
      → awaited asked request asked.waits (again asked request lines left next) (record { taken = more; heard = answers; words = words })
      ≡ again asked request lines left next found (record { taken = more; heard = rest; words = words })
      → HasEnded (awaited asked request asked.waits (again asked request lines left next) (record { taken = more; heard = answers; words = words })).ending
      → (HasEnded (tried asked request lines left next (record { taken = more; heard = rest; words = words })).ending → Tried left more rest)
      → Tried (suc left) (true ∷ more) answers
  unfolding tried
  by_found (Some reply) left within more answers used rest split facts runs ends below = record {
    times = 1;
    used = used;
    rest = rest;
    free = more;
    found = Some reply;
    split = split;
    takes = refl;
    facts = record {
      found = record { before = facts.before; last = facts.last; accepted = facts.accepted; first = facts.first; soon = omega (arith, facts.soon) };
      due = omega arith;
      within = omega arith;
    };
    runs = ap (λ (run : Run). with_front (the_sending ∷ []) [] (with_front [] (unless_quiet asked (lines_at asked (suc left) lines)) run)) runs;
  }
  by_found None left within more answers used rest split facts runs ends below =
      let t = below (subst (λ (run : Run). HasEnded run.ending) runs ends) in
      let come : ToCome = record { taken = t.free; heard = t.rest; words = words } in
      let front : List ℕ = unless_quiet asked (lines_at asked (suc left) lines) in record {
        times = suc t.times;
        used = used ++ t.used;
        rest = t.rest;
        free = t.free;
        found = t.found;
        split = split ∙ ap (λ (l : List Heard). used ++ l) t.split ∙ sym (append_assoc used t.used t.rest);
        takes = ap (λ (l : List Bool). true ∷ l) t.takes;
        facts = more_tries t.found asked request left t.times used t.used facts t.facts;
        runs = ap (λ (run : Run). with_front (the_sending ∷ []) [] (with_front [] front run)) (runs ∙ t.runs)
            ∙ ap (λ (l : List ℕ). with_front (the_sending ∷ []) [] (with_front [] front (with_front (replicate t.times the_sending) l (next t.found come))))
            (nothing_later t.times asked left lines (omega (arith, within)));
      }

  pub tried_all : (left : ℕ) → left ≤ asked.tries → (taken : List Bool) (answers : List Heard)
      → HasEnded (tried asked request lines left next (record { taken = taken; heard = answers; words = words })).ending → Tried left taken answers
  unfolding tried
  tried_all zero within taken answers ends = record {
    times = 0;
    used = [];
    rest = answers;
    free = taken;
    found = None;
    split = refl;
    takes = refl;
    facts = record { sent = refl; missed = record { waited = omega arith; none = tt } };
    runs = refl;
  }
  tried_all (suc left) within [] answers ends = absurd ends
  tried_all (suc left) within (false ∷ more) answers ends = absurd ends
  tried_all (suc left) within (true ∷ more) answers ends =
      let w = awaited_all asked request (again asked request lines left next) more words asked.waits answers ends in
      by_found w.found left within more answers w.used w.rest w.split w.facts w.runs ends (λ later. tried_all left (omega (arith, within)) more w.rest later)
