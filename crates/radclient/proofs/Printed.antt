-- Lines that are printed, and their end where the sink fails.
use Rattle.std.proofs.Common.{◌≡◌, ℕ, ◌+◌, ◌≤◌, Bool, true, false, cond, List, [], ◌++◌, take, drop, Option, Some, None, Result, Ok, Err, MatchResult, IsErr, inl, inr, refl, sym, ap, subst, ◌∙◌, append_assoc, append-nil, length, arith}
use Rattle.std.specs.Prelude.{◌==◌, slice_get}
use Rattle.std.proofs.lemmas.List.{take-append-drop, take_all}
use Rattle.std.proofs.lemmas.List.{drop_all}
use Rattle.rad_value.specs.declared.values.Pair.{Pair}
use Rattle.rad_outside.specs.declared.fault.Failed.{Failed}
use Rattle.rad_outside.specs.Sink.{Writes}
use Rattle.rad_outside.specs.Telling.{Tells, Counts}
use Rattle.rad_wire.proofs.Fitting.{drop_at_get}
use Rattle.radclient.specs.Answers.{Act, saying, with_front}
use Rattle.radclient.specs.Lines.{pair_line, pair_lines, unless_quiet}
use Rattle.radclient.specs.Seen.{Seen, Gains, Goes, IsCutOff, Stops}
use Rattle.radclient.specs.declared.asked.Asked.{Asked}
use Rattle.radclient.specs.declared.stop.Stop.{Stop}
use Rattle.radclient.specs.Client.{lines_at}
use Rattle.radclient.specs.Program.{Says}
use Rattle.radclient.proofs.Reaching.{Gains-nothing, Goes-same}

-- ---- lines of pairs

pub lines_more : (start text new : List ℕ) (pairs : List Pair) (n : ℕ) (pair : Pair) → slice_get pairs n ≡ Some pair
    → text ++ pair_lines (drop n pairs) ≡ start ++ pair_lines pairs → new ≡ text ++ pair_line pair
    → new ++ pair_lines (drop (n + 1) pairs) ≡ start ++ pair_lines pairs
lines_more start text new pairs n pair at so_far added =
    ap (λ (l : List ℕ). l ++ pair_lines (drop (n + 1) pairs)) added
    ∙ append_assoc text (pair_line pair) (pair_lines (drop (n + 1) pairs))
    ∙ ap (λ (ps : List Pair). text ++ pair_lines ps) (sym (drop_at_get pairs n pair at))
    ∙ so_far

pub lines_end : (start text : List ℕ) (pairs : List Pair) (n : ℕ) → length pairs ≤ n
    → text ++ pair_lines (drop n pairs) ≡ start ++ pair_lines pairs → text ≡ start ++ pair_lines pairs
lines_end start text pairs n past so_far =
    sym (append-nil text) ∙ ap (λ (ps : List Pair). text ++ pair_lines ps) (sym (drop_all n pairs past)) ∙ so_far

-- ---- printing

-- the sink was written to
abbrev pub after_write : Seen → Option (List ℕ) → ℕ → Seen
after_write before out faults = record before { out = out; out_faults = faults }

gains_printed : (printed : List ℕ) (before : Seen) (out : Option (List ℕ)) (faults : ℕ) → before.out_faults ≤ faults
    → Tells before.out out (λ old new. new ≡ old ++ printed)
    → Gains (record { heard = []; sent = []; words = []; printed = printed }) before (after_write before out faults)
gains_printed printed before out faults later tells = record {
  wire = (Gains-nothing before).wire;
  luck = (Gains-nothing before).luck;
  out = tells;
  wire_later = (Gains-nothing before).wire_later;
  out_later = later;
}

written_whole : (lines : List ℕ) (a b : Option (List ℕ)) → Tells a b (Writes lines (Ok tt)) → Tells a b (λ old new. new ≡ old ++ lines)
written_whole lines a None tells = tt
written_whole lines None (Some y) tells = absurd tells
written_whole lines (Some x) (Some y) tells = tells.1 ∙ ap (λ (l : List ℕ). x ++ l) (ap (λ (n : ℕ). take n lines) tells.2 ∙ take_all (length lines) lines (omega arith))

pub said : (lines : List ℕ) (next : Act) (before : Seen) (out : Option (List ℕ)) (faults : ℕ) → before.out_faults ≤ faults
    → Tells before.out out (Writes lines (Ok tt)) → Goes (saying lines next) next before (after_write before out faults)
said lines next before out faults later tells = record {
  gained = record { heard = []; sent = []; words = []; printed = lines };
  gains = gains_printed lines before out faults later (written_whole lines before.out out tells);
  runs = λ come. ap (λ (l : List ℕ). with_front [] l (next come)) (sym (append-nil lines));
}

written_front : (lines : List ℕ) (failed : Failed) (a b : Option (List ℕ)) → Tells a b (Writes lines (Err failed))
    → (printed : List ℕ) × (unwritten : List ℕ) × (lines ≡ printed ++ unwritten) × Tells a b (λ old new. new ≡ old ++ printed)
written_front lines failed a None tells = ([], lines, refl, tt)
written_front lines failed None (Some y) tells = absurd tells
written_front lines failed (Some x) (Some y) tells = (take tells.0 lines, drop tells.0 lines, sym (take-append-drop tells.0 lines), tells.1)

pub cut_short : (lines : List ℕ) (next : Act) (failed : Failed) (before : Seen) (out : Option (List ℕ)) (faults : ℕ) → before.out_faults ≤ faults
    → Tells before.out out (Writes lines (Err failed)) → IsCutOff (saying lines next) before (after_write before out faults)
cut_short lines next failed before out faults later tells =
    let front = written_front lines failed before.out out tells in
    record {
      rest = next;
      unwritten = front.1;
      reaches = record {
        gained = record { heard = []; sent = []; words = []; printed = front.0 };
        gains = gains_printed front.0 before out faults later front.3;
        runs = λ come. ap (λ (l : List ℕ). with_front [] l (next come)) front.2;
      };
    }

-- nothing is printed
pub said_nothing : (next : Act) (a : Seen) → Goes (saying [] next) next a a
said_nothing next a = Goes-same (saying [] next) next a (λ come. refl)

-- a quiet client prints nothing
pub said_quietly : (asked : Asked) (lines : List ℕ) (next : Act) (a : Seen) → asked.quiet ≡ true → Goes (saying (unless_quiet asked lines) next) next a a
said_quietly asked lines next a quiet = Goes-same (saying (unless_quiet asked lines) next) next a (λ come. ap (λ (b : Bool). saying (cond b [] lines) next come) quiet)

-- another send than the first prints nothing
pub said_once : (asked : Asked) (left : ℕ) (lines : List ℕ) (next : Act) (a : Seen) → asked.quiet ≡ false → (left == asked.tries) ≡ false
    → Goes (saying (unless_quiet asked (lines_at asked left lines)) next) next a a
said_once asked left lines next a loud other =
    Goes-same (saying (unless_quiet asked (lines_at asked left lines)) next) next a
    (λ come. ap (λ (b : Bool). saying (cond b [] (lines_at asked left lines)) next come) loud ∙ ap (λ (b : Bool). saying (cond b lines []) next come) other)

pub loudly : (asked : Asked) (lines : List ℕ) → asked.quiet ≡ false → lines ≡ unless_quiet asked lines
loudly asked lines loud = sym (ap (λ (b : Bool). cond b [] lines) loud)

pub loudly_first : (asked : Asked) (left : ℕ) (lines : List ℕ) → asked.quiet ≡ false → (left == asked.tries) ≡ true → lines ≡ unless_quiet asked (lines_at asked left lines)
loudly_first asked left lines loud first = sym (ap (λ (b : Bool). cond b [] (lines_at asked left lines)) loud ∙ ap (λ (b : Bool). cond b lines []) first)

-- what was said of these lines is said of the same ones
pub said_of : (one other : List ℕ) (next : Act) (a b : Seen) (result : Result (Unit {0}) Stop) → one ≡ other
    → MatchResult result (λ _. Goes (saying one next) next a b) (λ stop. Stops (saying one next) stop a b)
    → MatchResult result (λ _. Goes (saying other next) next a b) (λ stop. Stops (saying other next) stop a b)
said_of one other next a b result same said =
    subst (λ (lines : List ℕ). MatchResult result (λ _. Goes (saying lines next) next a b) (λ stop. Stops (saying lines next) stop a b)) same said

-- what one write prints
pub says_of : (lines : List ℕ) (result : Result (Unit {0}) Failed) (before : Seen) (out : Option (List ℕ)) (faults : ℕ) → Counts before.out_faults faults (IsErr result)
    → Tells before.out out (Writes lines result) → Says lines before (after_write before out faults)
says_of lines (Ok done) before out faults counts tells = record {
  printed = lines;
  unwritten = [];
  front = sym (append-nil lines);
  gains = gains_printed lines before out faults counts.later (written_whole lines before.out out tells);
  whole = inl refl;
}
says_of lines (Err failed) before out faults counts tells =
    let front = written_front lines failed before.out out tells in
    record {
      printed = front.0;
      unwritten = front.1;
      front = front.2;
      gains = gains_printed front.0 before out faults counts.later front.3;
      whole = inr (counts.cause refl);
    }
