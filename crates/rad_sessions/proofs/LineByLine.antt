-- A log is read line by line.
use Rattle.std.proofs.Common.{◌≡◌, ℕ, suc, ◌+◌, ◌<◌, ◌≤◌, true, false, cond, eqb, ltb, List, [], ◌∷◌, length, take, drop, Option, Some, None, refl, sym, subst, ap, ◌∙◌, arith}
use Rattle.std.specs.List.{fold}
use Rattle.std.proofs.lemmas.Bool.{ltb-true, ltb-false}
use Rattle.rad_sessions.specs.declared.session.Session.{Session}
use Rattle.rad_sessions.specs.Log.{mark_at, cut_at, onto_line, whole_lines, after_line, folded_onto}

-- The first line and those behind it, or none where no newline stands.
first_line : (text : List ℕ) → mark_at 10 text < length text → whole_lines text ≡ take (mark_at 10 text) text ∷ whole_lines (drop (suc (mark_at 10 text)) text)
unfolding mark_at whole_lines
first_line [] long = absurd (omega arith)
first_line (c ∷ text) long = (elim (eqb c 10) as (λ b. eqb c 10 ≡ b → cond b 0 (suc (mark_at 10 text)) < length (c ∷ text) → cond b ([] ∷ whole_lines text) (onto_line c (whole_lines text)) ≡ take (cond b 0 (suc (mark_at 10 text))) (c ∷ text) ∷ whole_lines (drop (suc (cond b 0 (suc (mark_at 10 text)))) (c ∷ text))) [
  | true ↦ λ e long. refl
  | false ↦ λ e long. ap (onto_line c) (first_line text (omega (arith, long)))
]) refl long

no_line : (text : List ℕ) → length text ≤ mark_at 10 text → whole_lines text ≡ []
unfolding mark_at whole_lines
no_line [] short = refl
no_line (c ∷ text) short = (elim (eqb c 10) as (λ b. eqb c 10 ≡ b → length (c ∷ text) ≤ cond b 0 (suc (mark_at 10 text)) → cond b ([] ∷ whole_lines text) (onto_line c (whole_lines text)) ≡ []) [
  | true ↦ λ e short. absurd (omega (arith, short))
  | false ↦ λ e short. ap (onto_line c) (no_line text (omega (arith, short)))
]) refl short

-- What cutting gives: the first line and what is behind it.
abbrev pub Cuts : List ℕ → Option (List ℕ × List ℕ) → Type 0
Cuts text None = whole_lines text ≡ []
Cuts text (Some cut) = whole_lines text ≡ cut.0 ∷ whole_lines cut.1

cut_lines : (text : List ℕ) → Cuts text (cut_at 10 text)
unfolding cut_at
cut_lines text = let next : suc (mark_at 10 text) ≡ mark_at 10 text + 1 = omega arith in (elim (ltb (mark_at 10 text) (length text)) as (λ b. ltb (mark_at 10 text) (length text) ≡ b → Cuts text (cond b (Some (take (mark_at 10 text) text, drop (mark_at 10 text + 1) text)) None)) [
  | true ↦ λ e. first_line text (ltb-true (mark_at 10 text) (length text) e) ∙ ap (λ n. take (mark_at 10 text) text ∷ whole_lines (drop n text)) next
  | false ↦ λ e. no_line text (ltb-false (mark_at 10 text) (length text) e)
]) refl

pub next_line : (sessions : List Session) (text line rest : List ℕ) → Some (line, rest) ≡ cut_at 10 text → folded_onto sessions text ≡ folded_onto (after_line sessions line) rest
next_line sessions text line rest e =
    let cut : Cuts text (Some (line, rest)) = subst (Cuts text) (sym e) (cut_lines text) in
    ap (fold after_line sessions) cut

pub last_line : (sessions : List Session) (text : List ℕ) → None ≡ cut_at 10 text → folded_onto sessions text ≡ sessions
last_line sessions text e =
    let cut : Cuts text None = subst (Cuts text) (sym e) (cut_lines text) in
    ap (fold after_line sessions) cut
