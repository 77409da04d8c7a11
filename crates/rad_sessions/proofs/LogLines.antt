-- The lines of a log to which pieces were appended.
use Rattle.std.proofs.Common.{◌≡◌, ℕ, zero, suc, ◌≤◌, true, false, eqb, List, [], ◌∷◌, ◌++◌, take, Option, Some, None, refl, sym, ap, ◌∙◌, arith}
use Rattle.std.specs.List.{AllByRecursion, fold}
use Rattle.std.specs.Fmt.{decimal}
use Rattle.std.proofs.lemmas.Bool.{cond-true, cond-false, eqb-true}
use Rattle.rad_text.specs.Addresses.{dotted}
use Rattle.rad_sessions.specs.declared.session.Session.{Session}
use Rattle.rad_sessions.specs.declared.change.Change.{Change}
use Rattle.rad_sessions.specs.declared.change.Change.TheVariants.{Begin, Renew, End, Clear}
use Rattle.rad_sessions.specs.Log.{hex_word, word_then, dot, fields_of, line_of, onto_line, whole_lines, change_of, after_said, after_line, folded_onto}
use Rattle.rad_sessions.specs.Laws.{IsSession, IsChange}
use Rattle.rad_sessions.proofs.Words.{IsWord, decimal_word, dotted_word, hex_is_word}
use Rattle.rad_sessions.proofs.ReadBack.{read_back, written_exactly}

-- No newline stands among the octets; all of a line's are above it.
abbrev pub IsFlat : List ℕ → Type 0
IsFlat octets = AllByRecursion (λ c. 11 ≤ c) octets

flat_then : (word rest : List ℕ) → IsWord word → IsFlat rest → IsFlat (word_then word rest)
flat_then [] rest first second = (omega arith, second)
flat_then (c ∷ word) rest first second = (omega (arith, first.0), flat_then word rest first.1 second)

flat_dot : IsFlat dot
flat_dot = (omega arith, tt)

flat_fields : (s : Session) → IsSession s → IsFlat (fields_of s)
flat_fields s all =
    flat_then (dotted s.nas) _ (dotted_word s.nas all.nas) (flat_then (decimal s.port) _ (decimal_word s.port (omega (arith, all.port))) (flat_then (dotted s.framed) _ (dotted_word s.framed all.framed)
    (flat_then (decimal s.since) _ (decimal_word s.since all.since) (flat_then (hex_word s.user) _ (hex_is_word s.user) (flat_then (hex_word s.id) _ (hex_is_word s.id) flat_dot)))))

pub flat_line : (change : Change) → IsChange change → IsFlat (line_of change)
unfolding line_of
flat_line (Begin s) all = flat_then (98 ∷ 101 ∷ 103 ∷ 105 ∷ 110 ∷ []) (fields_of s) (omega arith, (omega arith, (omega arith, (omega arith, (omega arith, tt))))) (flat_fields s all)
flat_line (Renew nas port framed) all =
    flat_then (114 ∷ 101 ∷ 110 ∷ 101 ∷ 119 ∷ []) _ (omega arith, (omega arith, (omega arith, (omega arith, (omega arith, tt)))))
    (flat_then (dotted nas) _ (dotted_word nas all.0) (flat_then (decimal port) _ (decimal_word port (omega (arith, all.1))) (flat_then (dotted framed) _ (dotted_word framed all.2) flat_dot)))
flat_line (End nas port) all =
    flat_then (101 ∷ 110 ∷ 100 ∷ []) _ (omega arith, (omega arith, (omega arith, tt))) (flat_then (dotted nas) _ (dotted_word nas all.0) (flat_then (decimal port) _ (decimal_word port (omega (arith, all.1))) flat_dot))
flat_line (Clear nas) all =
    flat_then (99 ∷ 108 ∷ 101 ∷ 97 ∷ 114 ∷ []) _ (omega arith, (omega arith, (omega arith, (omega arith, (omega arith, tt))))) (flat_then (dotted nas) _ (dotted_word nas all) flat_dot)

pub flat_take : (n : ℕ) (octets : List ℕ) → IsFlat octets → IsFlat (take n octets)
flat_take zero octets all = tt
flat_take (suc n) [] all = tt
flat_take (suc n) (c ∷ octets) all = (all.0, flat_take n octets all.1)

no_newline : (c : ℕ) → 11 ≤ c → eqb c 10 ≡ false
no_newline c high = (elim (eqb c 10) as (λ b. eqb c 10 ≡ b → eqb c 10 ≡ false) [
  | true ↦ λ e. absurd (let same : c ≡ 10 = eqb-true c 10 e in omega arith)
  | false ↦ λ e. e
]) refl

-- Octets without a newline add no line.
no_line : (octets : List ℕ) → IsFlat octets → whole_lines octets ≡ []
unfolding whole_lines
no_line [] all = refl
no_line (c ∷ octets) all = cond-false _ _ _ (no_newline c all.0) ∙ ap (onto_line c) (no_line octets all.1)

at_newline : (c : ℕ) (rest : List ℕ) → eqb c 10 ≡ true → whole_lines (c ∷ rest) ≡ [] ∷ whole_lines rest
unfolding whole_lines
at_newline c rest e = cond-true _ _ _ e

at_octet : (c : ℕ) (rest : List ℕ) → eqb c 10 ≡ false → whole_lines (c ∷ rest) ≡ onto_line c (whole_lines rest)
unfolding whole_lines
at_octet c rest e = cond-false _ _ _ e

pub nothing_added : (log octets : List ℕ) → IsFlat octets → whole_lines (log ++ octets) ≡ whole_lines log
nothing_added [] octets all = no_line octets all ∙ sym (no_line [] tt)
nothing_added (c ∷ log) octets all = (elim (eqb c 10) as (λ b. eqb c 10 ≡ b → whole_lines ((c ∷ log) ++ octets) ≡ whole_lines (c ∷ log)) [
  | true ↦ λ e. at_newline c (log ++ octets) e ∙ ap (λ lines. [] ∷ lines) (nothing_added log octets all) ∙ sym (at_newline c log e)
  | false ↦ λ e. at_octet c (log ++ octets) e ∙ ap (onto_line c) (nothing_added log octets all) ∙ sym (at_octet c log e)
]) refl

-- A line that is written is a line.
pub line_added : (line rest : List ℕ) → IsFlat line → whole_lines (line ++ 10 ∷ rest) ≡ line ∷ whole_lines rest
line_added [] rest all = at_newline 10 rest refl
line_added (c ∷ line) rest all = at_octet c (line ++ 10 ∷ rest) (no_newline c all.0) ∙ ap (onto_line c) (line_added line rest all.1)

-- What stands unended in a log, with the mark behind it, is one line.
abbrev pub IsEnded : List (List ℕ) → List (List ℕ) → List (List ℕ) → Type 0
IsEnded before behind lines = (unended : List ℕ) × (lines ≡ before ++ (unended ++ 126 ∷ []) ∷ behind)

in_front : (c : ℕ) (before behind lines : List (List ℕ)) → IsEnded before behind lines → IsEnded (onto_line c before) behind (onto_line c lines)
in_front c [] behind lines ended = (c ∷ ended.0, ap (onto_line c) ended.1)
in_front c (line ∷ before) behind lines ended = (ended.0, ap (onto_line c) ended.1)

mark_alone : (rest : List ℕ) → whole_lines (126 ∷ 10 ∷ rest) ≡ (126 ∷ []) ∷ whole_lines rest
mark_alone rest = at_octet 126 (10 ∷ rest) refl ∙ ap (onto_line 126) (at_newline 10 rest refl)

ended_at : (c : ℕ) (before behind lines : List (List ℕ)) (log : List ℕ) (all : List ℕ) → whole_lines (c ∷ log) ≡ before → whole_lines (c ∷ all) ≡ lines → IsEnded before behind lines → IsEnded (whole_lines (c ∷ log)) behind (whole_lines (c ∷ all))
ended_at c before behind lines log all one two ended = (ended.0, two ∙ ended.1 ∙ ap (λ front. front ++ (ended.0 ++ 126 ∷ []) ∷ behind) (sym one))

pub mark_ends : (log rest : List ℕ) → IsEnded (whole_lines log) (whole_lines rest) (whole_lines (log ++ 126 ∷ 10 ∷ rest))
mark_ends [] rest = ([], mark_alone rest ∙ ap (λ front. front ++ (126 ∷ []) ∷ whole_lines rest) (sym (no_line [] tt)))
mark_ends (c ∷ log) rest = (elim (eqb c 10) as (λ b. eqb c 10 ≡ b → IsEnded (whole_lines (c ∷ log)) (whole_lines rest) (whole_lines (c ∷ (log ++ 126 ∷ 10 ∷ rest)))) [
  | true ↦ λ e. let more = mark_ends log rest in ended_at c ([] ∷ whole_lines log) (whole_lines rest) ([] ∷ whole_lines (log ++ 126 ∷ 10 ∷ rest)) log (log ++ 126 ∷ 10 ∷ rest) (at_newline c log e) (at_newline c (log ++ 126 ∷ 10 ∷ rest) e) (more.0, ap (λ lines. [] ∷ lines) more.1)
  | false ↦ λ e. ended_at c (onto_line c (whole_lines log)) (whole_lines rest) (onto_line c (whole_lines (log ++ 126 ∷ 10 ∷ rest))) log (log ++ 126 ∷ 10 ∷ rest) (at_octet c log e) (at_octet c (log ++ 126 ∷ 10 ∷ rest) e) (in_front c (whole_lines log) (whole_lines rest) (whole_lines (log ++ 126 ∷ 10 ∷ rest)) (mark_ends log rest))
]) refl

-- The last octet of a text.
abbrev pub end_of : List ℕ → ℕ
end_of [] = 0
end_of (c ∷ []) = c
end_of (c ∷ d ∷ rest) = end_of (d ∷ rest)

end_behind : (front : List ℕ) (c : ℕ) (rest : List ℕ) → end_of (front ++ c ∷ rest) ≡ end_of (c ∷ rest)
end_behind [] c rest = refl
end_behind (a ∷ []) c rest = refl
end_behind (a ∷ b ∷ front) c rest = end_behind (b ∷ front) c rest

end_then : (word rest : List ℕ) → end_of (32 ∷ word_then word rest) ≡ end_of (32 ∷ rest)
end_then word rest = end_behind (32 ∷ word) 32 rest

end_fields : (s : Session) → end_of (32 ∷ fields_of s) ≡ 46
end_fields s = end_then (dotted s.nas) _ ∙ end_then (decimal s.port) _ ∙ end_then (dotted s.framed) _ ∙ end_then (decimal s.since) _ ∙ end_then (hex_word s.user) _ ∙ end_then (hex_word s.id) dot

line_end : (change : Change) → end_of (line_of change) ≡ 46
unfolding line_of
line_end (Begin s) = end_behind (98 ∷ 101 ∷ 103 ∷ 105 ∷ 110 ∷ []) 32 (fields_of s) ∙ end_fields s
line_end (Renew nas port framed) =
    end_behind (114 ∷ 101 ∷ 110 ∷ 101 ∷ 119 ∷ []) 32 (word_then (dotted nas) (word_then (decimal port) (word_then (dotted framed) dot)))
    ∙ end_then (dotted nas) (word_then (decimal port) (word_then (dotted framed) dot)) ∙ end_then (decimal port) (word_then (dotted framed) dot) ∙ end_then (dotted framed) dot
line_end (End nas port) =
    end_behind (101 ∷ 110 ∷ 100 ∷ []) 32 (word_then (dotted nas) (word_then (decimal port) dot)) ∙ end_then (dotted nas) (word_then (decimal port) dot) ∙ end_then (decimal port) dot
line_end (Clear nas) = end_behind (99 ∷ 108 ∷ 101 ∷ 97 ∷ 114 ∷ []) 32 (word_then (dotted nas) dot) ∙ end_then (dotted nas) dot

says_nothing : (unended : List ℕ) (said : Option Change) → change_of (unended ++ 126 ∷ []) ≡ said → said ≡ None
says_nothing unended None e = refl
says_nothing unended (Some change) e = absurd (
    let mark : end_of (unended ++ 126 ∷ []) ≡ 126 = end_behind unended 126 [] in
    let same : end_of (unended ++ 126 ∷ []) ≡ 46 = ap end_of (written_exactly (unended ++ 126 ∷ []) change e) ∙ line_end change in
    omega (arith, mark, same))

unended_line : (sessions : List Session) (unended : List ℕ) → after_line sessions (unended ++ 126 ∷ []) ≡ sessions
unended_line sessions unended = ap (after_said sessions) (says_nothing unended (change_of (unended ++ 126 ∷ [])) refl)

lines_on : (sessions : List Session) (one two : List (List ℕ)) → fold after_line sessions (one ++ two) ≡ fold after_line (fold after_line sessions one) two
lines_on sessions [] two = refl
lines_on sessions (line ∷ one) two = lines_on (after_line sessions line) one two

-- What stands behind the mark is read by itself.
pub mark_parts : (sessions : List Session) (log rest : List ℕ) → folded_onto sessions (log ++ 126 ∷ 10 ∷ rest) ≡ folded_onto (folded_onto sessions log) rest
mark_parts sessions log rest =
    let ended = mark_ends log rest in
    ap (fold after_line sessions) ended.1 ∙ lines_on sessions (whole_lines log) ((ended.0 ++ 126 ∷ []) ∷ whole_lines rest)
    ∙ ap (λ now. fold after_line now (whole_lines rest)) (unended_line (folded_onto sessions log) ended.0)

pub flat_parts : (sessions : List Session) (log octets : List ℕ) → IsFlat octets → folded_onto sessions (log ++ octets) ≡ folded_onto sessions log
flat_parts sessions log octets all = ap (fold after_line sessions) (nothing_added log octets all)

pub flat_alone : (sessions : List Session) (octets : List ℕ) → IsFlat octets → folded_onto sessions octets ≡ sessions
flat_alone sessions octets all = ap (fold after_line sessions) (no_line octets all)

pub line_alone : (sessions : List Session) (change : Change) → IsChange change → folded_onto sessions (line_of change ++ 10 ∷ []) ≡ after_said sessions (Some change)
line_alone sessions change all =
    ap (fold after_line sessions) (line_added (line_of change) [] (flat_line change all) ∙ ap (λ lines. line_of change ∷ lines) (no_line [] tt))
    ∙ ap (after_said sessions) (read_back change all)
