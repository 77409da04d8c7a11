-- The first line of a text, its end, and the lines behind it.
use Rattle.std.proofs.Common.{◌≡◌, ℕ, suc, ◌<◌, Bool, true, false, not, ◌||◌, eqb, List, [], ◌∷◌, ◌++◌, length, take, drop, slice_index, Option, Some, None, refl, sym, ap, ◌∙◌, arith}
use Rattle.std.specs.List.{list_any, onto_first}
use Rattle.std.proofs.lemmas.List.Folds.{list_any-append}
use Rattle.std.proofs.lemmas.Bool.{true≢false, and_from, and_parts, and_left, and_right, or_from, or_parts, not-true, not_from_false, ne_eqb}
use Rattle.rad_text.specs.Lines.{is_return, lines_of, after_line_end, line_len, is_line}

-- What stands behind a line end, or nothing where the text ends.
abbrev pub others : Option (List ℕ) → List ℕ
others None = []
others (Some rest) = rest

-- The first line, and what is behind it.
abbrev pub IsCut : List ℕ → Type 0
IsCut text = lines_of text ≡ take (line_len text) text ∷ lines_of (others (after_line_end (drop (line_len text) text)))

no_lines : lines_of [] ≡ []
unfolding lines_of
no_lines = refl

no_length : line_len [] ≡ 0
unfolding line_len
no_length = refl

ends_here : (text after : List ℕ) → line_len text ≡ 0 → after_line_end text ≡ Some after → lines_of text ≡ [] ∷ lines_of after → IsCut text
ends_here text after none end lines =
    lines ∙ sym (ap (λ n. take n text ∷ lines_of (others (after_line_end (drop n text)))) none ∙ ap (λ o. [] ∷ lines_of (others o)) end)

goes_on : (c : ℕ) (rest : List ℕ) → line_len (c ∷ rest) ≡ suc (line_len rest) → lines_of (c ∷ rest) ≡ onto_first c (lines_of rest) → IsCut rest → IsCut (c ∷ rest)
goes_on c rest one lines more =
    lines ∙ ap (onto_first c) more ∙ sym (ap (λ n. take n (c ∷ rest) ∷ lines_of (others (after_line_end (drop n (c ∷ rest))))) one)

at_newline : (c : ℕ) (rest : List ℕ) → eqb c 10 ≡ true → (line_len (c ∷ rest) ≡ 0) × (after_line_end (c ∷ rest) ≡ Some rest) × (lines_of (c ∷ rest) ≡ [] ∷ lines_of rest)
unfolding lines_of line_len after_line_end
at_newline c rest e = (rw e refl, rw e refl, rw e refl)

behind_return : (rest : List ℕ) → eqb (slice_index rest 0) 10 ≡ true → lines_of rest ≡ [] ∷ lines_of (drop 1 rest)
unfolding lines_of
behind_return [] e = absurd (true≢false (sym e))
behind_return (c ∷ rest) e = rw e refl

at_return : (c : ℕ) (rest : List ℕ) → eqb c 10 ≡ false → is_return c rest ≡ true → (line_len (c ∷ rest) ≡ 0) × (after_line_end (c ∷ rest) ≡ Some (drop 1 rest)) × (lines_of (c ∷ rest) ≡ lines_of rest)
unfolding lines_of line_len after_line_end
at_return c rest other e = (rw (other, e) refl, rw (other, e) refl, rw (other, e) refl)

at_octet : (c : ℕ) (rest : List ℕ) → eqb c 10 ≡ false → is_return c rest ≡ false → (line_len (c ∷ rest) ≡ suc (line_len rest)) × (lines_of (c ∷ rest) ≡ onto_first c (lines_of rest))
unfolding lines_of line_len after_line_end
at_octet c rest other e = (rw (other, e) refl, rw (other, e) refl)

only_octet : (c : ℕ) → line_len (c ∷ []) ≡ 1 → lines_of (c ∷ []) ≡ (c ∷ []) ∷ [] → IsCut (c ∷ [])
unfolding after_line_end
only_octet c one lines = lines ∙ sym (ap (λ n. take n (c ∷ []) ∷ lines_of (others (after_line_end (drop n (c ∷ []))))) one ∙ ap (λ more. (c ∷ []) ∷ more) no_lines)

newline_cut : (c : ℕ) (rest : List ℕ) → eqb c 10 ≡ true → IsCut (c ∷ rest)
newline_cut c rest e = let here = at_newline c rest e in ends_here (c ∷ rest) rest here.0 here.1 here.2

return_cut : (c : ℕ) (rest : List ℕ) → eqb c 10 ≡ false → is_return c rest ≡ true → IsCut (c ∷ rest)
return_cut c rest other e =
    let here = at_return c rest other e in
    ends_here (c ∷ rest) (drop 1 rest) here.0 here.1 (here.2 ∙ behind_return rest (and_parts (eqb c 13) (eqb (slice_index rest 0) 10) e).1)

octet_cut : (c : ℕ) (rest : List ℕ) → eqb c 10 ≡ false → is_return c rest ≡ false → (0 < length rest → IsCut rest) → IsCut (c ∷ rest)
octet_cut c [] other e more =
    let here = at_octet c [] other e in
    only_octet c (here.0 ∙ ap suc no_length) (here.1 ∙ ap (onto_first c) no_lines)
octet_cut c (d ∷ rest) other e more = let here = at_octet c (d ∷ rest) other e in goes_on c (d ∷ rest) here.0 here.1 (more (omega arith))

pub first_and_others : (text : List ℕ) → 0 < length text → IsCut text
first_and_others [] long = absurd (omega arith)
first_and_others (c ∷ rest) long =
    (elim (eqb c 10) as (λ b. eqb c 10 ≡ b → IsCut (c ∷ rest)) [
      | true ↦ newline_cut c rest
      | false ↦ λ other. (elim (is_return c rest) as (λ b. is_return c rest ≡ b → IsCut (c ∷ rest)) [
        | true ↦ return_cut c rest other
        | false ↦ λ e. octet_cut c rest other e (λ more. first_and_others rest more)
      ]) refl
    ]) refl

-- The first line that was cut off, and what stands behind its end.
pub cut : (text line rest after : List ℕ) (n : ℕ) → 0 < length text → n ≡ line_len text → line ≡ take n text → rest ≡ drop n text → others (after_line_end rest) ≡ after → lines_of text ≡ line ∷ lines_of after
cut text line rest after n long count front back next =
    let first : take (line_len text) text ≡ line = ap (λ k. take k text) (sym count) ∙ sym front in
    let behind : others (after_line_end (drop (line_len text) text)) ≡ after = ap (λ k. others (after_line_end (drop k text))) (sym count) ∙ ap (λ r. others (after_line_end r)) (sym back) ∙ next in
    first_and_others text long ∙ ap (λ one. one ∷ lines_of (others (after_line_end (drop (line_len text) text)))) first ∙ ap (λ rest. line ∷ lines_of rest) behind

-- A line that is written is read, with each of its ends.
no_end : (c : ℕ) (rest : List ℕ) → eqb c 10 ≡ false → is_return c rest ≡ false → lines_of (c ∷ rest) ≡ onto_first c (lines_of rest)
unfolding lines_of
no_end c rest other e = rw (other, e) refl

newline : (rest : List ℕ) → lines_of (10 ∷ rest) ≡ [] ∷ lines_of rest
unfolding lines_of
newline rest = refl

return : (rest : List ℕ) → lines_of (13 ∷ 10 ∷ rest) ≡ [] ∷ lines_of rest
unfolding lines_of
return rest = refl

no_newline : (c : ℕ) (line : List ℕ) → is_line (c ∷ line) ≡ true → eqb c 10 ≡ false
no_newline c [] whole = (or_parts (eqb c 10) (eqb c 13) (not-true (eqb c 10 || eqb c 13) whole)).0
no_newline c (d ∷ line) whole = not-true (eqb c 10) (and_parts (not (eqb c 10)) (is_line (d ∷ line)) whole).0

pub written : (line behind rest : List ℕ) → is_line line ≡ true → lines_of behind ≡ [] ∷ lines_of rest → lines_of (line ++ behind) ≡ line ∷ lines_of rest
written [] behind rest whole e = e
written (c ∷ []) behind rest whole e =
    let last = or_parts (eqb c 10) (eqb c 13) (not-true (eqb c 10 || eqb c 13) whole) in
    no_end c behind last.0 (and_left (eqb c 13) (eqb (slice_index behind 0) 10) last.1) ∙ ap (onto_first c) e
written (c ∷ d ∷ line) behind rest whole e =
    let parts = and_parts (not (eqb c 10)) (is_line (d ∷ line)) whole in
    no_end c (d ∷ (line ++ behind)) (not-true (eqb c 10) parts.0) (and_right (eqb c 13) (eqb d 10) (no_newline d line parts.1)) ∙ ap (onto_first c) (written (d ∷ line) behind rest parts.1 e)

pub written_newline : (line rest : List ℕ) → is_line line ≡ true → lines_of (line ++ 10 ∷ rest) ≡ line ∷ lines_of rest
written_newline line rest whole = written line (10 ∷ rest) rest whole (newline rest)

pub written_return : (line rest : List ℕ) → is_line line ≡ true → lines_of (line ++ 13 ∷ 10 ∷ rest) ≡ line ∷ lines_of rest
written_return line rest whole = written line (13 ∷ 10 ∷ rest) rest whole (return rest)

-- A newline.
abbrev pub is_newline : ℕ → Bool
is_newline c = eqb c 10

-- An octet that ends a line, or may belong to a line's end.
abbrev pub ends_line : ℕ → Bool
ends_line c = eqb c 10 || eqb c 13

pub ends_none : (c : ℕ) → (c ≡ 10 → ⊥) → (c ≡ 13 → ⊥) → ends_line c ≡ false
ends_none c newline return = or_from (eqb c 10) (eqb c 13) (ne_eqb c 10 newline) (ne_eqb c 13 return)

-- An octet of the text is one of these.
abbrev pub has_line_end : List ℕ → Bool
has_line_end text = list_any ends_line text

-- A text without any is a line, and so is one behind what has no newline.
pub line_plain : (line : List ℕ) → has_line_end line ≡ false → is_line line ≡ true
line_plain [] none = refl
line_plain (c ∷ []) none = not_from_false (ends_line c) (or_parts (ends_line c) false none).0
line_plain (c ∷ d ∷ line) none =
    let parts = or_parts (ends_line c) (has_line_end (d ∷ line)) none in
    and_from (not (eqb c 10)) (is_line (d ∷ line)) (not_from_false (eqb c 10) (or_parts (eqb c 10) (eqb c 13) parts.0).0) (line_plain (d ∷ line) parts.1)

pub line_behind : (front : List ℕ) (c : ℕ) (line : List ℕ) → list_any is_newline front ≡ false → has_line_end (c ∷ line) ≡ false → is_line (front ++ c ∷ line) ≡ true
line_behind [] c line whole none = line_plain (c ∷ line) none
line_behind (d ∷ []) c line whole none =
    and_from (not (eqb d 10)) (is_line (c ∷ line)) (not_from_false (eqb d 10) (or_parts (eqb d 10) false whole).0) (line_plain (c ∷ line) none)
line_behind (d ∷ e ∷ front) c line whole none =
    let parts = or_parts (eqb d 10) (list_any is_newline (e ∷ front)) whole in
    and_from (not (eqb d 10)) (is_line (e ∷ (front ++ c ∷ line))) (not_from_false (eqb d 10) parts.0) (line_behind (e ∷ front) c line parts.1 none)

pub none_joined : (a b : List ℕ) → has_line_end a ≡ false → has_line_end b ≡ false → has_line_end (a ++ b) ≡ false
none_joined a b first second = list_any-append ends_line a b ∙ or_from (has_line_end a) (has_line_end b) first second
