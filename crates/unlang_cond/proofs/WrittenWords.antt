-- Bare words of a condition end where they are written to end.
use Rattle.std.proofs.Common.{◌≡◌, ℕ, ◌+◌, true, false, eqb, List, [], ◌∷◌, ◌++◌, length, take, drop, slice_index, refl, ap, ◌∙◌, append_assoc, ◌<◌, arith}
use Rattle.std.proofs.lemmas.Grind.{common_steps}
use Rattle.std.proofs.Math.Seq.{take-append_seam, drop-append_seam}
use Rattle.rad_text.specs.Blanks.{after_blanks}
use Rattle.rad_conf.specs.Signs.{sign_at, longer_sign, bare_at, is_count, braces_at, operator_at, is_operator_pair, is_operator_octet}
use Rattle.rad_conf.specs.Spelling.{parts_words}
use Rattle.unlang_cond.specs.Words.{ends_bare, bare_len, bare_word, after_word}
use Rattle.unlang_cond.specs.Written.{IsGap, nothing, space, tab, is_plain, IsBare, no_more, octet, count, joins, last_joins}

-- What may stand behind a bare word: no octet of one, and none that would take its last octet along.
pub record Follows (word rest : List ℕ) : Type 0 where
  pub ends : bare_len 0 rest ≡ 0
  pub mark : eqb (slice_index rest 0) 35 ≡ false
  pub brace : eqb (slice_index rest 0) 123 ≡ false
  pub apart : eqb (slice_index rest 0) 61 ≡ true → last_joins word ≡ false

-- One octet that stands for itself.
one_octet : (c : ℕ) (rest : List ℕ) → is_plain c ≡ true → eqb (slice_index rest 0) 35 ≡ false → eqb (slice_index rest 0) 123 ≡ false → (eqb (slice_index rest 0) 61 ≡ true → joins c ≡ false)
    → bare_len 0 (c ∷ rest) ≡ bare_len 0 rest + 1
unfolding is_plain parts_words bare_len ends_bare sign_at longer_sign bare_at is_count braces_at operator_at is_operator_pair is_operator_octet
one_octet c rest plain mark brace apart = grind (arith, common_steps)

three_octets : (rest : List ℕ) → bare_len 0 (91 ∷ 35 ∷ 93 ∷ rest) ≡ bare_len 0 rest + 1 + 1 + 1
unfolding bare_len ends_bare sign_at longer_sign bare_at is_count braces_at operator_at is_operator_pair is_operator_octet
three_octets rest = refl

-- The octet behind `&`.
pub marked_octet : (c : ℕ) (rest : List ℕ) → is_plain c ≡ true → bare_len 0 (38 ∷ c ∷ rest) ≡ bare_len 0 (c ∷ rest) + 1
unfolding is_plain parts_words bare_len ends_bare sign_at longer_sign bare_at is_count braces_at operator_at is_operator_pair is_operator_octet
marked_octet c rest plain = grind (arith, common_steps)

plain_front : (c : ℕ) → is_plain c ≡ true → (eqb c 35 ≡ false) × (eqb c 123 ≡ false) × (eqb c 61 ≡ false)
unfolding is_plain parts_words
plain_front c plain = (grind (arith, common_steps), grind (arith, common_steps), grind (arith, common_steps))

-- The first octet of a bare word is none that would be taken along.
abbrev FrontFine : List ℕ → Type 0
FrontFine [] = Unit {0}
FrontFine (c ∷ word) = (eqb c 35 ≡ false) × (eqb c 123 ≡ false) × (eqb c 61 ≡ false)

bare_front : {word : List ℕ} → IsBare word → FrontFine word
bare_front no_more = tt
bare_front (octet c word plain more) = plain_front c plain
bare_front (count word more) = (refl, refl, refl)

-- The length of a bare word.
pub word_len : {word : List ℕ} → IsBare word → (rest : List ℕ) → Follows word rest → bare_len 0 (word ++ rest) ≡ length word
word_len no_more rest follows = follows.ends
word_len (octet c [] plain more) rest follows = one_octet c rest plain follows.mark follows.brace follows.apart ∙ ap (λ n. n + 1) follows.ends
word_len (octet c (d ∷ after) plain more) rest follows =
    let front = bare_front more in
    one_octet c (d ∷ (after ++ rest)) plain front.0 front.1 (λ e. let other = front.2 in absurd cc)
    ∙ ap (λ n. n + 1) (word_len more rest (record { ends = follows.ends; mark = follows.mark; brace = follows.brace; apart = follows.apart })) ∙ omega arith
word_len (count [] more) rest follows = three_octets rest ∙ ap (λ n. n + 1 + 1 + 1) follows.ends
word_len (count (d ∷ after) more) rest follows =
    three_octets ((d ∷ after) ++ rest)
    ∙ ap (λ n. n + 1 + 1 + 1) (word_len more rest (record { ends = follows.ends; mark = follows.mark; brace = follows.brace; apart = follows.apart })) ∙ omega arith

-- The first octet of a bare word stands for itself.
abbrev pub PlainFront : List ℕ → Type 0
PlainFront [] = Unit {0}
PlainFront (c ∷ word) = is_plain c ≡ true

pub bare_plain : {word : List ℕ} → IsBare word → PlainFront word
unfolding is_plain parts_words
bare_plain no_more = tt
bare_plain (octet c word plain more) = plain
bare_plain (count word more) = refl

-- The length of a bare word behind `&`.
pub marked_len : {c : ℕ} {word : List ℕ} → IsBare (c ∷ word) → (rest : List ℕ) → Follows (c ∷ word) rest → bare_len 0 (38 ∷ c ∷ (word ++ rest)) ≡ length (38 ∷ c ∷ word)
marked_len {c} {word} is rest follows = marked_octet c (word ++ rest) (bare_plain is) ∙ ap (λ n. n + 1) (word_len is rest follows) ∙ omega arith

-- What begins a side or an atom: no blank, no `=`, no `!` and no parenthesis.
pub record Front (text : List ℕ) : Type 0 where
  pub blank : (rest : List ℕ) → after_blanks (text ++ rest) ≡ text ++ rest
  pub equals : (rest : List ℕ) → eqb (slice_index (text ++ rest) 0) 61 ≡ false
  pub sign : (rest : List ℕ) → eqb (slice_index (text ++ rest) 0) 33 ≡ false
  pub paren : (rest : List ℕ) → eqb (slice_index (text ++ rest) 0) 40 ≡ false
  pub some : (rest : List ℕ) → 0 < length (text ++ rest)

-- None of the signs is an octet of a bare word.
pub record Apart (c : ℕ) : Type 0 where
  pub space : eqb c 32 ≡ false
  pub tab : eqb c 9 ≡ false
  pub equals : eqb c 61 ≡ false
  pub sign : eqb c 33 ≡ false
  pub paren : eqb c 40 ≡ false
  pub double : eqb c 34 ≡ false
  pub single : eqb c 39 ≡ false
  pub marked : eqb c 38 ≡ false

pub plain_apart : (c : ℕ) → is_plain c ≡ true → Apart c
unfolding is_plain parts_words
plain_apart c plain = record {
  space = grind (arith, common_steps);
  tab = grind (arith, common_steps);
  equals = grind (arith, common_steps);
  sign = grind (arith, common_steps);
  paren = grind (arith, common_steps);
  double = grind (arith, common_steps);
  single = grind (arith, common_steps);
  marked = grind (arith, common_steps);
}

pub bare_apart : {c : ℕ} {word : List ℕ} → IsBare (c ∷ word) → Apart c
bare_apart {c} {word} is = plain_apart c (bare_plain is)

not_blank : (c : ℕ) (rest : List ℕ) → eqb c 32 ≡ false → eqb c 9 ≡ false → after_blanks (c ∷ rest) ≡ c ∷ rest
unfolding after_blanks
not_blank c rest first second = rw (first, second, after_blanks) refl

pub front_of : (c : ℕ) (text : List ℕ) → Apart c → Front (c ∷ text)
front_of c text apart = record {
  blank = λ rest. not_blank c (text ++ rest) apart.space apart.tab;
  equals = λ rest. apart.equals;
  sign = λ rest. apart.sign;
  paren = λ rest. apart.paren;
  some = λ rest. omega arith;
}

pub quote_front : (text : List ℕ) → Front (34 ∷ text)
unfolding after_blanks
quote_front text = record { blank = λ rest. refl; equals = λ rest. refl; sign = λ rest. refl; paren = λ rest. refl; some = λ rest. omega arith }

pub single_front : (text : List ℕ) → Front (39 ∷ text)
unfolding after_blanks
single_front text = record { blank = λ rest. refl; equals = λ rest. refl; sign = λ rest. refl; paren = λ rest. refl; some = λ rest. omega arith }

pub marked_front : (text : List ℕ) → Front (38 ∷ text)
unfolding after_blanks
marked_front text = record { blank = λ rest. refl; equals = λ rest. refl; sign = λ rest. refl; paren = λ rest. refl; some = λ rest. omega arith }

pub front_append : {text : List ℕ} → Front text → (more : List ℕ) → Front (text ++ more)
front_append {text} front more = record {
  blank = λ rest. rw (append_assoc text more rest) (front.blank (more ++ rest));
  equals = λ rest. rw (append_assoc text more rest) (front.equals (more ++ rest));
  sign = λ rest. rw (append_assoc text more rest) (front.sign (more ++ rest));
  paren = λ rest. rw (append_assoc text more rest) (front.paren (more ++ rest));
  some = λ rest. rw (append_assoc text more rest) (front.some (more ++ rest));
}

pub taken : (word rest : List ℕ) → bare_len 0 (word ++ rest) ≡ length word → bare_word (word ++ rest) ≡ word
taken word rest e = ap (λ n. take n (word ++ rest)) e ∙ take-append_seam word rest

pub left_over : (word rest : List ℕ) → bare_len 0 (word ++ rest) ≡ length word → after_word (word ++ rest) ≡ rest
left_over word rest e = ap (λ n. drop n (word ++ rest)) e ∙ drop-append_seam word rest

-- What ends an atom: blanks, and behind them the text's end, `)`, `&&` or `||`.
pub data Ends : List ℕ → Type 0 where
  at_end : Ends []
  at_space : (rest : List ℕ) → Ends rest → Ends (32 ∷ rest)
  at_tab : (rest : List ℕ) → Ends rest → Ends (9 ∷ rest)
  at_close : (rest : List ℕ) → Ends (41 ∷ rest)
  at_and : (rest : List ℕ) → Ends (38 ∷ 38 ∷ rest)
  at_or : (rest : List ℕ) → Ends (124 ∷ 124 ∷ rest)

pub ends_behind : {gap : List ℕ} → IsGap gap → (rest : List ℕ) → Ends rest → Ends (gap ++ rest)
ends_behind nothing rest ends = ends
ends_behind (space more blank) rest ends = at_space (more ++ rest) (ends_behind blank rest ends)
ends_behind (tab more blank) rest ends = at_tab (more ++ rest) (ends_behind blank rest ends)

pub ends_follow : {rest : List ℕ} → Ends rest → (word : List ℕ) → Follows word rest
unfolding bare_len ends_bare sign_at longer_sign bare_at is_count braces_at operator_at is_operator_pair is_operator_octet
ends_follow at_end word = record { ends = refl; mark = refl; brace = refl; apart = λ e. absurd cc }
ends_follow (at_space more ends) word = record { ends = refl; mark = refl; brace = refl; apart = λ e. absurd cc }
ends_follow (at_tab more ends) word = record { ends = refl; mark = refl; brace = refl; apart = λ e. absurd cc }
ends_follow (at_close more) word = record { ends = refl; mark = refl; brace = refl; apart = λ e. absurd cc }
ends_follow (at_and more) word = record { ends = refl; mark = refl; brace = refl; apart = λ e. absurd cc }
ends_follow (at_or more) word = record { ends = refl; mark = refl; brace = refl; apart = λ e. absurd cc }

-- Blanks before what begins with none.
pub gap_passed : {gap : List ℕ} → IsGap gap → (rest : List ℕ) → after_blanks rest ≡ rest → after_blanks (gap ++ rest) ≡ rest
unfolding after_blanks
gap_passed nothing rest stays = stays
gap_passed (space more blank) rest stays = gap_passed blank rest stays
gap_passed (tab more blank) rest stays = gap_passed blank rest stays
