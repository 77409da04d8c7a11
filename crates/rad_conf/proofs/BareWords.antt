-- A bare word goes as far as it is written to.
use Rattle.std.proofs.Common.{◌≡◌, ℕ, zero, suc, ◌+◌, ◌≤◌, Bool, true, false, List, [], ◌∷◌, ◌++◌, length, slice_index, Option, Some, None, codes, refl, sym, ap, ◌∙◌, append_assoc, arith}
use Rattle.std.proofs.lemmas.List.{length-append}
use Rattle.std.proofs.lemmas.Grind.{common_steps}
use Rattle.rad_conf.specs.Signs.{is_count, bare_at, braces_at}
use Rattle.rad_conf.specs.Words.{bare_len}
use Rattle.rad_conf.specs.Spelling.{begins_with, first_of, parts_words, ends_word, has_matching, in_braces, HasNoBraces, takes_braces, IsBare}
use Rattle.rad_conf.proofs.Spellings.{len_ends, len_goes, len_passes, braces_there, braces_found, no_braces, none_there}

-- How many octets of a bare word begin at the front.
one_there : (c : ℕ) (rest : List ℕ) → begins_with (codes "[#]") (c ∷ rest) ≡ false → (takes_braces c ≡ true → HasNoBraces rest) → bare_at c rest ≡ 1
unfolding begins_with bare_at is_count takes_braces
one_there c rest count none = by (takes_braces c) refl where
  no_count : (text : List ℕ) → begins_with (codes "[#]") (c ∷ text) ≡ false → is_count c (slice_index text 0) (slice_index text 1) ≡ false
  no_count [] e = grind (arith, common_steps)
  no_count (d ∷ []) e = grind (arith, common_steps)
  no_count (d ∷ e ∷ text) away = grind (arith, common_steps)

  by : (b : Bool) → takes_braces c ≡ b → bare_at c rest ≡ 1
  by true takes = let away : braces_at rest ≡ None = none_there rest (none takes) in grind (arith, common_steps, no_count rest count, away)
  by false takes = grind (arith, common_steps, no_count rest count)

braces_at_front : (c n : ℕ) (rest : List ℕ) → takes_braces c ≡ true → braces_at rest ≡ Some n → bare_at c rest ≡ suc (n + 2)
unfolding bare_at is_count takes_braces
braces_at_front c n rest takes e = grind (arith, common_steps)

braces_end_nothing : (c : ℕ) (rest : List ℕ) → takes_braces c ≡ true → ends_word (c ∷ rest) ≡ false
unfolding takes_braces ends_word parts_words first_of begins_with
braces_end_nothing c rest takes = grind (arith, common_steps)

-- What is written in braces, and then more.
pub braces_append : (inner raw rest : List ℕ) → in_braces inner raw ++ rest ≡ in_braces inner (raw ++ rest)
braces_append inner raw rest = ap (λ (xs : List ℕ). 123 ∷ xs) (append_assoc inner (125 ∷ raw) rest)

pub braces_front : (inner rest : List ℕ) → in_braces inner rest ≡ (123 ∷ (inner ++ 125 ∷ [])) ++ rest
braces_front inner rest = ap (λ (xs : List ℕ). 123 ∷ xs) (sym (append_assoc inner (125 ∷ []) rest))

pub braces_length : (inner raw : List ℕ) → length (in_braces inner raw) ≡ length inner + 2 + length raw
braces_length inner raw = omega (arith, length-append inner (125 ∷ raw))

len_braces : (c : ℕ) (inner raw rest : List ℕ) → takes_braces c ≡ true → has_matching 0 inner ≡ true → bare_len 0 (raw ++ rest) ≡ length raw → bare_len 0 ((c ∷ in_braces inner raw) ++ rest) ≡ length (c ∷ in_braces inner raw)
len_braces c inner raw rest takes matching e =
    ap (λ (xs : List ℕ). bare_len 0 (c ∷ xs)) (braces_append inner raw rest)
    ∙ len_goes c (in_braces inner (raw ++ rest)) (length inner + 2) (braces_end_nothing c (in_braces inner (raw ++ rest)) takes) (braces_at_front c (length inner) (in_braces inner (raw ++ rest)) takes (braces_there inner (raw ++ rest) matching))
    ∙ ap (λ (n : ℕ). n + 1) (passed ∙ ap (λ (n : ℕ). n + length (123 ∷ (inner ++ 125 ∷ []))) e)
    ∙ omega (arith, braces_length inner raw, length-append inner (125 ∷ []))
  where
    size : length inner + 2 ≡ length (123 ∷ (inner ++ 125 ∷ []))
    size = omega (arith, length-append inner (125 ∷ []))

    passed : bare_len (length inner + 2) (in_braces inner (raw ++ rest)) ≡ bare_len 0 (raw ++ rest) + length (123 ∷ (inner ++ 125 ∷ []))
    passed = ap (λ (xs : List ℕ). bare_len (length inner + 2) xs) (braces_front inner (raw ++ rest)) ∙ ap (λ (n : ℕ). bare_len n ((123 ∷ (inner ++ 125 ∷ [])) ++ (raw ++ rest))) size ∙ len_passes (123 ∷ (inner ++ 125 ∷ [])) (raw ++ rest)

len_count : (raw rest : List ℕ) → bare_len 0 (raw ++ rest) ≡ length raw → bare_len 0 (91 ∷ 35 ∷ 93 ∷ (raw ++ rest)) ≡ length (91 ∷ 35 ∷ 93 ∷ raw)
unfolding ends_word parts_words first_of begins_with bare_at is_count
len_count raw rest e =
    len_goes 91 (35 ∷ 93 ∷ (raw ++ rest)) 2 refl refl ∙ ap (λ (n : ℕ). n + 1) (len_passes (35 ∷ 93 ∷ []) (raw ++ rest)) ∙ omega (arith, e)

pub bare_read : (rest : List ℕ) {raw : List ℕ} → IsBare rest raw → bare_len 0 (raw ++ rest) ≡ length raw
bare_read rest (IsBare.ends e) = len_ends rest e
bare_read rest (IsBare.octet c raw goes count none more) = len_goes c (raw ++ rest) 0 goes (one_there c (raw ++ rest) count none) ∙ omega (arith, bare_read rest more)
bare_read rest (IsBare.count raw more) = len_count raw rest (bare_read rest more)
bare_read rest (IsBare.braces c inner raw takes matching more) = len_braces c inner raw rest takes matching (bare_read rest more)

-- Each text begins with a bare word, which may have no octets.
abbrev pub Bare : List ℕ → Type 0
Bare text = (raw : List ℕ) × (rest : List ℕ) × (text ≡ raw ++ rest) × IsBare rest raw

count_front : (text : List ℕ) → begins_with (codes "[#]") text ≡ true → (after : List ℕ) × (text ≡ 91 ∷ 35 ∷ 93 ∷ after)
unfolding begins_with
count_front [] e = absurd cc
count_front (c ∷ []) e = absurd (grind (arith, common_steps))
count_front (c ∷ d ∷ []) e = absurd (grind (arith, common_steps))
count_front (c ∷ d ∷ f ∷ after) e = (after, grind (arith, common_steps))

bare_step : (c : ℕ) (rest : List ℕ) → ((text : List ℕ) → length text ≤ length rest → Bare text) → Bare (c ∷ rest)
bare_step c rest shorter = by_end (ends_word (c ∷ rest)) refl where
  with_octet : ends_word (c ∷ rest) ≡ false → begins_with (codes "[#]") (c ∷ rest) ≡ false → (takes_braces c ≡ true → HasNoBraces rest) → Bare (c ∷ rest)
  with_octet goes count none =
      let (raw, after, is, bare) = shorter rest (omega arith) in (
        c ∷ raw,
        after,
        ap (λ (xs : List ℕ). c ∷ xs) is,
        IsBare.octet c raw (rw (← is) goes) (rw (← is) count) (rw (← is) none) bare,
      )

  with_count : (after : List ℕ) → c ∷ rest ≡ 91 ∷ 35 ∷ 93 ∷ after → Bare (c ∷ rest)
  with_count after front =
      let (raw, behind, is, bare) = shorter after (grind (arith, ap length front)) in
      (91 ∷ 35 ∷ 93 ∷ raw, behind, front ∙ ap (λ (xs : List ℕ). 91 ∷ 35 ∷ 93 ∷ xs) is, IsBare.count raw bare)

  with_braces : (inner after : List ℕ) → takes_braces c ≡ true → has_matching 0 inner ≡ true → rest ≡ in_braces inner after → Bare (c ∷ rest)
  with_braces inner after takes matching front =
      let (raw, behind, is, bare) = shorter after (omega (arith, ap length front, braces_length inner after)) in (
        c ∷ in_braces inner raw,
        behind,
        ap (λ (xs : List ℕ). c ∷ xs) (front ∙ ap (in_braces inner) is ∙ sym (braces_append inner raw behind)),
        IsBare.braces c inner raw takes matching bare,
      )

  by_found : (found : Option ℕ) → braces_at rest ≡ found → ends_word (c ∷ rest) ≡ false → begins_with (codes "[#]") (c ∷ rest) ≡ false → takes_braces c ≡ true → Bare (c ∷ rest)
  by_found None e goes count takes = with_octet goes count (λ _. no_braces rest e)
  by_found (Some n) e goes count takes = let (inner, after, front, matching) = braces_found n rest e in with_braces inner after takes matching front

  by_braces : (b : Bool) → takes_braces c ≡ b → ends_word (c ∷ rest) ≡ false → begins_with (codes "[#]") (c ∷ rest) ≡ false → Bare (c ∷ rest)
  by_braces true takes goes count = by_found (braces_at rest) refl goes count takes
  by_braces false takes goes count = with_octet goes count (λ takes_them. absurd cc)

  by_count : (b : Bool) → begins_with (codes "[#]") (c ∷ rest) ≡ b → ends_word (c ∷ rest) ≡ false → Bare (c ∷ rest)
  by_count true count goes = let (after, front) = count_front (c ∷ rest) count in with_count after front
  by_count false count goes = by_braces (takes_braces c) refl goes count

  by_end : (b : Bool) → ends_word (c ∷ rest) ≡ b → Bare (c ∷ rest)
  by_end true e = ([], c ∷ rest, refl, IsBare.ends e)
  by_end false e = by_count (begins_with (codes "[#]") (c ∷ rest)) refl e

bare_found : (turns : ℕ) (text : List ℕ) → length text ≤ turns → Bare text
unfolding ends_word
bare_found turns [] within = ([], [], refl, IsBare.ends refl)
bare_found zero (c ∷ rest) within = absurd (omega arith)
bare_found (suc turns) (c ∷ rest) within = bare_step c rest (λ text less. bare_found turns text (omega arith))

pub each_bare : (text : List ℕ) → Bare text
each_bare text = bare_found (length text) text (omega arith)

-- A bare word of an octet at least begins where none ends.
pub bare_begins : (rest : List ℕ) {c : ℕ} {raw : List ℕ} → IsBare rest (c ∷ raw) → ends_word (c ∷ (raw ++ rest)) ≡ false
unfolding ends_word parts_words first_of begins_with
bare_begins rest (IsBare.octet c raw goes count none more) = goes
bare_begins rest (IsBare.count raw more) = refl
bare_begins rest (IsBare.braces c inner raw takes matching more) = braces_end_nothing c (in_braces inner raw ++ rest) takes

pub bare_ends : (rest : List ℕ) → IsBare rest [] → ends_word rest ≡ true
bare_ends rest (IsBare.ends e) = e
