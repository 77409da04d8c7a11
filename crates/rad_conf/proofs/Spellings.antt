-- Operators, quotes and braces, as they are written and as the code finds them.
use Rattle.std.proofs.Common.{◌≡◌, ℕ, suc, ◌+◌, ◌-◌, Bool, true, false, ◌==◌, cond, List, [], ◌∷◌, ◌++◌, length, slice_index, Option, Some, None, refl, ap, ◌∙◌, arith}
use Rattle.std.proofs.lemmas.Grind.{common_steps}
use Rattle.rad_conf.specs.declared.sign.Sign.TheVariants as sign
use Rattle.rad_conf.specs.Signs.{is_operator_pair, is_operator_octet, operator_at, braces_after, inside_from, braces_at, bare_at, longer_sign, sign_at, bare_octets}
use Rattle.rad_conf.specs.Words.{bare_len, quoted_from}
use Rattle.rad_conf.specs.Spelling.{begins_with, first_of, operator_of, parts_words, is_there, ends_word, has_matching, in_braces, HasNoBraces, is_quoted}

-- The operator that the code finds, by its length.
unfoldable pub by_len : ℕ → ℕ → ℕ → Option (List ℕ)
by_len len c d = cond (len == 0) None (cond (len == 1) (Some (c ∷ [])) (Some (c ∷ d ∷ [])))

pub one_octet : (c : ℕ) → operator_of (c ∷ []) ≡ by_len (operator_at c 0) c 0
unfolding by_len first_of begins_with operator_at is_operator_pair is_operator_octet
one_octet c = grind (arith, common_steps)

pub two_octets : (c d : ℕ) (rest : List ℕ) → operator_of (c ∷ d ∷ rest) ≡ by_len (operator_at c d) c d
unfolding by_len first_of begins_with operator_at is_operator_pair is_operator_octet
two_octets c d rest = grind (arith, common_steps)

-- Where quotes close.
pub quoted_end : (quote len : ℕ) (escaped : Bool) (raw rest : List ℕ) → (quote == 10) ≡ false → is_quoted quote escaped raw ≡ true → quoted_from quote len escaped (raw ++ quote ∷ rest) ≡ Some (len + length raw)
unfolding is_quoted quoted_from
quoted_end quote len true [] rest line e = absurd cc
quoted_end quote len false [] rest line e = grind (arith, common_steps)
quoted_end quote len escaped (c ∷ raw) rest line e = grind (arith, common_steps, quoted_end quote (len + 1) (cond (c == 92) (cond escaped false true) false) raw rest line)

-- Where braces close.
inner_end : (depth len : ℕ) (inner rest : List ℕ) → has_matching depth inner ≡ true → inside_from depth len (inner ++ 125 ∷ rest) ≡ Some (len + length inner)
unfolding has_matching inside_from braces_after
inner_end depth len [] rest e = grind (arith, common_steps)
inner_end depth len (c ∷ inner) rest e = grind (arith, common_steps, inner_end (depth + 1) (len + 1) inner rest, inner_end (depth - 1) (len + 1) inner rest, inner_end depth (len + 1) inner rest)

-- Where an operator stands, for the code and as it is written.
lens : (c d : ℕ) → is_there (by_len (operator_at c d) c d) ≡ cond (operator_at c d == 0) false true
unfolding by_len operator_at is_operator_pair is_operator_octet
lens c d = grind (arith, common_steps)

pub operator_there : (c : ℕ) (rest : List ℕ) → is_there (operator_of (c ∷ rest)) ≡ cond (operator_at c (slice_index rest 0) == 0) false true
operator_there c [] = ap is_there (one_octet c) ∙ lens c 0
operator_there c (d ∷ rest) = ap is_there (two_octets c d rest) ∙ lens c d

-- Where a bare word ends, for the code and as it is written.
pub ends_here : (text : List ℕ) → ends_word text ≡ true → bare_octets (sign_at text) ≡ 0
unfolding ends_word parts_words sign_at longer_sign operator_at is_operator_octet
ends_here [] e = refl
ends_here (c ∷ rest) e = grind (arith, common_steps, operator_there c rest)

pub goes_bare : (c : ℕ) (rest : List ℕ) → ends_word (c ∷ rest) ≡ false → sign_at (c ∷ rest) ≡ sign.Bare (bare_at c rest)
unfolding ends_word parts_words sign_at longer_sign
goes_bare c rest e = grind (arith, common_steps, operator_there c rest)

pub len_ends : (text : List ℕ) → ends_word text ≡ true → bare_len 0 text ≡ 0
unfolding bare_len
len_ends [] e = refl
len_ends (c ∷ rest) e = rw (ends_here (c ∷ rest) e) refl

pub len_goes : (c : ℕ) (rest : List ℕ) (len : ℕ) → ends_word (c ∷ rest) ≡ false → bare_at c rest ≡ suc len → bare_len 0 (c ∷ rest) ≡ bare_len len rest + 1
unfolding bare_len
len_goes c rest len e at = let here : bare_octets (sign_at (c ∷ rest)) ≡ suc len = ap bare_octets (goes_bare c rest e) ∙ at in rw here (grind arith)

pub len_passes : (xs rest : List ℕ) → bare_len (length xs) (xs ++ rest) ≡ bare_len 0 rest + length xs
unfolding bare_len
len_passes [] rest = omega arith
len_passes (x ∷ xs) rest = grind (arith, len_passes xs rest)

-- Braces behind an octet, for the code and as they are written.
pub braces_there : (inner rest : List ℕ) → has_matching 0 inner ≡ true → braces_at (in_braces inner rest) ≡ Some (length inner)
unfolding braces_at
braces_there inner rest e = inner_end 0 0 inner rest e ∙ ap (λ (n : ℕ). Some n) (omega arith)

-- What stands in braces, from where they close.
abbrev Inner : ℕ → List ℕ → Type 0
Inner depth text = (inner : List ℕ) × (after : List ℕ) × (text ≡ inner ++ 125 ∷ after) × (has_matching depth inner ≡ true)

inner_step : (depth len n c : ℕ) (rest : List ℕ) → inside_from depth len (c ∷ rest) ≡ Some n → ((next : ℕ) → inside_from next (len + 1) rest ≡ Some n → Inner next rest) → Inner depth (c ∷ rest)
unfolding inside_from has_matching braces_after
inner_step depth len n c rest e shorter = by (cond (c == 125) (depth == 0) false) refl where
  goes : Inner (braces_after c depth) rest → cond (c == 125) (depth == 0) false ≡ false → (c == 10) ≡ false → Inner depth (c ∷ rest)
  goes found here line = (c ∷ found.0, found.1, ap (λ (xs : List ℕ). c ∷ xs) found.2, grind (arith, common_steps, found.3))

  by : (b : Bool) → cond (c == 125) (depth == 0) false ≡ b → Inner depth (c ∷ rest)
  by true here = ([], rest, grind (arith, common_steps), grind (arith, common_steps))
  by false here = goes (shorter (braces_after c depth) (grind (arith, common_steps))) here (grind (arith, common_steps))

inner_found : (depth len n : ℕ) (text : List ℕ) → inside_from depth len text ≡ Some n → Inner depth text
unfolding inside_from
inner_found depth len n [] e = absurd cc
inner_found depth len n (c ∷ rest) e = inner_step depth len n c rest e (λ next step. inner_found next (len + 1) n rest step)

pub braces_found : (n : ℕ) (text : List ℕ) → braces_at text ≡ Some n → (inner : List ℕ) × (after : List ℕ) × (text ≡ in_braces inner after) × (has_matching 0 inner ≡ true)
unfolding braces_at
braces_found n [] e = absurd cc
braces_found n (c ∷ rest) e = by (c == 123) refl where
  by : (b : Bool) → (c == 123) ≡ b → (inner : List ℕ) × (after : List ℕ) × (c ∷ rest ≡ in_braces inner after) × (has_matching 0 inner ≡ true)
  by true here = let (inner, after, is, matching) = inner_found 0 0 n rest (grind (arith, common_steps)) in (inner, after, grind (arith, common_steps, is), matching)
  by false here = absurd (grind (arith, common_steps))

pub no_braces : (text : List ℕ) → braces_at text ≡ None → HasNoBraces text
no_braces text e inner rest matching is = let there : braces_at text ≡ Some (length inner) = ap braces_at is ∙ braces_there inner rest matching in absurd cc

pub none_there : (text : List ℕ) → HasNoBraces text → braces_at text ≡ None
none_there text none = by (braces_at text) refl where
  by : (found : Option ℕ) → braces_at text ≡ found → braces_at text ≡ None
  by None e = e
  by (Some n) e = let (inner, after, is, matching) = braces_found n text e in absurd (none inner after matching is)

-- What stands in quotes, from where they close.
abbrev pub Quoted : ℕ → Bool → List ℕ → Type 0
Quoted quote escaped text = (raw : List ℕ) × (rest : List ℕ) × (text ≡ raw ++ quote ∷ rest) × (is_quoted quote escaped raw ≡ true)

quoted_step : (quote len n : ℕ) (escaped : Bool) (c : ℕ) (rest : List ℕ) → quoted_from quote len escaped (c ∷ rest) ≡ Some n → ((next : Bool) → quoted_from quote (len + 1) next rest ≡ Some n → Quoted quote next rest) → Quoted quote escaped (c ∷ rest)
unfolding quoted_from is_quoted
quoted_step quote len n escaped c rest e shorter = by (cond (c == quote) (cond escaped false true) false) refl where
  flag : Bool
  flag = cond (c == 92) (cond escaped false true) false

  goes : Quoted quote flag rest → cond (c == quote) (cond escaped false true) false ≡ false → (c == 10) ≡ false → Quoted quote escaped (c ∷ rest)
  goes found here line = (c ∷ found.0, found.1, ap (λ (xs : List ℕ). c ∷ xs) found.2, grind (arith, common_steps, found.3))

  by : (b : Bool) → cond (c == quote) (cond escaped false true) false ≡ b → Quoted quote escaped (c ∷ rest)
  by true here = ([], rest, grind (arith, common_steps), grind (arith, common_steps))
  by false here = goes (shorter flag (grind (arith, common_steps))) here (grind (arith, common_steps))

pub quoted_found : (quote len n : ℕ) (escaped : Bool) (text : List ℕ) → quoted_from quote len escaped text ≡ Some n → Quoted quote escaped text
unfolding quoted_from
quoted_found quote len n escaped [] e = absurd cc
quoted_found quote len n escaped (c ∷ rest) e = quoted_step quote len n escaped c rest e (λ next step. quoted_found quote (len + 1) n next rest step)
