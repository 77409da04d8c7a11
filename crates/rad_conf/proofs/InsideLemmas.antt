-- Conditions are read as they are written.
use Rattle.std.proofs.Common.{◌≡◌, ℕ, suc, ◌+◌, ◌<◌, Bool, true, false, ◌==◌, cond, List, [], ◌∷◌, ◌++◌, length, take, slice_index, Option, Some, None, Result, Ok, refl, sym, ap, ◌∙◌, append_assoc, arith}
use Rattle.std.specs.Prelude.{◌&&◌}
use Rattle.std.proofs.lemmas.List.{length-append}
use Rattle.std.proofs.lemmas.Grind.{common_steps}
use Rattle.rad_text.specs.Blanks.{is_blank}
use Rattle.rad_conf.specs.declared.fault.Wrong.{Wrong}
use Rattle.rad_conf.specs.declared.spelling.Spelling.TheVariants as spelling
use Rattle.rad_conf.specs.declared.tree.Word.{Word}
use Rattle.rad_conf.specs.declared.growth.Growth.{Growth}
use Rattle.rad_conf.specs.Signs.{is_operator_pair, is_operator_octet, operator_at, variable_at}
use Rattle.rad_conf.specs.Variables.{value_of}
use Rattle.rad_conf.specs.Words.{behind, quoted_from}
use Rattle.rad_conf.specs.Conditions.{double_part, single_part, pattern_part, other_part, part_at, awaits_after, depth_after, line_after, condition_from, condition_at}
use Rattle.rad_conf.specs.Spelling.{begins_with, first_of, operator_of, has_matching, in_braces, is_quoted, IsSpelled}
use Rattle.rad_conf.specs.Inside.{open_after, is_long, IsOther, IsInside, IsCondition}
use Rattle.rad_conf.specs.Written.{IsHead}
use Rattle.rad_conf.proofs.Quoted.{front, from_zero}
use Rattle.rad_conf.proofs.Spellings.{by_len, one_octet, two_octets, braces_there, quoted_end, quoted_found}
use Rattle.rad_conf.proofs.SpelledTexts.{none_there, spelled_read}
use Rattle.rad_conf.proofs.WrittenItems.{len_is, word_shorter, blanks_shorter}
use Rattle.rad_conf.proofs.BareWords.{braces_length, braces_front}

-- Operators of two octets.
long_by : (c d : ℕ) → is_long (by_len (operator_at c d) c d) ≡ (operator_at c d == 2)
unfolding by_len operator_at is_operator_pair is_operator_octet
long_by c d = grind (arith, common_steps)

pub long_is : (c : ℕ) (rest : List ℕ) → is_long (operator_of (c ∷ rest)) ≡ (operator_at c (slice_index rest 0) == 2)
long_is c [] = ap is_long (one_octet c) ∙ long_by c 0
long_is c (d ∷ rest) = ap is_long (two_octets c d rest) ∙ long_by c d

pub awaits_plain : (awaits : Bool) (c : ℕ) (rest : List ℕ) → is_long (operator_of (c ∷ rest)) ≡ false → awaits_after awaits (c ∷ rest) ≡ (is_blank c && awaits)
unfolding awaits_after
awaits_plain awaits c rest short = let none : (operator_at c (slice_index rest 0) == 2) ≡ false = sym (long_is c rest) ∙ short in rw none refl

no_quoted : (text : List ℕ) → ((raw more : List ℕ) → is_quoted 47 false raw ≡ true → text ≡ raw ++ 47 ∷ more → ⊥) → quoted_from 47 0 false text ≡ None
no_quoted text none = by (quoted_from 47 0 false text) refl where
  by : (found : Option ℕ) → quoted_from 47 0 false text ≡ found → quoted_from 47 0 false text ≡ None
  by None e = e
  by (Some n) e = let (raw, more, is, within) = quoted_found 47 0 n false text e in absurd (none raw more within is)

-- An octet that stands for itself.
octet_part : (growth : Growth) (depth c : ℕ) (awaits : Bool) (rest : List ℕ) → IsOther depth awaits c rest → part_at growth awaits (c ∷ rest) ≡ Ok (c ∷ [], 0)
unfolding part_at
octet_part growth depth c awaits rest other = by ((c == 47 && awaits)) refl where
  short : (operator_at c (slice_index rest 0) == 2) ≡ false
  short = sym (long_is c rest) ∙ other.operator

  by : (b : Bool) → (c == 47 && awaits) ≡ b → part_at growth awaits (c ∷ rest) ≡ Ok (c ∷ [], 0)
  by true begins = let none : quoted_from 47 0 false rest ≡ None = no_quoted rest (λ raw more within is. other.pattern raw more begins within is) in grind (arith, common_steps, other.unquoted, none)
  by false begins = let none : variable_at (c ∷ rest) ≡ None = none_there (c ∷ rest) other.variable in grind (arith, common_steps, other.unquoted, none, short)

module _ (growth : Growth) where
  passes : (xs rest out : List ℕ) (depth lines : ℕ) (awaits : Bool) → condition_from growth out depth lines awaits (length xs) (xs ++ rest) ≡ condition_from growth out depth lines awaits 0 rest
  unfolding condition_from
  passes [] rest out depth lines awaits = refl
  passes (x ∷ xs) rest out depth lines awaits = grind (arith, passes xs rest out depth lines awaits)

  -- One part more.
  one_part : (out rest part : List ℕ) (c passed depth lines : ℕ) (awaits : Bool) → part_at growth awaits (c ∷ rest) ≡ Ok (part, passed) → (c == 41 && depth_after c depth == 0) ≡ false
      → condition_from growth out depth lines awaits 0 (c ∷ rest) ≡ condition_from growth (out ++ part) (depth_after c depth) (line_after c lines) (awaits_after awaits (c ∷ rest)) passed rest
  unfolding condition_from
  one_part out rest part c passed depth lines awaits e goes = rw (e, goes) refl

  last_part : (out rest part : List ℕ) (passed lines : ℕ) (awaits : Bool) → part_at growth awaits (41 ∷ rest) ≡ Ok (part, passed) → condition_from growth out 1 lines awaits 0 (41 ∷ rest) ≡ Ok (out ++ part, lines, rest)
  unfolding condition_from depth_after
  last_part out rest part passed lines awaits e = rw e refl

  -- What quotes and braces hold, and then more.
  quoted_size : (raw : List ℕ) (mark : ℕ) → length raw + 1 ≡ length (raw ++ mark ∷ [])
  quoted_size raw mark = omega (arith, length-append raw (mark ∷ []))

  over_quoted : (raw text out : List ℕ) (mark depth lines : ℕ) (awaits : Bool) → condition_from growth out depth lines awaits (length raw + 1) (raw ++ mark ∷ text) ≡ condition_from growth out depth lines awaits 0 text
  over_quoted raw text out mark depth lines awaits =
      ap (λ (n : ℕ). condition_from growth out depth lines awaits n (raw ++ mark ∷ text)) (quoted_size raw mark)
      ∙ ap (condition_from growth out depth lines awaits (length (raw ++ mark ∷ []))) (sym (append_assoc raw (mark ∷ []) text))
      ∙ passes (raw ++ mark ∷ []) text out depth lines awaits

  over_braces : (name text out : List ℕ) (depth lines : ℕ) (awaits : Bool) → condition_from growth out depth lines awaits (length name + 2) (in_braces name text) ≡ condition_from growth out depth lines awaits 0 text
  over_braces name text out depth lines awaits =
      ap (λ (n : ℕ). condition_from growth out depth lines awaits n (in_braces name text)) size
      ∙ ap (condition_from growth out depth lines awaits (length (123 ∷ (name ++ 125 ∷ [])))) (braces_front name text)
      ∙ passes (123 ∷ (name ++ 125 ∷ [])) text out depth lines awaits
    where
      size : length name + 2 ≡ length (123 ∷ (name ++ 125 ∷ []))
      size = omega (arith, length-append name (125 ∷ []))

  pub quote_closes : (mark : ℕ) (raw text : List ℕ) → (mark == 10) ≡ false → is_quoted mark false raw ≡ true → quoted_from mark 0 false (raw ++ mark ∷ text) ≡ Some (length raw)
  quote_closes mark raw text line within = from_zero (length raw) _ (quoted_end mark 0 false raw text line within)

  kept_front : (mark : ℕ) (raw text : List ℕ) → take (length raw + 2) (mark ∷ (raw ++ mark ∷ text)) ≡ mark ∷ (raw ++ mark ∷ [])
  kept_front mark raw text = ap (λ (n : ℕ). take n (mark ∷ (raw ++ mark ∷ text))) two ∙ ap (λ (xs : List ℕ). mark ∷ xs) (ends raw) where
    two : length raw + 2 ≡ suc (length raw + 1)
    two = omega arith

    ends : (xs : List ℕ) → take (length xs + 1) (xs ++ mark ∷ text) ≡ xs ++ mark ∷ []
    ends [] = refl
    ends (x ∷ xs) = let more : length (x ∷ xs) + 1 ≡ suc (length xs + 1) = omega arith in rw more (ap (λ (ys : List ℕ). x ∷ ys) (ends xs))

  -- The parts of a condition.
  double_is : (awaits : Bool) (raw kept text : List ℕ) → is_quoted 34 false raw ≡ true → IsSpelled (value_of growth) spelling.Kept raw kept → part_at growth awaits (34 ∷ (raw ++ 34 ∷ text)) ≡ Ok (34 ∷ (kept ++ 34 ∷ []), length raw + 1)
  unfolding part_at
  double_is awaits raw kept text within spells = rw (quote_closes 34 raw text refl within, double_part) (rw (front raw text 34, spelled_read growth spelling.Kept [] spells) refl)

  single_is : (awaits : Bool) (raw text : List ℕ) → is_quoted 39 false raw ≡ true → part_at growth awaits (39 ∷ (raw ++ 39 ∷ text)) ≡ Ok (39 ∷ (raw ++ 39 ∷ []), length raw + 1)
  unfolding part_at
  single_is awaits raw text within = rw (quote_closes 39 raw text refl within, single_part) (rw (kept_front 39 raw text) refl)

  pattern_is : (raw text : List ℕ) → is_quoted 47 false raw ≡ true → part_at growth true (47 ∷ (raw ++ 47 ∷ text)) ≡ Ok (47 ∷ (raw ++ 47 ∷ []), length raw + 1)
  unfolding part_at
  pattern_is raw text within = rw (quote_closes 47 raw text refl within, pattern_part) (rw (kept_front 47 raw text) refl)

  variable_is : (awaits : Bool) (name found text : List ℕ) → has_matching 0 name ≡ true → value_of growth name ≡ Some found → part_at growth awaits (36 ∷ in_braces name text) ≡ Ok (found, length name + 2)
  unfolding part_at variable_at
  variable_is awaits name found text matching is = rw (braces_there name text matching, other_part) (rw (front name text 125, is) refl)

  pub operator_two : (c d : ℕ) (text : List ℕ) → operator_of (c ∷ d ∷ text) ≡ Some (c ∷ d ∷ []) → operator_at c d ≡ 2
  operator_two c d text is = sym ((len_is c d (c ∷ d ∷ []) (sym (two_octets c d text) ∙ is)).1)

  operator_is : (awaits : Bool) (c d : ℕ) (text : List ℕ) → operator_at c d ≡ 2 → part_at growth awaits (c ∷ d ∷ text) ≡ Ok (c ∷ d ∷ [], 1)
  unfolding part_at variable_at operator_at is_operator_pair is_operator_octet
  operator_is awaits c d text two = grind (arith, common_steps)

  operator_depth : (c d depth : ℕ) → operator_at c d ≡ 2 → depth_after c depth ≡ depth
  unfolding depth_after operator_at is_operator_pair is_operator_octet
  operator_depth c d depth two = grind (arith, common_steps)

  operator_open : (c d depth : ℕ) → operator_at c d ≡ 2 → (c == 41 && depth_after c depth == 0) ≡ false
  unfolding operator_at is_operator_pair is_operator_octet
  operator_open c d depth two = grind (arith, common_steps)

  operator_line : (c d lines : ℕ) → operator_at c d ≡ 2 → line_after c lines ≡ lines
  unfolding operator_at is_operator_pair is_operator_octet
  operator_line c d lines two = grind (arith, common_steps)

  operator_awaits : (awaits : Bool) (c d : ℕ) (text : List ℕ) → operator_at c d ≡ 2 → awaits_after awaits (c ∷ d ∷ text) ≡ (d == 126)
  unfolding awaits_after operator_at is_operator_pair is_operator_octet
  operator_awaits awaits c d text two = grind (arith, common_steps)

  abbrev pub Answer : Type 0
  Answer = Result (List ℕ × ℕ × List ℕ) Wrong

  abbrev pub answer : List ℕ → ℕ → List ℕ → Answer
  answer condition lines rest = Ok (condition, lines, rest)

  -- One part behind another.
  pub joins : (out part condition rest : List ℕ) (lines : ℕ) → answer ((out ++ part) ++ condition) lines rest ≡ answer (out ++ (part ++ condition)) lines rest
  joins out part condition rest lines = ap (λ (xs : List ℕ). answer xs lines rest) (append_assoc out part condition)

  pub quoted_joins : (out raw condition rest : List ℕ) (mark lines : ℕ) → answer ((out ++ (mark ∷ (raw ++ mark ∷ []))) ++ condition) lines rest ≡ answer (out ++ (mark ∷ (raw ++ mark ∷ condition))) lines rest
  quoted_joins out raw condition rest mark lines = joins out (mark ∷ (raw ++ mark ∷ [])) condition rest lines ∙ ap (λ (xs : List ℕ). answer (out ++ (mark ∷ xs)) lines rest) (append_assoc raw (mark ∷ []) condition)

  not_long : (c : ℕ) (rest : List ℕ) (awaits : Bool) → is_long (operator_of (c ∷ rest)) ≡ false → is_blank c ≡ false → awaits_after awaits (c ∷ rest) ≡ false
  not_long c rest awaits short plain = awaits_plain awaits c rest short ∙ rw plain refl

  pub line_more : (c before lines : ℕ) → line_after c before + lines ≡ before + cond (c == 10) (lines + 1) lines
  line_more c before lines = grind (arith, common_steps)

  paren_is : (awaits : Bool) (rest : List ℕ) → IsOther 2 awaits 41 rest
  unfolding first_of begins_with
  paren_is awaits rest = record {
    unquoted = refl;
    inside = refl;
    pattern = λ raw more begins within is. absurd cc;
    operator = refl;
    variable = λ name more matching is. absurd (grind (arith, common_steps, is));
  }

  open_goes : (c depth : ℕ) → 0 < depth → (c == 41 && depth == 1) ≡ false → (c == 41 && depth_after c depth == 0) ≡ false
  unfolding depth_after
  open_goes c depth some inside = grind (arith, common_steps)

  pub open_some : (c depth : ℕ) → 0 < depth → (c == 41 && depth == 1) ≡ false → 0 < open_after c depth
  open_some c depth some inside = grind (arith, common_steps)

  -- One part of a condition more.
  abbrev pub From : List ℕ → ℕ → ℕ → Bool → List ℕ → Answer
  From out depth before awaits text = condition_from growth out depth before awaits 0 text

  pub closes_step : (out : List ℕ) (before : ℕ) (awaits : Bool) (rest : List ℕ) → From out 1 before awaits (41 ∷ rest) ≡ answer (out ++ 41 ∷ []) before rest
  closes_step out before awaits rest = last_part out rest (41 ∷ []) 0 before awaits (octet_part growth 2 41 awaits rest (paren_is awaits rest))

  pub double_step : (out : List ℕ) (before depth : ℕ) (awaits : Bool) (raw kept text : List ℕ) → is_quoted 34 false raw ≡ true → IsSpelled (value_of growth) spelling.Kept raw kept
      → From out depth before awaits (34 ∷ (raw ++ 34 ∷ text)) ≡ From (out ++ (34 ∷ (kept ++ 34 ∷ []))) depth before false text
  unfolding first_of begins_with depth_after
  double_step out before depth awaits raw kept text within spells =
      one_part out (raw ++ 34 ∷ text) (34 ∷ (kept ++ 34 ∷ [])) 34 (length raw + 1) depth before awaits (double_is awaits raw kept text within spells) refl
      ∙ ap (λ (b : Bool). condition_from growth (out ++ (34 ∷ (kept ++ 34 ∷ []))) depth before b (length raw + 1) (raw ++ 34 ∷ text)) (not_long 34 (raw ++ 34 ∷ text) awaits refl refl)
      ∙ over_quoted raw text (out ++ (34 ∷ (kept ++ 34 ∷ []))) 34 depth before false

  pub single_step : (out : List ℕ) (before depth : ℕ) (awaits : Bool) (raw text : List ℕ) → is_quoted 39 false raw ≡ true
      → From out depth before awaits (39 ∷ (raw ++ 39 ∷ text)) ≡ From (out ++ (39 ∷ (raw ++ 39 ∷ []))) depth before false text
  unfolding first_of begins_with depth_after
  single_step out before depth awaits raw text within =
      one_part out (raw ++ 39 ∷ text) (39 ∷ (raw ++ 39 ∷ [])) 39 (length raw + 1) depth before awaits (single_is awaits raw text within) refl
      ∙ ap (λ (b : Bool). condition_from growth (out ++ (39 ∷ (raw ++ 39 ∷ []))) depth before b (length raw + 1) (raw ++ 39 ∷ text)) (not_long 39 (raw ++ 39 ∷ text) awaits refl refl)
      ∙ over_quoted raw text (out ++ (39 ∷ (raw ++ 39 ∷ []))) 39 depth before false

  pub pattern_step : (out : List ℕ) (before depth : ℕ) (raw text : List ℕ) → is_quoted 47 false raw ≡ true
      → From out depth before true (47 ∷ (raw ++ 47 ∷ text)) ≡ From (out ++ (47 ∷ (raw ++ 47 ∷ []))) depth before false text
  unfolding first_of begins_with depth_after
  pattern_step out before depth raw text within =
      one_part out (raw ++ 47 ∷ text) (47 ∷ (raw ++ 47 ∷ [])) 47 (length raw + 1) depth before true (pattern_is raw text within) refl
      ∙ ap (λ (b : Bool). condition_from growth (out ++ (47 ∷ (raw ++ 47 ∷ []))) depth before b (length raw + 1) (raw ++ 47 ∷ text)) (not_long 47 (raw ++ 47 ∷ text) true refl refl)
      ∙ over_quoted raw text (out ++ (47 ∷ (raw ++ 47 ∷ []))) 47 depth before false

  pub variable_step : (out : List ℕ) (before depth : ℕ) (awaits : Bool) (name found text : List ℕ) → has_matching 0 name ≡ true → value_of growth name ≡ Some found
      → From out depth before awaits (36 ∷ in_braces name text) ≡ From (out ++ found) depth before false text
  unfolding first_of begins_with depth_after
  variable_step out before depth awaits name found text matching is =
      one_part out (in_braces name text) found 36 (length name + 2) depth before awaits (variable_is awaits name found text matching is) refl
      ∙ ap (λ (b : Bool). condition_from growth (out ++ found) depth before b (length name + 2) (in_braces name text)) (not_long 36 (in_braces name text) awaits refl refl)
      ∙ over_braces name text (out ++ found) depth before false

  pub operator_step : (out : List ℕ) (before depth c d : ℕ) (awaits : Bool) (text : List ℕ) → operator_at c d ≡ 2 → From out depth before awaits (c ∷ d ∷ text) ≡ From (out ++ c ∷ d ∷ []) depth before (d == 126) text
  operator_step out before depth c d awaits text two =
      one_part out (d ∷ text) (c ∷ d ∷ []) c 1 depth before awaits (operator_is awaits c d text two) (operator_open c d depth two)
      ∙ rw (operator_depth c d depth two, operator_line c d before two, operator_awaits awaits c d text two) (passes (d ∷ []) text (out ++ c ∷ d ∷ []) depth before (d == 126))

  pub octet_step : (out : List ℕ) (before depth c : ℕ) (awaits : Bool) (text : List ℕ) → IsOther depth awaits c text → 0 < depth
      → From out depth before awaits (c ∷ text) ≡ From (out ++ c ∷ []) (open_after c depth) (line_after c before) (is_blank c && awaits) text
  unfolding depth_after
  octet_step out before depth c awaits text other some =
      one_part out text (c ∷ []) c 0 depth before awaits (octet_part growth depth c awaits text other) (open_goes c depth some other.inside)
      ∙ ap (λ (b : Bool). condition_from growth (out ++ c ∷ []) (open_after c depth) (line_after c before) b 0 text) (awaits_plain awaits c text other.operator)

  -- What is written within a condition is read.
  inside_read : (out : List ℕ) (before : ℕ) {depth lines : ℕ} {awaits : Bool} {text condition rest : List ℕ} → IsInside (value_of growth) depth awaits text condition lines rest → 0 < depth
      → From out depth before awaits text ≡ answer (out ++ condition) (before + lines) rest
  inside_read out before (IsInside.closes awaits rest) some = closes_step out before awaits rest ∙ ap (λ (n : ℕ). answer (out ++ 41 ∷ []) n rest) (omega arith)
  inside_read out before (IsInside.double depth lines awaits raw kept text condition rest within spells more) some =
      double_step out before depth awaits raw kept text within spells ∙ inside_read (out ++ (34 ∷ (kept ++ 34 ∷ []))) before more some ∙ quoted_joins out kept condition rest 34 (before + lines)
  inside_read out before (IsInside.single depth lines awaits raw text condition rest within more) some =
      single_step out before depth awaits raw text within ∙ inside_read (out ++ (39 ∷ (raw ++ 39 ∷ []))) before more some ∙ quoted_joins out raw condition rest 39 (before + lines)
  inside_read out before (IsInside.pattern depth lines raw text condition rest within more) some =
      pattern_step out before depth raw text within ∙ inside_read (out ++ (47 ∷ (raw ++ 47 ∷ []))) before more some ∙ quoted_joins out raw condition rest 47 (before + lines)
  inside_read out before (IsInside.variable depth lines awaits name found text condition rest matching is more) some =
      variable_step out before depth awaits name found text matching is ∙ inside_read (out ++ found) before more some ∙ joins out found condition rest (before + lines)
  inside_read out before (IsInside.operator depth lines c d awaits text condition rest is more) some =
      operator_step out before depth c d awaits text (operator_two c d text is) ∙ inside_read (out ++ c ∷ d ∷ []) before more some ∙ joins out (c ∷ d ∷ []) condition rest (before + lines)
  inside_read out before (IsInside.octet depth lines c awaits text condition rest other more) some =
      octet_step out before depth c awaits text other some
      ∙ inside_read (out ++ c ∷ []) (line_after c before) more (open_some c depth some other.inside)
      ∙ joins out (c ∷ []) condition rest (line_after c before + lines)
      ∙ ap (λ (n : ℕ). answer (out ++ c ∷ condition) n rest) (line_more c before lines)

-- The parenthesis that opens a condition.
open_is : (awaits : Bool) (rest : List ℕ) → IsOther 2 awaits 40 rest
unfolding first_of begins_with
open_is awaits rest = record {
  unquoted = refl;
  inside = refl;
  pattern = λ raw more begins within is. absurd cc;
  operator = refl;
  variable = λ name more matching is. absurd (grind (arith, common_steps, is));
}

pub opens_first : (growth : Growth) (text : List ℕ) → condition_at growth (40 ∷ text) ≡ condition_from growth (40 ∷ []) 1 0 false 0 text
unfolding condition_at depth_after first_of begins_with
opens_first growth text =
    one_part growth [] text (40 ∷ []) 40 0 0 0 false (octet_part growth 2 40 false text (open_is false text)) refl
    ∙ ap (λ (b : Bool). condition_from growth (40 ∷ []) 1 0 b 0 text) (not_long growth 40 text false refl refl)

-- A condition is read as it is written.
pub condition_read : (growth : Growth) (text condition rest : List ℕ) (lines : ℕ) → IsCondition (value_of growth) text condition lines rest → condition_at growth text ≡ Ok (condition, lines, rest)
condition_read growth text condition rest lines is = by is where
  opens : (text condition : List ℕ) → IsInside (value_of growth) 1 false text condition lines rest → condition_at growth (40 ∷ text) ≡ answer growth (40 ∷ condition) lines rest
  opens text condition inside = opens_first growth text ∙ inside_read growth (40 ∷ []) 0 inside (omega arith) ∙ ap (λ (n : ℕ). answer growth (40 ∷ condition) n rest) (omega arith)

  by : {text condition : List ℕ} → IsCondition (value_of growth) text condition lines rest → condition_at growth text ≡ answer growth condition lines rest
  by (IsCondition.opened lines text condition rest inside) = opens text condition inside

inside_shorter : {value : List ℕ → Option (List ℕ)} {depth lines : ℕ} {awaits : Bool} {text condition rest : List ℕ} → IsInside value depth awaits text condition lines rest → length rest < length text
inside_shorter (IsInside.closes awaits rest) = omega arith
inside_shorter (IsInside.double depth lines awaits raw kept text condition rest quoted spells more) = omega (arith, length-append raw (34 ∷ text), inside_shorter more)
inside_shorter (IsInside.single depth lines awaits raw text condition rest quoted more) = omega (arith, length-append raw (39 ∷ text), inside_shorter more)
inside_shorter (IsInside.pattern depth lines raw text condition rest quoted more) = omega (arith, length-append raw (47 ∷ text), inside_shorter more)
inside_shorter (IsInside.variable depth lines awaits name found text condition rest matching is more) = omega (arith, braces_length name text, inside_shorter more)
inside_shorter (IsInside.operator depth lines c d awaits text condition rest is more) = omega (arith, inside_shorter more)
inside_shorter (IsInside.octet depth lines c awaits text condition rest other more) = omega (arith, inside_shorter more)

condition_shorter : {value : List ℕ → Option (List ℕ)} {lines : ℕ} {text condition rest : List ℕ} → IsCondition value text condition lines rest → length rest < length text
condition_shorter (IsCondition.opened lines text condition rest more) = omega (arith, inside_shorter more)

pub head_shorter : {value : List ℕ → Option (List ℕ)} {text body : List ℕ} {kind : Word} {name : Option Word} {lines : ℕ} → IsHead value text kind name lines body → length body < length text
head_shorter (IsHead.unnamed text rest body kind plain first brace) = omega (arith, word_shorter first, blanks_shorter rest, ap length brace)
head_shorter (IsHead.named text rest behind body kind name plain first second brace) = omega (arith, word_shorter first, blanks_shorter rest, word_shorter second, blanks_shorter behind, ap length brace)
head_shorter (IsHead.tested raw rest condition behind body lines one is found brace) = omega (arith, length-append raw rest, blanks_shorter rest, condition_shorter found, blanks_shorter behind, ap length brace)
