-- Conditions that are read are written so.
use Rattle.std.proofs.Common.{◌≡◌, ℕ, zero, suc, ◌+◌, ◌≤◌, ◌<◌, Bool, true, false, ◌==◌, cond, List, [], ◌∷◌, ◌++◌, length, slice_index, Option, Some, None, Result, Ok, Err, refl, sym, ap, subst, ◌∙◌, append_assoc, arith}
use Rattle.std.specs.Prelude.{◌&&◌, ◌||◌}
use Rattle.std.proofs.lemmas.Bool.{eqb-true}
use Rattle.std.proofs.lemmas.List.{length-append}
use Rattle.std.proofs.lemmas.Grind.{common_steps}
use Rattle.rad_text.specs.Blanks.{is_blank}
use Rattle.rad_conf.specs.declared.fault.Wrong.{Wrong}
use Rattle.rad_conf.specs.declared.fault.Wrong.TheVariants as wrong
use Rattle.rad_conf.specs.declared.spelling.Spelling.TheVariants as spelling
use Rattle.rad_conf.specs.declared.spelling.Ahead.TheVariants.{Reads}
use Rattle.rad_conf.specs.declared.growth.Growth.{Growth}
use Rattle.rad_conf.specs.Signs.{operator_at, is_operator_pair, is_operator_octet, variable_at}
use Rattle.rad_conf.specs.Variables.{value_of}
use Rattle.rad_conf.specs.Words.{quoted_from, spelled_from}
use Rattle.rad_conf.specs.Conditions.{double_part, single_part, other_part, part_at, line_after, condition_from, condition_at}
use Rattle.rad_conf.specs.Spelling.{has_matching, in_braces, is_quoted}
use Rattle.rad_conf.specs.Inside.{open_after, IsOther, IsInside, IsCondition}
use Rattle.rad_conf.proofs.Quoted.{front}
use Rattle.rad_conf.proofs.Spellings.{by_len, two_octets, quoted_found, braces_there}
use Rattle.rad_conf.proofs.BareWords.{braces_length}
use Rattle.rad_conf.proofs.SpelledTexts.{no_variable, variable_found, spelled_found, quoted_whole}
use Rattle.rad_conf.proofs.InsideLemmas.{long_is, Answer, answer, From, closes_step, double_step, single_step, pattern_step, variable_step, operator_step, octet_step, line_more, open_some, quote_closes, opens_first}

two_by : (c d : ℕ) → by_len 2 c d ≡ Some (c ∷ d ∷ [])
unfolding by_len
two_by c d = refl

closing_is : (c depth : ℕ) → (c == 41 && depth == 1) ≡ true → (c ≡ 41) × (depth ≡ 1)
closing_is c depth e = (grind (arith, common_steps), grind (arith, common_steps))

slash_is : (c : ℕ) (awaits : Bool) → (c == 47 && awaits) ≡ true → (c ≡ 47) × (awaits ≡ true)
slash_is c awaits e = (grind (arith, common_steps), grind (arith, common_steps))

module _ (growth : Growth) (all rest : List ℕ) (total : ℕ) where
  -- A condition that was read, from here on.
  abbrev Read : List ℕ → ℕ → ℕ → Bool → List ℕ → Type 0
  Read out before depth awaits text = (condition : List ℕ) × (lines : ℕ) × (all ≡ out ++ condition) × (total ≡ before + lines) × IsInside (value_of growth) depth awaits text condition lines rest

  abbrev Shorter : ℕ → Type 0
  Shorter turns = (out : List ℕ) (before depth : ℕ) (awaits : Bool) (text : List ℕ) → length text ≤ turns → 0 < depth → From growth out depth before awaits text ≡ answer growth all total rest → Read out before depth awaits text

  wrong_part : (out : List ℕ) (before depth c : ℕ) (awaits : Bool) (text : List ℕ) (e : Wrong) → part_at growth awaits (c ∷ text) ≡ Err e → From growth out depth before awaits (c ∷ text) ≡ Err e
  unfolding condition_from
  wrong_part out before depth c awaits text e is = rw is refl

  quoted_joined : (out raw condition : List ℕ) (mark : ℕ) → (out ++ (mark ∷ (raw ++ mark ∷ []))) ++ condition ≡ out ++ (mark ∷ (raw ++ mark ∷ condition))
  quoted_joined out raw condition mark = append_assoc out (mark ∷ (raw ++ mark ∷ [])) condition ∙ ap (λ (xs : List ℕ). out ++ (mark ∷ xs)) (append_assoc raw (mark ∷ []) condition)

  double_here : (out : List ℕ) (before depth : ℕ) (awaits : Bool) (raw text : List ℕ) → is_quoted 34 false raw ≡ true → Shorter (length text) → 0 < depth → From growth out depth before awaits (34 ∷ (raw ++ 34 ∷ text)) ≡ answer growth all total rest
      → Read out before depth awaits (34 ∷ (raw ++ 34 ∷ text))
  unfolding part_at
  double_here out before depth awaits raw text within shorter some e = by (spelled_from growth spelling.Kept [] Reads raw) refl where
    by : (said : Result (List ℕ) Wrong) → spelled_from growth spelling.Kept [] Reads raw ≡ said → Read out before depth awaits (34 ∷ (raw ++ 34 ∷ text))
    by (Ok kept) is =
        let spells = spelled_found growth spelling.Kept raw kept (λ _. quoted_whole 34 false raw within) is in
        let (condition, lines, same, size, inside) = shorter (out ++ (34 ∷ (kept ++ 34 ∷ []))) before depth false text (omega arith) some (sym (double_step growth out before depth awaits raw kept text within spells) ∙ e) in
        (34 ∷ (kept ++ 34 ∷ condition), lines, same ∙ quoted_joined out kept condition 34, size, IsInside.double depth lines awaits raw kept text condition rest within spells inside)
    by (Err fault) is =
        let bad : part_at growth awaits (34 ∷ (raw ++ 34 ∷ text)) ≡ Err fault = rw (quote_closes growth 34 raw text refl within, double_part) (rw (front raw text 34, is) refl) in
        let worse : From growth out depth before awaits (34 ∷ (raw ++ 34 ∷ text)) ≡ Err fault = wrong_part out before depth 34 awaits (raw ++ 34 ∷ text) fault bad in
        absurd cc

  by_double : (out : List ℕ) (before depth : ℕ) (awaits : Bool) (text : List ℕ) → Shorter (length text) → 0 < depth → From growth out depth before awaits (34 ∷ text) ≡ answer growth all total rest → Read out before depth awaits (34 ∷ text)
  unfolding part_at
  by_double out before depth awaits text shorter some e = by (quoted_from 34 0 false text) refl where
    by : (found : Option ℕ) → quoted_from 34 0 false text ≡ found → Read out before depth awaits (34 ∷ text)
    by None none =
        let bad : part_at growth awaits (34 ∷ text) ≡ Err wrong.BadQuote = rw (none, double_part) refl in
        let worse : From growth out depth before awaits (34 ∷ text) ≡ Err wrong.BadQuote = wrong_part out before depth 34 awaits text wrong.BadQuote bad in
        absurd cc
    by (Some n) is =
        let (raw, after, same, within) = quoted_found 34 0 n false text is in
        subst (λ (xs : List ℕ). Read out before depth awaits (34 ∷ xs)) (sym same)
        (double_here out before depth awaits raw after within (λ o b d a t less. shorter o b d a t (omega (arith, ap length same, length-append raw (34 ∷ after)))) some (ap (λ (xs : List ℕ). From growth out depth before awaits (34 ∷ xs)) (sym same) ∙ e))

  by_single : (out : List ℕ) (before depth : ℕ) (awaits : Bool) (text : List ℕ) → Shorter (length text) → 0 < depth → From growth out depth before awaits (39 ∷ text) ≡ answer growth all total rest → Read out before depth awaits (39 ∷ text)
  unfolding part_at
  by_single out before depth awaits text shorter some e = by (quoted_from 39 0 false text) refl where
    by : (found : Option ℕ) → quoted_from 39 0 false text ≡ found → Read out before depth awaits (39 ∷ text)
    by None none =
        let bad : part_at growth awaits (39 ∷ text) ≡ Err wrong.BadQuote = rw (none, single_part) refl in
        let worse : From growth out depth before awaits (39 ∷ text) ≡ Err wrong.BadQuote = wrong_part out before depth 39 awaits text wrong.BadQuote bad in
        absurd cc
    by (Some n) is = here (quoted_found 39 0 n false text is) where
      here : ((raw : List ℕ) × (after : List ℕ) × (text ≡ raw ++ 39 ∷ after) × (is_quoted 39 false raw ≡ true)) → Read out before depth awaits (39 ∷ text)
      here (raw, after, same, within) =
          let (condition, lines, joined, size, inside) = shorter (out ++ (39 ∷ (raw ++ 39 ∷ []))) before depth false after (omega (arith, ap length same, length-append raw (39 ∷ after))) some
          (sym (single_step growth out before depth awaits raw after within) ∙ ap (λ (xs : List ℕ). From growth out depth before awaits (39 ∷ xs)) (sym same) ∙ e) in
          (39 ∷ (raw ++ 39 ∷ condition), lines, joined ∙ quoted_joined out raw condition 39, size, subst (λ (xs : List ℕ). IsInside (value_of growth) depth awaits (39 ∷ xs) (39 ∷ (raw ++ 39 ∷ condition)) lines rest) (sym same) (IsInside.single depth lines awaits raw after condition rest within inside))

  by_pattern : (out : List ℕ) (before depth : ℕ) (raw after : List ℕ) → is_quoted 47 false raw ≡ true → Shorter (length (raw ++ 47 ∷ after)) → 0 < depth → From growth out depth before true (47 ∷ (raw ++ 47 ∷ after)) ≡ answer growth all total rest
      → Read out before depth true (47 ∷ (raw ++ 47 ∷ after))
  by_pattern out before depth raw after within shorter some e =
      let (condition, lines, joined, size, inside) = shorter (out ++ (47 ∷ (raw ++ 47 ∷ []))) before depth false after (omega (arith, length-append raw (47 ∷ after))) some (sym (pattern_step growth out before depth raw after within) ∙ e) in
      (47 ∷ (raw ++ 47 ∷ condition), lines, joined ∙ quoted_joined out raw condition 47, size, IsInside.pattern depth lines raw after condition rest within inside)

  by_variable : (out : List ℕ) (before depth : ℕ) (awaits : Bool) (name after : List ℕ) → has_matching 0 name ≡ true → Shorter (length (in_braces name after)) → 0 < depth → From growth out depth before awaits (36 ∷ in_braces name after) ≡ answer growth all total rest
      → Read out before depth awaits (36 ∷ in_braces name after)
  unfolding part_at variable_at
  by_variable out before depth awaits name after matching shorter some e = by (value_of growth name) refl where
    by : (found : Option (List ℕ)) → value_of growth name ≡ found → Read out before depth awaits (36 ∷ in_braces name after)
    by None none =
        let bad : part_at growth awaits (36 ∷ in_braces name after) ≡ Err wrong.NoVariable = rw (braces_there name after matching, other_part) (rw (front name after 125, none) refl) in
        let worse : From growth out depth before awaits (36 ∷ in_braces name after) ≡ Err wrong.NoVariable = wrong_part out before depth 36 awaits (in_braces name after) wrong.NoVariable bad in
        absurd cc
    by (Some found) is =
        let (condition, lines, joined, size, inside) = shorter (out ++ found) before depth false after (omega (arith, braces_length name after)) some (sym (variable_step growth out before depth awaits name found after matching is) ∙ e) in
        (found ++ condition, lines, joined ∙ append_assoc out found condition, size, IsInside.variable depth lines awaits name found after condition rest matching is inside)

  by_operator : (out : List ℕ) (before depth c : ℕ) (awaits : Bool) (text : List ℕ) → Shorter (length text) → 0 < depth → From growth out depth before awaits (c ∷ text) ≡ answer growth all total rest → operator_at c (slice_index text 0) ≡ 2
      → Read out before depth awaits (c ∷ text)
  unfolding operator_at is_operator_pair is_operator_octet
  by_operator out before depth c awaits [] shorter some e two = absurd (grind (arith, common_steps))
  by_operator out before depth c awaits (d ∷ after) shorter some e two =
      let (condition, lines, joined, size, inside) = shorter (out ++ c ∷ d ∷ []) before depth (d == 126) after (omega arith) some (sym (operator_step growth out before depth c d awaits after two) ∙ e) in
      (c ∷ d ∷ condition, lines, joined ∙ append_assoc out (c ∷ d ∷ []) condition, size, IsInside.operator depth lines c d awaits after condition rest (two_octets c d after ∙ long_one c d two) inside)
    where
      long_one : (c d : ℕ) → operator_at c d ≡ 2 → by_len (operator_at c d) c d ≡ Some (c ∷ d ∷ [])
      long_one c d is = ap (λ (n : ℕ). by_len n c d) is ∙ two_by c d

  by_octet : (out : List ℕ) (before depth c : ℕ) (awaits : Bool) (text : List ℕ) → Shorter (length text) → 0 < depth → From growth out depth before awaits (c ∷ text) ≡ answer growth all total rest → IsOther depth awaits c text → Read out before depth awaits (c ∷ text)
  by_octet out before depth c awaits text shorter some e other =
      let (condition, lines, joined, size, inside) = shorter (out ++ c ∷ []) (line_after c before) (open_after c depth) (is_blank c && awaits) text (omega arith) (open_some growth c depth some other.inside) (sym (octet_step growth out before depth c awaits text other some) ∙ e) in
      (c ∷ condition, cond (c == 10) (lines + 1) lines, joined ∙ append_assoc out (c ∷ []) condition, size ∙ line_more growth c before lines, IsInside.octet depth lines c awaits text condition rest other inside)

  by_close : (out : List ℕ) (before : ℕ) (awaits : Bool) (text : List ℕ) → From growth out 1 before awaits (41 ∷ text) ≡ answer growth all total rest → Read out before 1 awaits (41 ∷ text)
  by_close out before awaits text e =
      let (same, lines, left) = same_answer (out ++ 41 ∷ []) all before total text rest (sym (closes_step growth out before awaits text) ∙ e) in
      (41 ∷ [], 0, sym same, sym lines ∙ omega arith, subst (λ (xs : List ℕ). IsInside (value_of growth) 1 awaits (41 ∷ text) (41 ∷ []) 0 xs) left (IsInside.closes awaits text))
    where
      same_answer : (a b : List ℕ) (m n : ℕ) (xs ys : List ℕ) → answer growth a m xs ≡ answer growth b n ys → (a ≡ b) × (m ≡ n) × (xs ≡ ys)
      same_answer a b m n xs ys e = (ap condition_of e, ap lines_of e, ap left_of e) where
        condition_of : Answer growth → List ℕ
        condition_of said = elim said [ Ok got ↦ got.0 | Err fault ↦ a ]

        lines_of : Answer growth → ℕ
        lines_of said = elim said [ Ok got ↦ got.1 | Err fault ↦ m ]

        left_of : Answer growth → List ℕ
        left_of said = elim said [ Ok got ↦ got.2 | Err fault ↦ xs ]

  -- An octet that begins neither a quote nor a pattern.
  by_rest : (out : List ℕ) (before depth c : ℕ) (awaits : Bool) (text : List ℕ) → Shorter (length text) → 0 < depth → From growth out depth before awaits (c ∷ text) ≡ answer growth all total rest → (c == 34 || c == 39) ≡ false
      → ((raw more : List ℕ) → (c == 47 && awaits) ≡ true → is_quoted 47 false raw ≡ true → text ≡ raw ++ 47 ∷ more → ⊥) → Read out before depth awaits (c ∷ text)
  by_rest out before depth c awaits text shorter some e unquoted pattern = by_variable_at (variable_at (c ∷ text)) refl where
    by_closing : (b : Bool) → (c == 41 && depth == 1) ≡ b → variable_at (c ∷ text) ≡ None → (operator_at c (slice_index text 0) == 2) ≡ false → Read out before depth awaits (c ∷ text)
    by_closing true closing none short =
        let (paren, one) = closing_is c depth closing in
        subst (λ (d : ℕ). Read out before depth awaits (d ∷ text)) (sym paren) (subst (λ (n : ℕ). Read out before n awaits (41 ∷ text)) (sym one)
        (by_close out before awaits text (ap (λ (n : ℕ). From growth out n before awaits (41 ∷ text)) (sym one) ∙ ap (λ (d : ℕ). From growth out depth before awaits (d ∷ text)) (sym paren) ∙ e)))
    by_closing false inside none short =
        by_octet out before depth c awaits text shorter some e (record { unquoted = unquoted; inside = inside; pattern = pattern; operator = long_is c text ∙ short; variable = no_variable (c ∷ text) none })

    by_long : (b : Bool) → (operator_at c (slice_index text 0) == 2) ≡ b → variable_at (c ∷ text) ≡ None → Read out before depth awaits (c ∷ text)
    by_long true long none = by_operator out before depth c awaits text shorter some e (eqb-true (operator_at c (slice_index text 0)) 2 long)
    by_long false short none = by_closing (c == 41 && depth == 1) refl none short

    by_variable_at : (found : Option ℕ) → variable_at (c ∷ text) ≡ found → Read out before depth awaits (c ∷ text)
    by_variable_at None none = by_long (operator_at c (slice_index text 0) == 2) refl none
    by_variable_at (Some n) is = here (variable_found n (c ∷ text) is) where
      here : ((name : List ℕ) × (after : List ℕ) × (c ∷ text ≡ 36 ∷ in_braces name after) × (has_matching 0 name ≡ true)) → Read out before depth awaits (c ∷ text)
      here (name, after, same, matching) =
          subst (λ (xs : List ℕ). Read out before depth awaits xs) (sym same)
          (by_variable out before depth awaits name after matching (λ o b d a t less. shorter o b d a t (omega (arith, ap length same))) some (ap (λ (xs : List ℕ). From growth out depth before awaits xs) (sym same) ∙ e))

  by_slash : (out : List ℕ) (before depth c : ℕ) (awaits : Bool) (text : List ℕ) → Shorter (length text) → 0 < depth → From growth out depth before awaits (c ∷ text) ≡ answer growth all total rest → (c == 34 || c == 39) ≡ false → Read out before depth awaits (c ∷ text)
  by_slash out before depth c awaits text shorter some e unquoted = by (c == 47 && awaits) refl where
    by_found : (found : Option ℕ) → quoted_from 47 0 false text ≡ found → (c == 47 && awaits) ≡ true → Read out before depth awaits (c ∷ text)
    by_found None none begins = by_rest out before depth c awaits text shorter some e unquoted (λ raw more _ within is. none_closed raw more within is) where
      none_closed : (raw more : List ℕ) → is_quoted 47 false raw ≡ true → text ≡ raw ++ 47 ∷ more → ⊥
      none_closed raw more within is = let closed : quoted_from 47 0 false text ≡ Some (length raw) = ap (quoted_from 47 0 false) is ∙ quote_closes growth 47 raw more refl within in absurd cc
    by_found (Some n) is begins = here (quoted_found 47 0 n false text is) (slash_is c awaits begins) where
      here : ((raw : List ℕ) × (after : List ℕ) × (text ≡ raw ++ 47 ∷ after) × (is_quoted 47 false raw ≡ true)) → (c ≡ 47) × (awaits ≡ true) → Read out before depth awaits (c ∷ text)
      here (raw, after, same, within) (slash, waits) =
          subst (λ (d : ℕ). Read out before depth awaits (d ∷ text)) (sym slash) (subst (λ (b : Bool). Read out before depth b (47 ∷ text)) (sym waits) (subst (λ (xs : List ℕ). Read out before depth true (47 ∷ xs)) (sym same)
          (by_pattern out before depth raw after within (λ o b d a t less. shorter o b d a t (omega (arith, ap length same))) some
          (ap (λ (xs : List ℕ). From growth out depth before true (47 ∷ xs)) (sym same) ∙ ap (λ (b : Bool). From growth out depth before b (47 ∷ text)) (sym waits) ∙ ap (λ (d : ℕ). From growth out depth before awaits (d ∷ text)) (sym slash) ∙ e))))

    by : (b : Bool) → (c == 47 && awaits) ≡ b → Read out before depth awaits (c ∷ text)
    by true begins = by_found (quoted_from 47 0 false text) refl begins
    by false plain = by_rest out before depth c awaits text shorter some e unquoted (λ raw more begins within is. absurd cc)

  by_octets : (out : List ℕ) (before depth c : ℕ) (awaits : Bool) (text : List ℕ) → Shorter (length text) → 0 < depth → From growth out depth before awaits (c ∷ text) ≡ answer growth all total rest → Read out before depth awaits (c ∷ text)
  by_octets out before depth c awaits text shorter some e = by (c == 34) (c == 39) refl refl where
    by : (double single : Bool) → (c == 34) ≡ double → (c == 39) ≡ single → Read out before depth awaits (c ∷ text)
    by true single is other = let same : c ≡ 34 = eqb-true c 34 is in
        subst (λ (d : ℕ). Read out before depth awaits (d ∷ text)) (sym same) (by_double out before depth awaits text shorter some (ap (λ (d : ℕ). From growth out depth before awaits (d ∷ text)) (sym same) ∙ e))
    by false true other is = let same : c ≡ 39 = eqb-true c 39 is in
        subst (λ (d : ℕ). Read out before depth awaits (d ∷ text)) (sym same) (by_single out before depth awaits text shorter some (ap (λ (d : ℕ). From growth out depth before awaits (d ∷ text)) (sym same) ∙ e))
    by false false one two = by_slash out before depth c awaits text shorter some e (rw (one, two) refl)

  inside_found : (turns : ℕ) → Shorter turns
  unfolding condition_from
  inside_found turns out before depth awaits [] within some e = absurd cc
  inside_found zero out before depth awaits (c ∷ text) within some e = absurd (omega arith)
  inside_found (suc turns) out before depth awaits (c ∷ text) within some e = by_octets out before depth c awaits text (λ o b d a t less more is. inside_found turns o b d a t (omega arith) more is) some e

-- A condition that is read is written so.
pub condition_found : (growth : Growth) (text condition rest : List ℕ) (lines : ℕ) → condition_at growth text ≡ Ok (condition, lines, rest) → IsCondition (value_of growth) text condition lines rest
unfolding condition_at
condition_found growth [] condition rest lines e = absurd cc
condition_found growth (c ∷ text) condition rest lines e = by (c == 40) refl where
  opens : c ≡ 40 → IsCondition (value_of growth) (c ∷ text) condition lines rest
  opens same =
      let here : condition_at growth (40 ∷ text) ≡ Ok (condition, lines, rest) = ap (λ (d : ℕ). condition_at growth (d ∷ text)) (sym same) ∙ e in
      let (inner, more, joined, size, inside) = inside_found growth condition rest lines (length text) (40 ∷ []) 0 1 false text (omega arith) (omega arith) (sym (opens_first growth text) ∙ here) in
      let counted : more ≡ lines = omega (arith, size) in
      subst (λ (d : ℕ). IsCondition (value_of growth) (d ∷ text) condition lines rest) (sym same)
      (subst (λ (all : List ℕ). IsCondition (value_of growth) (40 ∷ text) all lines rest) (sym joined)
      (subst (λ (n : ℕ). IsCondition (value_of growth) (40 ∷ text) (40 ∷ inner) n rest) counted (IsCondition.opened more text inner rest inside)))

  by : (b : Bool) → (c == 40) ≡ b → IsCondition (value_of growth) (c ∷ text) condition lines rest
  by true is = opens (eqb-true c 40 is)
  by false is = let no_paren : Err wrong.Stray ≡ answer growth condition lines rest = rw is at e in absurd cc
