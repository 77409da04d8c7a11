-- Where reading a condition goes wrong: at a part of it, and at a reference's or a quoted text's front where an attribute is
-- unknown.
use Rattle.std.proofs.Common.{◌≡◌, ℕ, zero, suc, ◌+◌, Bool, true, false, ◌&&◌, cond, eqb, List, [], ◌∷◌, ◌++◌, length, take, drop, Option, Some, None, Result, Ok, Err, slice_index, inl, inr, refl, sym, ◌∙◌}
use Rattle.std.proofs.lemmas.Bool.{cases_Bool, eqb-true}
use Rattle.std.proofs.lemmas.List.{append-nil}
use Rattle.std.specs.Prelude.{nat_lt}
use Rattle.rad_text.specs.Blanks.{after_blanks}
use Rattle.rad_text.specs.Read.{◌>>=◌, found}
use Rattle.rad_conf.specs.Words.{quoted_len}
use Rattle.rad_conf.specs.declared.spelling.Spelling.TheVariants as spelling
use Rattle.rad_value.specs.declared.comparison.Cmp.{Cmp}
use Rattle.rad_value.specs.declared.values.Value.{Value}
use Rattle.rad_dict.specs.Definitions.{Definitions}
use Rattle.unlang_reference.specs.declared.reference.Reference.{Reference}
use Rattle.unlang_reference.specs.declared.reading.NoReference.{NoReference}
use Rattle.unlang_reference.specs.declared.reading.NoReference.TheVariants as no
use Rattle.unlang_reference.specs.Reading.{reference_of}
use Rattle.unlang_xlat.specs.declared.fault.XlatFault.{XlatFault}
use Rattle.unlang_xlat.specs.declared.fault.XlatFault.TheVariants as xlat
use Rattle.unlang_xlat.specs.Faults.{parsed}
use Rattle.unlang_cond.specs.declared.atom.Side.{Side}
use Rattle.unlang_cond.specs.declared.atom.Side.TheVariants as side
use Rattle.unlang_cond.specs.declared.atom.Operand.{Operand}
use Rattle.unlang_cond.specs.declared.atom.Operand.TheVariants as operand
use Rattle.unlang_cond.specs.declared.atom.Pattern.{Pattern}
use Rattle.unlang_cond.specs.declared.atom.Atom.{Atom}
use Rattle.unlang_cond.specs.declared.atom.Atom.TheVariants as atom
use Rattle.unlang_cond.specs.declared.atom.Token.{Token}
use Rattle.unlang_cond.specs.declared.atom.Token.TheVariants as token
use Rattle.unlang_cond.specs.declared.atom_reading.Lead.{Lead}
use Rattle.unlang_cond.specs.declared.atom_reading.Lead.TheVariants as lead
use Rattle.unlang_cond.specs.declared.operator.Relation.{Relation}
use Rattle.unlang_cond.specs.declared.operator.Relation.TheVariants.{Nothing, Compares, Looks, Other}
use Rattle.unlang_cond.specs.declared.fault.Wrong.{Wrong}
use Rattle.unlang_cond.specs.declared.fault.Wrong.TheVariants.{BadCondition}
use Rattle.unlang_cond.specs.Expansions.{Expansion, placed, expansion_of}
use Rattle.unlang_cond.specs.Words.{bare_len, bare_word, after_word, written}
use Rattle.unlang_cond.specs.Operators.{relation_at}
use Rattle.unlang_cond.specs.Sides.{is_quoted, double_at, single_at, quoted_at, referring, bare_side, side_at, value_read, operand_of}
use Rattle.unlang_cond.specs.Atoms.{named_lead, lead_of, flag_at, pattern_at, compared, compared_at, looked_at, related_by, related, led_by, atom_at}
use Rattle.unlang_cond.specs.Tokens.{operand_at, link_at, token_at, awaits_after, depth_after, wrong_at_end, read_in, tokens_of}
use Rattle.unlang_cond.specs.Steps.{pattern_of_atom, pattern_in}
use Rattle.unlang_cond.proofs.FaultSpots.{IsLeft, IsClear, AtOctet, IsWrongAt, Within, WithinAlone, then_within, alone_within, alone_then, dropped, blanks_left, blanks_clear, HasFront, front_taken, here, octet_here, Any, IsSlash}

module _ (dict : Definitions) (whole : List ℕ) where
  expansion_fault : (text : List ℕ) (read : Result Expansion XlatFault) → IsLeft whole text → IsClear text → slice_index text 0 ≡ 34 → WithinAlone whole Any (placed read (length text))
  expansion_fault text (Ok x) is clear mark = tt
  expansion_fault text (Err (xlat.BadExpansion at)) is clear mark = here whole text is clear
  expansion_fault text (Err (xlat.UnknownAttr at)) is clear mark = inr (octet_here whole text 34 is mark refl)
  expansion_fault text (Err (xlat.UnknownFunction at)) is clear mark = here whole text is clear
  expansion_fault text (Err xlat.NoMemory) is clear mark = here whole text is clear

  double_fault : (text : List ℕ) → IsLeft whole text → IsClear text → slice_index text 0 ≡ 34 → Within whole Any (double_at text dict)
  unfolding double_at
  double_fault text is clear mark = by (quoted_len 34 (drop 1 text)) where
    by : (q : Option ℕ) → Within whole Any (elim q [
      | None ↦ Err (BadCondition (length text))
      | Some len ↦ expansion_of (written spelling.Double (take len (drop 1 text))) (length text) dict >>= (λ (x : Expansion). Ok (side.Expansion x, drop (len + 1) (drop 1 text)))
    ])
    by None = here whole text is clear
    by (Some len) =
        alone_within whole Any Any (expansion_of (written spelling.Double (take len (drop 1 text))) (length text) dict) (λ (x : Expansion). Ok (side.Expansion x, drop (len + 1) (drop 1 text)))
        (expansion_fault text (parsed (written spelling.Double (take len (drop 1 text))) dict) is clear mark)
        (λ x any. (tt, dropped whole (drop 1 text) (len + 1) (dropped whole text 1 is)))

  single_fault : (text : List ℕ) → IsLeft whole text → IsClear text → Within whole Any (single_at text)
  unfolding single_at
  single_fault text is clear = by (quoted_len 39 (drop 1 text)) where
    by : (q : Option ℕ) → Within whole Any (elim q [
      | None ↦ Err (BadCondition (length text))
      | Some len ↦ Ok (side.Literal (written spelling.Single (take len (drop 1 text))), drop (len + 1) (drop 1 text))
    ])
    by None = here whole text is clear
    by (Some len) = (tt, dropped whole (drop 1 text) (len + 1) (dropped whole text 1 is))

  quoted_fault : (text : List ℕ) → IsLeft whole text → IsClear text → Within whole Any (quoted_at text dict)
  quoted_fault text is clear = elim (cases_Bool (eqb (slice_index text 0) 34)) [
    | inl double ↦ rw double (double_fault text is clear (eqb-true (slice_index text 0) 34 double))
    | inr single ↦ rw single (single_fault text is clear)
  ]

  referring_fault : (read : Result Reference NoReference) (text : List ℕ) → IsLeft whole text → IsClear text → slice_index text 0 ≡ 38 → WithinAlone whole Any (referring read (length text))
  referring_fault (Ok reference) text is clear mark = tt
  referring_fault (Err no.UnknownAttr) text is clear mark = inl (octet_here whole text 38 is mark refl)
  referring_fault (Err no.BadPlace) text is clear mark = here whole text is clear

  bare_fault : (word text : List ℕ) → HasFront word text → IsLeft whole text → IsClear text → WithinAlone whole Any (bare_side word (length text) dict)
  bare_fault [] text front is clear = here whole text is clear
  bare_fault (c ∷ word) text front is clear = elim (cases_Bool (eqb c 38)) [
    | inl marked ↦ rw marked (alone_then whole Any Any (referring (reference_of word dict) (length text)) (λ (reference : Reference). Ok (side.Reference reference))
        (referring_fault (reference_of word dict) text is clear (front ∙ eqb-true c 38 marked)) (λ reference any. tt))
    | inr plain ↦ rw plain tt
  ]

  side_fault : (text : List ℕ) → IsLeft whole text → IsClear text → Within whole Any (side_at text dict)
  unfolding side_at
  side_fault text is clear = elim (cases_Bool (is_quoted text)) [
    | inl quoted ↦ rw (quoted, side_at) (quoted_fault text is clear)
    | inr bare ↦ rw (bare, side_at) (alone_within whole Any Any (bare_side (bare_word text) (length text) dict) (λ (s : Side). Ok (s, after_word text))
        (bare_fault (bare_word text) text (front_taken (bare_len 0 text) text) is clear) (λ s any. (tt, dropped whole text (bare_len 0 text) is)))
  ]

  value_fault : (read : Option Value) (text : List ℕ) → IsLeft whole text → IsClear text → WithinAlone whole Any (found (BadCondition (length text)) read >>= (λ (v : Value). Ok (operand.Value v)))
  value_fault None text is clear = here whole text is clear
  value_fault (Some v) text is clear = tt

  operand_fault : (reference : Reference) (right : Side) (text : List ℕ) → IsLeft whole text → IsClear text → WithinAlone whole Any (operand_of reference right (length text) dict)
  operand_fault reference (side.Reference other) text is clear = tt
  operand_fault reference (side.Expansion x) text is clear = tt
  operand_fault reference (side.Literal word) text is clear = value_fault (value_read reference word dict) text is clear

  -- An atom's pattern stands at its slash.
  abbrev HasSlash : Atom → Type 0
  HasSlash a = IsSlash whole (pattern_of_atom a)

  compared_fault : (left : Side) (cmp : Cmp) (right : Side) (text : List ℕ) → IsLeft whole text → IsClear text → WithinAlone whole HasSlash (compared left cmp right (length text) dict)
  compared_fault (side.Reference reference) cmp right text is clear =
      alone_then whole Any HasSlash (operand_of reference right (length text) dict) (λ (o : Operand). Ok (atom.Values reference cmp o)) (operand_fault reference right text is clear) (λ o any. tt)
  compared_fault (side.Literal word) cmp right text is clear = tt
  compared_fault (side.Expansion x) cmp right text is clear = tt

  compared_at_fault : (left : Side) (cmp : Cmp) (text : List ℕ) → IsLeft whole text → IsClear text → Within whole HasSlash (compared_at left cmp text dict)
  unfolding compared_at
  compared_at_fault left cmp text is clear =
      then_within whole Any HasSlash (side_at text dict) (λ (right : Side × List ℕ). compared left cmp right.0 (length text) dict >>= (λ (a : Atom). Ok (a, right.1))) (side_fault text is clear)
      (λ right rest any behind. alone_within whole HasSlash HasSlash (compared left cmp right (length text) dict) (λ (a : Atom). Ok (a, rest)) (compared_fault left cmp right text is clear) (λ a slash. (slash, behind)))

  flag_left : (text : List ℕ) → IsLeft whole text → IsLeft whole (flag_at text).1
  flag_left [] is = is
  flag_left (c ∷ text) is = elim (cases_Bool (eqb c 105)) [ inl flag ↦ rw flag (dropped whole (c ∷ text) 1 is) | inr none ↦ rw none is ]

  pattern_fault : (text : List ℕ) → IsLeft whole text → IsClear text → Within whole (λ (p : Pattern). AtOctet whole p.left 47) (pattern_at text)
  unfolding pattern_at
  pattern_fault text is clear = elim (cases_Bool (eqb (slice_index text 0) 47)) [
    | inl slash ↦ rw (slash, pattern_at) (by (eqb-true (slice_index text 0) 47 slash) (quoted_len 47 (drop 1 text)))
    | inr other ↦ rw (other, pattern_at) (here whole text is clear)
  ]
    where
      by : slice_index text 0 ≡ 47 → (q : Option ℕ) → Within whole (λ (p : Pattern). AtOctet whole p.left 47) (elim q [
        | None ↦ Err (BadCondition (length text))
        | Some len ↦ Ok (
          record {
            source = take len (drop 1 text);
            insensitive = (flag_at (drop (len + 1) (drop 1 text))).0;
            left = length text;
          },
          (flag_at (drop (len + 1) (drop 1 text))).1,
        )
      ])
      by mark None = here whole text is clear
      by mark (Some len) = (octet_here whole text 47 is mark refl, flag_left (drop (len + 1) (drop 1 text)) (dropped whole (drop 1 text) (len + 1) (dropped whole text 1 is)))

  looked_fault : (left : Side) (negative : Bool) (text : List ℕ) → IsLeft whole text → IsClear text → Within whole HasSlash (looked_at left negative text)
  unfolding looked_at
  looked_fault left negative text is clear =
      then_within whole (λ (p : Pattern). AtOctet whole p.left 47) HasSlash (pattern_at text) (λ (pattern : Pattern × List ℕ). Ok (atom.Look left negative pattern.0, pattern.1)) (pattern_fault text is clear) (λ pattern rest slash behind. (slash, behind))

  related_fault : (left : Side) (text : List ℕ) → IsLeft whole text → Within whole HasSlash (related left text dict)
  unfolding related relation_at
  related_fault left text is = by (relation_at (after_blanks text)).0 (relation_at (after_blanks text)).1 (dropped whole (after_blanks text) _ (blanks_left whole text is)) where
    by : (relation : Relation) (right : List ℕ) → IsLeft whole right → Within whole HasSlash (related_by relation left text right dict)
    by Nothing right behind = (tt, is)
    by (Compares cmp) right behind = compared_at_fault left cmp (after_blanks right) (blanks_left whole right behind) (blanks_clear right)
    by (Looks negative) right behind = looked_fault left negative (after_blanks right) (blanks_left whole right behind) (blanks_clear right)
    by Other right behind = here whole (after_blanks text) (blanks_left whole text is) (blanks_clear text)

  found_lead : (read : Option Lead) (text : List ℕ) → IsLeft whole text → IsClear text → WithinAlone whole Any (found (BadCondition (length text)) read)
  found_lead None text is clear = here whole text is clear
  found_lead (Some l) text is clear = tt

  lead_fault : (word text : List ℕ) → HasFront word text → IsLeft whole text → IsClear text → WithinAlone whole Any (lead_of word (length text) dict)
  lead_fault [] text front is clear = here whole text is clear
  lead_fault (c ∷ word) text front is clear = elim (cases_Bool (eqb c 38)) [
    | inl marked ↦ rw marked (alone_then whole Any Any (referring (reference_of word dict) (length text)) (λ (reference : Reference). Ok (lead.Reference reference))
        (referring_fault (reference_of word dict) text is clear (front ∙ eqb-true c 38 marked)) (λ reference any. tt))
    | inr plain ↦ rw plain (found_lead (named_lead (c ∷ word) dict) text is clear)
  ]

  led_fault : (l : Lead) (text : List ℕ) → IsLeft whole text → Within whole HasSlash (led_by l text dict)
  led_fault (lead.Constant constant) text is = (tt, is)
  led_fault (lead.Returned c) text is = (tt, is)
  led_fault (lead.Reference reference) text is = related_fault (side.Reference reference) text is

  atom_fault : (text : List ℕ) → IsLeft whole text → IsClear text → Within whole HasSlash (atom_at text dict)
  unfolding atom_at
  atom_fault text is clear = elim (cases_Bool (is_quoted text)) [
    | inl quoted ↦ rw (quoted, atom_at) (then_within whole Any HasSlash (quoted_at text dict) (λ (left : Side × List ℕ). related left.0 left.1 dict) (quoted_fault text is clear) (λ left rest any behind. related_fault left rest behind))
    | inr bare ↦ rw (bare, atom_at) (alone_within whole Any HasSlash (lead_of (bare_word text) (length text) dict) (λ (l : Lead). led_by l (after_word text) dict)
        (lead_fault (bare_word text) text (front_taken (bare_len 0 text) text) is clear) (λ l any. led_fault l (after_word text) (dropped whole text (bare_len 0 text) is)))
  ]

  abbrev pub TokenSlash : Token → Type 0
  TokenSlash t = IsSlash whole (pattern_in t)

  operand_token_fault : (text : List ℕ) → IsLeft whole text → IsClear text → Within whole TokenSlash (operand_at text dict)
  operand_token_fault text is clear = elim (cases_Bool (eqb (slice_index text 0) 33)) [
    | inl not ↦ rw not (tt, dropped whole text 1 is)
    | inr other ↦ elim (cases_Bool (eqb (slice_index text 0) 40)) [
      | inl paren ↦ rw (other, paren) (tt, dropped whole text 1 is)
      | inr atom ↦ rw (other, atom) (then_within whole HasSlash TokenSlash (atom_at text dict) (λ (a : Atom × List ℕ). Ok (token.Atom a.0, a.1)) (atom_fault text is clear) (λ a rest slash behind. (slash, behind)))
    ]
  ]

  link_fault : (depth : ℕ) (text : List ℕ) → IsLeft whole text → IsClear text → Within whole TokenSlash (link_at depth text)
  link_fault depth text is clear =
      by (eqb (slice_index text 0) 41 && nat_lt 0 depth) (eqb (slice_index text 0) 38 && eqb (slice_index text 1) 38) (eqb (slice_index text 0) 124 && eqb (slice_index text 1) 124) where
        by : (p q r : Bool) → Within whole TokenSlash (cond p (Ok (token.Close, drop 1 text)) (cond q (Ok (token.And, drop 2 text)) (cond r (Ok (token.Or, drop 2 text)) (Err (BadCondition (length text))))))
        by true q r = (tt, dropped whole text 1 is)
        by false true r = (tt, dropped whole text 2 is)
        by false false true = (tt, dropped whole text 2 is)
        by false false false = here whole text is clear

  token_fault : (awaits : Bool) (depth : ℕ) (text : List ℕ) → IsLeft whole text → IsClear text → Within whole TokenSlash (token_at awaits depth text dict)
  token_fault true depth text is clear = operand_token_fault text is clear
  token_fault false depth text is clear = link_fault depth text is clear

  abbrev pub HaveSlashes : List Token → Type 0
  HaveSlashes [] = Unit {0}
  HaveSlashes (t ∷ tokens) = TokenSlash t × HaveSlashes tokens

  abbrev pub IsWrongOr : Option Wrong → Type 0
  IsWrongOr None = Unit {0}
  IsWrongOr (Some wrong) = IsWrongAt whole wrong

  slashes_append : (tokens : List Token) (t : Token) → HaveSlashes tokens → TokenSlash t → HaveSlashes (tokens ++ t ∷ [])
  slashes_append [] t are is = (is, tt)
  slashes_append (u ∷ tokens) t are is = (are.0, slashes_append tokens t are.1 is)

  end_left : IsLeft whole []
  end_left = record { front = whole; same = sym (append-nil whole) }

  end_fault : (awaits : Bool) (depth : ℕ) → IsWrongOr (wrong_at_end awaits depth)
  end_fault true depth = here whole [] end_left tt
  end_fault false depth = by (nat_lt 0 depth) where
    by : (paren : Bool) → IsWrongOr (cond paren (Some (BadCondition 0)) None)
    by true = here whole [] end_left tt
    by false = tt

  abbrev next : ℕ → ℕ → List Token → Result (Token × List ℕ) Wrong → List Token × Option Wrong
  next turns depth out (Ok read) = read_in turns (depth_after read.0 depth) (awaits_after read.0) (out ++ read.0 ∷ []) (after_blanks read.1) dict
  next turns depth out (Err wrong) = (out, Some wrong)

  read_fault : (turns depth : ℕ) (awaits : Bool) (out : List Token) (rest : List ℕ) → HaveSlashes out → IsLeft whole rest → IsClear rest
      → HaveSlashes (read_in turns depth awaits out rest dict).0 × IsWrongOr (read_in turns depth awaits out rest dict).1
  unfolding read_in
  read_fault turns depth awaits out [] are is clear = (are, end_fault awaits depth)
  read_fault zero depth awaits out (c ∷ rest) are is clear = (are, here whole (c ∷ rest) is clear)
  read_fault (suc turns) depth awaits out (c ∷ rest) are is clear =
      (elim (token_at awaits depth (c ∷ rest) dict) as (λ (r : Result (Token × List ℕ) Wrong). Within whole TokenSlash r → HaveSlashes (next turns depth out r).0 × IsWrongOr (next turns depth out r).1) [
        | Ok read ↦ λ within. read_fault turns (depth_after read.0 depth) (awaits_after read.0) (out ++ read.0 ∷ []) (after_blanks read.1) (slashes_append out read.0 are within.0) (blanks_left whole read.1 within.1) (blanks_clear read.1)
        | Err wrong ↦ λ within. (are, within)
      ]) (token_fault awaits depth (c ∷ rest) is clear)

  pub text_fault : HaveSlashes (tokens_of whole dict).0 × IsWrongOr (tokens_of whole dict).1
  text_fault = read_fault (length whole) 0 true [] (after_blanks whole) tt (blanks_left whole whole (record { front = []; same = refl })) (blanks_clear whole)
