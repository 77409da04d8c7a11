-- Sides of comparisons that are written and read again.
use Rattle.std.proofs.Common.{◌≡◌, ℕ, suc, ◌+◌, Bool, true, false, not, ◌&&◌, ◌==◌, eqb, List, [], ◌∷◌, ◌++◌, length, drop, Option, Some, None, Ok, refl, sym, ap, ◌∙◌, append_assoc, arith}
use Rattle.std.proofs.lemmas.Bool.Decides.{Decides-eqb}
use Rattle.std.proofs.lemmas.Grind.{common_steps}
use Rattle.std.proofs.lemmas.List.{append-nil}
use Rattle.std.proofs.Math.Seq.{take-append_seam}
use Rattle.rad_dict.specs.Definitions.{Definitions}
use Rattle.rad_conf.specs.declared.spelling.Spelling.{Spelling}
use Rattle.rad_conf.specs.declared.spelling.Spelling.TheVariants as spelling
use Rattle.rad_conf.specs.Words.{escape_of, quoted_from, quoted_len}
use Rattle.rad_conf.specs.Spelling.{is_quoted}
use Rattle.unlang_reference.specs.declared.reference.Reference.{Reference}
use Rattle.unlang_reference.specs.Reading.{reference_of, named_alone}
use Rattle.unlang_xlat.specs.Faults.{parsed}
use Rattle.unlang_cond.specs.declared.atom.Side.{Side}
use Rattle.unlang_cond.specs.declared.atom.Side.TheVariants as side
use Rattle.unlang_cond.specs.Expansions.{Expansion}
use Rattle.unlang_cond.specs.Words.{written_from}
use Rattle.unlang_cond.specs.Sides as sides
use Rattle.unlang_cond.specs.Sides.{double_at, single_at, quoted_at, plain_side, side_at}
use Rattle.unlang_cond.specs.Written.{IsBare, IsText, nothing_more, itself, escape, IsQuotedSide, single, double, IsRight, right_reference, right_name, right_word, right_quoted}
use Rattle.unlang_cond.proofs.WrittenWords.{Follows, word_len, marked_len, taken, left_over, bare_apart, Front, front_of, quote_front, single_front, marked_front}

-- The quote that closes a text is found where it is written.
pub quoted_span : (quote : ℕ) (raw rest : List ℕ) (len : ℕ) (escaped : Bool) → eqb quote 10 ≡ false → is_quoted quote escaped raw ≡ true → quoted_from quote len escaped (raw ++ quote ∷ rest) ≡ Some (len + length raw)
unfolding is_quoted quoted_from
quoted_span quote [] rest len true line e = absurd cc
quoted_span quote [] rest len false line e = rw (line, (Decides-eqb quote quote).1 refl, quoted_from) (ap (λ (n : ℕ). Some n) (omega arith))
quoted_span quote (c ∷ raw) rest len escaped line e =
    grind (arith, common_steps, quoted_span quote raw rest (len + 1) (c == 92 && not escaped) line)

pub quoted_end : (quote : ℕ) (raw rest : List ℕ) → eqb quote 10 ≡ false → is_quoted quote false raw ≡ true → quoted_len quote (raw ++ quote ∷ rest) ≡ Some (length raw)
quoted_end quote raw rest line e = quoted_span quote raw rest 0 false line e ∙ ap (λ (n : ℕ). Some n) (omega arith)

-- The octet behind a text is behind all that is written of it.
pub behind_quote : (raw rest : List ℕ) (quote : ℕ) → drop (length raw + 1) (raw ++ quote ∷ rest) ≡ rest
behind_quote [] rest quote = refl
behind_quote (c ∷ raw) rest quote = let e : length (c ∷ raw) + 1 ≡ suc (length raw + 1) = omega arith in rw e (behind_quote raw rest quote)

-- What octets between quotes write is read of them.
text_read : {how : Spelling} {raw text : List ℕ} → IsText how raw text → (out : List ℕ) → written_from how out false raw ≡ out ++ text
unfolding written_from
text_read nothing_more out = sym (append-nil out)
text_read (itself c raw text plain more) out = rw (plain, written_from) (text_read more (out ++ c ∷ []) ∙ append_assoc out (c ∷ []) text)
text_read {how} (escape c raw text more) out = text_read more (out ++ escape_of how c) ∙ append_assoc out (escape_of how c) text

module _ (dict : Definitions) where
  single_read : (raw text rest : List ℕ) → is_quoted 39 false raw ≡ true → IsText spelling.Single raw text → single_at (39 ∷ (raw ++ 39 ∷ rest)) ≡ Ok (side.Literal text, rest)
  unfolding single_at
  single_read raw text rest closed is =
      rw (quoted_end 39 raw rest refl closed, take-append_seam raw (39 ∷ rest), text_read is [], behind_quote raw rest 39, single_at) refl

  double_read : (raw text rest : List ℕ) (x : Expansion) → is_quoted 34 false raw ≡ true → IsText spelling.Double raw text → parsed text dict ≡ Ok x
      → double_at (34 ∷ (raw ++ 34 ∷ rest)) dict ≡ Ok (side.Expansion x, rest)
  unfolding double_at
  double_read raw text rest x closed is reads =
      rw (quoted_end 34 raw rest refl closed, take-append_seam raw (34 ∷ rest), text_read is [], reads, behind_quote raw rest 34, double_at) refl

  -- A quoted text is read, whatever follows it.
  pub quoted_read : {one : Side} {text : List ℕ} → IsQuotedSide dict one text → (rest : List ℕ) → quoted_at (text ++ rest) dict ≡ Ok (one, rest)
  quoted_read (single raw text closed is) rest =
      ap (λ (all : List ℕ). quoted_at (39 ∷ all) dict) (append_assoc raw (39 ∷ []) rest) ∙ single_read raw text rest closed is
  quoted_read (double raw text x closed is reads) rest =
      ap (λ (all : List ℕ). quoted_at (34 ∷ all) dict) (append_assoc raw (34 ∷ []) rest) ∙ double_read raw text rest x closed is reads

  pub begins_quoted : {one : Side} {text : List ℕ} → IsQuotedSide dict one text → (rest : List ℕ) → sides.is_quoted (text ++ rest) ≡ true
  begins_quoted (single raw text closed is) rest = refl
  begins_quoted (double raw text x closed is reads) rest = refl

  pub quoted_front : {one : Side} {text : List ℕ} → IsQuotedSide dict one text → Front text
  quoted_front (single raw text closed is) = single_front (raw ++ 39 ∷ [])
  quoted_front (double raw text x closed is reads) = quote_front (raw ++ 34 ∷ [])

  reference_side : {c : ℕ} {word : List ℕ} (reference : Reference) → IsBare (c ∷ word) → (rest : List ℕ) → Follows (c ∷ word) rest → reference_of (c ∷ word) dict ≡ Ok reference
      → side_at (38 ∷ c ∷ (word ++ rest)) dict ≡ Ok (side.Reference reference, rest)
  unfolding side_at
  reference_side {c} {word} reference is rest follows reads =
      let len = marked_len is rest follows in
      rw (taken (38 ∷ c ∷ word) rest len, left_over (38 ∷ c ∷ word) rest len, reads, side_at) refl

  word_side : {c : ℕ} {word : List ℕ} (found : Option Reference) → IsBare (c ∷ word) → (rest : List ℕ) → Follows (c ∷ word) rest → named_alone (c ∷ word) dict ≡ found
      → side_at (c ∷ (word ++ rest)) dict ≡ Ok (plain_side found (c ∷ word), rest)
  unfolding side_at
  word_side {c} {word} found is rest follows reads =
      let len = word_len is rest follows in
      let apart = bare_apart is in
      rw (apart.double, apart.single, taken (c ∷ word) rest len, left_over (c ∷ word) rest len, apart.marked, reads, side_at) refl

  quoted_side : {one : Side} {text : List ℕ} → IsQuotedSide dict one text → (rest : List ℕ) → side_at (text ++ rest) dict ≡ Ok (one, rest)
  unfolding side_at
  quoted_side {one} {text} is rest = rw (begins_quoted is rest, side_at) (quoted_read is rest)

  -- A right side is read, whatever ends the atom behind it.
  pub right_read : {one : Side} {text : List ℕ} → IsRight dict one text → (rest : List ℕ) → ((word : List ℕ) → Follows word rest) → side_at (text ++ rest) dict ≡ Ok (one, rest)
  right_read (right_reference reference c word is reads) rest follows = reference_side reference is rest (follows (c ∷ word)) reads
  right_read (right_name reference c word is reads) rest follows = word_side (Some reference) is rest (follows (c ∷ word)) reads
  right_read (right_word c word is reads) rest follows = word_side None is rest (follows (c ∷ word)) reads
  right_read (right_quoted one text is) rest follows = quoted_side is rest

  pub right_front : {one : Side} {text : List ℕ} → IsRight dict one text → Front text
  right_front (right_reference reference c word is reads) = marked_front (c ∷ word)
  right_front (right_name reference c word is reads) = front_of c word (bare_apart is)
  right_front (right_word c word is reads) = front_of c word (bare_apart is)
  right_front (right_quoted one text is) = quoted_front is
