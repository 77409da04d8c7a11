-- The atoms of a condition, after unlang(5): constants, return codes, references, quoted texts, comparisons, and looks for a
-- pattern. Names of constants and codes are compared without regard to ASCII case; which fault comes where is this
-- project's own.
use Rattle.std.specs.Prelude.{ℕ, ◌+◌, Bool, true, false, ◌==◌, List, [], ◌∷◌, take, drop, length, slice_index, Option, Some, None, Result, Ok, Err, codes, if◌then◌else◌}
use Rattle.std.specs.Option.{option_map}
use Rattle.std.specs.Str.{str_eq_ignore_ascii_case}
use Rattle.rad_words.specs.declared.codes.Code.{Code}
use Rattle.rad_words.specs.Codes.{code_named}
use Rattle.rad_text.specs.Read.{◌>>=◌, found}
use Rattle.rad_text.specs.Blanks.{after_blanks}
use Rattle.rad_conf.specs.Words.{quoted_len}
use Rattle.rad_value.specs.declared.comparison.Cmp.{Cmp}
use Rattle.rad_dict.specs.Definitions.{Definitions}
use Rattle.unlang_reference.specs.declared.reference.Reference.{Reference}
use Rattle.unlang_reference.specs.Reading.{named_alone}
use Rattle.unlang_cond.specs.declared.atom.Side.{Side}
use Rattle.unlang_cond.specs.declared.atom.Side.TheVariants as side
use Rattle.unlang_cond.specs.declared.atom.Operand.{Operand}
use Rattle.unlang_cond.specs.declared.atom.Pattern.{Pattern}
use Rattle.unlang_cond.specs.declared.atom.Atom.{Atom}
use Rattle.unlang_cond.specs.declared.atom.Atom.TheVariants as atom
use Rattle.unlang_cond.specs.declared.atom_reading.Lead.{Lead}
use Rattle.unlang_cond.specs.declared.atom_reading.Lead.TheVariants as lead
use Rattle.unlang_cond.specs.declared.operator.Relation.{Relation}
use Rattle.unlang_cond.specs.declared.operator.Relation.TheVariants.{Nothing, Compares, Looks, Other}
use Rattle.unlang_cond.specs.declared.fault.Wrong.{Wrong}
use Rattle.unlang_cond.specs.declared.fault.Wrong.TheVariants.{BadCondition}
use Rattle.unlang_cond.specs.Words.{bare_word, after_word}
use Rattle.unlang_cond.specs.Operators.{relation_at}
use Rattle.unlang_cond.specs.Sides.{is_quoted, quoted_at, referred, side_at, operand_of}

-- The word is this name, case aside.
abbrev pub is_name : List ℕ → List ℕ → Bool
is_name word name = str_eq_ignore_ascii_case word name

-- The constant of this name, `true` or `false`.
unfoldable pub constant_of : List ℕ → Option Bool
constant_of word = if is_name word (codes "true") then Some true else (if is_name word (codes "false") then Some false else None)

-- What a bare word without `&` is at the front of an atom: a constant, else a return code, else an attribute's name.
unfoldable pub named_lead : List ℕ → Definitions → Option Lead
named_lead word dict = elim (constant_of word) [
  | Some constant ↦ Some (lead.Constant constant)
  | None ↦ elim (code_named word) [
    | Some c ↦ Some (lead.Returned c)
    | None ↦ option_map lead.Reference (named_alone word dict)
  ]
]

-- What a bare word is at the front of an atom, where so many octets are left.
abbrev pub lead_of : List ℕ → ℕ → Definitions → Result Lead Wrong
lead_of [] left dict = Err (BadCondition left)
lead_of (c ∷ word) left dict =
    if c == 38 then referred (c ∷ word) left dict >>= (λ (reference : Reference). Ok (lead.Reference reference))
    else found (BadCondition left) (named_lead (c ∷ word) dict)

-- Whether `i` stands behind a pattern, and what follows it.
abbrev pub flag_at : List ℕ → Bool × List ℕ
flag_at [] = (false, [])
flag_at (c ∷ rest) = if c == 105 then (true, rest) else (false, c ∷ rest)

-- The pattern at the front, and what follows it: it begins with a slash, and ends at the next that has an even number of
-- backslashes directly before it.
unfoldable pub pattern_at : List ℕ → Result (Pattern × List ℕ) Wrong
pattern_at text =
    if slice_index text 0 == 47 then (elim (quoted_len 47 (drop 1 text)) [
      | None ↦ Err (BadCondition (length text))
      | Some len ↦ Ok (
        record {
          source = take len (drop 1 text);
          insensitive = (flag_at (drop (len + 1) (drop 1 text))).0;
          left = length text;
        },
        (flag_at (drop (len + 1) (drop 1 text))).1,
      )
    ])
    else Err (BadCondition (length text))

-- The comparison of two sides, where the right one has so many octets from it on: of values where the left one is a
-- reference, else of texts.
abbrev pub compared : Side → Cmp → Side → ℕ → Definitions → Result Atom Wrong
compared (side.Reference reference) cmp right left dict =
    operand_of reference right left dict >>= (λ (o : Operand). Ok (atom.Values reference cmp o))
compared (side.Literal text) cmp right left dict = Ok (atom.Texts (side.Literal text) cmp right)
compared (side.Expansion x) cmp right left dict = Ok (atom.Texts (side.Expansion x) cmp right)

-- The comparison with the right side at the front, and what follows it.
unfoldable pub compared_at : Side → Cmp → List ℕ → Definitions → Result (Atom × List ℕ) Wrong
compared_at left cmp text dict = do
  right ← side_at text dict
  a ← compared left cmp right.0 (length text) dict
  Ok (a, right.1)

-- The look for the pattern at the front, and what follows it.
unfoldable pub looked_at : Side → Bool → List ℕ → Result (Atom × List ℕ) Wrong
looked_at left negative text = do
  pattern ← pattern_at text
  Ok (atom.Look left negative pattern.0, pattern.1)

-- The atom of a side by the operator behind it, if any.
abbrev pub related_by : Relation → Side → List ℕ → List ℕ → Definitions → Result (Atom × List ℕ) Wrong
related_by Nothing left text right dict = Ok (atom.Present left, text)
related_by (Compares cmp) left text right dict = compared_at left cmp (after_blanks right) dict
related_by (Looks negative) left text right dict = looked_at left negative (after_blanks right)
related_by Other left text right dict = Err (BadCondition (length (after_blanks text)))

-- The atom that a side begins, with the relation that stands behind it.
unfoldable pub related : Side → List ℕ → Definitions → Result (Atom × List ℕ) Wrong
related left text dict = related_by (relation_at (after_blanks text)).0 left text (relation_at (after_blanks text)).1 dict

-- The atom that a bare word begins.
abbrev pub led_by : Lead → List ℕ → Definitions → Result (Atom × List ℕ) Wrong
led_by (lead.Constant constant) text dict = Ok (atom.Constant constant, text)
led_by (lead.Returned c) text dict = Ok (atom.Returned c, text)
led_by (lead.Reference reference) text dict = related (side.Reference reference) text dict

-- The atom at the front, and what follows it.
unfoldable pub atom_at : List ℕ → Definitions → Result (Atom × List ℕ) Wrong
atom_at text dict =
    if is_quoted text then quoted_at text dict >>= (λ (left : Side × List ℕ). related left.0 left.1 dict)
    else lead_of (bare_word text) (length text) dict >>= (λ (l : Lead). led_by l (after_word text) dict)
