-- The sides of a comparison, after unlang(5). That a bare word which is an attribute's name is a reference, and which fault
-- comes where, are this project's own.
use Rattle.std.specs.Prelude.{ℕ, ◌+◌, Bool, ◌||◌, ◌==◌, List, [], ◌∷◌, take, drop, length, slice_index, Option, Some, None, Result, Ok, Err, if◌then◌else◌}
use Rattle.std.specs.Option.{option_map}
use Rattle.rad_text.specs.Read.{◌>>=◌, found}
use Rattle.rad_text.specs.Numerals.{numeral_of}
use Rattle.rad_conf.specs.Words.{quoted_len}
use Rattle.rad_conf.specs.declared.spelling.Spelling.TheVariants as spelling
use Rattle.rad_value.specs.declared.values.Value.{Value}
use Rattle.rad_value.specs.declared.values.Value.TheVariants as value
use Rattle.rad_dict.specs.Definitions.{Definitions}
use Rattle.rad_pairs.specs.ValueReading.{value_of}
use Rattle.unlang_reference.specs.declared.reference.Reference.{Reference}
use Rattle.unlang_reference.specs.declared.reference.Which.{Which}
use Rattle.unlang_reference.specs.declared.reference.Which.TheVariants.{Nth, All, Count}
use Rattle.unlang_reference.specs.declared.reading.NoReference.{NoReference}
use Rattle.unlang_reference.specs.declared.reading.NoReference.TheVariants as no
use Rattle.unlang_reference.specs.Reading.{reference_of, named_alone}
use Rattle.unlang_cond.specs.declared.atom.Side.{Side}
use Rattle.unlang_cond.specs.declared.atom.Side.TheVariants as side
use Rattle.unlang_cond.specs.declared.atom.Operand.{Operand}
use Rattle.unlang_cond.specs.declared.atom.Operand.TheVariants as operand
use Rattle.unlang_cond.specs.declared.fault.Wrong.{Wrong}
use Rattle.unlang_cond.specs.declared.fault.Wrong.TheVariants.{BadCondition, UnknownAttr}
use Rattle.unlang_cond.specs.Expansions.{Expansion, expansion_of}
use Rattle.unlang_cond.specs.Words.{bare_word, after_word, written}

-- A quote stands at the front.
abbrev pub is_quoted : List ℕ → Bool
is_quoted text = slice_index text 0 == 34 || slice_index text 0 == 39

-- The double-quoted text at the front, which is an expansion, and what follows it. Its faults stand at its quote.
unfoldable pub double_at : List ℕ → Definitions → Result (Side × List ℕ) Wrong
double_at text dict = elim (quoted_len 34 (drop 1 text)) [
  | None ↦ Err (BadCondition (length text))
  | Some len ↦ expansion_of (written spelling.Double (take len (drop 1 text))) (length text) dict
      >>= (λ (x : Expansion). Ok (side.Expansion x, drop (len + 1) (drop 1 text)))
]

-- The single-quoted text at the front, which is a literal, and what follows it.
unfoldable pub single_at : List ℕ → Result (Side × List ℕ) Wrong
single_at text = elim (quoted_len 39 (drop 1 text)) [
  | None ↦ Err (BadCondition (length text))
  | Some len ↦ Ok (side.Literal (written spelling.Single (take len (drop 1 text))), drop (len + 1) (drop 1 text))
]

-- The side that stands in quotes of either kind.
abbrev pub quoted_at : List ℕ → Definitions → Result (Side × List ℕ) Wrong
quoted_at text dict = if slice_index text 0 == 34 then double_at text dict else single_at text

-- The fault of a reference that can't be read, where so many octets are left.
abbrev pub referring : Result Reference NoReference → ℕ → Result Reference Wrong
referring (Ok reference) left = Ok reference
referring (Err no.UnknownAttr) left = Err (UnknownAttr left)
referring (Err no.BadPlace) left = Err (BadCondition left)

-- The reference of a bare word that begins with `&`.
abbrev pub referred : List ℕ → ℕ → Definitions → Result Reference Wrong
referred word left dict = referring (reference_of (drop 1 word) dict) left

-- A bare word is a reference where it is an attribute's name, with or without a list, else a literal.
abbrev pub plain_side : Option Reference → List ℕ → Side
plain_side (Some reference) word = side.Reference reference
plain_side None word = side.Literal word

-- What a bare word on the right side is.
abbrev pub bare_side : List ℕ → ℕ → Definitions → Result Side Wrong
bare_side [] left dict = Err (BadCondition left)
bare_side (c ∷ word) left dict =
    if c == 38 then referred (c ∷ word) left dict >>= (λ (reference : Reference). Ok (side.Reference reference))
    else Ok (plain_side (named_alone (c ∷ word) dict) (c ∷ word))

-- The right side at the front, and what follows it.
unfoldable pub side_at : List ℕ → Definitions → Result (Side × List ℕ) Wrong
side_at text dict =
    if is_quoted text then quoted_at text dict
    else bare_side (bare_word text) (length text) dict >>= (λ (s : Side). Ok (s, after_word text))

-- The value that a text means beside a reference: a number beside `[#]`, else one of the attribute.
abbrev pub value_by : Which → Reference → List ℕ → Definitions → Option Value
value_by (Nth n) reference text dict = value_of reference.attr.kind reference.attr.id text dict
value_by All reference text dict = value_of reference.attr.kind reference.attr.id text dict
value_by Count reference text dict = option_map value.Number (numeral_of text)

-- The value that a text is, compared with what a reference names.
abbrev pub value_read : Reference → List ℕ → Definitions → Option Value
value_read reference text dict = value_by reference.which reference text dict

-- What a reference is compared with: a literal is read at once.
abbrev pub operand_of : Reference → Side → ℕ → Definitions → Result Operand Wrong
operand_of reference (side.Reference other) left dict = Ok (operand.Reference other)
operand_of reference (side.Expansion x) left dict = Ok (operand.Expansion x)
operand_of reference (side.Literal text) left dict =
    found (BadCondition left) (value_read reference text dict) >>= (λ (v : Value). Ok (operand.Value v))
