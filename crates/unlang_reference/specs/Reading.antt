-- The text of a reference, `[list:]Attr[place]`, after unlang(5). Names of lists and attributes are compared without regard
-- to ASCII case, after dictionary(5); that a number is decimal and below 2^32 is this project's own.
use Rattle.std.specs.Prelude.{ℕ, suc, Bool, false, ◌&&◌, ◌==◌, List, [], ◌∷◌, take, drop, length, Option, Some, None, Result, Ok, codes, if◌then◌else◌}
use Rattle.std.specs.Option.{option_map, option_and_then}
use Rattle.std.specs.Str.{str_eq_ignore_ascii_case}
use Rattle.rad_value.specs.declared.edits.ListName.{ListName}
use Rattle.rad_value.specs.declared.edits.ListName.TheVariants.{Request, Reply, Control}
use Rattle.rad_dict.specs.Definitions.{Definitions}
use Rattle.rad_pairs.specs.declared.attr_reading.AttrKind.{AttrKind}
use Rattle.rad_pairs.specs.AttrNames.{named}
use Rattle.rad_text.specs.Read.{◌>>=◌, found}
use Rattle.rad_text.specs.Numerals.{number_at}
use Rattle.unlang_reference.specs.declared.reading.NoReference.{NoReference}
use Rattle.unlang_reference.specs.declared.reading.NoReference.TheVariants.{UnknownAttr, BadPlace}
use Rattle.unlang_reference.specs.declared.reference.Reference.{Reference}
use Rattle.unlang_reference.specs.declared.reference.Which.{Which}
use Rattle.unlang_reference.specs.declared.reference.Which.TheVariants.{Nth, All, Count}

-- What follows a prefix, where the text begins with it, case aside.
unfoldable pub after_prefix : List ℕ → List ℕ → Option (List ℕ)
after_prefix prefix text =
    if str_eq_ignore_ascii_case (take (length prefix) text) prefix then Some (drop (length prefix) text) else None

-- The list that a text names before its attribute, request where it names none, and what follows the list's name.
unfoldable pub listed : List ℕ → ListName × List ℕ
listed text = elim (after_prefix (codes "request:") text) [
  | Some rest ↦ (Request, rest)
  | None ↦ elim (after_prefix (codes "reply:") text) [
    | Some rest ↦ (Reply, rest)
    | None ↦ elim (after_prefix (codes "control:") text) [
      | Some rest ↦ (Control, rest)
      | None ↦ (Request, text)
    ]
  ]
]

-- How many octets the name of an attribute has: it ends before a `[`.
unfoldable pub name_len : List ℕ → ℕ
name_len [] = 0
name_len (c ∷ rest) = if c == 91 then 0 else suc (name_len rest)

-- The bracket that closes a place, and nothing behind it.
abbrev pub is_close : List ℕ → Bool
is_close [] = false
is_close (c ∷ []) = c == 93
is_close (c ∷ d ∷ rest) = false

-- `n]`: the n-th value.
abbrev pub nth_of : List ℕ → Option Which
nth_of text = option_and_then (λ (number : ℕ × List ℕ). if is_close number.1 then Some (Nth number.0) else None) (number_at 10 text)

-- A place from behind its first bracket on.
abbrev pub place_of : List ℕ → Option Which
place_of [] = nth_of []
place_of (c ∷ rest) =
    if c == 42 && is_close rest then Some All
    else (if c == 35 && is_close rest then Some Count else nth_of (c ∷ rest))

-- Which values are meant behind an attribute's name: the first where no place stands there.
abbrev pub which_of : List ℕ → Option Which
which_of [] = Some (Nth 0)
which_of (c ∷ rest) = if c == 91 then place_of rest else None

-- The reference of a text, or the first that is wrong: the name, then the place.
unfoldable pub reference_of : List ℕ → Definitions → Result Reference NoReference
reference_of text dict = do
  attr ← found UnknownAttr (named (take (name_len (listed text).1) (listed text).1) dict)
  which ← found BadPlace (which_of (drop (name_len (listed text).1) (listed text).1))
  Ok (record { list = (listed text).0; attr = attr; which = which })

-- The first value of an attribute whose name is the text, with or without a list.
unfoldable pub named_alone : List ℕ → Definitions → Option Reference
named_alone text dict =
    option_map (λ (attr : AttrKind). record { list = (listed text).0; attr = attr; which = Nth 0 }) (named (listed text).1 dict)
