-- The words that stand behind `%` and in the braces of a part, after unlang(5), 'String expansion'. That captures go from 0
-- to 8 and loops from 0 to 7 is this project's own.
use Rattle.std.specs.Prelude.{ℕ, ◌+◌, ◌-◌, Bool, ◌||◌, ◌==◌, List, [], ◌∷◌, take, drop, Option, Some, None, Result, Ok, Err, codes, if◌then◌else◌}
use Rattle.std.specs.Int.{is_in_range}
use Rattle.std.specs.Option.{option_map}
use Rattle.std.specs.Str.{bytes_eq, str_eq_ignore_ascii_case}
use Rattle.rad_dict.specs.Definitions.{Definitions}
use Rattle.unlang_reference.specs.declared.reading.NoReference.{NoReference}
use Rattle.unlang_reference.specs.declared.reading.NoReference.TheVariants as no_reference
use Rattle.unlang_reference.specs.Reading.{reference_of}
use Rattle.unlang_xlat.specs.declared.fault.Wrong.{Wrong}
use Rattle.unlang_xlat.specs.declared.fault.Wrong.TheVariants.{BadExpansion, UnknownAttr}
use Rattle.unlang_xlat.specs.declared.part.DatePart.{DatePart}
use Rattle.unlang_xlat.specs.declared.part.DatePart.TheVariants as date
use Rattle.unlang_xlat.specs.declared.part.Function.{Function}
use Rattle.unlang_xlat.specs.declared.part.Function.TheVariants as function
use Rattle.unlang_xlat.specs.declared.part.Part.{Part}
use Rattle.unlang_xlat.specs.declared.part.Part.TheVariants as part

-- What a letter behind `%` says of the moment: `Y`, `m`, `d`, `H`, `D`, `l` and `t`.
abbrev pub date_part : ℕ → Option DatePart
date_part letter =
    if letter == 89 then Some date.Year
    else (if letter == 109 then Some date.Month
    else (if letter == 100 then Some date.Day
    else (if letter == 72 then Some date.Hour
    else (if letter == 68 then Some date.Date
    else (if letter == 108 then Some date.Seconds
    else (if letter == 116 then Some date.Stamp else None))))))

-- The function of a name, which is exact in case.
unfoldable pub function_named : List ℕ → Option Function
function_named name =
    if bytes_eq name (codes "tolower") then Some function.Lower
    else (if bytes_eq name (codes "toupper") then Some function.Upper
    else (if bytes_eq name (codes "md5") then Some function.Digest
    else (if bytes_eq name (codes "strlen") then Some function.Length else None)))

-- The name is a list's, case aside.
abbrev pub is_list : List ℕ → Bool
is_list name =
    str_eq_ignore_ascii_case name (codes "request") || str_eq_ignore_ascii_case name (codes "reply") || str_eq_ignore_ascii_case name (codes "control")

-- The number of a text that is one decimal digit, up to a greatest.
abbrev pub digit_alone : ℕ → List ℕ → Option ℕ
digit_alone greatest [] = None
digit_alone greatest (c ∷ []) = if is_in_range 48 (48 + greatest) c then Some (c - 48) else None
digit_alone greatest (c ∷ d ∷ rest) = None

-- What stands before a loop's number, case aside.
unfoldable pub is_loop : List ℕ → Bool
is_loop front = str_eq_ignore_ascii_case front (codes "Foreach-Variable-")

-- The loop that a word names, from 0 to 7.
unfoldable pub loop_of : List ℕ → Option ℕ
loop_of word = if is_loop (take 17 word) then digit_alone 7 (drop 17 word) else None

-- The part of a word that stands for no attribute: a capture from 0 to 8, the packet's source, or a loop.
unfoldable pub fixed_part : List ℕ → Option Part
fixed_part word = elim (digit_alone 8 word) [
  | Some n ↦ Some (part.Capture n)
  | None ↦
      if str_eq_ignore_ascii_case word (codes "Packet-Src-IP-Address") then Some part.Source
      else (if str_eq_ignore_ascii_case word (codes "Packet-Src-IPv6-Address") then Some part.NoSource
      else option_map part.Loop (loop_of word))
]

-- What is wrong with a reference, in the part of which so many octets are left.
abbrev pub reference_error : ℕ → NoReference → Wrong
reference_error left no_reference.UnknownAttr = UnknownAttr left
reference_error left no_reference.BadPlace = BadExpansion left

-- The part of a reference, of which so many octets are left.
unfoldable pub referenced : ℕ → List ℕ → Definitions → Result Part Wrong
referenced left text dict = elim (reference_of text dict) [
  | Ok reference ↦ Ok (part.Reference reference)
  | Err error ↦ Err (reference_error left error)
]

-- The part of a word that stands alone in its braces, of which so many octets are left.
unfoldable pub word_part : ℕ → List ℕ → Definitions → Result Part Wrong
word_part left word dict = elim (fixed_part word) [ Some one ↦ Ok one | None ↦ referenced left word dict ]
