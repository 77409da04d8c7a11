-- The text of an expansion in a scope, after unlang(5), 'String expansion'. A part without a value is empty. That dates are in
-- UTC, and that a text is cut at 4,096 octets, the argument of a function before it is used, is this project's own.
use Rattle.std.specs.Prelude.{ℕ, List, [], ◌∷◌, ◌++◌, map, length, take, slice_get, Option, Some, None}
use Rattle.std.specs.List.{flat_map}
use Rattle.std.specs.Fmt.{decimal}
use Rattle.std.specs.Char.{to_ascii_lowercase, to_ascii_uppercase}
use Rattle.md5.specs.Md5.{md5}
use Rattle.rad_text.specs.Addresses.{dotted}
use Rattle.rad_value.specs.declared.scope.Scope.{Scope}
use Rattle.rad_value.specs.declared.values.Value.{Value}
use Rattle.rad_value.specs.declared.values.Value.TheVariants as value
use Rattle.rad_dict.specs.Definitions.{Definitions}
use Rattle.rad_pairs.specs.ValueText.{two_digits, hexadecimal}
use Rattle.rad_dates.specs.Dates.{date_of}
use Rattle.rad_dates.specs.Padded.{digits_in}
use Rattle.rad_dates.specs.Stamp.{stamp}
use Rattle.unlang_reference.specs.Values as references
use Rattle.unlang_xlat.specs.declared.part.DatePart.{DatePart}
use Rattle.unlang_xlat.specs.declared.part.DatePart.TheVariants as date
use Rattle.unlang_xlat.specs.declared.part.Function.{Function}
use Rattle.unlang_xlat.specs.declared.part.Function.TheVariants as function
use Rattle.unlang_xlat.specs.declared.part.Part.{Part}
use Rattle.unlang_xlat.specs.declared.part.Part.TheOpen.{Part-F}
use Rattle.unlang_xlat.specs.declared.part.Part.TheFolds.{fold-Part}

-- A text of an expansion has 4,096 octets at most.
unfoldable pub cut : List ℕ → List ℕ
cut text = take 4096 text

-- The text of a moment's part, in UTC.
abbrev pub date_text : DatePart → ℕ → List ℕ
date_text date.Year moment = digits_in 4 (date_of moment).year
date_text date.Month moment = digits_in 2 (date_of moment).month
date_text date.Day moment = digits_in 2 (date_of moment).day
date_text date.Hour moment = digits_in 2 (date_of moment).hour
date_text date.Date moment = digits_in 4 (date_of moment).year ++ (digits_in 2 (date_of moment).month ++ digits_in 2 (date_of moment).day)
date_text date.Seconds moment = decimal moment
date_text date.Stamp moment = stamp moment

-- The text of what was captured.
abbrev pub captured : Option (Option (List ℕ)) → List ℕ
captured None = []
captured (Some None) = []
captured (Some (Some text)) = text

-- The text of a loop's value. Its attribute isn't kept, so that a number stands in decimal.
abbrev pub loop_text : Value → List ℕ
loop_text (value.Text text) = text
loop_text (value.Octets octets) = hexadecimal octets
loop_text (value.Addr address) = dotted address
loop_text (value.Number number) = decimal number
loop_text (value.Date seconds) = decimal seconds
loop_text (value.Byte number) = decimal number
loop_text (value.Short number) = decimal number

-- The same of a loop that may not run.
abbrev pub looped : Option (Option Value) → List ℕ
looped None = []
looped (Some None) = []
looped (Some (Some v)) = loop_text v

-- The first text, or the second where the first is empty.
abbrev pub first_or : List ℕ → List ℕ → List ℕ
first_or [] second = second
first_or (c ∷ rest) second = c ∷ rest

-- A function of a text.
abbrev pub called : Function → List ℕ → List ℕ
called function.Lower text = map to_ascii_lowercase text
called function.Upper text = map to_ascii_uppercase text
called function.Digest text = flat_map two_digits (md5 text)
called function.Length text = decimal (length text)

-- Texts, one behind the other.
abbrev pub joined : List (List ℕ) → List ℕ
joined [] = []
joined (text ∷ texts) = text ++ joined texts

-- The text of a part, the parts within it already as their texts.
abbrev pub text_step : Scope → Definitions → Part-F (List ℕ) → List ℕ
text_step scope dict (Part-F.Plain text) = text
text_step scope dict Part-F.Percent = 37 ∷ []
text_step scope dict (Part-F.Date one) = date_text one scope.moment
text_step scope dict (Part-F.Reference reference) = references.text_of reference scope.lists dict
text_step scope dict (Part-F.Capture n) = captured (slice_get scope.captures n)
text_step scope dict (Part-F.Loop n) = looped (slice_get scope.loops n)
text_step scope dict Part-F.Source = dotted scope.from.addr
text_step scope dict Part-F.NoSource = []
text_step scope dict (Part-F.Alternative first second) = first_or first second
text_step scope dict (Part-F.Call function texts) = called function (cut (joined texts))

-- The text of a part.
abbrev pub part_text : Scope → Definitions → Part → List ℕ
part_text scope dict = fold-Part (List ℕ) (text_step scope dict)

-- The text of parts, whole.
abbrev pub text_of : Scope → Definitions → List Part → List ℕ
text_of scope dict parts = joined (map (part_text scope dict) parts)

-- The text of an expansion.
abbrev pub expanded : Scope → Definitions → List Part → List ℕ
expanded scope dict parts = cut (text_of scope dict parts)
