-- How expansions are written, apart from how they are read: a row for each part, after unlang(5), 'String expansion'.
use Rattle.std.specs.Prelude.{◌≡◌, ℕ, suc, ◌+◌, ◌<◌, Bool, true, false, ◌&&◌, ◌==◌, List, [], ◌∷◌, ◌++◌, Ok, None, codes, if◌then◌else◌}
use Rattle.rad_value.specs.declared.edits.ListName.{ListName}
use Rattle.rad_value.specs.declared.edits.ListName.TheVariants.{Request, Reply, Control}
use Rattle.rad_dict.specs.Definitions.{Definitions}
use Rattle.unlang_reference.specs.declared.reference.Reference.{Reference}
use Rattle.unlang_reference.specs.Reading.{reference_of}
use Rattle.unlang_xlat.specs.declared.part.DatePart.{DatePart}
use Rattle.unlang_xlat.specs.declared.part.DatePart.TheVariants as date
use Rattle.unlang_xlat.specs.declared.part.Function.{Function}
use Rattle.unlang_xlat.specs.declared.part.Function.TheVariants as function
use Rattle.unlang_xlat.specs.declared.part.Part.{Part}
use Rattle.unlang_xlat.specs.declared.part.Part.TheVariants as part
use Rattle.unlang_xlat.specs.Words.{fixed_part}

-- Whether an octet stands nowhere in a text.
abbrev pub lacks : ℕ → List ℕ → Bool
lacks octet [] = true
lacks octet (c ∷ text) = if c == octet then false else lacks octet text

-- What stands in braces behind a percent sign.
abbrev pub in_braces : List ℕ → List ℕ
in_braces text = 37 ∷ 123 ∷ (text ++ 125 ∷ [])

-- The letter of a moment's part.
abbrev pub letter_of : DatePart → ℕ
letter_of date.Year = 89
letter_of date.Month = 109
letter_of date.Day = 100
letter_of date.Hour = 72
letter_of date.Date = 68
letter_of date.Seconds = 108
letter_of date.Stamp = 116

-- The name of a function.
abbrev pub function_name : Function → List ℕ
function_name function.Lower = codes "tolower"
function_name function.Upper = codes "toupper"
function_name function.Digest = codes "md5"
function_name function.Length = codes "strlen"

-- The name of a list.
abbrev pub list_name : ListName → List ℕ
list_name Request = codes "request"
list_name Reply = codes "reply"
list_name Control = codes "control"

-- Plain text has no percent sign, and within braces no closing brace.
abbrev pub is_plain : Bool → List ℕ → Bool
is_plain false text = lacks 37 text
is_plain true text = lacks 37 text && lacks 125 text

-- Behind plain text stands a part, or nothing of the same text.
abbrev pub is_part_or_end : List ℕ → Bool
is_part_or_end [] = true
is_part_or_end (c ∷ text) = c == 37

-- The text of a reference that names no list stands in braces as it is, where no closing brace, colon or percent sign is in it
-- and it is none of the words that stand for no attribute.
pub record IsAlone (dict : Definitions) (reference : Reference) (text : List ℕ) : Type 0 where
  pub reads : reference_of text dict ≡ Ok reference
  pub closed : lacks 125 text ≡ true
  pub unlisted : lacks 58 text ≡ true
  pub whole : lacks 37 text ≡ true
  pub other : fixed_part text ≡ None

-- The text of a reference behind the name of its list, where no brace is in it.
pub record IsListed (dict : Definitions) (reference : Reference) (list : ListName) (text : List ℕ) : Type 0 where
  pub reads : reference_of (list_name list ++ 58 ∷ text) dict ≡ Ok reference
  pub closed : lacks 125 text ≡ true

module _ (dict : Definitions) where
  mutual
    -- A part is written so, with so many levels of braces.
    pub data IsPartOf : ℕ → Part → List ℕ → Type 0 where
      percent : (levels : ℕ) → IsPartOf levels part.Percent (codes "%%")
      moment : (levels : ℕ) (one : DatePart) → IsPartOf levels (part.Date one) (37 ∷ letter_of one ∷ [])
      alone : (levels : ℕ) (reference : Reference) (text : List ℕ) → IsAlone dict reference text → IsPartOf (suc levels) (part.Reference reference) (in_braces text)
      listed : (levels : ℕ) (reference : Reference) (list : ListName) (text : List ℕ) → IsListed dict reference list text → IsPartOf (suc levels) (part.Reference reference) (in_braces (list_name list ++ 58 ∷ text))
      capture : (levels n : ℕ) → n < 9 → IsPartOf (suc levels) (part.Capture n) (in_braces ((48 + n) ∷ []))
      loop : (levels n : ℕ) → n < 8 → IsPartOf (suc levels) (part.Loop n) (in_braces (codes "Foreach-Variable-" ++ (48 + n) ∷ []))
      source : (levels : ℕ) → IsPartOf (suc levels) part.Source (in_braces (codes "Packet-Src-IP-Address"))
      no_source : (levels : ℕ) → IsPartOf (suc levels) part.NoSource (in_braces (codes "Packet-Src-IPv6-Address"))
      alternative : (levels : ℕ) (first second : Part) (one other : List ℕ) → IsPartOf levels first one → IsSecondOf levels second other
          → IsPartOf (suc levels) (part.Alternative first second) (in_braces (one ++ 58 ∷ 45 ∷ other))
      call : (levels : ℕ) (function : Function) (parts : List Part) (text : List ℕ) → ArePartsOf levels true parts text → IsPartOf (suc levels) (part.Call function parts) (in_braces (function_name function ++ 58 ∷ text))

    -- The second side of an alternative is a part, or plain text, which may be empty.
    pub data IsSecondOf : ℕ → Part → List ℕ → Type 0 where
      second_part : (levels : ℕ) (one : Part) (text : List ℕ) → IsPartOf levels one text → IsSecondOf levels one text
      second_text : (levels : ℕ) (text : List ℕ) → is_plain true text ≡ true → IsSecondOf levels (part.Plain text) text

    -- Parts are written one behind the other, with plain text between them; whether they stand in braces makes a difference
    -- for that text alone.
    pub data ArePartsOf : ℕ → Bool → List Part → List ℕ → Type 0 where
      no_parts : (levels : ℕ) (inside : Bool) → ArePartsOf levels inside [] []
      then_part : (levels : ℕ) (inside : Bool) (one : Part) (parts : List Part) (text rest : List ℕ) → IsPartOf levels one text → ArePartsOf levels inside parts rest
          → ArePartsOf levels inside (one ∷ parts) (text ++ rest)
      then_text : (levels : ℕ) (inside : Bool) (c : ℕ) (parts : List Part) (text rest : List ℕ) → is_plain inside (c ∷ text) ≡ true → is_part_or_end rest ≡ true → ArePartsOf levels inside parts rest
          → ArePartsOf levels inside (part.Plain (c ∷ text) ∷ parts) ((c ∷ text) ++ rest)

  -- The parts of a whole expansion are written so: parts in braces nest 32 deep at most.
  abbrev pub IsExpansionOf : List Part → List ℕ → Type 0
  IsExpansionOf parts text = ArePartsOf 32 false parts text
