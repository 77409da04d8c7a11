-- How references are written, apart from how they are read: `[list:]Attr[place]`, after unlang(5). That a place is below 2^32 is
-- this project's own.
use Rattle.std.specs.Prelude.{◌≡◌, ℕ, ◌<◌, ◌^◌, Bool, true, false, ◌==◌, List, [], ◌∷◌, ◌++◌, length, Some, codes, if◌then◌else◌}
use Rattle.std.specs.Str.{str_eq_ignore_ascii_case}
use Rattle.std.specs.Str.Parse.{AllDigits, digits_value_after}
use Rattle.rad_value.specs.declared.edits.ListName.{ListName}
use Rattle.rad_value.specs.declared.edits.ListName.TheVariants.{Request, Reply, Control}
use Rattle.rad_dict.specs.Definitions.{Definitions}
use Rattle.rad_pairs.specs.declared.attr_reading.AttrKind.{AttrKind}
use Rattle.rad_pairs.specs.AttrNames.{named}
use Rattle.unlang_reference.specs.declared.reference.Reference.{Reference}
use Rattle.unlang_reference.specs.declared.reference.Which.{Which}
use Rattle.unlang_reference.specs.declared.reference.Which.TheVariants.{Nth, All, Count}

-- An octet stands nowhere in a text.
abbrev pub lacks : ℕ → List ℕ → Bool
lacks octet [] = true
lacks octet (c ∷ text) = if c == octet then false else lacks octet text

-- The name of a list, with its colon.
abbrev pub list_text : ListName → List ℕ
list_text Request = codes "request:"
list_text Reply = codes "reply:"
list_text Control = codes "control:"

-- Which values a place means: none the first, digits that one, `*` all, `#` their number.
pub data IsPlace : Which → List ℕ → Type 0 where
  nowhere : IsPlace (Nth 0) []
  nth : (digits : List ℕ) → 0 < length digits → AllDigits 10 digits → digits_value_after 10 0 digits < 2 ^ 32 → IsPlace (Nth (digits_value_after 10 0 digits)) (91 ∷ (digits ++ 93 ∷ []))
  all : IsPlace All (codes "[*]")
  number : IsPlace Count (codes "[#]")

-- The name of an attribute has no bracket, and no colon where it names no list.
pub data IsReference (dict : Definitions) : Reference → List ℕ → Type 0 where
  unlisted : (attr : AttrKind) (which : Which) (name place : List ℕ) → lacks 91 name ≡ true → lacks 58 name ≡ true → named name dict ≡ Some attr → IsPlace which place
      → IsReference dict (record { list = Request; attr = attr; which = which }) (name ++ place)
  listed : (list : ListName) (attr : AttrKind) (which : Which) (spelled name place : List ℕ) → str_eq_ignore_ascii_case spelled (list_text list) ≡ true → lacks 91 name ≡ true → named name dict ≡ Some attr
      → IsPlace which place → IsReference dict (record { list = list; attr = attr; which = which }) (spelled ++ (name ++ place))
