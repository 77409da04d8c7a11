-- Where the fault of a condition lies, in the words of whoever looks for it. This project's own.
use Rattle.std.specs.Prelude.{◌≡◌, ◌⊎◌, ℕ, ◌<◌, false, List, length, slice_index}
use Rattle.rad_text.specs.Blanks.{is_blank}
use Rattle.unlang_cond.specs.declared.fault.CondFault.{CondFault}
use Rattle.unlang_cond.specs.declared.fault.CondFault.TheVariants as fault

-- An octet of the text stands at this offset that is no blank.
pub record HasPart (text : List ℕ) (at : ℕ) : Type 0 where
  pub within : at < length text
  pub part : is_blank (slice_index text at) ≡ false

-- This octet stands there.
pub record HasOctet (text : List ℕ) (at octet : ℕ) : Type 0 where
  pub within : at < length text
  pub octet_is : slice_index text at ≡ octet

-- Reading can't go on at a part of the condition, or at its end; an unknown attribute is told at the `&` of its reference or at
-- the quote of its text; and a refused pattern at its slash.
abbrev pub IsToldAt : List ℕ → CondFault → Type 0
IsToldAt text (fault.BadCondition at) = (at ≡ length text) ⊎ HasPart text at
IsToldAt text (fault.UnknownAttr at) = HasOctet text at 38 ⊎ HasOctet text at 34
IsToldAt text (fault.BadPattern at) = HasOctet text at 47
IsToldAt text fault.NoMemory = Unit {0}
