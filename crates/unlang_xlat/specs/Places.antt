-- Where the fault of an expansion's text lies, in the words of whoever looks for it. This project's own.
use Rattle.std.specs.Prelude.{◌≡◌, ℕ, ◌<◌, List, length, slice_index}
use Rattle.unlang_xlat.specs.declared.fault.XlatFault.{XlatFault}
use Rattle.unlang_xlat.specs.declared.fault.XlatFault.TheVariants as fault

-- The offset that a fault carries; want of memory has none.
abbrev pub offset_of : XlatFault → ℕ
offset_of (fault.BadExpansion at) = at
offset_of (fault.UnknownAttr at) = at
offset_of (fault.UnknownFunction at) = at
offset_of fault.NoMemory = 0

-- The offset lies within the text, and a percent sign stands there.
pub record IsAtSign (text : List ℕ) (found : XlatFault) : Type 0 where
  pub within : offset_of found < length text
  pub sign : slice_index text (offset_of found) ≡ 37
