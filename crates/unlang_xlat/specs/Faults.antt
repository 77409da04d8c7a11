-- What parsing an expansion answers: its parts, or the first fault with the offset of the `%` of its part. This project's
-- own.
use Rattle.std.specs.Prelude.{ℕ, ◌-◌, Bool, true, false, List, length, Result, Ok, Err}
use Rattle.rad_dict.specs.Definitions.{Definitions}
use Rattle.rad_text.specs.declared.read.ReadError.{ReadError}
use Rattle.rad_text.specs.declared.read.ReadError.TheVariants as errors
use Rattle.rad_text.specs.Spots.{capped}
use Rattle.unlang_xlat.specs.declared.fault.Wrong.{Wrong}
use Rattle.unlang_xlat.specs.declared.fault.Wrong.TheVariants.{BadExpansion, UnknownAttr, UnknownFunction}
use Rattle.unlang_xlat.specs.declared.fault.XlatFault.{XlatFault}
use Rattle.unlang_xlat.specs.declared.fault.XlatFault.TheVariants as fault
use Rattle.unlang_xlat.specs.declared.part.Part.{Part}
use Rattle.unlang_xlat.specs.Reading.{parts_of}

-- The offset from which on so many octets of a text are left.
abbrev pub offset : List ℕ → ℕ → ℕ
offset text left = capped (length text - left)

-- What is wrong, with its offset in the text.
abbrev pub fault_of : List ℕ → Wrong → XlatFault
fault_of text (BadExpansion left) = fault.BadExpansion (offset text left)
fault_of text (UnknownAttr left) = fault.UnknownAttr (offset text left)
fault_of text (UnknownFunction left) = fault.UnknownFunction (offset text left)

-- The same of an error.
abbrev pub fault_at : List ℕ → ReadError Wrong → XlatFault
fault_at text errors.NoMemory = fault.NoMemory
fault_at text (errors.Wrong wrong) = fault_of text wrong

-- The parts, or what is wrong with its offset.
abbrev pub placed : List ℕ → Result (List Part) Wrong → Result (List Part) XlatFault
placed text (Ok parts) = Ok parts
placed text (Err wrong) = Err (fault_of text wrong)

-- The parts of a whole text, or its first fault.
unfoldable pub parsed : List ℕ → Definitions → Result (List Part) XlatFault
parsed text dict = placed text (parts_of text dict)

-- A fault that says something of a text: want of memory says nothing.
abbrev pub says : XlatFault → Bool
says (fault.BadExpansion at) = true
says (fault.UnknownAttr at) = true
says (fault.UnknownFunction at) = true
says fault.NoMemory = false
