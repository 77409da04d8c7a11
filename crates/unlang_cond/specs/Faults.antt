-- Faults of a condition with their offsets, by how many octets are left. This project's own.
use Rattle.std.specs.Prelude.{ℕ, ◌-◌, min}
use Rattle.rad_text.specs.declared.read.ReadError.{ReadError}
use Rattle.rad_text.specs.declared.read.ReadError.TheVariants as errors
use Rattle.unlang_cond.specs.declared.fault.CondFault.{CondFault}
use Rattle.unlang_cond.specs.declared.fault.CondFault.TheVariants as fault
use Rattle.unlang_cond.specs.declared.fault.Wrong.{Wrong}
use Rattle.unlang_cond.specs.declared.fault.Wrong.TheVariants as wrong

-- The offset from which on so many octets of a text of this length are left, or the greatest of 32 bits where it is above that.
abbrev pub offset_of : ℕ → ℕ → ℕ
offset_of length left = min (length - left) 4294967295

-- What is wrong, with its offset in a text of this length.
abbrev pub fault_of : ℕ → Wrong → CondFault
fault_of length (wrong.BadCondition left) = fault.BadCondition (offset_of length left)
fault_of length (wrong.UnknownAttr left) = fault.UnknownAttr (offset_of length left)

-- A pattern that is refused, with its offset.
abbrev pub refusal_of : ℕ → ReadError ℕ → CondFault
refusal_of length errors.NoMemory = fault.NoMemory
refusal_of length (errors.Wrong left) = fault.BadPattern (offset_of length left)
