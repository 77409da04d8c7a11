-- What reading answers, beside what is said of the files. This project's own.
use Rattle.std.specs.Prelude.{Bool, true, false, Result}
use Rattle.rad_text.specs.Answers as text
use Rattle.rad_dict.specs.declared.fault.DictFault.{DictFault}
use Rattle.rad_dict.specs.declared.fault.DictFault.TheVariants as fault

-- A fault that says something of the files: a read fault and want of memory say nothing.
abbrev pub says : DictFault → Bool
says (fault.BadLine place) = true
says (fault.UnknownVendor place) = true
says (fault.Taken place) = true
says (fault.TooDeep place) = true
says (fault.Missing place) = true
says (fault.TooLong place) = true
says fault.ReadFault = false
says fault.NoMemory = false

-- The fault is the one that is said, where it says anything of the files.
abbrev pub IsFault : {Y : Type 0} → Result Y DictFault → DictFault → Type 0
IsFault said fault = text.IsFault says said fault

-- The answer is the value or the fault that is said.
abbrev pub IsAnswer : {Y : Type 0} → Result Y DictFault → Result Y DictFault → Type 0
IsAnswer said answer = text.IsAnswer says said answer
