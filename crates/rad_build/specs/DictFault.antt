-- A fault of the dictionary's files as one of the whole build. This project's own.
use Rattle.std.specs.Prelude.{Result, Ok, Err}
use Rattle.rad_dict.specs.declared.fault.DictFault.{DictFault}
use Rattle.rad_dict.specs.declared.fault.DictFault.TheVariants as dict
use Rattle.rad_build.specs.declared.fault.BuildFault.{BuildFault}
use Rattle.rad_build.specs.declared.fault.BuildFault.TheVariants as fault

-- Want of memory and a read fault are variants of their own.
abbrev pub fault_of : DictFault → BuildFault
fault_of (dict.BadLine place) = fault.Dict (dict.BadLine place)
fault_of (dict.UnknownVendor place) = fault.Dict (dict.UnknownVendor place)
fault_of (dict.Taken place) = fault.Dict (dict.Taken place)
fault_of (dict.TooDeep place) = fault.Dict (dict.TooDeep place)
fault_of (dict.Missing place) = fault.Dict (dict.Missing place)
fault_of (dict.TooLong place) = fault.Dict (dict.TooLong place)
fault_of dict.ReadFault = fault.ReadFault
fault_of dict.NoMemory = fault.NoMemory

-- What a reading of the dictionary answers, as an answer of a build.
abbrev pub of_dict : {A : Type 0} → Result A DictFault → Result A BuildFault
of_dict (Ok x) = Ok x
of_dict (Err wrong) = Err (fault_of wrong)
