-- A fault of the configuration's file as one of the whole build. This project's own.
use Rattle.std.specs.Prelude.{Result, Ok, Err}
use Rattle.rad_conf.specs.declared.fault.ConfFault.{ConfFault}
use Rattle.rad_conf.specs.declared.fault.ConfFault.TheVariants as conf
use Rattle.rad_build.specs.declared.fault.BuildFault.{BuildFault}
use Rattle.rad_build.specs.declared.fault.BuildFault.TheVariants as fault

-- Want of memory and a read fault are variants of their own.
abbrev pub fault_of : ConfFault → BuildFault
fault_of (conf.Unclosed place) = fault.Conf (conf.Unclosed place)
fault_of (conf.Stray place) = fault.Conf (conf.Stray place)
fault_of (conf.BadQuote place) = fault.Conf (conf.BadQuote place)
fault_of (conf.NoVariable place) = fault.Conf (conf.NoVariable place)
fault_of (conf.TooDeep place) = fault.Conf (conf.TooDeep place)
fault_of (conf.Missing place) = fault.Conf (conf.Missing place)
fault_of (conf.TooLong place) = fault.Conf (conf.TooLong place)
fault_of conf.ReadFault = fault.ReadFault
fault_of conf.NoMemory = fault.NoMemory

-- What a reading of the configuration answers, as an answer of a build.
abbrev pub of_conf : {A : Type 0} → Result A ConfFault → Result A BuildFault
of_conf (Ok x) = Ok x
of_conf (Err wrong) = Err (fault_of wrong)
