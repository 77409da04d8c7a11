-- The exit statuses of the program. This project's own, after FreeRADIUS' radiusd(8).
use Rattle.std.specs.Prelude.{ℕ}
use Rattle.rad_build.specs.declared.fault.BuildFault.{BuildFault}
use Rattle.rad_build.specs.declared.fault.BuildFault.TheVariants as fault
use Rattle.radiusd.specs.declared.status.Status.{Status}
use Rattle.radiusd.specs.declared.status.Status.TheVariants as status

-- The exit status of the program.
abbrev pub number_of : Status → ℕ
number_of status.Done = 0
number_of status.Words = 1
number_of status.Configuration = 2
number_of status.ReadFault = 3
number_of status.SocketFault = 4
number_of status.PrintFault = 6
number_of status.Worn = 7
number_of status.NoMemory = 8

-- A status that comes once the site is built.
abbrev pub IsServing : Status → Type 0
IsServing status.Done = Unit {0}
IsServing status.Words = ⊥
IsServing status.Configuration = ⊥
IsServing status.ReadFault = ⊥
IsServing status.SocketFault = Unit {0}
IsServing status.PrintFault = Unit {0}
IsServing status.Worn = Unit {0}
IsServing status.NoMemory = Unit {0}

-- The status of a fault: one of the configuration, a read fault or want of memory.
abbrev pub status_of : BuildFault → Status
status_of (fault.Conf wrong) = status.Configuration
status_of (fault.Dict wrong) = status.Configuration
status_of (fault.Users file wrong) = status.Configuration
status_of (fault.Tree wrong) = status.Configuration
status_of (fault.BadSetting place name) = status.Configuration
status_of (fault.UnknownModule place kind) = status.Configuration
status_of fault.ReadFault = status.ReadFault
status_of fault.NoMemory = status.NoMemory
