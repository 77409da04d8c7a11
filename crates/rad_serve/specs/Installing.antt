-- What a load's answer says. This project's own.
use Rattle.std.specs.Prelude.{Bool, true, false}
use Rattle.rad_core.specs.declared.installed.Installed.{Installed}
use Rattle.rad_core.specs.declared.installed.Installed.TheVariants as installed
use Rattle.rad_build.specs.declared.fault.BuildFault.{BuildFault}

-- The load is the present generation.
abbrev pub is_present_by : Installed BuildFault → Bool
is_present_by (installed.Generation number) = true
is_present_by (installed.Refused fault) = false
is_present_by (installed.ListenerGone name) = false
