use Rattle.std.proofs.Common.{◌≡◌, ◌^◌, ◌<◌, drop}
use Rattle.rad_sessions.specs.Log.{seconds_after}
use Rattle.rad_sessions.proofs.fields.seconds_of.Given as goal

abbrev pub invariant-loop-octet : goal.invariant-loop-octet
invariant-loop-octet l = record {
  so_far : seconds_after l.seconds (drop l.octet-index l.digits) ≡ seconds_after 0 l.digits;
  fits : l.seconds < 2 ^ 64;
}
