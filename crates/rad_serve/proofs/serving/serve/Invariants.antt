use Rattle.std.proofs.Common.{◌≡◌, ◌<◌, None}
use Rattle.rad_serve.specs.Serving.{GoesOn}
use Rattle.rad_serve.proofs.serving.serve.Given as goal

-- what was done so far, and how many of the wire's last asks failed
abbrev pub invariant-loop : goal.invariant-loop
invariant-loop g l = record {
  goes_on : GoesOn (record { wire = g.W.Wire.told; clock = g.K.Clock.told; luck = g.U.Luck.told; failures = g.W.Wire.failures_in_a_row; has_ended = g.W.Wire.has_ended }) 0 l.listen None l.fn.hub.history l.hub.history l.fn.kit l.kit;
  counted : l.failures ≡ g.W.Wire.failures_in_a_row l.kit.wire;
  few : l.failures < 100;
  origin : l.hub.origin ≡ l.fn.hub.origin;
}
