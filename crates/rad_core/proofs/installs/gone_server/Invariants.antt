use Rattle.std.proofs.Common.{◌≡◌, drop}
use Rattle.rad_core.specs.Step.{gone_of}
use Rattle.rad_core.proofs.installs.gone_server.Given as goal

-- the first listener that is lacking is among those that are left
abbrev pub invariant-loop-listen : goal.invariant-loop-listen
invariant-loop-listen g l =
    gone_of g.P.Policy.meaning l.generation l.listeners
    ≡ gone_of g.P.Policy.meaning l.generation (drop l.listen-index l.listeners)
