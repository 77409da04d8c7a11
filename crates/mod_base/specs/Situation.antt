-- The situation of a policy at a moment of its run. This project's own.
use Rattle.std.specs.Prelude.{Bool, List}
use Rattle.rad_value.specs.declared.scope.Scope.{Scope}
use Rattle.rad_sessions.specs.declared.session.Session.{Session}
use Rattle.rad_world.specs.Effects.{Effect}
use Rattle.rad_world.specs.World.{WorldState}

-- The scope, the sessions, the answers that devices are still to give, true for each call that will be done, and the
-- effects so far.
pub record Situation : Type 0 where
  pub scope : Scope
  pub sessions : List Session
  pub answers : List Bool
  pub effects : List Effect

-- The situation in a scope and a world, with these answers still to come and these effects so far.
abbrev pub situation_in : Scope → WorldState → List Bool → List Effect → Situation
situation_in scope world answers effects = record {
  scope = scope;
  sessions = world.sessions;
  answers = answers;
  effects = effects;
}
