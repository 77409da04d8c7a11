-- How a run in a scope and a world stands to what it means in a situation. This project's own.
use Rattle.std.specs.Prelude.{◌≡◌, Bool, List, ◌++◌}
use Rattle.rad_value.specs.declared.scope.Scope.{Scope}
use Rattle.rad_world.specs.Effects.{Effect, answers_of}
use Rattle.rad_world.specs.World.{WorldState, Gains}
use Rattle.mod_base.specs.Situation.{Situation, situation_in}

-- A run from one scope and world came to others, with what is left of its meaning: the world made some effects, and
-- whatever answers come later and whatever effects were made earlier, the meaning from where it began, with the answers to
-- those effects first, is what is left, from where it came to. So each device call has used one answer.
pub record Reaches {A : Type 0} (scope : Scope) (world : WorldState) (meaning : Situation → A) (scope_now : Scope) (world_now : WorldState) (left : Situation → A) : Type 0 where
  pub added : List Effect
  pub gains : Gains world world_now added
  pub same : (later : List Bool) (earlier : List Effect) → meaning (situation_in scope world (answers_of added ++ later) earlier) ≡ left (situation_in scope_now world_now later (earlier ++ added))

-- A run that ended for want of memory made the first effects of such a run: whatever answers come later and whatever
-- effects were made earlier, the effects that are meant, with the answers to those that were made first, begin with them.
pub record Stops (scope : Scope) (world : WorldState) (effects_meant : Situation → List Effect) (world_now : WorldState) : Type 0 where
  pub added : List Effect
  pub gains : Gains world world_now added
  pub first : (later : List Bool) (earlier : List Effect) → (more : List Effect) × (effects_meant (situation_in scope world (answers_of added ++ later) earlier) ≡ (earlier ++ added) ++ more)
