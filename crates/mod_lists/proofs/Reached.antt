-- A run that changed the lists of its scope alone came to what it means.
use Rattle.std.specs.Prelude.{IfOk, OnErr, Result, Ok, Err}
use Rattle.std.proofs.Common.{◌≡◌, Bool, List, [], sym, ap, ◌∙◌}
use Rattle.std.proofs.lemmas.List.{append-nil}
use Rattle.rad_outside.specs.declared.fault.NoMemory.{NoMemory}
use Rattle.rad_words.specs.declared.codes.Code.{Code}
use Rattle.rad_value.specs.declared.scope.Scope.{Scope}
use Rattle.rad_value.specs.PairLists.{PairLists}
use Rattle.rad_world.specs.Effects.{Effect}
use Rattle.rad_world.specs.World.{WorldState}
use Rattle.rad_world.proofs.Joining.{gains_nothing}
use Rattle.mod_base.specs.Situation.{Situation, situation_in}
use Rattle.mod_base.specs.Reaching.{Reaches, Stops}
use Rattle.mod_base.proofs.Reached.{stops_start}
use Rattle.mod_lists.specs.Done.{with_lists, done_to_lists}

-- a situation in a scope with these lists, and a code
abbrev ended : Scope → WorldState → List Bool → List Effect → PairLists × Code → Situation × Code
ended scope world later earlier outcome = (situation_in (with_lists scope outcome.0) world later earlier, outcome.1)

pub lists_reached : (does : Scope → PairLists × Code) (scope : Scope) (lists : PairLists) (world : WorldState) (answer : Code) → (lists, answer) ≡ does scope
    → Reaches scope world (done_to_lists does) (with_lists scope lists) world (λ s. (s, answer))
lists_reached does scope lists world answer is = record {
  added = [];
  gains = gains_nothing world;
  same = λ later earlier.
      ap (ended scope world later earlier) (sym is)
      ∙ ap (λ (effects : List Effect). (situation_in (with_lists scope lists) world later effects, answer)) (sym (append-nil earlier));
}

-- for want of memory it made none of its effects, which are none
pub lists_stopped : (does : Scope → PairLists × Code) (scope : Scope) (world : WorldState) → Stops scope world (λ s. (done_to_lists does s).0.effects) world
lists_stopped does scope world = stops_start scope world (λ s. (done_to_lists does s).0.effects) (λ s. ([], sym (append-nil s.effects)))

-- a run that gave a code came there, and one that gave none stopped
pub lists_answered : (does : Scope → PairLists × Code) (scope : Scope) (lists : PairLists) (world : WorldState) (result : Result Code NoMemory) → IfOk result (λ answer. (lists, answer) ≡ does scope)
    → IfOk result (λ answer. Reaches scope world (done_to_lists does) (with_lists scope lists) world (λ s. (s, answer)))
lists_answered does scope lists world (Ok answer) is = lists_reached does scope lists world answer is
lists_answered does scope lists world (Err fault) is = tt

pub lists_given_up : (does : Scope → PairLists × Code) (scope : Scope) (world : WorldState) (result : Result Code NoMemory) → OnErr result (Stops scope world (λ s. (done_to_lists does s).0.effects) world)
lists_given_up does scope world (Ok answer) = tt
lists_given_up does scope world (Err fault) = lists_stopped does scope world
