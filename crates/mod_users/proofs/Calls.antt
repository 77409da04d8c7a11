-- A call of the module reaches what it means: it changes the scope alone.
use Rattle.std.proofs.Common.{◌≡◌, [], List, Result, Ok, Err, sym, ap, ◌∙◌}
use Rattle.std.specs.Result.{IfOk}
use Rattle.std.proofs.lemmas.List.{append-nil}
use Rattle.rad_outside.specs.declared.fault.NoMemory.{NoMemory}
use Rattle.rad_words.specs.declared.codes.Code.{Code}
use Rattle.rad_value.specs.declared.scope.Scope.{Scope}
use Rattle.rad_dict.specs.Definitions.{Definitions}
use Rattle.rad_world.specs.Effects.{Effect}
use Rattle.rad_world.specs.World.{WorldState}
use Rattle.rad_world.proofs.Joining.{gains_nothing}
use Rattle.mod_base.specs.Situation.{situation_in}
use Rattle.mod_base.specs.Reaching.{Reaches}
use Rattle.mod_users.specs.declared.files.FilesModule.{FilesModule}
use Rattle.mod_users.specs.Module.{authorized, does}

reached : (scope new : Scope) (world : WorldState) (m : FilesModule) (dict : Definitions) (code : Code) → (new, code) ≡ authorized m dict scope → Reaches scope world (does m dict) new world (λ s. (s, code))
reached scope new world m dict code e = record {
  added = [];
  gains = gains_nothing world;
  same = λ later earlier.
      ap (λ (done : Scope × Code). (situation_in done.0 world later earlier, done.1)) (sym e)
      ∙ ap (λ (effects : List Effect). (situation_in new world later effects, code)) (sym (append-nil earlier));
}

pub call_reaches : (scope new : Scope) (world : WorldState) (m : FilesModule) (dict : Definitions) (result : Result Code NoMemory) → IfOk result (λ code. (new, code) ≡ authorized m dict scope)
    → IfOk result (λ code. Reaches scope world (does m dict) new world (λ s. (s, code)))
call_reaches scope new world m dict (Ok code) e = reached scope new world m dict code e
call_reaches scope new world m dict (Err error) e = tt
