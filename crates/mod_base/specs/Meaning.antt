-- What a module means, and what every meaning keeps. This project's own, after radiusd.conf(5) and unlang(5).
use Rattle.std.specs.Prelude.{◌≡◌, ◌≢◌, Bool, not, List, ◌++◌, length, take, drop, filter}
use Rattle.rad_words.specs.declared.codes.Code.{Code}
use Rattle.rad_words.specs.declared.attributes.AttrId.{AttrId}
use Rattle.rad_words.specs.declared.sections.Section.{Section}
use Rattle.rad_words.specs.declared.sections.Section.TheVariants.{Accounting}
use Rattle.rad_value.specs.declared.scope.Scope.{Scope}
use Rattle.rad_value.specs.declared.edits.ListName.{ListName}
use Rattle.rad_value.specs.declared.values.Pair.{Pair}
use Rattle.rad_value.specs.PairLists.{PairLists, list_of}
use Rattle.rad_dict.specs.Definitions.{Definitions}
use Rattle.rad_world.specs.Effects.{Effect, answers_of, after_effects}
use Rattle.mod_base.specs.Situation.{Situation}

-- The sections for which a module has a method; which attributes of which lists it may edit, its frame; and what its
-- method for a section does under a dictionary: from a situation to a situation and a code.
pub record Meaning (M : Type 0) : Type 0 where
  pub methods : M → List Bool
  pub edits : M → ListName → AttrId → Bool
  pub does : M → Definitions → Section → Situation → Situation × Code

-- The pairs of a list that a frame keeps from being edited, in order.
abbrev pub outside : (ListName → AttrId → Bool) → ListName → PairLists → List Pair
outside edits list lists = filter (λ (p : Pair). not (edits list p.attr)) (list_of lists list)

-- From one situation to another some effects were made, each by one answer, as far as there were answers; the sessions are
-- those after them.
pub record Makes (before now : Situation) (added : List Effect) : Type 0 where
  pub effects : now.effects ≡ before.effects ++ added
  pub answers : now.answers ≡ drop (length added) before.answers
  pub used : take (length before.answers) (answers_of added) ≡ take (length added) before.answers
  pub sessions : now.sessions ≡ after_effects before.sessions added

-- What stays of a scope, whatever a module does: pairs outside its frame, the codes and loops of the policy around it, and
-- what the request came with.
pub record StaysWithin (edits : ListName → AttrId → Bool) (before now : Scope) : Type 0 where
  pub pairs : (list : ListName) → outside edits list now.lists ≡ outside edits list before.lists
  pub loops : now.loops ≡ before.loops
  pub last : now.last ≡ before.last
  pub choices : now.choices ≡ before.choices
  pub from : now.from ≡ before.from
  pub moment : now.moment ≡ before.moment
  pub luck : now.luck ≡ before.luck
  pub authenticator : now.authenticator ≡ before.authenticator

-- What every module keeps: its effects only grow, with one answer each; its scope stays but for its frame and for what
-- patterns captured; and no method but that for accounting changes the sessions.
pub record IsLawful (edits : ListName → AttrId → Bool) (method : Section) (before now : Situation) : Type 0 where
  pub added : List Effect
  pub makes : Makes before now added
  pub scope : StaysWithin edits before.scope now.scope
  pub sessions : method ≢ Accounting → now.sessions ≡ before.sessions
