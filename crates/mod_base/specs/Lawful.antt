-- What does nothing keeps all: for the laws of kinds of modules. This project's own.
use Rattle.std.proofs.Common.{Bool, [], length, refl, sym}
use Rattle.std.proofs.lemmas.List.{append-nil}
use Rattle.std.proofs.Math.Seq.{take-nil}
use Rattle.rad_words.specs.declared.attributes.AttrId.{AttrId}
use Rattle.rad_words.specs.declared.sections.Section.{Section}
use Rattle.rad_value.specs.declared.scope.Scope.{Scope}
use Rattle.rad_value.specs.declared.edits.ListName.{ListName}
use Rattle.mod_base.specs.Situation.{Situation}
use Rattle.mod_base.specs.Meaning.{Makes, StaysWithin, IsLawful}

-- Between a situation and itself no effect was made.
pub makes_nothing : (situation : Situation) → Makes situation situation []
makes_nothing situation = record {
  effects = sym (append-nil situation.effects);
  answers = refl;
  used = take-nil (length situation.answers);
  sessions = refl;
}

-- A scope stays within any frame of itself.
pub stays_alone : (edits : ListName → AttrId → Bool) (scope : Scope) → StaysWithin edits scope scope
stays_alone edits scope = record {
  pairs = λ list. refl;
  loops = refl;
  last = refl;
  choices = refl;
  from = refl;
  moment = refl;
  luck = refl;
  authenticator = refl;
}

-- what does nothing keeps all
pub lawful_alone : (edits : ListName → AttrId → Bool) (method : Section) (situation : Situation) → IsLawful edits method situation situation
lawful_alone edits method situation = record {
  added = [];
  makes = makes_nothing situation;
  scope = stays_alone edits situation.scope;
  sessions = λ other. refl;
}
