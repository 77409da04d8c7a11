-- Runs are joined, stretch by stretch.
use Rattle.std.proofs.Common.{◌≡◌, Bool, List, [], ◌++◌, sym, ap, ◌∙◌, append_assoc}
use Rattle.std.proofs.lemmas.List.{append-nil}
use Rattle.rad_value.specs.declared.scope.Scope.{Scope}
use Rattle.rad_world.specs.Effects.{Effect, answers_of}
use Rattle.rad_world.specs.World.{WorldState}
use Rattle.rad_world.proofs.Joining.{answers_of-append, gains_nothing, gains_joined}
use Rattle.mod_base.specs.Situation.{Situation, situation_in}
use Rattle.mod_base.specs.Reaching.{Reaches, Stops}

-- where a run begins, all of its meaning is left
pub reaches_start : {A : Type 0} (scope : Scope) (world : WorldState) (meaning : Situation → A) → Reaches scope world meaning scope world meaning
reaches_start scope world meaning = record {
  added = [];
  gains = gains_nothing world;
  same = λ later earlier. ap (λ (effects : List Effect). meaning (situation_in scope world later effects)) (sym (append-nil earlier));
}

-- a run that came to a place, and from there to another, came to the other
pub reaches_joined : {A : Type 0} (s0 s1 s2 : Scope) (w0 w1 w2 : WorldState) (meaning left rest : Situation → A) → Reaches s0 w0 meaning s1 w1 left → Reaches s1 w1 left s2 w2 rest → Reaches s0 w0 meaning s2 w2 rest
reaches_joined s0 s1 s2 w0 w1 w2 meaning left rest a b = record {
  added = a.added ++ b.added;
  gains = gains_joined w0 w1 w2 a.added b.added a.gains b.gains;
  same = λ later earlier.
      ap (λ (answers : List Bool). meaning (situation_in s0 w0 answers earlier)) (ap (λ (answers : List Bool). answers ++ later) (answers_of-append a.added b.added) ∙ append_assoc (answers_of a.added) (answers_of b.added) later)
      ∙ a.same (answers_of b.added ++ later) earlier
      ∙ b.same later (earlier ++ a.added)
      ∙ ap (λ (effects : List Effect). rest (situation_in s2 w2 later effects)) (append_assoc earlier a.added b.added);
}

-- what is done with what a meaning gives is done with what is left of it
pub reaches_then : {A B : Type 0} (s0 s1 : Scope) (w0 w1 : WorldState) (meaning left : Situation → A) (more : A → B) → Reaches s0 w0 meaning s1 w1 left → Reaches s0 w0 (λ s. more (meaning s)) s1 w1 (λ s. more (left s))
reaches_then s0 s1 w0 w1 meaning left more a = record {
  added = a.added;
  gains = a.gains;
  same = λ later earlier. ap more (a.same later earlier);
}

-- a meaning that is the same everywhere is as good
pub reaches_as : {A : Type 0} (s0 s1 : Scope) (w0 w1 : WorldState) (meaning left meaning' left' : Situation → A) → ((s : Situation) → meaning' s ≡ meaning s) → ((s : Situation) → left s ≡ left' s) → Reaches s0 w0 meaning s1 w1 left → Reaches s0 w0 meaning' s1 w1 left'
reaches_as s0 s1 w0 w1 meaning left meaning' left' before after a = record {
  added = a.added;
  gains = a.gains;
  same = λ later earlier. before (situation_in s0 w0 (answers_of a.added ++ later) earlier) ∙ a.same later earlier ∙ after (situation_in s1 w1 later (earlier ++ a.added));
}

-- a run that came to a place and stopped on its way from there has stopped
pub stops_joined : (s0 s1 : Scope) (w0 w1 w2 : WorldState) (meant left : Situation → List Effect) → Reaches s0 w0 meant s1 w1 left → Stops s1 w1 left w2 → Stops s0 w0 meant w2
stops_joined s0 s1 w0 w1 w2 meant left a b = record {
  added = a.added ++ b.added;
  gains = gains_joined w0 w1 w2 a.added b.added a.gains b.gains;
  first = λ later earlier.
      let found = b.first later (earlier ++ a.added) in (
        found.0,
        ap (λ (answers : List Bool). meant (situation_in s0 w0 answers earlier)) (ap (λ (answers : List Bool). answers ++ later) (answers_of-append a.added b.added) ∙ append_assoc (answers_of a.added) (answers_of b.added) later)
            ∙ a.same (answers_of b.added ++ later) earlier
            ∙ found.1
            ∙ ap (λ (effects : List Effect). effects ++ found.0) (append_assoc earlier a.added b.added),
      );
}

-- a run that stopped has stopped also where more is done behind it, since effects only grow
pub stops_then : (s0 : Scope) (w0 w1 : WorldState) (meant longer : Situation → List Effect) → ((s : Situation) → (more : List Effect) × (longer s ≡ meant s ++ more)) → Stops s0 w0 meant w1 → Stops s0 w0 longer w1
stops_then s0 w0 w1 meant longer grows a = record {
  added = a.added;
  gains = a.gains;
  first = λ later earlier.
      let found = a.first later earlier in
      let s = situation_in s0 w0 (answers_of a.added ++ later) earlier in
      let behind = grows s in (
        found.0 ++ behind.0,
        behind.1 ∙ ap (λ (effects : List Effect). effects ++ behind.0) found.1 ∙ append_assoc (earlier ++ a.added) found.0 behind.0,
      );
}

-- a run that stops where it begins has made no effect; what is meant only grows
pub stops_start : (s0 : Scope) (w0 : WorldState) (meant : Situation → List Effect) → ((s : Situation) → (more : List Effect) × (meant s ≡ s.effects ++ more)) → Stops s0 w0 meant w0
stops_start s0 w0 meant grows = record {
  added = [];
  gains = gains_nothing w0;
  first = λ later earlier.
      let behind = grows (situation_in s0 w0 later earlier) in
      (behind.0, behind.1 ∙ ap (λ (effects : List Effect). effects ++ behind.0) (sym (append-nil earlier)));
}
