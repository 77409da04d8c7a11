-- What a world makes, stretch by stretch.
use Rattle.std.specs.Prelude.{min, ◌^◌, ◌-◌, not}
use Rattle.std.specs.List.{list_any}
use Rattle.std.proofs.Common.{◌≡◌, ℕ, ◌+◌, ◌≤◌, Bool, true, false, List, [], ◌∷◌, ◌++◌, Option, Some, None, refl, sym, ap, ◌∙◌, arith, append_assoc, append-nil}
use Rattle.rad_outside.specs.Telling.{Tells, Rose}
use Rattle.rad_sessions.specs.declared.session.Session.{Session}
use Rattle.rad_world.specs.Effects.{Effect, Write, Line, answer_of, answers_of, after_effect, after_effects, writes_of, lines_of, failures_in}
use Rattle.rad_world.specs.World.{WorldState, CountsOver, Gains}

pub answers_of-append : (a b : List Effect) → answers_of (a ++ b) ≡ answers_of a ++ answers_of b
answers_of-append [] b = refl
answers_of-append (e ∷ a) b = ap (λ rest. answer_of e ∷ rest) (answers_of-append a b)

pub writes_of-append : (a b : List Effect) → writes_of (a ++ b) ≡ writes_of a ++ writes_of b
writes_of-append [] b = refl
writes_of-append (Write path octets done ∷ a) b = ap (λ rest. done ∷ rest) (writes_of-append a b)
writes_of-append (Line change done ∷ a) b = writes_of-append a b

pub lines_of-append : (a b : List Effect) → lines_of (a ++ b) ≡ lines_of a ++ lines_of b
lines_of-append [] b = refl
lines_of-append (Write path octets done ∷ a) b = lines_of-append a b
lines_of-append (Line change done ∷ a) b = ap (λ rest. done ∷ rest) (lines_of-append a b)

pub after_effects-append : (sessions : List Session) (a b : List Effect) → after_effects sessions (a ++ b) ≡ after_effects (after_effects sessions a) b
after_effects-append sessions [] b = refl
after_effects-append sessions (e ∷ a) b = after_effects-append (after_effect sessions e) a b

failures_in-append : (a b : List Bool) → failures_in (a ++ b) ≡ failures_in a + failures_in b
failures_in-append [] b = omega arith
failures_in-append (true ∷ a) b = failures_in-append a b
failures_in-append (false ∷ a) b = let more = failures_in-append a b in omega (arith, more)

tells_nothing : (told : Option (List Effect)) → Tells told told (λ earlier later. later ≡ earlier ++ [])
tells_nothing None = tt
tells_nothing (Some effects) = sym (append-nil effects)

-- what is told stretch by stretch is told in order
tells_joined : (first second third : Option (List Effect)) (made more : List Effect) → Tells first second (λ earlier later. later ≡ earlier ++ made) → Tells second third (λ earlier later. later ≡ earlier ++ more)
    → Tells first third (λ earlier later. later ≡ earlier ++ (made ++ more))
tells_joined first second None made more a b = tt
tells_joined first None (Some third) made more a b = absurd b
tells_joined None (Some second) (Some third) made more a b = absurd a
tells_joined (Some first) (Some second) (Some third) made more a b = b ∙ ap (λ (e : List Effect). e ++ more) a ∙ append_assoc first made more

counts_nothing : (count : ℕ) → CountsOver [] count count
counts_nothing count = record {
  later = omega arith;
  cause = omega arith;
  idle = λ _. refl;
}

no_answers : (made more : List Bool) → made ++ more ≡ [] → (made ≡ []) × (more ≡ [])
no_answers [] more is = (refl, is)
no_answers (answer ∷ made) more is = absurd (cc)

-- a count over answers and then over more is one over all of them
counts_joined : (first second third : ℕ) (made more : List Bool) → CountsOver made first second → CountsOver more second third → CountsOver (made ++ more) first third
counts_joined first second third made more a b = record {
  later = let x = a.later in let y = b.later in omega (arith, x, y);
  cause = let x = a.cause in let y = b.cause in let u = a.later in let v = b.later in let e = failures_in-append made more in omega (arith, x, y, u, v, e);
  idle = λ is. let none = no_answers made more is in b.idle none.1 ∙ a.idle none.0;
}

pub gains_nothing : (world : WorldState) → Gains world world []
gains_nothing world = record {
  answers = sym (append-nil world.answers);
  effects = tells_nothing world.effects;
  sessions = refl;
  takes_changes = refl;
  write_faults = counts_nothing world.write_faults;
  line_faults = counts_nothing world.line_faults;
  lent = refl;
}

-- what a world makes in one stretch and in the next, it makes in order
pub gains_joined : (first second third : WorldState) (made more : List Effect) → Gains first second made → Gains second third more → Gains first third (made ++ more)
gains_joined first second third made more a b = record {
  answers = b.answers ∙ ap (λ (answers : List Bool). answers ++ answers_of more) a.answers ∙ append_assoc first.answers (answers_of made) (answers_of more) ∙ ap (λ (answers : List Bool). first.answers ++ answers) (sym (answers_of-append made more));
  effects = tells_joined first.effects second.effects third.effects made more a.effects b.effects;
  sessions = b.sessions ∙ ap (λ (sessions : List Session). after_effects sessions more) a.sessions ∙ sym (after_effects-append first.sessions made more);
  takes_changes = b.takes_changes ∙ a.takes_changes;
  write_faults = rw (writes_of-append made more) (counts_joined first.write_faults second.write_faults third.write_faults (writes_of made) (writes_of more) a.write_faults b.write_faults);
  line_faults = rw (lines_of-append made more) (counts_joined first.line_faults second.line_faults third.line_faults (lines_of made) (lines_of more) a.line_faults b.line_faults);
  lent = b.lent ∙ a.lent;
}

some_failed : (answers : List Bool) → list_any not answers ≡ true → 1 ≤ failures_in answers
some_failed [] is = absurd (cc)
some_failed (true ∷ answers) is = some_failed answers is
some_failed (false ∷ answers) is = omega arith

by_rise : (before now : ℕ) (answers : List Bool) (any : Bool) → list_any not answers ≡ any → CountsOver answers before now → ¬ (Rose before now) → any ≡ false
by_rise before now answers false is counts stands = refl
by_rise before now answers true is counts stands = absurd (stands (let x = some_failed answers is in let y = counts.cause in let z : min (before + 1) (2 ^ 64 - 1) ≤ now = omega (arith, x, y) in z))

-- where a count of faults didn't rise, each of its device's calls was done
pub all_done : (before now : ℕ) (answers : List Bool) → CountsOver answers before now → ¬ (Rose before now) → list_any not answers ≡ false
all_done before now answers counts stands = by_rise before now answers (list_any not answers) refl counts stands
