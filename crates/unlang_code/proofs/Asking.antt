-- What the conditions of an `if` leave of a scope: they set its captures alone.
use Rattle.std.specs.List.{AllByRecursion}
use Rattle.std.proofs.Common.{◌≡◌, ℕ, Bool, true, false, cond, List, [], ◌∷◌, map, Option, Some, None, refl, sym, ap, subst, ◌∙◌}
use Rattle.rad_outside.specs.Moments.{IsInTime}
use Rattle.rad_value.specs.declared.scope.Scope.{Scope}
use Rattle.rad_dict.specs.Definitions.{Definitions}
use Rattle.unlang_cond.specs.declared.atom.Atom.{Atom}
use Rattle.unlang_cond.specs.declared.atom.Atom.TheVariants as atom
use Rattle.unlang_cond.specs.Looks.{looked_for}
use Rattle.unlang_cond.specs.Tests.{side_text, with_captures, after_look, look_in, test, OnlyCaptures}
use Rattle.unlang_cond.specs.Trees.{Tree, Always, Leaf, Not, And, Or, holds}
use Rattle.unlang_tree.specs.declared.statement.Arm.{Arm, out-Arm}
use Rattle.unlang_code.specs.Choosing.{Test, asks, met_or, first_met, asking, taken_of}

pub captures_twice : (a b c : Scope) → OnlyCaptures a b → OnlyCaptures b c → OnlyCaptures a c
captures_twice a b c first second = second ∙ ap (λ (x : Scope). with_captures x c.captures) first

look_captures : (negative : Bool) (found : Option (List (Option (List ℕ)))) (scope : Scope) → OnlyCaptures scope (after_look negative found scope).1
look_captures negative None scope = refl
look_captures negative (Some captures) scope = refl

looks_capture : (text : Option (List ℕ)) (negative : Bool) (pattern : List ℕ × Bool) (scope : Scope) → OnlyCaptures scope (look_in text negative pattern scope).1
looks_capture None negative pattern scope = refl
looks_capture (Some text) negative pattern scope = look_captures negative (looked_for pattern.0 pattern.1 text) scope

atom_captures : (a : Atom) (scope : Scope) (dict : Definitions) → OnlyCaptures scope (test a scope dict).1
atom_captures (atom.Constant constant) scope dict = refl
atom_captures (atom.Returned c) scope dict = refl
atom_captures (atom.Present s) scope dict = refl
atom_captures (atom.Values reference cmp o) scope dict = refl
atom_captures (atom.Texts left cmp right) scope dict = refl
atom_captures (atom.Look s negative pattern) scope dict = looks_capture (side_text s scope dict) negative (pattern.source, pattern.insensitive) scope

either : (t : Bool) (scope : Scope) (a b : Bool × Scope) → OnlyCaptures scope a.1 → OnlyCaptures scope b.1 → OnlyCaptures scope (cond t a b).1
either true scope a b first second = first
either false scope a b first second = second

-- a condition changes the captures of a scope alone
pub condition_captures : (t : Tree) (scope : Scope) (dict : Definitions) → OnlyCaptures scope (holds t scope dict).1
condition_captures Always scope dict = refl
condition_captures (Leaf a) scope dict = atom_captures a scope dict
condition_captures (Not t) scope dict = condition_captures t scope dict
condition_captures (And a b) scope dict =
    let first = condition_captures a scope dict in
    let between = (holds a scope dict).1 in
    either (holds a scope dict).0 scope (holds b between dict) (false, between) (captures_twice scope between (holds b between dict).1 first (condition_captures b between dict)) first
condition_captures (Or a b) scope dict =
    let first = condition_captures a scope dict in
    let between = (holds a scope dict).1 in
    either (holds a scope dict).0 scope (true, between) (holds b between dict) first (captures_twice scope between (holds b between dict).1 first (condition_captures b between dict))

pub question_captures : (dict : Definitions) (condition : Option Tree) (scope : Scope) → OnlyCaptures scope (asks dict condition scope).1
question_captures dict None scope = refl
question_captures dict (Some condition) scope = condition_captures condition scope dict

module _ {X : Type 0} (dict : Definitions) (of_arm : Arm → X) where
  abbrev pub asked : Arm → Test × X
  asked arm = (asks dict (out-Arm arm).condition, of_arm arm)

  behind_question : (arm : X) (others : Scope → Option X × Scope) (scope : Scope) (answer : Bool × Scope) → OnlyCaptures scope answer.1 → ((between : Scope) → OnlyCaptures between (others between).1)
      → OnlyCaptures scope (met_or arm others answer).1
  behind_question arm others scope (true, between) first more = first
  behind_question arm others scope (false, between) first more = captures_twice scope between (others between).1 first (more between)

  -- so do the questions of arms, up to the arm that is taken
  pub met_captures : (arms : List Arm) (scope : Scope) → OnlyCaptures scope (first_met (map asked arms) scope).1
  met_captures [] scope = refl
  met_captures (arm ∷ arms) scope =
      behind_question (of_arm arm) (first_met (map asked arms)) scope (asks dict (out-Arm arm).condition scope) (question_captures dict (out-Arm arm).condition scope) (met_captures arms)

  -- what the taken arm is, by the arm
  abbrev pub the_arm : Option Arm × Scope → Option X × Scope
  the_arm (None, scope) = (None, scope)
  the_arm (Some arm, scope) = (Some (of_arm arm), scope)

  met_by : (arm : Arm) (arms : List Arm) → ((scope : Scope) → first_met (map asked arms) scope ≡ the_arm (taken_of dict arms scope)) → (answer : Bool × Scope)
      → met_or (of_arm arm) (first_met (map asked arms)) answer ≡ the_arm (met_or arm (taken_of dict arms) answer)
  met_by arm arms same (true, scope) = refl
  met_by arm arms same (false, scope) = same scope

  pub met_is : (arms : List Arm) (scope : Scope) → first_met (map asked arms) scope ≡ the_arm (taken_of dict arms scope)
  met_is [] scope = refl
  met_is (arm ∷ arms) scope = met_by arm arms (met_is arms) (asks dict (out-Arm arm).condition scope)

-- the questions of these arms are still to be asked, in a scope of which the captures alone may have changed
pub record Stands (dict : Definitions) (before : Scope) (all left : List Arm) (now : Scope) : Type 0 where
  pub same : taken_of dict left now ≡ taken_of dict all before
  pub alone : OnlyCaptures before now
  pub in_time : IsInTime now.moment

pub captures_keep_time : (before now : Scope) → OnlyCaptures before now → IsInTime before.moment → IsInTime now.moment
captures_keep_time before now only in_time = subst (λ (scope : Scope). IsInTime scope.moment) (sym only) in_time

module _ (P : Arm → Type 0) where
  abbrev IsSo : Option Arm → Type 0
  IsSo None = Unit {0}
  IsSo (Some arm) = P arm

  taken_by : (dict : Definitions) (arm : Arm) (arms : List Arm) → P arm → ((scope : Scope) → IsSo (taken_of dict arms scope).0) → (answer : Bool × Scope) → IsSo (met_or arm (taken_of dict arms) answer).0
  taken_by dict arm arms here more (true, scope) = here
  taken_by dict arm arms here more (false, scope) = more scope

  each_taken : (dict : Definitions) (arms : List Arm) → AllByRecursion P arms → (scope : Scope) → IsSo (taken_of dict arms scope).0
  each_taken dict [] all scope = tt
  each_taken dict (arm ∷ arms) all scope = taken_by dict arm arms all.0 (each_taken dict arms all.1) (asks dict (out-Arm arm).condition scope)

  -- what is so of each arm is so of the one that is taken
  pub taken_is_so : (dict : Definitions) (arms : List Arm) (scope now : Scope) (arm : Arm) → AllByRecursion P arms → taken_of dict arms scope ≡ (Some arm, now) → P arm
  taken_is_so dict arms scope now arm all is = subst (λ (met : Option Arm × Scope). IsSo met.0) is (each_taken dict arms all scope)
