-- Statements are run one by one.
use Rattle.std.specs.Prelude.{slice_get, OnErr, IfOk, Result, Ok, Err}
use Rattle.std.specs.List.{AllByRecursion}
use Rattle.std.proofs.Common.{◌≡◌, Bool, List, [], ◌∷◌, ◌++◌, Option, Some, None, sym, ap, subst, ◌∙◌, append_assoc}
use Rattle.std.proofs.lemmas.List.{append-nil}
use Rattle.rad_words.specs.declared.codes.Code.{Code}
use Rattle.rad_tables.specs.declared.group_kind.GroupKind.{GroupKind}
use Rattle.rad_words.specs.declared.sections.Section.{Section}
use Rattle.rad_value.specs.declared.scope.Scope.{Scope}
use Rattle.unlang_tree.specs.declared.update.Line.{Line}
use Rattle.rad_dict.specs.Definitions.{Definitions}
use Rattle.rad_world.specs.Effects.{Effect, answers_of}
use Rattle.rad_world.specs.World.{WorldState}
use Rattle.rad_world.proofs.Joining.{gains_nothing}
use Rattle.mod_base.specs.Situation.{Situation, situation_in}
use Rattle.mod_base.specs.Meaning.{Meaning, IsLawful}
use Rattle.mod_base.specs.Reaching.{Reaches, Stops}
use Rattle.mod_base.proofs.Reached.{stops_start}
use Rattle.unlang_tree.specs.declared.statement.Call.{Call}
use Rattle.unlang_tree.specs.declared.statement.Statement.{Statement}
use Rattle.unlang_code.specs.declared.judgement.Child.{Child}
use Rattle.unlang_code.specs.Run.{one_child, updated_with, updated, IsUpdate, called_of, called, run_of}
use Rattle.unlang_code.specs.Leaves.{Leaf, Calls, Edits, module_done, leaf_done, leaves_of}
use Rattle.unlang_code.proofs.Leaving.{IsLasting, LeafLeads, run_leads}

-- what holds beside an error
pub on_err : {T E P : Type 0} (result : Result T E) → P → OnErr result P
on_err (Ok value) p = tt
on_err (Err fault) p = p

-- what an error keeps, where there is one
pub if_err : {T E P Q : Type 0} (result : Result T E) → (P → Q) → OnErr result P → OnErr result Q
if_err (Ok value) more p = tt
if_err (Err fault) more p = more p

-- what a value keeps, where there is one
pub if_ok : {T E : Type 0} {P Q : T → Type 0} (result : Result T E) → ((value : T) → P value → Q value) → IfOk result P → IfOk result Q
if_ok (Ok value) more p = more value p
if_ok (Err fault) more p = tt

-- effects only grow from one situation to another
abbrev pub Grows : Situation → Situation → Type 0
Grows before now = (more : List Effect) × (now.effects ≡ before.effects ++ more)

grows_alone : (s : Situation) → Grows s s
grows_alone s = ([], sym (append-nil s.effects))

grows_joined : (a b c : Situation) → Grows a b → Grows b c → Grows a c
grows_joined a b c first second = (first.0 ++ second.0, second.1 ∙ ap (λ (effects : List Effect). effects ++ second.0) first.1 ∙ append_assoc a.effects first.0 second.0)

pub lasts : IsLasting Grows
lasts = record {
  alike = grows_alone;
  joined = grows_joined;
  noted = λ s t answer grows. grows;
  chose = λ s t grows. grows;
  captured = λ s scope only. grows_alone s;
}

-- a run that moves within its scope alone has made no effect
pub reaches_moved : {A : Type 0} (s0 s1 : Scope) (w : WorldState) (meaning left : Situation → A) → ((later : List Bool) (earlier : List Effect) → meaning (situation_in s0 w later earlier) ≡ left (situation_in s1 w later earlier)) → Reaches s0 w meaning s1 w left
reaches_moved s0 s1 w meaning left same = record {
  added = [];
  gains = gains_nothing w;
  same = λ later earlier. same later earlier ∙ ap (λ (effects : List Effect). left (situation_in s1 w later effects)) (sym (append-nil earlier));
}

-- an update is what it means
pub update_reaches : (dict : Definitions) (section : Section) (kind : GroupKind) (lines : List Line) (before now : Scope) (w : WorldState) (child : Child) → IsUpdate dict section kind lines before now child
    → Reaches before w (updated dict section kind lines) now w (one_child child)
update_reaches dict section kind lines before now w child done =
    reaches_moved before now w (updated dict section kind lines) (one_child child)
    (λ later earlier. ap (λ (d : Scope × Bool). updated_with section kind d (situation_in before w later earlier)) done.1 ∙ ap (λ (c : Child). one_child c (situation_in now w later earlier)) (sym done.2))

pub update_stops : (dict : Definitions) (section : Section) (kind : GroupKind) (lines : List Line) (before : Scope) (w : WorldState) → Stops before w (λ s. (updated dict section kind lines s).situation.effects) w
update_stops dict section kind lines before w = stops_start before w (λ s. (updated dict section kind lines s).situation.effects) (λ s. grows_alone s)

module _ {M : Type 0} (meaning : Meaning M) (lawful : (m : M) (dict : Definitions) (method : Section) (s : Situation) → IsLawful (meaning.edits m) method s (meaning.does m dict method s).0) where
  -- a module's call keeps the moment
  pub call_keeps_time : (m : M) (dict : Definitions) (kind : Section) (s0 s1 : Scope) (w0 w1 : WorldState) (answer : Code) → Reaches s0 w0 (meaning.does m dict kind) s1 w1 (λ s. (s, answer)) → s1.moment ≡ s0.moment
  call_keeps_time m dict kind s0 s1 w0 w1 answer reached =
      let s = situation_in s0 w0 (answers_of reached.added ++ []) [] in
      ap (λ (d : Situation × Code). d.0.scope.moment) (sym (reached.same [] [])) ∙ (lawful m dict kind s).scope.moment

  module_grows : (dict : Definitions) (section : Section) (m : Option M) (s : Situation) → Grows s (module_done meaning dict section m s)
  module_grows dict section None s = grows_alone s
  module_grows dict section (Some m) s = let law = lawful m dict section s in (law.added, law.makes.effects)

  leaf_grows : (stack : List M) (dict : Definitions) (section : Section) (leaf : Leaf) (s : Situation) → Grows s (leaf_done meaning stack dict section leaf s)
  leaf_grows stack dict section (Calls call) s = module_grows dict section (slice_get stack call.instance) s
  leaf_grows stack dict section (Edits line) s = grows_alone s

  pub leaves_grow : (stack : List M) (dict : Definitions) (section : Section) (leaves : List Leaf) → AllByRecursion (LeafLeads Grows lasts meaning stack dict section) leaves
  leaves_grow stack dict section [] = tt
  leaves_grow stack dict section (leaf ∷ leaves) = (leaf_grows stack dict section leaf, leaves_grow stack dict section leaves)

  -- effects only grow, from statement to statement
  pub run_grows : (stack : List M) (dict : Definitions) (section : Section) (kind : GroupKind) (statements : List Statement) (s : Situation) → Grows s (run_of meaning stack dict section kind statements s).situation
  run_grows stack dict section kind statements s = run_leads Grows lasts meaning stack dict section statements (leaves_grow stack dict section (leaves_of statements)) kind s

module _ {M : Type 0} (meaning : Meaning M) where
  -- where a module stopped, its call has
  pub call_stops : (stack : List M) (dict : Definitions) (section : Section) (kind : GroupKind) (call : Call) (m : M) (s0 : Scope) (w0 w1 : WorldState) → slice_get stack call.instance ≡ Some m
      → Stops s0 w0 (λ s. (meaning.does m dict section s).0.effects) w1 → Stops s0 w0 (λ s. (called meaning stack dict section kind call s).situation.effects) w1
  call_stops stack dict section kind call m s0 w0 w1 is stopped =
      let StopsAt : Option M → Type 0 = λ (o : Option M). Stops s0 w0 (λ s. (called_of meaning dict section kind call.overrides o s).situation.effects) w1 in
      subst StopsAt (sym is) stopped
