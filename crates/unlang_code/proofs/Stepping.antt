-- Statements are run one by one, behind the heaviest child so far.
use Rattle.std.proofs.lemmas.List.{drop_more, drop_all}
use Rattle.std.proofs.Common.{◌≡◌, ℕ, ◌+◌, ◌<◌, ◌≤◌, List, [], ◌∷◌, length, drop, get_or, Option, refl, sym, ap, ◌∙◌}
use Rattle.rad_words.specs.declared.sections.Section.{Section}
use Rattle.rad_tables.specs.declared.group_kind.GroupKind.{GroupKind}
use Rattle.rad_value.specs.declared.scope.Scope.{Scope}
use Rattle.rad_outside.specs.Moments.{IsInTime}
use Rattle.rad_dict.specs.Definitions.{Definitions}
use Rattle.rad_world.specs.World.{WorldState}
use Rattle.mod_base.specs.Situation.{Situation}
use Rattle.mod_base.specs.Meaning.{Meaning, IsLawful}
use Rattle.mod_base.specs.Reaching.{Reaches, Stops}
use Rattle.mod_base.proofs.Reached.{reaches_joined, reaches_then, reaches_as, stops_joined, stops_then}
use Rattle.unlang_tree.specs.declared.statement.Statement.{Statement}
use Rattle.unlang_code.specs.declared.judgement.Child.{Child}
use Rattle.unlang_code.specs.declared.progress.Done.{Done}
use Rattle.unlang_code.specs.declared.progress.Ended.{Ended}
use Rattle.unlang_code.specs.declared.progress.Progress.{Progress}
use Rattle.unlang_code.specs.declared.progress.Progress.TheVariants.{Going, Over}
use Rattle.unlang_code.specs.Progress.{absorbed}
use Rattle.unlang_code.specs.Progressing.{come_to, done_in, progressed}
use Rattle.unlang_code.specs.Run.{statement_done, run_of}
use Rattle.unlang_code.proofs.Pieces.{onward, absorbed_is, piece_then}
use Rattle.unlang_code.proofs.Leaving.{rest_leads}
use Rattle.unlang_code.proofs.Running.{Grows, lasts, run_grows}

-- what is still to run begins with this statement
pub from_here : (all : List Statement) (i : ℕ) (statement : Statement) → i < length all → statement ≡ get_or all i statement → drop i all ≡ statement ∷ drop (i + 1) all
from_here all i statement lt is = drop_more all i statement lt ∙ ap (λ s. s ∷ drop (i + 1) all) (sym is)

module _ {M : Type 0} (meaning : Meaning M) (stack : List M) (dict : Definitions) (section : Section) (kind : GroupKind) where
  -- what is left of a group: these statements, behind the heaviest child so far
  abbrev pub left : Option Child → List Statement → Situation → Situation × Progress
  left leading statements s = come_to leading (run_of meaning stack dict section kind statements s)

  -- the run stands before these statements
  pub record Stands (before : Option Child) (all : List Statement) (scope0 : Scope) (world0 : WorldState) (leading : Option Child) (others : List Statement) (scope : Scope) (world : WorldState) : Type 0 where
    pub reached : Reaches scope0 world0 (left before all) scope world (left leading others)
    pub in_time : IsInTime scope.moment

  -- behind a statement
  one_done : (leading : Option Child) (statement : Statement) (others : List Statement) (done : Done) (s0 s1 : Scope) (w0 w1 : WorldState)
      → Reaches s0 w0 (statement_done meaning stack dict section statement kind) s1 w1 (done_in done)
      → Reaches s0 w0 (left leading (statement ∷ others)) s1 w1 (λ s. onward (s, absorbed leading done) (λ l t. left l others t))
  one_done leading statement others done s0 s1 w0 w1 reached =
      let more : Option Child → Situation → Situation × Progress = λ l t. left l others t in
      reaches_as s0 s1 w0 w1 (λ s. onward (come_to leading (statement_done meaning stack dict section statement kind s)) more) (λ s. onward (come_to leading (done_in done s)) more)
      (left leading (statement ∷ others)) (λ s. onward (s, absorbed leading done) more)
      (λ s. piece_then (run_of meaning stack dict section kind others) leading (statement_done meaning stack dict section statement kind s))
      (λ s. ap (λ (p : Progress). onward (s, p) more) (absorbed_is leading done.signal done.child))
      (reaches_then s0 s1 w0 w1 (statement_done meaning stack dict section statement kind) (done_in done) (λ o. onward (come_to leading o) more) reached)

  module _ (before : Option Child) (all : List Statement) (scope0 : Scope) (world0 : WorldState) (leading : Option Child) (statement : Statement) (others : List Statement) (s0 s1 : Scope) (w0 w1 : WorldState)
      (so_far : Reaches scope0 world0 (left before all) s0 w0 (left leading (statement ∷ others))) where
    pub goes_on_here : (done : Done) (next : Option Child) → Reaches s0 w0 (statement_done meaning stack dict section statement kind) s1 w1 (done_in done) → absorbed leading done ≡ Going next
        → Reaches scope0 world0 (left before all) s1 w1 (left next others)
    goes_on_here done next reached is =
        let more : Option Child → Situation → Situation × Progress = λ l t. left l others t in
        reaches_joined scope0 s0 s1 world0 w0 w1 (left before all) (left leading (statement ∷ others)) (left next others) so_far
        (reaches_as s0 s1 w0 w1 (left leading (statement ∷ others)) (λ s. onward (s, absorbed leading done) more) (left leading (statement ∷ others)) (left next others)
        (λ s. refl) (λ s. ap (λ (p : Progress). onward (s, p) more) is) (one_done leading statement others done s0 s1 w0 w1 reached))

    pub ends_here : (done : Done) (e : Ended) → Reaches s0 w0 (statement_done meaning stack dict section statement kind) s1 w1 (done_in done) → absorbed leading done ≡ Over e
        → Reaches scope0 world0 (left before all) s1 w1 (λ s. (s, Over e))
    ends_here done e reached is =
        let more : Option Child → Situation → Situation × Progress = λ l t. left l others t in
        reaches_joined scope0 s0 s1 world0 w0 w1 (left before all) (left leading (statement ∷ others)) (λ s. (s, Over e)) so_far
        (reaches_as s0 s1 w0 w1 (left leading (statement ∷ others)) (λ s. onward (s, absorbed leading done) more) (left leading (statement ∷ others)) (λ s. (s, Over e))
        (λ s. refl) (λ s. ap (λ (p : Progress). onward (s, p) more) is) (one_done leading statement others done s0 s1 w0 w1 reached))

    pub stops_here : ((m : M) (d : Definitions) (method : Section) (s : Situation) → IsLawful (meaning.edits m) method s (meaning.does m d method s).0)
        → Stops s0 w0 (λ s. (statement_done meaning stack dict section statement kind s).situation.effects) w1
        → Stops scope0 world0 (λ s. (run_of meaning stack dict section kind all s).situation.effects) w1
    stops_here lawful stopped =
        stops_joined scope0 s0 world0 w0 w1 (λ s. (run_of meaning stack dict section kind all s).situation.effects) (λ s. (run_of meaning stack dict section kind (statement ∷ others) s).situation.effects)
        (reaches_then scope0 s0 world0 w0 (left before all) (left leading (statement ∷ others)) (λ (d : Situation × Progress). d.0.effects) so_far)
        (stops_then s0 w0 w1 (λ s. (statement_done meaning stack dict section statement kind s).situation.effects) (λ s. (run_of meaning stack dict section kind (statement ∷ others) s).situation.effects)
        (λ s. let first = statement_done meaning stack dict section statement kind s in
        rest_leads Grows lasts first (run_of meaning stack dict section kind others) (run_grows meaning lawful stack dict section kind others first.situation))
        stopped)

  -- where no statement is left, the group goes on with the heaviest child so far
  none_left : (leading : Option Child) (s : Situation) → left leading [] s ≡ (s, Going leading)
  unfolding progressed
  none_left leading s = refl

  pub ends_behind : (before : Option Child) (all : List Statement) (i : ℕ) (scope0 scope : Scope) (world0 world : WorldState) (leading : Option Child) → length all ≤ i
      → Reaches scope0 world0 (left before all) scope world (left leading (drop i all)) → Reaches scope0 world0 (left before all) scope world (λ s. (s, Going leading))
  ends_behind before all i scope0 scope world0 world leading past so_far =
      reaches_as scope0 scope world0 world (left before all) (left leading (drop i all)) (left before all) (λ s. (s, Going leading)) (λ s. refl)
      (λ s. ap (λ (rest : List Statement). left leading rest s) (drop_all i all past) ∙ none_left leading s) so_far
