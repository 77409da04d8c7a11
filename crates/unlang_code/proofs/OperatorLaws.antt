-- The laws of the operators of blocks.
use Rattle.std.specs.Prelude.{map, length, ◌≢◌}
use Rattle.std.specs.List.{list_any}
use Rattle.std.proofs.Common.{◌≡◌, ℕ, ◌+◌, ◌<◌, Bool, true, false, cond, List, [], ◌∷◌, ◌++◌, take, get_or, refl, sym, ap, ◌∙◌, arith}
use Rattle.std.proofs.lemmas.List.{append-nil, map-append, length-map, drop_more}
use Rattle.std.proofs.lemmas.Option.{slice_get-get_or}
use Rattle.std.proofs.Math.Nat.{mod-lt}
use Rattle.rad_words.specs.declared.codes.Code.{Code}
use Rattle.rad_words.specs.declared.codes.Code.TheVariants as code
use Rattle.rad_words.specs.declared.sections.Section.{Section}
use Rattle.rad_words.specs.declared.sections.Section.TheVariants as which
use Rattle.rad_tables.specs.declared.group_kind.GroupKind.{GroupKind}
use Rattle.rad_tables.specs.declared.group_kind.GroupKind.TheVariants.{Plain, Redundant}
use Rattle.rad_tables.specs.declared.action_table.Action.TheVariants as action
use Rattle.rad_tables.specs.DefaultActions.{row_of, default_action}
use Rattle.rad_dict.specs.Definitions.{Definitions}
use Rattle.mod_base.specs.Situation.{Situation}
use Rattle.mod_base.specs.Meaning.{Meaning}
use Rattle.unlang_tree.specs.declared.statement.GroupForm.TheVariants as form
use Rattle.unlang_tree.specs.declared.statement.Statement.{Statement}
use Rattle.unlang_code.specs.declared.judgement.Child.{Child}
use Rattle.unlang_code.specs.declared.progress.Signal.{Signal}
use Rattle.unlang_code.specs.declared.progress.Signal.TheVariants.{Goes, Returns}
use Rattle.unlang_code.specs.Judgement.{child_of, ends}
use Rattle.unlang_code.specs.Operators.{members_done, AnswersBehind, RunsOne}
use Rattle.unlang_code.specs.Run.{Piece, Outcome, goes, is_over, behind, and_then, block_of, picked, alone, chosen, statement_done}
use Rattle.unlang_code.proofs.Balancing.{ordered_mapped}

in_redundant : (section : Section) (answer : Code) → default_action section Redundant answer ≡ (row_of answer).redundant
in_redundant which.Authorize answer = refl
in_redundant which.Authenticate answer = refl
in_redundant which.Session answer = refl
in_redundant which.Preacct answer = refl
in_redundant which.Accounting answer = refl
in_redundant which.PostAuth answer = refl

returns_but_fail : (answer : Code) → answer ≢ code.Fail → (row_of answer).redundant ≡ action.Return
returns_but_fail code.Reject other = refl
returns_but_fail code.Fail other = absurd (other refl)
returns_but_fail code.Ok other = refl
returns_but_fail code.Handled other = refl
returns_but_fail code.Invalid other = refl
returns_but_fail code.Userlock other = refl
returns_but_fail code.Notfound other = refl
returns_but_fail code.Noop other = refl
returns_but_fail code.Updated other = refl

returning_ends : (child : Child) → child.action ≡ action.Return → ends child ≡ true
returning_ends child is = rw (is, ends) refl

any_of_one : (child : Child) (children : List Child) → children ≡ child ∷ [] → ends child ≡ true → list_any ends children ≡ true
any_of_one child children is ended = ap (list_any ends) is ∙ rw ended refl

over_either_way : (t : Bool) (children : List Child) → list_any ends children ≡ true → cond t (list_any ends children) true ≡ true
over_either_way true children is = is
over_either_way false children is = refl

module _ (kind : GroupKind) (member : Piece) (later : List Piece) where
  by_over : (t : Bool) (first : Outcome) (before : List Piece) → is_over (member kind (and_then t first (block_of kind before)).situation) ≡ true
      → (is_over (member kind (block_of kind before first.situation).situation) ≡ true → block_of kind (before ++ member ∷ later) first.situation ≡ block_of kind (before ++ member ∷ []) first.situation)
      → and_then t first (block_of kind (before ++ member ∷ later)) ≡ and_then t first (block_of kind (before ++ member ∷ []))
  by_over true first before over more = refl
  by_over false first before over more = ap (behind first.children) (more over)

  -- nothing runs behind a member behind which the group is over
  last_runs : (before : List Piece) (s : Situation) → is_over (member kind (block_of kind before s).situation) ≡ true → block_of kind (before ++ member ∷ later) s ≡ block_of kind (before ++ member ∷ []) s
  last_runs [] s over =
      ap (λ t. and_then t (member kind s) (block_of kind later)) over ∙ sym (ap (λ t. and_then t (member kind s) (block_of kind [])) over)
  last_runs (piece ∷ before) s over =
      by_over (is_over (piece kind s)) (piece kind s) before over (λ there. last_runs before (piece kind s).situation there)

by_signal : (s : Situation) (signal : Signal) (children : List Child) → let made : List Child → Signal → Outcome = λ all sig. record { situation = s; signal = sig; children = all } in
    is_over (made children signal) ≡ false → made (children ++ []) Goes ≡ made children signal
by_signal s Goes children is_open = ap (λ (all : List Child). let made : Outcome = record { situation = s; signal = Goes; children = all } in made) (append-nil children)
by_signal s Returns children is_open = absurd (cc)

by_open : (t : Bool) (kind : GroupKind) (first : Outcome) → is_over first ≡ t → and_then t first (block_of kind []) ≡ first
by_open true kind first is = refl
by_open false kind first is = by_signal first.situation first.signal first.children is

-- a block of one member does what the member does
one_runs : (kind : GroupKind) (piece : Piece) (s : Situation) → block_of kind (piece ∷ []) s ≡ piece kind s
one_runs kind piece s = by_open (is_over (piece kind s)) kind (piece kind s) refl

alone_is : (members : List Statement) (n : ℕ) (d : Statement) → n < length members → alone n members ≡ get_or members n d ∷ []
alone_is members n d lt = ap (take 1) (drop_more members n d lt)

module _ {M : Type 0} (meaning : Meaning M) (stack : List M) (dict : Definitions) (section : Section) where
  abbrev done_at : Statement → Piece
  done_at = statement_done meaning stack dict section

  pub success_is_last : (before : List Statement) (member : Statement) (later : List Statement) (s : Situation) (answer : Code) → answer ≢ code.Fail → AnswersBehind meaning stack dict section before member s answer
      → members_done meaning stack dict section form.Redundant (before ++ member ∷ later) s ≡ members_done meaning stack dict section form.Redundant (before ++ member ∷ []) s
  success_is_last before member later s answer other is =
      let front = map done_at before in
      let outcome = done_at member Redundant (block_of Redundant front s).situation in
      let child = child_of section Redundant [] answer in
      let ended = returning_ends child (in_redundant section answer ∙ returns_but_fail answer other) in
      let over = over_either_way (goes outcome.signal) outcome.children (any_of_one child outcome.children is ended) in
      ap (λ (pieces : List Piece). block_of Redundant pieces s) (map-append done_at before (member ∷ later))
      ∙ last_runs Redundant (done_at member) (map done_at later) front s over
      ∙ sym (ap (λ (pieces : List Piece). block_of Redundant pieces s) (map-append done_at before (member ∷ [])))

  pub one_of_them_runs : (first : Statement) (others : List Statement) (s : Situation) → RunsOne meaning stack dict section (first ∷ others) s
  one_of_them_runs first others s =
      let all = first ∷ others in
      let n = picked s.scope (length all) in
      let within : n < length all = mod-lt (s.scope.luck + s.scope.choices) (omega arith) in
      let member = get_or all n first in
      let counted = ap (picked s.scope) (length-map all done_at) in
      let picks : alone n (map done_at all) ≡ done_at member ∷ [] = sym (ordered_mapped done_at Plain n all) ∙ ap (map done_at) (alone_is all n first within) in (
        member,
        slice_get-get_or all n first within,
        ap (λ k. chosen (block_of Plain (alone k (map done_at all)) s)) counted
            ∙ ap (λ (pieces : List Piece). chosen (block_of Plain pieces s)) picks
            ∙ ap chosen (one_runs Plain (done_at member) s),
      )
