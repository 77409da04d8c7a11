-- A fact of pieces that calls, updates, `return`, blocks and the arms of an `if` hand on holds of every statement whose leaves are as they ask.
use Rattle.std.specs.Prelude.{map}
use Rattle.std.specs.List.{AllByRecursion}
use Rattle.std.proofs.Common.{◌≡◌, List, [], ◌∷◌, ◌++◌, refl, sym, ap, subst, ◌∙◌}
use Rattle.rad_words.specs.declared.sections.Section.{Section}
use Rattle.rad_dict.specs.Definitions.{Definitions}
use Rattle.mod_base.specs.Meaning.{Meaning}
use Rattle.unlang_tree.specs.declared.update.Line.{Line}
use Rattle.unlang_tree.specs.declared.statement.Arm.{Arm, out-Arm, roll-Arm, out-roll-Arm}
use Rattle.unlang_tree.specs.declared.statement.Call.{Call}
use Rattle.unlang_tree.specs.declared.statement.Group.{Group, out-Group, roll-Group, out-roll-Group}
use Rattle.unlang_tree.specs.declared.statement.GroupForm.{GroupForm}
use Rattle.unlang_tree.specs.declared.statement.Override.{Override}
use Rattle.unlang_tree.specs.declared.statement.Statement.{Statement}
use Rattle.unlang_tree.specs.declared.statement.StatementKind.{StatementKind, roll-StatementKind}
use Rattle.unlang_tree.specs.declared.statement.StatementKind.TheOpen.{StatementKind-F, Arm-F, Group-F, Statement-F}
use Rattle.unlang_tree.specs.declared.statement.StatementKind.TheOpen as level
use Rattle.unlang_tree.specs.declared.statement.StatementKind.TheFolds.{map-StatementKind, fold-Arm, fold_out-Arm, fold_out-Group, fold-roll-StatementKind, fold-roll-Statement, ind-Statement}
use Rattle.unlang_code.specs.Choosing.{Test}
use Rattle.unlang_code.specs.Run.{kind_step, arm_step, group_step, statement_step, Piece, called, returned, updated, formed, grouped, branched, arm_block, arm_done, arm_asked, if_done, group_done, statement_done, kind_done}
use Rattle.unlang_code.specs.Leaves.{Leaf, Calls, Edits, leaves_in, leaves_at, leaves_of, kind_leaves, arm_leaves, group_leaves, statement_leaves, joined}
use Rattle.unlang_code.proofs.Trees.{by_arms}

pub record IsHandedOn {M : Type 0} (meaning : Meaning M) (stack : List M) (dict : Definitions) (section : Section) (Asked : Leaf → Type 0) (Holds : Piece → Type 0) : Type 0 where
  pub calls : (call : Call) → Asked (Calls call) → Holds (λ kind. called meaning stack dict section kind call)
  pub returns : Holds (λ kind. returned)
  pub updates : (lines : List Line) → AllByRecursion Asked (map Edits lines) → Holds (λ kind. updated dict section kind lines)
  pub arms : (pieces : List Piece) → AllByRecursion Holds pieces → Holds (arm_block section pieces)
  pub ifs : (arms : List Arm) → AllByRecursion (λ (arm : Test × Piece). Holds arm.1) (map (arm_asked meaning stack dict section) arms) → Holds (if_done meaning stack dict section arms)
  pub blocks : (shape : GroupForm) (overrides : List Override) (pieces : List Piece) → AllByRecursion Holds pieces → Holds (λ kind s. grouped section kind overrides (formed shape pieces s))

module _ {M : Type 0} (meaning : Meaning M) (stack : List M) (dict : Definitions) (section : Section) (Asked : Leaf → Type 0) (Holds : Piece → Type 0)
    (on : IsHandedOn meaning stack dict section Asked Holds) where
  both_parts : (xs ys : List Leaf) → AllByRecursion Asked (xs ++ ys) → AllByRecursion Asked xs × AllByRecursion Asked ys
  both_parts [] ys all = (tt, all)
  both_parts (x ∷ xs) ys all = let more = both_parts xs ys all.1 in ((all.0, more.0), more.1)

  abbrev done_at : Statement → Piece
  done_at = statement_done meaning stack dict section

  joined_is : (statements : List Statement) → joined (map leaves_at statements) ≡ leaves_of statements
  joined_is [] = refl
  joined_is (one ∷ statements) = ap (λ (leaves : List Leaf). leaves_at one ++ leaves) (joined_is statements)

  abbrev IsHeld : Statement → Type 0
  IsHeld one = AllByRecursion Asked (leaves_at one) → Holds (statement_done meaning stack dict section one)

  abbrev IsKindHeld : StatementKind → Type 0
  IsKindHeld what = AllByRecursion Asked (leaves_in what) → Holds (kind_done meaning stack dict section what)

  abbrev IsArmHeld : Arm → Type 0
  IsArmHeld arm = AllByRecursion Asked (leaves_of (out-Arm arm).statements) → Holds (arm_done meaning stack dict section arm)

  abbrev IsGroupHeld : Group → Type 0
  IsGroupHeld group = AllByRecursion Asked (leaves_of (out-Group group).statements) → Holds (group_done meaning stack dict section group)

  all_held : (statements : List ((one : Statement) × IsHeld one)) → AllByRecursion Asked (leaves_of (map (λ e. e.0) statements)) → AllByRecursion Holds (map (statement_done meaning stack dict section) (map (λ e. e.0) statements))
  all_held [] all = tt
  all_held (e ∷ statements) all =
      let parts = both_parts (leaves_at e.0) (leaves_of (map (λ e. e.0) statements)) all in
      (e.1 parts.0, all_held statements parts.1)

  -- the leaves of an arm
  arm_leaves_are : (arm : Arm) → fold-Arm (List Leaf) (List Leaf) (List Leaf) (List Leaf) kind_leaves arm_leaves group_leaves statement_leaves arm ≡ leaves_of (out-Arm arm).statements
  arm_leaves_are arm = fold_out-Arm (List Leaf) (List Leaf) (List Leaf) (List Leaf) kind_leaves arm_leaves group_leaves statement_leaves arm ∙ joined_is (out-Arm arm).statements

  arms_held : (arms : List ((arm : Arm) × IsArmHeld arm)) → AllByRecursion Asked (joined (map (fold-Arm (List Leaf) (List Leaf) (List Leaf) (List Leaf) kind_leaves arm_leaves group_leaves statement_leaves) (map (λ e. e.0) arms)))
      → AllByRecursion (λ (arm : Test × Piece). Holds arm.1) (map (arm_asked meaning stack dict section) (map (λ e. e.0) arms))
  arms_held [] all = tt
  arms_held (e ∷ arms) all =
      let leaves = fold-Arm (List Leaf) (List Leaf) (List Leaf) (List Leaf) kind_leaves arm_leaves group_leaves statement_leaves in
      let parts = both_parts (leaves e.0) (joined (map leaves (map (λ d. d.0) arms))) all in
      (e.1 (subst (AllByRecursion Asked) (arm_leaves_are e.0) parts.0), arms_held arms parts.1)

  kind_held : (y : StatementKind-F ((what : StatementKind) × IsKindHeld what) ((arm : Arm) × IsArmHeld arm) ((group : Group) × IsGroupHeld group) ((one : Statement) × IsHeld one))
      → IsKindHeld (roll-StatementKind (map-StatementKind _ _ _ _ _ _ _ _ (λ e. e.0) (λ e. e.0) (λ e. e.0) (λ e. e.0) y))
  kind_held (level.Call call) each =
      subst Holds (sym (fold-roll-StatementKind Piece (Test × Piece) Piece Piece (kind_step meaning stack dict section) (arm_step dict section) (group_step section) statement_step (level.Call call))) (on.calls call (subst (AllByRecursion Asked) (fold-roll-StatementKind (List Leaf) (List Leaf) (List Leaf) (List Leaf) kind_leaves arm_leaves group_leaves statement_leaves (level.Call call)) each).0)
  kind_held (level.Group group) each =
      subst Holds (sym (fold-roll-StatementKind Piece (Test × Piece) Piece Piece (kind_step meaning stack dict section) (arm_step dict section) (group_step section) statement_step (level.Group group.0) ∙ fold_out-Group Piece (Test × Piece) Piece Piece (kind_step meaning stack dict section) (arm_step dict section) (group_step section) statement_step group.0)) (group.1 (subst (AllByRecursion Asked) (fold-roll-StatementKind (List Leaf) (List Leaf) (List Leaf) (List Leaf) kind_leaves arm_leaves group_leaves statement_leaves (level.Group group.0) ∙ fold_out-Group (List Leaf) (List Leaf) (List Leaf) (List Leaf) kind_leaves arm_leaves group_leaves statement_leaves group.0 ∙ joined_is (out-Group group.0).statements) each))
  kind_held level.Return each = subst Holds (sym (fold-roll-StatementKind Piece (Test × Piece) Piece Piece (kind_step meaning stack dict section) (arm_step dict section) (group_step section) statement_step level.Return)) on.returns
  kind_held (level.Update lines) each =
      subst Holds (sym (fold-roll-StatementKind Piece (Test × Piece) Piece Piece (kind_step meaning stack dict section) (arm_step dict section) (group_step section) statement_step (level.Update lines))) (on.updates lines (subst (AllByRecursion Asked) (fold-roll-StatementKind (List Leaf) (List Leaf) (List Leaf) (List Leaf) kind_leaves arm_leaves group_leaves statement_leaves (level.Update lines)) each))
  kind_held (level.If arms) each =
      let plain = map (λ e. e.0) arms in
      subst Holds (sym (fold-roll-StatementKind Piece (Test × Piece) Piece Piece (kind_step meaning stack dict section) (arm_step dict section) (group_step section) statement_step (level.If plain) ∙ ap branched (by_arms meaning stack dict section plain)))
      (on.ifs plain (arms_held arms (subst (AllByRecursion Asked) (fold-roll-StatementKind (List Leaf) (List Leaf) (List Leaf) (List Leaf) kind_leaves arm_leaves group_leaves statement_leaves (level.If plain)) each)))

  arm_held : (x : Arm-F StatementKind Arm Group Statement) (y : Arm-F ((what : StatementKind) × IsKindHeld what) ((arm : Arm) × IsArmHeld arm) ((group : Group) × IsGroupHeld group) ((one : Statement) × IsHeld one))
      → map (λ e. e.0) y.statements ≡ x.statements → IsArmHeld (roll-Arm x)
  arm_held x y is each =
      let rolled = out-roll-Arm x in
      let held : AllByRecursion Holds (map done_at x.statements) =
      subst (λ statements. AllByRecursion Asked (leaves_of statements) → AllByRecursion Holds (map done_at statements)) is (all_held y.statements)
      (subst (λ (made : Arm-F StatementKind Arm Group Statement). AllByRecursion Asked (leaves_of made.statements)) rolled each) in
      subst (λ (made : Arm-F StatementKind Arm Group Statement). Holds (arm_block section (map done_at made.statements))) (sym rolled)
      (on.arms (map done_at x.statements) held)

  group_held : (x : Group-F StatementKind Arm Group Statement) (y : Group-F ((what : StatementKind) × IsKindHeld what) ((arm : Arm) × IsArmHeld arm) ((group : Group) × IsGroupHeld group) ((one : Statement) × IsHeld one))
      → map (λ e. e.0) y.statements ≡ x.statements → IsGroupHeld (roll-Group x)
  group_held x y is each =
      let rolled = out-roll-Group x in
      let held : AllByRecursion Holds (map done_at x.statements) =
      subst (λ statements. AllByRecursion Asked (leaves_of statements) → AllByRecursion Holds (map done_at statements)) is (all_held y.statements)
      (subst (λ (made : Group-F StatementKind Arm Group Statement). AllByRecursion Asked (leaves_of made.statements)) rolled each) in
      subst (λ (made : Group-F StatementKind Arm Group Statement). Holds (λ kind s. grouped section kind made.overrides (formed made.form (map done_at made.statements) s))) (sym rolled)
      (on.blocks x.form x.overrides (map done_at x.statements) held)

  pub statement_held : (one : Statement) → IsHeld one
  statement_held = ind-Statement IsKindHeld IsArmHeld IsGroupHeld IsHeld
      (λ x y is. subst (λ z. IsKindHeld (roll-StatementKind z)) is (kind_held y))
      (λ x y is. arm_held x y (ap (λ z. z.statements) is))
      (λ x y is. group_held x y (ap (λ z. z.statements) is))
      (λ x y is each. subst Holds (sym (fold-roll-Statement Piece (Test × Piece) Piece Piece (kind_step meaning stack dict section) (arm_step dict section) (group_step section) statement_step x))
      (subst IsKindHeld (ap (λ z. z.kind) is) y.kind.1 (subst (AllByRecursion Asked) (fold-roll-Statement (List Leaf) (List Leaf) (List Leaf) (List Leaf) kind_leaves arm_leaves group_leaves statement_leaves x) each)))

  pub each_held : (statements : List Statement) → AllByRecursion Asked (leaves_of statements) → AllByRecursion Holds (map done_at statements)
  each_held [] all = tt
  each_held (one ∷ statements) all =
      let parts = both_parts (leaves_at one) (leaves_of statements) all in
      (statement_held one parts.0, each_held statements parts.1)
