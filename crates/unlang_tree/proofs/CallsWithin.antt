-- The calls of a statement by its kind: those of a block are those of its statements.
use Rattle.std.proofs.Common.{◌≡◌, List, [], ◌∷◌, ◌++◌, map, refl, sym, ap, ◌∙◌}
use Rattle.unlang_tree.specs.declared.update.Line.{Line}
use Rattle.unlang_tree.specs.declared.statement.Arm.{Arm, out-Arm, roll-Arm, out-roll-Arm}
use Rattle.unlang_tree.specs.declared.statement.Call.{Call}
use Rattle.unlang_tree.specs.declared.statement.Group.{Group, out-Group, roll-Group, out-roll-Group}
use Rattle.unlang_tree.specs.declared.statement.GroupForm.{GroupForm}
use Rattle.unlang_tree.specs.declared.statement.Override.{Override}
use Rattle.unlang_tree.specs.declared.statement.Statement.{Statement}
use Rattle.unlang_cond.specs.Trees.{Tree}
use Rattle.std.specs.Prelude.{Option}
use Rattle.unlang_tree.specs.declared.statement.StatementKind.{StatementKind}
use Rattle.unlang_tree.specs.declared.statement.StatementKind.TheVariants as kinds
use Rattle.unlang_tree.specs.declared.statement.StatementKind.TheVariants.{rolls-Call, rolls-Group, rolls-Return, rolls-Update, rolls-If}
use Rattle.unlang_tree.specs.declared.statement.StatementKind.TheOpen.{StatementKind-F, Group-F, Arm-F}
use Rattle.unlang_tree.specs.declared.statement.StatementKind.TheOpen as level
use Rattle.unlang_tree.specs.declared.statement.StatementKind.TheFolds.{fold_out-Group, fold_out-Arm, fold_out-Statement, fold-Arm, fold-roll-StatementKind}
use Rattle.unlang_tree.specs.EachCall.{joined, kind_step, group_step, arm_step, statement_step, calls_in_kind, calls_in, calls_of}

-- a statement has the calls of its kind
pub calls_by_kind : (one : Statement) → calls_in one ≡ calls_in_kind one.kind
calls_by_kind one = fold_out-Statement (List Call) (List Call) (List Call) (List Call) kind_step arm_step group_step statement_step one

-- a call is its own call
pub calls_of_call : (call : Call) → calls_in_kind (kinds.Call call) ≡ call ∷ []
calls_of_call call =
    ap calls_in_kind (sym (rolls-Call call)) ∙ fold-roll-StatementKind (List Call) (List Call) (List Call) (List Call) kind_step arm_step group_step statement_step (level.Call call)

-- `return` and an update have none
pub calls_of_return : calls_in_kind kinds.Return ≡ []
calls_of_return =
    ap calls_in_kind (sym rolls-Return) ∙ fold-roll-StatementKind (List Call) (List Call) (List Call) (List Call) kind_step arm_step group_step statement_step level.Return

pub calls_of_update : (lines : List Line) → calls_in_kind (kinds.Update lines) ≡ []
calls_of_update lines =
    ap calls_in_kind (sym (rolls-Update lines)) ∙ fold-roll-StatementKind (List Call) (List Call) (List Call) (List Call) kind_step arm_step group_step statement_step (level.Update lines)

joined_calls : (statements : List Statement) → joined (map calls_in statements) ≡ calls_of statements
joined_calls [] = refl
joined_calls (one ∷ statements) = ap (λ (calls : List Call). calls_in one ++ calls) (joined_calls statements)

-- a block has the calls of its statements
pub calls_of_group : (group : Group) → calls_in_kind (kinds.Group group) ≡ calls_of (out-Group group).statements
calls_of_group group =
    ap calls_in_kind (sym (rolls-Group group)) ∙ fold-roll-StatementKind (List Call) (List Call) (List Call) (List Call) kind_step arm_step group_step statement_step (level.Group group)
    ∙ fold_out-Group (List Call) (List Call) (List Call) (List Call) kind_step arm_step group_step statement_step group ∙ joined_calls (out-Group group).statements

pub calls_of_made : (form : GroupForm) (overrides : List Override) (statements : List Statement)
    → calls_in_kind (kinds.Group (roll-Group (record { form = form; overrides = overrides; statements = statements }))) ≡ calls_of statements
calls_of_made form overrides statements =
    calls_of_group (roll-Group (record { form = form; overrides = overrides; statements = statements }))
    ∙ ap (λ (made : Group-F StatementKind Arm Group Statement). calls_of made.statements) (out-roll-Group (record { form = form; overrides = overrides; statements = statements }))

-- an arm has the calls of its statements
calls_of_arm : (arm : Arm) → fold-Arm (List Call) (List Call) (List Call) (List Call) kind_step arm_step group_step statement_step arm ≡ calls_of (out-Arm arm).statements
calls_of_arm arm =
    fold_out-Arm (List Call) (List Call) (List Call) (List Call) kind_step arm_step group_step statement_step arm ∙ joined_calls (out-Arm arm).statements

joined_arms : (arms : List Arm) → joined (map (fold-Arm (List Call) (List Call) (List Call) (List Call) kind_step arm_step group_step statement_step) arms) ≡ joined (map (λ (arm : Arm). calls_of (out-Arm arm).statements) arms)
joined_arms [] = refl
joined_arms (arm ∷ arms) = rw (calls_of_arm arm, joined_arms arms) refl

-- an `if` has the calls of its arms' statements
pub calls_of_if : (arms : List Arm) → calls_in_kind (kinds.If arms) ≡ joined (map (λ (arm : Arm). calls_of (out-Arm arm).statements) arms)
calls_of_if arms =
    ap calls_in_kind (sym (rolls-If arms)) ∙ fold-roll-StatementKind (List Call) (List Call) (List Call) (List Call) kind_step arm_step group_step statement_step (level.If arms)
    ∙ joined_arms arms

-- an `if` of one arm has the calls of that arm's statements
pub calls_of_one_arm : (condition : Option Tree) (statements : List Statement)
    → calls_in_kind (kinds.If (roll-Arm (record { condition = condition; statements = statements }) ∷ [])) ≡ calls_of statements ++ []
calls_of_one_arm condition statements =
    calls_of_if (roll-Arm (record { condition = condition; statements = statements }) ∷ [])
    ∙ ap (λ (made : Arm-F StatementKind Arm Group Statement). calls_of made.statements ++ []) (out-roll-Arm (record { condition = condition; statements = statements }))
