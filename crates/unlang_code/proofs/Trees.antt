-- What statements mean, by what they are: a fact of each statement alone that blocks hand on.
use Rattle.std.proofs.Common.{◌≡◌, List, [], ◌∷◌, map, refl, sym, ap, ◌∙◌}
use Rattle.rad_words.specs.declared.sections.Section.{Section}
use Rattle.unlang_tree.specs.declared.update.Line.{Line}
use Rattle.rad_dict.specs.Definitions.{Definitions}
use Rattle.mod_base.specs.Meaning.{Meaning}
use Rattle.unlang_tree.specs.declared.statement.Arm.{Arm}
use Rattle.unlang_tree.specs.declared.statement.Call.{Call}
use Rattle.unlang_tree.specs.declared.statement.Group.{Group}
use Rattle.unlang_tree.specs.declared.statement.Statement.{Statement}
use Rattle.unlang_tree.specs.declared.statement.StatementKind.TheVariants as kinds
use Rattle.unlang_tree.specs.declared.statement.StatementKind.TheVariants.{rolls-Call, rolls-Group, rolls-Return, rolls-Update, rolls-If}
use Rattle.unlang_tree.specs.declared.statement.StatementKind.TheOpen.{StatementKind-F, Arm-F, Group-F, Statement-F}
use Rattle.unlang_tree.specs.declared.statement.StatementKind.TheOpen as level
use Rattle.unlang_tree.specs.declared.statement.StatementKind.TheFolds.{fold-Arm, fold_out-Arm, fold_out-Group, fold_out-Statement, fold-roll-StatementKind}
use Rattle.unlang_code.specs.Choosing.{Test}
use Rattle.unlang_code.specs.Run.{Piece, called, returned, updated, branched, group_done, arm_asked, if_done, kind_step, arm_step, group_step, statement_step, kind_done, statement_done}

module _ {M : Type 0} (meaning : Meaning M) (stack : List M) (dict : Definitions) (section : Section) where
  -- a statement means what its kind means
  pub by_kind : (one : Statement) → statement_done meaning stack dict section one ≡ kind_done meaning stack dict section one.kind
  by_kind one = fold_out-Statement Piece (Test × Piece) Piece Piece (kind_step meaning stack dict section) (arm_step dict section) (group_step section) statement_step one

  pub by_call : (call : Call) → kind_done meaning stack dict section (kinds.Call call) ≡ λ kind. called meaning stack dict section kind call
  by_call call =
      ap (kind_done meaning stack dict section) (sym (rolls-Call call))
      ∙ fold-roll-StatementKind Piece (Test × Piece) Piece Piece (kind_step meaning stack dict section) (arm_step dict section) (group_step section) statement_step (level.Call call)

  pub by_return : kind_done meaning stack dict section kinds.Return ≡ λ kind. returned
  by_return =
      ap (kind_done meaning stack dict section) (sym rolls-Return)
      ∙ fold-roll-StatementKind Piece (Test × Piece) Piece Piece (kind_step meaning stack dict section) (arm_step dict section) (group_step section) statement_step level.Return

  pub by_update : (lines : List Line) → kind_done meaning stack dict section (kinds.Update lines) ≡ λ kind. updated dict section kind lines
  by_update lines =
      ap (kind_done meaning stack dict section) (sym (rolls-Update lines))
      ∙ fold-roll-StatementKind Piece (Test × Piece) Piece Piece (kind_step meaning stack dict section) (arm_step dict section) (group_step section) statement_step (level.Update lines)

  pub by_group : (group : Group) → kind_done meaning stack dict section (kinds.Group group) ≡ group_done meaning stack dict section group
  by_group group =
      ap (kind_done meaning stack dict section) (sym (rolls-Group group))
      ∙ fold-roll-StatementKind Piece (Test × Piece) Piece Piece (kind_step meaning stack dict section) (arm_step dict section) (group_step section) statement_step (level.Group group)
      ∙ fold_out-Group Piece (Test × Piece) Piece Piece (kind_step meaning stack dict section) (arm_step dict section) (group_step section) statement_step group

  -- what an arm asks, and what its block means
  abbrev pub folded : Arm → Test × Piece
  folded = fold-Arm Piece (Test × Piece) Piece Piece (kind_step meaning stack dict section) (arm_step dict section) (group_step section) statement_step

  pub by_arm : (arm : Arm) → folded arm ≡ arm_asked meaning stack dict section arm
  by_arm arm = fold_out-Arm Piece (Test × Piece) Piece Piece (kind_step meaning stack dict section) (arm_step dict section) (group_step section) statement_step arm

  pub by_arms : (arms : List Arm) → map folded arms ≡ map (arm_asked meaning stack dict section) arms
  by_arms [] = refl
  by_arms (arm ∷ arms) = rw (by_arm arm, by_arms arms) refl

  pub by_if : (arms : List Arm) → kind_done meaning stack dict section (kinds.If arms) ≡ if_done meaning stack dict section arms
  by_if arms =
      ap (kind_done meaning stack dict section) (sym (rolls-If arms))
      ∙ fold-roll-StatementKind Piece (Test × Piece) Piece Piece (kind_step meaning stack dict section) (arm_step dict section) (group_step section) statement_step (level.If arms)
      ∙ ap branched (by_arms arms)
