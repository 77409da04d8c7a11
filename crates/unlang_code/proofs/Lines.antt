-- Lines of updates are done one by one.
use Rattle.std.specs.Prelude.{get_or}
use Rattle.std.proofs.Common.{◌≡◌, ◌<◌, ◌+◌, ℕ, Bool, List, ◌∷◌, Option, Some, None, length, drop, sym, ap, ◌∙◌, refl}
use Rattle.std.proofs.lemmas.List.{drop_more}
use Rattle.rad_outside.specs.Moments.{IsInTime}
use Rattle.rad_value.specs.PairLists.{PairLists}
use Rattle.rad_value.specs.declared.scope.Scope.{Scope}
use Rattle.rad_value.specs.Edit.{tried}
use Rattle.rad_dict.specs.Definitions.{Definitions}
use Rattle.unlang_tree.specs.declared.update.Line.{Line}
use Rattle.unlang_code.specs.declared.update.Said.{Said}
use Rattle.unlang_code.specs.declared.update.Said.TheVariants as said
use Rattle.unlang_code.specs.Updates.{said_by, edit_of, tried_to, done_with, line_done, then_rest, lines_done, IsTriedTo, IsDoneWith, IsLineDone}

tried_is : (lists : Option PairLists) (before now : Scope) (done : Bool) → IsTriedTo lists before now done → tried_to lists before ≡ (now, done)
tried_is None before now done is = rw (is.0, is.1) refl
tried_is (Some lists) before now done is = rw (is.0, is.1) refl

done_is : (line : Line) (s : Said) (before now : Scope) (done : Bool) → IsDoneWith line s before now done → done_with line s before ≡ (now, done)
done_is line (said.Value v) before now done is = tried_is (tried before.lists (edit_of line v)) before now done is
done_is line said.Nothing before now done is = rw (is.0, is.1) refl
done_is line said.Unreadable before now done is = rw (is.0, is.1) refl

line_is : (dict : Definitions) (line : Line) (before now : Scope) (done : Bool) → IsLineDone dict line before now done → line_done dict line before ≡ (now, done)
line_is dict line before now done is = done_is line (said_by dict line.attr line.right before) before now done is

-- what is still to do of an update comes to the same, and the moment is one that there is
pub record Stands (dict : Definitions) (before : Scope) (all left : List Line) (now : Scope) : Type 0 where
  pub same : lines_done dict left now ≡ lines_done dict all before
  pub in_time : IsInTime now.moment

from_line : (all : List Line) (i : ℕ) (line : Line) → i < length all → line ≡ get_or all i line → drop i all ≡ line ∷ drop (i + 1) all
from_line all i line lt is = drop_more all i line lt ∙ ap (λ s. s ∷ drop (i + 1) all) (sym is)

-- a line that is done leaves the others
pub behind_line : (dict : Definitions) (before : Scope) (all : List Line) (i : ℕ) (line : Line) (scope now : Scope) (done : Bool) → i < length all → line ≡ get_or all i line
    → Stands dict before all (drop i all) scope → IsLineDone dict line scope now done → then_rest (lines_done dict (drop (i + 1) all)) done now ≡ lines_done dict all before
behind_line dict before all i line scope now done lt is stands step =
    ap (λ (d : Scope × Bool). then_rest (lines_done dict (drop (i + 1) all)) d.1 d.0) (sym (line_is dict line scope now done step))
    ∙ ap (λ (rest : List Line). lines_done dict rest scope) (sym (from_line all i line lt is))
    ∙ stands.same
