-- Lines of updates leave the lists to which they don't go.
use Rattle.std.specs.List.{list_any}
use Rattle.std.proofs.Common.{◌≡◌, Bool, true, false, List, [], ◌∷◌, Option, Some, None, refl, ap, ◌∙◌}
use Rattle.rad_value.specs.declared.edits.ListName.{ListName}
use Rattle.rad_value.specs.declared.edits.ListName.TheVariants.{Request, Reply, Control}
use Rattle.rad_value.specs.declared.values.Pair.{Pair}
use Rattle.rad_value.specs.declared.values.Value.{Value}
use Rattle.rad_value.specs.declared.scope.Scope.{Scope}
use Rattle.rad_value.specs.Edit.{tried, edited}
use Rattle.rad_value.specs.PairLists.{PairLists, list_of, with_list}
use Rattle.rad_dict.specs.Definitions.{Definitions}
use Rattle.unlang_tree.specs.declared.update.Line.{Line}
use Rattle.unlang_code.specs.declared.update.Said.{Said}
use Rattle.unlang_code.specs.declared.update.Said.TheVariants as said
use Rattle.unlang_code.specs.Updates.{said_by, edit_of, tried_to, done_with, line_done, then_rest, lines_done}
use Rattle.rad_value.specs.PairLists.{same_list}
use Rattle.unlang_code.specs.Frames.{goes_to}
use Rattle.unlang_code.proofs.FrameLaws.{none_of, tried_lists}

other_list : (lists : PairLists) (named list : ListName) (pairs : List Pair) → same_list named list ≡ false → list_of (with_list lists named pairs) list ≡ list_of lists list
other_list lists Request Request pairs other = absurd (cc)
other_list lists Request Reply pairs other = refl
other_list lists Request Control pairs other = refl
other_list lists Reply Request pairs other = refl
other_list lists Reply Reply pairs other = absurd (cc)
other_list lists Reply Control pairs other = refl
other_list lists Control Request pairs other = refl
other_list lists Control Reply pairs other = refl
other_list lists Control Control pairs other = absurd (cc)

tried_stays : (line : Line) (v : Value) (scope : Scope) (list : ListName) (lists : Option PairLists) → tried scope.lists (edit_of line v) ≡ lists → goes_to list line ≡ false
    → list_of (tried_to lists scope).0.lists list ≡ list_of scope.lists list
tried_stays line v scope list None is other = refl
tried_stays line v scope list (Some lists) is other =
    ap (λ (l : PairLists). list_of l list) (tried_lists scope.lists (edit_of line v) lists is)
    ∙ other_list scope.lists line.list list (edited (list_of scope.lists line.list) (edit_of line v)) other

said_stays : (line : Line) (s : Said) (scope : Scope) (list : ListName) → goes_to list line ≡ false → list_of (done_with line s scope).0.lists list ≡ list_of scope.lists list
said_stays line (said.Value v) scope list other = tried_stays line v scope list (tried scope.lists (edit_of line v)) refl other
said_stays line said.Nothing scope list other = refl
said_stays line said.Unreadable scope list other = refl

rest_stays : (rest : Scope → Scope × Bool) (b : Bool) (scope : Scope) (list : ListName) → list_of (rest scope).0.lists list ≡ list_of scope.lists list → list_of (then_rest rest b scope).0.lists list ≡ list_of scope.lists list
rest_stays rest true scope list stays = stays
rest_stays rest false scope list stays = refl

pub others_stay : (dict : Definitions) (lines : List Line) (scope : Scope) (list : ListName) → list_any (goes_to list) lines ≡ false
    → list_of (lines_done dict lines scope).0.lists list ≡ list_of scope.lists list
others_stay dict [] scope list other = refl
others_stay dict (line ∷ lines) scope list other =
    let each = none_of (goes_to list line) (list_any (goes_to list) lines) other in
    let first = line_done dict line scope in
    rest_stays (lines_done dict lines) first.1 first.0 list (others_stay dict lines first.0 list each.1)
    ∙ said_stays line (said_by dict line.attr line.right scope) scope list each.0
