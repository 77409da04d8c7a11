-- Edits that are tried in order, up to the first whose list is full.
use Rattle.std.proofs.Common.{◌≡◌, Bool, false, cond, Option, Some, None, List, [], ◌∷◌, ◌++◌, refl, sym, ap, ◌∙◌}
use Rattle.std.specs.List.{cons_option}
use Rattle.rad_value.specs.declared.edits.Edit.{Edit}
use Rattle.rad_value.specs.declared.edits.ListName.{ListName}
use Rattle.rad_value.specs.PairLists.{PairLists}
use Rattle.rad_value.specs.Edit.{tried}
use Rattle.rad_pairs.specs.declared.items.Item.{Item}
use Rattle.mod_users.specs.Files.{edit_of, edits_of, all_tried}

-- The edits that follow those that came to this end.
abbrev then_tried : PairLists × Bool → List Edit → PairLists × Bool
then_tried end edits = cond end.1 (all_tried end.0 edits) (end.0, false)

all_tried-then : (xs ys : List Edit) (lists : PairLists) → all_tried lists (xs ++ ys) ≡ then_tried (all_tried lists xs) ys
all_tried-then [] ys lists = refl
all_tried-then (edit ∷ xs) ys lists =
    elim (tried lists edit) as (λ o. (elim o [ None ↦ (lists, false) | Some more ↦ all_tried more (xs ++ ys) ]) ≡ then_tried (elim o [ None ↦ (lists, false) | Some more ↦ all_tried more xs ]) ys) [
      | None ↦ refl
      | Some more ↦ all_tried-then xs ys more
    ]

-- Where the edits that come first are done, the others follow; where a list was full, they don't.
pub all_tried-append : (xs ys : List Edit) (lists new : PairLists) (done : Bool) → (new, done) ≡ all_tried lists xs → all_tried lists (xs ++ ys) ≡ cond done (all_tried new ys) (new, false)
all_tried-append xs ys lists new done e = all_tried-then xs ys lists ∙ ap (λ end. then_tried end ys) (sym e)

cons_one : (first : Option Edit) (ys : List Edit) → cons_option first ys ≡ cons_option first [] ++ ys
cons_one None ys = refl
cons_one (Some edit) ys = refl

-- The same of an item and those that follow it.
pub all_tried-cons : (list : ListName) (item : Item) (items : List Item) (lists new : PairLists) (done : Bool) → (new, done) ≡ all_tried lists (edits_of list (item ∷ []))
    → all_tried lists (edits_of list (item ∷ items)) ≡ cond done (all_tried new (edits_of list items)) (new, false)
all_tried-cons list item items lists new done e =
    ap (all_tried lists) (cons_one (edit_of list item) (edits_of list items)) ∙ all_tried-append (edits_of list (item ∷ [])) (edits_of list items) lists new done e
