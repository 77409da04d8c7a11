-- What edits of lists keep: the values of other attributes, and whatever an edit that was made keeps.
use Rattle.std.specs.Prelude.{map, filter, not}
use Rattle.std.proofs.Common.{◌≡◌, Bool, true, false, List, Option, Some, None, refl, sym, ap, subst, ◌∙◌}
use Rattle.rad_words.specs.declared.attributes.AttrId.{AttrId}
use Rattle.rad_words.specs.Attribute.{same_attr}
use Rattle.rad_value.specs.declared.edits.Edit.{Edit}
use Rattle.rad_value.specs.declared.edits.EditOp.{EditOp}
use Rattle.rad_value.specs.declared.values.Pair.{Pair}
use Rattle.rad_value.specs.declared.values.Value.{Value}
use Rattle.rad_value.specs.declared.scope.Scope.{Scope}
use Rattle.rad_value.specs.Edit.{edited_by, tried, lists_edited}
use Rattle.rad_value.specs.Pairs.{is_of, values_of}
use Rattle.rad_value.specs.PairLists.{PairLists}
use Rattle.rad_value.proofs.EditLaws.{edit-others}
use Rattle.rad_dict.proofs.Lookups.{same_attr_is}
use Rattle.mod_base.proofs.Frames.{filter_within}
use Rattle.unlang_tree.specs.declared.update.Line.{Line}
use Rattle.unlang_code.specs.declared.update.Said.{Said}
use Rattle.unlang_code.specs.declared.update.Said.TheVariants as said
use Rattle.unlang_code.specs.Updates.{edit_of, tried_to, done_with}
use Rattle.unlang_code.proofs.FrameLaws.{tried_lists}

other_pair : (attr own : AttrId) → same_attr attr own ≡ false → (pair : Pair) → is_of attr pair ≡ true → not (is_of own pair) ≡ true
other_pair attr own other pair is = rw (same_attr_is pair.attr attr is) (rw other refl)

-- an edit of an attribute leaves the values of another
pub other_edit : (attr : AttrId) (o : EditOp) (pair : Pair) (pairs : List Pair) → same_attr attr pair.attr ≡ false → values_of attr (edited_by o pair pairs) ≡ values_of attr pairs
other_edit attr o pair pairs other =
    let keeps : (Pair → Bool) = λ (p : Pair). not (is_of pair.attr p) in
    let within = other_pair attr pair.attr other in
    ap (map (λ (p : Pair). p.value)) (filter_within (is_of attr) keeps within (edited_by o pair pairs)
    ∙ ap (filter (is_of attr)) (edit-others o pair pairs)
    ∙ sym (filter_within (is_of attr) keeps within pairs))

module _ (Kept : PairLists → Type 0) where
  -- what an edit keeps is kept where it is tried, whether the list is full or not
  pub tried_keeps : (edit : Edit) (before lists : PairLists) → (Kept before → Kept (lists_edited before edit)) → tried before edit ≡ Some lists → Kept before → Kept lists
  tried_keeps edit before lists keeps is kept = subst Kept (sym (tried_lists before edit lists is)) (keeps kept)

  by_tried : (edit : Edit) (scope : Scope) (t : Option PairLists) → (Kept scope.lists → Kept (lists_edited scope.lists edit)) → tried scope.lists edit ≡ t → Kept scope.lists → Kept (tried_to t scope).0.lists
  by_tried edit scope None keeps is kept = kept
  by_tried edit scope (Some lists) keeps is kept = tried_keeps edit scope.lists lists keeps is kept

  -- and so is it by a line of an update, whatever value the line gives
  pub by_said : (line : Line) (s : Said) (scope : Scope) → ((v : Value) → s ≡ said.Value v → Kept scope.lists → Kept (lists_edited scope.lists (edit_of line v))) → Kept scope.lists → Kept (done_with line s scope).0.lists
  by_said line (said.Value v) scope keeps kept = by_tried (edit_of line v) scope (tried scope.lists (edit_of line v)) (keeps v refl) refl kept
  by_said line said.Nothing scope keeps kept = kept
  by_said line said.Unreadable scope keeps kept = kept
