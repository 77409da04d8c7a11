-- What stays outside the frames of statements.
use Rattle.std.specs.Prelude.{map, filter, not, slice_get}
use Rattle.std.specs.List.{list_any, AllByRecursion}
use Rattle.rad_tables.specs.declared.group_kind.GroupKind.TheVariants.{Plain}
use Rattle.std.proofs.Common.{◌≡◌, Bool, true, false, ◌&&◌, ◌||◌, cond, List, [], ◌∷◌, Option, Some, None, refl, sym, ap, ◌∙◌}
use Rattle.rad_words.specs.declared.attributes.AttrId.{AttrId}
use Rattle.rad_words.specs.declared.sections.Section.{Section}
use Rattle.rad_words.specs.Attribute.{same_attr}
use Rattle.rad_value.specs.declared.edits.Edit.{Edit}
use Rattle.rad_value.specs.declared.edits.ListName.{ListName}
use Rattle.rad_value.specs.declared.edits.ListName.TheVariants.{Request, Reply, Control}
use Rattle.rad_value.specs.declared.values.Pair.{Pair}
use Rattle.rad_value.specs.Edit.{tried, edited, lists_edited, is_full, pair_of}
use Rattle.rad_value.specs.Pairs.{is_of, values_of}
use Rattle.rad_value.specs.PairLists.{PairLists, list_of, with_list}
use Rattle.rad_value.proofs.EditLaws.{edit-others}
use Rattle.rad_dict.specs.Definitions.{Definitions}
use Rattle.rad_dict.proofs.Lookups.{same_attr_is}
use Rattle.mod_base.specs.Situation.{Situation}
use Rattle.mod_base.specs.Meaning.{Meaning, IsLawful}
use Rattle.mod_base.proofs.Frames.{filter_within, values_stay}
use Rattle.unlang_tree.specs.declared.statement.Statement.{Statement}
use Rattle.rad_value.specs.declared.values.Value.{Value}
use Rattle.rad_value.specs.declared.scope.Scope.{Scope}
use Rattle.unlang_tree.specs.declared.update.Line.{Line}
use Rattle.unlang_code.specs.declared.update.Said.{Said}
use Rattle.unlang_code.specs.declared.update.Said.TheVariants as said
use Rattle.unlang_code.specs.Updates.{said_by, edit_of, tried_to, done_with}
use Rattle.unlang_code.specs.Run.{section_done, begun, in_scope}
use Rattle.rad_value.specs.PairLists.{same_list}
use Rattle.unlang_code.specs.Frames.{module_edits, line_edits, leaf_edits, edits_of}
use Rattle.unlang_code.specs.Leaves.{Leaf, Calls, Edits, module_done, leaf_done, leaves_of}
use Rattle.unlang_code.proofs.Leaving.{IsLasting, LeafLeads, run_leads}

other_pair : (attr own : AttrId) → same_attr attr own ≡ false → (pair : Pair) → is_of attr pair ≡ true → not (is_of own pair) ≡ true
other_pair attr own other pair is = rw (same_attr_is pair.attr attr is) (rw other refl)

-- an edit leaves the values of another attribute
edit_leaves : (attr : AttrId) (edit : Edit) (pairs : List Pair) → same_attr attr edit.attr ≡ false → values_of attr (edited pairs edit) ≡ values_of attr pairs
edit_leaves attr edit pairs other =
    let keeps : (Pair → Bool) = λ (p : Pair). not (is_of edit.attr p) in
    let within = other_pair attr edit.attr other in
    ap (map (λ (p : Pair). p.value)) (filter_within (is_of attr) keeps within (edited pairs edit)
    ∙ ap (filter (is_of attr)) (edit-others edit.op (pair_of edit) pairs)
    ∙ sym (filter_within (is_of attr) keeps within pairs))

in_list : (lists : PairLists) (attr : AttrId) (list named : ListName) (pairs : List Pair) → ((b : Bool) → same_list named list ≡ b → b ≡ true → values_of attr pairs ≡ values_of attr (list_of lists named))
    → values_of attr (list_of (with_list lists named pairs) list) ≡ values_of attr (list_of lists list)
in_list lists attr Request Request pairs same = same true refl refl
in_list lists attr Reply Request pairs same = refl
in_list lists attr Control Request pairs same = refl
in_list lists attr Request Reply pairs same = refl
in_list lists attr Reply Reply pairs same = same true refl refl
in_list lists attr Control Reply pairs same = refl
in_list lists attr Request Control pairs same = refl
in_list lists attr Reply Control pairs same = refl
in_list lists attr Control Control pairs same = same true refl refl

not_both : (a b : Bool) → (a && b) ≡ false → a ≡ true → b ≡ false
not_both true b none is = none
not_both false b none is = absurd (cc)

edited_lists_leave : (lists : PairLists) (list : ListName) (attr : AttrId) (edit : Edit) → (same_list edit.list list && same_attr attr edit.attr) ≡ false
    → values_of attr (list_of (lists_edited lists edit) list) ≡ values_of attr (list_of lists list)
edited_lists_leave lists list attr edit free =
    in_list lists attr list edit.list (edited (list_of lists edit.list) edit)
    (λ b is yes. edit_leaves attr edit (list_of lists edit.list) (not_both (same_list edit.list list) (same_attr attr edit.attr) free (is ∙ yes)))

which_lists : (t : Bool) (done lists : PairLists) → cond t None (Some done) ≡ Some lists → lists ≡ done
which_lists true done lists is = absurd (cc)
which_lists false done lists is = cc

pub tried_lists : (before : PairLists) (edit : Edit) (lists : PairLists) → tried before edit ≡ Some lists → lists ≡ lists_edited before edit
unfolding tried
tried_lists before edit lists is = which_lists (is_full edit.op edit.attr (list_of before edit.list)) (lists_edited before edit) lists is

tried_leaves : (line : Line) (v : Value) (scope : Scope) (list : ListName) (attr : AttrId) (lists : Option PairLists) → tried scope.lists (edit_of line v) ≡ lists → line_edits list attr line ≡ false
    → values_of attr (list_of (tried_to lists scope).0.lists list) ≡ values_of attr (list_of scope.lists list)
tried_leaves line v scope list attr None is free = refl
tried_leaves line v scope list attr (Some lists) is free =
    ap (λ (l : PairLists). values_of attr (list_of l list)) (tried_lists scope.lists (edit_of line v) lists is) ∙ edited_lists_leave scope.lists list attr (edit_of line v) free

said_leaves : (line : Line) (s : Said) (scope : Scope) (list : ListName) (attr : AttrId) → line_edits list attr line ≡ false
    → values_of attr (list_of (done_with line s scope).0.lists list) ≡ values_of attr (list_of scope.lists list)
said_leaves line (said.Value v) scope list attr free = tried_leaves line v scope list attr (tried scope.lists (edit_of line v)) refl free
said_leaves line said.Nothing scope list attr free = refl
said_leaves line said.Unreadable scope list attr free = refl

pub none_of : (a b : Bool) → (a || b) ≡ false → (a ≡ false) × (b ≡ false)
none_of false b is = (refl, is)
none_of true b is = absurd (cc)

module _ {M : Type 0} (meaning : Meaning M) (lawful : (m : M) (dict : Definitions) (method : Section) (s : Situation) → IsLawful (meaning.edits m) method s (meaning.does m dict method s).0)
    (stack : List M) (dict : Definitions) (section : Section) (list : ListName) (attr : AttrId) where
  abbrev Leaves : Situation → Situation → Type 0
  Leaves s t = values_of attr (list_of t.scope.lists list) ≡ values_of attr (list_of s.scope.lists list)

  lasts : IsLasting Leaves
  lasts = record {
    alike = λ s. refl;
    joined = λ a b c first second. second ∙ first;
    noted = λ s t answer leaves. leaves;
    chose = λ s t leaves. leaves;
    captured = λ s scope only. ap (λ (x : Scope). values_of attr (list_of x.lists list)) only;
  }

  module_leaves : (m : Option M) (s : Situation) → module_edits meaning m list attr ≡ false → Leaves s (module_done meaning dict section m s)
  module_leaves None s free = refl
  module_leaves (Some m) s free = values_stay (meaning.edits m) section s (meaning.does m dict section s).0 list attr (lawful m dict section s) free

  leaf_leaves : (leaf : Leaf) → leaf_edits meaning stack list attr leaf ≡ false → (s : Situation) → Leaves s (leaf_done meaning stack dict section leaf s)
  leaf_leaves (Calls call) free s = module_leaves (slice_get stack call.instance) s free
  leaf_leaves (Edits line) free s = said_leaves line (said_by dict line.attr line.right s.scope) s.scope list attr free

  each_leaves : (leaves : List Leaf) → list_any (leaf_edits meaning stack list attr) leaves ≡ false → AllByRecursion (LeafLeads Leaves lasts meaning stack dict section) leaves
  each_leaves [] free = tt
  each_leaves (leaf ∷ leaves) free =
      let each = none_of (leaf_edits meaning stack list attr leaf) (list_any (leaf_edits meaning stack list attr) leaves) free in
      (leaf_leaves leaf each.0, each_leaves leaves each.1)

  -- a section leaves what none of its statements may edit
  pub section_leaves : (statements : List Statement) (s : Situation) → edits_of meaning stack statements list attr ≡ false
      → values_of attr (list_of (section_done meaning stack dict section statements s).0.scope.lists list) ≡ values_of attr (list_of s.scope.lists list)
  section_leaves statements s free = run_leads Leaves lasts meaning stack dict section statements (each_leaves (leaves_of statements) free) Plain (in_scope (begun s.scope) s)
