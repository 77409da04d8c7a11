-- What an operator relies on in a users file.
use Rattle.std.proofs.Common.{◌≡◌, ℕ, Bool, true, false, cond, List, [], ◌∷◌, ◌++◌, Option, Some, None, refl, ap, ◌∙◌}
use Rattle.std.specs.List.{cons_option}
use Rattle.std.specs.Option.{option_map}
use Rattle.rad_value.specs.declared.edits.Edit.{Edit}
use Rattle.rad_value.specs.declared.edits.EditOp.{EditOp}
use Rattle.rad_value.specs.declared.edits.ListName.{ListName}
use Rattle.rad_value.specs.declared.edits.ListName.TheVariants.{Request, Reply, Control}
use Rattle.rad_value.specs.PairLists.{PairLists, list_of}
use Rattle.rad_value.specs.Edit.{is_full, lists_edited, tried}
use Rattle.rad_dict.specs.Definitions.{Definitions}
use Rattle.rad_pairs.specs.declared.items.Item.{Item}
use Rattle.mod_users.specs.declared.entry.Entry.{Entry}
use Rattle.mod_users.specs.Fits.{fits}
use Rattle.mod_users.specs.Files.{is_fall_through, edit_op, edits_of, entry_edits, all_edits, all_tried, falls_through, entries, done_by, files_done}

-- ---- the request stays

-- An edit of another list than the request's.
abbrev Elsewhere : ListName → Type 0
Elsewhere Request = ⊥
Elsewhere Reply = Unit {0}
Elsewhere Control = Unit {0}

abbrev AreElsewhere : List Edit → Type 0
AreElsewhere [] = Unit {0}
AreElsewhere (edit ∷ edits) = Elsewhere edit.list × AreElsewhere edits

both_elsewhere : (xs ys : List Edit) → AreElsewhere xs → AreElsewhere ys → AreElsewhere (xs ++ ys)
both_elsewhere [] ys first second = second
both_elsewhere (x ∷ xs) ys first second = (first.0, both_elsewhere xs ys first.1 second)

by_list : (named : ListName) (edit : Edit) (lists : PairLists) → edit.list ≡ named → Elsewhere named → (lists_edited lists edit).request ≡ lists.request
by_list Request edit lists e at = absurd at
by_list Reply edit lists e at = rw e refl
by_list Control edit lists e at = rw e refl

by_trial : (edit : Edit) (edits : List Edit) (lists : PairLists) (full : Bool) → Elsewhere edit.list → ((more : PairLists) → (all_tried more edits).0.request ≡ more.request)
    → (elim (cond full None (Some (lists_edited lists edit))) as (λ _. PairLists × Bool) [ None ↦ (lists, false) | Some more ↦ all_tried more edits ]).0.request ≡ lists.request
by_trial edit edits lists true at rest = refl
by_trial edit edits lists false at rest = rest (lists_edited lists edit) ∙ by_list edit.list edit lists refl at

request_stays : (edits : List Edit) (lists : PairLists) → AreElsewhere edits → (all_tried lists edits).0.request ≡ lists.request
unfolding tried
request_stays [] lists at = refl
request_stays (edit ∷ edits) lists at = by_trial edit edits lists (is_full edit.op edit.attr (list_of lists edit.list)) at.0 (λ more. request_stays edits more at.1)

by_item : (list : ListName) (item : Item) (more : List Edit) (fall : Bool) (op : Option EditOp) → Elsewhere list → AreElsewhere more
    → AreElsewhere (cons_option (cond fall None (option_map (λ (o : EditOp). record { list = list; attr = item.attr; op = o; value = item.value }) op)) more)
by_item list item more true op at rest = rest
by_item list item more false None at rest = rest
by_item list item more false (Some op) at rest = (at, rest)

edits_elsewhere : (list : ListName) (items : List Item) → Elsewhere list → AreElsewhere (edits_of list items)
edits_elsewhere list [] at = tt
edits_elsewhere list (item ∷ items) at = by_item list item (edits_of list items) (is_fall_through item) (edit_op item.op) at (edits_elsewhere list items at)

entry_elsewhere : (entry : Entry) → AreElsewhere (entry_edits entry)
entry_elsewhere entry = both_elsewhere (edits_of Control entry.checks) (edits_of Reply entry.replies) (edits_elsewhere Control entry.checks tt) (edits_elsewhere Reply entry.replies tt)

all_elsewhere : (es : List Entry) → AreElsewhere (all_edits es)
all_elsewhere [] = tt
all_elsewhere (entry ∷ es) = both_elsewhere (entry_edits entry) (all_edits es) (entry_elsewhere entry) (all_elsewhere es)

pub files_keep_requests : (rows : List Entry) (key : List ℕ) (dict : Definitions) (lists : PairLists) → (files_done rows key dict lists).0.request ≡ lists.request
unfolding files_done
files_keep_requests rows key dict lists = request_stays (all_edits (entries rows key dict lists)) lists (all_elsewhere (entries rows key dict lists))

-- ---- entries that decide, and entries that don't match

module _ (key : List ℕ) (dict : Definitions) where
  abbrev after : Entry → PairLists → PairLists
  after entry lists = (all_tried lists (entry_edits entry)).0

  -- the same entries behind a entry, whatever it says
  same_behind : (entry : Entry) (xs ys : List Entry) (lists : PairLists) → ((more : PairLists) → more.request ≡ lists.request → entries xs key dict more ≡ entries ys key dict more)
      → entries (entry ∷ xs) key dict lists ≡ entries (entry ∷ ys) key dict lists
  same_behind entry xs ys lists same =
      elim (fits entry key lists.request dict) as (λ b. cond b (entry ∷ cond (falls_through entry) (entries xs key dict (after entry lists)) []) (entries xs key dict lists)
      ≡ cond b (entry ∷ cond (falls_through entry) (entries ys key dict (after entry lists)) []) (entries ys key dict lists)) [
        | true ↦ ap (λ (es : List Entry). entry ∷ cond (falls_through entry) es []) (same (after entry lists) (request_stays (entry_edits entry) lists (entry_elsewhere entry)))
        | false ↦ same lists refl
      ]

  decided : (front rest : List Entry) (entry : Entry) (lists : PairLists) → fits entry key lists.request dict ≡ true → falls_through entry ≡ false
      → entries (front ++ entry ∷ rest) key dict lists ≡ entries (front ++ entry ∷ []) key dict lists
  decided [] rest entry lists e f = rw (e, f) refl
  decided (one ∷ front) rest entry lists e f = same_behind one (front ++ entry ∷ rest) (front ++ entry ∷ []) lists
      (λ more same. decided front rest entry more (ap (λ pairs. fits entry key pairs dict) same ∙ e) f)

  passed : (front rest : List Entry) (entry : Entry) (lists : PairLists) → fits entry key lists.request dict ≡ false → entries (front ++ entry ∷ rest) key dict lists ≡ entries (front ++ rest) key dict lists
  passed [] rest entry lists e = rw e refl
  passed (one ∷ front) rest entry lists e = same_behind one (front ++ entry ∷ rest) (front ++ rest) lists
      (λ more same. passed front rest entry more (ap (λ pairs. fits entry key pairs dict) same ∙ e))

  pub files_decided : (front rest : List Entry) (entry : Entry) (lists : PairLists) → fits entry key lists.request dict ≡ true → falls_through entry ≡ false
      → files_done (front ++ entry ∷ rest) key dict lists ≡ files_done (front ++ entry ∷ []) key dict lists
  unfolding files_done
  files_decided front rest entry lists e f = ap (λ es. done_by false es lists) (decided front rest entry lists e f)

  pub files_passed : (front rest : List Entry) (entry : Entry) (lists : PairLists) → fits entry key lists.request dict ≡ false → files_done (front ++ entry ∷ rest) key dict lists ≡ files_done (front ++ rest) key dict lists
  unfolding files_done
  files_passed front rest entry lists e = ap (λ es. done_by false es lists) (passed front rest entry lists e)
