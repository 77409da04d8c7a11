-- `attr_filter` keeps the control list.
use Rattle.std.specs.Prelude.{filter, not}
use Rattle.std.specs.List.{cons_option}
use Rattle.std.proofs.Common.{◌≡◌, ℕ, Bool, true, false, cond, List, [], ◌∷◌, Option, Some, None, refl, sym, ◌∙◌}
use Rattle.rad_words.specs.declared.sections.Section.{Section}
use Rattle.rad_words.specs.declared.sections.Section.TheVariants as section
use Rattle.rad_value.specs.declared.edits.Edit.{Edit}
use Rattle.rad_value.specs.declared.edits.EditOp.TheVariants.{Set}
use Rattle.rad_value.specs.declared.edits.ListName.{ListName}
use Rattle.rad_value.specs.declared.edits.ListName.TheVariants.{Request, Reply, Control}
use Rattle.rad_value.specs.declared.values.Pair.{Pair}
use Rattle.rad_value.specs.Edit.{tried, is_full, lists_edited}
use Rattle.rad_value.specs.PairLists.{PairLists, list_of}
use Rattle.rad_dict.specs.Definitions.{Definitions}
use Rattle.rad_pairs.specs.declared.items.Item.{Item}
use Rattle.unlang_xlat.specs.Texts.{expanded}
use Rattle.mod_base.specs.Situation.{Situation}
use Rattle.mod_base.specs.Meaning.{IsLawful}
use Rattle.mod_lists.specs.Done.{done_to_lists}
use Rattle.mod_lists.proofs.Kept.{Keeps, keeps_alone, lawful_lists}
use Rattle.mod_users.specs.declared.entry.Entry.{Entry}
use Rattle.mod_users.specs.Files.{all_tried, has_any}
use Rattle.mod_filter.specs.declared.attr_filter.AttrFilter.{AttrFilter}
use Rattle.mod_filter.specs.Filter.{is_set, stays, found, rules_in, sets_of, filtered_by, filter_done}
use Rattle.mod_filter.specs.Module.{users_of, key_of, filter_edits, filter_for, filter_in}
use Rattle.mod_filter.specs.Sieve.{sifted}

-- A filter works on the request or on the reply.
abbrev IsFiltered : ListName → Type 0
IsFiltered Request = Unit {0}
IsFiltered Reply = Unit {0}
IsFiltered Control = ⊥

none_out : (pairs : List Pair) → filter (λ (p : Pair). not true) pairs ≡ []
none_out [] = refl
none_out (pair ∷ pairs) = none_out pairs

-- what keeps the control list keeps all outside the frame
by_control : (before now : PairLists) → now.control ≡ before.control → Keeps filter_edits before now
by_control before now same Request = none_out now.request ∙ sym (none_out before.request)
by_control before now same Reply = none_out now.reply ∙ sym (none_out before.reply)
by_control before now same Control = rw same refl

which_lists : (t : Bool) (done lists : PairLists) → cond t None (Some done) ≡ Some lists → lists ≡ done
which_lists true done lists is = absurd (cc)
which_lists false done lists is = cc

edited_control : (edit : Edit) (lists : PairLists) (list : ListName) → edit.list ≡ list → IsFiltered list → (lists_edited lists edit).control ≡ lists.control
edited_control edit lists Request is filtered = rw is refl
edited_control edit lists Reply is filtered = rw is refl
edited_control edit lists Control is filtered = absurd filtered

tried_control : (edit : Edit) (before lists : PairLists) → IsFiltered edit.list → tried before edit ≡ Some lists → lists.control ≡ before.control
unfolding tried
tried_control edit before lists filtered is =
    let same = which_lists (is_full edit.op edit.attr (list_of before edit.list)) (lists_edited before edit) lists is in
    rw same (edited_control edit before edit.list refl filtered)

-- `ATTRIBUTE := VALUE` in a list
abbrev the_set : ListName → Item → Edit
the_set list item = record { list = list; attr = item.attr; op = Set; value = item.value }

sets_control : (list : ListName) → IsFiltered list → (rules : List Item) (lists : PairLists) → (all_tried lists (sets_of list rules)).0.control ≡ lists.control
sets_control list filtered [] lists = refl
sets_control list filtered (item ∷ rules) lists = by_set (is_set item.op) (λ next. sets_control list filtered rules next) where
  by_tried : (t : Option PairLists) → ((next : PairLists) → (all_tried next (sets_of list rules)).0.control ≡ next.control) → tried lists (the_set list item) ≡ t → (elim t as (λ _. PairLists × Bool) [ None ↦ (lists, false) | Some more ↦ all_tried more (sets_of list rules) ]).0.control ≡ lists.control
  by_tried None more is = refl
  by_tried (Some next) more is = more next ∙ tried_control (the_set list item) lists next filtered is

  by_set : (b : Bool) → ((next : PairLists) → (all_tried next (sets_of list rules)).0.control ≡ next.control) → (all_tried lists (cons_option (cond b (Some (the_set list item)) None) (sets_of list rules))).0.control ≡ lists.control
  by_set true more = by_tried (tried lists (the_set list item)) more refl
  by_set false more = more lists

sifted_control : (list : ListName) → IsFiltered list → (keeps : Pair → Bool) (lists : PairLists) → (sifted keeps list lists).control ≡ lists.control
sifted_control Request filtered keeps lists = refl
sifted_control Reply filtered keeps lists = refl
sifted_control Control filtered keeps lists = absurd filtered

by_found : (any : Bool) (rules : List Item) (dict : Definitions) (list : ListName) (lists : PairLists) → IsFiltered list → (filtered_by any rules dict list lists).0.control ≡ lists.control
by_found true rules dict list lists filtered = sets_control list filtered rules (sifted (stays rules dict) list lists) ∙ sifted_control list filtered (stays rules dict) lists
by_found false rules dict list lists filtered = refl

done_control : (users : List Entry) (key : List ℕ) (dict : Definitions) (list : ListName) (lists : PairLists) → IsFiltered list → (filter_done users key dict list lists).0.control ≡ lists.control
unfolding filter_done
done_control users key dict list lists filtered = by_found (has_any (found users key)) (rules_in (found users key)) dict list lists filtered

for_keeps : (users : List Entry) (key : List ℕ) (dict : Definitions) (method : Section) (lists : PairLists) → Keeps filter_edits lists (filter_for users key dict method lists).0
for_keeps users key dict section.Authorize lists = by_control lists (filter_for users key dict section.Authorize lists).0 (done_control users key dict Request lists tt)
for_keeps users key dict section.Authenticate lists = keeps_alone filter_edits lists
for_keeps users key dict section.Session lists = keeps_alone filter_edits lists
for_keeps users key dict section.Preacct lists = by_control lists (filter_for users key dict section.Preacct lists).0 (done_control users key dict Request lists tt)
for_keeps users key dict section.Accounting lists = by_control lists (filter_for users key dict section.Accounting lists).0 (done_control users key dict Reply lists tt)
for_keeps users key dict section.PostAuth lists = by_control lists (filter_for users key dict section.PostAuth lists).0 (done_control users key dict Reply lists tt)

pub filter_is_lawful : (m : AttrFilter) (dict : Definitions) (method : Section) (situation : Situation) → IsLawful filter_edits method situation (done_to_lists (filter_in m dict method) situation).0
filter_is_lawful m dict method situation =
    lawful_lists filter_edits method (filter_in m dict method) situation (for_keeps (users_of m) (expanded situation.scope dict (key_of m)) dict method situation.scope.lists)
