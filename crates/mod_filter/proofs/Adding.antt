-- A filter adds no pair of an attribute that none of its items writes.
use Rattle.std.specs.Prelude.{map, filter, not}
use Rattle.std.specs.List.{list_any, cons_option, AllByRecursion}
use Rattle.std.proofs.Common.{◌≡◌, ℕ, Bool, true, false, cond, ◌&&◌, ◌||◌, List, [], ◌∷◌, ◌++◌, Option, Some, None, refl, sym, ap, ◌∙◌}
use Rattle.rad_words.specs.declared.attributes.AttrId.{AttrId}
use Rattle.rad_words.specs.declared.sections.Section.{Section}
use Rattle.rad_words.specs.declared.sections.Section.TheVariants as section
use Rattle.rad_words.specs.Attribute.{same_attr}
use Rattle.rad_value.specs.declared.edits.Edit.{Edit}
use Rattle.rad_value.specs.declared.edits.EditOp.TheVariants.{Set}
use Rattle.rad_value.specs.declared.edits.ListName.{ListName}
use Rattle.rad_value.specs.declared.edits.ListName.TheVariants.{Request, Reply, Control}
use Rattle.rad_value.specs.declared.values.Pair.{Pair}
use Rattle.rad_value.specs.declared.values.Value.{Value}
use Rattle.rad_value.specs.Edit.{edited_by, is_full, tried, lists_edited, pair_of}
use Rattle.rad_value.specs.Pairs.{is_of, pairs_of, values_of}
use Rattle.rad_value.specs.PairLists.{PairLists, list_of, with_list}
use Rattle.rad_value.proofs.EditLaws.{edit-others, filter-both}
use Rattle.rad_dict.specs.Definitions.{Definitions}
use Rattle.rad_dict.proofs.Lookups.{same_attr_is}
use Rattle.rad_pairs.specs.declared.items.Item.{Item}
use Rattle.mod_base.proofs.Frames.{filter_within}
use Rattle.mod_users.specs.declared.entry.Entry.{Entry}
use Rattle.mod_users.specs.Files.{all_tried, has_any, is_fall_through}
use Rattle.mod_users.specs.Fits.{is_for}
use Rattle.mod_filter.specs.Filter.{is_set, stays, falls_through, found, rules_of, rules_in, sets_of, filtered_by, filter_done}
use Rattle.mod_filter.specs.Laws.{AreSomeOf}
use Rattle.mod_filter.specs.Module.{writes, filter_writes, filter_for}
use Rattle.mod_filter.specs.Sieve.{sifted}

-- ---- items that don't write an attribute

abbrev Unwritten : AttrId → List Item → Type 0
Unwritten attr items = AllByRecursion (λ item. writes attr item ≡ false) items

neither : (a b : Bool) → (a || b) ≡ false → (a ≡ false) × (b ≡ false)
neither false b is = (refl, is)
neither true b is = absurd (cc)

all_joined : (attr : AttrId) (xs ys : List Item) → Unwritten attr xs → Unwritten attr ys → Unwritten attr (xs ++ ys)
all_joined attr [] ys first second = second
all_joined attr (x ∷ xs) ys first second = (first.0, all_joined attr xs ys first.1 second)

all_filtered : (attr : AttrId) (keeps : Item → Bool) (items : List Item) → list_any (writes attr) items ≡ false → Unwritten attr (filter keeps items)
all_filtered attr keeps [] none = tt
all_filtered attr keeps (item ∷ items) none =
    let each = neither (writes attr item) (list_any (writes attr) items) none in
    elim (keeps item) as (λ b. Unwritten attr (cond b (item ∷ filter keeps items) (filter keeps items))) [
      | true ↦ (each.0, all_filtered attr keeps items each.1)
      | false ↦ all_filtered attr keeps items each.1
    ]

unwritten_found : (attr : AttrId) (users : List Entry) (key : List ℕ) → list_any (λ (e : Entry). list_any (writes attr) e.replies) users ≡ false → Unwritten attr (rules_in (found users key))
unwritten_found attr [] key none = tt
unwritten_found attr (entry ∷ users) key none = by_name (is_for key entry) (falls_through entry) own (unwritten_found attr users key each.1) where
  each : (list_any (writes attr) entry.replies ≡ false) × (list_any (λ (e : Entry). list_any (writes attr) e.replies) users ≡ false)
  each = neither (list_any (writes attr) entry.replies) (list_any (λ (e : Entry). list_any (writes attr) e.replies) users) none

  own : Unwritten attr (rules_of entry)
  own = all_filtered attr (λ item. not (is_fall_through item)) entry.replies each.0

  by_name : (named through : Bool) → Unwritten attr (rules_of entry) → Unwritten attr (rules_in (found users key)) → Unwritten attr (rules_in (cond named (entry ∷ cond through (found users key) []) (found users key)))
  by_name true true first more = all_joined attr (rules_of entry) (rules_in (found users key)) first more
  by_name true false first more = all_joined attr (rules_of entry) [] first tt
  by_name false through first more = more

-- ---- what they leave

other_pair : (attr own : AttrId) → same_attr attr own ≡ false → (pair : Pair) → is_of attr pair ≡ true → not (is_of own pair) ≡ true
other_pair attr own other pair is = rw (same_attr_is pair.attr attr is) (rw other refl)

other_pairs : (attr : AttrId) (pair : Pair) (pairs : List Pair) → same_attr attr pair.attr ≡ false → pairs_of attr (edited_by Set pair pairs) ≡ pairs_of attr pairs
other_pairs attr pair pairs other =
    let keeps : (Pair → Bool) = λ (p : Pair). not (is_of pair.attr p) in
    let within = other_pair attr pair.attr other in
    filter_within (is_of attr) keeps within (edited_by Set pair pairs)
    ∙ ap (filter (is_of attr)) (edit-others Set pair pairs)
    ∙ sym (filter_within (is_of attr) keeps within pairs)

abbrev the_set : ListName → Item → Edit
the_set list item = record { list = list; attr = item.attr; op = Set; value = item.value }

which_lists : (t : Bool) (done lists : PairLists) → cond t None (Some done) ≡ Some lists → lists ≡ done
which_lists true done lists is = absurd (cc)
which_lists false done lists is = cc

tried_lists : (edit : Edit) (before lists : PairLists) → tried before edit ≡ Some lists → lists ≡ lists_edited before edit
unfolding tried
tried_lists edit before lists is = which_lists (is_full edit.op edit.attr (list_of before edit.list)) (lists_edited before edit) lists is

list_with : (list : ListName) (lists : PairLists) (pairs : List Pair) → list_of (with_list lists list pairs) list ≡ pairs
list_with Request lists pairs = refl
list_with Reply lists pairs = refl
list_with Control lists pairs = refl

not_same : (set same : Bool) → (set && same) ≡ false → set ≡ true → same ≡ false
not_same true same none is = none
not_same false same none is = absurd (cc)

module _ (attr : AttrId) (list : ListName) where
  set_leaves : (item : Item) (before lists : PairLists) → same_attr attr item.attr ≡ false → tried before (the_set list item) ≡ Some lists → pairs_of attr (list_of lists list) ≡ pairs_of attr (list_of before list)
  set_leaves item before lists other is =
      let edit = the_set list item in
      ap (λ (l : PairLists). pairs_of attr (list_of l list)) (tried_lists edit before lists is)
      ∙ ap (pairs_of attr) (list_with list before (edited_by Set (pair_of edit) (list_of before list)))
      ∙ other_pairs attr (pair_of edit) (list_of before list) other

  sets_leave : (rules : List Item) (lists : PairLists) → Unwritten attr rules → pairs_of attr (list_of (all_tried lists (sets_of list rules)).0 list) ≡ pairs_of attr (list_of lists list)
  sets_leave [] lists none = refl
  sets_leave (item ∷ rules) lists none = by_set (is_set item.op) (λ next. sets_leave rules next none.1) refl where
    by_tried : (t : Option PairLists) → ((next : PairLists) → pairs_of attr (list_of (all_tried next (sets_of list rules)).0 list) ≡ pairs_of attr (list_of next list)) → same_attr attr item.attr ≡ false → tried lists (the_set list item) ≡ t
        → pairs_of attr (list_of (elim t as (λ _. PairLists × Bool) [ None ↦ (lists, false) | Some more ↦ all_tried more (sets_of list rules) ]).0 list) ≡ pairs_of attr (list_of lists list)
    by_tried None more other is = refl
    by_tried (Some next) more other is = more next ∙ set_leaves item lists next other is

    by_set : (b : Bool) → ((next : PairLists) → pairs_of attr (list_of (all_tried next (sets_of list rules)).0 list) ≡ pairs_of attr (list_of next list)) → is_set item.op ≡ b → pairs_of attr (list_of (all_tried lists (cons_option (cond b (Some (the_set list item)) None) (sets_of list rules))).0 list) ≡ pairs_of attr (list_of lists list)
    by_set true more is = by_tried (tried lists (the_set list item)) more (not_same (is_set item.op) (same_attr attr item.attr) none.0 is) refl
    by_set false more is = more lists

both_ways : (a b : Bool) → (a && b) ≡ (b && a)
both_ways true true = refl
both_ways true false = refl
both_ways false true = refl
both_ways false false = refl

commutes : (p q : Pair → Bool) (pairs : List Pair) → filter p (filter q pairs) ≡ filter q (filter p pairs)
commutes p q pairs =
    filter-both p q (λ x. q x && p x) (λ x. refl) pairs
    ∙ sym (filter-both q p (λ x. q x && p x) (λ x. both_ways (q x) (p x)) pairs)

some_behind : (attr : AttrId) (list : ListName) (any : Bool) (rules : List Item) (dict : Definitions) (lists : PairLists) → Unwritten attr rules
    → AreSomeOf (pairs_of attr (list_of (filtered_by any rules dict list lists).0 list)) (pairs_of attr (list_of lists list))
some_behind attr list true rules dict lists none = record {
  test = stays rules dict;
  same = sets_leave attr list rules (sifted (stays rules dict) list lists) none
      ∙ ap (pairs_of attr) (list_with list lists (filter (stays rules dict) (list_of lists list)))
      ∙ commutes (is_of attr) (stays rules dict) (list_of lists list);
}
some_behind attr list false rules dict lists none = record { test = λ pair. true; same = sym (all_pass (pairs_of attr (list_of lists list))) } where
  all_pass : (pairs : List Pair) → filter (λ (pair : Pair). true) pairs ≡ pairs
  all_pass [] = refl
  all_pass (pair ∷ pairs) = ap (λ (l : List Pair). pair ∷ l) (all_pass pairs)

-- The pairs of an attribute that no item of a filter file writes are some of those that were there, in their order.
pub some_stay : (attr : AttrId) (users : List Entry) (key : List ℕ) (dict : Definitions) (list : ListName) (lists : PairLists) → filter_writes users attr ≡ false
    → AreSomeOf (pairs_of attr (list_of (filter_done users key dict list lists).0 list)) (pairs_of attr (list_of lists list))
unfolding filter_done filter_writes
some_stay attr users key dict list lists none = some_behind attr list (has_any (found users key)) (rules_in (found users key)) dict lists (unwritten_found attr users key none)

-- ---- none come

no_pairs : (pairs : List Pair) → map (λ (p : Pair). p.value) pairs ≡ [] → pairs ≡ []
no_pairs [] none = refl
no_pairs (pair ∷ pairs) none = absurd (cc)

none_of_some : (some all : List Pair) → AreSomeOf some all → map (λ (p : Pair). p.value) all ≡ [] → map (λ (p : Pair). p.value) some ≡ []
none_of_some some all are none = ap (map (λ (p : Pair). p.value)) (are.same ∙ ap (filter are.test) (no_pairs all none))

sets_reply : (rules : List Item) (lists : PairLists) → (all_tried lists (sets_of Request rules)).0.reply ≡ lists.reply
sets_reply [] lists = refl
sets_reply (item ∷ rules) lists = by_set (is_set item.op) (sets_reply rules) where
  by_tried : (t : Option PairLists) → ((next : PairLists) → (all_tried next (sets_of Request rules)).0.reply ≡ next.reply) → tried lists (the_set Request item) ≡ t → (elim t as (λ _. PairLists × Bool) [ None ↦ (lists, false) | Some more ↦ all_tried more (sets_of Request rules) ]).0.reply ≡ lists.reply
  by_tried None more is = refl
  by_tried (Some next) more is = more next ∙ ap (λ (l : PairLists). l.reply) (tried_lists (the_set Request item) lists next is)

  by_set : (b : Bool) → ((next : PairLists) → (all_tried next (sets_of Request rules)).0.reply ≡ next.reply) → (all_tried lists (cons_option (cond b (Some (the_set Request item)) None) (sets_of Request rules))).0.reply ≡ lists.reply
  by_set true more = by_tried (tried lists (the_set Request item)) more refl
  by_set false more = more lists

reply_behind : (any : Bool) (rules : List Item) (dict : Definitions) (lists : PairLists) → (filtered_by any rules dict Request lists).0.reply ≡ lists.reply
reply_behind true rules dict lists = sets_reply rules (sifted (stays rules dict) Request lists)
reply_behind false rules dict lists = refl

reply_alone : (users : List Entry) (key : List ℕ) (dict : Definitions) (lists : PairLists) → (filter_done users key dict Request lists).0.reply ≡ lists.reply
unfolding filter_done
reply_alone users key dict lists = reply_behind (has_any (found users key)) (rules_in (found users key)) dict lists

-- Where the reply has no pair of an attribute that no item writes, a filter leaves it without.
pub none_is_added : (attr : AttrId) (users : List Entry) (key : List ℕ) (dict : Definitions) (method : Section) (lists : PairLists) → filter_writes users attr ≡ false → values_of attr lists.reply ≡ []
    → values_of attr (filter_for users key dict method lists).0.reply ≡ []
none_is_added attr users key dict section.Authorize lists free none = ap (values_of attr) (reply_alone users key dict lists) ∙ none
none_is_added attr users key dict section.Authenticate lists free none = none
none_is_added attr users key dict section.Session lists free none = none
none_is_added attr users key dict section.Preacct lists free none = ap (values_of attr) (reply_alone users key dict lists) ∙ none
none_is_added attr users key dict section.Accounting lists free none = none_of_some (pairs_of attr (filter_done users key dict Reply lists).0.reply) (pairs_of attr lists.reply) (some_stay attr users key dict Reply lists free) none
none_is_added attr users key dict section.PostAuth lists free none = none_of_some (pairs_of attr (filter_done users key dict Reply lists).0.reply) (pairs_of attr lists.reply) (some_stay attr users key dict Reply lists free) none
