-- Items of a filter by their places.
use Rattle.std.specs.List.{list_any, list_all, slice_get, cons_option}
use Rattle.std.specs.Option.{option_map_or, option_and_then}
use Rattle.std.proofs.Common.{◌≡◌, ℕ, Bool, true, false, cond, ◌&&◌, ◌||◌, not, List, [], ◌∷◌, ◌++◌, ◌+◌, append_assoc, drop, filter, filter_map, Option, Some, None, refl, sym, ap, ◌∙◌}
use Rattle.std.proofs.lemmas.List.{append-nil}
use Rattle.rad_value.specs.declared.edits.Edit.{Edit}
use Rattle.rad_value.specs.declared.edits.ListName.{ListName}
use Rattle.rad_value.specs.declared.values.Value.{Value}
use Rattle.rad_value.specs.PairLists.{PairLists}
use Rattle.rad_dict.specs.Definitions.{Definitions}
use Rattle.rad_pairs.specs.declared.items.Item.{Item}
use Rattle.mod_users.specs.declared.entry.Entry.{Entry}
use Rattle.mod_users.specs.Files.{is_fall_through, has_any, all_tried}
use Rattle.mod_users.specs.Fits.{is_for, is_met, reply_met, reply_meets_at}
use Rattle.mod_users.proofs.Trials.{all_tried-append}
use Rattle.mod_users.proofs.Walks.{drop-at}
use Rattle.mod_filter.specs.declared.rules.Rule.{Rule}
use Rattle.mod_filter.specs.Filter.{falls_through, found, goes_by, rules_named, rules_of, rules_in, set_of, sets_of, rule_for, rule_at, rules_at}

-- some item of places' is so
pub any_cons : (p : Item → Bool) (one : Option Item) (rest : List Item) → list_any p (cons_option one rest) ≡ (option_map_or p one false || list_any p rest)
any_cons p None rest = refl
any_cons p (Some item) rest = refl

-- all are
pub all_cons : (p : Item → Bool) (one : Option Item) (rest : List Item) → list_all p (cons_option one rest) ≡ (option_map_or p one true && list_all p rest)
all_cons p None rest = refl
all_cons p (Some item) rest = refl

-- what is met at a place is met by the item there
pub met_at : (users : List Entry) (rule : Rule) (item : Item) (v : Value) (dict : Definitions) → rule_at users rule ≡ Some item → reply_meets_at users rule.entry rule.item v dict ≡ is_met item.op item dict v
met_at users rule item v dict at = by_entry (slice_get users rule.entry) at where
  by_item : (one : Option Item) → one ≡ Some item → option_map_or (λ (i : Item). is_met i.op i dict v) one false ≡ is_met item.op item dict v
  by_item None is = absurd (cc)
  by_item (Some i) is = ap (λ (o : Option Item). option_map_or (λ (i : Item). is_met i.op i dict v) o false) is

  by_entry : (entry : Option Entry) → option_and_then (λ (e : Entry). slice_get e.replies rule.item) entry ≡ Some item → option_map_or (reply_met rule.item v dict) entry false ≡ is_met item.op item dict v
  by_entry None is = absurd (cc)
  by_entry (Some e) is = by_item (slice_get e.replies rule.item) is

sets_cons : (list : ListName) (one : Option Item) (rest : List Item) → sets_of list (cons_option one rest) ≡ sets_of list (cons_option one []) ++ sets_of list rest
sets_cons list None rest = refl
sets_cons list (Some item) rest = by_set (set_of list item) where
  by_set : (edit : Option Edit) → cons_option edit (sets_of list rest) ≡ cons_option edit [] ++ sets_of list rest
  by_set None = refl
  by_set (Some edit) = refl

-- what the item of a place writes, and then the others
pub sets_then : (users : List Entry) (list : ListName) (rule : Rule) (rules : List Rule) (lists new : PairLists) (done : Bool) → (new, done) ≡ all_tried lists (sets_of list (rules_at users (rule ∷ [])))
    → all_tried lists (sets_of list (rules_at users (rule ∷ rules))) ≡ cond done (all_tried new (sets_of list (rules_at users rules))) (new, false)
sets_then users list rule rules lists new done is =
    ap (all_tried lists) (sets_cons list (rule_at users rule) (rules_at users rules))
    ∙ all_tried-append (sets_of list (rules_at users (rule ∷ []))) (sets_of list (rules_at users rules)) lists new done is

-- places that were added
pub rules_more : (users : List Entry) (rules more : List Rule) → rules_at users (rules ++ more) ≡ rules_at users rules ++ rules_at users more
rules_more users [] more = refl
rules_more users (rule ∷ rules) more = by_one (rule_at users rule) (rules_more users rules more) where
  by_one : (one : Option Item) → rules_at users (rules ++ more) ≡ rules_at users rules ++ rules_at users more → cons_option one (rules_at users (rules ++ more)) ≡ cons_option one (rules_at users rules) ++ rules_at users more
  by_one None same = same
  by_one (Some item) same = ap (λ (l : List Item). item ∷ l) same

item_there : (users : List Entry) (number n : ℕ) (entry : Entry) (item : Item) → slice_get users number ≡ Some entry → slice_get entry.replies n ≡ Some item → rule_at users (record { entry = number; item = n }) ≡ Some item
item_there users number n entry item at there = ap (λ (o : Option Entry). option_and_then (λ (e : Entry). slice_get e.replies n) o) at ∙ there

-- an item that was added, and those behind it
pub push_step : (users : List Entry) (number n : ℕ) (entry : Entry) (item : Item) (rules new : List Rule) → slice_get users number ≡ Some entry → slice_get entry.replies n ≡ Some item → new ≡ rules ++ rule_for number n item
    → rules_at users new ++ filter (λ (i : Item). not (is_fall_through i)) (drop (n + 1) entry.replies) ≡ rules_at users rules ++ filter (λ (i : Item). not (is_fall_through i)) (drop n entry.replies)
push_step users number n entry item rules new at there is =
    ap (λ (l : List Rule). rules_at users l ++ rest) is
    ∙ ap (λ (l : List Item). l ++ rest) (rules_more users rules (rule_for number n item))
    ∙ by_item (is_fall_through item) refl
    ∙ ap (λ (l : List Item). rules_at users rules ++ filter (λ (i : Item). not (is_fall_through i)) l) (sym (drop-at entry.replies n item there))
  where
    rest : List Item
    rest = filter (λ (i : Item). not (is_fall_through i)) (drop (n + 1) entry.replies)

    by_item : (b : Bool) → is_fall_through item ≡ b
        → (rules_at users rules ++ rules_at users (cond b [] (record { entry = number; item = n } ∷ []))) ++ rest ≡ rules_at users rules ++ cond (not b) (item ∷ rest) rest
    by_item true is = ap (λ (l : List Item). l ++ rest) (append-nil (rules_at users rules))
    by_item false is =
        ap (λ (o : Option Item). (rules_at users rules ++ cons_option o []) ++ rest) (item_there users number n entry item at there)
        ∙ append_assoc (rules_at users rules) (item ∷ []) rest

-- ---- the search, entry by entry

nil_joined : (items more : List Item) → (items ++ []) ++ more ≡ items ++ more
nil_joined items more = ap (λ (l : List Item). l ++ more) (append-nil items)

module _ (entry : Entry) (items : List Item) (rest : List Entry) (any : Bool) (all : List Item) where
  on : (named through before : Bool) → (before || has_any (cond named (entry ∷ cond through rest []) rest)) ≡ any → items ++ rules_in (cond named (entry ∷ cond through rest []) rest) ≡ all → (not named || through) ≡ true
      → (((before || named) || has_any rest) ≡ any) × ((items ++ cond named (rules_of entry) []) ++ rules_in rest ≡ all)
  on true true true is same more = (is, append_assoc items (rules_of entry) (rules_in rest) ∙ same)
  on true true false is same more = (is, append_assoc items (rules_of entry) (rules_in rest) ∙ same)
  on true false before is same more = absurd (cc)
  on false through true is same more = (is, nil_joined items (rules_in rest) ∙ same)
  on false through false is same more = (is, nil_joined items (rules_in rest) ∙ same)

  at_end : (named through before : Bool) → (before || has_any (cond named (entry ∷ cond through rest []) rest)) ≡ any → items ++ rules_in (cond named (entry ∷ cond through rest []) rest) ≡ all → (not named || through) ≡ false
      → ((before || named) ≡ any) × (items ++ cond named (rules_of entry) [] ≡ all)
  at_end true true before is same more = absurd (cc)
  at_end true false true is same more = (is, ap (λ (l : List Item). items ++ l) (sym (append-nil (rules_of entry))) ∙ same)
  at_end true false false is same more = (is, ap (λ (l : List Item). items ++ l) (sym (append-nil (rules_of entry))) ∙ same)
  at_end false through before is same more = absurd (cc)

-- What was found so far, and what is left from a place on.
pub record Found (users : List Entry) (key : List ℕ) (n : ℕ) (any : Bool) (rules : List Rule) : Type 0 where
  pub any_is : (any || has_any (found (drop n users) key)) ≡ has_any (found users key)
  pub rules_are : rules_at users rules ++ rules_in (found (drop n users) key) ≡ rules_in (found users key)

here : (users : List Entry) (key : List ℕ) (n : ℕ) (any : Bool) (rules : List Rule) (entry : Entry) → slice_get users n ≡ Some entry → Found users key n any rules
    → ((any || has_any (found (entry ∷ drop (n + 1) users) key)) ≡ has_any (found users key)) × (rules_at users rules ++ rules_in (found (entry ∷ drop (n + 1) users) key) ≡ rules_in (found users key))
here users key n any rules entry at so_far =
    let same = sym (drop-at users n entry at) in
    (ap (λ (l : List Entry). any || has_any (found l key)) same ∙ so_far.any_is, ap (λ (l : List Entry). rules_at users rules ++ rules_in (found l key)) same ∙ so_far.rules_are)

-- the search goes on behind an entry
pub found_on : (users : List Entry) (key : List ℕ) (n : ℕ) (any any_now : Bool) (rules now : List Rule) (entry : Entry) → slice_get users n ≡ Some entry → Found users key n any rules → goes_by key entry ≡ true
    → any_now ≡ (any || is_for key entry) → rules_at users now ≡ rules_at users rules ++ rules_named key entry → Found users key (n + 1) any_now now
found_on users key n any any_now rules now entry at so_far more any_is rules_are =
    let front = here users key n any rules entry at so_far in
    let rest = found (drop (n + 1) users) key in
    let both = on entry (rules_at users rules) rest (has_any (found users key)) (rules_in (found users key)) (is_for key entry) (falls_through entry) any front.0 front.1 more in record {
      any_is = ap (λ (b : Bool). b || has_any rest) any_is ∙ both.0;
      rules_are = ap (λ (l : List Item). l ++ rules_in rest) rules_are ∙ both.1;
    }

-- or ends there
pub found_ends : (users : List Entry) (key : List ℕ) (n : ℕ) (any any_now : Bool) (rules now : List Rule) (entry : Entry) → slice_get users n ≡ Some entry → Found users key n any rules → goes_by key entry ≡ false
    → any_now ≡ (any || is_for key entry) → rules_at users now ≡ rules_at users rules ++ rules_named key entry → (any_now ≡ has_any (found users key)) × (rules_at users now ≡ rules_in (found users key))
found_ends users key n any any_now rules now entry at so_far more any_is rules_are =
    let front = here users key n any rules entry at so_far in
    let rest = found (drop (n + 1) users) key in
    let both = at_end entry (rules_at users rules) rest (has_any (found users key)) (rules_in (found users key)) (is_for key entry) (falls_through entry) any front.0 front.1 more in
    (any_is ∙ both.0, rules_are ∙ both.1)

-- or with the last
pub found_all : (users : List Entry) (key : List ℕ) (n : ℕ) (any : Bool) (rules : List Rule) → drop n users ≡ [] → Found users key n any rules → (any ≡ has_any (found users key)) × (rules_at users rules ≡ rules_in (found users key))
found_all users key n any rules past so_far = (
  sym (or_none any) ∙ ap (λ (l : List Entry). any || has_any (found l key)) (sym past) ∙ so_far.any_is,
  sym (append-nil (rules_at users rules)) ∙ ap (λ (l : List Entry). rules_at users rules ++ rules_in (found l key)) (sym past) ∙ so_far.rules_are,
) where
  or_none : (b : Bool) → (b || false) ≡ b
  or_none true = refl
  or_none false = refl
