-- What the module `attr_filter` does to a list: the pairs that the filter of a key lets stay, and then the items that write.
-- After the manual page rlm_attr_filter(5); that it stops at a full list is this project's own.
use Rattle.std.specs.Prelude.{ℕ, Bool, true, false, not, ◌&&◌, ◌||◌, List, [], ◌∷◌, filter, filter_map, slice_get, Option, Some, None, if◌then◌else◌}
use Rattle.std.specs.List.{list_any, list_all, flat_map}
use Rattle.std.specs.Option.{option_and_then}
use Rattle.rad_words.specs.declared.codes.Code.{Code}
use Rattle.rad_words.specs.declared.codes.Code.TheVariants as code
use Rattle.rad_value.specs.declared.values.Pair.{Pair}
use Rattle.rad_value.specs.declared.edits.Edit.{Edit}
use Rattle.rad_value.specs.declared.edits.EditOp.TheVariants as edit
use Rattle.rad_value.specs.declared.edits.ListName.{ListName}
use Rattle.rad_value.specs.Pairs.{is_of}
use Rattle.rad_value.specs.PairLists.{PairLists}
use Rattle.rad_dict.specs.Definitions.{Definitions}
use Rattle.rad_pairs.specs.declared.items.Item.{Item}
use Rattle.rad_pairs.specs.declared.items.PairOp.{PairOp}
use Rattle.rad_pairs.specs.declared.items.PairOp.TheVariants as op
use Rattle.mod_users.specs.declared.entry.Entry.{Entry}
use Rattle.mod_users.specs.Files.{is_fall_through, is_yes, all_tried, has_any}
use Rattle.mod_users.specs.Fits.{is_for, is_met}
use Rattle.mod_filter.specs.declared.rules.Rule.{Rule}
use Rattle.mod_filter.specs.Sieve.{sifted}

-- The operator `:=`.
abbrev pub is_set : PairOp → Bool
is_set op.Eq = false
is_set op.Set = true
is_set op.Append = false
is_set op.Equal = false
is_set op.Differs = false
is_set op.Lt = false
is_set op.Le = false
is_set op.Gt = false
is_set op.Ge = false
is_set op.Match = false
is_set op.NoMatch = false
is_set op.Any = false
is_set op.None = false

-- The item `Fall-Through := Yes`.
abbrev pub goes_through : Item → Bool
goes_through item = is_fall_through item && is_set item.op && is_yes item.value

-- The search goes on behind an entry where it has the reply item `Fall-Through := Yes`.
abbrev pub falls_through : Entry → Bool
falls_through entry = list_any goes_through entry.replies

-- The entries of a filter file that are of a key, by their names alone, up to the first without `Fall-Through := Yes`.
abbrev pub found : List Entry → List ℕ → List Entry
found [] key = []
found (entry ∷ users) key = if is_for key entry then entry ∷ (if falls_through entry then found users key else []) else found users key

-- The items of a filter that an entry has: all but those of Fall-Through.
abbrev pub rules_of : Entry → List Item
rules_of entry = filter (λ item. not (is_fall_through item)) entry.replies

-- The search goes on behind an entry that isn't of the key, and behind one that falls through.
abbrev pub goes_by : List ℕ → Entry → Bool
goes_by key entry = not (is_for key entry) || falls_through entry

-- The items of a filter that an entry has for a key.
abbrev pub rules_named : List ℕ → Entry → List Item
rules_named key entry = if is_for key entry then rules_of entry else []

-- The items of entries, joined.
abbrev pub rules_in : List Entry → List Item
rules_in entries = flat_map rules_of entries

-- An item speaks of a pair: it is of its attribute.
abbrev pub speaks_of : Pair → Item → Bool
speaks_of pair item = is_of item.attr pair

-- An item lets a pair stay: it doesn't speak of it, or the pair's value meets it.
abbrev pub allows : Definitions → Pair → Item → Bool
allows dict pair item = not (speaks_of pair item) || is_met item.op item dict pair.value

-- A pair stays where some item speaks of it, and each that does is met.
unfoldable pub stays : List Item → Definitions → Pair → Bool
stays rules dict pair = list_any (speaks_of pair) rules && list_all (allows dict pair) rules

-- The edit of a list that an item stands for, where it writes: `:=` alone does.
abbrev pub set_of : ListName → Item → Option Edit
set_of list item = if is_set item.op then Some (record { list = list; attr = item.attr; op = edit.Set; value = item.value }) else None

-- The edits of a list that items stand for, in order.
abbrev pub sets_of : ListName → List Item → List Edit
sets_of list rules = filter_map (set_of list) rules

-- The code of a filter: updated, or fail where the list was full for an edit.
abbrev pub set_code : Bool → Code
set_code true = code.Updated
set_code false = code.Fail

-- The lists and the code after the edits.
abbrev pub set_done : PairLists × Bool → PairLists × Code
set_done done = (done.0, set_code done.1)

-- What the items of a filter make of a list: the pairs that stay, and then, item by item, what is written.
abbrev pub filtered : List Item → Definitions → ListName → PairLists → PairLists × Code
filtered rules dict list lists = set_done (all_tried (sifted (stays rules dict) list lists) (sets_of list rules))

-- The same where entries were found, and else nothing.
abbrev pub filtered_by : Bool → List Item → Definitions → ListName → PairLists → PairLists × Code
filtered_by false rules dict list lists = (lists, code.Noop)
filtered_by true rules dict list lists = filtered rules dict list lists

-- What a filter file makes of a list for a key.
unfoldable pub filter_done : List Entry → List ℕ → Definitions → ListName → PairLists → PairLists × Code
filter_done users key dict list lists = filtered_by (has_any (found users key)) (rules_in (found users key)) dict list lists

-- The rule of an item at a place of an entry: none of Fall-Through.
abbrev pub rule_for : ℕ → ℕ → Item → List Rule
rule_for entry place item = if is_fall_through item then [] else record { entry = entry; item = place } ∷ []

-- The item of a rule's place.
abbrev pub rule_at : List Entry → Rule → Option Item
rule_at users rule = option_and_then (λ (entry : Entry). slice_get entry.replies rule.item) (slice_get users rule.entry)

-- The items of rules' places, in order.
abbrev pub rules_at : List Entry → List Rule → List Item
rules_at users rules = filter_map (rule_at users) rules
