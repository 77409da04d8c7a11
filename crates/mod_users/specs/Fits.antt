-- Which entries of a users file match a request. After users(5); that a value of another kind meets no comparison is this
-- project's own.
use Rattle.std.specs.Prelude.{ℕ, Bool, true, false, not, ◌&&◌, ◌||◌, List, [], ◌∷◌, slice_get, Option, Some, None, unwrap_or, is_some, codes}
use Rattle.std.specs.Option.{option_map, option_map_or}
use Rattle.std.specs.List.{list_any}
use Rattle.std.specs.Str.{bytes_eq}
use Rattle.rad_value.specs.declared.values.Value.{Value}
use Rattle.rad_value.specs.declared.values.Pair.{Pair}
use Rattle.rad_value.specs.declared.comparison.Cmp.{Cmp}
use Rattle.rad_value.specs.declared.comparison.Cmp.TheVariants as cmp
use Rattle.rad_value.specs.Comparison.{comparison}
use Rattle.rad_value.specs.Pairs.{is_of, first_value}
use Rattle.rad_dict.specs.Definitions.{Definitions}
use Rattle.rad_pairs.specs.declared.items.Item.{Item}
use Rattle.rad_pairs.specs.declared.items.PairOp.{PairOp}
use Rattle.rad_pairs.specs.declared.items.PairOp.TheVariants as op
use Rattle.rad_pairs.specs.ValueText.{plain_text}
use Rattle.mod_users.specs.declared.entry.Entry.{Entry}
use Rattle.mod_users.specs.Patterns.{pattern_of, is_found_in}

-- A comparison holds of two values of one kind, the request's on the left.
abbrev pub compares : Cmp → Value → Value → Bool
compares cmp right left = unwrap_or (comparison left cmp right) false

-- Whether the pattern of an item matches in a text, where it has one.
abbrev pub found_by : Item → List ℕ → Option Bool
found_by item text = option_map (λ (source : List ℕ). is_found_in source text) (pattern_of item)

-- Whether a value meets an item: `:=` and `=*` are met by every value, `!*` by none that is there, `=~` and `!~` by the
-- value's text, and the others are comparisons. No value meets `=` or `+=`.
abbrev pub is_met : PairOp → Item → Definitions → Value → Bool
is_met op.Eq item dict v = false
is_met op.Set item dict v = true
is_met op.Append item dict v = false
is_met op.Equal item dict v = compares cmp.Eq item.value v
is_met op.Differs item dict v = compares cmp.Ne item.value v
is_met op.Lt item dict v = compares cmp.Lt item.value v
is_met op.Le item dict v = compares cmp.Le item.value v
is_met op.Gt item dict v = compares cmp.Gt item.value v
is_met op.Ge item dict v = compares cmp.Ge item.value v
is_met op.Match item dict v = unwrap_or (found_by item (plain_text item.attr v dict)) false
is_met op.NoMatch item dict v = not (unwrap_or (found_by item (plain_text item.attr v dict)) true)
is_met op.Any item dict v = true
is_met op.None item dict v = false

-- The first of an attribute's values, which has to be there, meets the item.
abbrev pub first_meets : Item → List Pair → Definitions → Bool
first_meets item pairs dict = option_map_or (is_met item.op item dict) (first_value item.attr pairs) false

-- A pair is of an item's attribute and has an equal value.
abbrev pub is_equal_to : Item → Pair → Bool
is_equal_to item pair = is_of item.attr pair && compares cmp.Eq item.value pair.value

-- Whether a check item matches a request's pairs. `==` does where any value is equal, the other comparisons by the first
-- value; `:=`, `+=` and `=` always do.
abbrev pub is_fit : PairOp → Item → List Pair → Definitions → Bool
is_fit op.Eq item pairs dict = true
is_fit op.Set item pairs dict = true
is_fit op.Append item pairs dict = true
is_fit op.Equal item pairs dict = list_any (is_equal_to item) pairs
is_fit op.Differs item pairs dict = first_meets item pairs dict
is_fit op.Lt item pairs dict = first_meets item pairs dict
is_fit op.Le item pairs dict = first_meets item pairs dict
is_fit op.Gt item pairs dict = first_meets item pairs dict
is_fit op.Ge item pairs dict = first_meets item pairs dict
is_fit op.Match item pairs dict = first_meets item pairs dict
is_fit op.NoMatch item pairs dict = first_meets item pairs dict
is_fit op.Any item pairs dict = is_some (first_value item.attr pairs)
is_fit op.None item pairs dict = not (is_some (first_value item.attr pairs))

-- Whether these check items match a request's pairs.
abbrev pub are_fit : List Item → List Pair → Definitions → Bool
are_fit [] pairs dict = true
are_fit (item ∷ items) pairs dict = is_fit item.op item pairs dict && are_fit items pairs dict

-- An entry is of this key, compared octet by octet, or for every key, where its name is DEFAULT.
abbrev pub is_for : List ℕ → Entry → Bool
is_for key entry = bytes_eq entry.name (codes "DEFAULT") || bytes_eq entry.name key

-- Whether an entry matches a request of this key and these pairs.
unfoldable pub fits : Entry → List ℕ → List Pair → Definitions → Bool
fits entry key pairs dict = is_for key entry && are_fit entry.checks pairs dict

-- Whether the entry of this place matches. There it has to be.
abbrev pub fits_at : List Entry → ℕ → List ℕ → List Pair → Definitions → Bool
fits_at users n key pairs dict = option_map_or (λ (entry : Entry). fits entry key pairs dict) (slice_get users n) false

-- Whether the check item of this place matches, of an entry. There it has to be.
abbrev pub check_fits : ℕ → List Pair → Definitions → Entry → Bool
check_fits place pairs dict entry =
    option_map_or (λ (item : Item). is_fit item.op item pairs dict) (slice_get entry.checks place) false

-- The same of the entry of a place.
abbrev pub item_fits_at : List Entry → ℕ → ℕ → List Pair → Definitions → Bool
item_fits_at users n place pairs dict = option_map_or (check_fits place pairs dict) (slice_get users n) false

-- Whether a value meets the reply item of this place, of an entry. There it has to be.
abbrev pub reply_met : ℕ → Value → Definitions → Entry → Bool
reply_met place v dict entry =
    option_map_or (λ (item : Item). is_met item.op item dict v) (slice_get entry.replies place) false

-- The same of the entry of a place.
abbrev pub reply_meets_at : List Entry → ℕ → ℕ → Value → Definitions → Bool
reply_meets_at users n place v dict = option_map_or (reply_met place v dict) (slice_get users n) false
