-- Comparisons of texts: `==` and `!=` by their octets, the others by number where both sides are 1 to 38 decimal digits, else by
-- their octets. This project's own.
use Rattle.std.specs.Prelude.{ℕ, Bool, ◌&&◌, nat_le, List, length, Option, Some, None, if◌then◌else◌}
use Rattle.std.specs.Ordering.{nat_cmp}
use Rattle.std.specs.Cmp.Lexicographic.{slice_cmp}
use Rattle.std.specs.declared.cmp.Ordering.{Ordering}
use Rattle.rad_text.specs.Numerals.{digits_at, whole}
use Rattle.rad_value.specs.Comparison.{holds}
use Rattle.rad_value.specs.declared.comparison.Cmp.{Cmp}
use Rattle.rad_value.specs.declared.comparison.Cmp.TheVariants.{Eq, Ne, Lt, Le, Gt, Ge}

-- The number that a text writes, where it is 1 to 38 decimal digits.
abbrev pub number_in : List ℕ → Option ℕ
number_in text = if nat_le 1 (length text) && nat_le (length text) 38 then whole (digits_at 10 0 text) else None

-- The order of two texts by their numbers, where both write one, else by their octets.
abbrev pub order_by : Option ℕ → Option ℕ → List ℕ → List ℕ → Ordering
order_by None None left right = slice_cmp nat_cmp left right
order_by None (Some b) left right = slice_cmp nat_cmp left right
order_by (Some a) None left right = slice_cmp nat_cmp left right
order_by (Some a) (Some b) left right = nat_cmp a b

-- The order of two texts as numbers, where both are.
abbrev pub number_order : List ℕ → List ℕ → Ordering
number_order left right = order_by (number_in left) (number_in right) left right

-- The order that a comparison asks for.
abbrev pub order_of : Cmp → List ℕ → List ℕ → Ordering
order_of Eq left right = slice_cmp nat_cmp left right
order_of Ne left right = slice_cmp nat_cmp left right
order_of Lt left right = number_order left right
order_of Le left right = number_order left right
order_of Gt left right = number_order left right
order_of Ge left right = number_order left right

-- Whether the comparison holds of two texts.
abbrev pub texts_hold : List ℕ → Cmp → List ℕ → Bool
texts_hold left cmp right = holds cmp (order_of cmp left right)
