-- When a comparison of two values holds: values of one kind are ordered by number, or byte by byte
-- for texts and octets; values of different kinds aren't compared. After unlang(5); the order of texts by
-- bytes is this project's own.
use Rattle.std.specs.Prelude.{Bool, true, false, Option, Some, None, option_map, unwrap_or}
use Rattle.std.specs.Ordering.{nat_cmp}
use Rattle.std.specs.Cmp.Lexicographic.{slice_cmp}
use Rattle.std.specs.declared.cmp.Ordering.{Ordering}
use Rattle.std.specs.declared.cmp.Ordering.TheVariants.{Less, Equal, Greater}
use Rattle.rad_value.specs.declared.comparison.Cmp.{Cmp}
use Rattle.rad_value.specs.declared.comparison.Cmp.TheVariants.{Eq, Ne, Lt, Le, Gt, Ge}
use Rattle.rad_value.specs.declared.values.Value.{Value}
use Rattle.rad_value.specs.declared.values.Value.TheVariants.{Text, Octets, Addr, Number, Date, Byte, Short}

-- The order of two values of one kind.
abbrev pub order_of : Value → Value → Option Ordering
order_of (Text a) (Text b) = Some (slice_cmp nat_cmp a b)
order_of (Octets a) (Octets b) = Some (slice_cmp nat_cmp a b)
order_of (Addr a) (Addr b) = Some (nat_cmp a b)
order_of (Number a) (Number b) = Some (nat_cmp a b)
order_of (Date a) (Date b) = Some (nat_cmp a b)
order_of (Byte a) (Byte b) = Some (nat_cmp a b)
order_of (Short a) (Short b) = Some (nat_cmp a b)
order_of _ _ = None

-- Whether the comparison holds of two things in this order.
abbrev pub holds : Cmp → Ordering → Bool
holds Eq Less = false
holds Eq Equal = true
holds Eq Greater = false
holds Ne Less = true
holds Ne Equal = false
holds Ne Greater = true
holds Lt Less = true
holds Lt Equal = false
holds Lt Greater = false
holds Le Less = true
holds Le Equal = true
holds Le Greater = false
holds Gt Less = false
holds Gt Equal = false
holds Gt Greater = true
holds Ge Less = false
holds Ge Equal = true
holds Ge Greater = true

-- Whether the comparison holds, where the two values are of one kind.
abbrev pub comparison : Value → Cmp → Value → Option Bool
comparison left cmp right = option_map (holds cmp) (order_of left right)

-- Whether two values are equal: of one kind, and `==` holds of them.
abbrev pub is_equal : Value → Value → Bool
is_equal left right = unwrap_or (comparison left Eq right) false
