-- The operators of comparisons, after unlang(5): of the fourteen of the configuration's grammar, the longest that stands next.
use Rattle.std.specs.Prelude.{ℕ, true, false, ◌&&◌, ◌==◌, List, drop, slice_index, Option, Some, None, unwrap_or, if◌then◌else◌}
use Rattle.rad_value.specs.declared.comparison.Cmp.TheVariants.{Eq, Ne, Lt, Le, Gt, Ge}
use Rattle.rad_conf.specs.Signs.{operator_at}
use Rattle.unlang_cond.specs.declared.operator.Relation.{Relation}
use Rattle.unlang_cond.specs.declared.operator.Relation.TheVariants.{Nothing, Compares, Looks, Other}

-- An operator of two octets: `==` `!=` `<=` `>=` `=~` `!~`.
unfoldable pub long_relation : ℕ → ℕ → Option Relation
long_relation c d =
    if c == 61 && d == 61 then Some (Compares Eq)
    else (if c == 33 && d == 61 then Some (Compares Ne)
    else (if c == 60 && d == 61 then Some (Compares Le)
    else (if c == 62 && d == 61 then Some (Compares Ge)
    else (if c == 61 && d == 126 then Some (Looks false)
    else (if c == 33 && d == 126 then Some (Looks true) else None)))))

-- `<`, `>`, or an operator that stands in no condition.
abbrev pub short_relation : ℕ → Relation
short_relation c = if c == 60 then Compares Lt else (if c == 62 then Compares Gt else Other)

-- What stands here, by its octet and the next.
unfoldable pub relation_of : ℕ → ℕ → Relation
relation_of c d = if operator_at c d == 0 then Nothing else unwrap_or (long_relation c d) (short_relation c)

-- How many octets an operator of a condition has.
abbrev pub relation_len : Relation → ℕ
relation_len Nothing = 0
relation_len (Compares Eq) = 2
relation_len (Compares Ne) = 2
relation_len (Compares Lt) = 1
relation_len (Compares Le) = 2
relation_len (Compares Gt) = 1
relation_len (Compares Ge) = 2
relation_len (Looks negative) = 2
relation_len Other = 0

-- The operator at the front, and what follows it.
unfoldable pub relation_at : List ℕ → Relation × List ℕ
relation_at text =
    (relation_of (slice_index text 0) (slice_index text 1), drop (relation_len (relation_of (slice_index text 0) (slice_index text 1))) text)
