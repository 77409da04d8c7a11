-- The operators that stand in site files and pairs, after radiusd.conf(5), users(5) and unlang(5).
use Rattle.std.specs.Prelude.{ℕ, ◌&&◌, ◌==◌, List, [], ◌∷◌, drop, slice_index, Option, Some, None, if◌then◌else◌}
use Rattle.rad_pairs.specs.declared.items.PairOp.TheVariants as op
use Rattle.rad_pairs.specs.declared.operators.Operator.{Operator}
use Rattle.rad_pairs.specs.declared.operators.Operator.TheVariants.{OfPair, Remove}

-- An operator of two octets: `:=` `+=` `-=` `==` `!=` `<=` `>=` `=~` `!~` `=*` `!*`. Of these `-=` is none of a pair.
unfoldable pub long_operator : ℕ → ℕ → Option Operator
long_operator c d =
    if c == 58 && d == 61 then Some (OfPair op.Set)
    else (if c == 43 && d == 61 then Some (OfPair op.Append)
    else (if c == 45 && d == 61 then Some Remove
    else (if c == 61 && d == 61 then Some (OfPair op.Equal)
    else (if c == 33 && d == 61 then Some (OfPair op.Differs)
    else (if c == 60 && d == 61 then Some (OfPair op.Le)
    else (if c == 62 && d == 61 then Some (OfPair op.Ge)
    else (if c == 61 && d == 126 then Some (OfPair op.Match)
    else (if c == 33 && d == 126 then Some (OfPair op.NoMatch)
    else (if c == 61 && d == 42 then Some (OfPair op.Any)
    else (if c == 33 && d == 42 then Some (OfPair op.None) else None))))))))))

-- An operator of one octet: `=` `<` `>`.
unfoldable pub short_operator : ℕ → Option Operator
short_operator c =
    if c == 61 then Some (OfPair op.Eq)
    else (if c == 60 then Some (OfPair op.Lt)
    else (if c == 62 then Some (OfPair op.Gt) else None))

-- The longest operator at the front, and what follows it.
unfoldable pub operator_at : List ℕ → Option (Operator × List ℕ)
operator_at [] = None
operator_at (c ∷ rest) = elim (long_operator c (slice_index rest 0)) [
  | Some operator ↦ Some (operator, drop 1 rest)
  | None ↦ elim (short_operator c) [ Some operator ↦ Some (operator, rest) | None ↦ None ]
]
