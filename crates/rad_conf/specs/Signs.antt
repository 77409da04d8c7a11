-- What stands at the front of a text, by its first octets: the one place that knows the spelling of signs.
-- After the manual page radiusd.conf(5).
use Rattle.std.specs.Prelude.{ℕ, ◌+◌, ◌-◌, Bool, true, false, ◌||◌, ◌&&◌, ◌==◌, List, [], ◌∷◌, drop, slice_index, Option, Some, None, if◌then◌else◌}
use Rattle.rad_conf.specs.declared.sign.Sign.{Sign}
use Rattle.rad_conf.specs.declared.sign.Sign.TheVariants.{End, Blank, LineEnd, Comma, Open, Close, Comment, Double, Single, Operator, Bare}

-- The operators of two octets: `:=` `+=` `-=` `==` `!=` `<=` `>=` `=~` `!~` `=*` `!*`.
unfoldable pub is_operator_pair : ℕ → ℕ → Bool
is_operator_pair c d =
    (d == 61 && (c == 58 || c == 43 || c == 45 || c == 61 || c == 33 || c == 60 || c == 62)) || ((d == 126 || d == 42) && (c == 61 || c == 33))

-- The operators of one octet: `=` `<` `>`.
unfoldable pub is_operator_octet : ℕ → Bool
is_operator_octet c = c == 61 || c == 60 || c == 62

-- How many octets the longest operator that stands here has, by its octet and the next; none where no operator stands here.
unfoldable pub operator_at : ℕ → ℕ → ℕ
operator_at c d = if is_operator_pair c d then 2 else (if is_operator_octet c then 1 else 0)

-- How many braces are open behind an octet.
unfoldable pub braces_after : ℕ → ℕ → ℕ
braces_after c depth = if c == 123 then depth + 1 else (if c == 125 then depth - 1 else depth)

-- How many octets stand before the brace that closes, on this line: with so many braces open inside, and behind so many octets.
unfoldable pub inside_from : ℕ → ℕ → List ℕ → Option ℕ
inside_from depth len [] = None
inside_from depth len (c ∷ rest) =
    if c == 10 then None
    else (if c == 125 && depth == 0 then Some len
    else inside_from (braces_after c depth) (len + 1) rest)

-- How many octets stand between the braces of a `{..}` at the front, on one line and with matching braces.
unfoldable pub braces_at : List ℕ → Option ℕ
braces_at text = if slice_index text 0 == 123 then inside_from 0 0 (drop 1 text) else None

-- How many octets stand between the braces of a `${..}` at the front.
unfoldable pub variable_at : List ℕ → Option ℕ
variable_at text = if slice_index text 0 == 36 then braces_at (drop 1 text) else None

-- `[#]`
unfoldable pub is_count : ℕ → ℕ → ℕ → Bool
is_count c d e = c == 91 && d == 35 && e == 93

-- How many octets a `$` or `%` takes with what stands in its braces, or alone.
abbrev pub group_len : Option ℕ → ℕ
group_len None = 1
group_len (Some len) = len + 3

-- How many octets of a bare word begin with an octet that is no sign by itself: all of `[#]`, of `${..}` and of `%{..}`, else the octet.
unfoldable pub bare_at : ℕ → List ℕ → ℕ
bare_at c rest =
    if is_count c (slice_index rest 0) (slice_index rest 1) then 3
    else (if c == 36 || c == 37 then group_len (braces_at rest) else 1)

-- An octet that is no sign by itself: it begins an operator, of those that stand there the longest, or belongs to a bare word.
unfoldable pub longer_sign : ℕ → List ℕ → Sign
longer_sign c rest =
    if operator_at c (slice_index rest 0) == 0 then Bare (bare_at c rest) else Operator (operator_at c (slice_index rest 0))

-- The sign at the front of a text.
unfoldable pub sign_at : List ℕ → Sign
sign_at [] = End
sign_at (c ∷ rest) =
    if c == 32 || c == 9 then Blank
    else (if c == 10 then LineEnd
    else (if c == 44 then Comma
    else (if c == 123 then Open
    else (if c == 125 then Close
    else (if c == 35 then Comment
    else (if c == 34 then Double
    else (if c == 39 then Single
    else longer_sign c rest)))))))

-- How many octets of a bare word a sign has.
abbrev pub bare_octets : Sign → ℕ
bare_octets End = 0
bare_octets Blank = 0
bare_octets LineEnd = 0
bare_octets Comma = 0
bare_octets Open = 0
bare_octets Close = 0
bare_octets Comment = 0
bare_octets Double = 0
bare_octets Single = 0
bare_octets (Operator len) = 0
bare_octets (Bare len) = len

-- The brace that opens a block.
abbrev pub is_open : Sign → Bool
is_open End = false
is_open Blank = false
is_open LineEnd = false
is_open Comma = false
is_open Open = true
is_open Close = false
is_open Comment = false
is_open Double = false
is_open Single = false
is_open (Operator len) = false
is_open (Bare len) = false

-- An item ends at a line's end, a comma, a closing brace, a comment and the text's end.
abbrev pub ends_item : Sign → Bool
ends_item End = true
ends_item Blank = false
ends_item LineEnd = true
ends_item Comma = true
ends_item Open = false
ends_item Close = true
ends_item Comment = true
ends_item Double = false
ends_item Single = false
ends_item (Operator len) = false
ends_item (Bare len) = false

-- How many octets of a text are a sign of more than one octet.
abbrev pub sign_len : Sign → ℕ
sign_len End = 0
sign_len Blank = 0
sign_len LineEnd = 0
sign_len Comma = 0
sign_len Open = 0
sign_len Close = 0
sign_len Comment = 0
sign_len Double = 0
sign_len Single = 0
sign_len (Operator len) = len
sign_len (Bare len) = len
