-- Spans of an expansion's text: up to which octet a word or plain text goes. After unlang(5), 'String expansion'.
use Rattle.std.specs.Prelude.{ℕ, suc, Bool, ◌||◌, ◌==◌, List, [], ◌∷◌, Option, Some, None, if◌then◌else◌}

-- How many octets stand before the first that is one of these two.
unfoldable pub len_before : ℕ → ℕ → List ℕ → ℕ
len_before one other [] = 0
len_before one other (c ∷ rest) = if c == one || c == other then 0 else suc (len_before one other rest)

-- How many octets of plain text stand at the front: up to a `%`, and within braces up to a `}`.
abbrev pub plain_len : Bool → List ℕ → ℕ
plain_len inside text = if inside then len_before 37 125 text else len_before 37 37 text

-- What follows an octet, where it stands at the front.
abbrev pub behind : ℕ → List ℕ → Option (List ℕ)
behind octet [] = None
behind octet (c ∷ rest) = if c == octet then Some rest else None

-- What follows the sign `:-`, where it stands at the front.
abbrev pub behind_sign : List ℕ → Option (List ℕ)
behind_sign [] = None
behind_sign (c ∷ rest) = if c == 58 then behind 45 rest else None
