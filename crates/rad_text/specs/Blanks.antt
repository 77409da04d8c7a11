-- Blanks, as they part the words of a line. After the manual pages radiusd.conf(5), dictionary(5) and users(5) of
-- FreeRADIUS.
use Rattle.std.specs.Prelude.{ℕ, Bool, ◌||◌, ◌==◌, List, [], ◌∷◌, if◌then◌else◌}

-- A blank is a space or a tab.
abbrev pub is_blank : ℕ → Bool
is_blank c = c == 32 || c == 9

-- What follows the blanks at the front.
unfoldable pub after_blanks : List ℕ → List ℕ
after_blanks [] = []
after_blanks (c ∷ rest) = if is_blank c then after_blanks rest else c ∷ rest
