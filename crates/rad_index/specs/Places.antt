-- The places of a key in a list of keys, in order, counted from 0. This project's own.
use Rattle.std.specs.Prelude.{ℕ, suc, ◌==◌, List, [], ◌∷◌, if◌then◌else◌}

-- The places of the key in these keys, the first of which stands at this place.
abbrev pub places_from : ℕ → ℕ → List ℕ → List ℕ
places_from place key [] = []
places_from place key (one ∷ keys) = if one == key then place ∷ places_from (suc place) key keys else places_from (suc place) key keys

-- The places of the key in a whole list.
unfoldable pub places_of : ℕ → List ℕ → List ℕ
places_of key keys = places_from 0 key keys
