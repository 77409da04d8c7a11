-- What a look for a pattern captures: the leftmost match in the text and its first eight groups, after unlang(5). What
-- matches is the meaning of the pattern's text by the grammar of the crate `regex` over bytes.
use Rattle.std.specs.Prelude.{ℕ, zero, suc, ◌&&◌, nat_le, nat_lt, Bool, List, [], ◌∷◌, map, length, slice_range, Option, Some, None, if◌then◌else◌}
use Rattle.std.specs.Option.{option_map, option_and_then}
use Rattle.regex.specs.declared.locations.CaptureLocations.{CaptureLocations}
use Rattle.regex.specs.Patterns.{Re, Match, find, span}
use Rattle.regex.specs.Locations.{location, location_count}
use Rattle.regex.specs.Writes.{group_of}
use Rattle.unlang_cond.specs.Patterns.{expression_of}

-- What stands between two offsets of a text.
abbrev pub cut_out : List ℕ → ℕ × ℕ → Option (List ℕ)
cut_out text s = if nat_le s.0 s.1 && nat_le s.1 (length text) then Some (slice_range text s.0 s.1) else None

-- The groups that are captured: the whole, and eight more.
abbrev pub nine : List ℕ
nine = 0 ∷ 1 ∷ 2 ∷ 3 ∷ 4 ∷ 5 ∷ 6 ∷ 7 ∷ 8 ∷ []

-- What a match spans, or its group of a number from 1 on.
abbrev pub span_of : Match → ℕ → Option (ℕ × ℕ)
span_of m zero = Some (span m)
span_of m (suc n) = group_of m (suc n)

-- What a group spans in a match of an expression with so many groups, the whole among them, if it took part.
unfoldable pub group_span : ℕ → Match → ℕ → Option (ℕ × ℕ)
group_span groups m n = if nat_lt n groups then span_of m n else None

-- What the groups capture.
abbrev pub captured : ℕ → List ℕ → Match → List (Option (List ℕ))
captured groups text m = map (λ n. option_and_then (cut_out text) (group_span groups m n)) nine

-- The captures of the leftmost match of an expression with so many groups, if there is one.
unfoldable pub looked : ℕ → Re → List ℕ → Option (List (Option (List ℕ)))
looked groups re text = option_map (captured groups text) (find re text 0)

-- The captures of the leftmost match of the expression that a pattern's text writes, if it writes one and there is one.
unfoldable pub looked_for : List ℕ → Bool → List ℕ → Option (List (Option (List ℕ)))
looked_for source insensitive text = option_and_then (λ (re, names). looked (length names) re.value text) (expression_of source insensitive)

-- What the locations of a match capture.
abbrev pub located : CaptureLocations → List ℕ → ℕ → Option (List ℕ)
located locations text n = if nat_lt n (location_count locations) then option_and_then (cut_out text) (location locations n) else None

-- What the locations of a match capture, for the whole and eight groups.
abbrev pub all_located : CaptureLocations → List ℕ → List (Option (List ℕ))
all_located locations text = map (located locations text) nine
