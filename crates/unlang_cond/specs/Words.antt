-- Bare words and quoted texts in a condition: those of the configuration's grammar, radiusd.conf(5). That a bare word also
-- ends before a parenthesis, `&&` and `||` is this project's own.
use Rattle.std.specs.Prelude.{ℕ, ◌+◌, ◌-◌, Bool, true, false, ◌&&◌, ◌||◌, ◌==◌, List, [], ◌∷◌, ◌++◌, take, drop, slice_index, if◌then◌else◌}
use Rattle.rad_conf.specs.declared.spelling.Spelling.{Spelling}
use Rattle.rad_conf.specs.Signs.{sign_at, bare_octets}
use Rattle.rad_conf.specs.Words.{escape_of}

-- A parenthesis, `&&` or `||` stands at the front.
unfoldable pub ends_bare : List ℕ → Bool
ends_bare text =
    slice_index text 0 == 40 || slice_index text 0 == 41
    || (slice_index text 0 == 38 && slice_index text 1 == 38) || (slice_index text 0 == 124 && slice_index text 1 == 124)

-- How many octets of a bare word are left where so many are passed over: those, else what begins here.
abbrev pub bare_left : ℕ → List ℕ → ℕ
bare_left passed text = if passed == 0 then (if ends_bare text then 0 else bare_octets (sign_at text)) else passed

-- How many octets the bare word at the front has, of which so many are passed over.
unfoldable pub bare_len : ℕ → List ℕ → ℕ
bare_len passed [] = 0
bare_len passed (c ∷ rest) = if bare_left passed (c ∷ rest) == 0 then 0 else bare_len (bare_left passed (c ∷ rest) - 1) rest + 1

-- The bare word at the front, and what follows it.
abbrev pub bare_word : List ℕ → List ℕ
bare_word text = take (bare_len 0 text) text

-- What follows the bare word at the front.
abbrev pub after_word : List ℕ → List ℕ
after_word text = drop (bare_len 0 text) text

-- The text that octets between quotes write, behind what was read of them and perhaps behind a backslash.
unfoldable pub written_from : Spelling → List ℕ → Bool → List ℕ → List ℕ
written_from how out escaped [] = out
written_from how out true (c ∷ rest) = written_from how (out ++ escape_of how c) false rest
written_from how out false (c ∷ rest) = if c == 92 then written_from how out true rest else written_from how (out ++ c ∷ []) false rest

-- The text that octets between quotes write.
abbrev pub written : Spelling → List ℕ → List ℕ
written how raw = written_from how [] false raw
