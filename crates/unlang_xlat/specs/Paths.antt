-- The text of an expansion as the path of a file, which what a request brings can't lead out of the folders that the operator
-- wrote. After the names of FreeRADIUS' rlm_detail(5); which octets are safe is this project's own.
use Rattle.std.specs.Prelude.{ℕ, Bool, true, false, ◌||◌, ◌==◌, List, [], ◌∷◌, map, if◌then◌else◌}
use Rattle.std.specs.Int.{is_in_range}
use Rattle.rad_value.specs.declared.scope.Scope.{Scope}
use Rattle.rad_dict.specs.Definitions.{Definitions}
use Rattle.unlang_xlat.specs.declared.part.Part.{Part, out-Part}
use Rattle.unlang_xlat.specs.declared.part.Part.TheOpen.{Part-F}
use Rattle.unlang_xlat.specs.Texts.{part_text, joined, cut}

-- An octet that may stand in the name of a file: an ASCII letter, a digit, `.`, `-` or `_`.
abbrev pub is_safe : ℕ → Bool
is_safe c = is_in_range 48 57 c || is_in_range 65 90 c || is_in_range 97 122 c || c == 46 || c == 45 || c == 95

-- Any other octet is written as `_`.
abbrev pub safe_octet : ℕ → ℕ
safe_octet c = if is_safe c then c else 95

-- An octet that stands first: no `.` does.
abbrev pub first_octet : ℕ → ℕ
first_octet c = if c == 46 then 95 else safe_octet c

-- A text in the safe spelling.
abbrev pub safe_text : List ℕ → List ℕ
safe_text [] = []
safe_text (c ∷ rest) = first_octet c ∷ map safe_octet rest

-- Whether a part is written in braces.
abbrev pub is_braced_at : Part-F Part → Bool
is_braced_at (Part-F.Plain text) = false
is_braced_at Part-F.Percent = false
is_braced_at (Part-F.Date one) = false
is_braced_at (Part-F.Reference reference) = true
is_braced_at (Part-F.Capture n) = true
is_braced_at (Part-F.Loop n) = true
is_braced_at Part-F.Source = true
is_braced_at Part-F.NoSource = true
is_braced_at (Part-F.Alternative first second) = true
is_braced_at (Part-F.Call function parts) = true

-- Whether a part is written in braces.
abbrev pub is_braced : Part → Bool
is_braced part = is_braced_at (out-Part part)

-- The text of a part in a path: in the safe spelling where the part is written in braces. What stands within such a part is
-- not spelled safely by itself.
abbrev pub path_part : Scope → Definitions → Part → List ℕ
path_part scope dict part = if is_braced part then safe_text (part_text scope dict part) else part_text scope dict part

-- The path of an expansion.
abbrev pub path_of : Scope → Definitions → List Part → List ℕ
path_of scope dict parts = joined (map (path_part scope dict) parts)

-- The same, cut.
abbrev pub path_expanded : Scope → Definitions → List Part → List ℕ
path_expanded scope dict parts = cut (path_of scope dict parts)
