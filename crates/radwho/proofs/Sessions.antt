-- The lines of sessions from a position on.
use Rattle.std.proofs.Common.{◌≡◌, ℕ, zero, suc, ◌+◌, ◌<◌, ◌++◌, List, [], ◌∷◌, length, drop, refl, sym, ap, ◌∙◌, append-nil, append_assoc, ◌≤◌, arith}
use Rattle.std.specs.List.{slice_get}
use Rattle.rad_sessions.specs.declared.session.Session.{Session}
use Rattle.radwho.specs.declared.wanted.Wanted.{Wanted}
use Rattle.radwho.specs.Lines.{line_at, lines_of}

from_position : (wanted : Wanted) (sessions : List Session) (index : ℕ) → index < length sessions → lines_of wanted (drop index sessions) ≡ line_at wanted (slice_get sessions index) ++ lines_of wanted (drop (suc index) sessions)
unfolding lines_of
from_position wanted [] index low = absurd (omega arith)
from_position wanted (session ∷ sessions) zero low = refl
from_position wanted (session ∷ sessions) (suc index) low = from_position wanted sessions index (omega arith)

pub next_line : (wanted : Wanted) (sessions : List Session) (index : ℕ) → index < length sessions → lines_of wanted (drop index sessions) ≡ line_at wanted (slice_get sessions index) ++ lines_of wanted (drop (index + 1) sessions)
next_line wanted sessions index low =
    let same : suc index ≡ index + 1 = omega arith in
    from_position wanted sessions index low ∙ ap (λ (n : ℕ). line_at wanted (slice_get sessions index) ++ lines_of wanted (drop n sessions)) same

-- A position's line behind the lines of those before it.
pub line_goes : (wanted : Wanted) (sessions : List Session) (index : ℕ) (text now total : List ℕ) → index < length sessions → now ≡ text ++ line_at wanted (slice_get sessions index)
    → text ++ lines_of wanted (drop index sessions) ≡ total → now ++ lines_of wanted (drop (index + 1) sessions) ≡ total
line_goes wanted sessions index text now total low put so_far =
    ap (λ (t : List ℕ). t ++ lines_of wanted (drop (index + 1) sessions)) put
    ∙ append_assoc text (line_at wanted (slice_get sessions index)) (lines_of wanted (drop (index + 1) sessions))
    ∙ ap (λ (t : List ℕ). text ++ t) (sym (next_line wanted sessions index low)) ∙ so_far

none_left : (wanted : Wanted) (sessions : List Session) (index : ℕ) → length sessions ≤ index → lines_of wanted (drop index sessions) ≡ []
unfolding lines_of
none_left wanted [] zero high = refl
none_left wanted [] (suc index) high = refl
none_left wanted (session ∷ sessions) zero high = absurd (omega arith)
none_left wanted (session ∷ sessions) (suc index) high = none_left wanted sessions index (omega arith)

-- The last line was put.
pub lines_end : (wanted : Wanted) (sessions : List Session) (index : ℕ) (text total : List ℕ) → length sessions ≤ index → text ++ lines_of wanted (drop index sessions) ≡ total → text ≡ total
lines_end wanted sessions index text total high so_far =
    sym (append-nil text) ∙ ap (λ (t : List ℕ). text ++ t) (sym (none_left wanted sessions index high)) ∙ so_far
