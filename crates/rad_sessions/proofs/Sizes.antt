-- How many sessions there are after a change.
use Rattle.std.proofs.Common.{◌≡◌, ◌≤◌, ◌+◌, ℕ, Bool, true, false, cond, not, ◌&&◌, List, [], ◌∷◌, length, Option, Some, None, is_some, suc, refl, sym, ap, ◌∙◌, nat_le, arith, filter, Result, Ok, Err}
use Rattle.std.proofs.lemmas.Bool.{leb-false}
use Rattle.std.specs.Result.{OnOk}
use Rattle.std.specs.List.Sorted.{IsStrictlySortedBy}
use Rattle.rad_sessions.specs.declared.session.Session.{Session}
use Rattle.rad_sessions.specs.Listed.{AreInOrder, place_of, is_at, session_at, ended, renewed_at, with_framed, limit}
use Rattle.rad_sessions.specs.Keyed.{grown}
use Rattle.rad_sessions.proofs.Keying.{at_place}

-- No more are there without the one at a place.
pub ended_shorter : (place : ℕ × ℕ) (sessions : List Session) → length (ended place sessions) ≤ length sessions
ended_shorter place [] = omega arith
ended_shorter place (s ∷ sessions) = by (is_at place s) (ended_shorter place sessions)
  where
    by : (b : Bool) → length (ended place sessions) ≤ length sessions → length (cond b sessions (s ∷ ended place sessions)) ≤ suc (length sessions)
    by true h = omega arith
    by false h = omega (arith, h)

-- No more are there of those that pass a test.
pub filter_shorter : (test : Session → Bool) (sessions : List Session) → length (filter test sessions) ≤ length sessions
filter_shorter test [] = omega arith
filter_shorter test (s ∷ sessions) = by (test s) (filter_shorter test sessions)
  where
    by : (b : Bool) → length (filter test sessions) ≤ length sessions → length (cond b (s ∷ filter test sessions) (filter test sessions)) ≤ suc (length sessions)
    by true h = omega (arith, h)
    by false h = omega (arith, h)

-- A session that is found at a place is of that place.
pub found_there : (place : ℕ × ℕ) (sessions : List Session) (s : Session) → session_at place sessions ≡ Some s → place ≡ place_of s
found_there place [] s e = absurd cc
found_there place (first ∷ sessions) s e = by (is_at place first) refl (λ f. found_there place sessions s f) e
  where
    by : (b : Bool) → is_at place first ≡ b → (session_at place sessions ≡ Some s → place ≡ place_of s) → cond b (Some first) (session_at place sessions) ≡ Some s → place ≡ place_of s
    by true is behind f =
        let same : first ≡ s = cc in
        at_place place first is ∙ ap place_of same
    by false is behind f = behind f

-- A session that has another address stands where one stood.
pub renewed_grows_nothing : (place : ℕ × ℕ) (framed : ℕ) (sessions : List Session) (session : Session) → renewed_at place framed sessions ≡ Some session → grown (session_at (place_of session) sessions) ≡ 0
renewed_grows_nothing place framed sessions session e = by (session_at place sessions) refl e
  where
    by : (o : Option Session) → session_at place sessions ≡ o → elim o [ None ↦ None | Some s ↦ Some (with_framed framed s) ] ≡ Some session → grown (session_at (place_of session) sessions) ≡ 0
    by None at f = absurd cc
    by (Some s) at f =
        let same : with_framed framed s ≡ session = cc in
        ap (λ t. grown (session_at (place_of t) sessions)) (sym same) ∙ ap (λ p. grown (session_at p sessions)) (sym (found_there place sessions s at)) ∙ ap grown at

-- Where one may begin, no more than may stand do afterwards.
pub begun_fits : (sessions : List Session) (there : Option Session) → (nat_le limit (length sessions) && not (is_some there)) ≡ false → length sessions ≤ limit → length sessions + grown there ≤ limit
begun_fits sessions None free fits = by (nat_le limit (length sessions)) refl free
  where
    by : (b : Bool) → nat_le limit (length sessions) ≡ b → (b && true) ≡ false → length sessions + 1 ≤ limit
    by true is f = absurd cc
    by false is f = omega (arith, leb-false limit (length sessions) is)
begun_fits sessions (Some s) free fits = omega (arith, fits)

-- What follows of a fact that holds on success.
pub on_ok : {T E P Q : Type 0} (result : Result T E) → (P → Q) → OnOk result P → OnOk result Q
on_ok (Ok value) follows holds = follows holds
on_ok (Err error) follows holds = holds

-- No sessions stand in order.
pub none_in_order : AreInOrder []
unfolding IsStrictlySortedBy
none_in_order = tt
