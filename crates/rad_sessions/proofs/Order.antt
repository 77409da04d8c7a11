-- Sessions in the order of their places.
use Rattle.std.proofs.Common.{◌≡◌, ℕ, Bool, true, false, cond, List, [], ◌∷◌, map, filter, Some, None, refl, sym, ap, ◌∙◌, subst, Ordering, Less, Equal, Greater}
use Rattle.std.specs.Ordering.{ordering_reverse, match_ordering, is_eq}
use Rattle.std.specs.List.{AllByRecursion}
use Rattle.std.specs.List.Sorted.{IsStrictlySortedBy}
use Rattle.std.specs.Cmp.{IsTotalOrder, then_total, on_total}
use Rattle.std.proofs.lemmas.Cmp.{nat_cmp_total}
use Rattle.rad_sessions.specs.declared.session.Session.{Session}
use Rattle.rad_sessions.specs.Listed.{AreInOrder, place_of, place_cmp, is_at, session_at, begun, ended}
use Rattle.rad_sessions.proofs.Keying.{same_place}

-- The sessions stand above a place.
abbrev pub Above : ℕ × ℕ → List Session → Type 0
Above place sessions = AllByRecursion (λ q. place_cmp place q ≡ Less) (map place_of sessions)

-- Each session stands below those behind it.
abbrev pub Ordered : List Session → Type 0
Ordered [] = Unit {0}
Ordered (s ∷ sessions) = Above (place_of s) sessions × Ordered sessions

pub ordered : (sessions : List Session) → AreInOrder sessions → Ordered sessions
unfolding IsStrictlySortedBy
ordered [] order = tt
ordered (s ∷ sessions) order = (order.0, ordered sessions order.1)

pub in_order : (sessions : List Session) → Ordered sessions → AreInOrder sessions
unfolding IsStrictlySortedBy
in_order [] order = tt
in_order (s ∷ sessions) order = (order.0, in_order sessions order.1)

places : IsTotalOrder place_cmp
places = then_total (on_total (λ (p : ℕ × ℕ). p.0) nat_cmp_total) (on_total (λ (p : ℕ × ℕ). p.1) nat_cmp_total)

pub turned : (p q : ℕ × ℕ) → place_cmp p q ≡ Less → place_cmp q p ≡ Greater
turned p q less = places.antisymm q p ∙ ap ordering_reverse less

pub turned_back : (p q : ℕ × ℕ) → place_cmp p q ≡ Greater → place_cmp q p ≡ Less
turned_back p q greater = places.antisymm q p ∙ ap ordering_reverse greater

pub chain : (p q : ℕ × ℕ) (sessions : List Session) → place_cmp p q ≡ Less → Above q sessions → Above p sessions
chain p q [] less above = tt
chain p q (s ∷ sessions) less above = (places.trans p q (place_of s) less above.0, chain p q sessions less above.1)

-- A test leaves what stands above a place there.
pub above_filter : (place : ℕ × ℕ) (test : Session → Bool) (sessions : List Session) → Above place sessions → Above place (filter test sessions)
above_filter place test [] above = tt
above_filter place test (s ∷ sessions) above = by (test s) (above_filter place test sessions above.1)
  where
    by : (b : Bool) → Above place (filter test sessions) → Above place (cond b (s ∷ filter test sessions) (filter test sessions))
    by true h = (above.0, h)
    by false h = h

pub above_begun : (place : ℕ × ℕ) (new : Session) (sessions : List Session) → place_cmp place (place_of new) ≡ Less → Above place sessions → Above place (begun new sessions)
above_begun place new [] less above = (less, tt)
above_begun place new (s ∷ sessions) less above = by (place_cmp (place_of new) (place_of s)) (above_begun place new sessions less above.1)
  where
    by : (o : Ordering) → Above place (begun new sessions) → Above place (match_ordering o (new ∷ s ∷ sessions) (new ∷ sessions) (s ∷ begun new sessions))
    by Less h = (less, above)
    by Equal h = (less, above.1)
    by Greater h = (above.0, h)

pub above_ended : (place gone : ℕ × ℕ) (sessions : List Session) → Above place sessions → Above place (ended gone sessions)
above_ended place gone [] above = tt
above_ended place gone (s ∷ sessions) above = by (is_at gone s) (above_ended place gone sessions above.1)
  where
    by : (b : Bool) → Above place (ended gone sessions) → Above place (cond b sessions (s ∷ ended gone sessions))
    by true h = above.1
    by false h = (above.0, h)

pub ordered_filter : (test : Session → Bool) (sessions : List Session) → Ordered sessions → Ordered (filter test sessions)
ordered_filter test [] order = tt
ordered_filter test (s ∷ sessions) order = by (test s) (ordered_filter test sessions order.1)
  where
    by : (b : Bool) → Ordered (filter test sessions) → Ordered (cond b (s ∷ filter test sessions) (filter test sessions))
    by true h = (above_filter (place_of s) test sessions order.0, h)
    by false h = h

pub ordered_ended : (gone : ℕ × ℕ) (sessions : List Session) → Ordered sessions → Ordered (ended gone sessions)
ordered_ended gone [] order = tt
ordered_ended gone (s ∷ sessions) order = by (is_at gone s) (ordered_ended gone sessions order.1)
  where
    by : (b : Bool) → Ordered (ended gone sessions) → Ordered (cond b sessions (s ∷ ended gone sessions))
    by true h = order.1
    by false h = (above_ended (place_of s) gone sessions order.0, h)

pub ordered_begun : (new : Session) (sessions : List Session) → Ordered sessions → Ordered (begun new sessions)
ordered_begun new [] order = (tt, tt)
ordered_begun new (s ∷ sessions) order = by (place_cmp (place_of new) (place_of s)) refl (ordered_begun new sessions order.1)
  where
    by : (o : Ordering) → place_cmp (place_of new) (place_of s) ≡ o → Ordered (begun new sessions) → Ordered (match_ordering o (new ∷ s ∷ sessions) (new ∷ sessions) (s ∷ begun new sessions))
    by Less e h = ((e, chain (place_of new) (place_of s) sessions e order.0), order)
    by Equal e h = (subst (λ p. Above p sessions) (sym (same_place (place_of new) (place_of s) e)) order.0, order.1)
    by Greater e h = (above_begun (place_of s) new sessions (turned_back (place_of new) (place_of s) e) order.0, h)

-- Below all others a session stands first.
pub begun_first : (new : Session) (sessions : List Session) → Above (place_of new) sessions → begun new sessions ≡ new ∷ sessions
begun_first new [] above = refl
begun_first new (s ∷ sessions) above = ap (λ o. match_ordering o (new ∷ s ∷ sessions) (new ∷ sessions) (s ∷ begun new sessions)) above.0

pub begun_behind : (new s : Session) (sessions : List Session) → place_cmp (place_of new) (place_of s) ≡ Greater → begun new (s ∷ sessions) ≡ s ∷ begun new sessions
begun_behind new s sessions e = ap (λ o. match_ordering o (new ∷ s ∷ sessions) (new ∷ sessions) (s ∷ begun new sessions)) e

pub begun_there : (new s : Session) (sessions : List Session) → place_cmp (place_of new) (place_of s) ≡ Equal → begun new (s ∷ sessions) ≡ new ∷ sessions
begun_there new s sessions e = ap (λ o. match_ordering o (new ∷ s ∷ sessions) (new ∷ sessions) (s ∷ begun new sessions)) e

-- None ends where all stand above.
pub ended_above : (place : ℕ × ℕ) (sessions : List Session) → Above place sessions → ended place sessions ≡ sessions
ended_above place [] above = refl
ended_above place (s ∷ sessions) above = ap (λ o. cond (is_eq o) sessions (s ∷ ended place sessions)) above.0 ∙ ap (λ more. s ∷ more) (ended_above place sessions above.1)

pub none_there : (place : ℕ × ℕ) (sessions : List Session) → Above place sessions → session_at place sessions ≡ None
none_there place [] above = refl
none_there place (s ∷ sessions) above = ap (λ o. cond (is_eq o) (Some s) (session_at place sessions)) above.0 ∙ none_there place sessions above.1

-- None ends where none is found.
pub ended_none : (place : ℕ × ℕ) (sessions : List Session) → session_at place sessions ≡ None → ended place sessions ≡ sessions
ended_none place [] none = refl
ended_none place (s ∷ sessions) none = by (is_at place s) (ended_none place sessions) none
  where
    by : (b : Bool) → (session_at place sessions ≡ None → ended place sessions ≡ sessions) → cond b (Some s) (session_at place sessions) ≡ None → cond b sessions (s ∷ ended place sessions) ≡ s ∷ sessions
    by true h is = absurd cc
    by false h is = ap (λ more. s ∷ more) (h is)
