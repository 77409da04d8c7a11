-- Which sessions stand after one began or ended.
use Rattle.std.proofs.Common.{◌≡◌, ◌≢◌, ℕ, Bool, true, false, cond, List, [], ◌∷◌, map, Some, None, refl, sym, ap, ◌∙◌, Ordering, Less, Equal, Greater, arith}
use Rattle.std.specs.Ordering.{nat_cmp, ordering_then, match_ordering, is_eq}
use Rattle.std.specs.List.{AllByRecursion}
use Rattle.std.specs.List.Sorted.{IsStrictlySortedBy}
use Rattle.std.proofs.lemmas.Cmp.{ranked}
use Rattle.rad_sessions.specs.declared.session.Session.{Session}
use Rattle.rad_sessions.specs.Listed.{AreInOrder, place_of, place_cmp, is_at, session_at, begun, ended}
use Rattle.rad_sessions.proofs.Keying.{at_place, same_place}

number_self : (n : ℕ) → nat_cmp n n ≡ Equal
number_self n = by (nat_cmp n n) refl
  where
    by : (o : Ordering) → o ≡ nat_cmp n n → nat_cmp n n ≡ Equal
    by Less e = absurd (omega (arith, ranked n n Less e))
    by Equal e = sym e
    by Greater e = absurd (omega (arith, ranked n n Greater e))

-- A place is itself.
place_self : (place : ℕ × ℕ) → place_cmp place place ≡ Equal
place_self place = ap (λ o. ordering_then o (nat_cmp place.1 place.1)) (number_self place.0) ∙ number_self place.1

-- Places that differ aren't taken for each other.
apart : (p q : ℕ × ℕ) → p ≢ q → is_eq (place_cmp p q) ≡ false
apart p q differ = by (place_cmp p q) refl
  where
    by : (o : Ordering) → place_cmp p q ≡ o → is_eq (place_cmp p q) ≡ false
    by Less e = ap is_eq e
    by Equal e = absurd (differ (same_place p q e))
    by Greater e = ap is_eq e

-- A session that is here is the one that is found.
here : (place : ℕ × ℕ) (s : Session) (sessions : List Session) → is_at place s ≡ true → session_at place (s ∷ sessions) ≡ Some s
here place s sessions e = ap (λ b. cond b (Some s) (session_at place sessions)) e

-- A session that isn't here is looked for behind.
behind : (place : ℕ × ℕ) (s : Session) (sessions : List Session) → is_at place s ≡ false → session_at place (s ∷ sessions) ≡ session_at place sessions
behind place s sessions e = ap (λ b. cond b (Some s) (session_at place sessions)) e

pub begun_stands : (session : Session) (sessions : List Session) → session_at (place_of session) (begun session sessions) ≡ Some session
begun_stands session [] = here (place_of session) session [] (ap is_eq (place_self (place_of session)))
begun_stands session (s ∷ sessions) = by (place_cmp (place_of session) (place_of s)) refl (begun_stands session sessions)
  where
    by : (o : Ordering) → place_cmp (place_of session) (place_of s) ≡ o → session_at (place_of session) (begun session sessions) ≡ Some session
        → session_at (place_of session) (match_ordering o (session ∷ s ∷ sessions) (session ∷ sessions) (s ∷ begun session sessions)) ≡ Some session
    by Less e h = here (place_of session) session (s ∷ sessions) (ap is_eq (place_self (place_of session)))
    by Equal e h = here (place_of session) session sessions (ap is_eq (place_self (place_of session)))
    by Greater e h = behind (place_of session) s (begun session sessions) (ap is_eq e) ∙ h

pub begun_leaves : (place : ℕ × ℕ) (session : Session) (sessions : List Session) → place ≢ place_of session → session_at place (begun session sessions) ≡ session_at place sessions
begun_leaves place session [] differ = behind place session [] (apart place (place_of session) differ)
begun_leaves place session (s ∷ sessions) differ = by (place_cmp (place_of session) (place_of s)) refl (begun_leaves place session sessions differ)
  where
    by : (o : Ordering) → place_cmp (place_of session) (place_of s) ≡ o → session_at place (begun session sessions) ≡ session_at place sessions
        → session_at place (match_ordering o (session ∷ s ∷ sessions) (session ∷ sessions) (s ∷ begun session sessions)) ≡ session_at place (s ∷ sessions)
    by Less e h = behind place session (s ∷ sessions) (apart place (place_of session) differ)
    by Equal e h =
        behind place session sessions (apart place (place_of session) differ)
        ∙ sym (behind place s sessions (ap (λ q. is_eq (place_cmp place q)) (sym (same_place (place_of session) (place_of s) e)) ∙ apart place (place_of session) differ))
    by Greater e h = ap (λ t. cond (is_at place s) (Some s) t) h

-- Behind a place that all others are above none is at it.
none_above : (place : ℕ × ℕ) (sessions : List Session) → AllByRecursion (λ q. place_cmp place q ≡ Less) (map place_of sessions) → session_at place sessions ≡ None
none_above place [] above = refl
none_above place (s ∷ sessions) above = behind place s sessions (ap is_eq above.0) ∙ none_above place sessions above.1

pub ended_is_gone : (place : ℕ × ℕ) (sessions : List Session) → AreInOrder sessions → session_at place (ended place sessions) ≡ None
unfolding IsStrictlySortedBy
ended_is_gone place [] order = refl
ended_is_gone place (s ∷ sessions) order = by (is_at place s) refl (ended_is_gone place sessions order.1)
  where
    by : (b : Bool) → is_at place s ≡ b → session_at place (ended place sessions) ≡ None → session_at place (cond b sessions (s ∷ ended place sessions)) ≡ None
    by true e h = ap (λ p. session_at p sessions) (at_place place s e) ∙ none_above (place_of s) sessions order.0
    by false e h = behind place s (ended place sessions) e ∙ h

pub ended_leaves : (place other : ℕ × ℕ) (sessions : List Session) → other ≢ place → session_at other (ended place sessions) ≡ session_at other sessions
ended_leaves place other [] differ = refl
ended_leaves place other (s ∷ sessions) differ = by (is_at place s) refl (ended_leaves place other sessions differ)
  where
    by : (b : Bool) → is_at place s ≡ b → session_at other (ended place sessions) ≡ session_at other sessions → session_at other (cond b sessions (s ∷ ended place sessions)) ≡ session_at other (s ∷ sessions)
    by true e h = sym (behind other s sessions (ap (λ q. is_eq (place_cmp other q)) (sym (at_place place s e)) ∙ apart other place differ))
    by false e h = ap (λ t. cond (is_at other s) (Some s) t) h
