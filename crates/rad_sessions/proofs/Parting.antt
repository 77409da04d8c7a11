-- What a change of a list does to its parts.
use Rattle.std.proofs.Common.{◌≡◌, ℕ, zero, suc, ◌+◌, ◌<◌, ◌≤◌, Bool, true, false, cond, ◌&&◌, not, List, [], ◌∷◌, length, filter, Option, Some, None, is_some, slice_get, nat_le, refl, sym, ap, ◌∙◌, subst, arith, Ordering, Less, Equal, Greater, bytes_eq}
use Rattle.std.specs.Ordering.{match_ordering, is_eq}
use Rattle.std.proofs.lemmas.Bool.{true≢false, eqb-false, leb-false}
use Rattle.std.proofs.lemmas.Slice.Eq.{bytes_eq-Decides}
use Rattle.rad_sessions.specs.declared.session.Session.{Session}
use Rattle.rad_sessions.specs.declared.change.Change.{Change}
use Rattle.rad_sessions.specs.declared.change.Change.TheVariants.{Begin, Renew, End, Clear}
use Rattle.rad_sessions.specs.Listed.{after, begun, begun_again, count_of, ended, is_at, is_elsewhere, is_too_many, limit, place_cmp, place_of, renewed_at, session_at, with_framed}
use Rattle.rad_sessions.specs.Keyed.{grown}
use Rattle.rad_sessions.specs.Parts.{after_in, AreParts, found_in, is_in, IsParted, joined, part_of, parts_after}
use Rattle.rad_sessions.proofs.Keying.{at_place}
use Rattle.rad_sessions.proofs.Sizes.{ended_shorter, filter_shorter, found_there}
use Rattle.rad_sessions.proofs.Order.{Above, Ordered, ordered, in_order, chain, above_filter, ordered_filter, ordered_ended, ordered_begun, begun_first, begun_behind, begun_there, ended_above, none_there, ended_none}
use Rattle.rad_sessions.proofs.Merging.{joined_again, parted_again, part_small}

module _ (test : Session → Bool) where
  pub begun_filtered : (new : Session) (sessions : List Session) → Ordered sessions → filter test (begun new sessions) ≡ cond (test new) (begun new (filter test sessions)) (ended (place_of new) (filter test sessions))
  begun_filtered new [] order = refl
  begun_filtered new (s ∷ sessions) order = by (place_cmp (place_of new) (place_of s)) refl (begun_filtered new sessions order.1)
    where
      there : (b : Bool) → place_cmp (place_of new) (place_of s) ≡ Equal → Above (place_of new) (filter test sessions) → begun new (cond b (s ∷ filter test sessions) (filter test sessions)) ≡ new ∷ filter test sessions
      there true e above = begun_there new s (filter test sessions) e
      there false e above = begun_first new (filter test sessions) above

      gone : (b : Bool) → place_cmp (place_of new) (place_of s) ≡ Equal → Above (place_of new) (filter test sessions) → ended (place_of new) (cond b (s ∷ filter test sessions) (filter test sessions)) ≡ filter test sessions
      gone true e above = ap (λ o. cond (is_eq o) (filter test sessions) (s ∷ ended (place_of new) (filter test sessions))) e
      gone false e above = ended_above (place_of new) (filter test sessions) above

      behind : (b c : Bool) → place_cmp (place_of new) (place_of s) ≡ Greater
          → cond b (s ∷ cond c (begun new (filter test sessions)) (ended (place_of new) (filter test sessions))) (cond c (begun new (filter test sessions)) (ended (place_of new) (filter test sessions)))
          ≡ cond c (begun new (cond b (s ∷ filter test sessions) (filter test sessions))) (ended (place_of new) (cond b (s ∷ filter test sessions) (filter test sessions)))
      behind true true e = sym (begun_behind new s (filter test sessions) e)
      behind true false e = sym (ap (λ o. cond (is_eq o) (filter test sessions) (s ∷ ended (place_of new) (filter test sessions))) e)
      behind false true e = refl
      behind false false e = refl

      by : (o : Ordering) → place_cmp (place_of new) (place_of s) ≡ o → filter test (begun new sessions) ≡ cond (test new) (begun new (filter test sessions)) (ended (place_of new) (filter test sessions))
          → filter test (match_ordering o (new ∷ s ∷ sessions) (new ∷ sessions) (s ∷ begun new sessions)) ≡ cond (test new) (begun new (filter test (s ∷ sessions))) (ended (place_of new) (filter test (s ∷ sessions)))
      by Less e h =
          let above : Above (place_of new) (filter test (s ∷ sessions)) = above_filter (place_of new) test (s ∷ sessions) (e, chain (place_of new) (place_of s) sessions e order.0) in
          ap (λ l. cond (test new) l (filter test (s ∷ sessions))) (sym (begun_first new (filter test (s ∷ sessions)) above))
          ∙ ap (λ l. cond (test new) (begun new (filter test (s ∷ sessions))) l) (sym (ended_above (place_of new) (filter test (s ∷ sessions)) above))
      by Equal e h =
          let above : Above (place_of new) (filter test sessions) = above_filter (place_of new) test sessions (subst (λ p. Above p sessions) (sym (at_place (place_of new) s (ap is_eq e))) order.0) in
          ap (λ l. cond (test new) l (filter test sessions)) (sym (there (test s) e above))
          ∙ ap (λ l. cond (test new) (begun new (filter test (s ∷ sessions))) l) (sym (gone (test s) e above))
      by Greater e h = ap (λ l. cond (test s) (s ∷ l) l) h ∙ behind (test s) (test new) e

  pub ended_filtered : (place : ℕ × ℕ) (sessions : List Session) → Ordered sessions → filter test (ended place sessions) ≡ ended place (filter test sessions)
  ended_filtered place [] order = refl
  ended_filtered place (s ∷ sessions) order = by (is_at place s) refl (ended_filtered place sessions order.1)
    where
      there : (b : Bool) → is_at place s ≡ true → filter test sessions ≡ ended place (cond b (s ∷ filter test sessions) (filter test sessions))
      there true e = sym (ap (λ t. cond t (filter test sessions) (s ∷ ended place (filter test sessions))) e)
      there false e = sym (ended_above place (filter test sessions) (above_filter place test sessions (subst (λ p. Above p sessions) (sym (at_place place s e)) order.0)))

      behind : (b : Bool) → is_at place s ≡ false → filter test (ended place sessions) ≡ ended place (filter test sessions)
          → cond b (s ∷ filter test (ended place sessions)) (filter test (ended place sessions)) ≡ ended place (cond b (s ∷ filter test sessions) (filter test sessions))
      behind true e h = ap (λ l. s ∷ l) h ∙ sym (ap (λ t. cond t (filter test sessions) (s ∷ ended place (filter test sessions))) e)
      behind false e h = h

      by : (b : Bool) → is_at place s ≡ b → filter test (ended place sessions) ≡ ended place (filter test sessions) → filter test (cond b sessions (s ∷ ended place sessions)) ≡ ended place (filter test (s ∷ sessions))
      by true e h = there (test s) e
      by false e h = behind (test s) e h

  -- A session, where it passes the test.
  abbrev pub passed : Option Session → Option Session
  passed None = None
  passed (Some s) = cond (test s) (Some s) None

  pub at_filtered : (place : ℕ × ℕ) (sessions : List Session) → Ordered sessions → session_at place (filter test sessions) ≡ passed (session_at place sessions)
  at_filtered place [] order = refl
  at_filtered place (s ∷ sessions) order = by (is_at place s) refl (at_filtered place sessions order.1)
    where
      there : (b : Bool) → is_at place s ≡ true → session_at place (cond b (s ∷ filter test sessions) (filter test sessions)) ≡ cond b (Some s) None
      there true e = ap (λ t. cond t (Some s) (session_at place (filter test sessions))) e
      there false e = none_there place (filter test sessions) (above_filter place test sessions (subst (λ p. Above p sessions) (sym (at_place place s e)) order.0))

      behind : (b : Bool) → is_at place s ≡ false → session_at place (filter test sessions) ≡ passed (session_at place sessions) → session_at place (cond b (s ∷ filter test sessions) (filter test sessions)) ≡ passed (session_at place sessions)
      behind true e h = ap (λ t. cond t (Some s) (session_at place (filter test sessions))) e ∙ h
      behind false e h = h

      by : (b : Bool) → is_at place s ≡ b → session_at place (filter test sessions) ≡ passed (session_at place sessions) → session_at place (filter test (s ∷ sessions)) ≡ passed (cond b (Some s) (session_at place sessions))
      by true e h = there (test s) e
      by false e h = behind (test s) e h

-- Two tests may be tried in either order.
filters_turn : (one two : Session → Bool) (sessions : List Session) → filter one (filter two sessions) ≡ filter two (filter one sessions)
filters_turn one two [] = refl
filters_turn one two (s ∷ sessions) = by (one s) (two s) refl refl (filters_turn one two sessions)
  where
    by : (b c : Bool) → one s ≡ b → two s ≡ c → filter one (filter two sessions) ≡ filter two (filter one sessions)
        → filter one (cond c (s ∷ filter two sessions) (filter two sessions)) ≡ filter two (cond b (s ∷ filter one sessions) (filter one sessions))
    by true true e f h = ap (λ t. cond t (s ∷ filter one (filter two sessions)) (filter one (filter two sessions))) e ∙ ap (λ l. s ∷ l) h ∙ sym (ap (λ t. cond t (s ∷ filter two (filter one sessions)) (filter two (filter one sessions))) f)
    by true false e f h = h ∙ sym (ap (λ t. cond t (s ∷ filter two (filter one sessions)) (filter two (filter one sessions))) f)
    by false true e f h = ap (λ t. cond t (s ∷ filter one (filter two sessions)) (filter one (filter two sessions))) e ∙ h
    by false false e f h = h

-- The sessions, where the one that was found has another address.
abbrev again : ℕ → Option Session → List Session → List Session
again framed found sessions = begun_again (elim found [ None ↦ None | Some s ↦ Some (with_framed framed s) ]) sessions

renewed_filtered : (part : ℕ) (place : ℕ × ℕ) (framed : ℕ) (sessions : List Session) → Ordered sessions
    → filter (is_in part) (begun_again (renewed_at place framed sessions) sessions) ≡ begun_again (renewed_at place framed (filter (is_in part) sessions)) (filter (is_in part) sessions)
renewed_filtered part place framed sessions order =
    by (session_at place sessions) refl ∙ ap (λ found. again framed found (filter (is_in part) sessions)) (sym (at_filtered (is_in part) place sessions order))
  where
    either : (s : Session) (b : Bool) → session_at (place_of s) (filter (is_in part) sessions) ≡ cond b (Some s) None
        → cond b (begun (with_framed framed s) (filter (is_in part) sessions)) (ended (place_of s) (filter (is_in part) sessions)) ≡ again framed (cond b (Some s) None) (filter (is_in part) sessions)
    either s true found = refl
    either s false found = ended_none (place_of s) (filter (is_in part) sessions) found

    by : (found : Option Session) → session_at place sessions ≡ found → filter (is_in part) (again framed found sessions) ≡ again framed (passed (is_in part) found) (filter (is_in part) sessions)
    by None e = refl
    by (Some s) e =
        let there = at_filtered (is_in part) place sessions order ∙ ap (passed (is_in part)) e in
        begun_filtered (is_in part) (with_framed framed s) sessions order
        ∙ either s (is_in part s) (subst (λ p. session_at p (filter (is_in part) sessions) ≡ passed (is_in part) (Some s)) (found_there place sessions s e) there)

-- Each part after a change of the list is the part after the change.
part_changed : (part : ℕ) (sessions : List Session) (change : Change) → Ordered sessions → filter (is_in part) (after sessions change) ≡ after_in part (filter (is_in part) sessions) change
unfolding after
part_changed part sessions (Begin session) order = begun_filtered (is_in part) session sessions order
part_changed part sessions (Renew nas port framed) order = renewed_filtered part (nas, port) framed sessions order
part_changed part sessions (End nas port) order = ended_filtered (is_in part) (nas, port) sessions order
part_changed part sessions (Clear nas) order = filters_turn (is_in part) (is_elsewhere nas) sessions

ordered_again : (framed : ℕ) (found : Option Session) (sessions : List Session) → Ordered sessions → Ordered (again framed found sessions)
ordered_again framed None sessions order = order
ordered_again framed (Some s) sessions order = ordered_begun (with_framed framed s) sessions order

pub ordered_after : (sessions : List Session) (change : Change) → Ordered sessions → Ordered (after sessions change)
unfolding after
ordered_after sessions (Begin session) order = ordered_begun session sessions order
ordered_after sessions (Renew nas port framed) order = ordered_again framed (session_at (nas, port) sessions) sessions order
ordered_after sessions (End nas port) order = ordered_ended (nas, port) sessions order
ordered_after sessions (Clear nas) order = ordered_filter (is_elsewhere nas) sessions order

parts_changed : (part : ℕ) (lists : List (List Session)) (sessions : List Session) (change : Change) → Ordered sessions → AreParts part lists sessions → AreParts part (parts_after part lists change) (after sessions change)
parts_changed part [] sessions change order are = tt
parts_changed part (list ∷ lists) sessions change order are =
    (ap (λ l. after_in part l change) are.0 ∙ sym (part_changed part sessions change order), parts_changed (suc part) lists sessions change order are.1)

as_many : (part : ℕ) (lists : List (List Session)) (change : Change) → length (parts_after part lists change) ≡ length lists
as_many part [] change = refl
as_many part (list ∷ lists) change = ap suc (as_many (suc part) lists change)

-- The parts after a change give the list after it, and are its parts.
pub changed : (lists : List (List Session)) (change : Change) → IsParted lists → (joined [] (parts_after 0 lists change) ≡ after (joined [] lists) change) × IsParted (parts_after 0 lists change)
changed lists change parted =
    let sessions = joined [] lists in
    let order = in_order (after sessions change) (ordered_after sessions change (ordered sessions parted.order)) in
    let are = parts_changed 0 lists sessions change (ordered sessions parted.order) parted.parts in
    let count = as_many 0 lists change ∙ parted.count in
    (joined_again (parts_after 0 lists change) (after sessions change) order are count, parted_again (parts_after 0 lists change) (after sessions change) order are count)

-- What is found in the parts is what is found in the list.
nowhere : (place : ℕ × ℕ) (part : ℕ) (lists : List (List Session)) (sessions : List Session) → Ordered sessions → AreParts part lists sessions → session_at place sessions ≡ None → found_in place lists ≡ None
nowhere place part [] sessions order are none = refl
nowhere place part (list ∷ lists) sessions order are none =
    ap (λ o. elim o [ None ↦ found_in place lists | Some s ↦ Some s ]) (ap (session_at place) are.0 ∙ at_filtered (is_in part) place sessions order ∙ ap (passed (is_in part)) none)
    ∙ nowhere place (suc part) lists sessions order are.1 none

somewhere : (place : ℕ × ℕ) (s : Session) (part : ℕ) (lists : List (List Session)) (sessions : List Session) → Ordered sessions → AreParts part lists sessions → session_at place sessions ≡ Some s
    → part ≤ part_of s.user → part_of s.user < part + length lists → found_in place lists ≡ Some s
somewhere place s part [] sessions order are found from to = absurd (omega (arith, from, to))
somewhere place s part (list ∷ lists) sessions order are found from to =
    ap (λ o. elim o [ None ↦ found_in place lists | Some s ↦ Some s ]) (ap (session_at place) are.0 ∙ at_filtered (is_in part) place sessions order ∙ ap (passed (is_in part)) found)
    ∙ by (is_in part s) refl (somewhere place s (suc part) lists sessions order are.1 found)
  where
    by : (b : Bool) → is_in part s ≡ b → (suc part ≤ part_of s.user → part_of s.user < suc part + length lists → found_in place lists ≡ Some s) → (elim (cond b (Some s) None) [ None ↦ found_in place lists | Some s ↦ Some s ]) ≡ Some s
    by true e h = refl
    by false e h =
        let differ = eqb-false (part_of s.user) part e in
        h (grind (arith, from, differ)) (omega (arith, to))

pub found_again : (place : ℕ × ℕ) (lists : List (List Session)) → IsParted lists → found_in place lists ≡ session_at place (joined [] lists)
found_again place lists parted = by (session_at place (joined [] lists)) refl
  where
    by : (found : Option Session) → session_at place (joined [] lists) ≡ found → found_in place lists ≡ found
    by None e = nowhere place 0 lists (joined [] lists) (ordered (joined [] lists) parted.order) parted.parts e
    by (Some s) e = somewhere place s 0 lists (joined [] lists) (ordered (joined [] lists) parted.order) parted.parts e (omega arith) (omega (arith, part_small s.user, parted.count))

-- A user's sessions all stand in the user's part.
pub counted : (user : List ℕ) (sessions : List Session) → count_of user sessions ≡ count_of user (filter (is_in (part_of user)) sessions)
counted user [] = refl
counted user (s ∷ sessions) = by (bytes_eq s.user user) (is_in (part_of user) s) refl refl (counted user sessions)
  where
    by : (b c : Bool) → bytes_eq s.user user ≡ b → is_in (part_of user) s ≡ c → count_of user sessions ≡ count_of user (filter (is_in (part_of user)) sessions)
        → length (cond b (s ∷ filter (λ (s : Session). bytes_eq s.user user) sessions) (filter (λ (s : Session). bytes_eq s.user user) sessions)) ≡ count_of user (cond c (s ∷ filter (is_in (part_of user)) sessions) (filter (is_in (part_of user)) sessions))
    by true true e f h = ap suc h ∙ sym (ap (λ b. length (cond b (s ∷ filter (λ (s : Session). bytes_eq s.user user) (filter (is_in (part_of user)) sessions)) (filter (λ (s : Session). bytes_eq s.user user) (filter (is_in (part_of user)) sessions)))) e)
    by true false e f h = absurd (eqb-false (part_of s.user) (part_of user) f (ap part_of ((bytes_eq-Decides s.user user).0 e)))
    by false true e f h = h ∙ sym (ap (λ b. length (cond b (s ∷ filter (λ (s : Session). bytes_eq s.user user) (filter (is_in (part_of user)) sessions)) (filter (λ (s : Session). bytes_eq s.user user) (filter (is_in (part_of user)) sessions)))) e)
    by false false e f h = h

-- The part of a number.
pub numbered : (part number : ℕ) (lists : List (List Session)) (list sessions : List Session) → AreParts part lists sessions → slice_get lists number ≡ Some list → list ≡ filter (is_in (part + number)) sessions
numbered part number [] list sessions are got = absurd cc
numbered part zero (first ∷ lists) list sessions are got =
    let here : first ≡ list = cc in
    let same : part ≡ part + 0 = omega arith in
    sym here ∙ are.0 ∙ ap (λ n. filter (is_in n) sessions) same
numbered part (suc number) (first ∷ lists) list sessions are got =
    let same : suc part + number ≡ part + suc number = omega arith in
    numbered (suc part) number lists list sessions are.1 got ∙ ap (λ n. filter (is_in n) sessions) same

-- A list in which a session begins grows where none stands there.
begun_grown : (new : Session) (sessions : List Session) → Ordered sessions → length (begun new sessions) ≡ length sessions + grown (session_at (place_of new) sessions)
begun_grown new [] order = refl
begun_grown new (s ∷ sessions) order = by (place_cmp (place_of new) (place_of s)) refl (begun_grown new sessions order.1)
  where
    by : (o : Ordering) → place_cmp (place_of new) (place_of s) ≡ o → length (begun new sessions) ≡ length sessions + grown (session_at (place_of new) sessions)
        → length (match_ordering o (new ∷ s ∷ sessions) (new ∷ sessions) (s ∷ begun new sessions)) ≡ suc (length sessions) + grown (session_at (place_of new) (s ∷ sessions))
    by Less e h =
        let none = ap grown (none_there (place_of new) (s ∷ sessions) (e, chain (place_of new) (place_of s) sessions e order.0)) in
        omega (arith, none)
    by Equal e h =
        let here = ap (λ o. grown (cond (is_eq o) (Some s) (session_at (place_of new) sessions))) e in
        omega (arith, here)
    by Greater e h =
        let there = ap (λ o. grown (cond (is_eq o) (Some s) (session_at (place_of new) sessions))) e in
        omega (arith, h, there)

again_as_long : (place : ℕ × ℕ) (framed : ℕ) (found : Option Session) (sessions : List Session) → Ordered sessions → session_at place sessions ≡ found → length (again framed found sessions) ≡ length sessions
again_as_long place framed None sessions order e = refl
again_as_long place framed (Some s) sessions order e =
    let there : session_at (place_of s) sessions ≡ Some s = subst (λ p. session_at p sessions ≡ Some s) (found_there place sessions s e) e in
    let none = ap grown there in
    let all = begun_grown (with_framed framed s) sessions order in
    omega (arith, none, all)

-- A change that is not too many leaves no more than may stand.
pub after_fits : (sessions : List Session) (change : Change) → Ordered sessions → is_too_many sessions change ≡ false → length sessions ≤ limit → length (after sessions change) ≤ limit
unfolding after
after_fits sessions (Begin session) order few fits = by (session_at (place_of session) sessions) refl (nat_le limit (length sessions)) refl
  where
    by : (found : Option Session) → session_at (place_of session) sessions ≡ found → (b : Bool) → nat_le limit (length sessions) ≡ b → length (begun session sessions) ≤ limit
    by (Some s) e b f =
        let all = begun_grown session sessions order in
        let none = ap grown e in
        omega (arith, all, none, fits)
    by None e true f = absurd (true≢false (sym (ap (λ b. b && not (is_some (session_at (place_of session) sessions))) f ∙ ap (λ o. not (is_some o)) e) ∙ few))
    by None e false f =
        let all = begun_grown session sessions order in
        let one = ap grown e in
        let less = leb-false limit (length sessions) f in
        omega (arith, all, one, less)
after_fits sessions (Renew nas port framed) order few fits =
    let same = again_as_long (nas, port) framed (session_at (nas, port) sessions) sessions order refl in
    omega (arith, same, fits)
after_fits sessions (End nas port) order few fits = omega (arith, ended_shorter (nas, port) sessions, fits)
after_fits sessions (Clear nas) order few fits = omega (arith, filter_shorter (is_elsewhere nas) sessions, fits)

-- The part of a user is there, is no longer than the list, and has all sessions of that user.
part_stands : (user : List ℕ) (lists : List (List Session)) (list : List Session) → IsParted lists → slice_get lists (part_of user) ≡ Some list → list ≡ filter (is_in (part_of user)) (joined [] lists)
part_stands user lists list parted got = let same : 0 + part_of user ≡ part_of user = omega arith in numbered 0 (part_of user) lists list (joined [] lists) parted.parts got ∙ ap (λ n. filter (is_in n) (joined [] lists)) same

pub part_counts : (user : List ℕ) (lists : List (List Session)) (list : List Session) → IsParted lists → slice_get lists (part_of user) ≡ Some list → count_of user list ≡ count_of user (joined [] lists)
part_counts user lists list parted got = ap (count_of user) (part_stands user lists list parted got) ∙ sym (counted user (joined [] lists))

pub part_fits : (user : List ℕ) (lists : List (List Session)) (list : List Session) → IsParted lists → slice_get lists (part_of user) ≡ Some list → length list ≤ length (joined [] lists)
part_fits user lists list parted got =
    let same = ap length (part_stands user lists list parted got) in
    omega (arith, same, filter_shorter (is_in (part_of user)) (joined [] lists))
