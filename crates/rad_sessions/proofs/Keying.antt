-- Sessions that are kept under their places.
use Rattle.std.proofs.Common.{◌≡◌, ℕ, Bool, true, false, cond, not, eqb, List, [], ◌∷◌, length, map, Option, Some, None, is_some, suc, refl, sym, ap, ◌∙◌}
use Rattle.std.specs.declared.cmp.Ordering.{Ordering}
use Rattle.std.specs.declared.cmp.Ordering.TheVariants.{Less, Equal, Greater}
use Rattle.std.specs.Ordering.{nat_cmp, ordering_then, match_ordering, is_eq}
use Rattle.std.specs.Option.{option_map}
use Rattle.std.specs.List.{AllZip, filter}
use Rattle.std.specs.Str.{bytes_eq}
use Rattle.std.specs.Map.{lookup, remove_entry, keys_of}
use Rattle.std.specs.BTreeMap.{insert_entry}
use Rattle.std.proofs.lemmas.Bool.{true≢false}
use Rattle.std.proofs.lemmas.Cmp.{ranked}
use Rattle.rad_sessions.specs.declared.session.Session.{Session}
use Rattle.rad_sessions.specs.Listed.{place_of, place_cmp, is_at, session_at, begun, ended, is_elsewhere, count_of}
use Rattle.rad_sessions.specs.Keyed.{sessions_of, AreKeyed, grown}

same_number : (x y : ℕ) → nat_cmp x y ≡ Equal → x ≡ y
same_number x y e = ranked x y Equal (sym e)

both_same : (p q : ℕ × ℕ) → p.0 ≡ q.0 → p.1 ≡ q.1 → p ≡ q
both_same p q first second = ap (λ (n : ℕ). (n, p.1)) first ∙ ap (λ (n : ℕ). (q.0, n)) second

pub same_place : (p q : ℕ × ℕ) → place_cmp p q ≡ Equal → p ≡ q
same_place p q e = (elim (nat_cmp p.0 q.0) as (λ o. nat_cmp p.0 q.0 ≡ o → ordering_then o (nat_cmp p.1 q.1) ≡ Equal → p ≡ q) [
  | Less ↦ λ first is. absurd (true≢false (sym (ap is_eq is)))
  | Equal ↦ λ first is. both_same p q (same_number p.0 q.0 first) (same_number p.1 q.1 is)
  | Greater ↦ λ first is. absurd (true≢false (sym (ap is_eq is)))
]) refl e

-- A session that is at a place is of that place.
pub at_place : (place : ℕ × ℕ) (s : Session) → is_at place s ≡ true → place ≡ place_of s
at_place place s e = by (place_cmp place (place_of s)) refl e
  where
    by : (o : Ordering) → place_cmp place (place_of s) ≡ o → is_eq o ≡ true → place ≡ place_of s
    by Less q is = absurd cc
    by Equal q is = same_place place (place_of s) q
    by Greater q is = absurd cc

module _ {V : Type 0} (session : V → Session) where
  -- The entry is kept under its place.
  abbrev pub IsKeyed : (ℕ × ℕ) × V → Type 0
  IsKeyed entry = entry.0 ≡ place_of (session entry.1)

  pub keyed_length : (entries : List ((ℕ × ℕ) × V)) → length (sessions_of session entries) ≡ length entries
  keyed_length [] = refl
  keyed_length (e ∷ entries) = ap suc (keyed_length entries)

  found : (b : Bool) (v : V) (one : Option V) (two : Option Session) → option_map session one ≡ two → option_map session (cond b (Some v) one) ≡ cond b (Some (session v)) two
  found true v one two e = refl
  found false v one two e = e

  pub keyed_at : (place : ℕ × ℕ) (entries : List ((ℕ × ℕ) × V)) → AreKeyed session entries → option_map session (lookup (λ k. is_eq (place_cmp place k)) entries) ≡ session_at place (sessions_of session entries)
  keyed_at place [] all = refl
  keyed_at place (e ∷ entries) all =
      ap (λ k. option_map session (cond (is_eq (place_cmp place k)) (Some e.1) (lookup (λ k. is_eq (place_cmp place k)) entries))) all.0
      ∙ found (is_at place (session e.1)) e.1 (lookup (λ k. is_eq (place_cmp place k)) entries) (session_at place (sessions_of session entries)) (keyed_at place entries all.1)

  by_end : (b : Bool) (e : (ℕ × ℕ) × V) (one two : List ((ℕ × ℕ) × V)) (ends : List Session) → sessions_of session two ≡ ends → sessions_of session (cond b one (e ∷ two)) ≡ cond b (sessions_of session one) (session e.1 ∷ ends)
  by_end true e one two ends same = refl
  by_end false e one two ends same = ap (λ more. session e.1 ∷ more) same

  pub keyed_end : (place : ℕ × ℕ) (entries : List ((ℕ × ℕ) × V)) → AreKeyed session entries → sessions_of session (remove_entry (λ k. is_eq (place_cmp place k)) entries) ≡ ended place (sessions_of session entries)
  keyed_end place [] all = refl
  keyed_end place (e ∷ entries) all =
      ap (λ k. sessions_of session (cond (is_eq (place_cmp place k)) entries (e ∷ remove_entry (λ k. is_eq (place_cmp place k)) entries))) all.0
      ∙ by_end (is_at place (session e.1)) e entries (remove_entry (λ k. is_eq (place_cmp place k)) entries) (ended place (sessions_of session entries)) (keyed_end place entries all.1)

  either_keyed : (b : Bool) (one two : List ((ℕ × ℕ) × V)) → AreKeyed session one → AreKeyed session two → AreKeyed session (cond b one two)
  either_keyed true one two first second = first
  either_keyed false one two first second = second

  pub end_keyed : (test : ℕ × ℕ → Bool) (entries : List ((ℕ × ℕ) × V)) → AreKeyed session entries → AreKeyed session (remove_entry test entries)
  end_keyed test [] all = tt
  end_keyed test (e ∷ entries) all = either_keyed (test e.0) entries (e ∷ remove_entry test entries) all.1 (all.0, end_keyed test entries all.1)

  pub filter_keyed : (test : (ℕ × ℕ) × V → Bool) (entries : List ((ℕ × ℕ) × V)) → AreKeyed session entries → AreKeyed session (filter test entries)
  filter_keyed test [] all = tt
  filter_keyed test (e ∷ entries) all = either_keyed (test e) (e ∷ filter test entries) (filter test entries) (all.0, filter_keyed test entries all.1) (filter_keyed test entries all.1)

  by_filter : (b : Bool) (e : (ℕ × ℕ) × V) (two : List ((ℕ × ℕ) × V)) (rest : List Session) → sessions_of session two ≡ rest → sessions_of session (cond b (e ∷ two) two) ≡ cond b (session e.1 ∷ rest) rest
  by_filter true e two rest same = ap (λ more. session e.1 ∷ more) same
  by_filter false e two rest same = same

  pub keyed_clear : (nas : ℕ) (entries : List ((ℕ × ℕ) × V)) → AreKeyed session entries → sessions_of session (filter (λ e. not (eqb e.0.0 nas)) entries) ≡ filter (is_elsewhere nas) (sessions_of session entries)
  keyed_clear nas [] all = refl
  keyed_clear nas (e ∷ entries) all =
      ap (λ (k : ℕ × ℕ). sessions_of session (cond (not (eqb k.0 nas)) (e ∷ filter (λ e. not (eqb e.0.0 nas)) entries) (filter (λ e. not (eqb e.0.0 nas)) entries))) all.0
      ∙ by_filter (is_elsewhere nas (session e.1)) e (filter (λ e. not (eqb e.0.0 nas)) entries) (filter (is_elsewhere nas) (sessions_of session entries)) (keyed_clear nas entries all.1)

  -- The entries with one more under its place.
  abbrev pub IsBegun : Session → List Session → List ((ℕ × ℕ) × V) → Type 0
  IsBegun new sessions entries = (sessions_of session entries ≡ begun new sessions) × AreKeyed session entries

  by_order : (o : Ordering) (v : V) (e : (ℕ × ℕ) × V) (entries more : List ((ℕ × ℕ) × V)) (rest : List Session) → (o ≡ Equal → place_of (session v) ≡ e.0) → IsKeyed e → AreKeyed session entries
      → sessions_of session more ≡ rest → AreKeyed session more
      → (sessions_of session (match_ordering o ((place_of (session v), v) ∷ e ∷ entries) ((e.0, v) ∷ entries) (e ∷ more)) ≡ match_ordering o (session v ∷ session e.1 ∷ sessions_of session entries) (session v ∷ sessions_of session entries) (session e.1 ∷ rest))
      × AreKeyed session (match_ordering o ((place_of (session v), v) ∷ e ∷ entries) ((e.0, v) ∷ entries) (e ∷ more))
  by_order Less v e entries more rest same one all begins keyed = (refl, (refl, (one, all)))
  by_order Equal v e entries more rest same one all begins keyed = (refl, (sym (same refl), all))
  by_order Greater v e entries more rest same one all begins keyed = (ap (λ more. session e.1 ∷ more) begins, (one, keyed))

  pub keyed_begin : (v : V) (entries : List ((ℕ × ℕ) × V)) → AreKeyed session entries → IsBegun (session v) (sessions_of session entries) (insert_entry place_cmp entries (place_of (session v)) v)
  keyed_begin v [] all = (refl, (refl, tt))
  keyed_begin v (e ∷ entries) all =
      let more = keyed_begin v entries all.1 in
      let order = place_cmp (place_of (session v)) e.0 in
      let here = by_order order v e entries (insert_entry place_cmp entries (place_of (session v)) v) (begun (session v) (sessions_of session entries)) (λ is. same_place (place_of (session v)) e.0 is) all.0 all.1 more.0 more.1 in
      (here.0 ∙ ap (λ k. match_ordering (place_cmp (place_of (session v)) k) (session v ∷ session e.1 ∷ sessions_of session entries) (session v ∷ sessions_of session entries) (session e.1 ∷ begun (session v) (sessions_of session entries))) all.0, here.1)

  -- A copy of entries, place by place.
  pub keyed_copy : (old new : List ((ℕ × ℕ) × V)) → AllZip (λ p q. ((q.0.0 ≡ p.0.0) × (q.0.1 ≡ p.0.1)) × (session q.1 ≡ session p.1)) old new → AreKeyed session old → (sessions_of session new ≡ sessions_of session old) × AreKeyed session new
  keyed_copy [] [] same all = (refl, tt)
  keyed_copy [] (q ∷ new) same all = absurd same
  keyed_copy (p ∷ old) [] same all = absurd same
  keyed_copy (p ∷ old) (q ∷ new) same all =
      let more = keyed_copy old new same.1 all.1 in
      let one : q.0 ≡ p.0 = both_same q.0 p.0 same.0.0.0 same.0.0.1 in
      let two : session q.1 ≡ session p.1 = same.0.1 in
      (ap (λ s. s ∷ sessions_of session new) two ∙ ap (λ rest. session p.1 ∷ rest) more.0, (one ∙ all.0 ∙ ap place_of (sym two), more.1))

  -- How many of a user stand among the entries, one entry at a time.
  pub one_counted : (user : List ℕ) (e : (ℕ × ℕ) × V) (entries : List ((ℕ × ℕ) × V)) → count_of user (sessions_of session (e ∷ entries)) ≡ cond (bytes_eq (session e.1).user user) (suc (count_of user (sessions_of session entries))) (count_of user (sessions_of session entries))
  one_counted user e entries = by_one (bytes_eq (session e.1).user user) where
    by_one : (b : Bool) → length (cond b (session e.1 ∷ filter (λ (s : Session). bytes_eq s.user user) (sessions_of session entries)) (filter (λ (s : Session). bytes_eq s.user user) (sessions_of session entries))) ≡ cond b (suc (count_of user (sessions_of session entries))) (count_of user (sessions_of session entries))
    by_one true = refl
    by_one false = refl

  -- By how many entries a list grows, seen by the session that stands at the place.
  pub grown_by : (one : Option V) (two : Option Session) → option_map session one ≡ two → cond (is_some one) 0 1 ≡ grown two
  grown_by None two e = ap grown e
  grown_by (Some v) two e = ap grown e

  -- Entries that are kept under their places have the places of their sessions as keys.
  pub keyed_places : (entries : List ((ℕ × ℕ) × V)) → AreKeyed session entries → keys_of entries ≡ map place_of (sessions_of session entries)
  keyed_places [] all = refl
  keyed_places (e ∷ entries) all = ap (λ k. k ∷ keys_of entries) all.0 ∙ ap (λ rest. place_of (session e.1) ∷ rest) (keyed_places entries all.1)
