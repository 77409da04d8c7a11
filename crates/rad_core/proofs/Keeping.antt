-- Requests in progress have keys of their own, none of which is kept; and a kept reply stays for its keeping time.
use Rattle.std.proofs.Common.{ℕ, ◌≡◌, ◌+◌, Bool, true, false, cond, List, [], ◌∷◌, ◌++◌, filter, Option, Some, None, refl, ap, sym, ◌∙◌, subst}
use Rattle.std.specs.List.{AllByRecursion, find}
use Rattle.std.specs.Option.{option_or}
use Rattle.std.proofs.lemmas.List.Folds.{find-append}
use Rattle.rad_core.specs.declared.installed.Installed.TheVariants as installed
use Rattle.rad_core.specs.Requests.{RequestKey, InProgress, KeptReply, Requests, key_of, is_kept_for, is_run_for, lasts_at, table_at, with_row, is_at, without_place, kept_of, kept_by, without_request}
use Rattle.rad_core.proofs.Keys.{key_differs, key_apart, AllR-append, AllR-map, AllR-found, AllR-none, find_lost, without_first}

module _ {P : Type 0} where
  -- the key of a request in progress
  abbrev pub row_key : InProgress P → RequestKey
  row_key row = key_of row.arrival

  -- no reply is kept for the request's key
  abbrev pub IsUnkept : List KeptReply → InProgress P → Type 0
  IsUnkept kept row = find (is_kept_for (row_key row)) kept ≡ None

  -- the request has another key
  abbrev pub IsOther : InProgress P → InProgress P → Type 0
  IsOther row other = ¬ (row_key row ≡ row_key other)

  -- each request has a key of its own
  abbrev pub Apart : List (InProgress P) → Type 0
  Apart [] = Unit {0}
  Apart (row ∷ rows) = AllByRecursion (IsOther row) rows × Apart rows

  -- no key stands twice among those in progress, and none of theirs is kept
  pub record IsSound (table : Requests P) : Type 0 where
    pub unkept : AllByRecursion (IsUnkept table.kept) table.in_progress
    pub apart : Apart table.in_progress

  Apart-push : (rows : List (InProgress P)) (row : InProgress P) → Apart rows → AllByRecursion (λ other. IsOther other row) rows → Apart (rows ++ row ∷ [])
  Apart-push [] row apart others = (tt, tt)
  Apart-push (x ∷ xs) row apart others = (AllR-append (IsOther x) xs (row ∷ []) apart.0 (others.0, tt), Apart-push xs row apart.1 others.1)

  -- the rows without that of a place have what all had
  AllR-without : (Q : InProgress P → Type 0) (place : ℕ) (rows : List (InProgress P)) → AllByRecursion Q rows → AllByRecursion Q (without_place place rows)
  AllR-without Q place [] all = tt
  AllR-without Q place (x ∷ xs) all =
      subst (AllByRecursion Q) (sym (without_first (is_at place) x xs))
      (elim (is_at place x) as (λ b. AllByRecursion Q (cond b xs (x ∷ without_place place xs))) [
        | true ↦ all.1
        | false ↦ (all.0, AllR-without Q place xs all.1)
      ])

  Apart-without : (place : ℕ) (rows : List (InProgress P)) → Apart rows → Apart (without_place place rows)
  Apart-without place [] apart = tt
  Apart-without place (x ∷ xs) apart =
      subst Apart (sym (without_first (is_at place) x xs))
      (elim (is_at place x) as (λ b. Apart (cond b xs (x ∷ without_place place xs))) [
        | true ↦ apart.1
        | false ↦ (AllR-without (IsOther x) place xs apart.0, Apart-without place xs apart.1)
      ])

  -- and other keys than the one of that place
  others_left : (place : ℕ) (row : InProgress P) (rows : List (InProgress P)) → Apart rows → find (is_at place) rows ≡ Some row → AllByRecursion (IsOther row) (without_place place rows)
  others_left place row [] apart found = tt
  others_left place row (x ∷ xs) apart found =
      subst (AllByRecursion (IsOther row)) (sym (without_first (is_at place) x xs))
      ((elim (is_at place x) as (λ b. cond b (Some x) (find (is_at place) xs) ≡ Some row → AllByRecursion (IsOther row) (cond b xs (x ∷ without_place place xs))) [
        | true ↦ λ e. let same : x ≡ row = cc in subst (λ (r : InProgress P). AllByRecursion (IsOther r) xs) same apart.0
        | false ↦ λ e. (λ k. AllR-found (IsOther x) (is_at place) xs row apart.0 e (sym k), others_left place row xs apart.1 e)
      ]) found)

  -- no time passes that would make a key be kept
  pub sound_at : (moment : ℕ) (table : Requests P) → IsSound table → IsSound (table_at moment table)
  sound_at moment table sound = record {
    unkept = AllR-map (IsUnkept table.kept) (IsUnkept (filter (lasts_at moment) table.kept)) table.in_progress (λ row none. find_lost (is_kept_for (row_key row)) (lasts_at moment) table.kept none) sound.unkept;
    apart = sound.apart;
  }

  pub sound_with : (row : InProgress P) (table : Requests P) → IsSound table → find (is_kept_for (row_key row)) table.kept ≡ None → find (is_run_for (row_key row)) table.in_progress ≡ None → IsSound (with_row row table)
  sound_with row table sound unkept unrun = record {
    unkept = AllR-append (IsUnkept table.kept) table.in_progress (row ∷ []) sound.unkept (unkept, tt);
    apart = Apart-push table.in_progress row sound.apart (AllR-map (λ (other : InProgress P). is_run_for (row_key row) other ≡ false) (λ other. IsOther other row) table.in_progress (λ other differs. key_apart (row_key other) (row_key row) differs) (AllR-none (is_run_for (row_key row)) table.in_progress unrun));
  }

  -- a request's reply is kept under a key that no other has
  pub sound_without : (delay : P → ℕ) (moment place : ℕ) (reply : Option (List ℕ)) (table : Requests P) → IsSound table → IsSound (without_request delay moment place reply table)
  sound_without delay moment place reply table sound = record {
    unkept = kept_apart reply (find (is_at place) table.in_progress) refl;
    apart = Apart-without place table.in_progress sound.apart;
  }
    where
      same_kept : AllByRecursion (IsUnkept (table.kept ++ [])) (without_place place table.in_progress)
      same_kept = AllR-map (IsUnkept table.kept) (IsUnkept (table.kept ++ [])) (without_place place table.in_progress)
          (λ row none. find-append (is_kept_for (row_key row)) table.kept [] ∙ ap (λ o. option_or o None) none)
          (AllR-without (IsUnkept table.kept) place table.in_progress sound.unkept)

      kept_apart : (reply : Option (List ℕ)) (row : Option (InProgress P)) → find (is_at place) table.in_progress ≡ row → AllByRecursion (IsUnkept (table.kept ++ kept_by delay moment reply row)) (without_place place table.in_progress)
      kept_apart None row found = same_kept
      kept_apart (Some octets) None found = same_kept
      kept_apart (Some octets) (Some row) found =
          let none = AllR-without (IsUnkept table.kept) place table.in_progress sound.unkept in
          let others = others_left place row table.in_progress sound.apart found in
          kept_more octets row (without_place place table.in_progress) none others
        where
          kept_more : (octets : List ℕ) (row : InProgress P) (rows : List (InProgress P)) → AllByRecursion (IsUnkept table.kept) rows → AllByRecursion (IsOther row) rows → AllByRecursion (IsUnkept (table.kept ++ kept_of delay moment octets row ∷ [])) rows
          kept_more octets row [] none others = tt
          kept_more octets row (x ∷ xs) none others = (
            find-append (is_kept_for (row_key x)) table.kept (kept_of delay moment octets row ∷ [])
                ∙ ap (λ o. option_or o (find (is_kept_for (row_key x)) (kept_of delay moment octets row ∷ []))) none.0
                ∙ ap (λ (b : Bool). cond b (Some (kept_of delay moment octets row)) None) (key_differs (row_key row) (row_key x) others.0),
            kept_more octets row xs none.1 others.1,
          )
