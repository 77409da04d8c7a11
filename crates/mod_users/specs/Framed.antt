-- The module `files` keeps its frame. This project's own.
use Rattle.std.specs.Prelude.{filter}
use Rattle.std.proofs.Common.{◌≡◌, ℕ, Bool, true, false, not, cond, ◌||◌, ◌&&◌, Some, None, List, [], ◌∷◌, ◌++◌, length, refl, sym, ap, ◌∙◌}
use Rattle.std.specs.List.{list_any, AllByRecursion}
use Rattle.std.proofs.lemmas.Bool.{false≢true}
use Rattle.std.proofs.lemmas.List.{append-nil}
use Rattle.std.proofs.Math.Seq.{take-nil}
use Rattle.rad_words.specs.declared.attributes.AttrId.{AttrId}
use Rattle.rad_words.specs.declared.sections.Section.{Section}
use Rattle.rad_words.specs.Attribute.{same_attr}
use Rattle.rad_value.specs.declared.values.Pair.{Pair}
use Rattle.rad_value.specs.declared.edits.Edit.{Edit}
use Rattle.rad_value.specs.declared.edits.ListName.{ListName}
use Rattle.rad_value.specs.declared.edits.ListName.TheVariants.{Request, Reply, Control}
use Rattle.rad_value.specs.PairLists.{same_list, PairLists, list_of}
use Rattle.rad_value.specs.Pairs.{is_of}
use Rattle.rad_value.specs.Edit.{pair_of, edited, is_full, lists_edited, tried}
use Rattle.rad_value.proofs.EditLaws.{edit-others, is_of-own}
use Rattle.rad_dict.specs.Definitions.{Definitions}
use Rattle.rad_dict.proofs.Lookups.{same_attr_is}
use Rattle.mod_base.specs.Situation.{Situation}
use Rattle.mod_base.specs.Meaning.{outside, IsLawful}
use Rattle.mod_base.proofs.Frames.{filter_within}
use Rattle.unlang_xlat.specs.Texts.{expanded}
use Rattle.mod_users.specs.declared.entry.Entry.{Entry}
use Rattle.mod_users.specs.declared.files.FilesModule.{FilesModule}
use Rattle.mod_users.specs.Fits.{fits}
use Rattle.mod_users.specs.Files.{entry_edits, all_edits, all_tried, falls_through, entries, files_done, edits_that, entry_edits_that, frame}
use Rattle.mod_users.specs.Module.{users_of, key_of, edits, does}

module _ (within : ListName → AttrId → Bool) where
  abbrev Kept : Edit → Type 0
  Kept edit = within edit.list edit.attr ≡ true

  abbrev AreKept : List Edit → Type 0
  AreKept es = AllByRecursion Kept es

  abbrev stays : ListName → Pair → Bool
  stays list pair = not (within list pair.attr)

  no_other : (list : ListName) (edit : Edit) → within list edit.attr ≡ true → (pair : Pair) (b : Bool) → is_of edit.attr pair ≡ b → stays list pair ≡ true → not b ≡ true
  no_other list edit kept pair true is stay = absurd (let same = same_attr_is pair.attr edit.attr is in let there : within list pair.attr ≡ true = ap (within list) same ∙ kept in false≢true (sym (ap not there) ∙ stay))
  no_other list edit kept pair false is stay = refl

  -- an edit within the frame leaves the pairs outside
  one_list : (list : ListName) (edit : Edit) (pairs : List Pair) → within list edit.attr ≡ true → filter (stays list) (edited pairs edit) ≡ filter (stays list) pairs
  one_list list edit pairs kept =
      let q : (Pair → Bool) = λ p. not (is_of edit.attr p) in
      let wider = λ (p : Pair) (stay : stays list p ≡ true). no_other list edit kept p (is_of edit.attr p) refl stay in
      filter_within (stays list) q wider (edited pairs edit)
      ∙ ap (filter (stays list)) (edit-others edit.op (pair_of edit) pairs)
      ∙ sym (filter_within (stays list) q wider pairs)

  by_list : (named list : ListName) (edit : Edit) (lists : PairLists) → within named edit.attr ≡ true → edit.list ≡ named → outside within list (lists_edited lists edit) ≡ outside within list lists
  by_list Request Request edit lists kept e = rw e (one_list Request edit lists.request kept)
  by_list Request Reply edit lists kept e = rw e refl
  by_list Request Control edit lists kept e = rw e refl
  by_list Reply Request edit lists kept e = rw e refl
  by_list Reply Reply edit lists kept e = rw e (one_list Reply edit lists.reply kept)
  by_list Reply Control edit lists kept e = rw e refl
  by_list Control Request edit lists kept e = rw e refl
  by_list Control Reply edit lists kept e = rw e refl
  by_list Control Control edit lists kept e = rw e (one_list Control edit lists.control kept)

  by_trial : (list : ListName) (edit : Edit) (es : List Edit) (lists : PairLists) (full : Bool) → Kept edit → ((more : PairLists) → outside within list (all_tried more es).0 ≡ outside within list more)
      → outside within list (elim (cond full None (Some (lists_edited lists edit))) as (λ _. PairLists × Bool) [ None ↦ (lists, false) | Some more ↦ all_tried more es ]).0 ≡ outside within list lists
  by_trial list edit es lists true kept rest = refl
  by_trial list edit es lists false kept rest = rest (lists_edited lists edit) ∙ by_list edit.list list edit lists kept refl

  all_stay : (list : ListName) (es : List Edit) (lists : PairLists) → AreKept es → outside within list (all_tried lists es).0 ≡ outside within list lists
  unfolding tried
  all_stay list [] lists kept = refl
  all_stay list (edit ∷ es) lists kept = by_trial list edit es lists (is_full edit.op edit.attr (list_of lists edit.list)) kept.0 (λ more. all_stay list es more kept.1)

  kept_both : (xs ys : List Edit) → AreKept xs → AreKept ys → AreKept (xs ++ ys)
  kept_both [] ys first second = second
  kept_both (x ∷ xs) ys first second = (first.0, kept_both xs ys first.1 second)

  abbrev EntryKept : Entry → Type 0
  EntryKept entry = AreKept (entry_edits entry)

  by_match : (entry : Entry) (rows : List Entry) (key : List ℕ) (dict : Definitions) (lists : PairLists) (matches through : Bool) → EntryKept entry → ((more : PairLists) → AreKept (all_edits (entries rows key dict more)))
      → AreKept (all_edits (cond matches (entry ∷ cond through (entries rows key dict (all_tried lists (entry_edits entry)).0) []) (entries rows key dict lists)))
  by_match entry rows key dict lists true true kept rest = kept_both (entry_edits entry) (all_edits (entries rows key dict (all_tried lists (entry_edits entry)).0)) kept (rest (all_tried lists (entry_edits entry)).0)
  by_match entry rows key dict lists true false kept rest = kept_both (entry_edits entry) [] kept tt
  by_match entry rows key dict lists false through kept rest = rest lists

  entries_kept : (rows : List Entry) (key : List ℕ) (dict : Definitions) (lists : PairLists) → AllByRecursion EntryKept rows → AreKept (all_edits (entries rows key dict lists))
  entries_kept [] key dict lists kept = tt
  entries_kept (entry ∷ rows) key dict lists kept =
      by_match entry rows key dict lists (fits entry key lists.request dict) (falls_through entry) kept.0 (λ more. entries_kept rows key dict more kept.1)

own_list : (list : ListName) (b : Bool) → b ≡ true → (same_list list list && b) ≡ true
own_list Request b e = e
own_list Reply b e = e
own_list Control b e = e

own : (edit : Edit) → edits_that edit.list edit.attr edit ≡ true
own edit = own_list edit.list (same_attr edit.attr edit.attr) (is_of-own (pair_of edit))

from_first : (a b : Bool) → a ≡ true → (a || b) ≡ true
from_first true b e = refl
from_first false b e = absurd (false≢true e)

from_second : (a b : Bool) → b ≡ true → (a || b) ≡ true
from_second true b e = refl
from_second false b e = e

own_edits : (within : ListName → AttrId → Bool) (es : List Edit) → ((list : ListName) (attr : AttrId) → list_any (edits_that list attr) es ≡ true → within list attr ≡ true) → AreKept within es
own_edits within [] wide = tt
own_edits within (edit ∷ es) wide = (
  wide edit.list edit.attr (from_first (edits_that edit.list edit.attr edit) (list_any (edits_that edit.list edit.attr) es) (own edit)),
  own_edits within es (λ list attr e. wide list attr (from_second (edits_that list attr edit) (list_any (edits_that list attr) es) e)),
)

own_rows : (within : ListName → AttrId → Bool) (rows : List Entry) → ((list : ListName) (attr : AttrId) → list_any (entry_edits_that list attr) rows ≡ true → within list attr ≡ true) → AllByRecursion (EntryKept within) rows
own_rows within [] wide = tt
own_rows within (entry ∷ rows) wide = (
  own_edits within (entry_edits entry) (λ list attr e. wide list attr (from_first (entry_edits_that list attr entry) (list_any (entry_edits_that list attr) rows) e)),
  own_rows within rows (λ list attr e. wide list attr (from_second (entry_edits_that list attr entry) (list_any (entry_edits_that list attr) rows) e)),
)

-- What the users leave outside of their frame.
pub frame_kept : (rows : List Entry) (key : List ℕ) (dict : Definitions) (lists : PairLists) (list : ListName) → outside (frame rows) list (files_done rows key dict lists).0 ≡ outside (frame rows) list lists
unfolding files_done frame
frame_kept rows key dict lists list =
    let within = frame rows in
    all_stay within list (all_edits (entries rows key dict lists)) lists (entries_kept within rows key dict lists (own_rows within rows (λ named attr e. e)))

-- The module `files` is lawful: it makes no effects, and keeps its frame.
pub is_lawful : (m : FilesModule) (dict : Definitions) (method : Section) (situation : Situation) → IsLawful (edits m) method situation (does m dict situation).0
is_lawful m dict method situation = record {
  added = [];
  makes = record {
    effects = sym (append-nil situation.effects);
    answers = refl;
    used = take-nil (length situation.answers);
    sessions = refl;
  };
  scope = record {
    pairs = frame_kept (users_of m) (expanded situation.scope dict (key_of m)) dict situation.scope.lists;
    loops = refl;
    last = refl;
    choices = refl;
    from = refl;
    moment = refl;
    luck = refl;
    authenticator = refl;
  };
  sessions = λ other. refl;
}
