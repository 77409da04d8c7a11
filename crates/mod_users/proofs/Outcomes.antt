-- The entries that match, one entry at a time.
use Rattle.std.proofs.Common.{◌≡◌, ℕ, Bool, true, false, cond, ◌||◌, List, [], ◌∷◌, refl, ap, ◌∙◌}
use Rattle.rad_words.specs.declared.codes.Code.{Code}
use Rattle.rad_words.specs.declared.codes.Code.TheVariants as code
use Rattle.rad_value.specs.PairLists.{PairLists}
use Rattle.rad_dict.specs.Definitions.{Definitions}
use Rattle.mod_users.specs.declared.entry.Entry.{Entry}
use Rattle.mod_users.specs.declared.search.Next.{Next}
use Rattle.mod_users.specs.declared.search.Next.TheVariants as next
use Rattle.mod_users.specs.Fits.{fits}
use Rattle.mod_users.specs.Files.{entry_edits, all_edits, all_tried, falls_through, entries, code_of, done_by, outcome}
use Rattle.mod_users.specs.Search.{after_entry, entry_tried}
use Rattle.mod_users.proofs.Trials.{all_tried-append}

-- What comes behind a entry that was tried.
abbrev pub after_next : Bool → List Entry → List ℕ → Definitions → PairLists × Next → PairLists × Code
after_next found rows key dict after = elim after.1 [
  | next.Passed ↦ outcome found rows key dict after.0
  | next.Through ↦ outcome true rows key dict after.0
  | next.Ends c ↦ (after.0, c)
]

found_now : (found : Bool) → (found || true) ≡ true
found_now true = refl
found_now false = refl

-- the run behind an entry that matched
by_match : (found : Bool) (entry : Entry) (rows : List Entry) (key : List ℕ) (dict : Definitions) (lists new : PairLists) (done through : Bool) → (new, done) ≡ all_tried lists (entry_edits entry)
    → done_by found (entry ∷ cond through (entries rows key dict new) []) lists
    ≡ after_next found rows key dict (elim done [ true ↦ (new, cond through next.Through (next.Ends code.Ok)) | false ↦ (new, next.Ends code.Fail) ])
by_match found entry rows key dict lists new true true e =
    let more = all_edits (entries rows key dict new) in
    ap (λ (end : PairLists × Bool). (end.0, code_of (found || true) end.1)) (all_tried-append (entry_edits entry) more lists new true e)
    ∙ ap (λ (b : Bool). ((all_tried new more).0, code_of b (all_tried new more).1)) (found_now found)
by_match found entry rows key dict lists new true false e =
    ap (λ (end : PairLists × Bool). (end.0, code_of (found || true) end.1)) (all_tried-append (entry_edits entry) [] lists new true e)
    ∙ ap (λ (b : Bool). (new, code_of b true)) (found_now found)
by_match found entry rows key dict lists new false true e =
    ap (λ (end : PairLists × Bool). (end.0, code_of (found || true) end.1)) (all_tried-append (entry_edits entry) (all_edits (entries rows key dict new)) lists new false e)
    ∙ ap (λ (b : Bool). (new, code_of b false)) (found_now found)
by_match found entry rows key dict lists new false false e =
    ap (λ (end : PairLists × Bool). (end.0, code_of (found || true) end.1)) (all_tried-append (entry_edits entry) [] lists new false e)
    ∙ ap (λ (b : Bool). (new, code_of b false)) (found_now found)

-- The run of a entry and those behind it.
pub outcome-cons : (found : Bool) (entry : Entry) (rows : List Entry) (key : List ℕ) (dict : Definitions) (lists : PairLists)
    → outcome found (entry ∷ rows) key dict lists ≡ after_next found rows key dict (entry_tried entry key dict lists)
unfolding entry_tried
outcome-cons found entry rows key dict lists =
    let after = all_tried lists (entry_edits entry) in
    elim (fits entry key lists.request dict) as (λ b. done_by found (cond b (entry ∷ cond (falls_through entry) (entries rows key dict after.0) []) (entries rows key dict lists)) lists
    ≡ after_next found rows key dict (cond b (after_entry entry after) (lists, next.Passed))) [
      | true ↦ by_match found entry rows key dict lists after.0 after.1 (falls_through entry) refl
      | false ↦ refl
    ]

-- A entry that doesn't match is passed.
pub outcome-passed : (found : Bool) (entry : Entry) (rows : List Entry) (key : List ℕ) (dict : Definitions) (lists : PairLists) → fits entry key lists.request dict ≡ false
    → outcome found (entry ∷ rows) key dict lists ≡ outcome found rows key dict lists
outcome-passed found entry rows key dict lists e =
    ap (λ (b : Bool). done_by found (cond b (entry ∷ cond (falls_through entry) (entries rows key dict (all_tried lists (entry_edits entry)).0) []) (entries rows key dict lists)) lists) e
