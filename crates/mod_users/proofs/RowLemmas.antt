-- Items and entries whose patterns are compiled, one at a time, from the front.
use Rattle.std.proofs.Common.{◌≡◌, ℕ, zero, suc, Bool, true, false, not, cond, List, [], ◌∷◌, ◌++◌, map, reverse, Option, Some, None, Result, Ok, Err, refl, sym, ap, ◌∙◌, append_assoc, subst, length, arith}
use Rattle.std.specs.Option.{option_or, IfSome}
use Rattle.std.specs.List.{slice_get}
use Rattle.std.proofs.lemmas.List.{map-append, reverse-append, reverse-reverse, append-nil}
use Rattle.regex.specs.declared.bytes.regex.Regex.{Regex}
use Rattle.rad_text.specs.declared.spots.Spot.{Spot}
use Rattle.rad_text.specs.declared.read.ReadError.{ReadError}
use Rattle.rad_text.specs.declared.read.ReadError.TheVariants as errors
use Rattle.rad_text.specs.Answers.{IsFault}
use Rattle.rad_pairs.specs.declared.items.Item.{Item}
use Rattle.mod_users.specs.declared.placed.Placed.{Placed}
use Rattle.mod_users.specs.declared.draft.Draft.{Draft}
use Rattle.mod_users.specs.declared.entry.Entry.{Entry}
use Rattle.mod_users.specs.declared.row.Row.{Row}
use Rattle.mod_users.specs.declared.form.Form.{Form}
use Rattle.mod_users.specs.declared.fault.LineFault.{LineFault}
use Rattle.mod_users.specs.declared.fault.LineFault.TheVariants as line
use Rattle.mod_users.specs.declared.fault.UsersFault.TheVariants as fault
use Rattle.mod_users.specs.Reading.{Read, drafts_of}
use Rattle.mod_users.specs.Users.{fault_of, without_patterns, with_patterns, users_of_text, says}
use Rattle.rad_dict.specs.Definitions.{Definitions}
use Rattle.mod_users.specs.Patterns.{pattern_of, is_refused, IsReady}
use Rattle.mod_users.specs.Rows.{regex_at, items_in, entry_of, entries_in, AreReady, IsReadyOf, IsRowOf, AreRows, AreReadyRows, placed_in, all_placed, first_refused, RefusedIn}
use Rattle.mod_users.specs.Search.{entry_key, row_key}
use Rattle.mod_users.proofs.Compiled.{compiled_accepted}

turned : {X : Type 0} (unread new : List X) (x : X) → unread ≡ new ++ x ∷ [] → reverse unread ≡ x ∷ reverse new
turned unread new x e = ap reverse e ∙ reverse-append new (x ∷ [])

moved : {X : Type 0} (front unread new all : List X) (x : X) → front ++ reverse unread ≡ all → unread ≡ new ++ x ∷ [] → (front ++ x ∷ []) ++ reverse new ≡ all
moved front unread new all x whole e = append_assoc front (x ∷ []) (reverse new) ∙ ap (λ xs. front ++ xs) (sym (turned unread new x e)) ∙ whole

whole_is : {X : Type 0} (front unread new all : List X) (x : X) → front ++ reverse unread ≡ all → unread ≡ new ++ x ∷ [] → front ++ x ∷ reverse new ≡ all
whole_is front unread new all x whole e = ap (λ xs. front ++ xs) (sym (turned unread new x e)) ∙ whole

-- ---- accepted and refused patterns

not_refused : (source : Option (List ℕ)) (regex : Option Regex) → IsReady source regex → is_refused source ≡ false
not_refused None regex ready = refl
not_refused (Some source) None ready = absurd ready
not_refused (Some source) (Some regex) ready = ap not (compiled_accepted source regex ready)

refused_append : (xs ys : List Placed) → first_refused (xs ++ ys) ≡ option_or (first_refused xs) (first_refused ys)
refused_append [] ys = refl
refused_append (one ∷ xs) ys =
    elim (is_refused (pattern_of one.item)) as (λ b. cond b (Some one.spot) (first_refused (xs ++ ys)) ≡ option_or (cond b (Some one.spot) (first_refused xs)) (first_refused ys)) [
      | true ↦ refl
      | false ↦ refused_append xs ys
    ]

all_accepted : (placed : List Placed) (regexes : List (Option Regex)) → AreReady (items_in placed) regexes → first_refused placed ≡ None
all_accepted [] regexes ready = refl
all_accepted (one ∷ placed) [] ready = absurd ready
all_accepted (one ∷ placed) (regex ∷ regexes) ready =
    ap (λ (b : Bool). cond b (Some one.spot) (first_refused placed)) (not_refused (pattern_of one.item) regex ready.0) ∙ all_accepted placed regexes ready.1

behind_accepted : (front rest : List Placed) → first_refused front ≡ None → first_refused (front ++ rest) ≡ first_refused rest
behind_accepted front rest all = refused_append front rest ∙ ap (λ (o : Option Spot). option_or o (first_refused rest)) all

before_others : (front rest : List Placed) (spot : Spot) → first_refused front ≡ Some spot → first_refused (front ++ rest) ≡ Some spot
before_others front rest spot refused = refused_append front rest ∙ ap (λ (o : Option Spot). option_or o (first_refused rest)) refused

pub refused_first : (error : ReadError Spot) (front rest : List Placed) → RefusedIn error front → RefusedIn error (front ++ rest)
refused_first errors.NoMemory front rest refused = tt
refused_first (errors.Wrong spot) front rest refused = before_others front rest spot refused

pub refused_behind : (error : ReadError Spot) (front rest : List Placed) (items : List Item) (regexes : List (Option Regex)) → IsReadyOf front items regexes → RefusedIn error rest → RefusedIn error (front ++ rest)
refused_behind errors.NoMemory front rest items regexes ready refused = tt
refused_behind (errors.Wrong spot) front rest items regexes ready refused =
    behind_accepted front rest (all_accepted front regexes (subst (λ (xs : List Item). AreReady xs regexes) ready.same ready.ready)) ∙ refused

-- ---- items

ready_next : (items : List Item) (regexes : List (Option Regex)) (item : Item) (regex : Option Regex) → AreReady items regexes → IsReady (pattern_of item) regex → AreReady (items ++ item ∷ []) (regexes ++ regex ∷ [])
ready_next [] [] item regex before ready = (ready, tt)
ready_next [] (r ∷ regexes) item regex before ready = absurd before
ready_next (x ∷ items) [] item regex before ready = absurd before
ready_next (x ∷ items) (r ∷ regexes) item regex before ready = (before.0, ready_next items regexes item regex before.1 ready)

-- The items in front of those that aren't read yet are there, with their patterns.
pub record Built (placed unread : List Placed) (items : List Item) (regexes : List (Option Regex)) : Type 0 where
  pub front : List Placed
  pub whole : front ++ reverse unread ≡ placed
  pub same : items ≡ items_in front
  pub ready : AreReady items regexes

pub items_start : (placed : List Placed) → Built placed (reverse placed) [] []
items_start placed = record { front = []; whole = reverse-reverse placed; same = refl; ready = tt }

pub items_go_on : (placed unread new : List Placed) (items : List Item) (regexes : List (Option Regex)) (one : Placed) (regex : Option Regex) → Built placed unread items regexes → unread ≡ new ++ one ∷ []
    → IsReady (pattern_of one.item) regex → Built placed new (items ++ one.item ∷ []) (regexes ++ regex ∷ [])
items_go_on placed unread new items regexes one regex built e ready = record {
  front = built.front ++ one ∷ [];
  whole = moved built.front unread new placed one built.whole e;
  same = ap (λ (xs : List Item). xs ++ one.item ∷ []) built.same ∙ sym (map-append (λ (p : Placed). p.item) built.front (one ∷ []));
  ready = ready_next items regexes one.item regex built.ready ready;
}

pub items_end : (error : ReadError Spot) (placed unread new : List Placed) (items : List Item) (regexes : List (Option Regex)) (one : Placed) → Built placed unread items regexes → unread ≡ new ++ one ∷ []
    → RefusedIn error (one ∷ []) → RefusedIn error placed
items_end error placed unread new items regexes one built e refused =
    subst (RefusedIn error) (whole_is built.front unread new placed one built.whole e)
    (refused_behind error built.front (one ∷ reverse new) items regexes (record { same = built.same; ready = built.ready }) (refused_first error (one ∷ []) (reverse new) refused))

pub items_done : (placed : List Placed) (items : List Item) (regexes : List (Option Regex)) → Built placed [] items regexes → IsReadyOf placed items regexes
items_done placed items regexes built = record {
  same = built.same ∙ ap items_in (sym (append-nil built.front) ∙ built.whole);
  ready = built.ready;
}

-- ---- entries

rows_next : (drafts : List Draft) (rows : List Row) (draft : Draft) (row : Row) → AreRows drafts rows → IsRowOf draft row → AreRows (drafts ++ draft ∷ []) (rows ++ row ∷ [])
rows_next [] [] draft row before is = (is, tt)
rows_next [] (r ∷ rows) draft row before is = absurd before
rows_next (d ∷ drafts) [] draft row before is = absurd before
rows_next (d ∷ drafts) (r ∷ rows) draft row before is = (before.0, rows_next drafts rows draft row before.1 is)

-- The entries in front of those that aren't read yet are there, with their patterns.
pub record BuiltRows (drafts unread : List Draft) (rows : List Row) : Type 0 where
  pub front : List Draft
  pub whole : front ++ reverse unread ≡ drafts
  pub rows_are : AreRows front rows

pub rows_start : (drafts : List Draft) → BuiltRows drafts (reverse drafts) []
rows_start drafts = record { front = []; whole = reverse-reverse drafts; rows_are = tt }

pub rows_go_on : (drafts unread new : List Draft) (rows : List Row) (draft : Draft) (row : Row) → BuiltRows drafts unread rows → unread ≡ new ++ draft ∷ [] → IsRowOf draft row → BuiltRows drafts new (rows ++ row ∷ [])
rows_go_on drafts unread new rows draft row built e is = record {
  front = built.front ++ draft ∷ [];
  whole = moved built.front unread new drafts draft built.whole e;
  rows_are = rows_next built.front rows draft row built.rows_are is;
}

row_accepted : (draft : Draft) (row : Row) → IsRowOf draft row → first_refused (placed_in draft) ≡ None
row_accepted draft row is =
    let checks : AreReady (items_in draft.checks) row.checks.items = subst (λ (e : Entry). AreReady e.checks row.checks.items) is.entry is.checks in
    let replies : AreReady (items_in draft.replies) row.replies.items = subst (λ (e : Entry). AreReady e.replies row.replies.items) is.entry is.replies in
    behind_accepted draft.checks draft.replies (all_accepted draft.checks row.checks.items checks) ∙ all_accepted draft.replies row.replies.items replies

-- Where every entry is there, its patterns are accepted.
pub rows_accepted : (drafts : List Draft) (rows : List Row) → AreRows drafts rows → first_refused (all_placed drafts) ≡ None
rows_accepted [] rows are = refl
rows_accepted (draft ∷ drafts) [] are = absurd are
rows_accepted (draft ∷ drafts) (row ∷ rows) are = behind_accepted (placed_in draft) (all_placed drafts) (row_accepted draft row are.0) ∙ rows_accepted drafts rows are.1

placed_append : (front rest : List Draft) → all_placed (front ++ rest) ≡ all_placed front ++ all_placed rest
placed_append [] rest = refl
placed_append (draft ∷ front) rest = ap (λ (xs : List Placed). placed_in draft ++ xs) (placed_append front rest) ∙ sym (append_assoc (placed_in draft) (all_placed front) (all_placed rest))

pub rows_end : (error : ReadError Spot) (drafts unread new : List Draft) (rows : List Row) (draft : Draft) → BuiltRows drafts unread rows → unread ≡ new ++ draft ∷ [] → RefusedIn error (placed_in draft)
    → RefusedIn error (all_placed drafts)
rows_end errors.NoMemory drafts unread new rows draft built e refused = tt
rows_end (errors.Wrong spot) drafts unread new rows draft built e refused =
    ap (λ (xs : List Draft). first_refused (all_placed xs)) (sym (whole_is built.front unread new drafts draft built.whole e))
    ∙ ap first_refused (placed_append built.front (draft ∷ reverse new))
    ∙ behind_accepted (all_placed built.front) (all_placed (draft ∷ reverse new)) (rows_accepted built.front rows built.rows_are)
    ∙ before_others (placed_in draft) (all_placed (reverse new)) spot refused

pub rows_done : (drafts : List Draft) (rows : List Row) → BuiltRows drafts [] rows → AreRows drafts rows
rows_done drafts rows built = subst (λ (xs : List Draft). AreRows xs rows) (sym (append-nil built.front) ∙ built.whole) built.rows_are

pub rows_length : (drafts : List Draft) (rows : List Row) → AreRows drafts rows → length rows ≡ length drafts
rows_length [] [] are = refl
rows_length [] (row ∷ rows) are = absurd are
rows_length (draft ∷ drafts) [] are = absurd are
rows_length (draft ∷ drafts) (row ∷ rows) are = ap suc (rows_length drafts rows are.1)

pub none_unread : {X : Type 0} (unread : List X) → length unread ≡ 0 → unread ≡ []
none_unread [] none = refl
none_unread (x ∷ unread) none = absurd (omega (arith, none))

-- ---- what is read

-- Entries are those of their rows, each of which is ready.
pub rows_ready : (drafts : List Draft) (rows : List Row) → AreRows drafts rows → AreReadyRows rows
rows_ready [] [] are = tt
rows_ready [] (row ∷ rows) are = absurd are
rows_ready (draft ∷ drafts) [] are = absurd are
rows_ready (draft ∷ drafts) (row ∷ rows) are = (record { checks = are.0.checks; replies = are.0.replies }, rows_ready drafts rows are.1)

pub rows_entries : (drafts : List Draft) (rows : List Row) → AreRows drafts rows → map entry_of drafts ≡ entries_in rows
rows_entries [] [] are = refl
rows_entries [] (row ∷ rows) are = absurd are
rows_entries (draft ∷ drafts) [] are = absurd are
rows_entries (draft ∷ drafts) (row ∷ rows) are = ap (λ (e : Entry). e ∷ map entry_of drafts) (sym are.0.entry) ∙ ap (λ (es : List Entry). row.entry ∷ es) (rows_entries drafts rows are.1)

-- What is read of a text whose patterns are accepted.
no_pattern : (form : Form) (text : List ℕ) (dict : Definitions) (drafts : List Draft) (stop : Option LineFault) (rows : List Row) → (drafts, stop) ≡ drafts_of form text dict → AreRows drafts rows
    → users_of_text form text dict ≡ without_patterns (drafts, stop)
unfolding users_of_text
no_pattern form text dict drafts stop rows e are =
    ap (λ (read : Read). with_patterns read (first_refused (all_placed read.0))) (sym e)
    ∙ ap (with_patterns (drafts, stop)) (rows_accepted drafts rows are)

pub rows_read : (form : Form) (text : List ℕ) (dict : Definitions) (drafts : List Draft) (stop : Option LineFault) (rows : List Row) → (drafts, stop) ≡ drafts_of form text dict → stop ≡ None → AreRows drafts rows
    → users_of_text form text dict ≡ Ok (entries_in rows)
rows_read form text dict drafts stop rows e none are =
    no_pattern form text dict drafts stop rows e are
    ∙ ap (λ (o : Option LineFault). without_patterns (drafts, o)) none
    ∙ ap (λ (es : List Entry). Ok es) (rows_entries drafts rows are)

by_fault : (wrong : LineFault) (form : Form) (text : List ℕ) (dict : Definitions) → users_of_text form text dict ≡ Err (fault_of wrong) → IsFault says (users_of_text form text dict) (fault_of wrong)
by_fault (line.UnknownAttr spot) form text dict is = is
by_fault (line.BadOperator spot) form text dict is = is
by_fault (line.BadValue spot) form text dict is = is
by_fault (line.BadEntry spot) form text dict is = is

pub fault_found : (form : Form) (text : List ℕ) (dict : Definitions) (drafts : List Draft) (stop : Option LineFault) (wrong : LineFault) (rows : List Row) → (drafts, stop) ≡ drafts_of form text dict → stop ≡ Some wrong
    → AreRows drafts rows → IsFault says (users_of_text form text dict) (fault_of wrong)
fault_found form text dict drafts stop wrong rows e f are =
    by_fault wrong form text dict (no_pattern form text dict drafts stop rows e are ∙ ap (λ (o : Option LineFault). without_patterns (drafts, o)) f)

pub pattern_found : (form : Form) (text : List ℕ) (dict : Definitions) (drafts : List Draft) (stop : Option LineFault) (spot : Spot) → (drafts, stop) ≡ drafts_of form text dict → first_refused (all_placed drafts) ≡ Some spot
    → users_of_text form text dict ≡ Err (fault.BadPattern spot)
unfolding users_of_text
pattern_found form text dict drafts stop spot e refused =
    ap (λ (read : Read). with_patterns read (first_refused (all_placed read.0))) (sym e) ∙ ap (with_patterns (drafts, stop)) refused

-- ---- rows by their places

pub ready_at : (items : List Item) (regexes : List (Option Regex)) (n : ℕ) → AreReady items regexes → IfSome (slice_get items n) (λ item. IsReady (pattern_of item) (regex_at regexes n))
ready_at [] regexes n ready = tt
ready_at (item ∷ items) [] n ready = absurd ready
ready_at (item ∷ items) (regex ∷ regexes) zero ready = ready.0
ready_at (item ∷ items) (regex ∷ regexes) (suc n) ready = ready_at items regexes n ready.1

pub row_keys : (rows : List Row) → map row_key rows ≡ map entry_key (entries_in rows)
row_keys [] = refl
row_keys (row ∷ rows) = ap (λ (keys : List ℕ). row_key row ∷ keys) (row_keys rows)
