-- Items and lines, one after another.
use Rattle.std.proofs.Common.{◌≡◌, ℕ, zero, suc, ◌+◌, ◌≤◌, List, [], ◌∷◌, length, drop, Result, Ok, Err, refl, sym, ap, ◌∙◌, drop-cons, add-one, arith}
use Rattle.std.specs.Prelude.{slice_get, Some, None}
use Rattle.std.proofs.lemmas.List.{drop_all}
use Rattle.std.proofs.lemmas.Option.{none-some, slice_get_within, get_or_from_slice_get}
use Rattle.rad_text.specs.declared.read.ReadError.{ReadError}
use Rattle.rad_text.specs.declared.read.ReadError.TheVariants.{NoMemory, Wrong}
use Rattle.rad_text.specs.Read.{◌>>=◌, Fails}
use Rattle.rad_value.specs.PairLists.{PairLists}
use Rattle.rad_pairs.specs.declared.items.Item.{Item}
use Rattle.radclient.specs.declared.fault.LineFault.{LineFault}
use Rattle.radclient.specs.Groups.{Reading, closed, groups_of, line_read, lines_read, unread, added, with_items}
use Rattle.rad_text.specs.Lines.{lines_of}

fails_along : {A B F : Type 0} (error : ReadError F) (read : Result A F) (whole : Result B F) → ((wrong : F) → read ≡ Err wrong → whole ≡ Err wrong) → Fails error read → Fails error whole
fails_along NoMemory read whole along fails = tt
fails_along (Wrong wrong) read whole along fails = along wrong fails

at_item : (items : List Item) (n : ℕ) (item : Item) → slice_get items n ≡ Some item → drop n items ≡ item ∷ drop (n + 1) items
at_item items n item found =
    drop-cons items n item (slice_get_within items n item found)
    ∙ ap (λ (i : Item). i ∷ drop (suc n) items) (get_or_from_slice_get items n item item found)
    ∙ ap (λ (m : ℕ). item ∷ drop m items) (sym (add-one n))

module _ (pairs : PairLists) (items : List Item) (n : ℕ) (item : Item) (found : slice_get items n ≡ Some item) where
  first_item : with_items pairs (drop n items) ≡ with_items (added pairs item) (drop (n + 1) items)
  unfolding with_items
  first_item = ap (with_items pairs) (at_item items n item found)

  pub items_more : (whole next : PairLists) → next ≡ added pairs item → whole ≡ with_items pairs (drop n items) → whole ≡ with_items next (drop (n + 1) items)
  items_more whole next is so_far = so_far ∙ first_item ∙ ap (λ (p : PairLists). with_items p (drop (n + 1) items)) (sym is)

pub items_end : (pairs : PairLists) (items : List Item) (n : ℕ) (whole : PairLists) → length items ≤ n → whole ≡ with_items pairs (drop n items) → whole ≡ pairs
unfolding with_items
items_end pairs items n whole past so_far = so_far ∙ ap (with_items pairs) (drop_all n items past)

module _ (reading : Reading) (lines : List (List ℕ)) (text : List ℕ) (after : List (List ℕ)) (found : lines ≡ text ∷ after) where
  first_line : lines_read reading lines ≡ (line_read reading text >>= λ next. lines_read next after)
  unfolding lines_read
  first_line = ap (lines_read reading) found

  pub lines_more : (whole : Result Reading LineFault) (next : Reading) → line_read reading text ≡ Ok next → whole ≡ lines_read reading lines → whole ≡ lines_read next after
  lines_more whole next is so_far = so_far ∙ first_line ∙ ap (λ (r : Result Reading LineFault). r >>= λ n. lines_read n after) is

  pub lines_wrong : (whole : Result Reading LineFault) (error : ReadError LineFault) → Fails error (line_read reading text) → whole ≡ lines_read reading lines → Fails error whole
  lines_wrong whole error fails so_far =
      fails_along error (line_read reading text) whole (λ wrong is. so_far ∙ first_line ∙ ap (λ (r : Result Reading LineFault). r >>= λ n. lines_read n after) is) fails

no_lines : lines_of [] ≡ []
unfolding lines_of
no_lines = refl

no_more : (reading : Reading) → lines_read reading [] ≡ Ok reading
unfolding lines_read
no_more reading = refl

pub lines_end : (reading : Reading) (text : List ℕ) (whole : Result Reading LineFault) → length text ≡ 0 → whole ≡ lines_read reading (lines_of text) → whole ≡ Ok reading
lines_end reading [] whole none so_far = so_far ∙ ap (lines_read reading) no_lines ∙ no_more reading
lines_end reading (c ∷ text) whole none so_far = absurd (omega (arith, none))

pub none_past : (items : List Item) (n : ℕ) → slice_get items n ≡ None → length items ≤ n
none_past [] n none = omega arith
none_past (p ∷ items) zero none = absurd (none-some p (sym none))
none_past (p ∷ items) (suc n) none = omega (arith, none_past items n none)

pub groups_read : (text : List ℕ) (reading : Reading) → lines_read unread (lines_of text) ≡ Ok reading → groups_of text ≡ Ok (closed reading).groups
unfolding groups_of
groups_read text reading is = ap (λ (r : Result Reading LineFault). r >>= λ n. Ok (closed n).groups) is

pub groups_wrong : (text : List ℕ) (error : ReadError LineFault) → Fails error (lines_read unread (lines_of text)) → Fails error (groups_of text)
unfolding groups_of
groups_wrong text error fails =
    fails_along error (lines_read unread (lines_of text)) (groups_of text) (λ wrong is. ap (λ (r : Result Reading LineFault). r >>= λ n. Ok (closed n).groups) is) fails
