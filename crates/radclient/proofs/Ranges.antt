-- What words ask for is in its range.
use Rattle.std.proofs.Common.{◌≡◌, ℕ, ◌≤◌, Bool, true, false, cond, ◌&&◌, List, length, Option, Some, None, refl, ap, subst, arith}
use Rattle.std.specs.Prelude.{nat_le, nat_lt, slice_get, codes}
use Rattle.std.proofs.lemmas.Bool.{and_parts, leb-true}
use Rattle.rad_text.specs.Find.{◌>>=◌}
use Rattle.rad_text.specs.Numerals.{number_of}
use Rattle.rad_args.specs.declared.item.Item.{Item}
use Rattle.rad_args.specs.Found.{plain_words, value_of}
use Rattle.rad_args.specs.Numbers.{number_in, within}
use Rattle.rad_args.specs.Words.{arguments, has_letter}
use Rattle.radclient.specs.Words.{IsInRange, Line, asked_by, file_or, kind_of, last, line_of, line_of_items, number_or, port_for, secret_of, server_of}

abbrev some_or : {A : Type 0} → A → Option A → A
some_or other None = other
some_or other (Some x) = x

same_some : {A : Type 0} (x y : A) → Some x ≡ Some y → x ≡ y
same_some x y same = ap (some_or x) same

-- where a reading after another finds something, both do
record Both {A B : Type 0} (first : Option A) (next : A → Option B) (found : B) : Type 0 where
  pub value : A
  pub before : first ≡ Some value
  pub after : next value ≡ Some found

both : {A B : Type 0} (first : Option A) (next : A → Option B) (found : B) → (first >>= next) ≡ Some found → Both first next found
both None next found is = cc
both (Some x) next found is = record { value = x; before = refl; after = is }

within_yes : (least most number found : ℕ) (b : Bool) → (nat_le least number && nat_le number most) ≡ b → cond b (Some number) None ≡ Some found → (least ≤ found) × (found ≤ most)
within_yes least most number found true fits is =
    let same = same_some number found is in
    let parts = and_parts (nat_le least number) (nat_le number most) fits in
    let low = leb-true least number parts.0 in
    let high = leb-true number most parts.1 in
    (omega (arith, same, low), omega (arith, same, high))
within_yes least most number found false fits is = cc

number_yes : (least most : ℕ) (word : List ℕ) (found : ℕ) (b : Bool) → cond b None (number_of 10 word >>= within least most) ≡ Some found → (least ≤ found) × (found ≤ most)
number_yes least most word found true is = cc
number_yes least most word found false is =
    let read = both (number_of 10 word) (within least most) found is in
    within_yes least most read.value found (nat_le least read.value && nat_le read.value most) refl read.after

number_in_yes : (least most : ℕ) (word : List ℕ) (found : ℕ) → number_in least most word ≡ Some found → (least ≤ found) × (found ≤ most)
unfolding number_in
number_in_yes least most word found is = number_yes least most word found (nat_lt 10 (length word)) is

number_or_yes : (value : Option (List ℕ)) (default most found : ℕ) → 1 ≤ default → default ≤ most → number_or default most value ≡ Some found → (1 ≤ found) × (found ≤ most)
number_or_yes None default most found low high is = let same = same_some default found is in (omega (arith, same, low), omega (arith, same, high))
number_or_yes (Some word) default most found low high is = number_in_yes 1 most word found is

secret_yes : (word found : List ℕ) (b : Bool) → (nat_le 1 (length word) && nat_le (length word) 128) ≡ b → cond b (Some word) None ≡ Some found → (1 ≤ length found) × (length found ≤ 128)
secret_yes word found true fits is =
    let same : length word ≡ length found = ap (λ (l : List ℕ). length l) (same_some word found is) in
    let parts = and_parts (nat_le 1 (length word)) (nat_le (length word) 128) fits in
    let low = leb-true 1 (length word) parts.0 in
    let high = leb-true (length word) 128 parts.1 in
    (omega (arith, same, low), omega (arith, same, high))
secret_yes word found false fits is = cc

asked_yes : (items : List Item) (server kind secret : List ℕ) (line : Line) → asked_by items server kind secret ≡ Some line → IsInRange line.asked
unfolding asked_by
asked_yes items server kind secret line is =
    let a = both (kind_of kind) _ line is in
    let b = both (server_of (port_for a.value) server) _ line a.after in
    let c = both (secret_of secret) _ line b.after in
    let d = both (number_or 1 10000 (value_of 99 items)) _ line c.after in
    let e = both (number_or 10 100 (value_of 114 items)) _ line d.after in
    let f = both (number_or 3 3600 (value_of 116 items)) _ line e.after in
    let found : Line = record {
      asked = record {
        server = b.value;
        kind = a.value;
        secret = c.value;
        count = d.value;
        tries = e.value;
        waits = f.value;
        quiet = has_letter 113 items;
        shown = has_letter 120 items;
      };
      file = file_or (value_of 102 items);
    } in
    let same = same_some found line f.after in
    subst (λ (l : Line). IsInRange l.asked) same (record {
      secret = secret_yes secret c.value (nat_le 1 (length secret) && nat_le (length secret) 128) refl c.before;
      count = number_or_yes (value_of 99 items) 1 10000 d.value (omega arith) (omega arith) d.before;
      tries = number_or_yes (value_of 114 items) 10 100 e.value (omega arith) (omega arith) e.before;
      waits = number_or_yes (value_of 116 items) 3 3600 f.value (omega arith) (omega arith) f.before;
    })

last_yes : (word : Option (List ℕ)) (line : Option Line) (found : Line) → last word line ≡ Some found → line ≡ Some found
last_yes None line found is = is
last_yes (Some word) line found is = cc

items_yes : (items : List Item) (line : Line) → line_of_items items ≡ Some line → IsInRange line.asked
unfolding line_of_items
items_yes items line is =
    let a = both (slice_get (plain_words items) 0) _ line is in
    let b = both (slice_get (plain_words items) 1) _ line a.after in
    let c = both (slice_get (plain_words items) 2) _ line b.after in
    asked_yes items a.value b.value c.value line (last_yes (slice_get (plain_words items) 3) (asked_by items a.value b.value c.value) line c.after)

pub words_yes : (words : List (List ℕ)) (line : Line) → line_of words ≡ Some line → IsInRange line.asked
words_yes words line is =
    let a = both (arguments (codes "xq") (codes "fcrt") words) line_of_items line is in items_yes a.value line a.after
