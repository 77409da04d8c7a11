-- A file's groups are its lines, parted at the empty ones.
use Rattle.std.proofs.Common.{◌≡◌, ℕ, zero, suc, ◌≤◌, Bool, true, false, cond, ◌≢◌, List, [], ◌∷◌, ◌++◌, length, map, take, Result, Ok, Err, refl, sym, ap, ◌∙◌, subst, append_assoc, append-nil, arith}
use Rattle.std.specs.Prelude.{nat_lt}
use Rattle.std.specs.List.{flat_map, onto_first, slice_split}
use Rattle.std.proofs.lemmas.Bool.{ltb-true, ltb-false}
use Rattle.std.proofs.lemmas.List.{length-append, map-append, take_all, take-append-le}
use Rattle.std.proofs.lemmas.List.Splits.{length-slice_split, slice_split-cons_no, slice_split-cons_yes}
use Rattle.rad_dict.specs.Base.{base_definitions}
use Rattle.rad_text.specs.Lines.{lines_of}
use Rattle.rad_text.specs.Read.{◌>>=◌}
use Rattle.rad_value.specs.declared.values.Pair.{Pair}
use Rattle.rad_value.specs.PairLists.{PairLists, no_pairs}
use Rattle.rad_pairs.specs.declared.fault.PairFault.{PairFault}
use Rattle.rad_pairs.specs.declared.items.Item.{Item}
use Rattle.rad_pairs.specs.PlainItems.{plain_items_of}
use Rattle.radclient.specs.declared.fault.LineFault.{LineFault}
use Rattle.radclient.specs.declared.fault.Reason.TheVariants as reason
use Rattle.radclient.specs.Groups.{Reading, added, at_line, closed, groups_of, is_empty, is_one_too_many, line_read, lines_read, next_line, passed, taken, unread, with_items, with_read}
use Rattle.radclient.specs.Parted.{filled, pair_of, pairs_of_line, pairs_of_lines, pairs_read, parted}
use Rattle.radclient.specs.Program.{pairs_of_groups}

-- what is kept of what was kept is kept at once
kept_again : {A : Type 0} (n : ℕ) (xs ys : List A) → take n (take n xs ++ ys) ≡ take n (xs ++ ys)
kept_again zero xs ys = refl
kept_again (suc n) [] ys = refl
kept_again {A = A} (suc n) (x ∷ xs) ys = ap (λ (l : List A). x ∷ l) (kept_again n xs ys)

abbrev pub most : ℕ
most = 2147483648

added_is : (pairs : PairLists) (item : Item) (b : Bool) → nat_lt (length pairs.request) most ≡ b → length pairs.request ≤ most
    → (cond b (record pairs { request = pairs.request ++ pair_of item ∷ [] }) pairs).request ≡ take most (pairs.request ++ pair_of item ∷ [])
added_is pairs item true less few =
    let l = length-append pairs.request (pair_of item ∷ []) in
    let below = ltb-true (length pairs.request) most less in
    sym (take_all most (pairs.request ++ pair_of item ∷ []) (omega (arith, l, below)))
added_is pairs item false less few =
    let above = ltb-false (length pairs.request) most less in
    sym (take-append-le most pairs.request (pair_of item ∷ []) (omega (arith, above)) ∙ take_all most pairs.request few)

few_kept : {A : Type 0} (n : ℕ) (xs : List A) → length (take n xs) ≤ n
few_kept zero xs = omega arith
few_kept (suc n) [] = omega arith
few_kept (suc n) (x ∷ xs) = let below = few_kept n xs in omega (arith, below)

items_are : (items : List Item) (pairs : PairLists) → length pairs.request ≤ most → (with_items pairs items).request ≡ take most (pairs.request ++ map pair_of items)
unfolding with_items
items_are [] pairs few = sym (ap (take most) (append-nil pairs.request) ∙ take_all most pairs.request few)
items_are (item ∷ items) pairs few =
    let one = added_is pairs item (nat_lt (length pairs.request) most) refl few in
    let again = items_are items (added pairs item) (subst (λ (l : List Pair). length l ≤ most) (sym one) (few_kept most (pairs.request ++ pair_of item ∷ []))) in
    again
    ∙ ap (λ (l : List Pair). take most (l ++ map pair_of items)) one
    ∙ kept_again most (pairs.request ++ pair_of item ∷ []) (map pair_of items)
    ∙ ap (take most) (append_assoc pairs.request (pair_of item ∷ []) (map pair_of items))

-- the groups of the parts behind what an open group has
abbrev pub begun : List Pair → List (List (List ℕ)) → List (List Pair)
begun have [] = []
begun have (part ∷ parts) = take most (have ++ flat_map pairs_of_line part) ∷ map pairs_of_lines (filled parts)

abbrev pub after : Bool → List Pair → List (List (List ℕ)) → List (List Pair)
after true have parts = begun have parts
after false have parts = map pairs_of_lines (filled parts)

-- a reading's open group isn't longer than is kept, and nothing is kept where none is open
pub record IsReading (opened : Bool) (have : List Pair) : Type 0 where
  pub few : length have ≤ most
  pub none : opened ≡ false → have ≡ []

-- a line that goes to the open group, or opens one
begins : (opened : Bool) (have : List Pair) (line : List ℕ) (parts : List (List (List ℕ))) → IsReading opened have → parts ≢ []
    → after opened have (onto_first line parts) ≡ begun (take most (have ++ pairs_of_line line)) parts
unfolding filled
begins opened have line [] is some = absurd (some refl)
begins true have line (part ∷ parts) is some =
    ap (λ (l : List Pair). l ∷ map pairs_of_lines (filled parts))
    (sym (kept_again most (have ++ pairs_of_line line) (flat_map pairs_of_line part)
    ∙ ap (take most) (append_assoc have (pairs_of_line line) (flat_map pairs_of_line part))))
begins false have line (part ∷ parts) is some =
    ap (λ (l : List Pair). l ∷ map pairs_of_lines (filled parts))
    (ap (λ (h : List Pair). take most (h ++ (pairs_of_line line ++ flat_map pairs_of_line part))) (sym (is.none refl))
    ∙ sym (kept_again most (have ++ pairs_of_line line) (flat_map pairs_of_line part)
    ∙ ap (take most) (append_assoc have (pairs_of_line line) (flat_map pairs_of_line part))))

-- parts are never none
some_parts : (lines : List (List ℕ)) → slice_split is_empty lines ≢ []
some_parts lines = λ none.
    let l = length-slice_split is_empty lines in
    let z : length (slice_split is_empty lines) ≡ 0 = ap (λ (parts : List (List (List ℕ))). length parts) none in omega (arith, l, z)

abbrev pub reading_or : Reading → Result Reading LineFault → Reading
reading_or other (Ok reading) = reading
reading_or other (Err fault) = other

abbrev pub groups_or : Result (List PairLists) LineFault → List PairLists
groups_or (Ok groups) = groups
groups_or (Err fault) = []

abbrev pub parts_of : List (List ℕ) → List (List (List ℕ))
parts_of lines = slice_split is_empty lines

abbrev pub at : List PairLists → Bool → PairLists → ℕ → Reading
at groups opened pairs line = record { groups = groups; is_open = opened; pairs = pairs; line = line }

-- what the groups of a reading are at the end, by the lines behind it
abbrev pub Later : List (List ℕ) → Reading → Type 0
Later more now = (opened : Bool) (groups : List PairLists) (pairs : PairLists) (line : ℕ) → IsReading opened pairs.request → lines_read (at groups opened pairs line) more ≡ Ok now
    → pairs_of_groups (closed now).groups ≡ pairs_of_groups groups ++ after opened pairs.request (parts_of more)

-- an open group that ends here
ends_here : (groups : List PairLists) (pairs : PairLists) (rest : List (List Pair)) → length pairs.request ≤ most
    → pairs_of_groups (groups ++ pairs ∷ []) ++ rest ≡ pairs_of_groups groups ++ take most (pairs.request ++ []) ∷ rest
ends_here groups pairs rest few =
    ap (λ (l : List (List Pair)). l ++ rest) (map-append (λ (l : PairLists). l.request) groups (pairs ∷ []))
    ∙ append_assoc (pairs_of_groups groups) (pairs.request ∷ []) rest
    ∙ ap (λ (l : List Pair). pairs_of_groups groups ++ l ∷ rest) (sym (ap (take most) (append-nil pairs.request) ∙ take_all most pairs.request few))

no_lines : (opened : Bool) (groups : List PairLists) (pairs : PairLists) (line : ℕ) → IsReading opened pairs.request
    → pairs_of_groups (closed (at groups opened pairs line)).groups ≡ pairs_of_groups groups ++ after opened pairs.request ([] ∷ [])
unfolding filled
no_lines true groups pairs line is =
    sym (append-nil (pairs_of_groups (groups ++ pairs ∷ []))) ∙ ends_here groups pairs [] is.few
no_lines false groups pairs line is = sym (append-nil (pairs_of_groups groups))

after_empty : (opened : Bool) (groups : List PairLists) (pairs : PairLists) (line : ℕ) (more : List (List ℕ)) (now : Reading) → IsReading opened pairs.request
    → lines_read (passed (at groups opened pairs line)) more ≡ Ok now → Later more now
    → pairs_of_groups (closed now).groups ≡ pairs_of_groups groups ++ after opened pairs.request ([] ∷ parts_of more)
unfolding filled
after_empty true groups pairs line more now is reads later =
    later false (groups ++ pairs ∷ []) no_pairs (next_line line) (record { few = omega arith; none = λ same. refl }) reads
    ∙ ends_here groups pairs (map pairs_of_lines (filled (parts_of more))) is.few
after_empty false groups pairs line more now is reads later = later false groups pairs (next_line line) is reads

after_pairs : (m : Result (List Item) PairFault) (opened : Bool) (groups : List PairLists) (pairs : PairLists) (line : ℕ) (text : List ℕ) (more : List (List ℕ)) (now : Reading)
    → IsReading opened pairs.request → plain_items_of text base_definitions ≡ m
    → ((at_line line (with_read pairs m) >>= λ (found : PairLists). Ok (at groups true found (next_line line))) >>= λ (next : Reading). lines_read next more) ≡ Ok now
    → Later more now → pairs_of_groups (closed now).groups ≡ pairs_of_groups groups ++ after opened pairs.request (onto_first text (parts_of more))
after_pairs (Ok items) opened groups pairs line text more now is read reads later =
    let found = with_items pairs items in
    let have : found.request ≡ take most (pairs.request ++ pairs_of_line text) =
    items_are items pairs is.few ∙ ap (λ (r : Result (List Item) PairFault). take most (pairs.request ++ pairs_read r)) (sym read) in
    let few = subst (λ (l : List Pair). length l ≤ most) (sym have) (few_kept most (pairs.request ++ pairs_of_line text)) in
    later true groups found (next_line line) (record { few = few; none = λ same. cc }) reads
    ∙ ap (λ (l : List Pair). pairs_of_groups groups ++ begun l (parts_of more)) have
    ∙ ap (λ (l : List (List Pair)). pairs_of_groups groups ++ l) (sym (begins opened pairs.request text (parts_of more) is (some_parts more)))
after_pairs (Err wrong) opened groups pairs line text more now is read reads later = cc

after_line : (many : Bool) (opened : Bool) (groups : List PairLists) (pairs : PairLists) (line : ℕ) (text : List ℕ) (more : List (List ℕ)) (now : Reading)
    → IsReading opened pairs.request
    → (cond many (Err (record { line = line; reason = reason.TooMany })) (taken (at groups opened pairs line) text) >>= λ (next : Reading). lines_read next more) ≡ Ok now
    → Later more now → pairs_of_groups (closed now).groups ≡ pairs_of_groups groups ++ after opened pairs.request (onto_first text (parts_of more))
after_line true opened groups pairs line text more now is reads later = cc
after_line false opened groups pairs line text more now is reads later =
    after_pairs (plain_items_of text base_definitions) opened groups pairs line text more now is refl reads later

after_any : (empty : Bool) (opened : Bool) (groups : List PairLists) (pairs : PairLists) (line : ℕ) (text : List ℕ) (more : List (List ℕ)) (now : Reading)
    → IsReading opened pairs.request → is_empty text ≡ empty
    → (cond empty (Ok (passed (at groups opened pairs line)))
    (cond (is_one_too_many (at groups opened pairs line)) (Err (record { line = line; reason = reason.TooMany })) (taken (at groups opened pairs line) text)) >>= λ (next : Reading). lines_read next more) ≡ Ok now
    → Later more now → pairs_of_groups (closed now).groups ≡ pairs_of_groups groups ++ after opened pairs.request (parts_of (text ∷ more))
after_any true opened groups pairs line text more now is empty reads later =
    after_empty opened groups pairs line more now is reads later
    ∙ ap (λ (parts : List (List (List ℕ))). pairs_of_groups groups ++ after opened pairs.request parts) (sym (slice_split-cons_yes is_empty text more empty))
after_any false opened groups pairs line text more now is empty reads later =
    after_line (is_one_too_many (at groups opened pairs line)) opened groups pairs line text more now is reads later
    ∙ ap (λ (parts : List (List (List ℕ))). pairs_of_groups groups ++ after opened pairs.request parts) (sym (slice_split-cons_no is_empty text more empty))

pub lines_are : (lines : List (List ℕ)) (now : Reading) → Later lines now
unfolding lines_read line_read
lines_are [] now = λ opened groups pairs line is reads.
    let same : at groups opened pairs line ≡ now = ap (reading_or now) reads in
    ap (λ (r : Reading). pairs_of_groups (closed r).groups) (sym same) ∙ no_lines opened groups pairs line is
lines_are (text ∷ more) now = λ opened groups pairs line is reads.
    after_any (is_empty text) opened groups pairs line text more now is refl reads (lines_are more now)

ended_are : (read : Result Reading LineFault) (text : List ℕ) (groups : List PairLists) → lines_read unread (lines_of text) ≡ read
    → (read >>= λ (reading : Reading). Ok (closed reading).groups) ≡ Ok groups → pairs_of_groups groups ≡ map pairs_of_lines (parted (lines_of text))
ended_are (Ok reading) text groups reads is =
    ap (λ (r : Result (List PairLists) LineFault). pairs_of_groups (groups_or r)) (sym is)
    ∙ lines_are (lines_of text) reading false [] no_pairs 1 (record { few = omega arith; none = λ same. refl }) reads
ended_are (Err fault) text groups reads is = cc

pub groups_are : (text : List ℕ) (groups : List PairLists) → groups_of text ≡ Ok groups → pairs_of_groups groups ≡ map pairs_of_lines (parted (lines_of text))
unfolding groups_of
groups_are text groups is = ended_are (lines_read unread (lines_of text)) text groups refl is
