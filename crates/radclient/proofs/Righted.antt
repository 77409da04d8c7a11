-- The lines of a file that is taken are right, and its groups are few enough.
use Rattle.std.proofs.Common.{◌≡◌, ℕ, ◌+◌, ◌≤◌, Bool, true, false, cond, List, [], ◌∷◌, ◌++◌, length, Result, Ok, Err, refl, ap, subst, inl, inr, arith}
use Rattle.std.specs.List.{AllByRecursion}
use Rattle.std.proofs.lemmas.Bool.{leb-false}
use Rattle.std.proofs.lemmas.List.{length-append}
use Rattle.rad_dict.specs.Base.{base_definitions}
use Rattle.rad_text.specs.Lines.{lines_of}
use Rattle.rad_text.specs.Read.{◌>>=◌}
use Rattle.rad_value.specs.PairLists.{PairLists, no_pairs}
use Rattle.rad_pairs.specs.declared.fault.PairFault.{PairFault}
use Rattle.rad_pairs.specs.declared.items.Item.{Item}
use Rattle.rad_pairs.specs.PlainItems.{plain_items_of}
use Rattle.radclient.specs.declared.fault.LineFault.{LineFault}
use Rattle.radclient.specs.declared.fault.Reason.TheVariants as reason
use Rattle.radclient.specs.Groups.{Reading, at_line, closed, groups_of, is_empty, is_one_too_many, line_read, lines_read, next_line, passed, taken, unread, with_items, with_read}
use Rattle.radclient.specs.Parted.{IsRight}
use Rattle.radclient.proofs.Parting.{at, groups_or, reading_or}

abbrev one_if : Bool → ℕ
one_if true = 1
one_if false = 0

abbrev AreRight : List (List ℕ) → Reading → Type 0
AreRight lines now = AllByRecursion IsRight lines × (length (closed now).groups ≤ 4096)

abbrev Later : List (List ℕ) → Reading → Type 0
Later more now = (opened : Bool) (groups : List PairLists) (pairs : PairLists) (line : ℕ) → length groups + one_if opened ≤ 4096 → lines_read (at groups opened pairs line) more ≡ Ok now
    → AreRight more now

none_left : (opened : Bool) (groups : List PairLists) (pairs : PairLists) (line : ℕ) → length groups + one_if opened ≤ 4096 → length (closed (at groups opened pairs line)).groups ≤ 4096
none_left true groups pairs line few = let l = length-append groups (pairs ∷ []) in omega (arith, l, few)
none_left false groups pairs line few = omega (arith, few)

empty_right : (opened : Bool) (groups : List PairLists) (pairs : PairLists) (line : ℕ) (text : List ℕ) (more : List (List ℕ)) (now : Reading) → length groups + one_if opened ≤ 4096
    → is_empty text ≡ true → lines_read (passed (at groups opened pairs line)) more ≡ Ok now → Later more now → AreRight (text ∷ more) now
empty_right true groups pairs line text more now few empty reads later =
    let l = length-append groups (pairs ∷ []) in
    let r = later false (groups ++ pairs ∷ []) no_pairs (next_line line) (omega (arith, l, few)) reads in ((inl empty, r.0), r.1)
empty_right false groups pairs line text more now few empty reads later =
    let r = later false groups pairs (next_line line) few reads in ((inl empty, r.0), r.1)

room_for : (opened : Bool) (groups : List PairLists) (pairs : PairLists) (line : ℕ) → length groups + one_if opened ≤ 4096 → is_one_too_many (at groups opened pairs line) ≡ false
    → length groups + 1 ≤ 4096
room_for true groups pairs line few room = omega (arith, few)
room_for false groups pairs line few room = let less = leb-false 4096 (length groups) room in omega (arith, less)

pairs_right : (m : Result (List Item) PairFault) (groups : List PairLists) (pairs : PairLists) (line : ℕ) (text : List ℕ) (more : List (List ℕ)) (now : Reading) → length groups + 1 ≤ 4096
    → plain_items_of text base_definitions ≡ m
    → ((at_line line (with_read pairs m) >>= λ (found : PairLists). Ok (at groups true found (next_line line))) >>= λ (next : Reading). lines_read next more) ≡ Ok now
    → Later more now → AreRight (text ∷ more) now
pairs_right (Ok items) groups pairs line text more now few read reads later =
    let r = later true groups (with_items pairs items) (next_line line) few reads in ((inr (items, read), r.0), r.1)
pairs_right (Err wrong) groups pairs line text more now few read reads later = cc

line_right : (many : Bool) (opened : Bool) (groups : List PairLists) (pairs : PairLists) (line : ℕ) (text : List ℕ) (more : List (List ℕ)) (now : Reading) → length groups + one_if opened ≤ 4096
    → is_one_too_many (at groups opened pairs line) ≡ many
    → (cond many (Err (record { line = line; reason = reason.TooMany })) (taken (at groups opened pairs line) text) >>= λ (next : Reading). lines_read next more) ≡ Ok now
    → Later more now → AreRight (text ∷ more) now
line_right true opened groups pairs line text more now few many reads later = cc
line_right false opened groups pairs line text more now few many reads later =
    pairs_right (plain_items_of text base_definitions) groups pairs line text more now (room_for opened groups pairs line few many) refl reads later

any_right : (empty : Bool) (opened : Bool) (groups : List PairLists) (pairs : PairLists) (line : ℕ) (text : List ℕ) (more : List (List ℕ)) (now : Reading) → length groups + one_if opened ≤ 4096
    → is_empty text ≡ empty
    → (cond empty (Ok (passed (at groups opened pairs line)))
    (cond (is_one_too_many (at groups opened pairs line)) (Err (record { line = line; reason = reason.TooMany })) (taken (at groups opened pairs line) text)) >>= λ (next : Reading). lines_read next more) ≡ Ok now
    → Later more now → AreRight (text ∷ more) now
any_right true opened groups pairs line text more now few empty reads later = empty_right opened groups pairs line text more now few empty reads later
any_right false opened groups pairs line text more now few empty reads later =
    line_right (is_one_too_many (at groups opened pairs line)) opened groups pairs line text more now few refl reads later

lines_right : (lines : List (List ℕ)) (now : Reading) → Later lines now
unfolding lines_read line_read
lines_right [] now = λ opened groups pairs line few reads.
    let same : at groups opened pairs line ≡ now = ap (reading_or now) reads in
    (tt, subst (λ (r : Reading). length (closed r).groups ≤ 4096) same (none_left opened groups pairs line few))
lines_right (text ∷ more) now = λ opened groups pairs line few reads.
    any_right (is_empty text) opened groups pairs line text more now few refl reads (lines_right more now)

ended_right : (read : Result Reading LineFault) (text : List ℕ) (groups : List PairLists) → lines_read unread (lines_of text) ≡ read
    → (read >>= λ (reading : Reading). Ok (closed reading).groups) ≡ Ok groups → AllByRecursion IsRight (lines_of text) × (length groups ≤ 4096)
ended_right (Ok reading) text groups reads is =
    let r = lines_right (lines_of text) reading false [] no_pairs 1 (omega arith) reads in
    (r.0, subst (λ (l : Result (List PairLists) LineFault). length (groups_or l) ≤ 4096) is r.1)
ended_right (Err wrong) text groups reads is = cc

pub groups_right : (text : List ℕ) (groups : List PairLists) → groups_of text ≡ Ok groups → AllByRecursion IsRight (lines_of text) × (length groups ≤ 4096)
unfolding groups_of
groups_right text groups is = ended_right (lines_read unread (lines_of text)) text groups refl is
