-- The attributes of a reply that fit, written one by one.
use Rattle.std.proofs.Common.{◌≡◌, ℕ, zero, suc, ◌+◌, ◌-◌, ◌<◌, ◌≤◌, Bool, true, false, cond, List, [], ◌∷◌, ◌++◌, length, drop, refl, sym, ap, ◌∙◌, arith}
use Rattle.std.specs.Prelude.{nat_lt, slice_get, Some, None}
use Rattle.std.specs.List.{flat_map}
use Rattle.std.proofs.Math.Nat.{sub-zero}
use Rattle.std.proofs.lemmas.Bool.{le-ltb, lt-ltb, leb-true, leb-false}
use Rattle.std.proofs.lemmas.List.{append-nil, append_assoc, drop_all, drop_more, length-append}
use Rattle.std.proofs.lemmas.Option.{none-some, slice_get_within, get_or_from_slice_get}
use Rattle.std.proofs.lemmas.Grind.{flat_map-append}
use Rattle.rad_words.specs.declared.attributes.Space.{Space}
use Rattle.rad_words.specs.declared.attributes.Space.TheVariants.{Standard, Vendor, Internal}
use Rattle.rad_value.specs.declared.values.Pair.{Pair}
use Rattle.rad_packet.specs.Packet.{Attribute, spelled}
use Rattle.rad_wire.specs.Appended.{IsAppended}
use Rattle.rad_wire.specs.Reply.{attributes_for, fitting, is_left_out, sent_attributes}

-- how many octets attributes take
abbrev pub taken : List Attribute → ℕ
taken attributes = length (flat_map spelled attributes)

-- ---- one at most for a pair

one_or_none : (b : Bool) (a : Attribute) → length (cond b [] (a ∷ [])) ≤ 1
one_or_none true a = omega arith
one_or_none false a = omega arith

sent_one : (space : Space) (number : ℕ) (octets : List ℕ) → length (sent_attributes space number octets) ≤ 1
sent_one Standard number octets = one_or_none (is_left_out number) _
sent_one (Vendor vendor) number octets = one_or_none (nat_lt 255 number) _
sent_one Internal number octets = omega arith

pub one_for : (pair : Pair) → length (attributes_for pair) ≤ 1
unfolding attributes_for
one_for pair = sent_one pair.attr.space pair.attr.number _

-- ---- what fits

-- attributes that fit are taken, and what follows them has the room that is left
pub fitting-fit : (attributes others : List Attribute) (room : ℕ) → taken attributes ≤ room
    → fitting room (attributes ++ others) ≡ attributes ++ fitting (room - taken attributes) others
unfolding fitting
fitting-fit [] others room fit = rw (sub-zero room) refl
fitting-fit (a ∷ attributes) others room fit =
    let size = length-append (spelled a) (flat_map spelled attributes) in
    let rest = fitting-fit attributes others (room - length (spelled a)) (omega (arith, size, fit)) in
    let left : (room - length (spelled a)) - taken attributes ≡ room - taken (a ∷ attributes) = omega (arith, size) in
    rw (le-ltb room (length (spelled a)) (omega (arith, size, fit)), rest, left) refl

-- an attribute that doesn't fit ends them
pub fitting-over : (attributes others : List Attribute) (room : ℕ) → length attributes ≤ 1 → room < taken attributes
    → fitting room (attributes ++ others) ≡ []
unfolding fitting
fitting-over [] others room one over = absurd (omega arith)
fitting-over (a ∷ []) others room one over =
    let size = length-append (spelled a) [] in
    rw (lt-ltb room (length (spelled a)) (omega (arith, size, over))) refl
fitting-over (a ∷ b ∷ attributes) others room one over = absurd (omega arith)

-- ---- the pairs of a list

-- what is written of pairs in a room
abbrev pub pairs_written : ℕ → List Pair → List ℕ
pairs_written room pairs = flat_map spelled (fitting room (flat_map attributes_for pairs))

pairs_written-fit : (room : ℕ) (pair : Pair) (pairs : List Pair) → taken (attributes_for pair) ≤ room
    → pairs_written room (pair ∷ pairs)
    ≡ flat_map spelled (attributes_for pair) ++ pairs_written (room - taken (attributes_for pair)) pairs
pairs_written-fit room pair pairs fit =
    let own = attributes_for pair in
    ap (flat_map spelled) (fitting-fit own (flat_map attributes_for pairs) room fit)
    ∙ flat_map-append spelled own (fitting (room - taken own) (flat_map attributes_for pairs))

pairs_written-over : (room : ℕ) (pair : Pair) (pairs : List Pair) → room < taken (attributes_for pair)
    → pairs_written room (pair ∷ pairs) ≡ []
pairs_written-over room pair pairs over =
    ap (flat_map spelled) (fitting-over (attributes_for pair) (flat_map attributes_for pairs) room (one_for pair) over)

pub pairs_written-none : (room : ℕ) → pairs_written room [] ≡ []
unfolding fitting
pairs_written-none room = refl

-- so far, the octets are the start and what fits of the pairs up to n
pub record Writes (limit : ℕ) (start : List ℕ) (pairs : List Pair) (n : ℕ) (octets : List ℕ) : Type 0 where
  pub within : length octets ≤ limit
  pub so_far : octets ++ pairs_written (limit - length octets) (drop n pairs) ≡ start ++ pairs_written (limit - length start) pairs

pub Writes-start : (limit : ℕ) (start : List ℕ) (pairs : List Pair) → length start ≤ limit → Writes limit start pairs 0 start
Writes-start limit start pairs within = record { within = within; so_far = refl }

pub drop_at_get : (pairs : List Pair) (n : ℕ) (pair : Pair) → slice_get pairs n ≡ Some pair → drop n pairs ≡ pair ∷ drop (n + 1) pairs
drop_at_get pairs n pair found =
    drop_more pairs n pair (slice_get_within pairs n pair found)
    ∙ ap (λ (p : Pair). p ∷ drop (n + 1) pairs) (get_or_from_slice_get pairs n pair pair found)

pub none_past : (pairs : List Pair) (n : ℕ) → slice_get pairs n ≡ None → length pairs ≤ n
none_past [] n none = omega arith
none_past (p ∷ pairs) zero none = absurd (none-some p (sym none))
none_past (p ∷ pairs) (suc n) none = omega (arith, none_past pairs n none)

pub Writes-more : (limit : ℕ) (start : List ℕ) (pairs : List Pair) (n : ℕ) (octets after : List ℕ) (pair : Pair)
    → Writes limit start pairs n octets → slice_get pairs n ≡ Some pair
    → IsAppended limit octets after (attributes_for pair) true → Writes limit start pairs (n + 1) after
Writes-more limit start pairs n octets after pair writes found appended =
    let own = flat_map spelled (attributes_for pair) in
    let room = limit - length octets in
    let rest = drop (n + 1) pairs in
    let fit : length octets + length own ≤ limit = leb-true (length octets + length own) limit (sym appended.fit_is) in
    let long : length after ≡ length octets + length own = ap length appended.after_is ∙ length-append octets own in
    let left : limit - length after ≡ room - length own = omega (arith, long) in
    record {
      within = omega (arith, long, fit);
      so_far = ap (λ (x : List ℕ). x ++ pairs_written (limit - length after) rest) appended.after_is
          ∙ append_assoc octets own (pairs_written (limit - length after) rest)
          ∙ ap (λ (r : ℕ). octets ++ (own ++ pairs_written r rest)) left
          ∙ ap (λ (x : List ℕ). octets ++ x) (sym (pairs_written-fit room pair rest (omega (arith, fit))))
          ∙ ap (λ (x : List Pair). octets ++ pairs_written room x) (sym (drop_at_get pairs n pair found))
          ∙ writes.so_far;
    }

pub Writes-full : (limit : ℕ) (start : List ℕ) (pairs : List Pair) (n : ℕ) (octets after : List ℕ) (pair : Pair)
    → Writes limit start pairs n octets → slice_get pairs n ≡ Some pair
    → IsAppended limit octets after (attributes_for pair) false → after ≡ start ++ pairs_written (limit - length start) pairs
Writes-full limit start pairs n octets after pair writes found appended =
    let own = flat_map spelled (attributes_for pair) in
    let room = limit - length octets in
    let over : limit < length octets + length own = leb-false (length octets + length own) limit (sym appended.fit_is) in
    appended.after_is
    ∙ sym (append-nil octets)
    ∙ ap (λ (x : List ℕ). octets ++ x) (sym (pairs_written-over room pair (drop (n + 1) pairs) (omega (arith, over, writes.within))))
    ∙ ap (λ (x : List Pair). octets ++ pairs_written room x) (sym (drop_at_get pairs n pair found))
    ∙ writes.so_far

pub Writes-end : (limit : ℕ) (start : List ℕ) (pairs : List Pair) (n : ℕ) (octets : List ℕ) → Writes limit start pairs n octets
    → length pairs ≤ n → octets ≡ start ++ pairs_written (limit - length start) pairs
Writes-end limit start pairs n octets writes past =
    sym (append-nil octets)
    ∙ ap (λ (x : List ℕ). octets ++ x) (sym (pairs_written-none (limit - length octets)))
    ∙ ap (λ (x : List Pair). octets ++ pairs_written (limit - length octets) x) (sym (drop_all n pairs past))
    ∙ writes.so_far

pub Writes-none : (limit : ℕ) (start : List ℕ) (pairs : List Pair) (n : ℕ) (octets : List ℕ) → Writes limit start pairs n octets
    → slice_get pairs n ≡ None → octets ≡ start ++ pairs_written (limit - length start) pairs
Writes-none limit start pairs n octets writes none = Writes-end limit start pairs n octets writes (none_past pairs n none)
