-- Parts of a list give it again.
use Rattle.std.proofs.Common.{◌≡◌, ℕ, suc, ◌+◌, ◌%◌, ◌<◌, Bool, true, false, cond, ◌||◌, List, [], ◌∷◌, ◌++◌, length, map, filter, nat_lt, ◌==◌, refl, sym, ap, ◌∙◌, subst, arith}
use Rattle.std.proofs.lemmas.Bool.{true≢false, ltb-true, ltb-false, eqb-true, eqb-false}
use Rattle.rad_sessions.specs.declared.session.Session.{Session}
use Rattle.rad_sessions.specs.Listed.{AreInOrder, place_of, begun}
use Rattle.rad_sessions.specs.Parts.{sum_after, part_of, is_in, AreParts, all_begun, joined, IsParted, lengths}
use Rattle.rad_sessions.proofs.Order.{Above, Ordered, ordered, turned, above_filter, begun_first, begun_behind}

-- The session stands in a part below this one.
abbrev pub below : ℕ → Session → Bool
below part session = nat_lt (part_of session.user) part

-- Others begin behind a session that they all stand above.
all_behind : (first : Session) (sessions others : List Session) → Above (place_of first) others → all_begun (first ∷ sessions) others ≡ first ∷ all_begun sessions others
all_behind first sessions [] above = refl
all_behind first sessions (s ∷ others) above = ap (λ l. all_begun l others) (begun_behind s first sessions (turned (place_of first) (place_of s) above.0)) ∙ all_behind first (begun s sessions) others above.1

-- Those of two tests, of which no session passes both, are those of either test.
module _ (one two three : Session → Bool) (either : (s : Session) → three s ≡ (one s || two s)) (apart : (s : Session) → one s ≡ true → two s ≡ false) where
  pub merged : (sessions : List Session) → Ordered sessions → all_begun (filter one sessions) (filter two sessions) ≡ filter three sessions
  merged [] order = refl
  merged (s ∷ sessions) order = by (one s) (two s) refl refl (merged sessions order.1) ∙ ap (λ b. cond b (s ∷ filter three sessions) (filter three sessions)) (sym (either s))
    where
      by : (b c : Bool) → one s ≡ b → two s ≡ c → all_begun (filter one sessions) (filter two sessions) ≡ filter three sessions
          → all_begun (cond b (s ∷ filter one sessions) (filter one sessions)) (cond c (s ∷ filter two sessions) (filter two sessions)) ≡ cond (b || c) (s ∷ filter three sessions) (filter three sessions)
      by true true first second h = absurd (true≢false (sym second ∙ apart s first))
      by true false first second h = all_behind s (filter one sessions) (filter two sessions) (above_filter (place_of s) two sessions order.0) ∙ ap (λ more. s ∷ more) h
      by false true first second h =
          ap (λ l. all_begun l (filter two sessions)) (begun_first s (filter one sessions) (above_filter (place_of s) one sessions order.0))
          ∙ all_behind s (filter one sessions) (filter two sessions) (above_filter (place_of s) two sessions order.0) ∙ ap (λ more. s ∷ more) h
      by false false first second h = h

  pub both_lengths : (sessions : List Session) → length (filter one sessions) + length (filter two sessions) ≡ length (filter three sessions)
  both_lengths [] = refl
  both_lengths (s ∷ sessions) = by (one s) (two s) refl refl (both_lengths sessions) ∙ ap (λ b. length (cond b (s ∷ filter three sessions) (filter three sessions))) (sym (either s))
    where
      by : (b c : Bool) → one s ≡ b → two s ≡ c → length (filter one sessions) + length (filter two sessions) ≡ length (filter three sessions)
          → length (cond b (s ∷ filter one sessions) (filter one sessions)) + length (cond c (s ∷ filter two sessions) (filter two sessions)) ≡ length (cond (b || c) (s ∷ filter three sessions) (filter three sessions))
      by true true first second h = absurd (true≢false (sym second ∙ apart s first))
      by true false first second h = omega (arith, h)
      by false true first second h = omega (arith, h)
      by false false first second h = h

next_number : (n part : ℕ) → nat_lt n (suc part) ≡ (nat_lt n part || (n == part))
next_number n part = by (nat_lt n (suc part)) (nat_lt n part) (n == part) refl refl refl
  where
    by : (b c d : Bool) → nat_lt n (suc part) ≡ b → nat_lt n part ≡ c → (n == part) ≡ d → b ≡ (c || d)
    by true true d e f g = refl
    by true false true e f g = refl
    by true false false e f g = absurd (eqb-false n part g (omega (arith, ltb-true n (suc part) e, ltb-false n part f)))
    by false true d e f g = absurd (omega (arith, ltb-false n (suc part) e, ltb-true n part f))
    by false false true e f g = absurd (omega (arith, ltb-false n (suc part) e, eqb-true n part g))
    by false false false e f g = refl

not_here : (n part : ℕ) → nat_lt n part ≡ true → (n == part) ≡ false
not_here n part e = by (n == part) refl
  where
    by : (b : Bool) → (n == part) ≡ b → b ≡ false
    by true f = absurd (omega (arith, ltb-true n part e, eqb-true n part f))
    by false f = refl

next_part : (part : ℕ) (s : Session) → below (suc part) s ≡ (below part s || is_in part s)
next_part part s = next_number (part_of s.user) part

apart_from : (part : ℕ) (s : Session) → below part s ≡ true → is_in part s ≡ false
apart_from part s e = not_here (part_of s.user) part e

joined_below : (part : ℕ) (lists : List (List Session)) (sessions : List Session) → Ordered sessions → AreParts part lists sessions → joined (filter (below part) sessions) lists ≡ filter (below (part + length lists)) sessions
joined_below part [] sessions order are = let same : part ≡ part + 0 = omega arith in ap (λ n. filter (below n) sessions) same
joined_below part (list ∷ lists) sessions order are =
    let same : suc part + length lists ≡ part + suc (length lists) = omega arith in
    ap (λ l. joined (all_begun (filter (below part) sessions) l) lists) are.0
    ∙ ap (λ l. joined l lists) (merged (below part) (is_in part) (below (suc part)) (next_part part) (apart_from part) sessions order)
    ∙ joined_below (suc part) lists sessions order are.1
    ∙ ap (λ n. filter (below n) sessions) same

sum_small : (n : ℕ) (octets : List ℕ) → n < 256 → sum_after n octets < 256
unfolding sum_after
sum_small n [] small = small
sum_small n (c ∷ octets) small = sum_small ((n + c) % 256) octets (omega arith)

pub part_small : (user : List ℕ) → part_of user < 256
part_small user = sum_small 0 user (omega arith)

none_below : (sessions : List Session) → filter (below 0) sessions ≡ []
none_below [] = refl
none_below (s ∷ sessions) = by (below 0 s) refl (none_below sessions)
  where
    by : (b : Bool) → below 0 s ≡ b → filter (below 0) sessions ≡ [] → cond b (s ∷ filter (below 0) sessions) (filter (below 0) sessions) ≡ []
    by true e h = absurd (omega (arith, ltb-true (part_of s.user) 0 e))
    by false e h = h

all_below : (sessions : List Session) → filter (below 256) sessions ≡ sessions
all_below [] = refl
all_below (s ∷ sessions) = by (below 256 s) refl (all_below sessions)
  where
    by : (b : Bool) → below 256 s ≡ b → filter (below 256) sessions ≡ sessions → cond b (s ∷ filter (below 256) sessions) (filter (below 256) sessions) ≡ s ∷ sessions
    by true e h = ap (λ more. s ∷ more) h
    by false e h = absurd (omega (arith, ltb-false (part_of s.user) 256 e, part_small s.user))

-- The 256 parts of a list give it.
pub joined_again : (lists : List (List Session)) (sessions : List Session) → AreInOrder sessions → AreParts 0 lists sessions → length lists ≡ 256 → joined [] lists ≡ sessions
joined_again lists sessions order are count =
    let all : 0 + length lists ≡ 256 = omega (arith, count) in
    ap (λ l. joined l lists) (sym (none_below sessions)) ∙ joined_below 0 lists sessions (ordered sessions order) are
    ∙ ap (λ n. filter (below n) sessions) all ∙ all_below sessions

pub parted_again : (lists : List (List Session)) (sessions : List Session) → AreInOrder sessions → AreParts 0 lists sessions → length lists ≡ 256 → IsParted lists
parted_again lists sessions order are count =
    let same = sym (joined_again lists sessions order are count) in
    record { order = subst AreInOrder same order; parts = subst (AreParts 0 lists) same are; count = count }

-- The lengths of the parts make the length of the list.
lengths_below : (part : ℕ) (lists : List (List Session)) (sessions : List Session) → AreParts part lists sessions → length (filter (below part) sessions) + lengths lists ≡ length (filter (below (part + length lists)) sessions)
lengths_below part [] sessions are =
    let same : part ≡ part + 0 = omega arith in
    let one = ap (λ n. length (filter (below n) sessions)) same in
    omega (arith, one)
lengths_below part (list ∷ lists) sessions are =
    let same : suc part + length lists ≡ part + suc (length lists) = omega arith in
    let one = both_lengths (below part) (is_in part) (below (suc part)) (next_part part) (apart_from part) sessions in
    let two = ap length are.0 in
    let three = lengths_below (suc part) lists sessions are.1 in
    let four = ap (λ n. length (filter (below n) sessions)) same in
    omega (arith, one, two, three, four)

pub lengths_again : (lists : List (List Session)) → IsParted lists → lengths lists ≡ length (joined [] lists)
lengths_again lists parted =
    let sessions = joined [] lists in
    let one = lengths_below 0 lists sessions parted.parts in
    let two = ap length (none_below sessions) in
    let all : 0 + length lists ≡ 256 = omega (arith, parted.count) in
    let three = ap (λ n. length (filter (below n) sessions)) all in
    let four = ap length (all_below sessions) in
    omega (arith, one, two, three, four)

none_never : (sessions : List Session) → filter (λ s. false) sessions ≡ []
none_never [] = refl
none_never (s ∷ sessions) = none_never sessions

-- What begins one after another in order is that.
pub begun_again_all : (test : Session → Bool) (sessions : List Session) → AreInOrder sessions → all_begun [] (filter test sessions) ≡ filter test sessions
begun_again_all test sessions order =
    ap (λ l. all_begun l (filter test sessions)) (sym (none_never sessions))
    ∙ merged (λ s. false) test test (λ s. refl) (λ s e. absurd (true≢false (sym e))) sessions (ordered sessions order)

pub length_mapped : {V : Type 0} (list : V → List Session) (items : List V) → length (map list items) ≡ length items
length_mapped list [] = refl
length_mapped list (item ∷ items) = ap suc (length_mapped list items)

pub one_longer : {V : Type 0} (items : List V) (item : V) → length (items ++ item ∷ []) ≡ suc (length items)
one_longer [] item = refl
one_longer (first ∷ items) item = ap suc (one_longer items item)

-- One part more.
pub part_more : {V : Type 0} (list : V → List Session) (part : ℕ) (items : List V) (item : V) (sessions : List Session) → AreParts part (map list items) sessions → list item ≡ filter (is_in (part + length items)) sessions → AreParts part (map list (items ++ item ∷ [])) sessions
part_more list part [] item sessions are is = let same : part + 0 ≡ part = omega arith in (is ∙ ap (λ n. filter (is_in n) sessions) same, tt)
part_more list part (first ∷ items) item sessions are is =
    let same : part + suc (length items) ≡ suc part + length items = omega arith in
    (are.0, part_more list (suc part) items item sessions are.1 (is ∙ ap (λ n. filter (is_in n) sessions) same))

-- Lists that were made for all the 256 parts are the parts, and give their list.
pub all_made : {V : Type 0} (list : V → List Session) (items : List V) (sessions : List Session) → AreInOrder sessions → AreParts 0 (map list items) sessions → length items ≡ 256 → (joined [] (map list items) ≡ sessions) × IsParted (map list items)
all_made list items sessions order are count =
    let all = length_mapped list items ∙ count in
    (joined_again (map list items) sessions order are all, parted_again (map list items) sessions order are all)
