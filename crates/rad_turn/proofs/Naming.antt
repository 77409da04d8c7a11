-- The least name that isn't out, and names that come and leave.
use Rattle.std.proofs.Common.{◌≡◌, ◌≢◌, ℕ, suc, ◌+◌, ◌-◌, ◌<◌, ◌≤◌, ◌==◌, nat_lt, Bool, true, false, ◌&&◌, ◌||◌, List, [], ◌∷◌, ◌++◌, length, take, drop, insert, if◌then◌else◌, sym, refl, ap, ◌∙◌, subst, arith, eq-eqb, ne_eqb, ltb-true, lt-ltb, le-ltb, true≢false, get_or, drop-cons, add-one}
use mathlib.Core.Logic.{dite}
use native.Mathlib.Decide.{ℕ_discrete, dec_le}
use Rattle.rad_turn.specs.Names.{is_out, is_rising, free_from, least_free, with_name, without_name, IsLeastFree}
use Rattle.rad_turn.proofs.Lists.{and_left, and_right, low_not_out}

pub both_true : (a b : Bool) → a ≡ true → b ≡ true → (a && b) ≡ true
both_true true b p q = q
both_true false b p q = p

either_true : (a b : Bool) → b ≡ true → (a || b) ≡ true
either_true true b q = refl
either_true false b q = q

-- names that rise from above a number rise from above a lesser one
pub rising_from : (low low' : ℕ) (out : List ℕ) → low ≤ low' → is_rising low' out ≡ true → is_rising low out ≡ true
rising_from low low' [] le up = refl
rising_from low low' (x ∷ xs) le up =
    let above : low' < x = ltb-true low' x (and_left (nat_lt low' x) (is_rising x xs) up) in
    both_true (nat_lt low x) (is_rising x xs) (lt-ltb low x (omega arith)) (and_right (nat_lt low' x) (is_rising x xs) up)

-- no number but those that rise: the first one is free
free_here : (name low : ℕ) (out : List ℕ) → name ≤ low → is_rising low out ≡ true → free_from name out ≡ name
free_here name low [] le up = refl
free_here name low (x ∷ xs) le up =
    let above : low < x = ltb-true low x (and_left (nat_lt low x) (is_rising x xs) up) in
    rw (ne_eqb x name (λ e. omega (arith, e))) (free_here name x xs (omega arith) (and_right (nat_lt low x) (is_rising x xs) up))

pub record FreeFrom (low : ℕ) (out : List ℕ) (name : ℕ) : Type 0 where
  pub above : low < name
  pub near : name ≤ low + 1 + length out
  pub free : is_out name out ≡ false
  pub least : (k : ℕ) → low < k → k < name → is_out k out ≡ true
  pub place : with_name name out ≡ take (name - (low + 1)) out ++ name ∷ drop (name - (low + 1)) out

free_taken : (low x : ℕ) (xs : List ℕ) (name : ℕ) → x ≡ low + 1 → FreeFrom x xs name → FreeFrom low (x ∷ xs) name
free_taken low x xs name here f = let above = f.above in let near = f.near in record {
  above = omega arith;
  near = omega arith;
  free = ap (λ b. b || is_out name xs) (ne_eqb x name (λ e. omega (arith, e))) ∙ f.free;
  least = λ k low_k k_name. dite (ℕ_discrete x k) (λ e. ap (λ b. b || is_out k xs) (eq-eqb x k e)) (λ ne. either_true (x == k) (is_out k xs) (f.least k (omega arith) k_name));
  place =
      ap (λ b. if b then name ∷ x ∷ xs else x ∷ with_name name xs) (le-ltb name x (omega arith))
      ∙ (ap (λ (l : List ℕ). x ∷ l) f.place ∙ ap (λ (n : ℕ). take n (x ∷ xs) ++ name ∷ drop n (x ∷ xs)) (let e : suc (name - (x + 1)) ≡ name - (low + 1) = omega arith in e));
}

free_gap : (low x : ℕ) (xs : List ℕ) → low + 1 < x → is_rising x xs ≡ true → FreeFrom low (x ∷ xs) (low + 1)
free_gap low x xs gap rest = record {
  above = omega arith;
  near = omega arith;
  free = ap (λ b. b || is_out (low + 1) xs) (ne_eqb x (low + 1) (λ e. omega (arith, e))) ∙ low_not_out (low + 1) x xs (omega arith) rest;
  least = λ k low_k k_name. absurd (omega arith);
  place =
      ap (λ b. if b then (low + 1) ∷ x ∷ xs else x ∷ with_name (low + 1) xs) (lt-ltb (low + 1) x gap)
      ∙ ap (λ (n : ℕ). take n (x ∷ xs) ++ (low + 1) ∷ drop n (x ∷ xs)) (let e : 0 ≡ (low + 1) - (low + 1) = omega arith in e);
}

free_spec : (low : ℕ) (out : List ℕ) → is_rising low out ≡ true → FreeFrom low out (free_from (low + 1) out)
free_spec low [] up = record {
  above = omega arith;
  near = omega arith;
  free = refl;
  least = λ k low_k k_name. absurd (omega arith);
  place = ap (λ (n : ℕ). take n [] ++ (low + 1) ∷ drop n []) (let e : 0 ≡ (low + 1) - (low + 1) = omega arith in e);
}
free_spec low (x ∷ xs) up =
    let above : low < x = ltb-true low x (and_left (nat_lt low x) (is_rising x xs) up) in
    let rest : is_rising x xs ≡ true = and_right (nat_lt low x) (is_rising x xs) up in
    let next = free_spec x xs rest in
    dite (ℕ_discrete x (low + 1))
    (λ here. subst (λ (n : ℕ). FreeFrom low (x ∷ xs) n)
    (ap (λ (n : ℕ). free_from (n + 1) xs) here ∙ sym (ap (λ b. free_from (if b then low + 1 + 1 else low + 1) xs) (eq-eqb x (low + 1) here)))
    (free_taken low x xs (free_from (x + 1) xs) here next))
    (λ other. subst (λ (n : ℕ). FreeFrom low (x ∷ xs) n)
    (sym (ap (λ b. free_from (if b then low + 1 + 1 else low + 1) xs) (ne_eqb x (low + 1) other) ∙ free_here (low + 1) x xs (omega arith) rest))
    (free_gap low x xs (omega arith) rest))

pub least_is : (out : List ℕ) → is_rising 0 out ≡ true → IsLeastFree (least_free out) out
least_is out up = let f = free_spec 0 out up in record { positive = f.above; free = f.free; least = f.least }

pub least_near : (out : List ℕ) → is_rising 0 out ≡ true → least_free out ≤ 1 + length out
least_near out up = (free_spec 0 out up).near

pub inserted : (out : List ℕ) → is_rising 0 out ≡ true → with_name (least_free out) out ≡ insert out (least_free out - 1) (least_free out)
inserted out up = (free_spec 0 out up).place

or_swap : (a b c : Bool) → (a || (b || c)) ≡ (b || (a || c))
or_swap true true c = refl
or_swap true false c = refl
or_swap false b c = refl

-- a name that is put in is out, and the others are as they were
pub with_out : (k name : ℕ) (out : List ℕ) → is_out k (with_name name out) ≡ ((name == k) || is_out k out)
with_out k name [] = refl
with_out k name (x ∷ xs) = with_cases (with_out k name xs) (nat_lt name x)
  where
    with_cases : is_out k (with_name name xs) ≡ ((name == k) || is_out k xs) → (b : Bool) → is_out k (if b then name ∷ x ∷ xs else x ∷ with_name name xs) ≡ ((name == k) || is_out k (x ∷ xs))
    with_cases rest true = refl
    with_cases rest false = ap (λ c. (x == k) || c) rest ∙ or_swap (x == k) (name == k) (is_out k xs)

pub with_keeps : (k name : ℕ) (out : List ℕ) → is_out k out ≡ true → is_out k (with_name name out) ≡ true
with_keeps k name out is = with_out k name out ∙ either_true (name == k) (is_out k out) is

pub with_has : (name : ℕ) (out : List ℕ) → is_out name (with_name name out) ≡ true
with_has name out = with_out name name out ∙ ap (λ b. b || is_out name out) (eq-eqb name name refl)

or_left : (a b : Bool) → (a || b) ≡ false → a ≡ false
or_left true b e = e
or_left false b e = refl

or_right : (a b : Bool) → (a || b) ≡ false → b ≡ false
or_right true b e = absurd (true≢false e)
or_right false b e = e

dec_lt : (a b : ℕ) → Dec (a < b)
dec_lt a b = dec_le (suc a) b

pub with_rising : (low name : ℕ) (out : List ℕ) → is_rising low out ≡ true → low < name → is_out name out ≡ false → is_rising low (with_name name out) ≡ true
with_rising low name [] up above free = both_true (nat_lt low name) true (lt-ltb low name above) refl
with_rising low name (x ∷ xs) up above free =
    let above_x : low < x = ltb-true low x (and_left (nat_lt low x) (is_rising x xs) up) in
    let rest : is_rising x xs ≡ true = and_right (nat_lt low x) (is_rising x xs) up in
    let other : x ≢ name = λ e. true≢false (sym (eq-eqb x name e) ∙ or_left (x == name) (is_out name xs) free) in
    let next = with_rising x name xs rest in
    dite (dec_lt name x)
    (λ less. ap (λ b. is_rising low (if b then name ∷ x ∷ xs else x ∷ with_name name xs)) (lt-ltb name x less)
    ∙ both_true (nat_lt low name) (is_rising name (x ∷ xs)) (lt-ltb low name above) (both_true (nat_lt name x) (is_rising x xs) (lt-ltb name x less) rest))
    (λ more. ap (λ b. is_rising low (if b then name ∷ x ∷ xs else x ∷ with_name name xs)) (le-ltb name x (omega arith))
    ∙ both_true (nat_lt low x) (is_rising x (with_name name xs)) (lt-ltb low x above_x) (next (omega arith) (or_right (x == name) (is_out name xs) free)))

-- a name that leaves isn't out, and the others are as they were
pub without_out : (k name : ℕ) (out : List ℕ) → k ≢ name → is_out k (without_name name out) ≡ is_out k out
without_out k name [] ne = refl
without_out k name (x ∷ xs) ne = dite (ℕ_discrete x name)
    (λ here. rw (eq-eqb x name here) (without_out k name xs ne ∙ sym (ap (λ b. b || is_out k xs) (ne_eqb x k (λ e. ne (sym e ∙ here))))))
    (λ other. rw (ne_eqb x name other) (ap (λ b. (x == k) || b) (without_out k name xs ne)))

pub without_rising : (low name : ℕ) (out : List ℕ) → is_rising low out ≡ true → is_rising low (without_name name out) ≡ true
without_rising low name [] up = refl
without_rising low name (x ∷ xs) up =
    let above : low < x = ltb-true low x (and_left (nat_lt low x) (is_rising x xs) up) in
    let rest : is_rising x (without_name name xs) ≡ true = without_rising x name xs (and_right (nat_lt low x) (is_rising x xs) up) in
    dite (ℕ_discrete x name) (λ here. rw (eq-eqb x name here) (rising_from low x (without_name name xs) (omega arith) rest))
    (λ other. rw (ne_eqb x name other) (both_true (nat_lt low x) (is_rising x (without_name name xs)) (lt-ltb low x above) rest))

if_bound : (b : Bool) (n m next : ℕ) → n ≤ m → next ≡ (if b then n + 1 else n) → next ≤ m + 1
if_bound true n m next le e = omega arith
if_bound false n m next le e = omega arith

-- one name more is looked at
pub free_step : (out : List ℕ) (i name next : ℕ) → i < length out → name ≤ i + 1 → next ≡ (if get_or out i 0 == name then name + 1 else name)
    → (next ≤ i + 1 + 1) × (free_from next (drop (i + 1) out) ≡ free_from name (drop i out))
free_step out i name next inside le e = (
  if_bound (get_or out i 0 == name) name (i + 1) next le e,
  ap (λ (n : ℕ). free_from n (drop (i + 1) out)) e ∙ (ap (λ (k : ℕ). free_from (if get_or out i 0 == name then name + 1 else name) (drop k out)) (add-one i) ∙ sym (ap (free_from name) (drop-cons out i 0 inside))),
)
