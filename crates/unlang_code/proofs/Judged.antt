-- The judgement, in the words of whoever writes policies.
use Rattle.std.specs.Prelude.{nat_lt, find}
use Rattle.std.specs.List.{list_any, AllByRecursion}
use Rattle.std.proofs.Common.{◌≡◌, ℕ, ◌<◌, ◌≤◌, Bool, true, false, ◌||◌, cond, List, [], ◌∷◌, ◌++◌, Option, Some, None, refl, ap, arith}
use Rattle.std.proofs.lemmas.Bool.Decides.{nat_tests}
use Rattle.rad_words.specs.declared.codes.Code.TheVariants as code
use Rattle.rad_tables.specs.declared.action_table.Action.TheVariants as action
use Rattle.unlang_code.specs.declared.judgement.Child.{Child}
use Rattle.unlang_code.specs.Judgement.{ends, ending_code, priority_of, heavier, heaviest, judged}

one_free : (b rest : Bool) → (b || rest) ≡ false → (b ≡ false) × (rest ≡ false)
one_free false rest is = (refl, is)
one_free true rest is = absurd (cc)

found_behind : (before : List Child) (child : Child) (later : List Child) → list_any ends before ≡ false → ends child ≡ true → find ends (before ++ child ∷ later) ≡ Some child
found_behind [] child later free is = rw is refl
found_behind (c ∷ before) child later free is =
    let each = one_free (ends c) (list_any ends before) free in
    rw each.0 (found_behind before child later each.1 is)

pub returned_ends : (before : List Child) (child : Child) (later : List Child) → list_any ends before ≡ false → child.action ≡ action.Return → judged (before ++ child ∷ later) ≡ Some child.code
returned_ends before child later free is = rw (found_behind before child later free (rw (is, ends) refl), judged) (rw (is, ending_code) refl)

pub rejected_ends : (before : List Child) (child : Child) (later : List Child) → list_any ends before ≡ false → child.action ≡ action.Reject → judged (before ++ child ∷ later) ≡ Some code.Reject
rejected_ends before child later free is = rw (found_behind before child later free (rw (is, ends) refl), judged) (rw (is, ending_code) refl)

none_found : (children : List Child) → list_any ends children ≡ false → find ends children ≡ None
none_found [] free = refl
none_found (c ∷ children) free = let each = one_free (ends c) (list_any ends children) free in rw each.0 (none_found children each.1)

-- a child that may be there weighs no more than so much
IsBelow : ℕ → Option Child → Type 0
IsBelow n None = Unit {0}
IsBelow n (Some c) = priority_of c ≤ n

chosen_below : (n : ℕ) (t : Bool) (a b : Child) → priority_of a ≤ n → priority_of b ≤ n → priority_of (cond t a b) ≤ n
chosen_below n true a b x y = x
chosen_below n false a b x y = y

heavier_below : (n : ℕ) (c : Child) (later : Option Child) → priority_of c ≤ n → IsBelow n later → IsBelow n (Some (heavier c later))
unfolding IsBelow
heavier_below n c None x y = x
heavier_below n c (Some later) x y = chosen_below n (nat_lt (priority_of c) (priority_of later)) later c y x

heaviest_below : (n : ℕ) (children : List Child) → AllByRecursion (λ c. priority_of c ≤ n) children → IsBelow n (heaviest children)
unfolding IsBelow
heaviest_below n [] all = tt
heaviest_below n (c ∷ children) all = heavier_below n c (heaviest children) all.0 (heaviest_below n children all.1)

chosen_first : (p q : ℕ) (a b : Child) → q ≤ p → cond (nat_lt p q) b a ≡ a
chosen_first p q a b le = grind (arith, nat_tests)

chosen_later : (p q : ℕ) (a b : Child) → p < q → cond (nat_lt p q) b a ≡ b
chosen_later p q a b lt = grind (arith, nat_tests)

heavier_first : (c : Child) (later : Option Child) → IsBelow (priority_of c) later → heavier c later ≡ c
unfolding IsBelow
heavier_first c None below = refl
heavier_first c (Some later) below = chosen_first (priority_of c) (priority_of later) c later below

heaviest_is : (before : List Child) (child : Child) (later : List Child) → AllByRecursion (λ c. priority_of c < priority_of child) before → AllByRecursion (λ c. priority_of c ≤ priority_of child) later → heaviest (before ++ child ∷ later) ≡ Some child
heaviest_is [] child later less more = ap (λ (c : Child). Some c) (heavier_first child (heaviest later) (heaviest_below (priority_of child) later more))
heaviest_is (c ∷ before) child later less more = rw (heaviest_is before child later less.1 more) (ap (λ (x : Child). Some x) (chosen_later (priority_of c) (priority_of child) c child less.0))

pub greatest_wins : (before : List Child) (child : Child) (later : List Child) → list_any ends (before ++ child ∷ later) ≡ false
    → AllByRecursion (λ c. priority_of c < priority_of child) before → AllByRecursion (λ c. priority_of c ≤ priority_of child) later → judged (before ++ child ∷ later) ≡ Some child.code
greatest_wins before child later free less more = rw (none_found (before ++ child ∷ later) free, heaviest_is before child later less more, judged) refl
