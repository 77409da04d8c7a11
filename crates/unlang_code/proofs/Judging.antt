-- A judgement that is made child by child, as a loop does.
use Rattle.std.specs.Prelude.{nat_lt, find}
use Rattle.std.specs.Option.{option_map}
use Rattle.std.proofs.Common.{◌≡◌, ℕ, Bool, true, false, cond, List, [], ◌∷◌, Option, Some, None, refl, sym, ap, ◌∙◌, arith}
use Rattle.std.proofs.lemmas.Bool.Decides.{nat_tests}
use Rattle.rad_words.specs.declared.codes.Code.{Code}
use Rattle.unlang_code.specs.declared.judgement.Child.{Child}
use Rattle.unlang_code.specs.Judgement.{ends, ending_code, priority_of, heavier, heavier_of, heaviest, judged}

code_of : Child → Code
code_of child = child.code

-- the judgement of what is still to come, behind the heaviest so far
abbrev pub judged_behind : Option Child → List Child → Option Code
judged_behind leading [] = option_map (λ (child : Child). child.code) leading
judged_behind leading (child ∷ children) = cond (ends child) (Some (ending_code child)) (judged_behind (Some (heavier_of leading child)) children)

-- the heaviest of those so far and of those to come
joined : Option Child → Option Child → Option Child
joined None later = later
joined (Some leading) later = Some (heavier leading later)

priority_of-cond : (t : Bool) (a b : Child) → priority_of (cond t a b) ≡ cond t (priority_of a) (priority_of b)
priority_of-cond true a b = refl
priority_of-cond false a b = refl

by_priorities : (p q r : ℕ) (a b c : Child) → cond (nat_lt (cond (nat_lt p q) q p) r) c (cond (nat_lt p q) b a) ≡ cond (nat_lt p (cond (nat_lt q r) r q)) (cond (nat_lt q r) c b) a
by_priorities p q r a b c = grind (arith, nat_tests)

-- three in a row weigh the same however they are taken together
heavier-three : (a b c : Child) → heavier (heavier a (Some b)) (Some c) ≡ heavier a (Some (heavier b (Some c)))
heavier-three a b c =
    let p = priority_of a in
    let q = priority_of b in
    let r = priority_of c in
    ap (λ n. cond (nat_lt n r) c (cond (nat_lt p q) b a)) (priority_of-cond (nat_lt p q) b a)
    ∙ by_priorities p q r a b c
    ∙ sym (ap (λ n. cond (nat_lt p n) (cond (nat_lt q r) c b) a) (priority_of-cond (nat_lt q r) c b))

joined-more : (leading : Option Child) (child : Child) (later : Option Child) → joined (Some (heavier_of leading child)) later ≡ joined leading (Some (heavier child later))
unfolding joined
joined-more None child later = refl
joined-more (Some leading) child None = refl
joined-more (Some leading) child (Some later) = ap (λ (c : Child). Some c) (heavier-three leading child later)

whole : Option Child → List Child → Option Child → Option Code
whole leading children last = elim last as (λ _. Option Code) [
  | Some child ↦ Some (ending_code child)
  | None ↦ option_map (λ (child : Child). child.code) (joined leading (heaviest children))
]

whole-more : (leading : Option Child) (child : Child) (children : List Child) (last : Option Child) → whole (Some (heavier_of leading child)) children last ≡ whole leading (child ∷ children) last
unfolding whole
whole-more leading child children (Some last) = refl
whole-more leading child children None = ap (option_map (λ (c : Child). c.code)) (joined-more leading child (heaviest children))

by_test : (leading : Option Child) (child : Child) (children : List Child) (t : Bool) (rest : Option Code) → rest ≡ whole (Some (heavier_of leading child)) children (find ends children)
    → cond t (Some (ending_code child)) rest ≡ whole leading (child ∷ children) (cond t (Some child) (find ends children))
unfolding whole
by_test leading child children true rest is = refl
by_test leading child children false rest is = is ∙ whole-more leading child children (find ends children)

whole_is : (leading : Option Child) (children : List Child) → judged_behind leading children ≡ whole leading children (find ends children)
unfolding joined whole
whole_is None [] = refl
whole_is (Some leading) [] = refl
whole_is leading (child ∷ children) =
    by_test leading child children (ends child) (judged_behind (Some (heavier_of leading child)) children) (whole_is (Some (heavier_of leading child)) children)

-- a judgement is that of all children, with none before
pub judged_is : (children : List Child) → judged children ≡ judged_behind None children
unfolding joined whole
judged_is children = sym (whole_is None children)
