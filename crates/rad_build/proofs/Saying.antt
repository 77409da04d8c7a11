-- What is read block by block, one thing for each block of a kind, is what the blocks say.
use Rattle.std.specs.Prelude.{map, filter}
use Rattle.std.specs.Option.{is_some}
use Rattle.std.proofs.Common.{◌≡◌, Bool, true, false, cond, List, [], ◌∷◌, ◌++◌, Option, Some, None, Result, Ok, Err, refl, sym, ap, subst, ◌∙◌}
use Rattle.std.proofs.lemmas.List.{append-nil, append_assoc}
use Rattle.rad_conf.specs.declared.tree.Node.{Node}
use Rattle.rad_build.specs.declared.fault.BuildFault.{BuildFault}
use Rattle.rad_build.specs.Nodes.{◌>>=◌, after_each}
use Rattle.rad_build.specs.Said.{AreNew}

-- what a reading that had no fault passed through
pub behind : {A B C : Type 0} (r : Result A BuildFault) (f : A → Result B BuildFault) (y : B) → (r >>= f) ≡ Ok y → ((x : A) → r ≡ Ok x → f x ≡ Ok y → C) → C
behind (Ok x) f y is next = next x refl is
behind (Err e) f y is next = absurd (cc)

pub past : {A : Type 0} (b : Bool) (e : BuildFault) (rest : Result A BuildFault) (y : A) → cond b (Err e) rest ≡ Ok y → (b ≡ false) × (rest ≡ Ok y)
past true e rest y is = absurd (cc)
past false e rest y is = (refl, is)

-- what a reading without a fault gives
abbrev pub given : {A : Type 0} → A → Result A BuildFault
given x = Ok x

pub same_ok : {A : Type 0} (x y : A) → given x ≡ given y → y ≡ x
same_ok x y is = cc

-- what wasn't found
pub none_is : {A : Type 0} (o : Option A) → is_some o ≡ false → o ≡ None
none_is None is = refl
none_is (Some x) is = absurd (cc)

-- one more
pub record Adds {X : Type 0} (New : List X → X → Type 0) (known : List X) (said : Option X) (all : List X) : Type 0 where
  pub one : X
  pub is_said : said ≡ Some one
  pub joined : all ≡ known ++ one ∷ []
  pub new : New known one

-- one for each of these blocks
pub record Says {X : Type 0} (New : List X → X → Type 0) (said_of : Node → Option X) (known : List X) (blocks : List Node) (all : List X) : Type 0 where
  pub more : List X
  pub joined : all ≡ known ++ more
  pub said : map (λ (one : X). Some one) more ≡ map said_of blocks
  pub new : AreNew New known more

module _ {X : Type 0} (New : List X → X → Type 0) (said_of : Node → Option X) (is_one : Node → Bool) (with_one with_item : List X → Node → Result (List X) BuildFault) where
  one_more : (known next : List X) (node : Node) (blocks : List Node) (all : List X) → Adds New known (said_of node) next → Says New said_of next blocks all → Says New said_of known (node ∷ blocks) all
  one_more known next node blocks all adds says = record {
    more = adds.one ∷ says.more;
    joined = says.joined ∙ ap (λ (n : List X). n ++ says.more) adds.joined ∙ append_assoc known (adds.one ∷ []) says.more;
    said = ap (λ (rest : List (Option X)). Some adds.one ∷ rest) says.said ∙ ap (λ (o : Option X). o ∷ map said_of blocks) (sym adds.is_said);
    new = (adds.new, subst (λ (n : List X). AreNew New n says.more) adds.joined says.new);
  }

  by_kind : ((node : Node) (known all : List X) → with_one known node ≡ Ok all → Adds New known (said_of node) all)
      → (b : Bool) (known next : List X) (node : Node) (blocks : List Node) (all : List X) → cond b (with_one known node) (Ok known) ≡ Ok next → Says New said_of next blocks all
      → Says New said_of known (cond b (node ∷ blocks) blocks) all
  by_kind each true known next node blocks all is says = one_more known next node blocks all (each node known next is) says
  by_kind each false known next node blocks all is says =
      let same : next ≡ known = same_ok known next is in
      record {
        more = says.more;
        joined = says.joined ∙ ap (λ (n : List X). n ++ says.more) same;
        said = says.said;
        new = subst (λ (n : List X). AreNew New n says.more) same says.new;
      }

  -- Items are read in order: a block of the kind adds one, and another item is passed over.
  pub all_said : ((known : List X) (node : Node) → with_item known node ≡ cond (is_one node) (with_one known node) (Ok known))
      → ((node : Node) (known all : List X) → with_one known node ≡ Ok all → Adds New known (said_of node) all)
      → (known : List X) (nodes : List Node) (all : List X) → after_each with_item known nodes ≡ Ok all → Says New said_of known (filter is_one nodes) all
  unfolding after_each
  all_said by_item each known [] all is = record { more = []; joined = same_ok known all is ∙ sym (append-nil known); said = refl; new = tt }
  all_said by_item each known (node ∷ nodes) all is =
      behind (with_item known node) (λ next. after_each with_item next nodes) all is (λ next now later.
      by_kind each (is_one node) known next node (filter is_one nodes) all (sym (by_item known node) ∙ now) (all_said by_item each next nodes all later))
