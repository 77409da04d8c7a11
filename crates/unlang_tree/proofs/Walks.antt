-- Reading the nodes of a block one after the other, as a loop does.
use Rattle.std.proofs.Common.{◌≡◌, ℕ, ◌+◌, ◌<◌, ◌≤◌, List, ◌∷◌, length, get_or, drop, Result, Ok, Err, ◌⊎◌, inl, inr, sym, ap, ◌∙◌}
use Rattle.std.proofs.lemmas.List.{drop_all, drop_more}
use Rattle.rad_conf.specs.declared.tree.Node.{Node}
use Rattle.rad_text.specs.Read.{◌>>=◌}
use Rattle.unlang_tree.specs.declared.fault.TreeFault.{TreeFault}
use Rattle.unlang_tree.specs.declared.fault.TreeFault.TheVariants as fault
use Rattle.unlang_tree.specs.Readings.{after_each}

-- the nodes from one on
from_here : (nodes : List Node) (i : ℕ) (node : Node) → i < length nodes → node ≡ get_or nodes i node → drop i nodes ≡ node ∷ drop (i + 1) nodes
from_here nodes i node lt is = drop_more nodes i node lt ∙ ap (λ n. n ∷ drop (i + 1) nodes) (sym is)

module _ {S : Type 0} (step : S → Node → Result S TreeFault) where
  one_step : (known : S) (nodes : List Node) (i : ℕ) (node : Node) → i < length nodes → node ≡ get_or nodes i node
      → after_each step known (drop i nodes) ≡ (step known node >>= λ next. after_each step next (drop (i + 1) nodes))
  unfolding after_each
  one_step known nodes i node lt is = ap (after_each step known) (from_here nodes i node lt is)

  pub goes_on : (known next : S) (nodes : List Node) (i : ℕ) (node : Node) (total : Result S TreeFault) → i < length nodes → node ≡ get_or nodes i node
      → step known node ≡ Ok next → after_each step known (drop i nodes) ≡ total → after_each step next (drop (i + 1) nodes) ≡ total
  goes_on known next nodes i node total lt is e so_far =
      sym (ap (λ r. r >>= λ k. after_each step k (drop (i + 1) nodes)) e) ∙ sym (one_step known nodes i node lt is) ∙ so_far

  pub goes_wrong : (known : S) (nodes : List Node) (i : ℕ) (node : Node) (total : Result S TreeFault) (e : TreeFault) → i < length nodes → node ≡ get_or nodes i node
      → (e ≡ fault.NoMemory) ⊎ (step known node ≡ Err e) → after_each step known (drop i nodes) ≡ total → (e ≡ fault.NoMemory) ⊎ (total ≡ Err e)
  goes_wrong known nodes i node total e lt is (inl none) so_far = inl none
  goes_wrong known nodes i node total e lt is (inr h) so_far =
      inr (sym so_far ∙ one_step known nodes i node lt is ∙ ap (λ r. r >>= λ k. after_each step k (drop (i + 1) nodes)) h)

  pub is_done : (known : S) (nodes : List Node) (i : ℕ) (total : Result S TreeFault) → length nodes ≤ i → after_each step known (drop i nodes) ≡ total → total ≡ Ok known
  unfolding after_each
  is_done known nodes i total le so_far = sym so_far ∙ ap (after_each step known) (drop_all i nodes le)
