-- Reading the nodes of a block one after the other, as a loop does.
use Rattle.std.proofs.Common.{◌≡◌, ℕ, ◌+◌, ◌<◌, ◌≤◌, List, ◌∷◌, length, get_or, drop, Result, Ok, Err, sym, ap, ◌∙◌}
use Rattle.std.proofs.lemmas.List.{drop_all, drop_more}
use Rattle.rad_conf.specs.declared.tree.Node.{Node}
use Rattle.rad_build.specs.declared.fault.BuildFault.{BuildFault}
use Rattle.rad_build.specs.declared.fault.BuildFault.TheVariants as fault
use Rattle.rad_build.specs.Nodes.{◌>>=◌, Fails, after_each}

-- the nodes from one on
pub from_here : (nodes : List Node) (i : ℕ) (node : Node) → i < length nodes → node ≡ get_or nodes i node → drop i nodes ≡ node ∷ drop (i + 1) nodes
from_here nodes i node lt is = drop_more nodes i node lt ∙ ap (λ n. n ∷ drop (i + 1) nodes) (sym is)

-- a fault that came first
pub is_first : {A B : Type 0} (e : BuildFault) (read : Result A BuildFault) (then_read : A → Result B BuildFault) (total : Result B BuildFault) → Fails e read → (read >>= then_read) ≡ total → Fails e total
is_first (fault.Conf wrong) read then_read total h so_far = sym so_far ∙ ap (λ r. r >>= then_read) h
is_first (fault.Dict wrong) read then_read total h so_far = sym so_far ∙ ap (λ r. r >>= then_read) h
is_first (fault.Users file wrong) read then_read total h so_far = sym so_far ∙ ap (λ r. r >>= then_read) h
is_first (fault.Tree wrong) read then_read total h so_far = sym so_far ∙ ap (λ r. r >>= then_read) h
is_first (fault.UnknownModule place kind) read then_read total h so_far = sym so_far ∙ ap (λ r. r >>= then_read) h
is_first (fault.BadSetting place name) read then_read total h so_far = sym so_far ∙ ap (λ r. r >>= then_read) h
is_first fault.ReadFault read then_read total h so_far = h
is_first fault.NoMemory read then_read total h so_far = tt

pub one_step : {S : Type 0} (step : S → Node → Result S BuildFault) (known : S) (nodes : List Node) (i : ℕ) (node : Node) → i < length nodes → node ≡ get_or nodes i node
    → after_each step known (drop i nodes) ≡ (step known node >>= λ next. after_each step next (drop (i + 1) nodes))
unfolding after_each
one_step step known nodes i node lt is = ap (after_each step known) (from_here nodes i node lt is)

pub goes_on : {S : Type 0} (step : S → Node → Result S BuildFault) (known next : S) (nodes : List Node) (i : ℕ) (node : Node) (total : Result S BuildFault) → i < length nodes → node ≡ get_or nodes i node
    → step known node ≡ Ok next → after_each step known (drop i nodes) ≡ total → after_each step next (drop (i + 1) nodes) ≡ total
goes_on step known next nodes i node total lt is e so_far =
    sym (ap (λ r. r >>= λ k. after_each step k (drop (i + 1) nodes)) e) ∙ sym (one_step step known nodes i node lt is) ∙ so_far

pub goes_wrong : {S : Type 0} (step : S → Node → Result S BuildFault) (known : S) (nodes : List Node) (i : ℕ) (node : Node) (total : Result S BuildFault) (e : BuildFault) → i < length nodes → node ≡ get_or nodes i node
    → Fails e (step known node) → after_each step known (drop i nodes) ≡ total → Fails e total
goes_wrong step known nodes i node total e lt is h so_far =
    is_first e (step known node) (λ k. after_each step k (drop (i + 1) nodes)) total h (sym (one_step step known nodes i node lt is) ∙ so_far)

pub is_done : {S : Type 0} (step : S → Node → Result S BuildFault) (known : S) (nodes : List Node) (i : ℕ) (total : Result S BuildFault) → length nodes ≤ i → after_each step known (drop i nodes) ≡ total → total ≡ Ok known
unfolding after_each
is_done step known nodes i total le so_far = sym so_far ∙ ap (after_each step known) (drop_all i nodes le)
