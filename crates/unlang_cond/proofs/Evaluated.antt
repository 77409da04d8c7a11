-- The evaluation step by step comes to what the tree says.
use Rattle.std.proofs.Common.{◌≡◌, ℕ, suc, ◌+◌, ◌-◌, ◌<◌, ◌≤◌, drop, get_or, add-one, Bool, true, false, not, cond, List, [], ◌∷◌, length, Option, Some, None, refl, sym, ap, ◌∙◌, arith}
use Rattle.std.proofs.Math.Seq.{drop-cons}
use Rattle.std.proofs.Math.ListN.{drop_of_length-le}
use Rattle.rad_value.specs.declared.scope.Scope.{Scope}
use Rattle.rad_dict.specs.Definitions.{Definitions}
use Rattle.unlang_cond.specs.declared.atom.Token.{Token}
use Rattle.unlang_cond.specs.declared.atom.Token.TheVariants as token
use Rattle.unlang_cond.specs.declared.groups.Step.{Step}
use Rattle.unlang_cond.specs.declared.groups.Progress.{Progress}
use Rattle.unlang_cond.specs.declared.groups.Progress.TheVariants.{Met, Failed, Going}
use Rattle.unlang_cond.specs.declared.groups.Group.{Group}
use Rattle.unlang_cond.specs.Tokens.{depth_after, depth_from}
use Rattle.unlang_cond.specs.Steps.{tokens_in}
use Rattle.unlang_cond.specs.Tests.{with_captures, OnlyCaptures}
use Rattle.unlang_cond.specs.Trees.{Tree, Leaf, holds, Branch, fresh, anded, ored, negating, chained, whole, closed, grown_by, grow, grown, innermost, tree_of}
use Rattle.unlang_cond.specs.Machine.{settled, opened, alternative, is_met, shut, took, group, fresh_group, closing, advanced_by, advance, run, top_met}

module _ (dict : Definitions) where
  -- How far the operands of an alternative have come.
  abbrev pub chain_of : Option Tree → Scope → Progress × Scope
  chain_of None s = (Going, s)
  chain_of (Some c) s = (cond (holds c s dict).0 Going Failed, (holds c s dict).1)

  -- How far a group has come that is evaluated.
  abbrev pub group_run : Option Tree → Option Tree → Scope → Progress × Scope
  group_run None chain s = chain_of chain s
  group_run (Some b) chain s = cond (holds b s dict).0 (Met, (holds b s dict).1) (chain_of chain (holds b s dict).1)

  -- The same of a group within another.
  abbrev pub within : Option Progress → Option Tree → Option Tree → Scope → Option Progress × Scope
  within None before chain s = (None, s)
  within (Some Met) before chain s = (None, s)
  within (Some Failed) before chain s = (None, s)
  within (Some Going) before chain s = (Some (group_run before chain s).0, (group_run before chain s).1)

  abbrev pub around : List Group → Option Progress
  around [] = Some Going
  around (p ∷ outer) = p.progress

  -- What the evaluation has come to where these groups were read.
  abbrev pub evaluated : List Branch → Scope → List Group × Scope
  evaluated [] s = ([], s)
  evaluated (g ∷ outer) s = (
    group (within (around (evaluated outer s).0) g.before g.chain (evaluated outer s).1).0 g.negated ∷ (evaluated outer s).0,
    (within (around (evaluated outer s).0) g.before g.chain (evaluated outer s).1).1,
  )

  one_operand : (negated : Bool) (t : Tree) (s : Scope) → chain_of (Some (negating negated t)) s ≡ (settled negated (holds t s dict).0, (holds t s dict).1)
  one_operand true t s = by (holds t s dict).0 where
    by : (b : Bool) → ◌≡◌ {A = Progress × Scope} (cond (not b) Going Failed, (holds t s dict).1) (settled true b, (holds t s dict).1)
    by true = refl
    by false = refl
  one_operand false t s = by (holds t s dict).0 where
    by : (b : Bool) → ◌≡◌ {A = Progress × Scope} (cond b Going Failed, (holds t s dict).1) (settled false b, (holds t s dict).1)
    by true = refl
    by false = refl

  abbrev either : Bool → Scope → Bool × Scope → Bool × Scope
  either b x other = cond b other (false, x)

  chain_given : (chain : Option Tree) (negated : Bool) (t : Tree) (s : Scope)
      → ◌≡◌ {A = Option Progress × Scope} (Some (chain_of (Some (anded chain (negating negated t))) s).0, (chain_of (Some (anded chain (negating negated t))) s).1)
      (took (λ x. holds t x dict) negated (Some (chain_of chain s).0) (chain_of chain s).1)
  chain_given None negated t s = ap (λ (r : Progress × Scope). (Some r.0, r.1)) (one_operand negated t s)
  chain_given (Some c) negated t s = by (holds c s dict).0 (holds c s dict).1 where
    by : (b : Bool) (x : Scope) → ◌≡◌ {A = Option Progress × Scope} (Some (cond (either b x (holds (negating negated t) x dict)).0 Going Failed), (either b x (holds (negating negated t) x dict)).1)
        (took (λ y. holds t y dict) negated (Some (cond b Going Failed)) x)
    by true x = ap (λ (r : Progress × Scope). (Some r.0, r.1)) (one_operand negated t x)
    by false x = refl

  abbrev first : Bool → Scope → Progress × Scope → Progress × Scope
  first met x other = cond met (Met, x) other

  run_given : (before chain : Option Tree) (negated : Bool) (t : Tree) (s : Scope)
      → ◌≡◌ {A = Option Progress × Scope} (Some (group_run before (Some (anded chain (negating negated t))) s).0, (group_run before (Some (anded chain (negating negated t))) s).1)
      (took (λ x. holds t x dict) negated (Some (group_run before chain s).0) (group_run before chain s).1)
  run_given None chain negated t s = chain_given chain negated t s
  run_given (Some b) chain negated t s = by (holds b s dict).0 (holds b s dict).1 where
    by : (v : Bool) (x : Scope)
        → ◌≡◌ {A = Option Progress × Scope} (Some (first v x (chain_of (Some (anded chain (negating negated t))) x)).0, (first v x (chain_of (Some (anded chain (negating negated t))) x)).1)
        (took (λ y. holds t y dict) negated (Some (first v x (chain_of chain x)).0) (first v x (chain_of chain x)).1)
    by true x = refl
    by false x = chain_given chain negated t x

  -- An operand is asked for where all before it have held.
  operand_given : (p : Option Progress) (before chain : Option Tree) (negated : Bool) (t : Tree) (s : Scope)
      → within p before (Some (anded chain (negating negated t))) s ≡ took (λ x. holds t x dict) negated (within p before chain s).0 (within p before chain s).1
  operand_given None before chain negated t s = refl
  operand_given (Some Met) before chain negated t s = refl
  operand_given (Some Failed) before chain negated t s = refl
  operand_given (Some Going) before chain negated t s = run_given before chain negated t s

  chain_value : (chain : Option Tree) (s : Scope) → holds (chained chain) s dict ≡ (is_met (Some (chain_of chain s).0), (chain_of chain s).1)
  chain_value None s = refl
  chain_value (Some c) s = by (holds c s dict).0 where
    by : (b : Bool) → ◌≡◌ {A = Bool × Scope} (b, (holds c s dict).1) (is_met (Some (cond b Going Failed)), (holds c s dict).1)
    by true = refl
    by false = refl

  -- The value of a group is what its tree says.
  group_value : (before chain : Option Tree) (s : Scope) → holds (ored before (chained chain)) s dict ≡ (is_met (Some (group_run before chain s).0), (group_run before chain s).1)
  group_value None chain s = chain_value chain s
  group_value (Some b) chain s = by (holds b s dict).0 (holds b s dict).1 where
    by : (v : Bool) (x : Scope) → ◌≡◌ {A = Bool × Scope} (cond v (true, x) (holds (chained chain) x dict)) (is_met (Some (first v x (chain_of chain x)).0), (first v x (chain_of chain x)).1)
    by true x = refl
    by false x = chain_value chain x

  opened_fresh : (p : Option Progress) (s : Scope) → within p None None s ≡ (opened p, s)
  opened_fresh None s = refl
  opened_fresh (Some Met) s = refl
  opened_fresh (Some Failed) s = refl
  opened_fresh (Some Going) s = refl

  abbrev next : Bool → Scope → Progress × Scope
  next met x = cond met (Met, x) (Going, x)

  next_alternative : (p : Option Progress) (before chain : Option Tree) (s : Scope)
      → within p (Some (ored before (chained chain))) None s ≡ (alternative (within p before chain s).0, (within p before chain s).1)
  next_alternative None before chain s = refl
  next_alternative (Some Met) before chain s = refl
  next_alternative (Some Failed) before chain s = refl
  next_alternative (Some Going) before chain s =
      ap (λ (r : Bool × Scope). (Some (next r.0 r.1).0, (next r.0 r.1).1)) (group_value before chain s)
      ∙ by (group_run before chain s).0 (group_run before chain s).1 where
        by : (q : Progress) (x : Scope) → ◌≡◌ {A = Option Progress × Scope} (Some (next (is_met (Some q)) x).0, (next (is_met (Some q)) x).1) (alternative (Some q), x)
        by Met x = refl
        by Failed x = refl
        by Going x = refl

  -- A closed group's value is taken as an operand's.
  closed_group : (p : Option Progress) (negated : Bool) (before chain : Option Tree) (s : Scope)
      → took (λ x. holds (ored before (chained chain)) x dict) negated p s ≡ (shut negated p (within p before chain s).0, (within p before chain s).1)
  closed_group None negated before chain s = refl
  closed_group (Some Met) negated before chain s = refl
  closed_group (Some Failed) negated before chain s = refl
  closed_group (Some Going) negated before chain s = ap (λ (r : Bool × Scope). (Some (settled negated r.0), r.1)) (group_value before chain s)

  close_step : (g : Branch) (outer : List Branch) (s : Scope)
      → evaluated (closed g outer) s ≡ (closing (evaluated (g ∷ outer) s).0, (evaluated (g ∷ outer) s).1)
  close_step g [] s = refl
  close_step g (p ∷ outer) s =
      let o = evaluated outer s in
      let t = within (around o.0) p.before p.chain o.1 in
      ap (λ (r : Option Progress × Scope). (group r.0 false ∷ o.0, r.1))
      (operand_given (around o.0) p.before p.chain p.negated (whole g) o.1 ∙ closed_group t.0 p.negated g.before g.chain t.1)

  by_token : (t : Token) (g : Branch) (outer : List Branch) (s : Scope)
      → evaluated (grown_by t g outer) s ≡ advanced_by t (group (within (around (evaluated outer s).0) g.before g.chain (evaluated outer s).1).0 g.negated) (evaluated outer s).0 (within (around (evaluated outer s).0) g.before g.chain (evaluated outer s).1).1 dict
  by_token token.Not g outer s = refl
  by_token token.Open g outer s =
      let e = evaluated (g ∷ outer) s in
      ap (λ (r : Option Progress × Scope). (group r.0 false ∷ e.0, r.1)) (opened_fresh (within (around (evaluated outer s).0) g.before g.chain (evaluated outer s).1).0 e.1)
  by_token token.Close g outer s = close_step g outer s
  by_token token.And g outer s = refl
  by_token token.Or g outer s =
      let o = evaluated outer s in
      ap (λ (r : Option Progress × Scope). (group r.0 g.negated ∷ o.0, r.1)) (next_alternative (around o.0) g.before g.chain o.1)
  by_token (token.Atom a) g outer s =
      let o = evaluated outer s in
      ap (λ (r : Option Progress × Scope). (group r.0 false ∷ o.0, r.1)) (operand_given (around o.0) g.before g.chain g.negated (Leaf a) o.1)

  one_token : (t : Token) (branches : List Branch) (s : Scope) → evaluated (grow t branches) s ≡ advance t (evaluated branches s).0 (evaluated branches s).1 dict
  one_token t [] s = refl
  one_token t (g ∷ outer) s = by_token t g outer s

  all_tokens : (tokens : List Token) (branches : List Branch) (s : Scope) → run tokens (evaluated branches s).0 (evaluated branches s).1 dict ≡ evaluated (grown branches tokens) s
  unfolding run grown
  all_tokens [] branches s = refl
  all_tokens (t ∷ tokens) branches s =
      ap (λ (r : List Group × Scope). run tokens r.0 r.1 dict) (sym (one_token t branches s)) ∙ all_tokens tokens (grow t branches) s

  value_of_one : (branches : List Branch) (s : Scope) → length branches ≡ 1 → (top_met (evaluated branches s).0, (evaluated branches s).1) ≡ holds (innermost branches) s dict
  value_of_one [] s one = absurd (omega arith)
  value_of_one (g ∷ []) s one = sym (group_value g.before g.chain s)
  value_of_one (g ∷ p ∷ outer) s one = absurd (omega arith)

  -- With each parenthesis closed, the evaluation comes to what the tree says.
  pub comes_to : (tokens : List Token) (s : Scope) → length (grown (fresh ∷ []) tokens) ≡ 1
      → (top_met (run tokens (fresh_group ∷ []) s dict).0, (run tokens (fresh_group ∷ []) s dict).1) ≡ holds (tree_of tokens) s dict
  comes_to tokens s one =
      ap (λ (r : List Group × Scope). (top_met r.0, r.1)) (all_tokens tokens (fresh ∷ []) s) ∙ value_of_one (grown (fresh ∷ []) tokens) s one

closed_length : (g : Branch) (outer : List Branch) (depth : ℕ) → length outer ≡ depth → length (closed g outer) ≡ depth - 1 + 1
closed_length g [] depth e = omega arith
closed_length g (p ∷ outer) depth e = omega arith

one_length : (t : Token) (g : Branch) (outer : List Branch) (depth : ℕ) → length outer ≡ depth → length (grown_by t g outer) ≡ depth_after t depth + 1
one_length token.Not g outer depth e = omega arith
one_length token.Open g outer depth e = omega arith
one_length token.Close g outer depth e = closed_length g outer depth e
one_length token.And g outer depth e = omega arith
one_length token.Or g outer depth e = omega arith
one_length (token.Atom a) g outer depth e = omega arith

-- As many groups are open as there are open parentheses, and one.
pub grown_length : (tokens : List Token) (branches : List Branch) (depth : ℕ) → length branches ≡ depth + 1 → length (grown branches tokens) ≡ depth_from depth tokens + 1
unfolding grown depth_from
grown_length [] branches depth e = e
grown_length (t ∷ tokens) [] depth e = absurd (omega arith)
grown_length (t ∷ tokens) (g ∷ outer) depth e = grown_length tokens (grow t (g ∷ outer)) (depth_after t depth) (one_length t g outer depth (omega arith))

-- One step of the loop.
pub run_step : (steps : List Step) (n : ℕ) (x : Step) (groups : List Group) (s : Scope) (dict : Definitions) → n < length steps → x ≡ get_or steps n x
    → run (tokens_in (drop n steps)) groups s dict ≡ run (tokens_in (drop (n + 1) steps)) (advance x.token groups s dict).0 (advance x.token groups s dict).1 dict
unfolding run
run_step steps n x groups s dict lt e =
    rw add-one (ap (λ (l : List Step). run (tokens_in l) groups s dict) (drop-cons steps n x lt ∙ ap (λ (y : Step). y ∷ drop (suc n) steps) (sym e)))

-- Its end.
pub finished : (dict : Definitions) (steps : List Step) (start s : Scope) (groups : List Group) (n : ℕ) (value : Bool) → length steps ≤ n
    → run (tokens_in (drop n steps)) groups s dict ≡ run (tokens_in steps) (fresh_group ∷ []) start dict → depth_from 0 (tokens_in steps) ≡ 0 → value ≡ top_met groups
    → ◌≡◌ {A = Bool × Scope} (value, s) (holds (tree_of (tokens_in steps)) start dict)
unfolding run
finished dict steps start s groups n value all so_far none e =
    let tokens = tokens_in steps in
    let ends : run tokens (fresh_group ∷ []) start dict ≡ (groups, s) = sym so_far ∙ ap (λ (l : List Step). run (tokens_in l) groups s dict) (drop_of_length-le steps all) in
    let one : length (grown (fresh ∷ []) tokens) ≡ 1 = grown_length tokens (fresh ∷ []) 0 refl ∙ ap (λ d. d + 1) none in
    ap (λ (v : Bool). (v, s)) e ∙ ap (λ (r : List Group × Scope). (top_met r.0, r.1)) (sym ends) ∙ comes_to dict tokens start one

-- Captures that change twice.
pub alone_twice : (a b c : Scope) → OnlyCaptures a b → OnlyCaptures b c → OnlyCaptures a c
alone_twice a b c first second = second ∙ ap (λ (x : Scope). with_captures x c.captures) first
