-- A condition as a tree of atoms, and what it says of a scope, after unlang(5): sides are tried from the left and only as far as
-- needed.
use Rattle.std.specs.Prelude.{Bool, true, false, not, List, [], ◌∷◌, Option, Some, None, if◌then◌else◌}
use Rattle.rad_value.specs.declared.scope.Scope.{Scope}
use Rattle.rad_dict.specs.Definitions.{Definitions}
use Rattle.unlang_cond.specs.declared.atom.Atom.{Atom}
use Rattle.unlang_cond.specs.declared.atom.Token.{Token}
use Rattle.unlang_cond.specs.declared.atom.Token.TheVariants as token
use Rattle.unlang_cond.specs.Tests.{test}

-- A condition as a tree of atoms. One without an operand always holds.
pub data Tree : Type 0 where
  Always : Tree
  Leaf : Atom → Tree
  Not : Tree → Tree
  And : Tree → Tree → Tree
  Or : Tree → Tree → Tree

-- What a condition says of a scope, and the scope after it.
abbrev pub holds : Tree → Scope → Definitions → Bool × Scope
holds Always scope dict = (true, scope)
holds (Leaf a) scope dict = test a scope dict
holds (Not t) scope dict = (not (holds t scope dict).0, (holds t scope dict).1)
holds (And a b) scope dict = if (holds a scope dict).0 then holds b (holds a scope dict).1 dict else (false, (holds a scope dict).1)
holds (Or a b) scope dict = if (holds a scope dict).0 then (true, (holds a scope dict).1) else holds b (holds a scope dict).1 dict

-- What was read of a group: the alternatives before the present one, the operands of that, and whether an odd number of `!`
-- stands before the next operand.
pub record Branch : Type 0 where
  pub before : Option Tree
  pub chain : Option Tree
  pub negated : Bool

-- A group of which nothing was read.
abbrev pub fresh : Branch
fresh = record { before = None; chain = None; negated = false }

-- `&&` binds tighter than `||`, and both join from the left.
abbrev pub anded : Option Tree → Tree → Tree
anded None t = t
anded (Some a) t = And a t

-- An alternative behind those before it.
abbrev pub ored : Option Tree → Tree → Tree
ored None t = t
ored (Some a) t = Or a t

-- An operand behind an odd number of `!`, or an even one.
abbrev pub negating : Bool → Tree → Tree
negating true t = Not t
negating false t = t

-- The operands of an alternative; none of them always hold.
abbrev pub chained : Option Tree → Tree
chained None = Always
chained (Some t) = t

-- The tree of a group.
abbrev pub whole : Branch → Tree
whole g = ored g.before (chained g.chain)

-- A group behind an operand.
abbrev pub given : Tree → Branch → Branch
given t g = record { before = g.before; chain = Some (anded g.chain (negating g.negated t)); negated = false }

-- A closed group is an operand of the one around it.
abbrev pub closed : Branch → List Branch → List Branch
closed g [] = g ∷ []
closed g (p ∷ outer) = given (whole g) p ∷ outer

-- The open groups, the innermost first, behind a token.
abbrev pub grown_by : Token → Branch → List Branch → List Branch
grown_by token.Not g outer = record { before = g.before; chain = g.chain; negated = not g.negated } ∷ outer
grown_by token.Open g outer = fresh ∷ g ∷ outer
grown_by token.Close g outer = closed g outer
grown_by token.And g outer = g ∷ outer
grown_by token.Or g outer = record { before = Some (whole g); chain = None; negated = g.negated } ∷ outer
grown_by (token.Atom a) g outer = given (Leaf a) g ∷ outer

-- The open groups behind a step.
abbrev pub grow : Token → List Branch → List Branch
grow t [] = []
grow t (g ∷ outer) = grown_by t g outer

-- The open groups behind steps.
unfoldable pub grown : List Branch → List Token → List Branch
grown branches [] = branches
grown branches (t ∷ tokens) = grown (grow t branches) tokens

-- The tree of the innermost group.
abbrev pub innermost : List Branch → Tree
innermost [] = Always
innermost (g ∷ outer) = whole g

-- The tree that the tokens of a condition write.
abbrev pub tree_of : List Token → Tree
tree_of tokens = innermost (grown (fresh ∷ []) tokens)
