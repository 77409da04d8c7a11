-- Trees of conditions as lists of tokens that give them back, each behind its operands. This project's own; it serves the proofs
-- alone.
use Rattle.std.specs.Prelude.{◌≡◌, List, [], ◌∷◌}
use Rattle.std.proofs.Common.{refl, ap, ◌∙◌}
use Rattle.std.specs.Coded.{Coded, code_by, coded_list}
use Rattle.unlang_cond.specs.contracts.atom.Token as row
use Rattle.unlang_cond.specs.declared.atom.Token.{Token}
use Rattle.unlang_cond.specs.declared.atom.Token.TheVariants as token
use Rattle.unlang_cond.specs.Trees.{Tree, Always, Leaf, Not, And, Or}

-- The tokens of a tree, in front of others.
abbrev pub marks : Tree → List Token → List Token
marks Always rest = token.Open ∷ rest
marks (Leaf a) rest = token.Atom a ∷ rest
marks (Not t) rest = marks t (token.Not ∷ rest)
marks (And a b) rest = marks a (marks b (token.And ∷ rest))
marks (Or a b) rest = marks a (marks b (token.Or ∷ rest))

-- The trees that stand behind a token.
abbrev pub standing_by : Token → List Tree → List Tree
standing_by token.Open trees = Always ∷ trees
standing_by token.Close trees = trees
standing_by (token.Atom a) trees = Leaf a ∷ trees
standing_by token.Not [] = []
standing_by token.Not (t ∷ trees) = Not t ∷ trees
standing_by token.And [] = []
standing_by token.And (b ∷ []) = b ∷ []
standing_by token.And (b ∷ a ∷ trees) = And a b ∷ trees
standing_by token.Or [] = []
standing_by token.Or (b ∷ []) = b ∷ []
standing_by token.Or (b ∷ a ∷ trees) = Or a b ∷ trees

-- The trees that tokens put on those before them.
abbrev pub standing : List Token → List Tree → List Tree
standing [] trees = trees
standing (t ∷ tokens) trees = standing tokens (standing_by t trees)

-- The tree that was put last.
abbrev pub uppermost : List Tree → Tree
uppermost [] = Always
uppermost (t ∷ trees) = t

-- The tokens of a tree, each behind its operands.
abbrev pub to_marks : Tree → List Token
to_marks t = marks t []

-- The tree of such tokens.
abbrev pub from_marks : List Token → Tree
from_marks tokens = uppermost (standing tokens [])

-- The tokens of a tree put it on what stands before them.
pub one_standing : (t : Tree) (rest : List Token) (trees : List Tree) → standing (marks t rest) trees ≡ standing rest (t ∷ trees)
one_standing Always rest trees = refl
one_standing (Leaf a) rest trees = refl
one_standing (Not t) rest trees = one_standing t (token.Not ∷ rest) trees
one_standing (And a b) rest trees = one_standing a (marks b (token.And ∷ rest)) trees ∙ one_standing b (token.And ∷ rest) (a ∷ trees)
one_standing (Or a b) rest trees = one_standing a (marks b (token.Or ∷ rest)) trees ∙ one_standing b (token.Or ∷ rest) (a ∷ trees)

pub from-to : (t : Tree) → from_marks (to_marks t) ≡ t
from-to t = ap uppermost (one_standing t [] [])

-- Trees are coded as their tokens.
abbrev pub tree_code : Coded Tree
tree_code = code_by (List Token) (coded_list row.the_row.coded) to_marks from_marks from-to
