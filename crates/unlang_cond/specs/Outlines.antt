-- What a condition's tree has from its text, and how a tree is written with as few parentheses as its operators ask for. This
-- project's own.
use Rattle.std.specs.Prelude.{◌⊎◌, ℕ, Bool, true, false, List, ◌∷◌, [], ◌++◌, Option, Some, None, codes}
use Rattle.rad_dict.specs.Definitions.{Definitions}
use Rattle.unlang_cond.specs.declared.atom.Pattern.{Pattern}
use Rattle.unlang_cond.specs.declared.atom.Atom.{Atom}
use Rattle.unlang_cond.specs.declared.atom.Atom.TheVariants as atom
use Rattle.unlang_cond.specs.Patterns.{IsRefused}
use Rattle.unlang_cond.specs.Steps.{pattern_of_atom}
use Rattle.unlang_cond.specs.Trees.{Tree, Always, Leaf, Not, And, Or}
use Rattle.unlang_cond.specs.Written.{pattern_of, IsAtom}

-- An atom apart from where its pattern stands in the text.
abbrev pub unplaced : Atom → Atom
unplaced (atom.Constant one) = atom.Constant one
unplaced (atom.Returned one) = atom.Returned one
unplaced (atom.Present side) = atom.Present side
unplaced (atom.Values reference cmp operand) = atom.Values reference cmp operand
unplaced (atom.Texts left cmp right) = atom.Texts left cmp right
unplaced (atom.Look side negative pattern) = atom.Look side negative (pattern_of pattern.source pattern.insensitive)

-- A tree apart from where its patterns stand.
abbrev pub outline : Tree → Tree
outline Always = Always
outline (Leaf a) = Leaf (unplaced a)
outline (Not t) = Not (outline t)
outline (And a b) = And (outline a) (outline b)
outline (Or a b) = Or (outline a) (outline b)

-- A pattern, where there is one, is refused.
abbrev pub IsNotTaken : Option Pattern → Type 0
IsNotTaken None = ⊥
IsNotTaken (Some pattern) = IsRefused pattern

-- A pattern of the tree is refused.
abbrev pub HasRefused : Tree → Type 0
HasRefused Always = ⊥
HasRefused (Leaf a) = IsNotTaken (pattern_of_atom a)
HasRefused (Not t) = HasRefused t
HasRefused (And a b) = HasRefused a ⊎ HasRefused b
HasRefused (Or a b) = HasRefused a ⊎ HasRefused b

-- Where a tree is written: as a whole condition, beside `||`, beside `&&`, or behind `!`.
pub data Place : Type 0 where
  Whole : Place
  BesideOr : Place
  BesideAnd : Place
  BehindNot : Place

-- Whether parentheses stand there around what `||` joins.
abbrev pub parts_or : Place → Bool
parts_or Whole = false
parts_or BesideOr = true
parts_or BesideAnd = true
parts_or BehindNot = true

-- The same of `&&`.
abbrev pub parts_and : Place → Bool
parts_and Whole = false
parts_and BesideOr = false
parts_and BesideAnd = true
parts_and BehindNot = true

-- The same of `!` and what follows it.
abbrev pub parts_not : Place → Bool
parts_not Whole = false
parts_not BesideOr = false
parts_not BesideAnd = false
parts_not BehindNot = true

-- A text, in parentheses where they are asked for.
abbrev pub enclosed : Bool → List ℕ → List ℕ
enclosed false text = text
enclosed true text = 40 ∷ (text ++ 41 ∷ [])

-- A tree as it is written there, with each atom as it is spelled.
abbrev pub text_at : (Atom → List ℕ) → Place → Tree → List ℕ
text_at spell place Always = []
text_at spell place (Leaf a) = spell a
text_at spell place (Not t) = enclosed (parts_not place) (33 ∷ text_at spell BehindNot t)
text_at spell place (And a b) = enclosed (parts_and place) (text_at spell BesideOr a ++ (codes " && " ++ text_at spell BesideAnd b))
text_at spell place (Or a b) = enclosed (parts_or place) (text_at spell Whole a ++ (codes " || " ++ text_at spell BesideOr b))

-- A condition as it is written.
abbrev pub cond_text : (Atom → List ℕ) → Tree → List ℕ
cond_text spell tree = text_at spell Whole tree

-- Each atom of the tree is spelled so. A tree that always holds stands in no text.
abbrev pub IsSpelled : Definitions → (Atom → List ℕ) → Tree → Type 0
IsSpelled dict spell Always = ⊥
IsSpelled dict spell (Leaf a) = IsAtom dict a (spell a)
IsSpelled dict spell (Not t) = IsSpelled dict spell t
IsSpelled dict spell (And a b) = IsSpelled dict spell a × IsSpelled dict spell b
IsSpelled dict spell (Or a b) = IsSpelled dict spell a × IsSpelled dict spell b
