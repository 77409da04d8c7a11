-- A tree as it is printed is written by the grammar.
use Rattle.std.proofs.Common.{ℕ, true, false, List, [], ◌∷◌, subst}
use Rattle.std.proofs.lemmas.List.{append-nil}
use Rattle.rad_dict.specs.Definitions.{Definitions}
use Rattle.unlang_cond.specs.declared.atom.Atom.{Atom}
use Rattle.unlang_cond.specs.Trees.{Tree, Always, Leaf, Not, And, Or}
use Rattle.unlang_cond.specs.Outlines.{Place, Whole, BesideOr, BesideAnd, BehindNot, parts_or, parts_and, parts_not, enclosed, text_at, cond_text, IsSpelled}
use Rattle.unlang_cond.specs.Written.{IsGap, nothing, space, no_sign, sign, IsFactor, alone, group, IsSigned, signed, IsAll, one_of_all, both, IsAny, one_of_any, either, IsCondition, condition}

module _ (dict : Definitions) where
  -- What may stand at a place.
  abbrev IsAt : Place → Tree → List ℕ → Type 0
  IsAt Whole tree text = IsAny dict tree text
  IsAt BesideOr tree text = IsAll dict tree text
  IsAt BesideAnd tree text = IsSigned dict tree text
  IsAt BehindNot tree text = IsFactor dict tree text

  unsigned : {tree : Tree} {text : List ℕ} → IsFactor dict tree text → IsSigned dict tree text
  unsigned {tree} {text} is = signed false tree [] text no_sign is

  from_factor : (place : Place) {tree : Tree} {text : List ℕ} → IsFactor dict tree text → IsAt place tree text
  from_factor Whole {tree} {text} is = one_of_any tree text (one_of_all tree text (unsigned is))
  from_factor BesideOr {tree} {text} is = one_of_all tree text (unsigned is)
  from_factor BesideAnd {tree} {text} is = unsigned is
  from_factor BehindNot {tree} {text} is = is

  in_group : {tree : Tree} {text : List ℕ} → IsAny dict tree text → IsFactor dict tree (enclosed true text)
  in_group {tree} {text} is = group tree [] text [] nothing is nothing

  at_or : (place : Place) {tree : Tree} {text : List ℕ} → IsAny dict tree text → IsAt place tree (enclosed (parts_or place) text)
  at_or Whole is = is
  at_or BesideOr is = from_factor BesideOr (in_group is)
  at_or BesideAnd is = from_factor BesideAnd (in_group is)
  at_or BehindNot is = in_group is

  at_and : (place : Place) {tree : Tree} {text : List ℕ} → IsAll dict tree text → IsAt place tree (enclosed (parts_and place) text)
  at_and Whole {tree} {text} is = one_of_any tree text is
  at_and BesideOr {tree} {text} is = is
  at_and BesideAnd {tree} {text} is = from_factor BesideAnd (in_group (one_of_any tree text is))
  at_and BehindNot {tree} {text} is = in_group (one_of_any tree text is)

  at_not : (place : Place) {tree : Tree} {text : List ℕ} → IsSigned dict tree text → IsAt place tree (enclosed (parts_not place) text)
  at_not Whole {tree} {text} is = one_of_any tree text (one_of_all tree text is)
  at_not BesideOr {tree} {text} is = one_of_all tree text is
  at_not BesideAnd {tree} {text} is = is
  at_not BehindNot {tree} {text} is = in_group (one_of_any tree text (one_of_all tree text is))

  one_space : IsGap (32 ∷ [])
  one_space = space [] nothing

  -- A tree is printed as the grammar writes it.
  printed_at : (spell : Atom → List ℕ) (place : Place) (tree : Tree) → IsSpelled dict spell tree → IsAt place tree (text_at spell place tree)
  printed_at spell place Always is = absurd is
  printed_at spell place (Leaf a) is = from_factor place (alone a (spell a) is)
  printed_at spell place (Not t) is = at_not place (signed true t (33 ∷ []) (text_at spell BehindNot t) (sign false [] [] nothing no_sign) (printed_at spell BehindNot t is))
  printed_at spell place (And a b) is =
      at_and place (both a b (text_at spell BesideOr a) (32 ∷ []) (32 ∷ []) (text_at spell BesideAnd b) (printed_at spell BesideOr a is.0) one_space one_space (printed_at spell BesideAnd b is.1))
  printed_at spell place (Or a b) is =
      at_or place (either a b (text_at spell Whole a) (32 ∷ []) (32 ∷ []) (text_at spell BesideOr b) (printed_at spell Whole a is.0) one_space one_space (printed_at spell BesideOr b is.1))

  pub printed : (spell : Atom → List ℕ) (tree : Tree) → IsSpelled dict spell tree → IsCondition dict tree (cond_text spell tree)
  printed spell tree is =
      subst (IsCondition dict tree) (append-nil (cond_text spell tree)) (condition tree [] (cond_text spell tree) [] nothing (printed_at spell Whole tree is) nothing)
