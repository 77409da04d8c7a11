-- How conditions are written, apart from how they are read; after unlang(5), 'Conditions': `||` joins what `&&` joins, `!`
-- stands before an atom or parentheses, and blanks may stand between any two parts. That two `!` in a row are none is this
-- project's own.
use Rattle.std.specs.Prelude.{◌≡◌, ℕ, Bool, true, false, not, ◌||◌, ◌==◌, List, [], ◌∷◌, ◌++◌, Some, None, Ok, codes}
use Rattle.rad_words.specs.declared.codes.Code.{Code}
use Rattle.rad_words.specs.Codes.{code_name, code_named}
use Rattle.rad_value.specs.declared.values.Value.{Value}
use Rattle.rad_value.specs.declared.comparison.Cmp.{Cmp}
use Rattle.rad_value.specs.declared.comparison.Cmp.TheVariants.{Eq, Ne, Lt, Le, Gt, Ge}
use Rattle.rad_conf.specs.declared.spelling.Spelling.{Spelling}
use Rattle.rad_conf.specs.declared.spelling.Spelling.TheVariants as spelling
use Rattle.rad_conf.specs.Spelling.{parts_words, is_quoted}
use Rattle.rad_conf.specs.Words.{escape_of}
use Rattle.rad_dict.specs.Definitions.{Definitions}
use Rattle.unlang_reference.specs.declared.reference.Reference.{Reference}
use Rattle.unlang_reference.specs.Reading.{reference_of, named_alone}
use Rattle.unlang_xlat.specs.Faults.{parsed}
use Rattle.unlang_cond.specs.declared.atom.Side.{Side}
use Rattle.unlang_cond.specs.declared.atom.Side.TheVariants as side
use Rattle.unlang_cond.specs.declared.atom.Operand.{Operand}
use Rattle.unlang_cond.specs.declared.atom.Operand.TheVariants as operand
use Rattle.unlang_cond.specs.declared.atom.Pattern.{Pattern}
use Rattle.unlang_cond.specs.declared.atom.Atom.{Atom}
use Rattle.unlang_cond.specs.declared.atom.Atom.TheVariants as atom
use Rattle.unlang_cond.specs.Expansions.{Expansion}
use Rattle.unlang_cond.specs.Sides.{value_read}
use Rattle.unlang_cond.specs.Atoms.{is_name, constant_of}
use Rattle.unlang_cond.specs.Trees.{Tree, Leaf, And, Or, negating}

-- Blanks, and nothing else.
pub data IsGap : List ℕ → Type 0 where
  nothing : IsGap []
  space : (gap : List ℕ) → IsGap gap → IsGap (32 ∷ gap)
  tab : (gap : List ℕ) → IsGap gap → IsGap (9 ∷ gap)

-- The octets that stand for themselves in a bare word whatever is around them: all but blanks, line ends, commas, braces, `#`,
-- quotes, parentheses, `&`, `|`, and the first octets of a condition's operators.
unfoldable pub is_plain : ℕ → Bool
is_plain c = not (parts_words c || c == 33 || c == 38 || c == 40 || c == 41 || c == 124)

-- A bare word, or its end: such octets, and `[#]`.
pub data IsBare : List ℕ → Type 0 where
  no_more : IsBare []
  octet : (c : ℕ) (word : List ℕ) → is_plain c ≡ true → IsBare word → IsBare (c ∷ word)
  count : (word : List ℕ) → IsBare word → IsBare (91 ∷ 35 ∷ 93 ∷ word)

-- Behind `:`, `+` and `-` a `=` makes an operator with it.
abbrev pub joins : ℕ → Bool
joins c = c == 58 || c == 43 || c == 45

-- The last octet of a text is one of these.
abbrev pub last_joins : List ℕ → Bool
last_joins [] = false
last_joins (c ∷ []) = joins c
last_joins (c ∷ d ∷ text) = last_joins (d ∷ text)

-- An operator may follow the left side: with blanks between them, or behind an octet that joins no operator.
abbrev pub is_parted : List ℕ → List ℕ → Bool
is_parted left [] = not (last_joins left)
is_parted left (c ∷ gap) = true

-- Octets between quotes write a text: each stands for itself, but a backslash and the octet behind it are an escape.
pub data IsText (how : Spelling) : List ℕ → List ℕ → Type 0 where
  nothing_more : IsText how [] []
  itself : (c : ℕ) (raw text : List ℕ) → (c == 92) ≡ false → IsText how raw text → IsText how (c ∷ raw) (c ∷ text)
  escape : (c : ℕ) (raw text : List ℕ) → IsText how raw text → IsText how (92 ∷ c ∷ raw) (escape_of how c ++ text)

-- The names of the constants.
abbrev pub constant_name : Bool → List ℕ
constant_name true = codes "true"
constant_name false = codes "false"

-- The operators of comparisons.
abbrev pub comparison_sign : Cmp → List ℕ
comparison_sign Eq = codes "=="
comparison_sign Ne = codes "!="
comparison_sign Lt = codes "<"
comparison_sign Le = codes "<="
comparison_sign Gt = codes ">"
comparison_sign Ge = codes ">="

-- The operators of looks for a pattern: the negative one holds where there is no match.
abbrev pub look_sign : Bool → List ℕ
look_sign false = codes "=~"
look_sign true = codes "!~"

-- What stands behind a pattern: `i` where its letters match in either case.
abbrev pub flag : Bool → List ℕ
flag false = []
flag true = codes "i"

-- A pattern apart from where it stands.
abbrev pub pattern_of : List ℕ → Bool → Pattern
pattern_of source insensitive = record { source = source; insensitive = insensitive; left = 0 }

-- Whether an odd number of `!` is written, with blanks behind each.
pub data AreSigns : Bool → List ℕ → Type 0 where
  no_sign : AreSigns false []
  sign : (odd : Bool) (gap signs : List ℕ) → IsGap gap → AreSigns odd signs → AreSigns (not odd) (33 ∷ (gap ++ signs))

module _ (dict : Definitions) where
  -- A quoted text: in single quotes a literal, in double quotes an expansion.
  pub data IsQuotedSide : Side → List ℕ → Type 0 where
    single : (raw text : List ℕ) → is_quoted 39 false raw ≡ true → IsText spelling.Single raw text → IsQuotedSide (side.Literal text) (39 ∷ (raw ++ 39 ∷ []))
    double : (raw text : List ℕ) (x : Expansion) → is_quoted 34 false raw ≡ true → IsText spelling.Double raw text → parsed text dict ≡ Ok x → IsQuotedSide (side.Expansion x) (34 ∷ (raw ++ 34 ∷ []))

  -- A left side, or an atom by itself: a reference behind `&`, an attribute's name that is none of a constant or a code, or a quoted
  -- text.
  pub data IsLeft : Side → List ℕ → Type 0 where
    left_reference : (reference : Reference) (c : ℕ) (word : List ℕ) → IsBare (c ∷ word) → reference_of (c ∷ word) dict ≡ Ok reference → IsLeft (side.Reference reference) (38 ∷ c ∷ word)
    left_name : (reference : Reference) (c : ℕ) (word : List ℕ) → IsBare (c ∷ word) → constant_of (c ∷ word) ≡ None → code_named (c ∷ word) ≡ None → named_alone (c ∷ word) dict ≡ Some reference
        → IsLeft (side.Reference reference) (c ∷ word)
    left_quoted : (one : Side) (text : List ℕ) → IsQuotedSide one text → IsLeft one text

  -- A right side: a reference behind `&`, an attribute's name, any other bare word as a literal, or a quoted text.
  pub data IsRight : Side → List ℕ → Type 0 where
    right_reference : (reference : Reference) (c : ℕ) (word : List ℕ) → IsBare (c ∷ word) → reference_of (c ∷ word) dict ≡ Ok reference → IsRight (side.Reference reference) (38 ∷ c ∷ word)
    right_name : (reference : Reference) (c : ℕ) (word : List ℕ) → IsBare (c ∷ word) → named_alone (c ∷ word) dict ≡ Some reference → IsRight (side.Reference reference) (c ∷ word)
    right_word : (c : ℕ) (word : List ℕ) → IsBare (c ∷ word) → named_alone (c ∷ word) dict ≡ None → IsRight (side.Literal (c ∷ word)) (c ∷ word)
    right_quoted : (one : Side) (text : List ℕ) → IsQuotedSide one text → IsRight one text

  -- What a right side is beside a reference: a literal is a value of the reference's attribute.
  pub data IsOperand (reference : Reference) : Side → Operand → Type 0 where
    against_reference : (one : Reference) → IsOperand reference (side.Reference one) (operand.Reference one)
    against_value : (text : List ℕ) (one : Value) → value_read reference text dict ≡ Some one → IsOperand reference (side.Literal text) (operand.Value one)
    against_expansion : (x : Expansion) → IsOperand reference (side.Expansion x) (operand.Expansion x)

  -- An atom, but for where its pattern stands.
  pub data IsAtom : Atom → List ℕ → Type 0 where
    constant : (one : Bool) (c : ℕ) (word : List ℕ) → IsBare (c ∷ word) → is_name (c ∷ word) (constant_name one) ≡ true → IsAtom (atom.Constant one) (c ∷ word)
    returned : (one : Code) (c : ℕ) (word : List ℕ) → IsBare (c ∷ word) → is_name (c ∷ word) (code_name one) ≡ true → IsAtom (atom.Returned one) (c ∷ word)
    present : (one : Side) (text : List ℕ) → IsLeft one text → IsAtom (atom.Present one) text
    values : (reference : Reference) (cmp : Cmp) (right : Side) (o : Operand) (one gap behind other : List ℕ) → IsLeft (side.Reference reference) one → IsGap gap → is_parted one gap ≡ true → IsGap behind
        → IsRight right other → IsOperand reference right o → IsAtom (atom.Values reference cmp o) (one ++ (gap ++ (comparison_sign cmp ++ (behind ++ other))))
    texts : (left : Side) (cmp : Cmp) (right : Side) (one gap behind other : List ℕ) → IsQuotedSide left one → IsGap gap → IsGap behind → IsRight right other
        → IsAtom (atom.Texts left cmp right) (one ++ (gap ++ (comparison_sign cmp ++ (behind ++ other))))
    look : (left : Side) (negative insensitive : Bool) (one gap behind source : List ℕ) → IsLeft left one → IsGap gap → is_parted one gap ≡ true → IsGap behind → is_quoted 47 false source ≡ true
        → IsAtom (atom.Look left negative (pattern_of source insensitive)) (one ++ (gap ++ (look_sign negative ++ (behind ++ (47 ∷ (source ++ 47 ∷ flag insensitive))))))

  mutual
    -- An atom, or a condition in parentheses.
    pub data IsFactor : Tree → List ℕ → Type 0 where
      alone : (a : Atom) (text : List ℕ) → IsAtom a text → IsFactor (Leaf a) text
      group : (tree : Tree) (gap text behind : List ℕ) → IsGap gap → IsAny tree text → IsGap behind → IsFactor tree (40 ∷ (gap ++ (text ++ (behind ++ 41 ∷ []))))

    -- The same behind as many `!` as are written: an odd number of them is one, an even number none.
    pub data IsSigned : Tree → List ℕ → Type 0 where
      signed : (odd : Bool) (tree : Tree) (signs text : List ℕ) → AreSigns odd signs → IsFactor tree text → IsSigned (negating odd tree) (signs ++ text)

    -- One or more of these with `&&` between them.
    pub data IsAll : Tree → List ℕ → Type 0 where
      one_of_all : (tree : Tree) (text : List ℕ) → IsSigned tree text → IsAll tree text
      both : (a b : Tree) (one gap behind other : List ℕ) → IsAll a one → IsGap gap → IsGap behind → IsSigned b other → IsAll (And a b) (one ++ (gap ++ (38 ∷ 38 ∷ (behind ++ other))))

    -- One or more of those with `||` between them.
    pub data IsAny : Tree → List ℕ → Type 0 where
      one_of_any : (tree : Tree) (text : List ℕ) → IsAll tree text → IsAny tree text
      either : (a b : Tree) (one gap behind other : List ℕ) → IsAny a one → IsGap gap → IsGap behind → IsAll b other → IsAny (Or a b) (one ++ (gap ++ (124 ∷ 124 ∷ (behind ++ other))))

  -- A whole condition, which blanks may stand around.
  pub data IsCondition : Tree → List ℕ → Type 0 where
    condition : (tree : Tree) (gap text behind : List ℕ) → IsGap gap → IsAny tree text → IsGap behind → IsCondition tree (gap ++ (text ++ behind))
