-- Conditions that are written and read again: the tokens of what the grammar writes, and the tree that they make.
use Rattle.std.proofs.Common.{◌≡◌, ℕ, ◌+◌, ◌-◌, ◌<◌, ◌≤◌, Bool, true, false, not, cond, List, [], ◌∷◌, ◌++◌, length, map, Option, Some, None, Ok, inl, inr, refl, sym, ap, ◌∙◌, append_assoc, length-append, subst, arith}
use Rattle.std.proofs.lemmas.Bool.{lt-ltb}
use Rattle.std.proofs.lemmas.List.{append-nil, map-append}
use Rattle.std.specs.Prelude.{◌⊎◌}
use Rattle.rad_text.specs.Blanks.{is_blank, after_blanks}
use Rattle.rad_dict.specs.Definitions.{Definitions}
use Rattle.unlang_cond.specs.declared.atom.Atom.{Atom}
use Rattle.unlang_cond.specs.declared.atom.Atom.TheVariants as atom
use Rattle.unlang_cond.specs.declared.atom.Token.{Token}
use Rattle.unlang_cond.specs.declared.atom.Token.TheVariants as token
use Rattle.unlang_cond.specs.declared.fault.Wrong.{Wrong}
use Rattle.unlang_cond.specs.Atoms.{atom_at}
use Rattle.unlang_cond.specs.Tokens.{token_at, awaits_after, depth_after}
use Rattle.unlang_cond.specs.Steps.{pattern_of_atom}
use Rattle.unlang_cond.proofs.Refused.{Refuses, RefusesAt}
use Rattle.unlang_cond.specs.Trees.{Tree, Leaf, And, Or, Branch, fresh, anded, negating, whole, given, grow, grown}
use Rattle.unlang_cond.specs.Outlines.{unplaced, IsNotTaken, HasRefused}
use Rattle.unlang_cond.specs.Written.{IsGap, IsAtom, AreSigns, no_sign, sign, IsFactor, alone, group, IsSigned, signed, IsAll, one_of_all, both, IsAny, one_of_any, either}
use Rattle.unlang_cond.proofs.Turns.{Enough, going}
use Rattle.unlang_cond.proofs.WrittenWords.{Front, Ends, at_close, at_and, at_or, ends_behind, gap_passed}
use Rattle.unlang_cond.proofs.WrittenAtoms.{atom_read, atom_front}

-- Tokens apart from where their patterns stand.
abbrev pub plain_token : Token → Token
plain_token token.Not = token.Not
plain_token token.Open = token.Open
plain_token token.Close = token.Close
plain_token token.And = token.And
plain_token token.Or = token.Or
plain_token (token.Atom a) = token.Atom (unplaced a)

abbrev pub plain_tokens : List Token → List Token
plain_tokens tokens = map plain_token tokens

grown_append : (branches : List Branch) (xs ys : List Token) → grown branches (xs ++ ys) ≡ grown (grown branches xs) ys
unfolding grown
grown_append branches [] ys = refl
grown_append branches (x ∷ xs) ys = grown_append (grow x branches) xs ys

grown_one : (branches : List Branch) (x : Token) → grown branches (x ∷ []) ≡ grow x branches
unfolding grown
grown_one branches x = refl

-- One token, and then others.
tokens_then : (branches middle : List Branch) (xs ys : List Token) → grown branches (plain_tokens xs) ≡ middle → grown branches (plain_tokens (xs ++ ys)) ≡ grown middle (plain_tokens ys)
tokens_then branches middle xs ys e =
    ap (grown branches) (map-append plain_token xs ys) ∙ grown_append branches (plain_tokens xs) (plain_tokens ys) ∙ ap (λ (b : List Branch). grown b (plain_tokens ys)) e

pub shorter : (text : List ℕ) → length (after_blanks text) ≤ length text
unfolding after_blanks
shorter [] = omega arith
shorter (c ∷ text) =
    let later = shorter text in
    elim (is_blank c) as (λ (b : Bool). length (cond b (after_blanks text) (c ∷ text)) ≤ length (c ∷ text)) [
      | true ↦ omega (arith, later)
      | false ↦ omega arith
    ]

refused_split : (xs ys : List Token) (left : ℕ) → RefusesAt (xs ++ ys) left → RefusesAt xs left ⊎ RefusesAt ys left
refused_split [] ys left at = inr at
refused_split (x ∷ xs) ys left (inl here) = inl (inl here)
refused_split (x ∷ xs) ys left (inr later) = elim (refused_split xs ys left later) [
  | inl at ↦ inl (inr at)
  | inr at ↦ inr at
]

refused_atom : (a : Atom) (left : ℕ) → Refuses (pattern_of_atom a) left → IsNotTaken (pattern_of_atom (unplaced a))
refused_atom (atom.Constant c) left at = absurd at
refused_atom (atom.Returned c) left at = absurd at
refused_atom (atom.Present s) left at = absurd at
refused_atom (atom.Values reference cmp o) left at = absurd at
refused_atom (atom.Texts l cmp r) left at = absurd at
refused_atom (atom.Look s negative pattern) left at = at.1

refused_negated : (odd : Bool) (tree : Tree) → HasRefused tree → HasRefused (negating odd tree)
refused_negated true tree at = at
refused_negated false tree at = at

module _ (dict : Definitions) where
  -- Behind these tokens reading goes on with what follows them.
  abbrev pub Takes : List ℕ → List ℕ → List Token → Type 0
  Takes text rest tokens = (depth : ℕ) (out : List Token) (total : List Token × Option Wrong) → Enough depth true out text dict total → Enough depth false (out ++ tokens) (after_blanks rest) dict total

  -- A factor's tokens add it to the group that is paren.
  record FactorRead (tree : Tree) (text rest : List ℕ) : Type 0 where
    tokens : List Token
    takes : Takes (text ++ rest) rest tokens
    grows : (g : Branch) (outer : List Branch) → grown (g ∷ outer) (plain_tokens tokens) ≡ given tree g ∷ outer
    refuses : (left : ℕ) → RefusesAt tokens left → HasRefused tree

  -- The first operands of an alternative, and the alternatives of a group.
  record AllRead (tree : Tree) (text rest : List ℕ) : Type 0 where
    tokens : List Token
    takes : Takes (text ++ rest) rest tokens
    grows : (before : Option Tree) (outer : List Branch) → grown (record { before = before; chain = None; negated = false } ∷ outer) (plain_tokens tokens) ≡ record { before = before; chain = Some tree; negated = false } ∷ outer
    refuses : (left : ℕ) → RefusesAt tokens left → HasRefused tree

  pub record AnyRead (tree : Tree) (text rest : List ℕ) : Type 0 where
    pub tokens : List Token
    pub takes : Takes (text ++ rest) rest tokens
    pub branch : Branch
    pub grows : (outer : List Branch) → grown (fresh ∷ outer) (plain_tokens tokens) ≡ branch ∷ outer
    pub tree_is : whole branch ≡ tree
    pub even : branch.negated ≡ false
    pub refuses : (left : ℕ) → RefusesAt tokens left → HasRefused tree

  -- A token is taken.
  one_taken : (depth : ℕ) (awaits : Bool) (out : List Token) (text : List ℕ) (total : List Token × Option Wrong) (t : Token) (after : List ℕ) → 0 < length text → length after < length text → token_at awaits depth text dict ≡ Ok (t, after)
      → Enough depth awaits out text dict total → Enough (depth_after t depth) (awaits_after t) (out ++ t ∷ []) (after_blanks after) dict total
  one_taken depth awaits out text total t after some less e so_far = going depth awaits out text dict total t after (after_blanks after) some e refl (omega (arith, shorter after)) so_far

  abbrev At : ℕ → Bool → List Token → List ℕ → List Token × Option Wrong → Type 0
  At depth awaits out text total = Enough depth awaits out text dict total

  longer : (text rest : List ℕ) → Front text → length rest < length (text ++ rest)
  longer text rest front = omega (arith, length-append text rest, ap length (append-nil text), front.some [])

  atom_token : (text rest : List ℕ) (one : Atom) (depth : ℕ) → Front text → atom_at (text ++ rest) dict ≡ Ok (one, rest) → token_at true depth (text ++ rest) dict ≡ Ok (token.Atom one, rest)
  atom_token text rest one depth front reads = rw (front.sign rest, front.paren rest, reads) refl

  -- What begins a condition is no blank.
  stays_open : (text : List ℕ) → after_blanks (40 ∷ text) ≡ 40 ∷ text
  unfolding after_blanks
  stays_open text = refl

  stays_close : (text : List ℕ) → after_blanks (41 ∷ text) ≡ 41 ∷ text
  unfolding after_blanks
  stays_close text = refl

  stays_not : (text : List ℕ) → after_blanks (33 ∷ text) ≡ 33 ∷ text
  unfolding after_blanks
  stays_not text = refl

  stays_and : (text : List ℕ) → after_blanks (38 ∷ text) ≡ 38 ∷ text
  unfolding after_blanks
  stays_and text = refl

  stays_or : (text : List ℕ) → after_blanks (124 ∷ text) ≡ 124 ∷ text
  unfolding after_blanks
  stays_or text = refl

  factor_stays : {tree : Tree} {text : List ℕ} → IsFactor dict tree text → (rest : List ℕ) → after_blanks (text ++ rest) ≡ text ++ rest
  factor_stays (alone a text is) rest = (atom_front dict is).blank rest
  factor_stays (group tree gap text behind blank any more) rest = stays_open ((gap ++ (text ++ (behind ++ 41 ∷ []))) ++ rest)

  signs_stay : {odd : Bool} {signs : List ℕ} → AreSigns odd signs → (text : List ℕ) → after_blanks text ≡ text → after_blanks (signs ++ text) ≡ signs ++ text
  signs_stay no_sign text stays = stays
  signs_stay (sign odd gap signs blank more) text stays = stays_not ((gap ++ signs) ++ text)

  signed_stays : {tree : Tree} {text : List ℕ} → IsSigned dict tree text → (rest : List ℕ) → after_blanks (text ++ rest) ≡ text ++ rest
  signed_stays (signed odd tree signs text are is) rest = rw (append_assoc signs text rest) (signs_stay are (text ++ rest) (factor_stays is rest))

  all_stays : {tree : Tree} {text : List ℕ} → IsAll dict tree text → (rest : List ℕ) → after_blanks (text ++ rest) ≡ text ++ rest
  all_stays (one_of_all tree text is) rest = signed_stays is rest
  all_stays (both a b one gap behind other first blank more second) rest =
      let tail = gap ++ (38 ∷ 38 ∷ (behind ++ other)) in rw (append_assoc one tail rest) (all_stays first (tail ++ rest))

  pub any_stays : {tree : Tree} {text : List ℕ} → IsAny dict tree text → (rest : List ℕ) → after_blanks (text ++ rest) ≡ text ++ rest
  any_stays (one_of_any tree text is) rest = all_stays is rest
  any_stays (either a b one gap behind other first blank more second) rest =
      let tail = gap ++ (124 ∷ 124 ∷ (behind ++ other)) in rw (append_assoc one tail rest) (any_stays first (tail ++ rest))

  -- So many `!` turn the sign of what follows.
  turned : Bool → Bool → Bool
  turned true negated = not negated
  turned false negated = negated

  record SignsRead (odd : Bool) (signs text : List ℕ) : Type 0 where
    tokens : List Token
    takes : (depth : ℕ) (out : List Token) (total : List Token × Option Wrong) → At depth true out (signs ++ text) total → At depth true (out ++ tokens) text total
    grows : (before chain : Option Tree) (negated : Bool) (outer : List Branch)
        → grown (record { before = before; chain = chain; negated = negated } ∷ outer) (plain_tokens tokens) ≡ record { before = before; chain = chain; negated = turned odd negated } ∷ outer
    refuses : (left : ℕ) → RefusesAt tokens left → ⊥

  turned_twice : (odd negated : Bool) → turned odd (not negated) ≡ turned (not odd) negated
  unfolding turned
  turned_twice true true = refl
  turned_twice true false = refl
  turned_twice false true = refl
  turned_twice false false = refl

  signs_read : {odd : Bool} {signs : List ℕ} → AreSigns odd signs → (text : List ℕ) → after_blanks text ≡ text → SignsRead odd signs text
  unfolding grown turned
  signs_read no_sign text stays = record {
    tokens = [];
    takes = λ depth out total so_far. subst (λ (ts : List Token). At depth true ts text total) (sym (append-nil out)) so_far;
    grows = λ before chain negated outer. refl;
    refuses = λ left at. at;
  }
  signs_read (sign odd gap signs blank more) text stays =
      let inner = signs_read more text stays in
      let after = gap ++ (signs ++ text) in
      record {
        tokens = token.Not ∷ inner.tokens;
        takes = λ depth out total so_far.
            let here : At depth true out (33 ∷ after) total = subst (λ (xs : List ℕ). At depth true out (33 ∷ xs) total) (append_assoc gap signs text) so_far in
            let next = one_taken depth true out (33 ∷ after) total token.Not after (omega arith) (omega arith) refl here in
            let there : At depth true (out ++ token.Not ∷ []) (signs ++ text) total = subst (λ (xs : List ℕ). At depth true (out ++ token.Not ∷ []) xs total) (gap_passed blank (signs ++ text) (signs_stay more text stays)) next in
            subst (λ (ts : List Token). At depth true ts text total) (append_assoc out (token.Not ∷ []) inner.tokens) (inner.takes depth (out ++ token.Not ∷ []) total there);
        grows = λ before chain negated outer.
            inner.grows before chain (not negated) outer ∙ ap (λ (b : Bool). record { before = before; chain = chain; negated = b } ∷ outer) (turned_twice odd negated);
        refuses = λ left at. elim at [ inl here ↦ absurd here | inr later ↦ inner.refuses left later ];
      }

  linked : (one gap : List ℕ) (c d : ℕ) (behind other rest : List ℕ) → (one ++ (gap ++ (c ∷ d ∷ (behind ++ other)))) ++ rest ≡ one ++ (gap ++ (c ∷ d ∷ (behind ++ (other ++ rest))))
  linked one gap c d behind other rest =
      append_assoc one (gap ++ (c ∷ d ∷ (behind ++ other))) rest
      ∙ ap (λ (xs : List ℕ). one ++ xs) (append_assoc gap (c ∷ d ∷ (behind ++ other)) rest ∙ ap (λ (xs : List ℕ). gap ++ (c ∷ d ∷ xs)) (append_assoc behind other rest))

  in_parentheses : (gap text behind rest : List ℕ) → (gap ++ (text ++ (behind ++ 41 ∷ []))) ++ rest ≡ gap ++ (text ++ (behind ++ 41 ∷ rest))
  in_parentheses gap text behind rest =
      append_assoc gap (text ++ (behind ++ 41 ∷ [])) rest
      ∙ ap (λ (xs : List ℕ). gap ++ xs) (append_assoc text (behind ++ 41 ∷ []) rest ∙ ap (λ (xs : List ℕ). text ++ xs) (append_assoc behind (41 ∷ []) rest))

  -- A link between two conditions is taken.
  link_taken : (depth : ℕ) (out : List Token) (total : List Token × Option Wrong) (t : Token) (c : ℕ) {gap behind : List ℕ} (text : List ℕ) → IsGap gap → IsGap behind → after_blanks text ≡ text → awaits_after t ≡ true → depth_after t depth ≡ depth
      → after_blanks (c ∷ c ∷ (behind ++ text)) ≡ c ∷ c ∷ (behind ++ text) → token_at false depth (c ∷ c ∷ (behind ++ text)) dict ≡ Ok (t, behind ++ text)
      → At depth false out (after_blanks (gap ++ (c ∷ c ∷ (behind ++ text)))) total → At depth true (out ++ t ∷ []) text total
  link_taken depth out total t c {gap} {behind} text blank more stays awaits flat sign_stays e so_far =
      let here : At depth false out (c ∷ c ∷ (behind ++ text)) total = subst (λ (xs : List ℕ). At depth false out xs total) (gap_passed blank (c ∷ c ∷ (behind ++ text)) sign_stays) so_far in
      let next = one_taken depth false out (c ∷ c ∷ (behind ++ text)) total t (behind ++ text) (omega arith) (omega arith) e here in
      let level : At depth (awaits_after t) (out ++ t ∷ []) (after_blanks (behind ++ text)) total = subst (λ (d : ℕ). At d (awaits_after t) (out ++ t ∷ []) (after_blanks (behind ++ text)) total) flat next in
      let due : At depth true (out ++ t ∷ []) (after_blanks (behind ++ text)) total = subst (λ (b : Bool). At depth b (out ++ t ∷ []) (after_blanks (behind ++ text)) total) awaits level in
      subst (λ (xs : List ℕ). At depth true (out ++ t ∷ []) xs total) (gap_passed more text stays) due

  three_lists : (out xs ys : List Token) (t : Token) → ((out ++ xs) ++ t ∷ []) ++ ys ≡ out ++ (xs ++ t ∷ ys)
  three_lists out xs ys t = append_assoc (out ++ xs) (t ∷ []) ys ∙ append_assoc out xs (t ∷ ys)

  record SignedRead (tree : Tree) (text rest : List ℕ) : Type 0 where
    tokens : List Token
    takes : Takes (text ++ rest) rest tokens
    grows : (before chain : Option Tree) (outer : List Branch)
        → grown (record { before = before; chain = chain; negated = false } ∷ outer) (plain_tokens tokens) ≡ record { before = before; chain = Some (anded chain tree); negated = false } ∷ outer
    refuses : (left : ℕ) → RefusesAt tokens left → HasRefused tree

  turned_false : (odd : Bool) → turned odd false ≡ odd
  unfolding turned
  turned_false true = refl
  turned_false false = refl

  atom_factor : {a : Atom} {text : List ℕ} → IsAtom dict a text → {rest : List ℕ} → Ends rest → FactorRead (Leaf a) text rest
  atom_factor {a} {text} is {rest} ends =
      let read = atom_read dict is ends in
      let front = atom_front dict is in
      record {
        tokens = token.Atom read.one ∷ [];
        takes = λ depth out total so_far.
            one_taken depth true out (text ++ rest) total (token.Atom read.one) rest (front.some rest) (longer text rest front) (atom_token text rest read.one depth front read.reads) so_far;
        grows = λ g outer. grown_one (g ∷ outer) (plain_token (token.Atom read.one)) ∙ ap (λ (b : Atom). given (Leaf b) g ∷ outer) read.same;
        refuses = λ left at. elim at [ inl here ↦ subst (λ (b : Atom). IsNotTaken (pattern_of_atom b)) read.same (refused_atom read.one left here) | inr later ↦ absurd later ];
      }

  group_factor : (tree : Tree) (gap text behind rest : List ℕ) → IsGap gap → IsGap behind → ((after : List ℕ) → after_blanks (text ++ after) ≡ text ++ after) → AnyRead tree text (behind ++ 41 ∷ rest)
      → FactorRead tree (40 ∷ (gap ++ (text ++ (behind ++ 41 ∷ [])))) rest
  group_factor tree gap text behind rest blank more stays read =
      let inner = text ++ (behind ++ 41 ∷ rest) in
      record {
        tokens = token.Open ∷ (read.tokens ++ token.Close ∷ []);
        takes = λ depth out total so_far.
            let opens = out ++ token.Open ∷ [] in
            let here : At depth true out (40 ∷ (gap ++ inner)) total = subst (λ (xs : List ℕ). At depth true out (40 ∷ xs) total) (in_parentheses gap text behind rest) so_far in
            let next = one_taken depth true out (40 ∷ (gap ++ inner)) total token.Open (gap ++ inner) (omega arith) (omega arith) refl here in
            let paren : At (depth + 1) true opens inner total = subst (λ (xs : List ℕ). At (depth + 1) true opens xs total) (gap_passed blank inner (stays (behind ++ 41 ∷ rest))) next in
            let read_all = read.takes (depth + 1) opens total paren in
            let last : At (depth + 1) false (opens ++ read.tokens) (41 ∷ rest) total = subst (λ (xs : List ℕ). At (depth + 1) false (opens ++ read.tokens) xs total) (gap_passed more (41 ∷ rest) (stays_close rest)) read_all in
            let shut = one_taken (depth + 1) false (opens ++ read.tokens) (41 ∷ rest) total token.Close rest (omega arith) (omega arith) (closing depth rest) last in
            let level : depth + 1 - 1 ≡ depth = omega arith in
            let flat : At depth false ((opens ++ read.tokens) ++ token.Close ∷ []) (after_blanks rest) total = subst (λ (d : ℕ). At d false ((opens ++ read.tokens) ++ token.Close ∷ []) (after_blanks rest) total) level shut in
            subst (λ (ts : List Token). At depth false ts (after_blanks rest) total) (append_assoc opens read.tokens (token.Close ∷ []) ∙ append_assoc out (token.Open ∷ []) (read.tokens ++ token.Close ∷ [])) flat;
        grows = λ g outer.
            tokens_then (g ∷ outer) (fresh ∷ g ∷ outer) (token.Open ∷ []) (read.tokens ++ token.Close ∷ []) (grown_one (g ∷ outer) (plain_token token.Open))
            ∙ tokens_then (fresh ∷ g ∷ outer) (read.branch ∷ g ∷ outer) read.tokens (token.Close ∷ []) (read.grows (g ∷ outer))
            ∙ grown_one (read.branch ∷ g ∷ outer) (plain_token token.Close) ∙ ap (λ (t : Tree). given t g ∷ outer) read.tree_is;
        refuses = λ left at. elim at [
          | inl here ↦ absurd here
          | inr later ↦ elim (refused_split read.tokens (token.Close ∷ []) left later) [
            | inl within ↦ read.refuses left within
            | inr end ↦ elim end [ inl here ↦ absurd here | inr none ↦ absurd none ]
          ]
        ];
      }
    where
      closing : (depth : ℕ) (rest : List ℕ) → token_at false (depth + 1) (41 ∷ rest) dict ≡ Ok (token.Close, rest)
      closing depth rest = rw (lt-ltb 0 (depth + 1) (omega arith)) refl

  signed_factor : (odd : Bool) (tree : Tree) (signs text rest : List ℕ) → SignsRead odd signs (text ++ rest) → FactorRead tree text rest → SignedRead (negating odd tree) (signs ++ text) rest
  signed_factor odd tree signs text rest first read = record {
    tokens = first.tokens ++ read.tokens;
    takes = λ depth out total so_far.
        let here : At depth true out (signs ++ (text ++ rest)) total = subst (λ (xs : List ℕ). At depth true out xs total) (append_assoc signs text rest) so_far in
        subst (λ (ts : List Token). At depth false ts (after_blanks rest) total) (append_assoc out first.tokens read.tokens) (read.takes depth (out ++ first.tokens) total (first.takes depth out total here));
    grows = λ before chain outer.
        tokens_then (record { before = before; chain = chain; negated = false } ∷ outer) (record { before = before; chain = chain; negated = turned odd false } ∷ outer) first.tokens read.tokens (first.grows before chain false outer)
        ∙ ap (λ (b : Bool). grown (record { before = before; chain = chain; negated = b } ∷ outer) (plain_tokens read.tokens)) (turned_false odd)
        ∙ read.grows (record { before = before; chain = chain; negated = odd }) outer;
    refuses = λ left at. elim (refused_split first.tokens read.tokens left at) [
      | inl among ↦ absurd (first.refuses left among)
      | inr within ↦ refused_negated odd tree (read.refuses left within)
    ];
  }

  one_all : (tree : Tree) (text rest : List ℕ) → SignedRead tree text rest → AllRead tree text rest
  one_all tree text rest read = record { tokens = read.tokens; takes = read.takes; grows = λ before outer. read.grows before None outer; refuses = read.refuses }

  both_read : (a b : Tree) (one gap behind other rest : List ℕ) → IsGap gap → IsGap behind → after_blanks (other ++ rest) ≡ other ++ rest → AllRead a one (gap ++ (38 ∷ 38 ∷ (behind ++ (other ++ rest)))) → SignedRead b other rest
      → AllRead (And a b) (one ++ (gap ++ (38 ∷ 38 ∷ (behind ++ other)))) rest
  both_read a b one gap behind other rest blank more stays first second =
      let after = behind ++ (other ++ rest) in
      record {
        tokens = first.tokens ++ token.And ∷ second.tokens;
        takes = λ depth out total so_far.
            let here : At depth true out (one ++ (gap ++ (38 ∷ 38 ∷ after))) total = subst (λ (xs : List ℕ). At depth true out xs total) (linked one gap 38 38 behind other rest) so_far in
            let link = link_taken depth (out ++ first.tokens) total token.And 38 (other ++ rest) blank more stays refl refl (stays_and (38 ∷ after)) refl (first.takes depth out total here) in
            subst (λ (ts : List Token). At depth false ts (after_blanks rest) total) (three_lists out first.tokens second.tokens token.And) (second.takes depth ((out ++ first.tokens) ++ token.And ∷ []) total link);
        grows = λ before outer.
            let begun = record { before = before; chain = Some a; negated = false } ∷ outer in
            tokens_then (record { before = before; chain = None; negated = false } ∷ outer) begun first.tokens (token.And ∷ second.tokens) (first.grows before outer)
            ∙ tokens_then begun begun (token.And ∷ []) second.tokens (grown_one begun (plain_token token.And)) ∙ second.grows before (Some a) outer;
        refuses = λ left at. elim (refused_split first.tokens (token.And ∷ second.tokens) left at) [
          | inl one ↦ inl (first.refuses left one)
          | inr others ↦ elim others [ inl here ↦ absurd here | inr later ↦ inr (second.refuses left later) ]
        ];
      }

  one_any : (tree : Tree) (text rest : List ℕ) → AllRead tree text rest → AnyRead tree text rest
  one_any tree text rest read = record {
    tokens = read.tokens;
    takes = read.takes;
    branch = record { before = None; chain = Some tree; negated = false };
    grows = λ outer. read.grows None outer;
    tree_is = refl;
    even = refl;
    refuses = read.refuses;
  }

  either_read : (a b : Tree) (one gap behind other rest : List ℕ) → IsGap gap → IsGap behind → after_blanks (other ++ rest) ≡ other ++ rest → AnyRead a one (gap ++ (124 ∷ 124 ∷ (behind ++ (other ++ rest)))) → AllRead b other rest
      → AnyRead (Or a b) (one ++ (gap ++ (124 ∷ 124 ∷ (behind ++ other)))) rest
  either_read a b one gap behind other rest blank more stays first second =
      let after = behind ++ (other ++ rest) in
      record {
        tokens = first.tokens ++ token.Or ∷ second.tokens;
        takes = λ depth out total so_far.
            let here : At depth true out (one ++ (gap ++ (124 ∷ 124 ∷ after))) total = subst (λ (xs : List ℕ). At depth true out xs total) (linked one gap 124 124 behind other rest) so_far in
            let link = link_taken depth (out ++ first.tokens) total token.Or 124 (other ++ rest) blank more stays refl refl (stays_or (124 ∷ after)) refl (first.takes depth out total here) in
            subst (λ (ts : List Token). At depth false ts (after_blanks rest) total) (three_lists out first.tokens second.tokens token.Or) (second.takes depth ((out ++ first.tokens) ++ token.Or ∷ []) total link);
        branch = record { before = Some a; chain = Some b; negated = false };
        grows = λ outer.
            tokens_then (fresh ∷ outer) (first.branch ∷ outer) first.tokens (token.Or ∷ second.tokens) (first.grows outer)
            ∙ tokens_then (first.branch ∷ outer) (record { before = Some a; chain = None; negated = false } ∷ outer) (token.Or ∷ []) second.tokens
            (grown_one (first.branch ∷ outer) (plain_token token.Or)
            ∙ ap (λ (b : Bool). record { before = Some (whole first.branch); chain = None; negated = b } ∷ outer) first.even
            ∙ ap (λ (t : Tree). record { before = Some t; chain = None; negated = false } ∷ outer) first.tree_is)
            ∙ second.grows (Some a) outer;
        tree_is = refl;
        even = refl;
        refuses = λ left at. elim (refused_split first.tokens (token.Or ∷ second.tokens) left at) [
          | inl one ↦ inl (first.refuses left one)
          | inr others ↦ elim others [ inl here ↦ absurd here | inr later ↦ inr (second.refuses left later) ]
        ];
      }

  mutual
    factor_read : {tree : Tree} {text : List ℕ} → IsFactor dict tree text → {rest : List ℕ} → Ends rest → FactorRead tree text rest
    factor_read (alone a text is) {rest} ends = atom_factor is ends
    factor_read (group tree gap text behind blank any more) {rest} ends =
        group_factor tree gap text behind rest blank more (any_stays any) (any_read any (ends_behind more (41 ∷ rest) (at_close rest)))

    signed_read : {tree : Tree} {text : List ℕ} → IsSigned dict tree text → {rest : List ℕ} → Ends rest → SignedRead tree text rest
    signed_read (signed odd tree signs text are is) {rest} ends =
        signed_factor odd tree signs text rest (signs_read are (text ++ rest) (factor_stays is rest)) (factor_read is ends)

    all_read : {tree : Tree} {text : List ℕ} → IsAll dict tree text → {rest : List ℕ} → Ends rest → AllRead tree text rest
    all_read (one_of_all tree text is) {rest} ends = one_all tree text rest (signed_read is ends)
    all_read (both a b one gap behind other first blank more second) {rest} ends =
        both_read a b one gap behind other rest blank more (signed_stays second rest) (all_read first (ends_behind blank (38 ∷ 38 ∷ (behind ++ (other ++ rest))) (at_and (behind ++ (other ++ rest))))) (signed_read second ends)

    pub any_read : {tree : Tree} {text : List ℕ} → IsAny dict tree text → {rest : List ℕ} → Ends rest → AnyRead tree text rest
    any_read (one_of_any tree text is) {rest} ends = one_any tree text rest (all_read is ends)
    any_read (either a b one gap behind other first blank more second) {rest} ends =
        either_read a b one gap behind other rest blank more (all_stays second rest) (any_read first (ends_behind blank (124 ∷ 124 ∷ (behind ++ (other ++ rest))) (at_or (behind ++ (other ++ rest))))) (all_read second ends)
