-- A whole condition that is written is read as its tree, and is refused for a pattern alone.
use Rattle.std.proofs.Common.{◌≡◌, ℕ, Bool, true, false, List, [], ◌∷◌, ◌++◌, length, map, Option, Some, None, inl, inr, refl, sym, ap, ◌∙◌, subst, Err}
use Rattle.std.proofs.lemmas.List.{append-nil}
use Rattle.std.specs.Option.{option_map}
use Rattle.std.specs.Prelude.{◌⊎◌}
use Rattle.rad_text.specs.Blanks.{after_blanks}
use Rattle.rad_dict.specs.Definitions.{Definitions}
use Rattle.unlang_cond.specs.declared.atom.Token.{Token}
use Rattle.unlang_cond.specs.declared.atom.Token.TheVariants as token
use Rattle.unlang_cond.specs.declared.fault.CondFault.{CondFault}
use Rattle.unlang_cond.specs.declared.fault.CondFault.TheVariants.{NoMemory}
use Rattle.unlang_cond.specs.declared.fault.Wrong.{Wrong}
use Rattle.unlang_cond.specs.Tokens.{tokens_of}
use Rattle.unlang_cond.specs.Steps.{first_refused}
use Rattle.unlang_cond.proofs.Refused.{RefusesAt, refused_among}
use Rattle.unlang_cond.specs.Trees.{Tree, Leaf, Branch, fresh, anded, ored, negating, chained, whole, given, closed, grown_by, grow, grown, innermost, tree_of}
use Rattle.unlang_cond.specs.Conditions.{made_of, condition_of, judged, reading_of, IsFaultOf}
use Rattle.unlang_cond.specs.Outlines.{outline, HasRefused}
use Rattle.unlang_cond.specs.Written.{IsGap, nothing, space, tab, IsCondition, condition}
use Rattle.unlang_cond.proofs.Turns.{Enough, starts, is_done}
use Rattle.unlang_cond.proofs.WrittenWords.{Ends, at_end, ends_behind, gap_passed}
use Rattle.unlang_cond.proofs.WrittenTrees.{plain_token, plain_tokens, shorter, AnyRead, any_read, any_stays}

-- A group apart from its patterns' places.
abbrev plain_branch : Branch → Branch
plain_branch g = record { before = option_map outline g.before; chain = option_map outline g.chain; negated = g.negated }

outline_negating : (negated : Bool) (t : Tree) → outline (negating negated t) ≡ negating negated (outline t)
outline_negating true t = refl
outline_negating false t = refl

outline_anded : (chain : Option Tree) (t : Tree) → outline (anded chain t) ≡ anded (option_map outline chain) (outline t)
outline_anded None t = refl
outline_anded (Some a) t = refl

outline_chained : (chain : Option Tree) → outline (chained chain) ≡ chained (option_map outline chain)
outline_chained None = refl
outline_chained (Some a) = refl

outline_ored : (before : Option Tree) (t : Tree) → outline (ored before t) ≡ ored (option_map outline before) (outline t)
outline_ored None t = refl
outline_ored (Some a) t = refl

outline_whole : (g : Branch) → outline (whole g) ≡ whole (plain_branch g)
outline_whole g = outline_ored g.before (chained g.chain) ∙ ap (ored (option_map outline g.before)) (outline_chained g.chain)

outline_given : (t : Tree) (g : Branch) → plain_branch (given t g) ≡ given (outline t) (plain_branch g)
outline_given t g =
    ap (λ (c : Tree). record { before = option_map outline g.before; chain = Some c; negated = false })
    (outline_anded g.chain (negating g.negated t) ∙ ap (anded (option_map outline g.chain)) (outline_negating g.negated t))

outline_closed : (g : Branch) (outer : List Branch) → map plain_branch (closed g outer) ≡ closed (plain_branch g) (map plain_branch outer)
outline_closed g [] = refl
outline_closed g (p ∷ outer) =
    ap (λ (b : Branch). b ∷ map plain_branch outer) (outline_given (whole g) p ∙ ap (λ (t : Tree). given t (plain_branch p)) (outline_whole g))

outline_token : (t : Token) (g : Branch) (outer : List Branch) → map plain_branch (grown_by t g outer) ≡ grow (plain_token t) (plain_branch g ∷ map plain_branch outer)
outline_token token.Not g outer = refl
outline_token token.Open g outer = refl
outline_token token.Close g outer = outline_closed g outer
outline_token token.And g outer = refl
outline_token token.Or g outer = ap (λ (t : Tree). record { before = Some t; chain = None; negated = g.negated } ∷ map plain_branch outer) (outline_whole g)
outline_token (token.Atom a) g outer = ap (λ (b : Branch). b ∷ map plain_branch outer) (outline_given (Leaf a) g)

outline_grow : (t : Token) (branches : List Branch) → map plain_branch (grow t branches) ≡ grow (plain_token t) (map plain_branch branches)
outline_grow t [] = refl
outline_grow t (g ∷ outer) = outline_token t g outer

outline_grown : (tokens : List Token) (branches : List Branch) → map plain_branch (grown branches tokens) ≡ grown (map plain_branch branches) (plain_tokens tokens)
unfolding grown
outline_grown [] branches = refl
outline_grown (t ∷ tokens) branches =
    outline_grown tokens (grow t branches) ∙ ap (λ (b : List Branch). grown b (plain_tokens tokens)) (outline_grow t branches)

outline_innermost : (branches : List Branch) → outline (innermost branches) ≡ innermost (map plain_branch branches)
outline_innermost [] = refl
outline_innermost (g ∷ outer) = outline_whole g

outline_tree : (tokens : List Token) → outline (tree_of tokens) ≡ tree_of (plain_tokens tokens)
outline_tree tokens = outline_innermost (grown (fresh ∷ []) tokens) ∙ ap innermost (outline_grown tokens (fresh ∷ []))

gap_ends : {gap : List ℕ} → IsGap gap → Ends gap
gap_ends {gap} blank = subst Ends (append-nil gap) (ends_behind blank [] at_end)

gap_alone : {gap : List ℕ} → IsGap gap → after_blanks gap ≡ []
unfolding after_blanks
gap_alone nothing = refl
gap_alone (space gap blank) = gap_alone blank
gap_alone (tab gap blank) = gap_alone blank

-- The tokens of a condition that is written, and its tree.
record Tokens (dict : Definitions) (tree : Tree) (text : List ℕ) : Type 0 where
  tokens : List Token
  are : tokens_of text dict ≡ (tokens, None)
  make : tree_of (plain_tokens tokens) ≡ tree
  refuses : (left : ℕ) → RefusesAt tokens left → HasRefused tree

module _ (dict : Definitions) where
  tokens_read : (tree : Tree) (gap text behind : List ℕ) → IsGap gap → IsGap behind → ((rest : List ℕ) → after_blanks (text ++ rest) ≡ text ++ rest) → AnyRead dict tree text behind → Tokens dict tree (gap ++ (text ++ behind))
  tokens_read tree gap text behind blank more stays read =
      let all = gap ++ (text ++ behind) in
      let here : Enough 0 true [] (text ++ behind) dict (tokens_of all dict) =
      subst (λ (xs : List ℕ). Enough 0 true [] xs dict (tokens_of all dict)) (gap_passed blank (text ++ behind) (stays behind)) (starts all (after_blanks all) dict refl (shorter all)) in
      record {
        tokens = read.tokens;
        are = is_done 0 false read.tokens (after_blanks behind) dict (tokens_of all dict) (gap_alone more) (read.takes 0 [] (tokens_of all dict) here);
        make = ap innermost (read.grows []) ∙ read.tree_is;
        refuses = read.refuses;
      }

  tokens_written : {tree : Tree} {text : List ℕ} → IsCondition dict tree text → Tokens dict tree text
  tokens_written (condition tree gap text behind blank any more) = tokens_read tree gap text behind blank more (any_stays dict any) (any_read dict any (gap_ends more))

  pub condition_read : (tree : Tree) (text : List ℕ) → IsCondition dict tree text → option_map outline (condition_of text dict) ≡ Some tree
  condition_read tree text is =
      let written = tokens_written is in
      ap (λ (r : List Token × Option Wrong). option_map outline (made_of r.0 r.1)) written.are ∙ ap Some (outline_tree written.tokens ∙ written.make)

  refused_by : (tokens : List Token) (size : ℕ) (tree : Tree) (told : CondFault) (refused : Option ℕ) → refused ≡ first_refused tokens → ((left : ℕ) → RefusesAt tokens left → HasRefused tree)
      → judged size refused tokens None ≡ Err told → HasRefused tree
  refused_by tokens size tree told None same refuses e = absurd cc
  refused_by tokens size tree told (Some left) same refuses e = refuses left (refused_among tokens left (sym same))

  pub condition_accepted : (tree : Tree) (text : List ℕ) (fault : CondFault) → IsCondition dict tree text → IsFaultOf fault text dict → (fault ≡ NoMemory) ⊎ HasRefused tree
  unfolding reading_of
  condition_accepted tree text fault is (inl none) = inl none
  condition_accepted tree text fault is (inr e) =
      let written = tokens_written is in
      let read : judged (length text) (first_refused written.tokens) written.tokens None ≡ Err fault =
      ap (λ (r : List Token × Option Wrong). judged (length text) (first_refused r.0) r.0 r.1) (sym written.are) ∙ e in
      inr (refused_by written.tokens (length text) tree fault (first_refused written.tokens) refl written.refuses read)
