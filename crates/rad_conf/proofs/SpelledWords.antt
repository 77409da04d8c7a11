-- Words are read as they are spelled.
use Rattle.std.proofs.Common.{◌≡◌, ℕ, Bool, true, false, ◌==◌, List, [], ◌∷◌, ◌++◌, length, take, drop, Option, Some, None, Result, Ok, Err, refl, sym, ap, subst, ◌∙◌, arith}
use Rattle.std.proofs.lemmas.Grind.{common_steps}
use Rattle.rad_text.specs.Read.{◌>>=◌}
use Rattle.rad_conf.specs.declared.fault.Wrong.{Wrong}
use Rattle.rad_conf.specs.declared.fault.Wrong.TheVariants as wrong
use Rattle.rad_conf.specs.declared.sign.Sign.{Sign}
use Rattle.rad_conf.specs.declared.sign.Sign.TheVariants as sign
use Rattle.rad_conf.specs.declared.tree.Quote.{Quote}
use Rattle.rad_conf.specs.declared.tree.Quote.TheVariants.{Bare, Single, Double}
use Rattle.rad_conf.specs.declared.tree.Word.{Word}
use Rattle.rad_conf.specs.declared.spelling.Spelling.{Spelling}
use Rattle.rad_conf.specs.declared.spelling.Spelling.TheVariants as spelling
use Rattle.rad_conf.specs.declared.spelling.Ahead.TheVariants.{Reads}
use Rattle.rad_conf.specs.declared.growth.Growth.{Growth}
use Rattle.rad_conf.specs.Signs.{sign_at, longer_sign, bare_octets}
use Rattle.rad_conf.specs.Variables.{value_of}
use Rattle.rad_conf.specs.Words.{quoted_from, bare_word, quoted_word, word_by, word_at, spelled_from}
use Rattle.rad_conf.specs.Grammar.{word}
use Rattle.rad_conf.specs.Spelling.{ends_word, is_quoted, IsBare, IsSpelled, IsWord}
use Rattle.rad_conf.proofs.Quoted.{quoted, front, back, from_zero}
use Rattle.rad_conf.proofs.WordLemmas.{sign_some}
use Rattle.rad_conf.proofs.Spellings.{goes_bare, ends_here, quoted_end, quoted_found}
use Rattle.rad_conf.proofs.BareWords.{bare_read, each_bare, bare_begins, bare_ends}
use Rattle.rad_conf.proofs.SpelledTexts.{spelled_read, spelled_found, quoted_whole}

pub whole_front : (xs rest : List ℕ) → take (length xs) (xs ++ rest) ≡ xs
whole_front [] rest = refl
whole_front (x ∷ xs) rest = ap (λ (ys : List ℕ). x ∷ ys) (whole_front xs rest)

pub whole_back : (xs rest : List ℕ) → drop (length xs) (xs ++ rest) ≡ rest
whole_back [] rest = refl
whole_back (x ∷ xs) rest = whole_back xs rest

-- A bare word of an octet at least.
bare_is : (growth : Growth) (c : ℕ) (raw text rest : List ℕ) → IsBare rest (c ∷ raw) → IsSpelled (value_of growth) spelling.Plain (c ∷ raw) text → word_at growth ((c ∷ raw) ++ rest) ≡ Ok (word Bare text, rest)
unfolding word_at bare_word
bare_is growth c raw text rest bare spells =
    rw (goes_bare c (raw ++ rest) (bare_begins rest bare), bare_read rest bare, whole_front (c ∷ raw) rest, whole_back (c ∷ raw) rest, spelled_read growth spelling.Plain [] spells) refl

-- A word is read as it is spelled.
pub word_read : (growth : Growth) {text rest : List ℕ} {one : Word} → IsWord (value_of growth) text one rest → word_at growth text ≡ Ok (one, rest)
unfolding word_at sign_at
word_read growth (IsWord.bare c raw text rest bare spells) = bare_is growth c raw text rest bare spells
word_read growth (IsWord.single raw text rest within spells) = quoted growth Single spelling.Single 39 raw text rest (from_zero (length raw) _ (quoted_end 39 0 false raw rest refl within)) (spelled_read growth spelling.Single [] spells)
word_read growth (IsWord.double raw text rest within spells) = quoted growth Double spelling.Double 34 raw text rest (from_zero (length raw) _ (quoted_end 34 0 false raw rest refl within)) (spelled_read growth spelling.Double [] spells)

-- The signs that begin words.
double_sign : (c : ℕ) (rest : List ℕ) → sign_at (c ∷ rest) ≡ sign.Double → c ≡ 34
unfolding sign_at longer_sign
double_sign c rest e = grind (arith, common_steps)

single_sign : (c : ℕ) (rest : List ℕ) → sign_at (c ∷ rest) ≡ sign.Single → c ≡ 39
unfolding sign_at longer_sign
single_sign c rest e = grind (arith, common_steps)

pub bare_sign : (text : List ℕ) (len : ℕ) → sign_at text ≡ sign.Bare len → ends_word text ≡ false
bare_sign text len e = by (ends_word text) refl where
  by : (b : Bool) → ends_word text ≡ b → ends_word text ≡ false
  by true ends = let none : len ≡ 0 = ap bare_octets (sym e) ∙ ends_here text ends in absurd (omega (arith, sign_some text len e))
  by false goes = goes

-- The same answer is the same value and the same rest.
abbrev pub read_as : {A : Type 0} → A → List ℕ → Result (A × List ℕ) Wrong
read_as x rest = Ok (x, rest)

pub same_read : {A : Type 0} (x y : A) (rest after : List ℕ) → read_as x rest ≡ read_as y after → (x ≡ y) × (rest ≡ after)
same_read {A = A} x y rest after e = (ap value e, ap left e) where
  value : Result (A × List ℕ) Wrong → A
  value said = elim said [ Ok got ↦ got.0 | Err wrong ↦ x ]

  left : Result (A × List ℕ) Wrong → List ℕ
  left said = elim said [ Ok got ↦ got.1 | Err wrong ↦ rest ]

module _ (growth : Growth) (one : Word) (rest : List ℕ) where
  -- A quoted word that was read.
  abbrev Within : Quote → Spelling → ℕ → List ℕ → Type 0
  Within quote how mark text = (raw : List ℕ) × (spelled : List ℕ) × (text ≡ raw ++ mark ∷ rest) × (is_quoted mark false raw ≡ true) × (spelled_from growth how [] Reads raw ≡ Ok spelled) × (one ≡ word quote spelled)

  quoted_is : (quote : Quote) (how : Spelling) (mark : ℕ) (raw after : List ℕ) → (mark == 10) ≡ false → is_quoted mark false raw ≡ true → quoted_word growth quote how mark (raw ++ mark ∷ after) ≡ read_as one rest → Within quote how mark (raw ++ mark ∷ after)
  unfolding quoted_word
  quoted_is quote how mark raw after line within e = by (spelled_from growth how [] Reads raw) refl where
    ends : quoted_from mark 0 false (raw ++ mark ∷ after) ≡ Some (length raw)
    ends = from_zero (length raw) _ (quoted_end mark 0 false raw after line within)

    by : (said : Result (List ℕ) Wrong) → spelled_from growth how [] Reads raw ≡ said → Within quote how mark (raw ++ mark ∷ after)
    by (Ok spelled) is =
        let both : read_as (word quote spelled) after ≡ read_as one rest = rw (front raw after mark, is, back raw after mark) at (rw (ends, quoted_word) at e) in
        let same = same_read (word quote spelled) one after rest both in
        (raw, spelled, ap (λ (xs : List ℕ). raw ++ mark ∷ xs) same.1, within, is, sym same.0)
    by (Err wrong) is =
        let bad : Err wrong ≡ read_as one rest = rw (front raw after mark, is) at (rw (ends, quoted_word) at e) in
        absurd cc

  quoted_by : (quote : Quote) (how : Spelling) (mark : ℕ) (text : List ℕ) → (mark == 10) ≡ false → quoted_word growth quote how mark text ≡ read_as one rest → Within quote how mark text
  unfolding quoted_word
  quoted_by quote how mark text line e = by (quoted_from mark 0 false text) refl where
    by : (found : Option ℕ) → quoted_from mark 0 false text ≡ found → Within quote how mark text
    by None none = let bad : Err wrong.BadQuote ≡ read_as one rest = rw (none, quoted_word) at e in absurd cc
    by (Some n) some =
        let (raw, after, is, within) = quoted_found mark 0 n false text some in
        subst (Within quote how mark) (sym is) (quoted_is quote how mark raw after line within (ap (quoted_word growth quote how mark) (sym is) ∙ e))

  -- A bare word that was read.
  bare_by : (c : ℕ) (text : List ℕ) → ends_word (c ∷ text) ≡ false → bare_word growth (c ∷ text) ≡ read_as one rest → IsWord (value_of growth) (c ∷ text) one rest
  unfolding bare_word
  bare_by c text goes e = by (each_bare (c ∷ text)).0 (each_bare (c ∷ text)).1 (each_bare (c ∷ text)).2 (each_bare (c ∷ text)).3 where
    spells : (raw after : List ℕ) → bare_word growth (raw ++ after) ≡ read_as one rest → IsBare after raw
        → (spelled : List ℕ) × (spelled_from growth spelling.Plain [] Reads raw ≡ Ok spelled) × (one ≡ word Bare spelled) × (after ≡ rest)
    spells raw after e bare = by_said (spelled_from growth spelling.Plain [] Reads raw) refl where
      here : (spelled_from growth spelling.Plain [] Reads raw >>= (λ (all : List ℕ). read_as (word Bare all) after)) ≡ read_as one rest
      here = rw (bare_read after bare, whole_front raw after, whole_back raw after) at e

      by_said : (said : Result (List ℕ) Wrong) → spelled_from growth spelling.Plain [] Reads raw ≡ said → (spelled : List ℕ) × (spelled_from growth spelling.Plain [] Reads raw ≡ Ok spelled) × (one ≡ word Bare spelled) × (after ≡ rest)
      by_said (Ok spelled) is =
          let same = same_read (word Bare spelled) one after rest (rw is at here) in (spelled, is, sym same.0, same.1)
      by_said (Err wrong) is = let bad : Err wrong ≡ read_as one rest = rw is at here in absurd cc

    by : (raw after : List ℕ) → c ∷ text ≡ raw ++ after → IsBare after raw → IsWord (value_of growth) (c ∷ text) one rest
    by [] after is bare = let ends : ends_word (c ∷ text) ≡ true = ap ends_word is ∙ bare_ends after bare in absurd cc
    by (d ∷ raw) after is bare =
        let (spelled, reads, same, left) = spells (d ∷ raw) after (ap (bare_word growth) (sym is) ∙ e) bare in
        subst (λ (xs : List ℕ). IsWord (value_of growth) xs one rest) (sym is)
        (subst (λ (w : Word). IsWord (value_of growth) ((d ∷ raw) ++ after) w rest) (sym same)
        (subst (λ (ys : List ℕ). IsWord (value_of growth) ((d ∷ raw) ++ after) (word Bare spelled) ys) left
        (IsWord.bare d raw spelled after bare (spelled_found growth spelling.Plain (d ∷ raw) spelled (λ has. absurd cc) reads))))

  single_by : (text : List ℕ) → Within Single spelling.Single 39 text → IsWord (value_of growth) (39 ∷ text) one rest
  single_by text (raw, spelled, is, within, reads, same) =
      subst (λ (xs : List ℕ). IsWord (value_of growth) (39 ∷ xs) one rest) (sym is)
      (subst (λ (w : Word). IsWord (value_of growth) (39 ∷ (raw ++ 39 ∷ rest)) w rest) (sym same)
      (IsWord.single raw spelled rest within (spelled_found growth spelling.Single raw spelled (λ _. quoted_whole 39 false raw within) reads)))

  double_by : (text : List ℕ) → Within Double spelling.Double 34 text → IsWord (value_of growth) (34 ∷ text) one rest
  double_by text (raw, spelled, is, within, reads, same) =
      subst (λ (xs : List ℕ). IsWord (value_of growth) (34 ∷ xs) one rest) (sym is)
      (subst (λ (w : Word). IsWord (value_of growth) (34 ∷ (raw ++ 34 ∷ rest)) w rest) (sym same)
      (IsWord.double raw spelled rest within (spelled_found growth spelling.Double raw spelled (λ _. quoted_whole 34 false raw within) reads)))

  -- A word that is read is spelled so.
  pub word_found : (text : List ℕ) → word_at growth text ≡ read_as one rest → IsWord (value_of growth) text one rest
  unfolding word_at sign_at
  word_found [] e = absurd cc
  word_found (c ∷ text) e = by (sign_at (c ∷ text)) refl e where
    no : word_by growth sign.End (c ∷ text) ≡ read_as one rest → IsWord (value_of growth) (c ∷ text) one rest
    no said = absurd cc

    by : (front : Sign) → sign_at (c ∷ text) ≡ front → word_by growth front (c ∷ text) ≡ read_as one rest → IsWord (value_of growth) (c ∷ text) one rest
    by sign.End is said = no said
    by sign.Blank is said = no said
    by sign.LineEnd is said = no said
    by sign.Comma is said = no said
    by sign.Open is said = no said
    by sign.Close is said = no said
    by sign.Comment is said = no said
    by sign.Double is said = subst (λ (d : ℕ). IsWord (value_of growth) (d ∷ text) one rest) (sym (double_sign c text is)) (double_by text (quoted_by Double spelling.Double 34 text refl said))
    by sign.Single is said = subst (λ (d : ℕ). IsWord (value_of growth) (d ∷ text) one rest) (sym (single_sign c text is)) (single_by text (quoted_by Single spelling.Single 39 text refl said))
    by (sign.Operator len) is said = no said
    by (sign.Bare len) is said = bare_by c text (bare_sign (c ∷ text) len is) said
