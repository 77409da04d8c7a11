-- Items that are read are written so.
use Rattle.std.proofs.Common.{◌≡◌, ℕ, zero, suc, ◌<◌, Bool, true, false, ◌==◌, ◌⊎◌, inl, inr, cond, List, [], ◌∷◌, ◌++◌, take, drop, slice_index, Option, Some, None, Result, Ok, Err, codes, refl, sym, ap, subst, ◌∙◌, arith}
use Rattle.std.specs.Prelude.{◌&&◌}
use Rattle.std.specs.Str.{bytes_eq}
use Rattle.std.proofs.lemmas.Bool.{eqb-true}
use Rattle.std.proofs.lemmas.Slice.Eq.{bytes_eq-Decides}
use Rattle.std.proofs.lemmas.Grind.{common_steps}
use Rattle.rad_text.specs.Read.{◌>>=◌}
use Rattle.rad_text.specs.Blanks.{is_blank, after_blanks}
use Rattle.rad_conf.specs.declared.fault.Wrong.{Wrong}
use Rattle.rad_conf.specs.declared.fault.Wrong.TheVariants as wrong
use Rattle.rad_conf.specs.declared.sign.Sign.{Sign}
use Rattle.rad_conf.specs.declared.sign.Sign.TheVariants as sign
use Rattle.rad_conf.specs.declared.tree.Quote.{Quote}
use Rattle.rad_conf.specs.declared.tree.Quote.TheVariants.{Bare, Single, Double}
use Rattle.rad_conf.specs.declared.tree.Word.{Word}
use Rattle.rad_conf.specs.declared.tree.Item.TheVariants as item
use Rattle.rad_conf.specs.declared.item.Keyword.{Keyword}
use Rattle.rad_conf.specs.declared.item.Keyword.TheVariants as keyword
use Rattle.rad_conf.specs.declared.mark.Mark.{Mark}
use Rattle.rad_conf.specs.declared.mark.Mark.TheVariants as mark
use Rattle.rad_conf.specs.declared.growth.Growth.{Growth}
use Rattle.rad_conf.specs.Signs as signs
use Rattle.rad_conf.specs.Signs.{sign_at, longer_sign, operator_at, is_operator_pair, is_operator_octet}
use Rattle.rad_conf.specs.Variables.{value_of}
use Rattle.rad_conf.specs.Words.{bare_text, word_at, after_comment}
use Rattle.rad_conf.specs.Conditions.{condition_at}
use Rattle.rad_conf.specs.Marks.{bare, ended_at, stands_alone, pair_at, opened_at, block_at, named, item_by, plain_item, condition_item, include_item, keyword_of, item_of, item_at, mark_by, mark_at}
use Rattle.rad_conf.specs.Grammar.{word, lacks}
use Rattle.rad_conf.specs.Spelling.{operator_of, IsBare, IsWord}
use Rattle.rad_conf.specs.Inside.{IsCondition}
use Rattle.rad_conf.specs.Written.{ends_item, BeginsPlain, IsOperator, IsWhole, IsHead, include_word, IsInclude, Parts}
use Rattle.rad_conf.proofs.Spellings.{by_len, one_octet, two_octets}
use Rattle.rad_conf.proofs.BareWords.{each_bare}
use Rattle.rad_conf.proofs.SpelledWords.{read_as, same_read, word_found}
use Rattle.rad_conf.proofs.WrittenItems.{bare_front, bare_back, end_sign}

-- A reading that goes on gives what it begins with.
pub goes_on : {A B : Type 0} (said : Result (A × List ℕ) Wrong) (f : A × List ℕ → Result (B × List ℕ) Wrong) (y : B) (after : List ℕ) → (said >>= f) ≡ read_as y after → (x : A) × (rest : List ℕ) × (said ≡ read_as x rest) × (f (x, rest) ≡ read_as y after)
goes_on (Ok got) f y after e = (got.0, got.1, refl, e)
goes_on (Err wrong) f y after e = absurd cc

only_if : {A : Type 0} (b : Bool) (x y : A) (rest after : List ℕ) → cond b (read_as x rest) (Err wrong.Stray) ≡ read_as y after → (b ≡ true) × (read_as x rest ≡ read_as y after)
only_if true x y rest after e = (refl, e)
only_if false x y rest after e = absurd cc

-- What a mark says of its text.
abbrev pub Marked : Growth → List ℕ → List ℕ → Mark → Type 0
Marked growth text after mark.Passed = Parts text after
Marked growth text after mark.NextLine = text ≡ 10 ∷ after
Marked growth text after mark.Closes = text ≡ 125 ∷ after
Marked growth text after (mark.Whole one) = IsWhole (value_of growth) text one after
Marked growth text after (mark.Opens kind name lines) = IsHead (value_of growth) text kind name lines after
Marked growth text after (mark.Includes optional path) = IsInclude (value_of growth) text optional path after

carry : (growth : Growth) (text : List ℕ) (x y : Mark) (rest after : List ℕ) → Marked growth text rest x → read_as x rest ≡ read_as y after → Marked growth text after y
carry growth text x y rest after is e = let same = same_read x y rest after e in
    subst (λ (a : List ℕ). Marked growth text a y) same.1 (subst (λ (k : Mark). Marked growth text rest k) same.0 is)

-- The operator of a sign.
operator_one : (c : ℕ) (rest : List ℕ) (len : ℕ) → sign_at (c ∷ rest) ≡ sign.Operator len → (operator_at c (slice_index rest 0) ≡ len) × (0 < len)
unfolding sign_at longer_sign
operator_one c rest len e = grind (arith, common_steps)

by_len_one : (c d len : ℕ) (operator : Option (List ℕ)) → operator ≡ by_len (operator_at c d) c d → operator_at c d ≡ len → 0 < len → (rest : List ℕ) → operator ≡ Some (take len (c ∷ d ∷ rest))
unfolding by_len operator_at
by_len_one c d len operator is size some rest = by (is_operator_pair c d) (is_operator_octet c) refl refl where
  by : (two one : Bool) → is_operator_pair c d ≡ two → is_operator_octet c ≡ one → operator ≡ Some (take len (c ∷ d ∷ rest))
  by true one is_two is_one = rw (← size, is_two) (is ∙ rw is_two refl)
  by false true is_two is_one = rw (← size, is_two, is_one) (is ∙ rw (is_two, is_one) refl)
  by false false is_two is_one = let none : 0 ≡ len = rw (is_two, is_one) at size in absurd (omega arith)

take_drop : (n : ℕ) (text : List ℕ) → text ≡ take n text ++ drop n text
take_drop zero text = refl
take_drop (suc n) [] = refl
take_drop (suc n) (c ∷ text) = ap (λ (xs : List ℕ). c ∷ xs) (take_drop n text)

single_none : (c : ℕ) → is_operator_pair c 0 ≡ false
unfolding is_operator_pair
single_none c = grind (arith, common_steps)

by_len_single : (c len : ℕ) (operator : Option (List ℕ)) → operator ≡ by_len (operator_at c 0) c 0 → operator_at c 0 ≡ len → 0 < len → operator ≡ Some (take len (c ∷ []))
unfolding by_len operator_at
by_len_single c len operator is size some = by (is_operator_pair c 0) (is_operator_octet c) refl refl where
  by : (two one : Bool) → is_operator_pair c 0 ≡ two → is_operator_octet c ≡ one → operator ≡ Some (take len (c ∷ []))
  by true one is_two is_one = let none : is_operator_pair c 0 ≡ false = single_none c in absurd cc
  by false true is_two is_one = rw (← size, is_two, is_one) (is ∙ rw (is_two, is_one) refl)
  by false false is_two is_one = let none : 0 ≡ len = rw (is_two, is_one) at size in absurd (omega arith)

operator_found : (text : List ℕ) (len : ℕ) → sign_at text ≡ sign.Operator len → IsOperator text (take len text) (drop len text)
unfolding sign_at
operator_found [] len e = absurd cc
operator_found (c ∷ []) len e = let (size, some) = operator_one c [] len e in (by_len_single c len (operator_of (c ∷ [])) (one_octet c) size some, take_drop len (c ∷ []))
operator_found (c ∷ d ∷ rest) len e =
    let (size, some) = operator_one c (d ∷ rest) len e in (by_len_one c d len (operator_of (c ∷ d ∷ rest)) (two_octets c d rest) size some rest, take_drop len (c ∷ d ∷ rest))

pub open_sign : (text : List ℕ) → signs.is_open (sign_at text) ≡ true → text ≡ 123 ∷ drop 1 text
unfolding sign_at longer_sign
open_sign [] e = absurd cc
open_sign (c ∷ rest) e = grind (arith, common_steps)

both : (a b : Bool) → (a && b) ≡ true → (a ≡ true) × (b ≡ true)
both true b e = (refl, e)
both false b e = absurd cc

same_bytes : (xs ys : List ℕ) → bytes_eq xs ys ≡ true → xs ≡ ys
same_bytes xs ys e = (bytes_eq-Decides xs ys).0 e

lone_which : (operator : List ℕ) → stands_alone operator ≡ true → (operator ≡ codes "=*") ⊎ (operator ≡ codes "!*")
unfolding stands_alone
lone_which operator e = by (bytes_eq operator (codes "=*")) refl where
  by : (b : Bool) → bytes_eq operator (codes "=*") ≡ b → (operator ≡ codes "=*") ⊎ (operator ≡ codes "!*")
  by true is = inl (same_bytes operator (codes "=*") is)
  by false is = inr (same_bytes operator (codes "!*") (rw is at e))

module _ (growth : Growth) (text : List ℕ) (found : Mark) (after : List ℕ) where
  -- A pair that is read, from behind its operator on.
  pair_found : (left : Word) (operator behind rest : List ℕ) → BeginsPlain text → IsWord (value_of growth) text left behind → IsOperator (after_blanks behind) operator rest → pair_at growth left operator rest ≡ read_as found after → Marked growth text after found
  unfolding pair_at
  pair_found left operator behind rest plain first is e = by (stands_alone operator && signs.ends_item (sign_at (after_blanks rest))) refl where
    by : (b : Bool) → (stands_alone operator && signs.ends_item (sign_at (after_blanks rest))) ≡ b → Marked growth text after found
    by true alone =
        let (stands, ends) = both (stands_alone operator) (signs.ends_item (sign_at (after_blanks rest))) alone in
        carry growth text (mark.Whole (item.Pair left operator (bare []))) found (after_blanks rest) after
        (IsWhole.lone text behind operator rest left plain first is (lone_which operator stands) (sym (end_sign (after_blanks rest)) ∙ ends))
        (rw alone at e)
    by false more =
        let (right, last, read, ends) = goes_on (word_at growth (after_blanks rest)) (λ (right : Word × List ℕ). ended_at (mark.Whole (item.Pair left operator right.0)) (after_blanks right.1)) found after (rw more at e) in
        let (ended, same) = only_if (signs.ends_item (sign_at (after_blanks last))) (mark.Whole (item.Pair left operator right)) found (after_blanks last) after ends in
        carry growth text (mark.Whole (item.Pair left operator right)) found (after_blanks last) after
        (IsWhole.pair text behind operator rest last left right plain first is (word_found growth right last (after_blanks rest) read) (sym (end_sign (after_blanks last)) ∙ ended))
        same

  -- A block that is read, from its name on.
  block_found : (kind : Word) (rest : List ℕ) → BeginsPlain text → IsWord (value_of growth) text kind rest → block_at growth kind (after_blanks rest) ≡ read_as found after → Marked growth text after found
  unfolding block_at
  block_found kind rest plain first e =
      let (name, behind, named_so, opens) = goes_on (word_at growth (after_blanks rest)) _ found after e in
      let (brace, is) = only_if (signs.is_open (sign_at (after_blanks behind))) (mark.Opens kind (Some name) 0) found (drop 1 (after_blanks behind)) after opens in
      carry growth text (mark.Opens kind (Some name) 0) found (drop 1 (after_blanks behind)) after
      (IsHead.named text rest behind (drop 1 (after_blanks behind)) kind name plain first (word_found growth name behind (after_blanks rest) named_so) (open_sign (after_blanks behind) brace))
      is

  -- A name alone that is read.
  alone_found : (first : Word) (rest : List ℕ) → BeginsPlain text → IsWord (value_of growth) text first rest → ends_item (after_blanks rest) ≡ true → named first first.quote (after_blanks rest) ≡ read_as found after → Marked growth text after found
  alone_found first rest plain one ends e = by first.quote refl e where
    by : (quote : Quote) → first.quote ≡ quote → named first quote (after_blanks rest) ≡ read_as found after → Marked growth text after found
    by Bare is said =
        let same : first ≡ word Bare first.text = λ i. record { quote = is i; text = first.text } in
        carry growth text (mark.Whole (item.Name first)) found (after_blanks rest) after
        (subst (λ (w : Word). IsWhole (value_of growth) text (item.Name w) (after_blanks rest)) (sym same) (IsWhole.alone text first.text rest plain (subst (λ (w : Word). IsWord (value_of growth) text w rest) same one) ends))
        said
    by Single is said = absurd cc
    by Double is said = absurd cc

  -- A plain item that is read, from behind its first word on.
  item_found : (first : Word) (rest : List ℕ) → BeginsPlain text → IsWord (value_of growth) text first rest → item_by growth (sign_at (after_blanks rest)) first (after_blanks rest) ≡ read_as found after → Marked growth text after found
  item_found first rest plain one e = by (sign_at (after_blanks rest)) refl e where
    ends : (front : Sign) → sign_at (after_blanks rest) ≡ front → signs.ends_item front ≡ true → named first first.quote (after_blanks rest) ≡ read_as found after → Marked growth text after found
    ends front is ending said = alone_found first rest plain one (sym (end_sign (after_blanks rest)) ∙ ap signs.ends_item is ∙ ending) said

    by : (front : Sign) → sign_at (after_blanks rest) ≡ front → item_by growth front first (after_blanks rest) ≡ read_as found after → Marked growth text after found
    by sign.End is said = ends sign.End is refl said
    by sign.Blank is said = absurd cc
    by sign.LineEnd is said = ends sign.LineEnd is refl said
    by sign.Comma is said = ends sign.Comma is refl said
    by sign.Open is said =
        carry growth text (mark.Opens first None 0) found (drop 1 (after_blanks rest)) after
        (IsHead.unnamed text rest (drop 1 (after_blanks rest)) first plain one (open_sign (after_blanks rest) (ap signs.is_open is)))
        said
    by sign.Close is said = ends sign.Close is refl said
    by sign.Comment is said = ends sign.Comment is refl said
    by sign.Double is said = block_found first rest plain one said
    by sign.Single is said = block_found first rest plain one said
    by (sign.Operator len) is said = pair_found first (take len (after_blanks rest)) rest (drop len (after_blanks rest)) plain one (operator_found (after_blanks rest) len is) said
    by (sign.Bare len) is said = block_found first rest plain one said

  plain_found : BeginsPlain text → plain_item growth text ≡ read_as found after → Marked growth text after found
  unfolding plain_item
  plain_found plain e =
      let (first, rest, read, more) = goes_on (word_at growth text) (λ (first : Word × List ℕ). item_by growth (sign_at (after_blanks first.1)) first.0 (after_blanks first.1)) found after e in
      item_found first rest plain (word_found growth first rest text read) more

-- A keyword's item that is read.
include_found : (growth : Growth) (raw rest after : List ℕ) (optional : Bool) (found : Mark) → IsBare rest raw → keyword_of raw ≡ include_word optional → include_item growth optional (after_blanks rest) ≡ read_as found after
    → Marked growth (raw ++ rest) after found
unfolding include_item
include_found growth raw rest after optional found bare is e =
    let (path, behind, read, ends) = goes_on (word_at growth (after_blanks rest)) (λ (path : Word × List ℕ). ended_at (mark.Includes optional path.0.text) (after_blanks path.1)) found after e in
    let (ended, same) = only_if (signs.ends_item (sign_at (after_blanks behind))) (mark.Includes optional path.text) found (after_blanks behind) after ends in
    carry growth (raw ++ rest) (mark.Includes optional path.text) found (after_blanks behind) after
    (IsInclude.directive raw rest behind optional path bare is (word_found growth path behind (after_blanks rest) read) (sym (end_sign (after_blanks behind)) ∙ ended))
    same

-- The signs of single octets.
blank_one : (c : ℕ) (rest : List ℕ) → sign_at (c ∷ rest) ≡ sign.Blank → is_blank c ≡ true
unfolding sign_at longer_sign
blank_one c rest e = grind (arith, common_steps)

line_one : (c : ℕ) (rest : List ℕ) → sign_at (c ∷ rest) ≡ sign.LineEnd → c ≡ 10
unfolding sign_at longer_sign
line_one c rest e = grind (arith, common_steps)

comma_one : (c : ℕ) (rest : List ℕ) → sign_at (c ∷ rest) ≡ sign.Comma → c ≡ 44
unfolding sign_at longer_sign
comma_one c rest e = grind (arith, common_steps)

close_one : (c : ℕ) (rest : List ℕ) → sign_at (c ∷ rest) ≡ sign.Close → c ≡ 125
unfolding sign_at longer_sign
close_one c rest e = grind (arith, common_steps)

comment_one : (c : ℕ) (rest : List ℕ) → sign_at (c ∷ rest) ≡ sign.Comment → c ≡ 35
unfolding sign_at longer_sign
comment_one c rest e = grind (arith, common_steps)

comment_parts : (text : List ℕ) → (comment : List ℕ) × (lacks 10 comment ≡ true) × ((text ≡ comment) × (after_comment text ≡ []) ⊎ ((rest : List ℕ) × (text ≡ comment ++ 10 ∷ rest) × (after_comment text ≡ 10 ∷ rest)))
unfolding lacks after_comment
comment_parts [] = ([], refl, inl (refl, refl))
comment_parts (c ∷ text) = by (c == 10) refl (comment_parts text) where
  by : (b : Bool) → (c == 10) ≡ b → ((comment : List ℕ) × (lacks 10 comment ≡ true) × ((text ≡ comment) × (after_comment text ≡ []) ⊎ ((rest : List ℕ) × (text ≡ comment ++ 10 ∷ rest) × (after_comment text ≡ 10 ∷ rest))))
      → (comment : List ℕ) × (lacks 10 comment ≡ true) × ((c ∷ text ≡ comment) × (after_comment (c ∷ text) ≡ []) ⊎ ((rest : List ℕ) × (c ∷ text ≡ comment ++ 10 ∷ rest) × (after_comment (c ∷ text) ≡ 10 ∷ rest)))
  by true e found = let same : c ≡ 10 = eqb-true c 10 e in ([], refl, inr (text, ap (λ (d : ℕ). d ∷ text) same, rw e (ap (λ (d : ℕ). d ∷ text) same)))
  by false e (comment, lacking, inl (is, left)) = (c ∷ comment, rw e lacking, inl (ap (λ (xs : List ℕ). c ∷ xs) is, rw e left))
  by false e (comment, lacking, inr (rest, is, left)) = (c ∷ comment, rw e lacking, inr (rest, ap (λ (xs : List ℕ). c ∷ xs) is, rw e left))

comment_found : (text : List ℕ) → Parts (35 ∷ text) (after_comment text)
comment_found text = by (comment_parts text) where
  by : ((comment : List ℕ) × (lacks 10 comment ≡ true) × ((text ≡ comment) × (after_comment text ≡ []) ⊎ ((rest : List ℕ) × (text ≡ comment ++ 10 ∷ rest) × (after_comment text ≡ 10 ∷ rest)))) → Parts (35 ∷ text) (after_comment text)
  by (comment, lacking, inl (is, left)) = rw (left, is) (Parts.last_comment comment lacking)
  by (comment, lacking, inr (rest, is, left)) = rw (left, is) (Parts.line_comment comment rest lacking)

module _ (growth : Growth) (condition_found : (text condition rest : List ℕ) (lines : ℕ) → condition_at growth text ≡ Ok (condition, lines, rest) → IsCondition (value_of growth) text condition lines rest) where
  tested_found : (raw rest after : List ℕ) (found : Mark) → IsBare rest raw → keyword_of raw ≡ keyword.Condition → condition_item growth raw (after_blanks rest) ≡ read_as found after → Marked growth (raw ++ rest) after found
  unfolding condition_item
  tested_found raw rest after found one is e = by (condition_at growth (after_blanks rest)) refl e where
    by : (said : Result (List ℕ × ℕ × List ℕ) Wrong) → condition_at growth (after_blanks rest) ≡ said → (said >>= (λ (condition : List ℕ × ℕ × List ℕ). opened_at (bare raw) (bare condition.0) condition.1 (after_blanks condition.2))) ≡ read_as found after
        → Marked growth (raw ++ rest) after found
    by (Ok got) read opens =
        let (brace, same) = only_if (signs.is_open (sign_at (after_blanks got.2))) (mark.Opens (bare raw) (Some (bare got.0)) got.1) found (drop 1 (after_blanks got.2)) after opens in
        carry growth (raw ++ rest) (mark.Opens (bare raw) (Some (bare got.0)) got.1) found (drop 1 (after_blanks got.2)) after
        (IsHead.tested raw rest got.0 got.2 (drop 1 (after_blanks got.2)) got.1 one is (condition_found (after_blanks rest) got.0 got.2 got.1 read) (open_sign (after_blanks got.2) brace))
        same
    by (Err wrong) read opens = absurd cc

  keyword_found : (raw rest after : List ℕ) (found : Mark) → IsBare rest raw → (which : Keyword) → keyword_of raw ≡ which → item_of growth which (raw ++ rest) ≡ read_as found after → Marked growth (raw ++ rest) after found
  keyword_found raw rest after found one keyword.Plain is e = plain_found growth (raw ++ rest) found after plain e where
    plain : BeginsPlain (raw ++ rest)
    plain other last same is_bare = ap keyword_of (sym (bare_front other last is_bare) ∙ ap bare_text (sym same) ∙ bare_front raw rest one) ∙ is
  keyword_found raw rest after found one keyword.Condition is e = tested_found raw rest after found one is (rw (bare_front raw rest one, bare_back raw rest one) at e)
  keyword_found raw rest after found one keyword.Include is e = include_found growth raw rest after false found one is (rw (bare_back raw rest one) at e)
  keyword_found raw rest after found one keyword.TryInclude is e = include_found growth raw rest after true found one is (rw (bare_back raw rest one) at e)

  any_found : (text after : List ℕ) (found : Mark) → item_at growth text ≡ read_as found after → Marked growth text after found
  unfolding item_at
  any_found text after found e = by (each_bare text).0 (each_bare text).1 (each_bare text).2 (each_bare text).3 where
    by : (raw rest : List ℕ) → text ≡ raw ++ rest → IsBare rest raw → Marked growth text after found
    by raw rest is one =
        subst (λ (t : List ℕ). Marked growth t after found) (sym is)
        (keyword_found raw rest after found one (keyword_of raw) refl (ap (λ (which : Keyword). item_of growth which (raw ++ rest)) (ap keyword_of (sym (bare_front raw rest one))) ∙ ap (item_at growth) (sym is) ∙ e))

  -- A mark that is read is written so.
  pub mark_found : (c : ℕ) (rest after : List ℕ) (found : Mark) → mark_at growth (c ∷ rest) ≡ read_as found after → Marked growth (c ∷ rest) after found
  unfolding mark_at
  mark_found c rest after found e = by (sign_at (c ∷ rest)) refl e where
    by : (front : Sign) → sign_at (c ∷ rest) ≡ front → mark_by growth front (c ∷ rest) ≡ read_as found after → Marked growth (c ∷ rest) after found
    by sign.End is said = any_found (c ∷ rest) after found said
    by sign.Blank is said = carry growth (c ∷ rest) mark.Passed found rest after (Parts.one_blank c rest (blank_one c rest is)) said
    by sign.LineEnd is said = carry growth (c ∷ rest) mark.NextLine found rest after (ap (λ (d : ℕ). d ∷ rest) (line_one c rest is)) said
    by sign.Comma is said = carry growth (c ∷ rest) mark.Passed found rest after (subst (λ (d : ℕ). Parts (d ∷ rest) rest) (sym (comma_one c rest is)) (Parts.one_comma rest)) said
    by sign.Open is said = any_found (c ∷ rest) after found said
    by sign.Close is said = carry growth (c ∷ rest) mark.Closes found rest after (ap (λ (d : ℕ). d ∷ rest) (close_one c rest is)) said
    by sign.Comment is said = carry growth (c ∷ rest) mark.Passed found (after_comment rest) after (subst (λ (d : ℕ). Parts (d ∷ rest) (after_comment rest)) (sym (comment_one c rest is)) (comment_found rest)) said
    by sign.Double is said = any_found (c ∷ rest) after found said
    by sign.Single is said = any_found (c ∷ rest) after found said
    by (sign.Operator len) is said = any_found (c ∷ rest) after found said
    by (sign.Bare len) is said = any_found (c ∷ rest) after found said
