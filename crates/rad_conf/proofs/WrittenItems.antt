-- Items are read as they are written.
use Rattle.std.proofs.Common.{◌≡◌, ℕ, ◌≤◌, ◌<◌, Bool, true, false, ◌⊎◌, inl, inr, List, [], ◌∷◌, ◌++◌, length, take, drop, slice_index, Option, Some, None, Ok, codes, refl, sym, ap, ◌∙◌, arith}
use Rattle.std.proofs.lemmas.List.{length-append}
use Rattle.std.proofs.lemmas.Grind.{common_steps}
use Rattle.rad_text.specs.Blanks.{is_blank, after_blanks}
use Rattle.rad_conf.specs.declared.sign.Sign.{Sign}
use Rattle.rad_conf.specs.declared.sign.Sign.TheVariants as sign
use Rattle.rad_conf.specs.declared.tree.Quote.TheVariants.{Bare}
use Rattle.rad_conf.specs.declared.tree.Word.{Word}
use Rattle.rad_conf.specs.declared.tree.Item.{Item}
use Rattle.rad_conf.specs.declared.tree.Item.TheVariants as item
use Rattle.rad_conf.specs.declared.item.Keyword.{Keyword}
use Rattle.rad_conf.specs.declared.item.Keyword.TheVariants as keyword
use Rattle.rad_conf.specs.declared.mark.Mark.TheVariants as mark
use Rattle.rad_conf.specs.declared.growth.Growth.{Growth}
use Rattle.rad_conf.specs.Signs as signs
use Rattle.rad_conf.specs.Signs.{sign_at, longer_sign, operator_at, is_operator_pair, is_operator_octet}
use Rattle.rad_conf.specs.Variables.{value_of}
use Rattle.rad_conf.specs.Words.{bare_len, bare_text, after_comment, is_condition}
use Rattle.rad_conf.specs.Conditions.{condition_at}
use Rattle.rad_conf.specs.Marks.{bare, stands_alone, pair_at, block_at, item_by, plain_item, condition_item, include_item, keyword_of, item_of, item_at, mark_by, mark_at}
use Rattle.rad_conf.specs.Grammar.{word, lacks}
use Rattle.rad_conf.specs.Spelling.{begins_with, first_of, IsBare, IsWord}
use Rattle.rad_conf.specs.Inside.{IsCondition}
use Rattle.rad_conf.specs.Written.{ends_item, BeginsPlain, IsOperator, IsWhole, IsHead, IsInclude, Parts}
use Rattle.rad_conf.proofs.Spellings.{by_len, one_octet, two_octets, goes_bare}
use Rattle.rad_conf.proofs.BareWords.{bare_read, each_bare, bare_begins}
use Rattle.rad_conf.proofs.SpelledWords.{whole_front, whole_back, read_as, word_read}

-- A bare word stands where it is written.
pub bare_front : (raw rest : List ℕ) → IsBare rest raw → bare_text (raw ++ rest) ≡ raw
bare_front raw rest is = rw (bare_read rest is) (whole_front raw rest)

pub bare_back : (raw rest : List ℕ) → IsBare rest raw → drop (bare_len 0 (raw ++ rest)) (raw ++ rest) ≡ rest
bare_back raw rest is = rw (bare_read rest is) (whole_back raw rest)

plain_keyword : (text : List ℕ) → BeginsPlain text → keyword_of (bare_text text) ≡ keyword.Plain
plain_keyword text plain = by (each_bare text).0 (each_bare text).1 (each_bare text).2 (each_bare text).3 where
  by : (raw rest : List ℕ) → text ≡ raw ++ rest → IsBare rest raw → keyword_of (bare_text text) ≡ keyword.Plain
  by raw rest is one = ap (λ (t : List ℕ). keyword_of (bare_text t)) is ∙ ap keyword_of (bare_front raw rest one) ∙ plain raw rest is one

-- The sign of an item's end.
pub end_sign : (text : List ℕ) → signs.ends_item (sign_at text) ≡ ends_item text
unfolding sign_at longer_sign ends_item
end_sign [] = refl
end_sign (c ∷ rest) = grind (arith, common_steps)

-- The sign of an operator.
sign_of_len : (c : ℕ) (rest : List ℕ) → 0 < operator_at c (slice_index rest 0) → sign_at (c ∷ rest) ≡ sign.Operator (operator_at c (slice_index rest 0))
unfolding sign_at longer_sign operator_at is_operator_pair is_operator_octet
sign_of_len c rest some = grind (arith, common_steps)

pub len_is : (c d : ℕ) (operator : List ℕ) → by_len (operator_at c d) c d ≡ Some operator → (0 < operator_at c d) × (length operator ≡ operator_at c d)
unfolding by_len operator_at
len_is c d operator e = by (is_operator_pair c d) (is_operator_octet c) refl refl where
  by : (two one : Bool) → is_operator_pair c d ≡ two → is_operator_octet c ≡ one → (0 < operator_at c d) × (length operator ≡ operator_at c d)
  by true one is_two is_one = let same : Some (c ∷ d ∷ []) ≡ Some operator = rw is_two at e in let here : c ∷ d ∷ [] ≡ operator = cc in rw (← here, is_two) (omega arith, refl)
  by false true is_two is_one = let same : Some (c ∷ []) ≡ Some operator = rw (is_two, is_one) at e in let here : c ∷ [] ≡ operator = cc in rw (← here, is_two, is_one) (omega arith, refl)
  by false false is_two is_one = let same : None ≡ Some operator = rw (is_two, is_one) at e in absurd cc

sign_by : (c : ℕ) (rest operator : List ℕ) → by_len (operator_at c (slice_index rest 0)) c (slice_index rest 0) ≡ Some operator → sign_at (c ∷ rest) ≡ sign.Operator (length operator)
sign_by c rest operator e = let (some, len) = len_is c (slice_index rest 0) operator e in sign_of_len c rest some ∙ ap (λ (n : ℕ). sign.Operator n) (sym len)

pub operator_sign : (text operator rest : List ℕ) → IsOperator text operator rest → sign_at text ≡ sign.Operator (length operator)
unfolding first_of begins_with
operator_sign [] operator rest is = absurd cc
operator_sign (c ∷ []) operator rest is = sign_by c [] operator (sym (one_octet c) ∙ is.0)
operator_sign (c ∷ d ∷ text) operator rest is = sign_by c (d ∷ text) operator (sym (two_octets c d text) ∙ is.0)

-- The signs of words.
pub word_sign : (growth : Growth) {text rest : List ℕ} {one : Word} → IsWord (value_of growth) text one rest → (whole : List ℕ) → mark_by growth (sign_at text) whole ≡ item_at growth whole
unfolding sign_at
word_sign growth (IsWord.bare c raw text rest bare spells) whole = rw (goes_bare c (raw ++ rest) (bare_begins rest bare)) refl
word_sign growth (IsWord.single raw text rest inside spells) whole = refl
word_sign growth (IsWord.double raw text rest inside spells) whole = refl

word_no_end : (growth : Growth) {text rest : List ℕ} {one : Word} → IsWord (value_of growth) text one rest → signs.ends_item (sign_at text) ≡ false
unfolding sign_at
word_no_end growth (IsWord.bare c raw text rest bare spells) = rw (goes_bare c (raw ++ rest) (bare_begins rest bare)) refl
word_no_end growth (IsWord.single raw text rest inside spells) = refl
word_no_end growth (IsWord.double raw text rest inside spells) = refl

word_block : (growth : Growth) {text rest : List ℕ} {one : Word} → IsWord (value_of growth) text one rest → (first : Word) (whole : List ℕ) → item_by growth (sign_at text) first whole ≡ block_at growth first whole
unfolding sign_at
word_block growth (IsWord.bare c raw text rest bare spells) first whole = rw (goes_bare c (raw ++ rest) (bare_begins rest bare)) refl
word_block growth (IsWord.single raw text rest inside spells) first whole = refl
word_block growth (IsWord.double raw text rest inside spells) first whole = refl

-- A plain item's first word.
plain_is : (growth : Growth) (text behind : List ℕ) (first : Word) → BeginsPlain text → IsWord (value_of growth) text first behind → mark_at growth text ≡ item_by growth (sign_at (after_blanks behind)) first (after_blanks behind)
unfolding mark_at item_at plain_item
plain_is growth text behind first plain one = word_sign growth one text ∙ rw (plain_keyword text plain) (rw (word_read growth one) refl)

alone_by : (growth : Growth) (front : Sign) (spelled text : List ℕ) → signs.ends_item front ≡ true → item_by growth front (word Bare spelled) text ≡ read_as (mark.Whole (item.Name (word Bare spelled))) text
alone_by growth sign.End spelled text e = refl
alone_by growth sign.Blank spelled text e = absurd cc
alone_by growth sign.LineEnd spelled text e = refl
alone_by growth sign.Comma spelled text e = refl
alone_by growth sign.Open spelled text e = absurd cc
alone_by growth sign.Close spelled text e = refl
alone_by growth sign.Comment spelled text e = refl
alone_by growth sign.Double spelled text e = absurd cc
alone_by growth sign.Single spelled text e = absurd cc
alone_by growth (sign.Operator len) spelled text e = absurd cc
alone_by growth (sign.Bare len) spelled text e = absurd cc

-- A pair behind its operator.
pair_is : (growth : Growth) (left right : Word) (operator text after : List ℕ) → IsWord (value_of growth) (after_blanks text) right after → ends_item (after_blanks after) ≡ true
    → pair_at growth left operator text ≡ read_as (mark.Whole (item.Pair left operator right)) (after_blanks after)
unfolding pair_at
pair_is growth left right operator text after one ends = by (stands_alone operator) refl where
  by : (b : Bool) → stands_alone operator ≡ b → pair_at growth left operator text ≡ read_as (mark.Whole (item.Pair left operator right)) (after_blanks after)
  by true alone = rw (alone, word_no_end growth one) (rw (word_read growth one) (rw (end_sign (after_blanks after), ends) refl))
  by false alone = rw alone (rw (word_read growth one) (rw (end_sign (after_blanks after), ends) refl))

lone_is : (growth : Growth) (left : Word) (operator text : List ℕ) → (operator ≡ codes "=*") ⊎ (operator ≡ codes "!*") → ends_item (after_blanks text) ≡ true
    → pair_at growth left operator text ≡ read_as (mark.Whole (item.Pair left operator (bare []))) (after_blanks text)
unfolding pair_at stands_alone
lone_is growth left operator text (inl e) ends = rw (e, end_sign (after_blanks text), ends) refl
lone_is growth left operator text (inr e) ends = rw (e, end_sign (after_blanks text), ends) refl

operator_is : (growth : Growth) (text operator rest : List ℕ) (first : Word) → IsOperator text operator rest → item_by growth (sign_at text) first text ≡ pair_at growth first operator rest
operator_is growth text operator rest first is = rw (operator_sign text operator rest is) (ap (λ (t : List ℕ). pair_at growth first (take (length operator) t) (drop (length operator) t)) is.1 ∙ rw (whole_front operator rest, whole_back operator rest) refl)

-- A whole item is read as it is written.
pub whole_read : (growth : Growth) {text after : List ℕ} {one : Item} → IsWhole (value_of growth) text one after → mark_at growth text ≡ read_as (mark.Whole one) after
whole_read growth (IsWhole.pair text behind operator rest after left right plain first is second ends) = plain_is growth text behind left plain first ∙ operator_is growth (after_blanks behind) operator rest left is ∙ pair_is growth left right operator rest after second ends
whole_read growth (IsWhole.lone text behind operator rest left plain first is which ends) = plain_is growth text behind left plain first ∙ operator_is growth (after_blanks behind) operator rest left is ∙ lone_is growth left operator rest which ends
whole_read growth (IsWhole.alone text spelled rest plain first ends) = plain_is growth text rest (word Bare spelled) plain first ∙ alone_by growth (sign_at (after_blanks rest)) spelled (after_blanks rest) (end_sign (after_blanks rest) ∙ ends)

-- A keyword's item.
pub no_keyword : keyword_of [] ≡ keyword.Plain
unfolding keyword_of is_condition
no_keyword = refl

keyword_item : (growth : Growth) (raw rest : List ℕ) (which : Keyword) → IsBare rest raw → keyword_of raw ≡ which → (which ≡ keyword.Plain → ⊥) → mark_at growth (raw ++ rest) ≡ item_of growth which (raw ++ rest)
unfolding mark_at item_at
keyword_item growth [] rest which one is some = absurd (some (sym is ∙ no_keyword))
keyword_item growth (c ∷ raw) rest which one is some = rw (goes_bare c (raw ++ rest) (bare_begins rest one)) (rw (bare_front (c ∷ raw) rest one, is) refl)

-- An include is read as it is written.
ended : (path : Word) (behind : List ℕ) (optional : Bool) (growth : Growth) (text : List ℕ) → IsWord (value_of growth) text path behind → ends_item (after_blanks behind) ≡ true
    → include_item growth optional text ≡ read_as (mark.Includes optional path.text) (after_blanks behind)
unfolding include_item
ended path behind optional growth text one ends = rw (word_read growth one) (rw (end_sign (after_blanks behind), ends) refl)

pub include_read : (growth : Growth) {text path after : List ℕ} {optional : Bool} → IsInclude (value_of growth) text optional path after → mark_at growth text ≡ read_as (mark.Includes optional path) after
include_read growth (IsInclude.directive raw rest behind true path one is found ends) =
    keyword_item growth raw rest keyword.TryInclude one is (λ e. absurd cc) ∙ rw (bare_back raw rest one) (ended path behind true growth (after_blanks rest) found ends)
include_read growth (IsInclude.directive raw rest behind false path one is found ends) =
    keyword_item growth raw rest keyword.Include one is (λ e. absurd cc) ∙ rw (bare_back raw rest one) (ended path behind false growth (after_blanks rest) found ends)

-- A block's head is read as it is written.
pub block_is : (growth : Growth) (kind name : Word) (text behind body : List ℕ) → IsWord (value_of growth) text name behind → after_blanks behind ≡ 123 ∷ body → block_at growth kind text ≡ read_as (mark.Opens kind (Some name) 0) body
unfolding block_at sign_at
block_is growth kind name text behind body one brace = rw (word_read growth one) (rw brace refl)

unnamed_is : (growth : Growth) (kind : Word) (text body : List ℕ) → text ≡ 123 ∷ body → item_by growth (sign_at text) kind text ≡ read_as (mark.Opens kind None 0) body
unfolding sign_at
unnamed_is growth kind text body brace = rw brace refl

tested_is : (growth : Growth) (kind text condition behind body : List ℕ) (lines : ℕ) → condition_at growth text ≡ Ok (condition, lines, behind) → after_blanks behind ≡ 123 ∷ body
    → condition_item growth kind text ≡ read_as (mark.Opens (bare kind) (Some (bare condition)) lines) body
unfolding condition_item sign_at
tested_is growth kind text condition behind body lines is brace = rw is (rw brace refl)

module _ (growth : Growth) (condition_read : (text condition rest : List ℕ) (lines : ℕ) → IsCondition (value_of growth) text condition lines rest → condition_at growth text ≡ Ok (condition, lines, rest)) where
  pub head_read : {text body : List ℕ} {kind : Word} {name : Option Word} {lines : ℕ} → IsHead (value_of growth) text kind name lines body → mark_at growth text ≡ read_as (mark.Opens kind name lines) body
  head_read (IsHead.unnamed text rest body kind plain first brace) = plain_is growth text rest kind plain first ∙ unnamed_is growth kind (after_blanks rest) body brace
  head_read (IsHead.named text rest behind body kind name plain first second brace) = plain_is growth text rest kind plain first ∙ word_block growth second kind (after_blanks rest) ∙ block_is growth kind name (after_blanks rest) behind body second brace
  head_read (IsHead.tested raw rest condition behind body lines one is found brace) =
      keyword_item growth raw rest keyword.Condition one is (λ e. absurd cc)
      ∙ rw (bare_front raw rest one, bare_back raw rest one) (tested_is growth raw (after_blanks rest) condition behind body lines (condition_read (after_blanks rest) condition behind lines found) brace)

-- What parts items is passed over.
comment_is : (text rest : List ℕ) → lacks 10 text ≡ true → after_comment (text ++ 10 ∷ rest) ≡ 10 ∷ rest
unfolding lacks after_comment
comment_is [] rest lacking = refl
comment_is (c ∷ text) rest lacking = grind (arith, common_steps, comment_is text rest)

last_comment_is : (text : List ℕ) → lacks 10 text ≡ true → after_comment text ≡ []
unfolding lacks after_comment
last_comment_is [] lacking = refl
last_comment_is (c ∷ text) lacking = grind (arith, common_steps, last_comment_is text)

blank_sign : (c : ℕ) (rest : List ℕ) → is_blank c ≡ true → sign_at (c ∷ rest) ≡ sign.Blank
unfolding sign_at
blank_sign c rest e = rw e refl

pub parts_read : (growth : Growth) {text after : List ℕ} → Parts text after → mark_at growth text ≡ read_as mark.Passed after
unfolding mark_at sign_at
parts_read growth (Parts.one_blank c rest blank) = rw (blank_sign c rest blank) refl
parts_read growth (Parts.one_comma rest) = refl
parts_read growth (Parts.last_comment text lacking) = ap (read_as mark.Passed) (last_comment_is text lacking)
parts_read growth (Parts.line_comment text rest lacking) = ap (read_as mark.Passed) (comment_is text rest lacking)

pub line_read : (growth : Growth) (rest : List ℕ) → mark_at growth (10 ∷ rest) ≡ read_as mark.NextLine rest
unfolding mark_at sign_at
line_read growth rest = refl

pub close_read : (growth : Growth) (rest : List ℕ) → mark_at growth (125 ∷ rest) ≡ read_as mark.Closes rest
unfolding mark_at sign_at
close_read growth rest = refl

-- What is read is shorter.
pub blanks_shorter : (text : List ℕ) → length (after_blanks text) ≤ length text
unfolding after_blanks
blanks_shorter [] = omega arith
blanks_shorter (c ∷ rest) = grind (arith, common_steps, blanks_shorter rest)

pub word_shorter : {value : List ℕ → Option (List ℕ)} {text rest : List ℕ} {one : Word} → IsWord value text one rest → length rest < length text
word_shorter (IsWord.bare c raw text rest bare spells) = omega (arith, length-append raw rest)
word_shorter (IsWord.single raw text rest inside spells) = omega (arith, length-append raw (39 ∷ rest))
word_shorter (IsWord.double raw text rest inside spells) = omega (arith, length-append raw (34 ∷ rest))

operator_shorter : (text operator rest : List ℕ) → IsOperator text operator rest → length rest ≤ length text
operator_shorter text operator rest is = omega (arith, ap length is.1, length-append operator rest)

pub whole_shorter : {value : List ℕ → Option (List ℕ)} {text after : List ℕ} {one : Item} → IsWhole value text one after → length after < length text
whole_shorter (IsWhole.pair text behind operator rest after left right plain first is second ends) =
    omega (arith, word_shorter first, blanks_shorter behind, operator_shorter (after_blanks behind) operator rest is, blanks_shorter rest, word_shorter second, blanks_shorter after)
whole_shorter (IsWhole.lone text behind operator rest left plain first is which ends) =
    omega (arith, word_shorter first, blanks_shorter behind, operator_shorter (after_blanks behind) operator rest is, blanks_shorter rest)
whole_shorter (IsWhole.alone text spelled rest plain first ends) = omega (arith, word_shorter first, blanks_shorter rest)

pub include_shorter : {value : List ℕ → Option (List ℕ)} {text path after : List ℕ} {optional : Bool} → IsInclude value text optional path after → length after < length text
include_shorter (IsInclude.directive raw rest behind optional path one is found ends) = omega (arith, length-append raw rest, blanks_shorter rest, word_shorter found, blanks_shorter behind)

pub parts_shorter : {text after : List ℕ} → Parts text after → length after < length text
parts_shorter (Parts.one_blank c rest blank) = omega arith
parts_shorter (Parts.one_comma rest) = omega arith
parts_shorter (Parts.last_comment text lacking) = omega arith
parts_shorter (Parts.line_comment text rest lacking) = omega (arith, length-append text (10 ∷ rest))
