-- The lines of statements that are written, word by word.
use Rattle.std.proofs.Common.{◌≡◌, ℕ, suc, ◌<◌, ◌^◌, true, false, not, ◌&&◌, eqb, List, [], ◌∷◌, ◌++◌, length, take, Some, None, refl, sym, ap, ◌∙◌, arith}
use Rattle.std.specs.Prelude.{codes}
use Rattle.std.specs.Str.{str_eq_ignore_ascii_case, all_ascii_digits}
use Rattle.std.specs.Fmt.{decimal}
use Rattle.std.proofs.lemmas.Bool.{cond-false, ne_eqb, and_parts, or_from}
use Rattle.std.proofs.lemmas.List.{take_at, drop_at, append-nil}
use Rattle.rad_words.specs.declared.attributes.Kind.{Kind}
use Rattle.rad_words.specs.declared.attributes.Kind.TheVariants.{Text, Octets, Addr, Number, Date, Byte, Short}
use Rattle.rad_text.specs.Blanks.{is_blank, after_blanks}
use Rattle.rad_text.specs.Numerals.{is_hexadecimal}
use Rattle.rad_text.proofs.NumeralLaws.{numeral_again}
use Rattle.rad_dict.specs.NameForms.{is_name_octet, is_name, is_attr_name, is_value_name}
use Rattle.rad_dict.specs.LineWords.{ends_word, word_len, word_behind_blanks, word_at, is_ended, last_at}
use Rattle.rad_dict.specs.Lines.{Statement, nothing, attribute, value, vendor, begins, ends, states, stating, kind_of, attribute_at, value_at, vendor_at, only_word, keyword_line, line_at}
use Rattle.rad_dict.specs.Written.{kind_text, line_text, IsWritable}
use Rattle.rad_dict.proofs.NameWords.{are_name_octets, IsName, name_is, is_not, decimal_name}

-- A name octet ends no word.
no_end : (c : ℕ) → is_name_octet c ≡ true → ends_word c ≡ false
no_end c name = or_from (is_blank c) (eqb c 35) (or_from (eqb c 32) (eqb c 9) (is_not c 32 name refl) (is_not c 9 name refl)) (is_not c 35 name refl)

word_len_is : (word tail : List ℕ) → are_name_octets word ≡ true → word_len tail ≡ 0 → word_len (word ++ tail) ≡ length word
unfolding word_len
word_len_is [] tail all stops = stops
word_len_is (c ∷ word) tail all stops =
    let parts = and_parts (is_name_octet c) (are_name_octets word) all in
    cond-false _ _ _ (no_end c parts.0) ∙ ap suc (word_len_is word tail parts.1 stops)

no_blanks : (word tail : List ℕ) → IsName word → after_blanks (word ++ tail) ≡ word ++ tail
unfolding after_blanks
no_blanks [] tail name = absurd (omega (arith, name.0))
no_blanks (c ∷ word) tail name =
    let first = (and_parts (is_name_octet c) (are_name_octets word) name.1).0 in
    cond-false _ _ _ (or_from (eqb c 32) (eqb c 9) (is_not c 32 first refl) (is_not c 9 first refl))

some_word : (word tail : List ℕ) → IsName word → word_len tail ≡ 0 → word_behind_blanks (word ++ tail) ≡ Some (word, tail)
some_word [] tail name stops = absurd (omega (arith, name.0))
some_word (c ∷ word) tail name stops =
    let some : eqb (length (c ∷ word)) 0 ≡ false = ne_eqb (length (c ∷ word)) 0 (λ e. omega (arith, e)) in
    rw (word_len_is (c ∷ word) tail name.1 stops, take_at (c ∷ word) tail (length (c ∷ word)) refl, drop_at (c ∷ word) tail (length (c ∷ word)) refl, some) refl

-- A name behind a blank is the next word.
pub next_word : (word tail : List ℕ) → IsName word → word_len tail ≡ 0 → word_at (32 ∷ (word ++ tail)) ≡ Some (word, tail)
unfolding word_at after_blanks
next_word word tail name stops = ap word_behind_blanks (no_blanks word tail name) ∙ some_word word tail name stops

blank_ends : (more : List ℕ) → word_len (32 ∷ more) ≡ 0
unfolding word_len
blank_ends more = refl

nothing_ends : word_len [] ≡ 0
unfolding word_len
nothing_ends = refl

pub more_words : (word more : List ℕ) → IsName word → word_at (32 ∷ (word ++ 32 ∷ more)) ≡ Some (word, 32 ∷ more)
more_words word more name = next_word word (32 ∷ more) name (blank_ends more)

pub last_word : (word : List ℕ) → IsName word → word_at (32 ∷ word) ≡ Some (word, [])
last_word word name = ap (λ w. word_at (32 ∷ w)) (sym (append-nil word)) ∙ next_word word [] name nothing_ends

none_left : word_at [] ≡ None
unfolding word_at after_blanks word_len
none_left = refl

no_flag : last_at [] ≡ Some false
unfolding last_at word_at after_blanks word_len
no_flag = refl

is_done : is_ended [] ≡ true
is_done = rw none_left refl

-- The kinds.
kind_named : (kind : Kind) → IsName (kind_text kind)
kind_named Text = (omega arith, refl)
kind_named Octets = (omega arith, refl)
kind_named Addr = (omega arith, refl)
kind_named Number = (omega arith, refl)
kind_named Date = (omega arith, refl)
kind_named Byte = (omega arith, refl)
kind_named Short = (omega arith, refl)

kind_read : (kind : Kind) → kind_of (kind_text kind) ≡ kind
unfolding kind_of
kind_read Text = refl
kind_read Octets = refl
kind_read Addr = refl
kind_read Number = refl
kind_read Date = refl
kind_read Byte = refl
kind_read Short = refl

-- Names of attributes and values are names.
pub attr_named : (name : List ℕ) → is_attr_name name ≡ true → IsName name
unfolding is_attr_name
attr_named name e = name_is name (and_parts (is_name name) (not (str_eq_ignore_ascii_case (take 5 name) (codes "Attr-"))) e).0

pub value_named : (name : List ℕ) → is_value_name name ≡ true → IsName name
unfolding is_value_name
value_named name e =
    name_is name (and_parts (is_name name) (not (all_ascii_digits name)) (and_parts (is_name name && not (all_ascii_digits name)) (not (is_hexadecimal name)) e).0).0

-- The words behind each keyword.
attribute_read : (name : List ℕ) (number : ℕ) (kind : Kind) → is_attr_name name ≡ true → number < 2 ^ 32
    → attribute_at (32 ∷ (name ++ 32 ∷ (decimal number ++ 32 ∷ kind_text kind))) ≡ Some (attribute name number kind)
unfolding attribute_at
attribute_read name number kind named lt =
    rw (more_words name (decimal number ++ 32 ∷ kind_text kind) (attr_named name named), more_words (decimal number) (kind_text kind) (decimal_name number lt), numeral_again number lt, last_word (kind_text kind) (kind_named kind), no_flag, named)
    (ap (λ k. Some (attribute name number k)) (kind_read kind))

value_read : (attr name : List ℕ) (number : ℕ) → is_name attr ≡ true → is_value_name name ≡ true → number < 2 ^ 32
    → value_at (32 ∷ (attr ++ 32 ∷ (name ++ 32 ∷ decimal number))) ≡ Some (value attr name number)
unfolding value_at
value_read attr name number of_attr named lt =
    rw (more_words attr (name ++ 32 ∷ decimal number) (name_is attr of_attr), more_words name (decimal number) (value_named name named), last_word (decimal number) (decimal_name number lt), numeral_again number lt, named, is_done) refl

vendor_read : (name : List ℕ) (number : ℕ) → is_name name ≡ true → number < 2 ^ 32 → vendor_at (32 ∷ (name ++ 32 ∷ decimal number)) ≡ Some (vendor name number)
unfolding vendor_at
vendor_read name number named lt =
    rw (more_words name (decimal number) (name_is name named), last_word (decimal number) (decimal_name number lt), numeral_again number lt, no_flag) refl

name_read : (name : List ℕ) → is_name name ≡ true → only_word (32 ∷ name) ≡ Some name
unfolding only_word
name_read name named = rw (last_word name (name_is name named), is_done) refl

-- The keywords.
attribute_keyword : (text : List ℕ) → line_at (codes "ATTRIBUTE" ++ 32 ∷ text) ≡ stating (attribute_at (32 ∷ text))
unfolding line_at word_at after_blanks word_len keyword_line
attribute_keyword text = refl

value_keyword : (text : List ℕ) → line_at (codes "VALUE" ++ 32 ∷ text) ≡ stating (value_at (32 ∷ text))
unfolding line_at word_at after_blanks word_len keyword_line
value_keyword text = refl

vendor_keyword : (text : List ℕ) → line_at (codes "VENDOR" ++ 32 ∷ text) ≡ stating (vendor_at (32 ∷ text))
unfolding line_at word_at after_blanks word_len keyword_line
vendor_keyword text = refl

begin_keyword : (name : List ℕ) → only_word (32 ∷ name) ≡ Some name → line_at (codes "BEGIN-VENDOR" ++ 32 ∷ name) ≡ Some (states (begins name))
unfolding line_at word_at after_blanks word_len keyword_line
begin_keyword name e = rw e refl

end_keyword : (name : List ℕ) → only_word (32 ∷ name) ≡ Some name → line_at (codes "END-VENDOR" ++ 32 ∷ name) ≡ Some (states (ends name))
unfolding line_at word_at after_blanks word_len keyword_line
end_keyword name e = rw e refl

empty_line : line_at [] ≡ Some (states nothing)
unfolding line_at word_at after_blanks word_len
empty_line = refl

-- A written statement is read.
pub statement_read : (one : Statement) → IsWritable one → line_at (line_text one) ≡ Some (states one)
statement_read nothing all = empty_line
statement_read (attribute name number kind) all =
    attribute_keyword (name ++ 32 ∷ (decimal number ++ 32 ∷ kind_text kind)) ∙ ap stating (attribute_read name number kind all.0 all.1)
statement_read (value attr name number) all = value_keyword (attr ++ 32 ∷ (name ++ 32 ∷ decimal number)) ∙ ap stating (value_read attr name number all.0 all.1 all.2)
statement_read (vendor name number) all = vendor_keyword (name ++ 32 ∷ decimal number) ∙ ap stating (vendor_read name number all.0 all.1)
statement_read (begins name) all = begin_keyword name (name_read name all)
statement_read (ends name) all = end_keyword name (name_read name all)
