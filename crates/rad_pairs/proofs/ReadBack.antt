-- A pair that is printed is read again.
use Rattle.std.proofs.Common.{◌≡◌, ℕ, zero, suc, ◌<◌, ◌≤◌, false, eqb, List, [], ◌∷◌, ◌++◌, length, map, Some, Result, Ok, refl, sym, ap, append_assoc, ◌∙◌, arith}
use Rattle.std.proofs.lemmas.Bool.{or_parts}
use Rattle.std.proofs.lemmas.List.{take_at, drop_at, append-nil, length-append}
use Rattle.rad_words.specs.declared.attributes.AttrId.{AttrId}
use Rattle.rad_words.specs.declared.attributes.Kind.TheVariants as kind
use Rattle.rad_value.specs.declared.values.Value.{Value}
use Rattle.rad_value.specs.declared.values.Value.TheVariants as value
use Rattle.rad_value.specs.declared.values.Pair.{Pair}
use Rattle.rad_dict.specs.Definitions.{Definitions}
use Rattle.rad_pairs.specs.declared.attr_reading.AttrKind.{AttrKind}
use Rattle.rad_text.specs.Read.{◌>>=◌}
use Rattle.rad_pairs.specs.declared.fault.Wrong.{Wrong}
use Rattle.rad_pairs.specs.declared.fault.Wrong.TheVariants.{BadValue}
use Rattle.rad_pairs.specs.declared.items.Item.{Item}
use Rattle.rad_pairs.specs.declared.items.PairOp.TheVariants as op
use Rattle.rad_pairs.specs.ValueText.{quoted, attr_text, value_text, pair_text}
use Rattle.rad_pairs.specs.AttrNames.{named}
use Rattle.rad_pairs.specs.ValueReading.{value_of}
use Rattle.rad_pairs.specs.Operators.{long_operator, short_operator, operator_at}
use Rattle.rad_text.specs.Blanks.{after_blanks}
use Rattle.rad_text.specs.Lines.{after_line_end}
use Rattle.rad_text.specs.Parts.{parts_in}
use Rattle.rad_text.proofs.Turns as turns
use Rattle.rad_pairs.specs.Words.{word_len}
use Rattle.rad_pairs.specs.PairParts.{separated, operator_of, value_at}
use Rattle.rad_pairs.specs.Items.{pair_at, part_behind_blanks, part_at, listed, placed, items_of}
use Rattle.rad_dict.specs.EveryDictionary.{IsDictionary}
use Rattle.rad_value.specs.Kinds.{kind_of_value}
use Rattle.rad_pairs.specs.ReadingBack.{AreOctets, IsOfKind, AreOfKind, InRange, item_of, lines_text}
use Rattle.rad_pairs.proofs.Names.{IsName, name_len_is, word_is, no_blanks, names_line, no_separator_at}
use Rattle.rad_pairs.proofs.Turns.{part}
use Rattle.rad_pairs.proofs.Quoted.{quoted_read}
use Rattle.rad_pairs.proofs.Attributes.{attr_kind, attr_again}
use Rattle.rad_pairs.proofs.Values.{IsNoText, value_again}

-- Behind a pair its text ends, or its line.
record Ends (tail rest : List ℕ) : Type 0 where
  word : word_len tail ≡ 0
  parts : separated (after_blanks tail) ≡ Some rest

text_ends : Ends [] []
unfolding word_len after_blanks
text_ends = record { word = refl; parts = refl }

line_ends : (more : List ℕ) → Ends (10 ∷ more) more
unfolding word_len after_blanks after_line_end
line_ends more = record { word = refl; parts = refl }

-- What stands behind the operator: a value, and what ends its pair.
record Alone (attr : AttrKind) (v : Value) (text tail rest : List ℕ) (dict : Definitions) : Type 0 where
  begins : after_blanks (text ++ tail) ≡ text ++ tail
  reads : value_at op.Eq attr (text ++ tail) dict ≡ Some (v, rest)

name_alone : (attr : AttrKind) (v : Value) (text tail rest : List ℕ) (dict : Definitions) → Ends tail rest → IsName text → value_of attr.kind attr.id text dict ≡ Some v → Alone attr v text tail rest dict
unfolding value_at
name_alone attr v [] tail rest dict ends name e = absurd (omega (arith, name.0))
name_alone attr v (c ∷ text) tail rest dict ends name e = record {
  begins = no_blanks (c ∷ text) tail name;
  reads = rw (word_is (c ∷ text) tail name ends.word, no_separator_at c text (text ++ tail) name, e, ends.parts) refl;
}

quoted_alone : (attr : AttrId) (text tail rest : List ℕ) (dict : Definitions) → Ends tail rest → AreOctets text → Alone (attr_kind attr kind.Text) (value.Text text) (quoted text) tail rest dict
unfolding quoted value_at after_blanks after_line_end
quoted_alone attr text tail rest dict ends all = record { begins = refl; reads = rw (quoted_read text tail all, ends.parts) refl }

printed_alone : (attr : AttrId) (v : Value) (tail rest : List ℕ) (dict : Definitions) → Ends tail rest → IsDictionary dict → InRange v → IsNoText v → Alone (attr_kind attr (kind_of_value v)) v (value_text attr v dict) tail rest dict
printed_alone attr v tail rest dict ends plain range none =
    let read = value_again attr v dict plain range none in
    name_alone (attr_kind attr (kind_of_value v)) v (value_text attr v dict) tail rest dict ends read.0 read.1

value_alone : (attr : AttrId) (v : Value) (tail rest : List ℕ) (dict : Definitions) → Ends tail rest → IsDictionary dict → InRange v → Alone (attr_kind attr (kind_of_value v)) v (value_text attr v dict) tail rest dict
value_alone attr (value.Text text) tail rest dict ends plain range = quoted_alone attr text tail rest dict ends range
value_alone attr (value.Octets octets) tail rest dict ends plain range = printed_alone attr (value.Octets octets) tail rest dict ends plain range tt
value_alone attr (value.Addr address) tail rest dict ends plain range = printed_alone attr (value.Addr address) tail rest dict ends plain range tt
value_alone attr (value.Number number) tail rest dict ends plain range = printed_alone attr (value.Number number) tail rest dict ends plain range tt
value_alone attr (value.Date seconds) tail rest dict ends plain range = printed_alone attr (value.Date seconds) tail rest dict ends plain range tt
value_alone attr (value.Byte number) tail rest dict ends plain range = printed_alone attr (value.Byte number) tail rest dict ends plain range tt
value_alone attr (value.Short number) tail rest dict ends plain range = printed_alone attr (value.Short number) tail rest dict ends plain range tt

equals_read : (more : List ℕ) → operator_of (61 ∷ 32 ∷ more) ≡ Some (op.Eq, 32 ∷ more)
unfolding operator_of operator_at long_operator short_operator
equals_read more = refl

blank_read : (more : List ℕ) → after_blanks (32 ∷ more) ≡ after_blanks more
unfolding after_blanks
blank_read more = refl

sign_read : (more : List ℕ) → after_blanks (61 ∷ more) ≡ 61 ∷ more
unfolding after_blanks
sign_read more = refl

abbrev item : AttrId → Value → Item
item attr v = record { attr = attr; op = op.Eq; value = v }

pair_read : (name : List ℕ) (attr : AttrKind) (v : Value) (text tail rest : List ℕ) (dict : Definitions) → IsName name → named name dict ≡ Some attr → Alone attr v text tail rest dict
    → pair_at (name ++ 32 ∷ 61 ∷ 32 ∷ (text ++ tail)) dict ≡ Ok (item attr.id v, rest)
unfolding pair_at
pair_read name attr v text tail rest dict is e alone =
    let value = text ++ tail in
    rw (name_len_is name (61 ∷ 32 ∷ value) is.1, take_at name (32 ∷ 61 ∷ 32 ∷ value) (length name) refl, drop_at name (32 ∷ 61 ∷ 32 ∷ value) (length name) refl, e, blank_read (61 ∷ 32 ∷ value), sign_read (32 ∷ value), equals_read value, blank_read value, alone.begins, alone.reads) refl

part_read : (name : List ℕ) (attr : AttrKind) (v : Value) (text tail rest : List ℕ) (dict : Definitions) → IsName name → named name dict ≡ Some attr → Alone attr v text tail rest dict
    → part_at (name ++ 32 ∷ 61 ∷ 32 ∷ (text ++ tail)) dict ≡ Ok (Some (item attr.id v), rest)
unfolding part_at
part_read [] attr v text tail rest dict is e alone = absurd (omega (arith, is.0))
part_read (c ∷ name) attr v text tail rest dict is e alone =
    let value = 32 ∷ 61 ∷ 32 ∷ (text ++ tail) in
    rw (no_blanks (c ∷ name) value is, names_line c name (name ++ value) is, part_behind_blanks, pair_read (c ∷ name) attr v text tail rest dict is e alone) refl

-- A pair in print is a part of a text, whatever ends it.
printed_read : (pair : Pair) (tail rest : List ℕ) (dict : Definitions) → Ends tail rest → IsDictionary dict → IsOfKind pair dict → part_at (pair_text pair dict ++ tail) dict ≡ Ok (Some (item_of pair), rest)
printed_read pair tail rest dict ends plain fits =
    let kind = kind_of_value pair.value in
    let name = attr_again pair.attr dict kind plain fits.space fits.kind in
    let alone = value_alone pair.attr pair.value tail rest dict ends plain fits.value in
    let text = value_text pair.attr pair.value dict in
    ap (λ (t : List ℕ). part_at t dict) (append_assoc (attr_text pair.attr dict) (32 ∷ 61 ∷ 32 ∷ text) tail)
    ∙ part_read (attr_text pair.attr dict) (attr_kind pair.attr kind) pair.value text tail rest dict name.0 name.1 alone

printed_long : (pair : Pair) (dict : Definitions) → 0 < length (pair_text pair dict)
printed_long pair dict = omega (arith, length-append (attr_text pair.attr dict) (32 ∷ 61 ∷ 32 ∷ value_text pair.attr pair.value dict))

-- The items of a text in so many turns.
abbrev pub items_in : ℕ → List ℕ → Definitions → Result (List Item) Wrong
items_in turns text dict = listed (parts_in (part dict) (BadValue 0) turns text)

first_read : (left : ℕ) (text : List ℕ) (one : Item) (rest : List ℕ) (items : List Item) (dict : Definitions) → 0 < length text → part_at text dict ≡ Ok (Some one, rest)
    → items_in left rest dict ≡ Ok items → items_in (suc left) text dict ≡ Ok (one ∷ items)
first_read left [] one rest items dict long e others = absurd (omega arith)
first_read left (c ∷ text) one rest items dict long e others =
    ap listed (turns.first_part (part dict) (BadValue 0) left c text (Some one) rest e) ∙ ap (λ read. read >>= λ others. Ok (one ∷ others)) others

pub none_left : (left : ℕ) (dict : Definitions) → items_in left [] dict ≡ Ok []
none_left left dict = ap listed (turns.no_parts (part dict) (BadValue 0) left)

line_read : (left : ℕ) (pair : Pair) (more : List ℕ) (items : List Item) (dict : Definitions) → IsDictionary dict → IsOfKind pair dict → length (pair_text pair dict ++ 10 ∷ more) ≤ left
    → ((left : ℕ) → length more ≤ left → items_in left more dict ≡ Ok items) → items_in left (pair_text pair dict ++ 10 ∷ more) dict ≡ Ok (item_of pair ∷ items)
line_read zero pair more items dict plain fits enough later = absurd (omega (arith, length-append (pair_text pair dict) (10 ∷ more)))
line_read (suc left) pair more items dict plain fits enough later =
    first_read left (pair_text pair dict ++ 10 ∷ more) (item_of pair) more items dict (omega (arith, length-append (pair_text pair dict) (10 ∷ more)))
    (printed_read pair (10 ∷ more) more dict (line_ends more) plain fits) (later left (omega (arith, length-append (pair_text pair dict) (10 ∷ more))))

lines_read : (pairs : List Pair) (dict : Definitions) → IsDictionary dict → AreOfKind pairs dict → (left : ℕ) → length (lines_text pairs dict) ≤ left → items_in left (lines_text pairs dict) dict ≡ Ok (map item_of pairs)
lines_read [] dict plain fits left enough = none_left left dict
lines_read (pair ∷ pairs) dict plain fits left enough =
    let text : lines_text (pair ∷ pairs) dict ≡ pair_text pair dict ++ 10 ∷ lines_text pairs dict = append_assoc (pair_text pair dict) (10 ∷ []) (lines_text pairs dict) in
    ap (λ (t : List ℕ). items_in left t dict) text
    ∙ line_read left pair (lines_text pairs dict) (map item_of pairs) dict plain fits.0 (omega (arith, ap length text)) (λ left more. lines_read pairs dict plain fits.1 left more)

pub lines_back : (pairs : List Pair) (dict : Definitions) → IsDictionary dict → AreOfKind pairs dict → items_of (lines_text pairs dict) dict ≡ Ok (map item_of pairs)
unfolding items_of
lines_back pairs dict plain fits = ap (placed (lines_text pairs dict)) (lines_read pairs dict plain fits (length (lines_text pairs dict)) (omega arith))

pub read_back : (pair : Pair) (dict : Definitions) → IsDictionary dict → IsOfKind pair dict → items_of (pair_text pair dict) dict ≡ Ok (item_of pair ∷ [])
unfolding items_of
read_back pair dict plain fits =
    let one : part_at (pair_text pair dict) dict ≡ Ok (Some (item_of pair), []) = ap (λ (t : List ℕ). part_at t dict) (sym (append-nil (pair_text pair dict))) ∙ printed_read pair [] [] dict text_ends plain fits in
    whole (length (pair_text pair dict)) (printed_long pair dict) one
  where
    whole : (left : ℕ) → 0 < left → part_at (pair_text pair dict) dict ≡ Ok (Some (item_of pair), []) → placed (pair_text pair dict) (items_in left (pair_text pair dict) dict) ≡ Ok (item_of pair ∷ [])
    whole zero long part = absurd (omega arith)
    whole (suc left) long part = ap (placed (pair_text pair dict)) (first_read left (pair_text pair dict) (item_of pair) [] [] dict (printed_long pair dict) part (none_left left dict))
