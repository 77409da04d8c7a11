-- Items that are written are read back.
use Rattle.std.proofs.Common.{◌≡◌, ℕ, zero, suc, ◌+◌, ◌≤◌, Bool, true, false, List, [], ◌∷◌, ◌++◌, length, Option, Some, None, Result, Ok, refl, sym, ap, append_assoc, ◌∙◌, arith}
use Rattle.std.specs.List.{list_all, AllByRecursion}
use Rattle.std.proofs.lemmas.Bool.{true≢false, ne_eqb, and_parts}
use Rattle.std.proofs.lemmas.List.{take_at, drop_at, length-append}
use Rattle.rad_words.specs.declared.attributes.AttrId.{AttrId}
use Rattle.rad_words.specs.declared.attributes.Kind.{Kind}
use Rattle.rad_words.specs.declared.attributes.Kind.TheVariants as kind
use Rattle.rad_value.specs.declared.values.Value.{Value}
use Rattle.rad_value.specs.declared.values.Value.TheVariants as value
use Rattle.rad_value.specs.Kinds.{kind_of_value}
use Rattle.rad_dict.specs.Definitions.{Definitions}
use Rattle.rad_dict.specs.NameForms.{is_name_octet}
use Rattle.rad_dict.specs.EveryDictionary.{IsDictionary}
use Rattle.rad_text.specs.Blanks.{after_blanks}
use Rattle.rad_text.specs.Lines.{after_line_end}
use Rattle.rad_text.specs.Parts.{parts_in}
use Rattle.rad_text.specs.Read.{◌>>=◌}
use Rattle.rad_text.proofs.Turns as turns
use Rattle.rad_pairs.specs.declared.items.Item.{Item}
use Rattle.rad_pairs.specs.declared.items.PairOp.{PairOp}
use Rattle.rad_pairs.specs.declared.items.PairOp.TheVariants as op
use Rattle.rad_pairs.specs.declared.attr_reading.AttrKind.{AttrKind}
use Rattle.rad_pairs.specs.AttrNames.{named}
use Rattle.rad_pairs.specs.ValueReading.{value_of}
use Rattle.rad_pairs.specs.ValueText.{quoted, attr_text, value_text}
use Rattle.rad_pairs.specs.ReadingBack.{AreOctets, InRange, IsSpace, kind_of}
use Rattle.rad_pairs.specs.Operators.{long_operator, short_operator}
use Rattle.rad_pairs.specs.Operators as operators
use Rattle.rad_pairs.specs.Words.{word_len, word_at}
use Rattle.rad_pairs.specs.PairParts.{operator_of, value_behind}
use Rattle.rad_pairs.proofs.Names.{IsName, name_len_is, word_is, no_blanks, no_separator_at}
use Rattle.rad_pairs.proofs.Quoted.{quoted_read}
use Rattle.rad_pairs.proofs.Attributes.{attr_kind, attr_again}
use Rattle.rad_pairs.proofs.Values.{IsNoText, value_again}
use Rattle.mod_users.specs.declared.form.Form.{Form}
use Rattle.mod_users.specs.declared.placed.Placed.{Placed}
use Rattle.mod_users.specs.declared.items.Seen.{Seen}
use Rattle.mod_users.specs.declared.fault.Wrong.{Wrong}
use Rattle.mod_users.specs.declared.fault.Wrong.TheVariants.{BadValue}
use Rattle.mod_users.specs.declared.fault.LineFault.{LineFault}
use Rattle.mod_users.specs.Forms.{takes}
use Rattle.mod_users.specs.ItemParts.{begins_comment, solid, operator_at, value_at}
use Rattle.mod_users.specs.Items.{item_at, part_at, listed, items_of}
use Rattle.mod_users.specs.Rows.{items_in}
use Rattle.mod_users.specs.Written.{op_text, value_written, item_text, items_text, IsOfKind, IsPattern, IsBare, FitsBehind, IsWritableItem}

-- ---- commas and blanks

comma_ends : (more : List ℕ) → word_len (44 ∷ more) ≡ 0
unfolding word_len
comma_ends more = refl

comma_solid : (more : List ℕ) → solid false (44 ∷ more) ≡ 44 ∷ more
unfolding solid after_blanks
comma_solid more = refl

blank_read : (more : List ℕ) → after_blanks (32 ∷ more) ≡ after_blanks more
unfolding after_blanks
blank_read more = refl

pub solid_is : (parted : Bool) (text : List ℕ) → after_blanks text ≡ text → begins_comment text ≡ false → solid parted (32 ∷ text) ≡ text
unfolding solid
solid_is true text begins none = rw (blank_read text, begins, none) refl
solid_is false text begins none = rw (blank_read text, begins, none) refl

name_octet : (name : List ℕ) (more : List ℕ) → IsName name → begins_comment (name ++ more) ≡ false
name_octet [] more is = absurd (omega (arith, is.0))
name_octet (c ∷ name) more is =
    let first = (and_parts (is_name_octet c) (list_all is_name_octet name) is.1).0 in
    ne_eqb c 35 (λ e. true≢false (sym first ∙ ap is_name_octet e))

-- ---- values

-- What stands behind an operator and a blank: a value, a comma and more.
record Alone (o : PairOp) (attr : AttrKind) (v : Value) (text more : List ℕ) (dict : Definitions) : Type 0 where
  begins : after_blanks (32 ∷ (text ++ 44 ∷ more)) ≡ text ++ 44 ∷ more
  free : solid false (32 ∷ (text ++ 44 ∷ more)) ≡ text ++ 44 ∷ more
  reads : value_at o attr (text ++ 44 ∷ more) dict ≡ Some (v, more)

name_reads : (o : PairOp) (attr : AttrKind) (v : Value) (text more : List ℕ) (dict : Definitions) → IsName text → value_behind o attr (Some text) dict ≡ Some v → value_at o attr (text ++ 44 ∷ more) dict ≡ Some (v, more)
unfolding value_at
name_reads o attr v [] more dict name e = absurd (omega (arith, name.0))
name_reads o attr v (c ∷ text) more dict name e =
    rw (word_is (c ∷ text) (44 ∷ more) name (comma_ends more), no_separator_at c text (text ++ 44 ∷ more) name, e, comma_solid more) refl

name_alone : (o : PairOp) (attr : AttrKind) (v : Value) (text more : List ℕ) (dict : Definitions) → IsName text → value_behind o attr (Some text) dict ≡ Some v → Alone o attr v text more dict
name_alone o attr v text more dict name e =
    let begins : after_blanks (text ++ 44 ∷ more) ≡ text ++ 44 ∷ more = no_blanks text (44 ∷ more) name in record {
      begins = blank_read (text ++ 44 ∷ more) ∙ begins;
      free = solid_is false (text ++ 44 ∷ more) begins (name_octet text (44 ∷ more) name);
      reads = name_reads o attr v text more dict name e;
    }

quoted_reads : (o : PairOp) (attr : AttrKind) (v : Value) (text more : List ℕ) (dict : Definitions) → AreOctets text → value_behind o attr (Some text) dict ≡ Some v → value_at o attr (quoted text ++ 44 ∷ more) dict ≡ Some (v, more)
unfolding quoted value_at after_line_end
quoted_reads o attr v text more dict all e = rw (quoted_read text (44 ∷ more) all, e, comma_solid more) refl

quoted_begins : (text more : List ℕ) → after_blanks (quoted text ++ more) ≡ quoted text ++ more
unfolding quoted after_blanks
quoted_begins text more = refl

quoted_free : (text more : List ℕ) → begins_comment (quoted text ++ more) ≡ false
unfolding quoted
quoted_free text more = refl

quoted_alone : (o : PairOp) (attr : AttrKind) (v : Value) (text more : List ℕ) (dict : Definitions) → AreOctets text → value_behind o attr (Some text) dict ≡ Some v → Alone o attr v (quoted text) more dict
quoted_alone o attr v text more dict all e = record {
  begins = blank_read (quoted text ++ 44 ∷ more) ∙ quoted_begins text (44 ∷ more);
  free = solid_is false (quoted text ++ 44 ∷ more) (quoted_begins text (44 ∷ more)) (quoted_free text (44 ∷ more));
  reads = quoted_reads o attr v text more dict all e;
}

bare_begins : (more : List ℕ) → after_blanks (32 ∷ 44 ∷ more) ≡ 44 ∷ more
unfolding after_blanks
bare_begins more = refl

bare_free : (more : List ℕ) → solid false (32 ∷ 44 ∷ more) ≡ 44 ∷ more
unfolding solid after_blanks
bare_free more = refl

any_alone : (attr : AttrKind) (more : List ℕ) (dict : Definitions) → Alone op.Any attr (value.Text []) [] more dict
unfolding value_at word_at word_len solid after_blanks
any_alone attr more dict = record { begins = bare_begins more; free = bare_free more; reads = refl }

none_alone : (attr : AttrKind) (more : List ℕ) (dict : Definitions) → Alone op.None attr (value.Text []) [] more dict
unfolding value_at word_at word_len solid after_blanks
none_alone attr more dict = record { begins = bare_begins more; free = bare_free more; reads = refl }

abbrev ReadsValues : PairOp → AttrKind → Definitions → Type 0
ReadsValues o attr dict = (word : List ℕ) → value_behind o attr (Some word) dict ≡ value_of attr.kind attr.id word dict

printed_alone : (o : PairOp) (attr : AttrId) (v : Value) (more : List ℕ) (dict : Definitions) → IsDictionary dict → InRange v → IsNoText v → ReadsValues o (attr_kind attr (kind_of_value v)) dict → Alone o (attr_kind attr (kind_of_value v)) v (value_text attr v dict) more dict
printed_alone o attr v more dict plain range none behind =
    let read = value_again attr v dict plain range none in
    name_alone o (attr_kind attr (kind_of_value v)) v (value_text attr v dict) more dict read.0 (behind (value_text attr v dict) ∙ read.1)

value_alone : (o : PairOp) (attr : AttrId) (v : Value) (more : List ℕ) (dict : Definitions) → IsDictionary dict → InRange v → ReadsValues o (attr_kind attr (kind_of_value v)) dict → Alone o (attr_kind attr (kind_of_value v)) v (value_text attr v dict) more dict
value_alone o attr (value.Text text) more dict plain range behind = quoted_alone o (attr_kind attr kind.Text) (value.Text text) text more dict range (behind text)
value_alone o attr (value.Octets octets) more dict plain range behind = printed_alone o attr (value.Octets octets) more dict plain range tt behind
value_alone o attr (value.Addr address) more dict plain range behind = printed_alone o attr (value.Addr address) more dict plain range tt behind
value_alone o attr (value.Number number) more dict plain range behind = printed_alone o attr (value.Number number) more dict plain range tt behind
value_alone o attr (value.Date seconds) more dict plain range behind = printed_alone o attr (value.Date seconds) more dict plain range tt behind
value_alone o attr (value.Byte number) more dict plain range behind = printed_alone o attr (value.Byte number) more dict plain range tt behind
value_alone o attr (value.Short number) more dict plain range behind = printed_alone o attr (value.Short number) more dict plain range tt behind

-- ---- items

op_read : (o : PairOp) (more : List ℕ) → operator_of (after_blanks (32 ∷ (op_text o ++ 32 ∷ more))) ≡ Some (o, 32 ∷ more)
unfolding operator_of operators.operator_at long_operator short_operator after_blanks
op_read op.Eq more = refl
op_read op.Set more = refl
op_read op.Append more = refl
op_read op.Equal more = refl
op_read op.Differs more = refl
op_read op.Lt more = refl
op_read op.Le more = refl
op_read op.Gt more = refl
op_read op.Ge more = refl
op_read op.Match more = refl
op_read op.NoMatch more = refl
op_read op.Any more = refl
op_read op.None more = refl

abbrev an_item : AttrId → PairOp → Value → Item
an_item attr o v = record { attr = attr; op = o; value = v }

-- An item in front of more is read.
abbrev Reads : Form → AttrId → PairOp → Value → List ℕ → List ℕ → Definitions → Type 0
Reads form attr o v text more dict =
    item_at form (attr_text attr dict ++ 32 ∷ (op_text o ++ 32 ∷ (text ++ 44 ∷ more))) dict ≡ Ok (record { item = an_item attr o v; left = length (text ++ 44 ∷ more) }, more)

named_read : (form : Form) (attr : AttrId) (k : Kind) (o : PairOp) (v : Value) (name text more : List ℕ) (dict : Definitions) → IsName name → named name dict ≡ Some (attr_kind attr k) → takes form attr.space o ≡ true
    → Alone o (attr_kind attr k) v text more dict
    → item_at form (name ++ 32 ∷ (op_text o ++ 32 ∷ (text ++ 44 ∷ more))) dict ≡ Ok (record { item = an_item attr o v; left = length (text ++ 44 ∷ more) }, more)
unfolding item_at operator_at
named_read form attr k o v name text more dict is e taken alone =
    let value = text ++ 44 ∷ more in
    let behind = op_text o ++ 32 ∷ value in
    rw (name_len_is name behind is.1, take_at name (32 ∷ behind) (length name) refl, drop_at name (32 ∷ behind) (length name) refl, e, op_read o value, taken, alone.begins, alone.free, alone.reads) refl

value_read : (form : Form) (attr : AttrId) (k : Kind) (o : PairOp) (v : Value) (text more : List ℕ) (dict : Definitions) → IsDictionary dict → IsSpace attr.space → kind_of attr dict ≡ Some k → takes form attr.space o ≡ true
    → Alone o (attr_kind attr k) v text more dict → Reads form attr o v text more dict
value_read form attr k o v text more dict plain space kind taken alone =
    let name = attr_again attr dict k plain space kind in
    named_read form attr k o v (attr_text attr dict) text more dict name.0 name.1 taken alone

by_value : (form : Form) (attr : AttrId) (o : PairOp) (v : Value) (more : List ℕ) (dict : Definitions) → IsDictionary dict → IsSpace attr.space → takes form attr.space o ≡ true → IsOfKind (an_item attr o v) dict
    → ReadsValues o (attr_kind attr (kind_of_value v)) dict → Reads form attr o v (value_text attr v dict) more dict
by_value form attr o v more dict plain space taken fits behind =
    value_read form attr (kind_of_value v) o v (value_text attr v dict) more dict plain space fits.kind taken (value_alone o attr v more dict plain fits.range behind)

by_pattern : (form : Form) (attr : AttrId) (o : PairOp) (v : Value) (more : List ℕ) (dict : Definitions) → IsDictionary dict → IsSpace attr.space → takes form attr.space o ≡ true → (fits : IsPattern (an_item attr o v) dict)
    → ((k : AttrKind) (word : List ℕ) → value_behind o k (Some word) dict ≡ Some (value.Text word)) → Reads form attr o v (value_text attr v dict) more dict
by_pattern form attr o v more dict plain space taken fits behind =
    rw fits.text (value_read form attr fits.attr_kind o (value.Text fits.source) (quoted fits.source) more dict plain space fits.kind taken
    (quoted_alone o (attr_kind attr fits.attr_kind) (value.Text fits.source) fits.source more dict fits.range (behind (attr_kind attr fits.attr_kind) fits.source)))

by_bare : (form : Form) (attr : AttrId) (o : PairOp) (v : Value) (more : List ℕ) (dict : Definitions) → IsDictionary dict → IsSpace attr.space → takes form attr.space o ≡ true → (fits : IsBare (an_item attr o v) dict)
    → ((k : AttrKind) → Alone o k (value.Text []) [] more dict) → Reads form attr o v [] more dict
by_bare form attr o v more dict plain space taken fits alone =
    rw fits.empty (value_read form attr fits.attr_kind o (value.Text []) [] more dict plain space fits.kind taken (alone (attr_kind attr fits.attr_kind)))

by_op : (form : Form) (attr : AttrId) (o : PairOp) (v : Value) (more : List ℕ) (dict : Definitions) → IsDictionary dict → IsSpace attr.space → takes form attr.space o ≡ true → FitsBehind o (an_item attr o v) dict
    → Reads form attr o v (value_written o (an_item attr o v) dict) more dict
by_op form attr op.Eq v more dict plain space taken fits = by_value form attr op.Eq v more dict plain space taken fits (λ word. refl)
by_op form attr op.Set v more dict plain space taken fits = by_value form attr op.Set v more dict plain space taken fits (λ word. refl)
by_op form attr op.Append v more dict plain space taken fits = by_value form attr op.Append v more dict plain space taken fits (λ word. refl)
by_op form attr op.Equal v more dict plain space taken fits = by_value form attr op.Equal v more dict plain space taken fits (λ word. refl)
by_op form attr op.Differs v more dict plain space taken fits = by_value form attr op.Differs v more dict plain space taken fits (λ word. refl)
by_op form attr op.Lt v more dict plain space taken fits = by_value form attr op.Lt v more dict plain space taken fits (λ word. refl)
by_op form attr op.Le v more dict plain space taken fits = by_value form attr op.Le v more dict plain space taken fits (λ word. refl)
by_op form attr op.Gt v more dict plain space taken fits = by_value form attr op.Gt v more dict plain space taken fits (λ word. refl)
by_op form attr op.Ge v more dict plain space taken fits = by_value form attr op.Ge v more dict plain space taken fits (λ word. refl)
by_op form attr op.Match v more dict plain space taken fits = by_pattern form attr op.Match v more dict plain space taken fits (λ k word. refl)
by_op form attr op.NoMatch v more dict plain space taken fits = by_pattern form attr op.NoMatch v more dict plain space taken fits (λ k word. refl)
by_op form attr op.Any v more dict plain space taken fits = by_bare form attr op.Any v more dict plain space taken fits (λ k. any_alone k more dict)
by_op form attr op.None v more dict plain space taken fits = by_bare form attr op.None v more dict plain space taken fits (λ k. none_alone k more dict)

-- The text of an item with a comma and more behind it.
text_split : (item : Item) (more : List ℕ) (dict : Definitions)
    → item_text item dict ++ 44 ∷ more ≡ attr_text item.attr dict ++ 32 ∷ (op_text item.op ++ 32 ∷ (value_written item.op item dict ++ 44 ∷ more))
text_split item more dict =
    append_assoc (attr_text item.attr dict) (32 ∷ (op_text item.op ++ 32 ∷ value_written item.op item dict)) (44 ∷ more)
    ∙ ap (λ (t : List ℕ). attr_text item.attr dict ++ 32 ∷ t) (append_assoc (op_text item.op) (32 ∷ value_written item.op item dict) (44 ∷ more))

-- An item that is written is read, whatever stands behind its comma.
item_read : (form : Form) (item : Item) (more : List ℕ) (dict : Definitions) → IsDictionary dict → IsWritableItem form dict item
    → item_at form (item_text item dict ++ 44 ∷ more) dict ≡ Ok (record { item = item; left = length (value_written item.op item dict ++ 44 ∷ more) }, more)
item_read form item more dict plain is =
    ap (λ (t : List ℕ). item_at form t dict) (text_split item more dict)
    ∙ by_op form item.attr item.op item.value more dict plain is.space is.taken is.value

-- ---- the items of a line

-- The texts of items from behind the blank of the first.
abbrev body : List Item → Definitions → List ℕ
body [] dict = []
body (item ∷ items) dict = item_text item dict ++ 44 ∷ items_text items dict

known : (o : PairOp) (attr : AttrId) (v : Value) (dict : Definitions) → FitsBehind o (an_item attr o v) dict → (k : Kind) × (kind_of attr dict ≡ Some k)
known op.Eq attr v dict fits = (kind_of_value v, fits.kind)
known op.Set attr v dict fits = (kind_of_value v, fits.kind)
known op.Append attr v dict fits = (kind_of_value v, fits.kind)
known op.Equal attr v dict fits = (kind_of_value v, fits.kind)
known op.Differs attr v dict fits = (kind_of_value v, fits.kind)
known op.Lt attr v dict fits = (kind_of_value v, fits.kind)
known op.Le attr v dict fits = (kind_of_value v, fits.kind)
known op.Gt attr v dict fits = (kind_of_value v, fits.kind)
known op.Ge attr v dict fits = (kind_of_value v, fits.kind)
known op.Match attr v dict fits = (fits.attr_kind, fits.kind)
known op.NoMatch attr v dict fits = (fits.attr_kind, fits.kind)
known op.Any attr v dict fits = (fits.attr_kind, fits.kind)
known op.None attr v dict fits = (fits.attr_kind, fits.kind)

pub name_of : (form : Form) (dict : Definitions) (item : Item) → IsDictionary dict → IsWritableItem form dict item → IsName (attr_text item.attr dict)
name_of form dict item plain is = (attr_again item.attr dict (known item.op item.attr item.value dict is.value).0 plain is.space (known item.op item.attr item.value dict is.value).1).0

body_begins : (form : Form) (item : Item) (more : List ℕ) (dict : Definitions) → IsDictionary dict → IsWritableItem form dict item
    → (after_blanks (item_text item dict ++ more) ≡ item_text item dict ++ more) × (begins_comment (item_text item dict ++ more) ≡ false)
body_begins form item more dict plain is =
    let name = name_of form dict item plain is in
    let rest = 32 ∷ (op_text item.op ++ 32 ∷ value_written item.op item dict) in
    let whole : item_text item dict ++ more ≡ attr_text item.attr dict ++ (rest ++ more) = append_assoc (attr_text item.attr dict) rest more in (
      rw whole (no_blanks (attr_text item.attr dict) (rest ++ more) name),
      rw whole (name_octet (attr_text item.attr dict) (rest ++ more) name),
    )

abbrev pub AreItems : Form → Definitions → List Item → Type 0
AreItems form dict items = AllByRecursion (λ (item : Item). IsWritableItem form dict item) items

solid_nil : (parted : Bool) → solid parted [] ≡ []
unfolding solid after_blanks
solid_nil true = refl
solid_nil false = refl

solid_body : (form : Form) (parted : Bool) (items : List Item) (dict : Definitions) → IsDictionary dict → AreItems form dict items → solid parted (items_text items dict) ≡ body items dict
solid_body form parted [] dict plain all = solid_nil parted
solid_body form parted (item ∷ items) dict plain all =
    let begins = body_begins form item (44 ∷ items_text items dict) dict plain all.0 in
    solid_is parted (item_text item dict ++ 44 ∷ items_text items dict) begins.0 begins.1

body_length : (items : List Item) (dict : Definitions) → length (body items dict) ≤ length (items_text items dict)
body_length [] dict = omega arith
body_length (item ∷ items) dict = omega arith

first_of : (text front more : List ℕ) (part : List ℕ → Result (Seen × List ℕ) Wrong) (left : ℕ) (seen : Seen) (after : List ℕ) → text ≡ front ++ 44 ∷ more → part text ≡ Ok (seen, after)
    → parts_in part (BadValue 0) (suc left) text ≡ Ok seen ∷ parts_in part (BadValue 0) left after
first_of [] front more part left seen after e one = absurd (omega (arith, ap length e, length-append front (44 ∷ more)))
first_of (c ∷ text) front more part left seen after e one = turns.first_part part (BadValue 0) left c text seen after one

-- The parts of such items are these items, each with some spot.
pub record Back (number width : ℕ) (items : List Item) (read : List Placed × Option LineFault) : Type 0 where
  pub same : items_in read.0 ≡ items
  pub whole : read.1 ≡ None

by_turns : (form : Form) (dict : Definitions) (number width : ℕ) (items : List Item) (turns : ℕ) → IsDictionary dict → AreItems form dict items → length (body items dict) ≤ turns
    → Back number width items (listed number width (parts_in (part_at form dict) (BadValue 0) turns (body items dict)))
by_turns form dict number width [] left plain all enough =
    let none : parts_in (part_at form dict) (BadValue 0) left [] ≡ [] = turns.no_parts (part_at form dict) (BadValue 0) left in
    rw none (record { same = refl; whole = refl })
by_turns form dict number width (item ∷ items) zero plain all enough = absurd (omega (arith, enough, length-append (item_text item dict) (44 ∷ items_text items dict)))
by_turns form dict number width (item ∷ items) (suc left) plain all enough =
    let text = body (item ∷ items) dict in
    let seen : Seen = record { item = item; left = length (value_written item.op item dict ++ 44 ∷ items_text items dict) } in
    let one : part_at form dict text ≡ Ok (seen, body items dict) =
    ap (λ (read : Result (Seen × List ℕ) Wrong). read >>= λ one. Ok (one.0, solid true one.1)) (item_read form item (items_text items dict) dict plain all.0)
    ∙ ap (λ (rest : List ℕ). Ok (seen, rest)) (solid_body form true items dict plain all.1) in
    let shorter : length (body items dict) ≤ left = omega (arith, enough, length-append (item_text item dict) (44 ∷ items_text items dict), body_length items dict) in
    let others = by_turns form dict number width items left plain all.1 shorter in
    rw (first_of text (item_text item dict) (items_text items dict) (part_at form dict) left seen (body items dict) refl one)
    (record { same = ap (λ (xs : List Item). item ∷ xs) others.same; whole = others.whole })

pub items_back : (form : Form) (parted : Bool) (number width : ℕ) (items : List Item) (dict : Definitions) → IsDictionary dict → AreItems form dict items
    → Back number width items (items_of form parted number width (items_text items dict) dict)
unfolding items_of
items_back form parted number width items dict plain all =
    rw (solid_body form parted items dict plain all) (by_turns form dict number width items (length (body items dict)) plain all (omega arith))
