-- Entries that are written are read back.
use Rattle.std.proofs.Common.{◌≡◌, ℕ, ◌+◌, true, false, eqb, List, [], ◌∷◌, ◌++◌, length, map, Option, Some, None, refl, sym, ap, append_assoc, ◌∙◌, arith}
use Rattle.std.specs.List.{list_all}
use Rattle.std.proofs.lemmas.Bool.{true≢false, ne_eqb, and_parts, or_from}
use Rattle.std.proofs.lemmas.List.{append-nil, map-append}
use Rattle.rad_dict.specs.Definitions.{Definitions}
use Rattle.rad_dict.specs.NameForms.{is_name_octet}
use Rattle.rad_dict.specs.EveryDictionary.{IsDictionary}
use Rattle.rad_dict.proofs.NameWords.{none_in_name}
use Rattle.rad_text.specs.Blanks.{is_blank, after_blanks}
use Rattle.rad_text.specs.Lines.{lines_of}
use Rattle.rad_text.proofs.LineEnds.{written_newline, line_plain, has_line_end, none_joined}
use Rattle.rad_pairs.specs.declared.items.Item.{Item}
use Rattle.rad_pairs.specs.declared.items.PairOp.{PairOp}
use Rattle.rad_pairs.specs.declared.items.PairOp.TheVariants as op
use Rattle.rad_pairs.specs.ValueText.{quoted, attr_text, value_text}
use Rattle.rad_pairs.specs.ReadingBack.{AreOctets}
use Rattle.rad_pairs.proofs.Names.{IsName}
use Rattle.rad_pairs.proofs.Quoted.{quoted_read}
use Rattle.mod_users.specs.declared.form.Form.{Form}
use Rattle.mod_users.specs.declared.form.Form.TheVariants.{Check}
use Rattle.mod_users.specs.declared.placed.Placed.{Placed}
use Rattle.mod_users.specs.declared.draft.Draft.{Draft}
use Rattle.mod_users.specs.declared.entry.Entry.{Entry}
use Rattle.mod_users.specs.declared.fault.LineFault.{LineFault}
use Rattle.mod_users.specs.Lines.{is_passed, is_indented, is_quoted, head_of}
use Rattle.mod_users.specs.ItemParts.{solid}
use Rattle.mod_users.specs.Items.{items_of}
use Rattle.mod_users.specs.Reading.{with_replies, replied, after_line, after_lines, drafts_of}
use Rattle.mod_users.specs.Rows.{items_in, entry_of}
use Rattle.mod_users.specs.Written.{op_text, value_written, item_text, items_text, head_text, replies_text, entries_text, numbered, IsOfKind, IsPattern, FitsBehind, IsWritableItem, IsWritable, AreWritable, AreBack}
use Rattle.mod_users.proofs.NoLineEnds.{none_quoted, none_in_value}
use Rattle.mod_users.proofs.ReadingLemmas.{replied-push, goes_on, no_lines}
use Rattle.mod_users.proofs.WrittenItems.{AreItems, name_of, items_back}

-- ---- no line ends

no_end_op : (o : PairOp) → has_line_end (op_text o) ≡ false
no_end_op op.Eq = refl
no_end_op op.Set = refl
no_end_op op.Append = refl
no_end_op op.Equal = refl
no_end_op op.Differs = refl
no_end_op op.Lt = refl
no_end_op op.Le = refl
no_end_op op.Gt = refl
no_end_op op.Ge = refl
no_end_op op.Match = refl
no_end_op op.NoMatch = refl
no_end_op op.Any = refl
no_end_op op.None = refl

no_end_value : (item : Item) (dict : Definitions) → IsDictionary dict → IsOfKind item dict → has_line_end (value_text item.attr item.value dict) ≡ false
no_end_value item dict plain fits = none_in_value item.attr item.value dict plain fits.range

no_end_pattern : (item : Item) (dict : Definitions) → IsPattern item dict → has_line_end (value_text item.attr item.value dict) ≡ false
no_end_pattern item dict fits = rw fits.text (none_quoted fits.source)

no_end_behind : (o : PairOp) (item : Item) (dict : Definitions) → IsDictionary dict → FitsBehind o item dict → has_line_end (value_written o item dict) ≡ false
no_end_behind op.Eq item dict plain fits = no_end_value item dict plain fits
no_end_behind op.Set item dict plain fits = no_end_value item dict plain fits
no_end_behind op.Append item dict plain fits = no_end_value item dict plain fits
no_end_behind op.Equal item dict plain fits = no_end_value item dict plain fits
no_end_behind op.Differs item dict plain fits = no_end_value item dict plain fits
no_end_behind op.Lt item dict plain fits = no_end_value item dict plain fits
no_end_behind op.Le item dict plain fits = no_end_value item dict plain fits
no_end_behind op.Gt item dict plain fits = no_end_value item dict plain fits
no_end_behind op.Ge item dict plain fits = no_end_value item dict plain fits
no_end_behind op.Match item dict plain fits = no_end_pattern item dict fits
no_end_behind op.NoMatch item dict plain fits = no_end_pattern item dict fits
no_end_behind op.Any item dict plain fits = refl
no_end_behind op.None item dict plain fits = refl

no_end_item : (form : Form) (item : Item) (dict : Definitions) → IsDictionary dict → IsWritableItem form dict item → has_line_end (item_text item dict) ≡ false
no_end_item form item dict plain is =
    none_joined (attr_text item.attr dict) (32 ∷ (op_text item.op ++ 32 ∷ value_written item.op item dict)) (none_in_name (attr_text item.attr dict) (name_of form dict item plain is).1)
    (none_joined (op_text item.op) (32 ∷ value_written item.op item dict) (no_end_op item.op) (no_end_behind item.op item dict plain is.value))

no_end_items : (form : Form) (items : List Item) (dict : Definitions) → IsDictionary dict → AreItems form dict items → has_line_end (items_text items dict) ≡ false
no_end_items form [] dict plain all = refl
no_end_items form (item ∷ items) dict plain all =
    none_joined (item_text item dict) (44 ∷ items_text items dict) (no_end_item form item dict plain all.0) (no_end_items form items dict plain all.1)

-- ---- the first line of an entry

quoted_parts : (name more : List ℕ) → (is_passed (quoted name ++ more) ≡ false) × (is_indented (quoted name ++ more) ≡ false) × (is_quoted (quoted name ++ more) ≡ true)
unfolding quoted
quoted_parts name more = (refl, refl, refl)

head_read : (name more : List ℕ) → AreOctets name → head_of (quoted name ++ more) ≡ Some (name, false, more)
unfolding head_of
head_read name more all = rw ((quoted_parts name more).2, quoted_read name more all) refl

abbrev checks_read : ℕ → Entry → Definitions → List Placed × Option LineFault
checks_read number entry dict = items_of Check false number (length (head_text entry dict)) (items_text entry.checks dict) dict

abbrev begun_by : ℕ → Entry → Definitions → Draft
begun_by number entry dict = record { name = entry.name; checks = (checks_read number entry dict).0; replies = []; line = number }

head_taken : (form : Form) (number : ℕ) (drafts : List Draft) (entry : Entry) (dict : Definitions) → IsDictionary dict → IsWritable form dict entry
    → after_line form number drafts (head_text entry dict) dict ≡ (drafts ++ begun_by number entry dict ∷ [], (checks_read number entry dict).1)
unfolding after_line
head_taken form number drafts entry dict plain is =
    let parts = quoted_parts entry.name (items_text entry.checks dict) in
    rw (parts.0, parts.1, head_read entry.name (items_text entry.checks dict) is.name) refl

-- ---- the second

tab_passed : (text : List ℕ) → is_passed (9 ∷ 32 ∷ text) ≡ is_passed text
tab_passed text = refl

passed_by_first : (c : ℕ) (rest : List ℕ) → is_blank c ≡ false → is_passed (c ∷ rest) ≡ eqb c 35
passed_by_first c rest e = rw (e, is_passed) refl

not_passed : (name more : List ℕ) → IsName name → is_passed (name ++ more) ≡ false
not_passed [] more is = absurd (omega (arith, is.0))
not_passed (c ∷ name) more is =
    let first = (and_parts (is_name_octet c) (list_all is_name_octet name) is.1).0 in
    let is_not : (sign : ℕ) → is_name_octet sign ≡ false → eqb c sign ≡ false = λ sign other. ne_eqb c sign (λ e. true≢false (sym first ∙ ap is_name_octet e ∙ other)) in
    passed_by_first c (name ++ more) (or_from (eqb c 32) (eqb c 9) (is_not 32 refl) (is_not 9 refl)) ∙ is_not 35 refl

tab_read : (form : Form) (number width : ℕ) (text : List ℕ) (dict : Definitions) → items_of form true number width (9 ∷ text) dict ≡ items_of form true number width text dict
unfolding items_of solid after_blanks
tab_read form number width text dict = refl

items_passed : (form : Form) (item : Item) (items : List Item) (dict : Definitions) → IsDictionary dict → IsWritableItem form dict item → is_passed (9 ∷ items_text (item ∷ items) dict) ≡ false
items_passed form item items dict plain is =
    let behind = 32 ∷ (op_text item.op ++ 32 ∷ value_written item.op item dict) in
    tab_passed (item_text item dict ++ 44 ∷ items_text items dict)
    ∙ ap is_passed (append_assoc (attr_text item.attr dict) behind (44 ∷ items_text items dict))
    ∙ not_passed (attr_text item.attr dict) (behind ++ 44 ∷ items_text items dict) (name_of form dict item plain is)

-- What the second line adds to the entry.
pub record Added (form : Form) (number : ℕ) (drafts : List Draft) (draft : Draft) (items : List Item) (dict : Definitions) : Type 0 where
  pub final : Draft
  pub same : entry_of final ≡ record (entry_of draft) { replies = items }
  pub read : (drafts ++ final ∷ [], None) ≡ after_line form number (drafts ++ draft ∷ []) (9 ∷ items_text items dict) dict

some_added : (form : Form) (number : ℕ) (drafts : List Draft) (draft : Draft) (item : Item) (items : List Item) (dict : Definitions) → is_passed (9 ∷ items_text (item ∷ items) dict) ≡ false
    → after_line form number (drafts ++ draft ∷ []) (9 ∷ items_text (item ∷ items) dict) dict
    ≡ replied number (items_of form true number (length (9 ∷ items_text (item ∷ items) dict)) (9 ∷ items_text (item ∷ items) dict) dict) (drafts ++ draft ∷ [])
unfolding after_line
some_added form number drafts draft item items dict e = rw e refl

none_added : (form : Form) (number : ℕ) (drafts : List Draft) (dict : Definitions) → (drafts, None) ≡ after_line form number drafts (9 ∷ []) dict
unfolding after_line
none_added form number drafts dict = refl

added : (form : Form) (number : ℕ) (drafts : List Draft) (draft : Draft) (items : List Item) (dict : Definitions) → draft.replies ≡ [] → IsDictionary dict → AreItems form dict items → Added form number drafts draft items dict
added form number drafts draft [] dict none plain all = record {
  final = draft;
  same = ap (λ (placed : List Placed). record (entry_of draft) { replies = items_in placed }) none;
  read = none_added form number (drafts ++ draft ∷ []) dict;
}
added form number drafts draft (item ∷ items) dict none plain all =
    let width = length (9 ∷ items_text (item ∷ items) dict) in
    let line = 9 ∷ items_text (item ∷ items) dict in
    let said = items_of form true number width line dict in
    let plainly = items_of form true number width (items_text (item ∷ items) dict) dict in
    let tab : said ≡ plainly = tab_read form number width (items_text (item ∷ items) dict) dict in
    let back = items_back form true number width (item ∷ items) dict plain all in
    let whole : said.1 ≡ None = ap (λ (read : List Placed × Option LineFault). read.1) tab ∙ back.whole in
    let items_are : items_in said.0 ≡ item ∷ items = ap (λ (read : List Placed × Option LineFault). items_in read.0) tab ∙ back.same in
    record {
      final = with_replies said.0 draft;
      same = ap (λ (placed : List Placed). record (entry_of draft) { replies = items_in (placed ++ said.0) }) none ∙ ap (λ (xs : List Item). record (entry_of draft) { replies = xs }) items_are;
      read = sym (some_added form number drafts draft item items dict (items_passed form item items dict plain all.0) ∙ replied-push number said drafts draft
          ∙ ap (λ (wrong : Option LineFault). (drafts ++ with_replies said.0 draft ∷ [], wrong)) whole);
    }

-- ---- an entry, and all of them

pub record Taken (form : Form) (number : ℕ) (drafts : List Draft) (entry : Entry) (more : List ℕ) (dict : Definitions) : Type 0 where
  pub final : Draft
  pub same : entry_of final ≡ record entry { line = number }
  pub read : after_lines form number drafts (lines_of (head_text entry dict ++ 10 ∷ (replies_text entry dict ++ 10 ∷ more))) dict ≡ after_lines form (number + 1 + 1) (drafts ++ final ∷ []) (lines_of more) dict

taken : (form : Form) (number : ℕ) (drafts : List Draft) (entry : Entry) (more : List ℕ) (dict : Definitions) → IsDictionary dict → IsWritable form dict entry → Taken form number drafts entry more dict
taken form number drafts entry more dict plain is =
    let head = head_text entry dict in
    let line = replies_text entry dict in
    let first = begun_by number entry dict in
    let back = items_back Check false number (length head) entry.checks dict plain is.checks in
    let second = added form (number + 1) drafts first entry.replies dict refl plain is.replies in
    let plain_head = line_plain head (none_joined (quoted entry.name) (items_text entry.checks dict) (none_quoted entry.name) (no_end_items Check entry.checks dict plain is.checks)) in
    let plain_line = line_plain line (no_end_items form entry.replies dict plain is.replies) in
    let lines : lines_of (head ++ 10 ∷ (line ++ 10 ∷ more)) ≡ head ∷ line ∷ lines_of more =
    written_newline head (line ++ 10 ∷ more) plain_head ∙ ap (λ (xs : List (List ℕ)). head ∷ xs) (written_newline line more plain_line) in
    let one : (drafts ++ first ∷ [], None) ≡ after_line form number drafts head dict =
    sym (head_taken form number drafts entry dict plain is ∙ ap (λ (wrong : Option LineFault). (drafts ++ first ∷ [], wrong)) back.whole) in
    record {
      final = second.final;
      same = second.same ∙ ap (λ (xs : List Item). record entry { checks = xs; line = number }) back.same;
      read = ap (λ (xs : List (List ℕ)). after_lines form number drafts xs dict) lines
          ∙ sym (goes_on form number drafts (drafts ++ first ∷ []) None head (line ∷ lines_of more) dict refl one)
          ∙ sym (goes_on form (number + 1) (drafts ++ first ∷ []) (drafts ++ second.final ∷ []) None line (lines_of more) dict refl second.read);
    }

all_taken : (form : Form) (number : ℕ) (drafts : List Draft) (entries : List Entry) (dict : Definitions) → IsDictionary dict → AreWritable form dict entries
    → AreBack (map entry_of drafts ++ numbered number entries) (after_lines form number drafts (lines_of (entries_text entries dict)) dict)
all_taken form number drafts [] dict plain all = rw (no_lines form number drafts dict) (record { same = sym (append-nil (map entry_of drafts)); whole = refl })
all_taken form number drafts (entry ∷ entries) dict plain all =
    let one = taken form number drafts entry (entries_text entries dict) dict plain all.0 in
    let others = all_taken form (number + 1 + 1) (drafts ++ one.final ∷ []) entries dict plain all.1 in
    let front : map entry_of (drafts ++ one.final ∷ []) ++ numbered (number + 1 + 1) entries ≡ map entry_of drafts ++ numbered number (entry ∷ entries) =
    ap (λ (xs : List Entry). xs ++ numbered (number + 1 + 1) entries) (map-append entry_of drafts (one.final ∷ []) ∙ ap (λ (e : Entry). map entry_of drafts ++ e ∷ []) one.same)
    ∙ append_assoc (map entry_of drafts) (record entry { line = number } ∷ []) (numbered (number + 1 + 1) entries) in
    rw one.read (record { same = others.same ∙ front; whole = others.whole })

pub entries_back : (form : Form) (entries : List Entry) (dict : Definitions) → IsDictionary dict → AreWritable form dict entries → AreBack (numbered 1 entries) (drafts_of form (entries_text entries dict) dict)
unfolding drafts_of
entries_back form entries dict plain all = all_taken form 1 [] entries dict plain all
