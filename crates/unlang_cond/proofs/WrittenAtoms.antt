-- Atoms of a condition that are written and read again.
use Rattle.std.proofs.Common.{◌≡◌, ℕ, Bool, true, false, not, eqb, List, [], ◌∷◌, ◌++◌, length, map, Some, None, Ok, slice_index, refl, ap, ◌∙◌, append_assoc, arith}
use Rattle.std.proofs.lemmas.Grind.{common_steps}
use Rattle.std.proofs.lemmas.Slice.Eq.{bytes_eq-Decides}
use Rattle.std.proofs.Math.Seq.{take-append_seam}
use Rattle.std.specs.Char.{to_ascii_lowercase}
use Rattle.rad_words.specs.declared.codes.Code.{Code}
use Rattle.rad_words.specs.declared.codes.Code.TheVariants as code
use Rattle.rad_words.specs.Codes.{code_name, code_named}
use Rattle.rad_value.specs.declared.comparison.Cmp.{Cmp}
use Rattle.rad_value.specs.declared.comparison.Cmp.TheVariants.{Eq, Ne, Lt, Le, Gt, Ge}
use Rattle.rad_text.specs.Blanks.{after_blanks}
use Rattle.rad_conf.specs.Signs.{sign_at, longer_sign, bare_at, is_count, braces_at, operator_at, is_operator_pair, is_operator_octet}
use Rattle.rad_conf.specs.Spelling.{is_quoted}
use Rattle.rad_dict.specs.Definitions.{Definitions}
use Rattle.unlang_reference.specs.declared.reference.Reference.{Reference}
use Rattle.unlang_reference.specs.Reading.{reference_of, named_alone}
use Rattle.unlang_cond.specs.declared.atom.Side.{Side}
use Rattle.unlang_cond.specs.declared.atom.Side.TheVariants as side
use Rattle.unlang_cond.specs.declared.atom.Operand.{Operand}
use Rattle.unlang_cond.specs.declared.atom.Pattern.{Pattern}
use Rattle.unlang_cond.specs.declared.atom.Atom.{Atom}
use Rattle.unlang_cond.specs.declared.atom.Atom.TheVariants as atom
use Rattle.unlang_cond.specs.declared.operator.Relation.TheVariants.{Nothing, Compares, Looks}
use Rattle.unlang_cond.specs.Words.{ends_bare, bare_len}
use Rattle.unlang_cond.specs.Operators.{long_relation, relation_of, relation_at}
use Rattle.unlang_cond.specs.Sides.{side_at}
use Rattle.unlang_cond.specs.Atoms.{is_name, constant_of, named_lead, flag_at, pattern_at, compared, compared_at, looked_at, related, atom_at}
use Rattle.unlang_cond.specs.Outlines.{unplaced}
use Rattle.unlang_cond.specs.Written.{IsGap, nothing, space, tab, IsBare, last_joins, is_parted, constant_name, comparison_sign, look_sign, flag, IsQuotedSide, single, double, IsLeft, left_reference, left_name, left_quoted, IsOperand, against_reference, against_value, against_expansion, IsAtom, constant, returned, present, values, texts, look}
use Rattle.rad_words.proofs.CodesNamed.{codes_are_read}
use Rattle.unlang_cond.proofs.WrittenWords.{Follows, word_len, marked_len, taken, left_over, bare_apart, Front, front_of, marked_front, front_append, Ends, at_end, at_space, at_tab, at_close, at_and, at_or, ends_follow, gap_passed}
use Rattle.unlang_cond.proofs.WrittenSides.{quoted_end, behind_quote, quoted_read, begins_quoted, quoted_front, right_read, right_front}

-- A name in any case of its letters is the name.
constant_is : (word name : List ℕ) → is_name word name ≡ true → constant_of word ≡ constant_of name
unfolding constant_of
constant_is word name e = let same = (bytes_eq-Decides (map to_ascii_lowercase word) (map to_ascii_lowercase name)).0 e in rw (same, constant_of) refl

code_is : (word name : List ℕ) → is_name word name ≡ true → code_named word ≡ code_named name
code_is word name e = let same = (bytes_eq-Decides (map to_ascii_lowercase word) (map to_ascii_lowercase name)).0 e in rw (same, code_named) refl

constant_named : (one : Bool) → constant_of (constant_name one) ≡ Some one
unfolding constant_of
constant_named true = refl
constant_named false = refl

code_unlike : (one : Code) → constant_of (code_name one) ≡ None
unfolding constant_of
code_unlike code.Reject = refl
code_unlike code.Fail = refl
code_unlike code.Ok = refl
code_unlike code.Handled = refl
code_unlike code.Invalid = refl
code_unlike code.Userlock = refl
code_unlike code.Notfound = refl
code_unlike code.Noop = refl
code_unlike code.Updated = refl

-- An operator is read where it is written.
comparison_read : (cmp : Cmp) (more : List ℕ) → eqb (slice_index more 0) 61 ≡ false → relation_at (comparison_sign cmp ++ more) ≡ (Compares cmp, more)
unfolding relation_at relation_of operator_at is_operator_pair is_operator_octet long_relation
comparison_read Eq more other = refl
comparison_read Ne more other = refl
comparison_read Lt more other = grind (arith, common_steps, other)
comparison_read Le more other = refl
comparison_read Gt more other = grind (arith, common_steps, other)
comparison_read Ge more other = refl

look_read : (negative : Bool) (more : List ℕ) → relation_at (look_sign negative ++ more) ≡ (Looks negative, more)
unfolding relation_at relation_of operator_at is_operator_pair is_operator_octet long_relation
look_read false more = refl
look_read true more = refl

-- What ends an atom is no operator.
no_operator : {rest : List ℕ} → Ends rest → (relation_at (after_blanks rest)).0 ≡ Nothing
unfolding after_blanks relation_at relation_of operator_at is_operator_pair is_operator_octet long_relation
no_operator at_end = refl
no_operator (at_space rest ends) = no_operator ends
no_operator (at_tab rest ends) = no_operator ends
no_operator (at_close rest) = grind (arith, common_steps)
no_operator (at_and rest) = refl
no_operator (at_or rest) = refl

-- An operator ends a bare word before it.
record Sign (text : List ℕ) : Type 0 where
  ends : bare_len 0 text ≡ 0
  mark : eqb (slice_index text 0) 35 ≡ false
  brace : eqb (slice_index text 0) 123 ≡ false
  blank : after_blanks text ≡ text

comparison_is_sign : (cmp : Cmp) (more : List ℕ) → Sign (comparison_sign cmp ++ more)
unfolding after_blanks bare_len ends_bare sign_at longer_sign bare_at is_count braces_at operator_at is_operator_pair is_operator_octet
comparison_is_sign Eq more = record { ends = refl; mark = refl; brace = refl; blank = refl }
comparison_is_sign Ne more = record { ends = refl; mark = refl; brace = refl; blank = refl }
comparison_is_sign Lt more = record { ends = grind (arith, common_steps); mark = refl; brace = refl; blank = refl }
comparison_is_sign Le more = record { ends = refl; mark = refl; brace = refl; blank = refl }
comparison_is_sign Gt more = record { ends = grind (arith, common_steps); mark = refl; brace = refl; blank = refl }
comparison_is_sign Ge more = record { ends = refl; mark = refl; brace = refl; blank = refl }

look_is_sign : (negative : Bool) (more : List ℕ) → Sign (look_sign negative ++ more)
unfolding after_blanks bare_len ends_bare sign_at longer_sign bare_at is_count braces_at operator_at is_operator_pair is_operator_octet
look_is_sign false more = record { ends = refl; mark = refl; brace = refl; blank = refl }
look_is_sign true more = record { ends = refl; mark = refl; brace = refl; blank = refl }

not_true : (b : Bool) → not b ≡ true → b ≡ false
not_true true e = absurd cc
not_true false e = refl

parted_follows : {gap : List ℕ} → IsGap gap → (one text : List ℕ) → is_parted one gap ≡ true → Sign text → Follows one (gap ++ text)
unfolding bare_len ends_bare sign_at
parted_follows nothing one text parted sign = record { ends = sign.ends; mark = sign.mark; brace = sign.brace; apart = λ e. not_true (last_joins one) parted }
parted_follows (space gap blank) one text parted sign = record { ends = refl; mark = refl; brace = refl; apart = λ e. absurd cc }
parted_follows (tab gap blank) one text parted sign = record { ends = refl; mark = refl; brace = refl; apart = λ e. absurd cc }

marked_parted : (gap : List ℕ) (c : ℕ) (word : List ℕ) → is_parted (38 ∷ c ∷ word) gap ≡ true → is_parted (c ∷ word) gap ≡ true
marked_parted [] c word e = e
marked_parted (d ∷ gap) c word e = refl

-- Neither blanks nor what begins with none begin with `=`.
gap_equals : {gap : List ℕ} → IsGap gap → (text : List ℕ) → eqb (slice_index text 0) 61 ≡ false → eqb (slice_index (gap ++ text) 0) 61 ≡ false
gap_equals nothing text e = e
gap_equals (space gap blank) text e = refl
gap_equals (tab gap blank) text e = refl

regrouped : (one gap sign behind text rest : List ℕ) → (one ++ (gap ++ (sign ++ (behind ++ text)))) ++ rest ≡ one ++ (gap ++ (sign ++ (behind ++ (text ++ rest))))
regrouped one gap sign behind text rest =
    append_assoc one (gap ++ (sign ++ (behind ++ text))) rest
    ∙ ap (λ (xs : List ℕ). one ++ xs) (append_assoc gap (sign ++ (behind ++ text)) rest
    ∙ ap (λ (xs : List ℕ). gap ++ xs) (append_assoc sign (behind ++ text) rest ∙ ap (λ (xs : List ℕ). sign ++ xs) (append_assoc behind text rest)))

-- An atom that is read, but for where its pattern stands.
pub record AtomRead (dict : Definitions) (a : Atom) (text rest : List ℕ) : Type 0 where
  pub one : Atom
  pub reads : atom_at (text ++ rest) dict ≡ Ok (one, rest)
  pub same : unplaced one ≡ a

module _ (dict : Definitions) where
  named_read : {c : ℕ} {word : List ℕ} → IsBare (c ∷ word) → (rest : List ℕ) → Follows (c ∷ word) rest → (one : Bool) → constant_of (c ∷ word) ≡ Some one → atom_at (c ∷ (word ++ rest)) dict ≡ Ok (atom.Constant one, rest)
  unfolding atom_at named_lead
  named_read {c} {word} is rest follows one e =
      let len = word_len is rest follows in
      let apart = bare_apart is in
      rw (apart.double, apart.single, taken (c ∷ word) rest len, left_over (c ∷ word) rest len, apart.marked, e, named_lead, atom_at) refl

  code_read : {c : ℕ} {word : List ℕ} → IsBare (c ∷ word) → (rest : List ℕ) → Follows (c ∷ word) rest → (one : Code) → constant_of (c ∷ word) ≡ None → code_named (c ∷ word) ≡ Some one
      → atom_at (c ∷ (word ++ rest)) dict ≡ Ok (atom.Returned one, rest)
  unfolding atom_at named_lead
  code_read {c} {word} is rest follows one none e =
      let len = word_len is rest follows in
      let apart = bare_apart is in
      rw (apart.double, apart.single, taken (c ∷ word) rest len, left_over (c ∷ word) rest len, apart.marked, none, e, named_lead, atom_at) refl

  name_read : {c : ℕ} {word : List ℕ} → IsBare (c ∷ word) → (rest : List ℕ) → Follows (c ∷ word) rest → (reference : Reference) → constant_of (c ∷ word) ≡ None → code_named (c ∷ word) ≡ None
      → named_alone (c ∷ word) dict ≡ Some reference → atom_at (c ∷ (word ++ rest)) dict ≡ related (side.Reference reference) rest dict
  unfolding atom_at named_lead
  name_read {c} {word} is rest follows reference none neither e =
      let len = word_len is rest follows in
      let apart = bare_apart is in
      rw (apart.double, apart.single, taken (c ∷ word) rest len, left_over (c ∷ word) rest len, apart.marked, none, neither, e, named_lead, atom_at) refl

  marked_read : {c : ℕ} {word : List ℕ} → IsBare (c ∷ word) → (rest : List ℕ) → Follows (c ∷ word) rest → (reference : Reference) → reference_of (c ∷ word) dict ≡ Ok reference
      → atom_at (38 ∷ c ∷ (word ++ rest)) dict ≡ related (side.Reference reference) rest dict
  unfolding atom_at
  marked_read {c} {word} is rest follows reference e =
      let len = marked_len is rest follows in
      rw (taken (38 ∷ c ∷ word) rest len, left_over (38 ∷ c ∷ word) rest len, e, atom_at) refl

  quoted_left : {one : Side} {text : List ℕ} → IsQuotedSide dict one text → (rest : List ℕ) → atom_at (text ++ rest) dict ≡ related one rest dict
  unfolding atom_at
  quoted_left {one} {text} is rest = rw (begins_quoted dict is rest, quoted_read dict is rest, atom_at) refl

  pub left_front : {one : Side} {text : List ℕ} → IsLeft dict one text → Front text
  left_front (left_reference reference c word is reads) = marked_front (c ∷ word)
  left_front (left_name reference c word is none neither reads) = front_of c word (bare_apart is)
  left_front (left_quoted one text is) = quoted_front dict is

  present_read : (one : Side) {rest : List ℕ} → Ends rest → related one rest dict ≡ Ok (atom.Present one, rest)
  unfolding related
  present_read one {rest} ends = rw (no_operator ends, related) refl

  compared_read : (left right : Side) (cmp : Cmp) (a : Atom) (text rest : List ℕ) → side_at (text ++ rest) dict ≡ Ok (right, rest) → ((n : ℕ) → compared left cmp right n dict ≡ Ok a) → compared_at left cmp (text ++ rest) dict ≡ Ok (a, rest)
  unfolding compared_at
  compared_read left right cmp a text rest e f = rw (e, f (length (text ++ rest)), compared_at) refl

  compared_behind : (left right : Side) (cmp : Cmp) (a : Atom) {gap behind text : List ℕ} (rest : List ℕ) → IsGap gap → IsGap behind → Front text → side_at (text ++ rest) dict ≡ Ok (right, rest)
      → ((n : ℕ) → compared left cmp right n dict ≡ Ok a) → related left (gap ++ (comparison_sign cmp ++ (behind ++ (text ++ rest)))) dict ≡ Ok (a, rest)
  unfolding related
  compared_behind left right cmp a {gap} {behind} {text} rest blank more front e f =
      let sign = comparison_is_sign cmp (behind ++ (text ++ rest)) in
      let equals = gap_equals more (text ++ rest) (front.equals rest) in
      rw (gap_passed blank (comparison_sign cmp ++ (behind ++ (text ++ rest))) sign.blank, comparison_read cmp (behind ++ (text ++ rest)) equals, gap_passed more (text ++ rest) (front.blank rest), related)
      (compared_read left right cmp a text rest e f)

  no_flag : {rest : List ℕ} → Ends rest → flag_at rest ≡ (false, rest)
  no_flag at_end = refl
  no_flag (at_space rest ends) = refl
  no_flag (at_tab rest ends) = refl
  no_flag (at_close rest) = refl
  no_flag (at_and rest) = refl
  no_flag (at_or rest) = refl

  flag_read : (insensitive : Bool) {rest : List ℕ} → Ends rest → flag_at (flag insensitive ++ rest) ≡ (insensitive, rest)
  flag_read true ends = refl
  flag_read false ends = no_flag ends

  -- A pattern where it stands.
  abbrev placed : List ℕ → Bool → ℕ → Pattern
  placed source insensitive left = record { source = source; insensitive = insensitive; left = left }

  pattern_read : (source : List ℕ) (insensitive : Bool) {rest : List ℕ} → is_quoted 47 false source ≡ true → Ends rest
      → pattern_at (47 ∷ (source ++ 47 ∷ (flag insensitive ++ rest))) ≡ Ok (placed source insensitive (length (47 ∷ (source ++ 47 ∷ (flag insensitive ++ rest)))), rest)
  unfolding pattern_at
  pattern_read source insensitive {rest} closed ends =
      let after = flag insensitive ++ rest in
      rw (quoted_end 47 source after refl closed, take-append_seam source (47 ∷ after), behind_quote source after 47, flag_read insensitive ends, pattern_at) refl

  looked_read : (left : Side) (negative : Bool) (source : List ℕ) (insensitive : Bool) {rest : List ℕ} → is_quoted 47 false source ≡ true → Ends rest
      → looked_at left negative (47 ∷ (source ++ 47 ∷ (flag insensitive ++ rest)))
      ≡ Ok (atom.Look left negative (placed source insensitive (length (47 ∷ (source ++ 47 ∷ (flag insensitive ++ rest))))), rest)
  unfolding looked_at
  looked_read left negative source insensitive {rest} closed ends = rw (pattern_read source insensitive closed ends, looked_at) refl

  slash_stays : (text : List ℕ) → after_blanks (47 ∷ text) ≡ 47 ∷ text
  unfolding after_blanks
  slash_stays text = refl

  looked_behind : (left : Side) (negative : Bool) (source : List ℕ) (insensitive : Bool) {gap behind rest : List ℕ} → IsGap gap → IsGap behind → is_quoted 47 false source ≡ true → Ends rest
      → related left (gap ++ (look_sign negative ++ (behind ++ (47 ∷ (source ++ 47 ∷ (flag insensitive ++ rest)))))) dict
      ≡ Ok (atom.Look left negative (placed source insensitive (length (47 ∷ (source ++ 47 ∷ (flag insensitive ++ rest))))), rest)
  unfolding related
  looked_behind left negative source insensitive {gap} {behind} {rest} blank more closed ends =
      let text = 47 ∷ (source ++ 47 ∷ (flag insensitive ++ rest)) in
      let sign = look_is_sign negative (behind ++ text) in
      rw (gap_passed blank (look_sign negative ++ (behind ++ text)) sign.blank, look_read negative (behind ++ text), gap_passed more text (slash_stays (source ++ 47 ∷ (flag insensitive ++ rest))), related)
      (looked_read left negative source insensitive closed ends)

  -- What a comparison of two sides is.
  values_are : (reference : Reference) (cmp : Cmp) {right : Side} {o : Operand} → IsOperand dict reference right o → (n : ℕ) → compared (side.Reference reference) cmp right n dict ≡ Ok (atom.Values reference cmp o)
  values_are reference cmp (against_reference one) n = refl
  values_are reference cmp (against_value text one reads) n = rw reads refl
  values_are reference cmp (against_expansion x) n = refl

  texts_are : {left : Side} {text : List ℕ} → IsQuotedSide dict left text → (cmp : Cmp) (right : Side) (n : ℕ) → compared left cmp right n dict ≡ Ok (atom.Texts left cmp right)
  texts_are (single raw text closed is) cmp right n = refl
  texts_are (double raw text x closed is reads) cmp right n = refl

  -- A left side is read, and then what is behind it.
  left_ends : {one : Side} {text : List ℕ} → IsLeft dict one text → {rest : List ℕ} → Ends rest → atom_at (text ++ rest) dict ≡ related one rest dict
  left_ends (left_reference reference c word is reads) {rest} ends = marked_read is rest (ends_follow ends (c ∷ word)) reference reads
  left_ends (left_name reference c word is none neither reads) {rest} ends = name_read is rest (ends_follow ends (c ∷ word)) reference none neither reads
  left_ends (left_quoted one text is) {rest} ends = quoted_left is rest

  left_parted : {one : Side} {text : List ℕ} → IsLeft dict one text → {gap : List ℕ} → IsGap gap → is_parted text gap ≡ true → (rest : List ℕ) → Sign rest → atom_at (text ++ (gap ++ rest)) dict ≡ related one (gap ++ rest) dict
  left_parted (left_reference reference c word is reads) {gap} blank parted rest sign = marked_read is (gap ++ rest) (parted_follows blank (c ∷ word) rest (marked_parted gap c word parted) sign) reference reads
  left_parted (left_name reference c word is none neither reads) {gap} blank parted rest sign = name_read is (gap ++ rest) (parted_follows blank (c ∷ word) rest parted sign) reference none neither reads
  left_parted (left_quoted one text is) {gap} blank parted rest sign = quoted_left is (gap ++ rest)

  look_text : (one gap sign behind source tail rest : List ℕ) → (one ++ (gap ++ (sign ++ (behind ++ (47 ∷ (source ++ 47 ∷ tail)))))) ++ rest ≡ one ++ (gap ++ (sign ++ (behind ++ (47 ∷ (source ++ 47 ∷ (tail ++ rest))))))
  look_text one gap sign behind source tail rest =
      regrouped one gap sign behind (47 ∷ (source ++ 47 ∷ tail)) rest
      ∙ ap (λ (xs : List ℕ). one ++ (gap ++ (sign ++ (behind ++ (47 ∷ xs))))) (append_assoc source (47 ∷ tail) rest)

  -- An atom is read where it is written, whatever ends it.
  pub atom_read : {a : Atom} {text : List ℕ} → IsAtom dict a text → {rest : List ℕ} → Ends rest → AtomRead dict a text rest
  atom_read (constant one c word is e) {rest} ends =
      record { one = atom.Constant one; reads = named_read is rest (ends_follow ends (c ∷ word)) one (constant_is (c ∷ word) (constant_name one) e ∙ constant_named one); same = refl }
  atom_read (returned one c word is e) {rest} ends =
      record {
        one = atom.Returned one;
        reads = code_read is rest (ends_follow ends (c ∷ word)) one (constant_is (c ∷ word) (code_name one) e ∙ code_unlike one) (code_is (c ∷ word) (code_name one) e ∙ codes_are_read one);
        same = refl;
      }
  atom_read (present one text is) {rest} ends = record { one = atom.Present one; reads = left_ends is ends ∙ present_read one ends; same = refl }
  atom_read (values reference cmp right o one gap behind other is blank parted more also operand) {rest} ends =
      let after = behind ++ (other ++ rest) in
      record {
        one = atom.Values reference cmp o;
        reads = ap (λ (all : List ℕ). atom_at all dict) (regrouped one gap (comparison_sign cmp) behind other rest)
            ∙ left_parted is blank parted (comparison_sign cmp ++ after) (comparison_is_sign cmp after)
            ∙ compared_behind (side.Reference reference) right cmp (atom.Values reference cmp o) rest blank more (right_front dict also) (right_read dict also rest (λ word. ends_follow ends word)) (λ n. values_are reference cmp operand n);
        same = refl;
      }
  atom_read (texts left cmp right one gap behind other is blank more also) {rest} ends =
      record {
        one = atom.Texts left cmp right;
        reads = ap (λ (all : List ℕ). atom_at all dict) (regrouped one gap (comparison_sign cmp) behind other rest)
            ∙ quoted_left is (gap ++ (comparison_sign cmp ++ (behind ++ (other ++ rest))))
            ∙ compared_behind left right cmp (atom.Texts left cmp right) rest blank more (right_front dict also) (right_read dict also rest (λ word. ends_follow ends word)) (λ n. texts_are is cmp right n);
        same = refl;
      }
  atom_read (look left negative insensitive one gap behind source is blank parted more closed) {rest} ends =
      let text = 47 ∷ (source ++ 47 ∷ (flag insensitive ++ rest)) in
      record {
        one = atom.Look left negative (placed source insensitive (length text));
        reads = ap (λ (all : List ℕ). atom_at all dict) (look_text one gap (look_sign negative) behind source (flag insensitive) rest)
            ∙ left_parted is blank parted (look_sign negative ++ (behind ++ text)) (look_is_sign negative (behind ++ text))
            ∙ looked_behind left negative source insensitive blank more closed ends;
        same = refl;
      }

  pub atom_front : {a : Atom} {text : List ℕ} → IsAtom dict a text → Front text
  atom_front (constant one c word is e) = front_of c word (bare_apart is)
  atom_front (returned one c word is e) = front_of c word (bare_apart is)
  atom_front (present one text is) = left_front is
  atom_front (values reference cmp right o one gap behind other is blank parted more also operand) = front_append (left_front is) (gap ++ (comparison_sign cmp ++ (behind ++ other)))
  atom_front (texts left cmp right one gap behind other is blank more also) = front_append (quoted_front dict is) (gap ++ (comparison_sign cmp ++ (behind ++ other)))
  atom_front (look left negative insensitive one gap behind source is blank parted more closed) =
      front_append (left_front is) (gap ++ (look_sign negative ++ (behind ++ (47 ∷ (source ++ 47 ∷ flag insensitive)))))
