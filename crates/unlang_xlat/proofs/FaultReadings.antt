-- What is wrong with an expansion's text is told from the percent sign of its part on.
use Rattle.std.proofs.Common.{◌≡◌, ℕ, zero, suc, ◌<◌, ◌≤◌, ◌⊎◌, inl, inr, Bool, true, eqb, List, [], ◌∷◌, length, take, drop, Option, Some, None, Result, Ok, Err, refl, sym, ap, subst, ◌∙◌, length-drop, arith}
use Rattle.std.proofs.lemmas.Bool.{cases_Bool, eqb-true}
use Rattle.std.specs.Option.{is_some, option_map}
use Rattle.rad_dict.specs.Definitions.{Definitions}
use Rattle.rad_text.specs.Read.{Read, ◌>>=◌, found}
use Rattle.unlang_reference.specs.declared.reference.Reference.{Reference}
use Rattle.unlang_reference.specs.Reading.{reference_of}
use Rattle.unlang_reference.specs.declared.reading.NoReference.{NoReference}
use Rattle.unlang_reference.specs.declared.reading.NoReference.TheVariants as no_reference
use Rattle.unlang_xlat.specs.declared.fault.Wrong.{Wrong}
use Rattle.unlang_xlat.specs.declared.fault.Wrong.TheVariants.{BadExpansion, UnknownFunction}
use Rattle.unlang_xlat.specs.declared.part.DatePart.{DatePart}
use Rattle.unlang_xlat.specs.declared.part.Part.{Part}
use Rattle.unlang_xlat.specs.declared.part.Part.TheVariants as part
use Rattle.unlang_xlat.specs.Spans.{len_before, plain_len, behind, behind_sign}
use Rattle.unlang_xlat.specs.Words.{date_part, function_named, is_list, fixed_part, reference_error, referenced, word_part}
use Rattle.unlang_xlat.specs.Reading.{Reader, begins_part, part_at, piece_at, closes, ended, parts_in, second_at, alternative_at, call_at, listed_at, behind_name, named_at, body_at, braced}
use Rattle.unlang_xlat.proofs.FaultPlaces.{left_of, At, Ends, ends_same, ends_cons, ends_trans, ends_drop, ends_length, at_behind, at_front, cond_split, ok_same, err_same, ok_err, err_ok, bind_ok, bind_err, found_ok, found_err, map_some, behind_ends, sign_ends}

-- A reader of parts: it leaves the text's end, takes an octet at least, and what is wrong with a text that a percent sign
-- begins is told from a percent sign of it on.
record Tells (reader : Reader) : Type 0 where
  ends : (text : List ℕ) (one : Part) (rest : List ℕ) → reader text ≡ Ok (one, rest) → Ends text rest
  shorter : (c : ℕ) (text : List ℕ) (one : Part) (rest : List ℕ) → reader (c ∷ text) ≡ Ok (one, rest) → length rest < length (c ∷ text)
  wrong : (more : List ℕ) (fault : Wrong) → reader (37 ∷ more) ≡ Err fault → At (37 ∷ more) (left_of fault)

-- A part or parts, and what is left behind them.
abbrev read_as : Part → List ℕ → Read Part Wrong
read_as one rest = Ok (one, rest)

abbrev all_read : List Part → List ℕ → Read (List Part) Wrong
all_read parts rest = Ok (parts, rest)

same_rest : (one two : Part) (rest after : List ℕ) → read_as one rest ≡ read_as two after → rest ≡ after
same_rest one two rest after e =
    let left : Part × List ℕ = (one, rest) in
    let right : Part × List ℕ = (two, after) in
    ap (λ (x : Part × List ℕ). x.1) (ok_same left right e)

parts_rest : (front after : List Part) (rest more : List ℕ) → all_read front rest ≡ all_read after more → rest ≡ more
parts_rest front after rest more e =
    let left : List Part × List ℕ = (front, rest) in
    let right : List Part × List ℕ = (after, more) in
    ap (λ (x : List Part × List ℕ). x.1) (ok_same left right e)

bind_part : {A : Type 0} (read : Result A Wrong) (f : A → Read Part Wrong) (one : Part) (rest : List ℕ) → (read >>= f) ≡ read_as one rest → (x : A) × ((read ≡ Ok x) × (f x ≡ read_as one rest))
bind_part read f one rest e = let pair : Part × List ℕ = (one, rest) in bind_ok read f pair e

bind_parts : {A : Type 0} (read : Result A Wrong) (f : A → Read (List Part) Wrong) (parts : List Part) (rest : List ℕ) → (read >>= f) ≡ all_read parts rest → (x : A) × ((read ≡ Ok x) × (f x ≡ all_read parts rest))
bind_parts read f parts rest e = let pair : List Part × List ℕ = (parts, rest) in bind_ok read f pair e

abbrev dated : List ℕ → DatePart → Part × List ℕ
dated rest date = (part.Date date, rest)

date_rest : (letter : ℕ) (fault : Wrong) (one : Part) (rest after : List ℕ) → found fault (option_map (dated rest) (date_part letter)) ≡ read_as one after → rest ≡ after
date_rest letter fault one rest after e =
    let pair : Part × List ℕ = (one, after) in
    let some = map_some (dated rest) (date_part letter) pair (found_ok fault (option_map (dated rest) (date_part letter)) pair e) in
    ap (λ (x : Part × List ℕ). x.1) some.1

-- The rest behind a part whose text has two octets at least.
part_rest : (reader : Reader) (c d : ℕ) (text : List ℕ) (one : Part) (rest : List ℕ) → part_at reader (c ∷ d ∷ text) ≡ Ok (one, rest) → (text ≡ rest) ⊎ (reader (c ∷ d ∷ text) ≡ Ok (one, rest))
unfolding part_at
part_rest reader c d text one rest e =
    elim (cond_split (eqb d 37) _ _ _ e) [
      | inl percent ↦ inl (same_rest part.Percent one text rest percent)
      | inr other ↦
          elim (cond_split (eqb d 123) _ _ _ other) [
            | inl brace ↦ inr brace
            | inr letter ↦ inl (date_rest d _ one text rest letter)
          ]
    ]

part_short : (reader : Reader) (c : ℕ) (one : Part) (rest : List ℕ) → part_at reader (c ∷ []) ≡ Ok (one, rest) → ⊥
unfolding part_at
part_short reader c one rest e = absurd cc

part_none : (reader : Reader) (one : Part) (rest : List ℕ) → part_at reader [] ≡ Ok (one, rest) → ⊥
unfolding part_at
part_none reader one rest e = absurd cc

part_ends : (reader : Reader) → Tells reader → (text : List ℕ) (one : Part) (rest : List ℕ) → part_at reader text ≡ Ok (one, rest) → Ends text rest
part_ends reader tells [] one rest e = absurd (part_none reader one rest e)
part_ends reader tells (c ∷ []) one rest e = absurd (part_short reader c one rest e)
part_ends reader tells (c ∷ d ∷ text) one rest e =
    elim (part_rest reader c d text one rest e) [
      | inl same ↦ ends_cons c (d ∷ text) rest (ends_cons d text rest (ends_same text rest same))
      | inr inner ↦ tells.ends (c ∷ d ∷ text) one rest inner
    ]

part_shorter : (reader : Reader) → Tells reader → (c : ℕ) (text : List ℕ) (one : Part) (rest : List ℕ) → part_at reader (c ∷ text) ≡ Ok (one, rest) → length rest < length (c ∷ text)
part_shorter reader tells c [] one rest e = absurd (part_short reader c one rest e)
part_shorter reader tells c (d ∷ text) one rest e =
    elim (part_rest reader c d text one rest e) [
      | inl same ↦ omega (arith, ap length same)
      | inr inner ↦ tells.shorter c (d ∷ text) one rest inner
    ]

part_wrong : (reader : Reader) → Tells reader → (more : List ℕ) (fault : Wrong) → part_at reader (37 ∷ more) ≡ Err fault → At (37 ∷ more) (left_of fault)
unfolding part_at
part_wrong reader tells [] fault e = at_front [] (left_of fault) (sym (ap left_of (err_same (BadExpansion 1) fault e)))
part_wrong reader tells (d ∷ more) fault e =
    elim (cond_split (eqb d 37) _ _ _ e) [
      | inl percent ↦ ok_err _ fault percent
      | inr other ↦
          elim (cond_split (eqb d 123) _ _ _ other) [
            | inl brace ↦ tells.wrong (d ∷ more) fault brace
            | inr letter ↦ at_front (d ∷ more) (left_of fault) (sym (ap left_of (found_err (BadExpansion (length (37 ∷ d ∷ more))) fault _ letter)))
          ]
    ]

part_tells : (reader : Reader) → Tells reader → Tells (part_at reader)
part_tells reader tells = record {
  ends = part_ends reader tells;
  shorter = part_shorter reader tells;
  wrong = part_wrong reader tells;
}

piece_ends : (reader : Reader) (inside : Bool) → Tells reader → (text : List ℕ) (one : Part) (rest : List ℕ) → piece_at reader inside text ≡ Ok (one, rest) → Ends text rest
unfolding piece_at
piece_ends reader inside tells [] one rest e = absurd cc
piece_ends reader inside tells (c ∷ text) one rest e =
    elim (cond_split (eqb c 37) _ _ _ e) [
      | inl percent ↦ part_ends reader tells (c ∷ text) one rest percent
      | inr plain ↦ subst (Ends (c ∷ text)) (same_rest _ one _ rest plain) (ends_drop (suc (plain_len inside text)) (c ∷ text))
    ]

piece_shorter : (reader : Reader) (inside : Bool) → Tells reader → (c : ℕ) (text : List ℕ) (one : Part) (rest : List ℕ) → piece_at reader inside (c ∷ text) ≡ Ok (one, rest) → length rest < length (c ∷ text)
unfolding piece_at
piece_shorter reader inside tells c text one rest e =
    elim (cond_split (eqb c 37) _ _ _ e) [
      | inl percent ↦ part_shorter reader tells c text one rest percent
      | inr plain ↦ let size = ends_length text rest (subst (Ends text) (same_rest _ one _ rest plain) (ends_drop (plain_len inside text) text)) in omega (arith, size)
    ]

piece_wrong : (reader : Reader) (inside : Bool) → Tells reader → (c : ℕ) (text : List ℕ) (fault : Wrong) → piece_at reader inside (c ∷ text) ≡ Err fault → At (c ∷ text) (left_of fault)
unfolding piece_at
piece_wrong reader inside tells c text fault e =
    elim (cases_Bool (eqb c 37)) [
      | inl is ↦ starts is (rw is at e)
      | inr isnt ↦ ok_err _ fault (rw isnt at e)
    ] where
      starts : eqb c 37 ≡ true → part_at reader (c ∷ text) ≡ Err fault → At (c ∷ text) (left_of fault)
      starts is wrong =
          subst (λ (d : ℕ). part_at reader (d ∷ text) ≡ Err fault → At (d ∷ text) (left_of fault)) (sym (eqb-true c 37 is)) (part_wrong reader tells text fault) wrong

-- What is wrong lies in the text, or is told where the part that the text stands in is.
abbrev InOr : List ℕ → Wrong → ℕ → Type 0
InOr text fault left = At text (left_of fault) ⊎ (left_of fault ≡ left)

abbrev InOuter : List ℕ → Wrong → Option ℕ → Type 0
InOuter text fault None = At text (left_of fault)
InOuter text fault (Some left) = InOr text fault left

in_outer : (text : List ℕ) (fault : Wrong) (outer : Option ℕ) → At text (left_of fault) → InOuter text fault outer
in_outer text fault None place = place
in_outer text fault (Some left) place = inl place

outer_behind : (text rest : List ℕ) (fault : Wrong) (outer : Option ℕ) → Ends text rest → InOuter rest fault outer → InOuter text fault outer
outer_behind text rest fault None ends place = at_behind text rest (left_of fault) ends place
outer_behind text rest fault (Some left) ends (inl place) = inl (at_behind text rest (left_of fault) ends place)
outer_behind text rest fault (Some left) ends (inr outside) = inr outside

ended_ends : (outer : Option ℕ) (parts : List Part) (rest : List ℕ) → ended outer ≡ Ok (parts, rest) → Ends [] rest
ended_ends None parts rest e = ends_same [] rest (parts_rest [] parts [] rest e)
ended_ends (Some left) parts rest e = absurd cc

ended_wrong : (outer : Option ℕ) (fault : Wrong) → ended outer ≡ Err fault → InOuter [] fault outer
ended_wrong None fault e = ok_err _ fault e
ended_wrong (Some left) fault e = inr (sym (ap left_of (err_same (BadExpansion left) fault e)))

parts_ends : (reader : Reader) → Tells reader → (outer : Option ℕ) (turns : ℕ) (text : List ℕ) (parts : List Part) (rest : List ℕ) → parts_in reader outer turns text ≡ Ok (parts, rest) → Ends text rest
unfolding parts_in
parts_ends reader tells outer zero [] parts rest e = ended_ends outer parts rest e
parts_ends reader tells outer (suc turns) [] parts rest e = ended_ends outer parts rest e
parts_ends reader tells outer zero (c ∷ text) parts rest e = absurd cc
parts_ends reader tells outer (suc turns) (c ∷ text) parts rest e =
    elim (cond_split (closes outer c) _ _ _ e) [
      | inl closed ↦ ends_cons c text rest (ends_same text rest (parts_rest [] parts text rest closed))
      | inr goes ↦
          let one = bind_parts (piece_at reader (is_some outer) (c ∷ text)) _ parts rest goes in
          let more = bind_parts (parts_in reader outer turns one.0.1) _ parts rest one.1.1 in
          ends_trans (c ∷ text) one.0.1 rest (piece_ends reader (is_some outer) tells (c ∷ text) one.0.0 one.0.1 one.1.0)
          (parts_ends reader tells outer turns one.0.1 more.0.0 rest (more.1.0 ∙ ap (all_read more.0.0) (parts_rest (one.0.0 ∷ more.0.0) parts more.0.1 rest more.1.1)))
    ]

parts_wrong : (reader : Reader) → Tells reader → (outer : Option ℕ) (turns : ℕ) (text : List ℕ) (fault : Wrong) → length text ≤ turns → parts_in reader outer turns text ≡ Err fault → InOuter text fault outer
unfolding parts_in
parts_wrong reader tells outer zero [] fault enough e = ended_wrong outer fault e
parts_wrong reader tells outer (suc turns) [] fault enough e = ended_wrong outer fault e
parts_wrong reader tells outer zero (c ∷ text) fault enough e = absurd (omega arith)
parts_wrong reader tells outer (suc turns) (c ∷ text) fault enough e =
    elim (cond_split (closes outer c) _ _ _ e) [
      | inl closed ↦ ok_err _ fault closed
      | inr goes ↦
          elim (bind_err (piece_at reader (is_some outer) (c ∷ text)) _ fault goes) [
            | inl here ↦ in_outer (c ∷ text) fault outer (piece_wrong reader (is_some outer) tells c text fault here)
            | inr one ↦
                elim (bind_err (parts_in reader outer turns one.0.1) _ fault one.1.1) [
                  | inl later ↦
                      outer_behind (c ∷ text) one.0.1 fault outer (piece_ends reader (is_some outer) tells (c ∷ text) one.0.0 one.0.1 one.1.0)
                      (parts_wrong reader tells outer turns one.0.1 fault (omega (arith, piece_shorter reader (is_some outer) tells c text one.0.0 one.0.1 one.1.0)) later)
                  | inr more ↦ ok_err _ fault more.1.1
                ]
          ]
    ]

second_ends : (reader : Reader) → Tells reader → (text : List ℕ) (one : Part) (rest : List ℕ) → second_at reader text ≡ Ok (one, rest) → Ends text rest
unfolding second_at
second_ends reader tells text one rest e =
    elim (cond_split (begins_part text) _ _ _ e) [
      | inl percent ↦ part_ends reader tells text one rest percent
      | inr plain ↦ subst (Ends text) (same_rest _ one _ rest plain) (ends_drop (plain_len true text) text)
    ]

-- A text that a percent sign begins.
begins_with : (text : List ℕ) → begins_part text ≡ true → (more : List ℕ) × (text ≡ 37 ∷ more)
begins_with [] e = absurd cc
begins_with (c ∷ more) e = (more, ap (λ (d : ℕ). d ∷ more) (eqb-true c 37 e))

part_wrong_at : (reader : Reader) → Tells reader → (text : List ℕ) (fault : Wrong) → begins_part text ≡ true → part_at reader text ≡ Err fault → At text (left_of fault)
part_wrong_at reader tells text fault begins e =
    let more = begins_with text begins in
    subst (λ (all : List ℕ). part_at reader all ≡ Err fault → At all (left_of fault)) (sym more.1) (part_wrong reader tells more.0 fault) e

second_wrong : (reader : Reader) → Tells reader → (text : List ℕ) (fault : Wrong) → second_at reader text ≡ Err fault → At text (left_of fault)
unfolding second_at
second_wrong reader tells text fault e =
    elim (cases_Bool (begins_part text)) [
      | inl begins ↦ part_wrong_at reader tells text fault begins (rw begins at e)
      | inr isnt ↦ ok_err _ fault (rw isnt at e)
    ]

at_left : (text : List ℕ) (wrong fault : Wrong) (left : ℕ) → wrong ≡ fault → left_of wrong ≡ left → InOr text fault left
at_left text wrong fault left same size = inr (ap left_of (sym same) ∙ size)

alternative_ends : (reader : Reader) → Tells reader → (left : ℕ) (body : List ℕ) (one : Part) (rest : List ℕ) → alternative_at reader left body ≡ Ok (one, rest) → Ends body rest
unfolding alternative_at
alternative_ends reader tells left body one rest e =
    let first = bind_part (part_at reader body) _ one rest e in
    let sign = bind_part (found (BadExpansion left) (behind_sign first.0.1)) _ one rest first.1.1 in
    let second = bind_part (second_at reader sign.0) _ one rest sign.1.1 in
    let last = bind_part (found (BadExpansion left) (behind 125 second.0.1)) _ one rest second.1.1 in
    let one_ends = part_ends reader tells body first.0.0 first.0.1 first.1.0 in
    let two_ends = sign_ends first.0.1 sign.0 (found_ok (BadExpansion left) (behind_sign first.0.1) sign.0 sign.1.0) in
    let three_ends = second_ends reader tells sign.0 second.0.0 second.0.1 second.1.0 in
    let four_ends = behind_ends 125 second.0.1 last.0 (found_ok (BadExpansion left) (behind 125 second.0.1) last.0 last.1.0) in
    subst (Ends body) (same_rest _ one last.0 rest last.1.1)
    (ends_trans body first.0.1 last.0 one_ends (ends_trans first.0.1 sign.0 last.0 two_ends (ends_trans sign.0 second.0.1 last.0 three_ends four_ends)))

alternative_wrong : (reader : Reader) → Tells reader → (left : ℕ) (body : List ℕ) (fault : Wrong) → begins_part body ≡ true → alternative_at reader left body ≡ Err fault → InOr body fault left
unfolding alternative_at
alternative_wrong reader tells left body fault begins e =
    elim (bind_err (part_at reader body) _ fault e) [
      | inl here ↦ inl (part_wrong_at reader tells body fault begins here)
      | inr first ↦
          elim (bind_err (found (BadExpansion left) (behind_sign first.0.1)) _ fault first.1.1) [
            | inl unsigned ↦ at_left body (BadExpansion left) fault left (found_err (BadExpansion left) fault _ unsigned) refl
            | inr sign ↦
                let one_ends = part_ends reader tells body first.0.0 first.0.1 first.1.0 in
                let two_ends = sign_ends first.0.1 sign.0 (found_ok (BadExpansion left) (behind_sign first.0.1) sign.0 sign.1.0) in
                elim (bind_err (second_at reader sign.0) _ fault sign.1.1) [
                  | inl there ↦ inl (at_behind body sign.0 (left_of fault) (ends_trans body first.0.1 sign.0 one_ends two_ends) (second_wrong reader tells sign.0 fault there))
                  | inr second ↦
                      elim (bind_err (found (BadExpansion left) (behind 125 second.0.1)) _ fault second.1.1) [
                        | inl unclosed ↦ at_left body (BadExpansion left) fault left (found_err (BadExpansion left) fault _ unclosed) refl
                        | inr last ↦ ok_err _ fault last.1.1
                      ]
                ]
          ]
    ]

call_ends : (reader : Reader) → Tells reader → (left : ℕ) (name text : List ℕ) (one : Part) (rest : List ℕ) → call_at reader left name text ≡ Ok (one, rest) → Ends text rest
unfolding call_at
call_ends reader tells left name text one rest e =
    let function = bind_part (found (UnknownFunction left) (function_named name)) _ one rest e in
    let parts = bind_part (parts_in reader (Some left) (length text) text) _ one rest function.1.1 in
    subst (Ends text) (same_rest _ one parts.0.1 rest parts.1.1) (parts_ends reader tells (Some left) (length text) text parts.0.0 parts.0.1 parts.1.0)

call_wrong : (reader : Reader) → Tells reader → (left : ℕ) (name text : List ℕ) (fault : Wrong) → call_at reader left name text ≡ Err fault → InOr text fault left
unfolding call_at
call_wrong reader tells left name text fault e =
    elim (bind_err (found (UnknownFunction left) (function_named name)) _ fault e) [
      | inl unknown ↦ at_left text (UnknownFunction left) fault left (found_err (UnknownFunction left) fault _ unknown) refl
      | inr function ↦
          elim (bind_err (parts_in reader (Some left) (length text) text) _ fault function.1.1) [
            | inl there ↦ parts_wrong reader tells (Some left) (length text) text fault (omega arith) there
            | inr parts ↦ ok_err _ fault parts.1.1
          ]
    ]

reference_left : (left : ℕ) (error : NoReference) → left_of (reference_error left error) ≡ left
reference_left left no_reference.UnknownAttr = refl
reference_left left no_reference.BadPlace = refl

referenced_by : (left : ℕ) (read : Result Reference NoReference) (fault : Wrong) → ◌≡◌ {A = Result Part Wrong} (elim read [ Ok reference ↦ Ok (part.Reference reference) | Err error ↦ Err (reference_error left error) ]) (Err fault) → left_of fault ≡ left
referenced_by left (Ok reference) fault e = ok_err _ fault e
referenced_by left (Err error) fault e = ap left_of (sym (err_same (reference_error left error) fault e)) ∙ reference_left left error

referenced_wrong : (left : ℕ) (text : List ℕ) (dict : Definitions) (fault : Wrong) → referenced left text dict ≡ Err fault → left_of fault ≡ left
unfolding referenced
referenced_wrong left text dict fault e = referenced_by left (reference_of text dict) fault e

word_by : (left : ℕ) (word : List ℕ) (dict : Definitions) (option : Option Part) (fault : Wrong) → ◌≡◌ {A = Result Part Wrong} (elim option [ Some one ↦ Ok one | None ↦ referenced left word dict ]) (Err fault) → left_of fault ≡ left
word_by left word dict None fault e = referenced_wrong left word dict fault e
word_by left word dict (Some one) fault e = ok_err one fault e

word_wrong : (left : ℕ) (word : List ℕ) (dict : Definitions) (fault : Wrong) → word_part left word dict ≡ Err fault → left_of fault ≡ left
unfolding word_part
word_wrong left word dict fault e = word_by left word dict (fixed_part word) fault e

listed_ends : (left : ℕ) (body : List ℕ) (dict : Definitions) (one : Part) (rest : List ℕ) → listed_at left body dict ≡ Ok (one, rest) → Ends body rest
unfolding listed_at
listed_ends left body dict one rest e =
    let n = len_before 125 125 body in
    let closed = bind_part (found (BadExpansion left) (behind 125 (drop n body))) _ one rest e in
    let read = bind_part (referenced left (take n body) dict) _ one rest closed.1.1 in
    subst (Ends body) (same_rest _ one closed.0 rest read.1.1)
    (ends_trans body (drop n body) closed.0 (ends_drop n body) (behind_ends 125 (drop n body) closed.0 (found_ok (BadExpansion left) (behind 125 (drop n body)) closed.0 closed.1.0)))

listed_wrong : (left : ℕ) (body : List ℕ) (dict : Definitions) (fault : Wrong) → listed_at left body dict ≡ Err fault → left_of fault ≡ left
unfolding listed_at
listed_wrong left body dict fault e =
    let n = len_before 125 125 body in
    elim (bind_err (found (BadExpansion left) (behind 125 (drop n body))) _ fault e) [
      | inl unclosed ↦ ap left_of (sym (found_err (BadExpansion left) fault _ unclosed))
      | inr closed ↦
          elim (bind_err (referenced left (take n body) dict) _ fault closed.1.1) [
            | inl unknown ↦ referenced_wrong left (take n body) dict fault unknown
            | inr read ↦ ok_err _ fault read.1.1
          ]
    ]

name_ends : (reader : Reader) → Tells reader → (left : ℕ) (body : List ℕ) (dict : Definitions) (name text : List ℕ) (one : Part) (rest : List ℕ) → Ends body text
    → behind_name reader left body dict name text ≡ Ok (one, rest) → Ends body rest
name_ends reader tells left body dict name [] one rest ends e = absurd cc
name_ends reader tells left body dict name (c ∷ text) one rest ends e =
    elim (cond_split (eqb c 125) _ _ _ e) [
      | inl brace ↦
          let word = bind_part (word_part left name dict) _ one rest brace in
          ends_trans body (c ∷ text) rest ends (ends_cons c text rest (ends_same text rest (same_rest _ one text rest word.1.1)))
      | inr colon ↦
          elim (cond_split (is_list name) _ _ _ colon) [
            | inl list ↦ listed_ends left body dict one rest list
            | inr function ↦ ends_trans body (c ∷ text) rest ends (ends_cons c text rest (call_ends reader tells left name text one rest function))
          ]
    ]

name_wrong : (reader : Reader) → Tells reader → (left : ℕ) (body : List ℕ) (dict : Definitions) (name text : List ℕ) (fault : Wrong) → Ends body text
    → behind_name reader left body dict name text ≡ Err fault → InOr body fault left
name_wrong reader tells left body dict name [] fault ends e = at_left body (BadExpansion left) fault left (err_same (BadExpansion left) fault e) refl
name_wrong reader tells left body dict name (c ∷ text) fault ends e =
    elim (cond_split (eqb c 125) _ _ _ e) [
      | inl brace ↦
          elim (bind_err (word_part left name dict) _ fault brace) [
            | inl unknown ↦ inr (word_wrong left name dict fault unknown)
            | inr word ↦ ok_err _ fault word.1.1
          ]
      | inr colon ↦
          elim (cond_split (is_list name) _ _ _ colon) [
            | inl list ↦ inr (listed_wrong left body dict fault list)
            | inr function ↦ outer_behind body (c ∷ text) fault (Some left) ends (outer_behind (c ∷ text) text fault (Some left) (ends_cons c text text (ends_same text text refl)) (call_wrong reader tells left name text fault function))
          ]
    ]

named_ends : (reader : Reader) → Tells reader → (left : ℕ) (body : List ℕ) (dict : Definitions) (one : Part) (rest : List ℕ) → named_at reader left body dict ≡ Ok (one, rest) → Ends body rest
unfolding named_at
named_ends reader tells left body dict one rest e =
    let n = len_before 58 125 body in name_ends reader tells left body dict (take n body) (drop n body) one rest (ends_drop n body) e

named_wrong : (reader : Reader) → Tells reader → (left : ℕ) (body : List ℕ) (dict : Definitions) (fault : Wrong) → named_at reader left body dict ≡ Err fault → InOr body fault left
unfolding named_at
named_wrong reader tells left body dict fault e =
    let n = len_before 58 125 body in name_wrong reader tells left body dict (take n body) (drop n body) fault (ends_drop n body) e

body_ends : (reader : Reader) → Tells reader → (dict : Definitions) (left : ℕ) (body : List ℕ) (one : Part) (rest : List ℕ) → body_at reader dict left body ≡ Ok (one, rest) → Ends body rest
body_ends reader tells dict left body one rest e =
    elim (cond_split (begins_part body) _ _ _ e) [
      | inl percent ↦ alternative_ends reader tells left body one rest percent
      | inr name ↦ named_ends reader tells left body dict one rest name
    ]

body_wrong : (reader : Reader) → Tells reader → (dict : Definitions) (left : ℕ) (body : List ℕ) (fault : Wrong) → body_at reader dict left body ≡ Err fault → InOr body fault left
body_wrong reader tells dict left body fault e =
    elim (cases_Bool (begins_part body)) [
      | inl begins ↦ alternative_wrong reader tells left body fault begins (rw begins at e)
      | inr isnt ↦ named_wrong reader tells left body dict fault (rw isnt at e)
    ]

whole_or : (more : List ℕ) (fault : Wrong) → InOr (drop 2 (37 ∷ more)) fault (length (37 ∷ more)) → At (37 ∷ more) (left_of fault)
whole_or more fault (inl place) = at_behind (37 ∷ more) (drop 2 (37 ∷ more)) (left_of fault) (ends_drop 2 (37 ∷ more)) place
whole_or more fault (inr size) = at_front more (left_of fault) size

no_levels : (dict : Definitions) → Tells (braced dict zero)
unfolding braced
no_levels dict = record {
  ends = λ text one rest e. let pair : Part × List ℕ = (one, rest) in err_ok pair (BadExpansion (length text)) e;
  shorter = λ c text one rest e. let pair : Part × List ℕ = (one, rest) in err_ok pair (BadExpansion (length (c ∷ text))) e;
  wrong = λ more fault e. at_front more (left_of fault) (sym (ap left_of (err_same (BadExpansion (length (37 ∷ more))) fault e)));
}

one_level : (dict : Definitions) (levels : ℕ) → Tells (braced dict levels) → Tells (braced dict (suc levels))
unfolding braced
one_level dict levels tells = record {
  ends = λ text one rest e. ends_trans text (drop 2 text) rest (ends_drop 2 text) (body_ends (braced dict levels) tells dict (length text) (drop 2 text) one rest e);
  shorter = λ c text one rest e.
      let behind = body_ends (braced dict levels) tells dict (length (c ∷ text)) (drop 2 (c ∷ text)) one rest e in
      let size = ends_length (drop 2 (c ∷ text)) rest behind in omega (arith, size, length-drop 2 (c ∷ text));
  wrong = λ more fault e. whole_or more fault (body_wrong (braced dict levels) tells dict (length (37 ∷ more)) (drop 2 (37 ∷ more)) fault e);
}

all_levels : (dict : Definitions) (levels : ℕ) → Tells (braced dict levels)
all_levels dict zero = no_levels dict
all_levels dict (suc levels) = one_level dict levels (all_levels dict levels)

pub text_wrong : (dict : Definitions) (text : List ℕ) (fault : Wrong) → parts_in (braced dict 32) None (length text) text ≡ Err fault → At text (left_of fault)
text_wrong dict text fault e = parts_wrong (braced dict 32) (all_levels dict 32) None (length text) text fault (omega arith) e
