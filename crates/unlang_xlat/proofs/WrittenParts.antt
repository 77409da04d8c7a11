-- Expansions that are written and read again.
use Rattle.std.proofs.Common.{◌≡◌, ℕ, zero, suc, ◌≤◌, Bool, true, false, eqb, List, [], ◌∷◌, ◌++◌, length, Option, Some, None, Ok, refl, sym, ap, ◌∙◌, append_assoc, length-append, arith}
use Rattle.std.proofs.lemmas.List.{append-nil}
use Rattle.std.proofs.lemmas.Bool.{and_parts}
use Rattle.std.proofs.Math.Seq.{take-append_seam, drop-append_seam}
use Rattle.std.specs.Option.{is_some}
use Rattle.std.specs.Prelude.{codes}
use Rattle.rad_dict.specs.Definitions.{Definitions}
use Rattle.unlang_xlat.specs.declared.part.Function.{Function}
use Rattle.unlang_xlat.specs.declared.part.Part.{Part}
use Rattle.unlang_xlat.specs.declared.part.Part.TheVariants as part
use Rattle.unlang_xlat.specs.Spans.{plain_len}
use Rattle.unlang_xlat.specs.Reading.{Reader, begins_part, part_at, piece_at, closes, parts_in, second_at, alternative_at, call_at, braced}
use Rattle.unlang_xlat.specs.Faults.{parsed}
use Rattle.unlang_xlat.specs.Written.{lacks, in_braces, function_name, is_plain, is_part_or_end, IsPartOf, percent, moment, alone, listed, capture, loop, source, no_source, alternative, call, IsSecondOf, second_part, second_text, ArePartsOf, no_parts, then_part, then_text, IsExpansionOf}
use Rattle.unlang_xlat.proofs.Parsing.{said_parts}
use Rattle.unlang_xlat.proofs.WrittenSpans.{stops, lacks_parts, span_len, span_taken, span_dropped}
use Rattle.unlang_xlat.proofs.WrittenWords.{moment_read, reference_read, list_read, capture_read, loop_read, fixed_read, source_part, no_source_part, begins_not, in_braces_read, call_read, function_read}

-- Plain text ends where a part begins, where the text ends, and within braces at a brace.
abbrev stops_plain : Bool → List ℕ → Bool
stops_plain true rest = stops 37 125 rest
stops_plain false rest = stops 37 37 rest

plain_span : (inside : Bool) (text rest : List ℕ) → is_plain inside text ≡ true → stops_plain inside rest ≡ true → plain_len inside (text ++ rest) ≡ length text
plain_span true text rest plain stop = let parts = and_parts _ _ plain in span_len 37 125 text rest parts.0 parts.1 stop
plain_span false text rest plain stop = span_len 37 37 text rest plain plain stop

plain_front : (inside : Bool) (c : ℕ) (text : List ℕ) → is_plain inside (c ∷ text) ≡ true → (eqb c 37 ≡ false) × (is_plain inside text ≡ true)
plain_front true c text plain =
    let both = and_parts (lacks 37 (c ∷ text)) (lacks 125 (c ∷ text)) plain in
    let one = lacks_parts 37 c text both.0 in
    let other = lacks_parts 125 c text both.1 in (one.0, rw (one.1, other.1) refl)
plain_front false c text plain = lacks_parts 37 c text plain

-- Plain text doesn't close the part that it stands in.
stays_open : (outer : Option ℕ) (c : ℕ) (text : List ℕ) → is_plain (is_some outer) (c ∷ text) ≡ true → closes outer c ≡ false
stays_open None c text plain = refl
stays_open (Some left) c text plain = (lacks_parts 125 c text (and_parts (lacks 37 (c ∷ text)) (lacks 125 (c ∷ text)) plain).1).0

-- A percent sign neither.
percent_open : (outer : Option ℕ) → closes outer 37 ≡ false
percent_open None = refl
percent_open (Some left) = refl

-- What stands behind parts: nothing more is read, and plain text ends there.
record Tail (reader : Reader) (outer : Option ℕ) (tail rest : List ℕ) : Type 0 where
  done : (turns : ℕ) → length tail ≤ turns → parts_in reader outer turns tail ≡ Ok ([], rest)
  stops : stops_plain (is_some outer) tail ≡ true

stops_before : (inside : Bool) (rest tail : List ℕ) → is_part_or_end rest ≡ true → stops_plain inside tail ≡ true → stops_plain inside (rest ++ tail) ≡ true
stops_before inside [] tail part stop = stop
stops_before true (c ∷ rest) tail part stop = rw part refl
stops_before false (c ∷ rest) tail part stop = rw part refl

part_next : (reader : Reader) (outer : Option ℕ) (one : Part) (parts : List Part) (more after rest : List ℕ) (turns : ℕ) → part_at reader (37 ∷ more) ≡ Ok (one, after)
    → parts_in reader outer turns after ≡ Ok (parts, rest) → parts_in reader outer (suc turns) (37 ∷ more) ≡ Ok (one ∷ parts, rest)
unfolding parts_in piece_at
part_next reader outer one parts more after rest turns e f = rw (percent_open outer, e, f) refl

text_next : (reader : Reader) (outer : Option ℕ) (c : ℕ) (text : List ℕ) (parts : List Part) (after rest : List ℕ) (turns : ℕ) → is_plain (is_some outer) (c ∷ text) ≡ true
    → stops_plain (is_some outer) after ≡ true → parts_in reader outer turns after ≡ Ok (parts, rest) → parts_in reader outer (suc turns) ((c ∷ text) ++ after) ≡ Ok (part.Plain (c ∷ text) ∷ parts, rest)
unfolding parts_in piece_at
text_next reader outer c text parts after rest turns plain stop f =
    let front = plain_front (is_some outer) c text plain in
    let len : plain_len (is_some outer) (text ++ after) ≡ length text = plain_span (is_some outer) text after front.1 stop in
    rw (stays_open outer c text plain, front.0, len, take-append_seam text after, drop-append_seam text after, f) refl

second_text_read : (reader : Reader) (text rest : List ℕ) → is_plain true text ≡ true → second_at reader (text ++ 125 ∷ rest) ≡ Ok (part.Plain text, 125 ∷ rest)
unfolding second_at
second_text_read reader text rest plain =
    let both = and_parts (lacks 37 text) (lacks 125 text) plain in
    rw (begins_not text rest both.0, span_taken 37 125 text (125 ∷ rest) both.0 both.1 refl, span_dropped 37 125 text (125 ∷ rest) both.0 both.1 refl) refl

second_part_read : (reader : Reader) (one : Part) (more rest : List ℕ) → part_at reader ((37 ∷ more) ++ 125 ∷ rest) ≡ Ok (one, 125 ∷ rest) → second_at reader ((37 ∷ more) ++ 125 ∷ rest) ≡ Ok (one, 125 ∷ rest)
unfolding second_at
second_part_read reader one more rest e = e

sides_read : (reader : Reader) (left : ℕ) (first second : Part) (one other rest : List ℕ) → part_at reader (one ++ 58 ∷ 45 ∷ (other ++ 125 ∷ rest)) ≡ Ok (first, 58 ∷ 45 ∷ (other ++ 125 ∷ rest))
    → second_at reader (other ++ 125 ∷ rest) ≡ Ok (second, 125 ∷ rest) → alternative_at reader left ((one ++ 58 ∷ 45 ∷ other) ++ 125 ∷ rest) ≡ Ok (part.Alternative first second, rest)
unfolding alternative_at
sides_read reader left first second one other rest e f = rw (append_assoc one (58 ∷ 45 ∷ other) (125 ∷ rest), e, f) refl

argument_read : (reader : Reader) (left : ℕ) (one : Function) (parts : List Part) (text rest : List ℕ) → parts_in reader (Some left) (length text) text ≡ Ok (parts, rest)
    → call_at reader left (function_name one) text ≡ Ok (part.Call one parts, rest)
unfolding call_at
argument_read reader left one parts text rest e = rw (function_read one, e) refl

brace_closes : (reader : Reader) (left turns : ℕ) (rest : List ℕ) → length (125 ∷ rest) ≤ turns → parts_in reader (Some left) turns (125 ∷ rest) ≡ Ok ([], rest)
unfolding parts_in
brace_closes reader left zero rest enough = absurd (omega arith)
brace_closes reader left (suc turns) rest enough = refl

brace_tail : (reader : Reader) (left : ℕ) (rest : List ℕ) → Tail reader (Some left) (125 ∷ rest) rest
brace_tail reader left rest = record { done = λ turns enough. brace_closes reader left turns rest enough; stops = refl }

text_ends : (reader : Reader) (turns : ℕ) → parts_in reader None turns [] ≡ Ok ([], [])
unfolding parts_in
text_ends reader turns = refl

end_tail : (reader : Reader) → Tail reader None [] []
end_tail reader = record { done = λ turns enough. text_ends reader turns; stops = refl }

module _ (dict : Definitions) where
  -- A part begins with a percent sign.
  front : {levels : ℕ} {one : Part} {text : List ℕ} → IsPartOf dict levels one text → (more : List ℕ) × (text ≡ 37 ∷ more)
  front (percent levels) = (37 ∷ [], refl)
  front (moment levels one) = (_, refl)
  front (alone levels reference text is) = (_, refl)
  front (listed levels reference list text is) = (_, refl)
  front (capture levels n small) = (_, refl)
  front (loop levels n small) = (_, refl)
  front (source levels) = (_, refl)
  front (no_source levels) = (_, refl)
  front (alternative levels first second one other is also) = (_, refl)
  front (call levels function parts text are) = (_, refl)

  first_begins : (one other rest more : List ℕ) → one ≡ 37 ∷ more → begins_part ((one ++ 58 ∷ 45 ∷ other) ++ 125 ∷ rest) ≡ true
  first_begins one other rest more e = rw e refl

  alternative_read : (levels : ℕ) (first second : Part) (one other rest more : List ℕ) → one ≡ 37 ∷ more → part_at (braced dict levels) (one ++ 58 ∷ 45 ∷ (other ++ 125 ∷ rest)) ≡ Ok (first, 58 ∷ 45 ∷ (other ++ 125 ∷ rest))
      → second_at (braced dict levels) (other ++ 125 ∷ rest) ≡ Ok (second, 125 ∷ rest) → part_at (braced dict (suc levels)) (in_braces (one ++ 58 ∷ 45 ∷ other) ++ rest) ≡ Ok (part.Alternative first second, rest)
  alternative_read levels first second one other rest more begins e f =
      in_braces_read dict levels (one ++ 58 ∷ 45 ∷ other) rest (Ok (part.Alternative first second, rest)) (λ left. rw (first_begins one other rest more begins) (sides_read (braced dict levels) left first second one other rest e f))

  then_part_read : (levels : ℕ) (outer : Option ℕ) (one : Part) (parts : List Part) (text after rest more : List ℕ) (turns : ℕ) → text ≡ 37 ∷ more → part_at (braced dict levels) (text ++ after) ≡ Ok (one, after)
      → ((fewer : ℕ) → length after ≤ fewer → parts_in (braced dict levels) outer fewer after ≡ Ok (parts, rest)) → length (text ++ after) ≤ turns
      → parts_in (braced dict levels) outer turns (text ++ after) ≡ Ok (one ∷ parts, rest)
  then_part_read levels outer one parts text after rest more zero begins e f enough = absurd (omega (arith, length-append text after, ap length begins))
  then_part_read levels outer one parts text after rest more (suc turns) begins e f enough =
      ap (λ (all : List ℕ). parts_in (braced dict levels) outer (suc turns) (all ++ after)) begins
      ∙ part_next (braced dict levels) outer one parts (more ++ after) after rest turns (ap (λ (all : List ℕ). part_at (braced dict levels) (all ++ after)) (sym begins) ∙ e)
      (f turns (omega (arith, length-append text after, ap length begins)))

  then_text_read : (levels : ℕ) (outer : Option ℕ) (c : ℕ) (text : List ℕ) (parts : List Part) (after rest : List ℕ) (turns : ℕ) → is_plain (is_some outer) (c ∷ text) ≡ true
      → stops_plain (is_some outer) after ≡ true → ((fewer : ℕ) → length after ≤ fewer → parts_in (braced dict levels) outer fewer after ≡ Ok (parts, rest)) → length ((c ∷ text) ++ after) ≤ turns
      → parts_in (braced dict levels) outer turns ((c ∷ text) ++ after) ≡ Ok (part.Plain (c ∷ text) ∷ parts, rest)
  then_text_read levels outer c text parts after rest zero plain stop f enough = absurd (omega arith)
  then_text_read levels outer c text parts after rest (suc turns) plain stop f enough =
      text_next (braced dict levels) outer c text parts after rest turns plain stop (f turns (omega (arith, length-append text after)))

  percent_read : (reader : Reader) (rest : List ℕ) → part_at reader (codes "%%" ++ rest) ≡ Ok (part.Percent, rest)
  unfolding part_at
  percent_read reader rest = refl

  second_is_part : (levels : ℕ) (one : Part) (text rest more : List ℕ) → text ≡ 37 ∷ more → part_at (braced dict levels) (text ++ 125 ∷ rest) ≡ Ok (one, 125 ∷ rest)
      → second_at (braced dict levels) (text ++ 125 ∷ rest) ≡ Ok (one, 125 ∷ rest)
  second_is_part levels one text rest more begins e =
      ap (λ (all : List ℕ). second_at (braced dict levels) (all ++ 125 ∷ rest)) begins
      ∙ second_part_read (braced dict levels) one more rest (ap (λ (all : List ℕ). part_at (braced dict levels) (all ++ 125 ∷ rest)) (sym begins) ∙ e)

  regrouped : (levels : ℕ) (outer : Option ℕ) (parts : List Part) (text more tail rest : List ℕ) (turns : ℕ) → parts_in (braced dict levels) outer turns (text ++ (more ++ tail)) ≡ Ok (parts, rest)
      → parts_in (braced dict levels) outer turns ((text ++ more) ++ tail) ≡ Ok (parts, rest)
  regrouped levels outer parts text more tail rest turns e = ap (parts_in (braced dict levels) outer turns) (append_assoc text more tail) ∙ e

  mutual
    part_read : {levels : ℕ} {one : Part} {text : List ℕ} → IsPartOf dict levels one text → (rest : List ℕ) → part_at (braced dict levels) (text ++ rest) ≡ Ok (one, rest)
    part_read (percent levels) rest = percent_read (braced dict levels) rest
    part_read (moment levels one) rest = moment_read one (braced dict levels) rest
    part_read (alone levels reference text is) rest = reference_read dict levels reference text rest is
    part_read (listed levels reference list text is) rest = list_read dict levels reference list text rest is
    part_read (capture levels n small) rest = capture_read dict levels n rest small
    part_read (loop levels n small) rest = loop_read dict levels n rest small
    part_read (source levels) rest = fixed_read dict levels (codes "Packet-Src-IP-Address") rest part.Source refl refl refl source_part
    part_read (no_source levels) rest = fixed_read dict levels (codes "Packet-Src-IPv6-Address") rest part.NoSource refl refl refl no_source_part
    part_read (alternative levels first second one other is also) rest =
        let begins = front is in
        alternative_read levels first second one other rest begins.0 begins.1 (part_read is (58 ∷ 45 ∷ (other ++ 125 ∷ rest))) (second_read also rest)
    part_read (call levels function parts text are) rest =
        call_read dict levels function text rest (Ok (part.Call function parts, rest))
        (λ left.
        argument_read (braced dict levels) left function parts (text ++ 125 ∷ rest) rest
        (parts_read are (Some left) refl (125 ∷ rest) rest (brace_tail (braced dict levels) left rest) (length (text ++ 125 ∷ rest)) (omega arith)))

    second_read : {levels : ℕ} {second : Part} {text : List ℕ} → IsSecondOf dict levels second text → (rest : List ℕ) → second_at (braced dict levels) (text ++ 125 ∷ rest) ≡ Ok (second, 125 ∷ rest)
    second_read (second_part levels one text is) rest = second_is_part levels one text rest (front is).0 (front is).1 (part_read is (125 ∷ rest))
    second_read (second_text levels text plain) rest = second_text_read (braced dict levels) text rest plain

    parts_read : {levels : ℕ} {inside : Bool} {parts : List Part} {text : List ℕ} → ArePartsOf dict levels inside parts text → (outer : Option ℕ) → is_some outer ≡ inside
        → (tail rest : List ℕ) → Tail (braced dict levels) outer tail rest → (turns : ℕ) → length (text ++ tail) ≤ turns → parts_in (braced dict levels) outer turns (text ++ tail) ≡ Ok (parts, rest)
    parts_read (no_parts levels inside) outer same tail rest ends turns enough = ends.done turns enough
    parts_read (then_part levels inside one parts text more is are) outer same tail rest ends turns enough =
        let begins = front is in
        regrouped levels outer (one ∷ parts) text more tail rest turns
        (then_part_read levels outer one parts text (more ++ tail) rest begins.0 turns begins.1 (part_read is (more ++ tail)) (λ fewer less. parts_read are outer same tail rest ends fewer less)
        (omega (arith, enough, ap length (append_assoc text more tail))))
    parts_read (then_text levels inside c parts text more plain stop are) outer same tail rest ends turns enough =
        regrouped levels outer (part.Plain (c ∷ text) ∷ parts) (c ∷ text) more tail rest turns
        (then_text_read levels outer c text parts (more ++ tail) rest turns (ap (λ (b : Bool). is_plain b (c ∷ text)) same ∙ plain) (stops_before (is_some outer) more tail stop ends.stops)
        (λ fewer less. parts_read are outer same tail rest ends fewer less) (omega (arith, enough, ap length (append_assoc (c ∷ text) more tail))))

  pub expansion_read : (parts : List Part) (text : List ℕ) → IsExpansionOf dict parts text → parsed text dict ≡ Ok parts
  expansion_read parts text are =
      said_parts text dict parts []
      (ap (λ (all : List ℕ). parts_in (braced dict 32) None (length text) all) (sym (append-nil text))
      ∙ parts_read are None refl [] [] (end_tail (braced dict 32)) (length text) (omega (arith, ap length (append-nil text))))
