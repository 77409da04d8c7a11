-- Words in braces that are written and read again.
use Rattle.std.proofs.Common.{◌≡◌, ℕ, suc, ◌+◌, ◌-◌, ◌<◌, ◌≤◌, true, false, List, [], ◌∷◌, ◌++◌, length, Some, Ok, refl, ap, ◌∙◌, append_assoc, arith}
use Rattle.std.proofs.lemmas.Bool.{ne_eqb, le-leb}
use Rattle.std.specs.Prelude.{codes}
use Rattle.rad_dict.specs.Definitions.{Definitions}
use Rattle.rad_text.specs.Read.{Read}
use Rattle.rad_value.specs.declared.edits.ListName.{ListName}
use Rattle.rad_value.specs.declared.edits.ListName.TheVariants.{Request, Reply, Control}
use Rattle.unlang_reference.specs.declared.reference.Reference.{Reference}
use Rattle.unlang_reference.specs.Reading.{reference_of}
use Rattle.unlang_xlat.specs.declared.fault.Wrong.{Wrong}
use Rattle.unlang_xlat.specs.declared.part.DatePart.{DatePart}
use Rattle.unlang_xlat.specs.declared.part.DatePart.TheVariants as date
use Rattle.unlang_xlat.specs.declared.part.Function.{Function}
use Rattle.unlang_xlat.specs.declared.part.Function.TheVariants as function
use Rattle.unlang_xlat.specs.declared.part.Part.{Part}
use Rattle.unlang_xlat.specs.declared.part.Part.TheVariants as part
use Rattle.unlang_xlat.specs.Words.{digit_alone, is_list, is_loop, loop_of, fixed_part, referenced, word_part, function_named}
use Rattle.unlang_xlat.specs.Reading.{Reader, begins_part, part_at, listed_at, call_at, named_at, body_at, braced}
use Rattle.unlang_xlat.specs.Written.{lacks, in_braces, letter_of, list_name, function_name, IsAlone, IsListed}
use Rattle.unlang_xlat.proofs.WrittenSpans.{lacks_parts, lacks_append, span_taken, span_dropped}

pub moment_read : (one : DatePart) (reader : Reader) (rest : List ℕ) → part_at reader (37 ∷ letter_of one ∷ rest) ≡ Ok (part.Date one, rest)
unfolding part_at
moment_read date.Year reader rest = refl
moment_read date.Month reader rest = refl
moment_read date.Day reader rest = refl
moment_read date.Hour reader rest = refl
moment_read date.Date reader rest = refl
moment_read date.Seconds reader rest = refl
moment_read date.Stamp reader rest = refl

digit_read : (greatest n : ℕ) → n ≤ greatest → digit_alone greatest ((48 + n) ∷ []) ≡ Some n
digit_read greatest n le =
    let back : 48 + n - 48 ≡ n = omega arith in
    rw (le-leb 48 (48 + n) (omega arith), le-leb (48 + n) (48 + greatest) (omega arith), back) refl

-- A digit is none of the signs.
digit_lacks : (octet n : ℕ) → n < 10 → 58 ≤ octet → lacks octet ((48 + n) ∷ []) ≡ true
digit_lacks octet n small high = rw (ne_eqb (48 + n) octet (λ e. omega arith)) refl

digit_lacks_percent : (n : ℕ) → lacks 37 ((48 + n) ∷ []) ≡ true
digit_lacks_percent n = rw (ne_eqb (48 + n) 37 (λ e. omega arith)) refl

pub capture_part : (n : ℕ) → n < 9 → fixed_part ((48 + n) ∷ []) ≡ Some (part.Capture n)
unfolding fixed_part
capture_part n small = rw (digit_read 8 n (omega arith), fixed_part) refl

pub loop_part : (n : ℕ) → n < 8 → fixed_part (codes "Foreach-Variable-" ++ (48 + n) ∷ []) ≡ Some (part.Loop n)
unfolding fixed_part loop_of is_loop
loop_part n small = rw (digit_read 7 n (omega arith), fixed_part) refl

pub source_part : fixed_part (codes "Packet-Src-IP-Address") ≡ Some part.Source
unfolding fixed_part
source_part = refl

pub no_source_part : fixed_part (codes "Packet-Src-IPv6-Address") ≡ Some part.NoSource
unfolding fixed_part
no_source_part = refl

pub begins_not : (word rest : List ℕ) → lacks 37 word ≡ true → begins_part (word ++ 125 ∷ rest) ≡ false
begins_not [] rest none = refl
begins_not (c ∷ word) rest none = (lacks_parts 37 c word none).0

module _ (dict : Definitions) where
  -- A part in braces is read from behind its brace on.
  pub in_braces_read : (levels : ℕ) (body rest : List ℕ) (total : Read Part Wrong) → ((left : ℕ) → body_at (braced dict levels) dict left (body ++ 125 ∷ rest) ≡ total)
      → part_at (braced dict (suc levels)) (in_braces body ++ rest) ≡ total
  unfolding part_at braced
  in_braces_read levels body rest total e =
      let left = length (in_braces body ++ rest) in ap (body_at (braced dict levels) dict left) (append_assoc body (125 ∷ []) rest) ∙ e left

  named_alone : (reader : Reader) (left : ℕ) (word rest : List ℕ) (one : Part) → lacks 58 word ≡ true → lacks 125 word ≡ true → word_part left word dict ≡ Ok one
      → named_at reader left (word ++ 125 ∷ rest) dict ≡ Ok (one, rest)
  unfolding named_at
  named_alone reader left word rest one colon close e = rw (span_dropped 58 125 word (125 ∷ rest) colon close refl, span_taken 58 125 word (125 ∷ rest) colon close refl, e) refl

  pub alone_read : (levels : ℕ) (word rest : List ℕ) (one : Part) → lacks 58 word ≡ true → lacks 125 word ≡ true → lacks 37 word ≡ true → ((left : ℕ) → word_part left word dict ≡ Ok one)
      → part_at (braced dict (suc levels)) (in_braces word ++ rest) ≡ Ok (one, rest)
  alone_read levels word rest one colon close percent e =
      in_braces_read levels word rest (Ok (one, rest)) (λ left. rw (begins_not word rest percent) (named_alone (braced dict levels) left word rest one colon close (e left)))

  -- A word that stands for no attribute.
  pub fixed_read : (levels : ℕ) (word rest : List ℕ) (one : Part) → lacks 58 word ≡ true → lacks 125 word ≡ true → lacks 37 word ≡ true → fixed_part word ≡ Some one
      → part_at (braced dict (suc levels)) (in_braces word ++ rest) ≡ Ok (one, rest)
  unfolding word_part
  fixed_read levels word rest one colon close percent e = alone_read levels word rest one colon close percent (λ left. rw (e, word_part) refl)

  pub reference_read : (levels : ℕ) (reference : Reference) (text rest : List ℕ) → IsAlone dict reference text → part_at (braced dict (suc levels)) (in_braces text ++ rest) ≡ Ok (part.Reference reference, rest)
  unfolding word_part referenced
  reference_read levels reference text rest is =
      alone_read levels text rest (part.Reference reference) is.unlisted is.closed is.whole (λ left. rw (is.other, is.reads, word_part, referenced) refl)

  pub capture_read : (levels n : ℕ) (rest : List ℕ) → n < 9 → part_at (braced dict (suc levels)) (in_braces ((48 + n) ∷ []) ++ rest) ≡ Ok (part.Capture n, rest)
  capture_read levels n rest small =
      fixed_read levels ((48 + n) ∷ []) rest (part.Capture n) (digit_lacks 58 n (omega arith) (omega arith)) (digit_lacks 125 n (omega arith) (omega arith)) (digit_lacks_percent n) (capture_part n small)

  pub loop_read : (levels n : ℕ) (rest : List ℕ) → n < 8 → part_at (braced dict (suc levels)) (in_braces (codes "Foreach-Variable-" ++ (48 + n) ∷ []) ++ rest) ≡ Ok (part.Loop n, rest)
  loop_read levels n rest small =
      let word = codes "Foreach-Variable-" in
      fixed_read levels (word ++ (48 + n) ∷ []) rest (part.Loop n) (lacks_append 58 word ((48 + n) ∷ []) refl (digit_lacks 58 n (omega arith) (omega arith)))
      (lacks_append 125 word ((48 + n) ∷ []) refl (digit_lacks 125 n (omega arith) (omega arith))) (lacks_append 37 word ((48 + n) ∷ []) refl (digit_lacks_percent n)) (loop_part n small)

  -- A name behind which a colon stands.
  named_listed : (reader : Reader) (left : ℕ) (reference : Reference) (name text rest : List ℕ) → lacks 58 name ≡ true → lacks 125 name ≡ true → is_list name ≡ true → lacks 125 text ≡ true
      → reference_of (name ++ 58 ∷ text) dict ≡ Ok reference → named_at reader left ((name ++ 58 ∷ text) ++ 125 ∷ rest) dict ≡ Ok (part.Reference reference, rest)
  unfolding named_at listed_at referenced
  named_listed reader left reference name text rest colon close list closed reads =
      let whole = name ++ 58 ∷ text in
      let none : lacks 125 whole ≡ true = lacks_append 125 name (58 ∷ text) close closed in
      let same : whole ++ 125 ∷ rest ≡ name ++ 58 ∷ (text ++ 125 ∷ rest) = append_assoc name (58 ∷ text) (125 ∷ rest) in
      let colon_left = span_dropped 58 125 name (58 ∷ (text ++ 125 ∷ rest)) colon close refl in
      let colon_name = span_taken 58 125 name (58 ∷ (text ++ 125 ∷ rest)) colon close refl in
      rw (same, colon_left, colon_name, list, ← same, span_dropped 125 125 whole (125 ∷ rest) none none refl, span_taken 125 125 whole (125 ∷ rest) none none refl, reads, referenced) refl

  pub list_read : (levels : ℕ) (reference : Reference) (list : ListName) (text rest : List ℕ) → IsListed dict reference list text
      → part_at (braced dict (suc levels)) (in_braces (list_name list ++ 58 ∷ text) ++ rest) ≡ Ok (part.Reference reference, rest)
  list_read levels reference Request text rest is =
      in_braces_read levels (codes "request" ++ 58 ∷ text) rest (Ok (part.Reference reference, rest)) (λ left. named_listed (braced dict levels) left reference (codes "request") text rest refl refl refl is.closed is.reads)
  list_read levels reference Reply text rest is =
      in_braces_read levels (codes "reply" ++ 58 ∷ text) rest (Ok (part.Reference reference, rest)) (λ left. named_listed (braced dict levels) left reference (codes "reply") text rest refl refl refl is.closed is.reads)
  list_read levels reference Control text rest is =
      in_braces_read levels (codes "control" ++ 58 ∷ text) rest (Ok (part.Reference reference, rest)) (λ left. named_listed (braced dict levels) left reference (codes "control") text rest refl refl refl is.closed is.reads)

  named_call : (reader : Reader) (left : ℕ) (name text rest : List ℕ) (total : Read Part Wrong) → lacks 58 name ≡ true → lacks 125 name ≡ true → is_list name ≡ false
      → call_at reader left name (text ++ 125 ∷ rest) ≡ total → named_at reader left ((name ++ 58 ∷ text) ++ 125 ∷ rest) dict ≡ total
  unfolding named_at
  named_call reader left name text rest total colon close list e =
      rw (
        append_assoc name (58 ∷ text) (125 ∷ rest),
        span_dropped 58 125 name (58 ∷ (text ++ 125 ∷ rest)) colon close refl,
        span_taken 58 125 name (58 ∷ (text ++ 125 ∷ rest)) colon close refl,
        list,
      ) e

  pub call_read : (levels : ℕ) (one : Function) (text rest : List ℕ) (total : Read Part Wrong) → ((left : ℕ) → call_at (braced dict levels) left (function_name one) (text ++ 125 ∷ rest) ≡ total)
      → part_at (braced dict (suc levels)) (in_braces (function_name one ++ 58 ∷ text) ++ rest) ≡ total
  call_read levels function.Lower text rest total e = in_braces_read levels (codes "tolower" ++ 58 ∷ text) rest total (λ left. named_call (braced dict levels) left (codes "tolower") text rest total refl refl refl (e left))
  call_read levels function.Upper text rest total e = in_braces_read levels (codes "toupper" ++ 58 ∷ text) rest total (λ left. named_call (braced dict levels) left (codes "toupper") text rest total refl refl refl (e left))
  call_read levels function.Digest text rest total e = in_braces_read levels (codes "md5" ++ 58 ∷ text) rest total (λ left. named_call (braced dict levels) left (codes "md5") text rest total refl refl refl (e left))
  call_read levels function.Length text rest total e = in_braces_read levels (codes "strlen" ++ 58 ∷ text) rest total (λ left. named_call (braced dict levels) left (codes "strlen") text rest total refl refl refl (e left))

pub function_read : (one : Function) → function_named (function_name one) ≡ Some one
unfolding function_named
function_read function.Lower = refl
function_read function.Upper = refl
function_read function.Digest = refl
function_read function.Length = refl
