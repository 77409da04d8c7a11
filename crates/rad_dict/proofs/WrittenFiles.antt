-- Files of statements that are written, line by line.
use Rattle.std.proofs.Common.{◌≡◌, ℕ, ◌+◌, ◌≤◌, Bool, true, false, List, [], ◌∷◌, ◌++◌, length, map, Some, Result, Ok, Err, refl, ap, append_assoc, ◌∙◌, arith}
use Rattle.std.specs.Fmt.{decimal}
use Rattle.std.proofs.lemmas.Bool.{le-ltb}
use Rattle.std.proofs.lemmas.List.Concat.{flat_map-cons}
use Rattle.rad_words.specs.declared.attributes.Kind.{Kind}
use Rattle.rad_words.specs.declared.attributes.Kind.TheVariants.{Text, Octets, Addr, Number, Date, Byte, Short}
use Rattle.rad_outside.specs.Files.{File}
use Rattle.rad_text.specs.Read.{◌>>=◌}
use Rattle.rad_text.specs.Lines.{is_line, lines_of}
use Rattle.rad_text.specs.Paths.{folder, last_part, place_at}
use Rattle.rad_text.proofs.LineEnds.{has_line_end, none_joined, line_plain, written_newline, written_return}
use Rattle.rad_dict.specs.declared.fault.DictFault.{DictFault}
use Rattle.rad_dict.specs.declared.fault.Wrong.{Wrong}
use Rattle.rad_dict.specs.declared.reading.Reading.{Reading}
use Rattle.rad_dict.specs.declared.step.Step.{Step}
use Rattle.rad_dict.specs.Lines.{Statement, nothing, attribute, value, vendor, begins, ends}
use Rattle.rad_dict.specs.Readings.{after}
use Rattle.rad_dict.specs.Steps.{fault_of, stepped, step_by, step_of}
use Rattle.rad_dict.specs.FirstReading.{reading_of, first_reading}
use Rattle.rad_dict.specs.Includes.{Include, went, ended, lines_read, counted, include_read, text_read, dict_read, dict_from}
use Rattle.rad_dict.specs.Written.{kind_text, line_text, line_end, lines_text, IsWritable, AreWritable, statements_read}
use Rattle.rad_dict.proofs.NameWords.{IsName, name_is, decimal_name, none_in_name}
use Rattle.rad_dict.proofs.Readings.{one_line}
use Rattle.rad_dict.proofs.WrittenWords.{attr_named, value_named, statement_read}

-- The line of a statement is one line.
behind_blank : (word more : List ℕ) → IsName word → has_line_end more ≡ false → has_line_end (32 ∷ (word ++ more)) ≡ false
behind_blank word more name none = none_joined word more (none_in_name word name.1) none

last_behind : (word : List ℕ) → IsName word → has_line_end (32 ∷ word) ≡ false
last_behind word name = none_in_name word name.1

kind_plain : (kind : Kind) → has_line_end (32 ∷ kind_text kind) ≡ false
kind_plain Text = refl
kind_plain Octets = refl
kind_plain Addr = refl
kind_plain Number = refl
kind_plain Date = refl
kind_plain Byte = refl
kind_plain Short = refl

plain : (one : Statement) → IsWritable one → has_line_end (line_text one) ≡ false
plain nothing all = refl
plain (attribute name number kind) all =
    behind_blank name (32 ∷ (decimal number ++ 32 ∷ kind_text kind)) (attr_named name all.0) (behind_blank (decimal number) (32 ∷ kind_text kind) (decimal_name number all.1) (kind_plain kind))
plain (value attr name number) all =
    behind_blank attr (32 ∷ (name ++ 32 ∷ decimal number)) (name_is attr all.0) (behind_blank name (32 ∷ decimal number) (value_named name all.1) (last_behind (decimal number) (decimal_name number all.2)))
plain (vendor name number) all = behind_blank name (32 ∷ decimal number) (name_is name all.0) (last_behind (decimal number) (decimal_name number all.1))
plain (begins name) all = last_behind name (name_is name all)
plain (ends name) all = last_behind name (name_is name all)

one_written : (returns : Bool) (line rest : List ℕ) → is_line line ≡ true → lines_of (line ++ (line_end returns ++ rest)) ≡ line ∷ lines_of rest
one_written true line rest whole = written_return line rest whole
one_written false line rest whole = written_newline line rest whole

no_lines : lines_of [] ≡ []
unfolding lines_of
no_lines = refl

lines_written : (returns : Bool) (statements : List Statement) → AreWritable statements → lines_of (lines_text returns statements) ≡ map line_text statements
lines_written returns [] all = no_lines
lines_written returns (one ∷ more) all =
    let rest = lines_text returns more in
    ap lines_of (flat_map-cons (λ (s : Statement). line_text s ++ line_end returns) one more ∙ append_assoc (line_text one) (line_end returns) rest)
    ∙ one_written returns (line_text one) rest (line_plain (line_text one) (plain one all.0))
    ∙ ap (λ lines. line_text one ∷ lines) (lines_written returns more all.1)

-- What the lines make known is what the statements do.
step_read : (file : List ℕ) (line : ℕ) (reading : Reading) (one : Statement) → IsWritable one → step_of file line reading (line_text one) ≡ stepped (place_at file line) (after one reading)
unfolding step_of
step_read file line reading one all = ap (step_by file line reading) (statement_read one all)

abbrev goes : Include → List ℕ → ℕ → List Statement → Result Step DictFault → Result Reading DictFault
goes include file line more step = step >>= λ one. went include one >>= λ next. lines_read include file (line + 1) next (map line_text more)

no_more : (include : Include) (file : List ℕ) (line : ℕ) (reading : Reading) → lines_read include file line reading [] ≡ ended file reading
unfolding lines_read
no_more include file line reading = refl

by_known : (include : Include) (file : List ℕ) (line : ℕ) (more : List Statement) (known : Result Reading Wrong)
    → ((next : Reading) → lines_read include file (line + 1) next (map line_text more) ≡ statements_read file (line + 1) next more)
    → goes include file line more (stepped (place_at file line) known) ≡ (elim known [ Ok next ↦ statements_read file (line + 1) next more | Err wrong ↦ Err (fault_of (place_at file line) wrong) ])
by_known include file line more (Ok next) others = others next
by_known include file line more (Err wrong) others = refl

statements_back : (include : Include) (file : List ℕ) (line : ℕ) (reading : Reading) (statements : List Statement) → AreWritable statements
    → lines_read include file line reading (map line_text statements) ≡ statements_read file line reading statements
statements_back include file line reading [] all = no_more include file line reading
statements_back include file line reading (one ∷ more) all =
    one_line include file line reading (line_text one) (map line_text more)
    ∙ ap (goes include file line more) (step_read file line reading one all.0)
    ∙ by_known include file line more (after one reading) (λ next. statements_back include file (line + 1) next more all.1)

counted_first : (file text : List ℕ) → length text ≤ 4194304 → counted file text first_reading ≡ Ok (reading_of (length text))
unfolding counted
counted_first file text short =
    let none : 0 + length text ≡ length text = omega arith in
    rw (none, le-ltb 4194304 (length text) short, counted) refl

file_read : (include : Include) (file text : List ℕ) → length text ≤ 4194304 → text_read include file text first_reading ≡ lines_read include file 1 (reading_of (length text)) (lines_of text)
unfolding text_read
file_read include file text short = ap (λ known. known >>= λ more. lines_read include file 1 more (lines_of text)) (counted_first file text short)

pub dictionary_back : (returns : Bool) (path : List ℕ) (files : List File) (statements : List Statement) → AreWritable statements → length (lines_text returns statements) ≤ 4194304
    → dict_from path files (Some (lines_text returns statements)) ≡ dict_read (statements_read (last_part path) 1 (reading_of (length (lines_text returns statements))) statements)
dictionary_back returns path files statements all short =
    let text = lines_text returns statements in
    let include = include_read files (folder path) 16 in
    ap dict_read
    (file_read include (last_part path) text short
    ∙ ap (lines_read include (last_part path) 1 (reading_of (length text))) (lines_written returns statements all)
    ∙ statements_back include (last_part path) 1 (reading_of (length text)) statements all)
