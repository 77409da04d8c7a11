-- The pairs of a text, one part at a time.
use Rattle.std.proofs.Common.{◌≡◌, ℕ, ◌<◌, List, [], ◌∷◌, ◌++◌, length, Option, Result, Ok, Err, refl, sym, ap, ◌∙◌, append_assoc}
use Rattle.std.proofs.lemmas.List.{append-nil}
use Rattle.std.specs.Option.{option_to_list}
use Rattle.rad_text.specs.declared.read.ReadError.{ReadError}
use Rattle.rad_text.specs.declared.read.ReadError.TheVariants as errors
use Rattle.rad_text.specs.Read.{◌>>=◌, Fails}
use Rattle.rad_text.specs.Answers.{IsFault}
use Rattle.rad_text.proofs.Turns as turns
use Rattle.rad_dict.specs.Definitions.{Definitions}
use Rattle.rad_pairs.specs.declared.items.Item.{Item}
use Rattle.rad_pairs.specs.declared.fault.Wrong.{Wrong}
use Rattle.rad_pairs.specs.declared.fault.Wrong.TheVariants.{UnknownAttr, BadOperator, BadValue}
use Rattle.rad_pairs.specs.declared.fault.PairFault.{PairFault}
use Rattle.rad_pairs.specs.Items.{part_at, listed, placed, fault_at, says}
use Rattle.rad_text.specs.Parts.{parts_of}

abbrev with_front : List Item → Result (List Item) Wrong → Result (List Item) Wrong
with_front front read = read >>= λ items. Ok (front ++ items)

-- What is said of the parts that are left: the items that were read, and then theirs.
abbrev behind : List Item → List (Result (Option Item) Wrong) → Result (List Item) Wrong
behind front parts = with_front front (listed parts)

abbrev pub part : Definitions → List ℕ → Result (Option Item × List ℕ) Wrong
part dict text = part_at text dict

-- How the parts of a text are read.
abbrev pub Reader : Type 0
Reader = List ℕ → Result (Option Item × List ℕ) Wrong

-- The pairs of a text whose parts are read so.
abbrev pub read_by : Reader → List ℕ → Result (List Item) Wrong
read_by read text = listed (parts_of read (BadValue 0) text)

-- With turns enough for what is left of a text, what was read and the pairs that are left are the whole.
abbrev pub Enough : List Item → List ℕ → Reader → Result (List Item) Wrong → Type 0
Enough front text read total = turns.Enough read (BadValue 0) (behind front) text total

with_none : (read : Result (List Item) Wrong) → with_front [] read ≡ read
with_none (Ok items) = refl
with_none (Err wrong) = refl

pub starts : (text : List ℕ) (read : Reader) → Enough [] text read (read_by read text)
starts text read = let all = turns.starts read (BadValue 0) (behind []) text in record { turns = all.turns; enough = all.enough; same = all.same ∙ with_none (read_by read text) }

regroup : (front added : List Item) (read : Result (List Item) Wrong) → with_front (front ++ added) read ≡ with_front front (read >>= λ others. Ok (added ++ others))
regroup front added (Ok items) = ap Ok (append_assoc front added items)
regroup front added (Err wrong) = refl

pub goes_on : (front : List Item) (text : List ℕ) (read : Reader) (total : Result (List Item) Wrong) (item : Option Item) (after : List ℕ) → 0 < length text → read text ≡ Ok (item, after)
    → length after < length text → Enough front text read total → Enough (front ++ option_to_list item) after read total
goes_on front text read total item after long e shorter so_far =
    turns.goes_on read (BadValue 0) (behind front) (behind (front ++ option_to_list item)) text total item after long e shorter (λ more. regroup front (option_to_list item) (listed more)) so_far

pub ends : (front : List Item) (text : List ℕ) (read : Reader) (total : Result (List Item) Wrong) (error : ReadError Wrong) → 0 < length text → Fails error (read text)
    → Enough front text read total → Fails error total
ends front text read total errors.NoMemory long e so_far = tt
ends front text read total (errors.Wrong wrong) long e so_far = sym (turns.goes_wrong read (BadValue 0) (behind front) text total wrong long e so_far)

pub is_done : (front : List Item) (text : List ℕ) (read : Reader) (total : Result (List Item) Wrong) → length text ≡ 0 → Enough front text read total → total ≡ Ok front
is_done front text read total none so_far = sym (turns.is_done read (BadValue 0) (behind front) text total none so_far) ∙ ap Ok (append-nil front)

-- What is said of a whole text, from its pairs.
pub said_fault : (text : List ℕ) (read : Result (List Item) Wrong) (error : ReadError Wrong) → Fails error read → IsFault says (placed text read) (fault_at text error)
said_fault text read errors.NoMemory e = tt
said_fault text read (errors.Wrong (UnknownAttr left)) e = rw e refl
said_fault text read (errors.Wrong (BadOperator left)) e = rw e refl
said_fault text read (errors.Wrong (BadValue left)) e = rw e refl
