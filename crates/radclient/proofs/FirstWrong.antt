-- The first line that is wrong.
use Rattle.std.proofs.Common.{◌≡◌, ℕ, ◌+◌, ◌-◌, ◌^◌, ◌≤◌, min, Bool, true, false, cond, List, [], ◌∷◌, ◌++◌, length, Result, Ok, Err, refl, sym, ap, ◌∙◌, subst, inl, inr, arith}
use Rattle.std.specs.Prelude.{nat_le, ◌⊎◌}
use Rattle.std.specs.List.{AllByRecursion}
use Rattle.std.proofs.lemmas.Bool.{leb-true}
use Rattle.std.proofs.lemmas.List.{length-map}
use Rattle.rad_dict.specs.Base.{base_definitions}
use Rattle.rad_text.specs.Lines.{lines_of}
use Rattle.rad_text.specs.Read.{◌>>=◌}
use Rattle.rad_value.specs.declared.values.Pair.{Pair}
use Rattle.rad_value.specs.PairLists.{PairLists, no_pairs}
use Rattle.rad_pairs.specs.declared.fault.PairFault.{PairFault}
use Rattle.rad_pairs.specs.declared.fault.PairFault.TheVariants as fault
use Rattle.rad_pairs.specs.declared.items.Item.{Item}
use Rattle.rad_pairs.specs.PlainItems.{plain_items_of}
use Rattle.radclient.specs.declared.fault.LineFault.{LineFault}
use Rattle.radclient.specs.declared.fault.Reason.{Reason}
use Rattle.radclient.specs.declared.fault.Reason.TheVariants as reason
use Rattle.radclient.specs.Groups.{Reading, at_line, closed, groups_of, is_empty, is_one_too_many, line_read, lines_read, next_line, passed, reason_of, taken, unread, with_items, with_read}
use Rattle.radclient.specs.Parted.{EndsEmpty, EndsGroup, IsFirstWrong, IsMisread, IsRight, IsWrong, pairs_of_lines, parted}
use Rattle.radclient.specs.Program.{pairs_of_groups}
use Rattle.radclient.proofs.Parting.{lines_are}

-- a reading can't take a line, for this reason
abbrev Stuck : Reason → Reading → List ℕ → Type 0
Stuck reason.TooMany reading line = is_one_too_many reading ≡ true
Stuck reason.UnknownAttr reading line = IsMisread reason.UnknownAttr line
Stuck reason.BadOperator reading line = IsMisread reason.BadOperator line
Stuck reason.BadValue reading line = IsMisread reason.BadValue line

stuck_by : (wrong : PairFault) (reading : Reading) (line : List ℕ) → plain_items_of line base_definitions ≡ Err wrong → Stuck (reason_of wrong) reading line
stuck_by (fault.UnknownAttr spot) reading line is = (fault.UnknownAttr spot, is, refl)
stuck_by (fault.BadOperator spot) reading line is = (fault.BadOperator spot, is, refl)
stuck_by (fault.BadValue spot) reading line is = (fault.BadValue spot, is, refl)
stuck_by fault.NoMemory reading line is = (fault.NoMemory, is, refl)

record Fails (reading : Reading) (lines : List (List ℕ)) (wrong : LineFault) : Type 0 where
  pub front : List (List ℕ)
  pub line : List ℕ
  pub back : List (List ℕ)
  pub mid : Reading
  pub split : lines ≡ front ++ line ∷ back
  pub reads : lines_read reading front ≡ Ok mid
  pub number : wrong.line ≡ min (reading.line + length front) (2 ^ 32 - 1)
  pub right : AllByRecursion IsRight front
  pub filled : is_empty line ≡ false
  pub stuck : Stuck wrong.reason mid line
  pub ends : mid.is_open ≡ false → ((front ≡ []) × (reading.is_open ≡ false)) ⊎ EndsEmpty front

abbrev Later : List (List ℕ) → LineFault → Type 0
Later more wrong = (reading : Reading) → reading.line ≤ 2 ^ 32 - 1 → lines_read reading more ≡ Err wrong → Fails reading more wrong

abbrev fault_or : {A : Type 0} → LineFault → Result A LineFault → LineFault
fault_or other (Ok x) = other
fault_or other (Err wrong) = wrong

-- lines that end with an empty one do so behind one line more
empty_more : (text : List ℕ) (front : List (List ℕ)) → EndsEmpty front → EndsEmpty (text ∷ front)
empty_more text front e = record { before = text ∷ e.before; last = e.last; split = ap (λ (l : List (List ℕ)). text ∷ l) e.split; empty = e.empty }

empty_ends : (text : List ℕ) (front : List (List ℕ)) (P : Type 0) → is_empty text ≡ true → ((front ≡ []) × P) ⊎ EndsEmpty front → EndsEmpty (text ∷ front)
empty_ends text front P empty (inl none) = record { before = []; last = text; split = ap (λ (l : List (List ℕ)). text ∷ l) none.0; empty = empty }
empty_ends text front P empty (inr ends) = empty_more text front ends

pairs_end : (text : List ℕ) (front : List (List ℕ)) → ((front ≡ []) × (true ≡ false)) ⊎ EndsEmpty front → EndsEmpty (text ∷ front)
pairs_end text front (inl none) = let clash = none.1 in cc
pairs_end text front (inr ends) = empty_more text front ends

empty_fails : (reading : Reading) (text : List ℕ) (more : List (List ℕ)) (wrong : LineFault) → reading.line ≤ 2 ^ 32 - 1 → is_empty text ≡ true
    → lines_read (passed reading) more ≡ Err wrong → Later more wrong → Fails reading (text ∷ more) wrong
unfolding lines_read line_read
empty_fails reading text more wrong bound empty reads later =
    let f = later (passed reading) (omega arith) reads in record {
      front = text ∷ f.front;
      line = f.line;
      back = f.back;
      mid = f.mid;
      split = ap (λ (l : List (List ℕ)). text ∷ l) f.split;
      reads = ap (λ (b : Bool). cond b (Ok (passed reading)) (cond (is_one_too_many reading) (Err (record { line = reading.line; reason = reason.TooMany })) (taken reading text)) >>= λ (next : Reading). lines_read next f.front) empty ∙ f.reads;
      number = let n = f.number in omega (arith, n, bound);
      right = (inl empty, f.right);
      filled = f.filled;
      stuck = f.stuck;
      ends = λ shut. inr (empty_ends text f.front ((passed reading).is_open ≡ false) empty (f.ends shut));
    }

abbrev taken_by : Reading → Result (List Item) PairFault → Result Reading LineFault
taken_by reading m = at_line reading.line (with_read reading.pairs m) >>= λ (found : PairLists). Ok (record { groups = reading.groups; is_open = true; pairs = found; line = next_line reading.line })

pairs_fail : (m : Result (List Item) PairFault) (reading : Reading) (text : List ℕ) (more : List (List ℕ)) (wrong : LineFault) → reading.line ≤ 2 ^ 32 - 1 → is_empty text ≡ false
    → is_one_too_many reading ≡ false → plain_items_of text base_definitions ≡ m
    → (taken_by reading m >>= λ (next : Reading). lines_read next more) ≡ Err wrong → Later more wrong → Fails reading (text ∷ more) wrong
unfolding lines_read line_read
pairs_fail (Ok items) reading text more wrong bound full few read reads later =
    let next : Reading = record { groups = reading.groups; is_open = true; pairs = with_items reading.pairs items; line = next_line reading.line } in
    let f = later next (omega arith) reads in
    let then_read : Reading → Result Reading LineFault = λ (next : Reading). lines_read next f.front in record {
      front = text ∷ f.front;
      line = f.line;
      back = f.back;
      mid = f.mid;
      split = ap (λ (l : List (List ℕ)). text ∷ l) f.split;
      reads = ap (λ (b : Bool). cond b (Ok (passed reading)) (cond (is_one_too_many reading) (Err (record { line = reading.line; reason = reason.TooMany })) (taken reading text)) >>= then_read) full
          ∙ ap (λ (b : Bool). cond b (Err (record { line = reading.line; reason = reason.TooMany })) (taken reading text) >>= then_read) few
          ∙ ap (λ (m : Result (List Item) PairFault). taken_by reading m >>= then_read) read ∙ f.reads;
      number = let n = f.number in omega (arith, n, bound);
      right = (inr (items, read), f.right);
      filled = f.filled;
      stuck = f.stuck;
      ends = λ shut. inr (pairs_end text f.front (f.ends shut));
    }
pairs_fail (Err bad) reading text more wrong bound full few read reads later =
    let same : record { line = reading.line; reason = reason_of bad } ≡ wrong = ap (fault_or wrong) reads in record {
      front = [];
      line = text;
      back = more;
      mid = reading;
      split = refl;
      reads = refl;
      number = let n : reading.line ≡ wrong.line = ap (λ (w : LineFault). w.line) same in omega (arith, n, bound);
      right = tt;
      filled = full;
      stuck = subst (λ (w : LineFault). Stuck w.reason reading text) same (stuck_by bad reading text read);
      ends = λ shut. inl (refl, shut);
    }

line_fails : (many : Bool) (reading : Reading) (text : List ℕ) (more : List (List ℕ)) (wrong : LineFault) → reading.line ≤ 2 ^ 32 - 1 → is_empty text ≡ false
    → is_one_too_many reading ≡ many
    → (cond many (Err (record { line = reading.line; reason = reason.TooMany })) (taken reading text) >>= λ (next : Reading). lines_read next more) ≡ Err wrong
    → Later more wrong → Fails reading (text ∷ more) wrong
unfolding lines_read line_read
line_fails true reading text more wrong bound full many reads later =
    let same : record { line = reading.line; reason = reason.TooMany } ≡ wrong = ap (fault_or wrong) reads in record {
      front = [];
      line = text;
      back = more;
      mid = reading;
      split = refl;
      reads = refl;
      number = let n : reading.line ≡ wrong.line = ap (λ (w : LineFault). w.line) same in omega (arith, n, bound);
      right = tt;
      filled = full;
      stuck = subst (λ (w : LineFault). Stuck w.reason reading text) same many;
      ends = λ shut. inl (refl, shut);
    }
line_fails false reading text more wrong bound full many reads later =
    pairs_fail (plain_items_of text base_definitions) reading text more wrong bound full many refl reads later

any_fails : (empty : Bool) (reading : Reading) (text : List ℕ) (more : List (List ℕ)) (wrong : LineFault) → reading.line ≤ 2 ^ 32 - 1 → is_empty text ≡ empty
    → (cond empty (Ok (passed reading)) (cond (is_one_too_many reading) (Err (record { line = reading.line; reason = reason.TooMany })) (taken reading text))
    >>= λ (next : Reading). lines_read next more) ≡ Err wrong
    → Later more wrong → Fails reading (text ∷ more) wrong
any_fails true reading text more wrong bound empty reads later = empty_fails reading text more wrong bound empty reads later
any_fails false reading text more wrong bound empty reads later =
    line_fails (is_one_too_many reading) reading text more wrong bound empty refl reads later

lines_fail : (lines : List (List ℕ)) (wrong : LineFault) → Later lines wrong
unfolding lines_read line_read
lines_fail [] wrong = λ reading bound reads. cc
lines_fail (text ∷ more) wrong = λ reading bound reads. any_fails (is_empty text) reading text more wrong bound refl reads (lines_fail more wrong)

-- a group is one too many only where none is open and 4,096 are closed
many_is : (reading : Reading) (shut : Bool) → reading.is_open ≡ shut → cond shut false (nat_le 4096 (length reading.groups)) ≡ true → (reading.is_open ≡ false) × (4096 ≤ length reading.groups)
many_is reading true is many = cc
many_is reading false is many = (is, leb-true 4096 (length reading.groups) many)

closed_is : (reading : Reading) → reading.is_open ≡ false → (closed reading).groups ≡ reading.groups
closed_is reading shut = ap (λ (b : Bool). (cond b (record { groups = reading.groups ++ reading.pairs ∷ []; is_open = false; pairs = no_pairs; line = reading.line }) reading).groups) shut

group_ends : (front : List (List ℕ)) (P : Type 0) → ((front ≡ []) × P) ⊎ EndsEmpty front → EndsGroup front
group_ends front P (inl none) = inl none.0
group_ends front P (inr ends) = inr ends

wrong_by : (why : Reason) (front : List (List ℕ)) (line : List ℕ) (mid : Reading) → lines_read unread front ≡ Ok mid
    → (mid.is_open ≡ false → ((front ≡ []) × (unread.is_open ≡ false)) ⊎ EndsEmpty front) → Stuck why mid line → IsWrong why front line
wrong_by reason.TooMany front line mid reads ends stuck =
    let many = many_is mid mid.is_open refl stuck in
    let groups = lines_are front mid false [] no_pairs 1 (record { few = omega arith; none = λ same. refl }) reads in
    let count : length mid.groups ≡ length (parted front) =
    sym (length-map mid.groups (λ (l : PairLists). l.request))
    ∙ ap (λ (g : List PairLists). length (pairs_of_groups g)) (sym (closed_is mid many.0))
    ∙ ap (λ (g : List (List Pair)). length g) groups
    ∙ length-map (parted front) pairs_of_lines in
    (group_ends front (unread.is_open ≡ false) (ends many.0), (let few = many.1 in omega (arith, few, count)))
wrong_by reason.UnknownAttr front line mid reads ends stuck = stuck
wrong_by reason.BadOperator front line mid reads ends stuck = stuck
wrong_by reason.BadValue front line mid reads ends stuck = stuck

first_wrong : (read : Result Reading LineFault) (text : List ℕ) (wrong : LineFault) → lines_read unread (lines_of text) ≡ read
    → (read >>= λ (reading : Reading). Ok (closed reading).groups) ≡ Err wrong → IsFirstWrong (lines_of text) wrong
first_wrong (Ok reading) text wrong reads is = cc
first_wrong (Err other) text wrong reads is =
    let same : other ≡ wrong = ap (fault_or wrong) is in
    let f = lines_fail (lines_of text) wrong unread (omega arith) (reads ∙ ap (λ (w : LineFault). Err w) same) in record {
      front = f.front;
      line = f.line;
      back = f.back;
      split = f.split;
      number = let n = f.number in omega (arith, n);
      right = f.right;
      filled = f.filled;
      wrong = wrong_by wrong.reason f.front f.line f.mid f.reads f.ends f.stuck;
    }

pub fault_is : (text : List ℕ) (wrong : LineFault) → groups_of text ≡ Err wrong → IsFirstWrong (lines_of text) wrong
unfolding groups_of
fault_is text wrong is = first_wrong (lines_read unread (lines_of text)) text wrong refl is
