-- A text that is read mark by mark, with the files that it includes.
use Rattle.std.proofs.Common.{◌≡◌, ℕ, zero, suc, ◌+◌, ◌<◌, ◌≤◌, Bool, true, false, cond, nat_lt, List, [], ◌∷◌, length, Result, Ok, Err, refl, sym, ap, ◌∙◌, arith}
use Rattle.rad_text.specs.Read.{◌>>=◌}
use Rattle.rad_text.specs.Paths.{place_at}
use Rattle.rad_conf.specs.declared.fault.ConfFault.{ConfFault}
use Rattle.rad_conf.specs.declared.fault.ConfFault.TheVariants as fault
use Rattle.rad_conf.specs.declared.mark.Mark.{Mark}
use Rattle.rad_conf.specs.declared.growth.Growth.{Growth}
use Rattle.rad_conf.specs.Answers.{IsFault, IsTextFault, Stops}
use Rattle.rad_conf.specs.Lines.{lines_of}
use Rattle.rad_conf.specs.Marks.{mark_at}
use Rattle.rad_conf.specs.Growth.{Include, placed, taken, ended, grown, counted, begun, resumed, text_read}

abbrev pub made : Growth → Result Growth ConfFault
made growth = Ok growth

abbrev made_if : Bool → ConfFault → Growth → Result Growth ConfFault
made_if b wrong growth = cond b (Err wrong) (made growth)

-- What is left of a file, with turns enough, and then what stands around it: this is the whole.
pub record Going (include : Include) (file : List ℕ) (line outside : ℕ) (growth : Growth) (text : List ℕ) (total : Result Growth ConfFault) : Type 0 where
  pub turns : ℕ
  pub enough : length text ≤ turns
  pub same : (grown include file turns growth text >>= (λ (after : Growth). made (resumed line outside after))) ≡ total

-- The fault of the first of two readings is the fault of both.
pub fails_first : {A B : Type 0} (said : Result A ConfFault) (f : A → Result B ConfFault) (e : ConfFault) → IsFault said e → IsFault (said >>= f) e
fails_first said f (fault.Unclosed place) same = rw same refl
fails_first said f (fault.Stray place) same = rw same refl
fails_first said f (fault.BadQuote place) same = rw same refl
fails_first said f (fault.NoVariable place) same = rw same refl
fails_first said f (fault.TooDeep place) same = rw same refl
fails_first said f (fault.Missing place) same = rw same refl
fails_first said f (fault.TooLong place) same = rw same refl
fails_first said f fault.ReadFault same = tt
fails_first said f fault.NoMemory same = tt

-- What stops a step is a fault of it.
pub is_fault : (A : Type 0) (said e : ConfFault) → IsTextFault said e → IsFault {Y = A} (Err said) e
is_fault A said (fault.Unclosed place) same = rw same refl
is_fault A said (fault.Stray place) same = rw same refl
is_fault A said (fault.BadQuote place) same = rw same refl
is_fault A said (fault.NoVariable place) same = rw same refl
is_fault A said (fault.TooDeep place) same = rw same refl
is_fault A said (fault.Missing place) same = rw same refl
is_fault A said (fault.TooLong place) same = rw same refl
is_fault A said fault.ReadFault same = absurd same
is_fault A said fault.NoMemory same = tt

pub stops_fault : {A : Type 0} (said : Result A ConfFault) (e : ConfFault) → Stops said e → IsFault said e
stops_fault (Ok x) e same = rw same tt
stops_fault {A = A} (Err said) e same = is_fault A said e same

pub one_mark : (include : Include) (file : List ℕ) (turns : ℕ) (growth : Growth) (c : ℕ) (rest : List ℕ)
    → grown include file (suc turns) growth (c ∷ rest) ≡ (placed file growth.line (mark_at growth (c ∷ rest)) >>= (λ (read : Mark × List ℕ). taken include file read.0 growth >>= (λ (next : Growth). grown include file turns next read.1)))
unfolding grown
one_mark include file turns growth c rest = refl

pub no_marks : (include : Include) (file : List ℕ) (turns : ℕ) (growth : Growth) → grown include file turns growth [] ≡ ended growth
unfolding grown
no_marks include file turns growth = refl

module _ (include : Include) (file : List ℕ) (line outside : ℕ) (growth : Growth) where
  -- The first mark, what it makes of the tree, and then what is left.
  pub goes_on : (text : List ℕ) (total : Result Growth ConfFault) (mark : Mark) (after : List ℕ) (next : Growth) → 0 < length text → placed file growth.line (mark_at growth text) ≡ Ok (mark, after) → length after < length text
      → taken include file mark growth ≡ Ok next → Going include file line outside growth text total → Going include file line outside next after total
  goes_on [] total mark after next long e shorter step so_far = absurd (omega arith)
  goes_on (c ∷ rest) total mark after next long e shorter step so_far = going so_far.turns so_far.enough so_far.same where
    going : (turns : ℕ) → length (c ∷ rest) ≤ turns → (grown include file turns growth (c ∷ rest) >>= (λ (after : Growth). made (resumed line outside after))) ≡ total → Going include file line outside next after total
    going zero enough same = absurd (omega arith)
    going (suc turns) enough same = record {
      turns = turns;
      enough = omega arith;
      same = sym (ap (λ (said : Result Growth ConfFault). said >>= (λ (after : Growth). made (resumed line outside after))) (one_mark include file turns growth c rest ∙ rw e (rw step refl))) ∙ same;
    }

  -- The first mark can't be read.
  pub goes_wrong : (text : List ℕ) (total : Result Growth ConfFault) (e : ConfFault) → 0 < length text → Stops (placed file growth.line (mark_at growth text)) e → Going include file line outside growth text total → IsFault total e
  goes_wrong [] total e long wrong so_far = absurd (omega arith)
  goes_wrong (c ∷ rest) total e long wrong so_far = going so_far.turns so_far.enough so_far.same where
    going : (turns : ℕ) → length (c ∷ rest) ≤ turns → (grown include file turns growth (c ∷ rest) >>= (λ (after : Growth). made (resumed line outside after))) ≡ total → IsFault total e
    going zero enough same = absurd (omega arith)
    going (suc turns) enough same = rw (← same, one_mark include file turns growth c rest)
        (fails_first _ _ e (fails_first _ _ e (stops_fault (placed file growth.line (mark_at growth (c ∷ rest))) e wrong)))

  -- The first mark makes a fault of the tree.
  pub goes_out : (text : List ℕ) (total : Result Growth ConfFault) (mark : Mark) (after : List ℕ) (e : ConfFault) → 0 < length text → placed file growth.line (mark_at growth text) ≡ Ok (mark, after)
      → IsFault (taken include file mark growth) e → Going include file line outside growth text total → IsFault total e
  goes_out [] total mark after e long same wrong so_far = absurd (omega arith)
  goes_out (c ∷ rest) total mark after e long same wrong so_far = going so_far.turns so_far.enough so_far.same where
    going : (turns : ℕ) → length (c ∷ rest) ≤ turns → (grown include file turns growth (c ∷ rest) >>= (λ (after : Growth). made (resumed line outside after))) ≡ total → IsFault total e
    going zero enough here = absurd (omega arith)
    going (suc turns) enough here = rw (← here, one_mark include file turns growth c rest, same)
        (fails_first _ _ e (fails_first _ _ e wrong))

  -- Nothing is left.
  pub is_done : (text : List ℕ) (total : Result Growth ConfFault) → length text ≡ 0 → Going include file line outside growth text total
      → (ended growth >>= (λ (after : Growth). made (resumed line outside after))) ≡ total
  is_done [] total empty so_far = sym (ap (λ (said : Result Growth ConfFault). said >>= (λ (after : Growth). made (resumed line outside after))) (no_marks include file so_far.turns growth)) ∙ so_far.same
  is_done (c ∷ rest) total empty so_far = absurd (omega arith)

-- A file begins. To count its octets changes neither the line nor the blocks outside.
count_keeps : (file text : List ℕ) (growth more : Growth) (b : Bool) → made_if b (fault.TooLong (place_at file 0)) (record growth { octets = growth.octets + length text }) ≡ made more → (more.line ≡ growth.line) × (more.outside ≡ growth.outside)
count_keeps file text growth more true e = absurd cc
count_keeps file text growth more false e = let same : record growth { octets = growth.octets + length text } ≡ more = cc in (ap (λ (g : Growth). g.line) (sym same), ap (λ (g : Growth). g.outside) (sym same))

pub starts : (include : Include) (file text : List ℕ) (growth more entered : Growth) (rest : List ℕ) → counted file text growth ≡ Ok more → entered ≡ begun more → rest ≡ lines_of text
    → Going include file more.line more.outside entered rest (text_read include file text growth)
unfolding text_read
starts include file text growth more entered rest e entering lines =
    let kept = count_keeps file text growth more (nat_lt 4194304 (growth.octets + length text)) e in
    rw (entering, lines, kept.0, kept.1) (record { turns = length (lines_of text); enough = omega arith; same = rw e refl })

pub too_long : (include : Include) (file text : List ℕ) (growth : Growth) (e : ConfFault) → Stops (counted file text growth) e → IsFault (text_read include file text growth) e
unfolding text_read
too_long include file text growth e wrong = fails_first _ _ e (stops_fault (counted file text growth) e wrong)

-- A file ends.
pub end_fails : (line outside : ℕ) (growth : Growth) (total : Result Growth ConfFault) (e : ConfFault) → (ended growth >>= (λ (after : Growth). made (resumed line outside after))) ≡ total → Stops (ended growth) e → IsFault total e
end_fails line outside growth total e same wrong = rw (← same) (fails_first (ended growth) _ e (stops_fault (ended growth) e wrong))

pub end_goes : (line outside : ℕ) (growth after left : Growth) (total : Result Growth ConfFault) → (ended growth >>= (λ (after : Growth). made (resumed line outside after))) ≡ total → ended growth ≡ Ok after → left ≡ resumed line outside after → total ≡ made left
end_goes line outside growth after left total same e leaving = sym same ∙ rw (e, leaving) refl
