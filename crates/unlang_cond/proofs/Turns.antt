-- The tokens of a condition, one turn at a time: what the loop over them keeps.
use Rattle.std.proofs.Common.{◌≡◌, ℕ, zero, suc, ◌<◌, ◌≤◌, Bool, true, List, [], ◌∷◌, ◌++◌, length, Option, Some, Result, Ok, Err, refl, sym, ap, ◌∙◌, arith}
use Rattle.std.specs.Prelude.{IfOk}
use Rattle.rad_dict.specs.Definitions.{Definitions}
use Rattle.rad_text.specs.declared.read.ReadError.{ReadError}
use Rattle.rad_text.specs.declared.read.ReadError.TheVariants as errors
use Rattle.rad_text.specs.Read.{Fails}
use Rattle.rad_text.specs.Blanks.{after_blanks}
use Rattle.unlang_cond.specs.declared.atom.Token.{Token}
use Rattle.unlang_cond.specs.declared.fault.Wrong.{Wrong}
use Rattle.unlang_cond.specs.Tokens.{token_at, awaits_after, depth_after, depth_from, wrong_at_end, read_in, tokens_of, StopsAt}

-- With turns enough for what is left of a text, what is read of it is the whole.
pub record Enough (depth : ℕ) (awaits : Bool) (out : List Token) (rest : List ℕ) (dict : Definitions) (whole : List Token × Option Wrong) : Type 0 where
  pub turns : ℕ
  pub enough : length rest ≤ turns
  pub same : read_in turns depth awaits out rest dict ≡ whole

one_read : (turns depth : ℕ) (awaits : Bool) (out : List Token) (c : ℕ) (rest : List ℕ) (dict : Definitions) (t : Token) (after : List ℕ) → token_at awaits depth (c ∷ rest) dict ≡ Ok (t, after)
    → read_in (suc turns) depth awaits out (c ∷ rest) dict ≡ read_in turns (depth_after t depth) (awaits_after t) (out ++ t ∷ []) (after_blanks after) dict
unfolding read_in
one_read turns depth awaits out c rest dict t after e = rw (e, read_in) refl

one_wrong : (turns depth : ℕ) (awaits : Bool) (out : List Token) (c : ℕ) (rest : List ℕ) (dict : Definitions) (wrong : Wrong) → token_at awaits depth (c ∷ rest) dict ≡ Err wrong
    → read_in (suc turns) depth awaits out (c ∷ rest) dict ≡ (out, Some wrong)
unfolding read_in
one_wrong turns depth awaits out c rest dict wrong e = rw (e, read_in) refl

all_read : (turns depth : ℕ) (awaits : Bool) (out : List Token) (dict : Definitions) → read_in turns depth awaits out [] dict ≡ (out, wrong_at_end awaits depth)
unfolding read_in
all_read turns depth awaits out dict = refl

pub starts : (text rest : List ℕ) (dict : Definitions) → rest ≡ after_blanks text → length rest ≤ length text → Enough 0 true [] rest dict (tokens_of text dict)
starts text rest dict e shorter = record { turns = length text; enough = shorter; same = ap (λ r. read_in (length text) 0 true [] r dict) e }

-- A token, and then what is read of what follows it.
pub going : (depth : ℕ) (awaits : Bool) (out : List Token) (rest : List ℕ) (dict : Definitions) (whole : List Token × Option Wrong) (t : Token) (after behind : List ℕ)
    → 0 < length rest → token_at awaits depth rest dict ≡ Ok (t, after) → behind ≡ after_blanks after → length behind < length rest
    → Enough depth awaits out rest dict whole → Enough (depth_after t depth) (awaits_after t) (out ++ t ∷ []) behind dict whole
going depth awaits out [] dict whole t after behind long e b shorter so_far = absurd (omega arith)
going depth awaits out (c ∷ rest) dict whole t after behind long e b shorter so_far = by so_far.turns so_far.enough so_far.same where
  by : (turns : ℕ) → length (c ∷ rest) ≤ turns → read_in turns depth awaits out (c ∷ rest) dict ≡ whole → Enough (depth_after t depth) (awaits_after t) (out ++ t ∷ []) behind dict whole
  by zero enough same = absurd (omega arith)
  by (suc turns) enough same = record {
    turns = turns;
    enough = omega arith;
    same = ap (λ r. read_in turns (depth_after t depth) (awaits_after t) (out ++ t ∷ []) r dict) b ∙ sym (one_read turns depth awaits out c rest dict t after e) ∙ same;
  }

-- What is wrong with the first token that can't be read.
pub goes_wrong : (depth : ℕ) (awaits : Bool) (out : List Token) (rest : List ℕ) (dict : Definitions) (whole : List Token × Option Wrong) (wrong : Wrong)
    → 0 < length rest → token_at awaits depth rest dict ≡ Err wrong → Enough depth awaits out rest dict whole → whole ≡ (out, Some wrong)
goes_wrong depth awaits out [] dict whole wrong long e so_far = absurd (omega arith)
goes_wrong depth awaits out (c ∷ rest) dict whole wrong long e so_far = by so_far.turns so_far.enough so_far.same where
  by : (turns : ℕ) → length (c ∷ rest) ≤ turns → read_in turns depth awaits out (c ∷ rest) dict ≡ whole → whole ≡ (out, Some wrong)
  by zero enough same = absurd (omega arith)
  by (suc turns) enough same = sym same ∙ one_wrong turns depth awaits out c rest dict wrong e

pub stops : (depth : ℕ) (awaits : Bool) (out : List Token) (rest : List ℕ) (dict : Definitions) (whole : List Token × Option Wrong) (error : ReadError Wrong) (wrong : Option Wrong)
    → 0 < length rest → Fails error (token_at awaits depth rest dict) → StopsAt error wrong → Enough depth awaits out rest dict whole → whole ≡ (out, wrong)
stops depth awaits out rest dict whole errors.NoMemory wrong long fails at so_far = absurd at
stops depth awaits out rest dict whole (errors.Wrong w) wrong long fails at so_far =
    goes_wrong depth awaits out rest dict whole w long fails so_far ∙ ap (λ (o : Option Wrong). (out, o)) (sym at)

-- Where nothing is left, what is wrong is what is wrong at the end.
pub is_done : (depth : ℕ) (awaits : Bool) (out : List Token) (rest : List ℕ) (dict : Definitions) (whole : List Token × Option Wrong)
    → rest ≡ [] → Enough depth awaits out rest dict whole → whole ≡ (out, wrong_at_end awaits depth)
is_done depth awaits out [] dict whole e so_far = sym so_far.same ∙ all_read so_far.turns depth awaits out dict
is_done depth awaits out (c ∷ rest) dict whole e so_far = absurd cc

-- The depth behind one more token.
pub one_deeper : (tokens : List Token) (depth : ℕ) (t : Token) → depth_from depth (tokens ++ t ∷ []) ≡ depth_after t (depth_from depth tokens)
unfolding depth_from
one_deeper [] depth t = refl
one_deeper (u ∷ tokens) depth t = one_deeper tokens (depth_after u depth) t

-- What holds of a result's value by two facts of it.
pub if_both : {T E : Type 0} (r : Result T E) {P Q R : T → Type 0} → ((x : T) → P x → Q x → R x) → IfOk r P → IfOk r Q → IfOk r R
if_both (Ok x) f p q = f x p q
if_both (Err e) f p q = tt
