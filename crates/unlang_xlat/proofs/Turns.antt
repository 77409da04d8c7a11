-- The parts of an expansion, one at a time: what a loop over them keeps.
use Rattle.std.proofs.Common.{◌≡◌, ℕ, zero, suc, ◌<◌, ◌≤◌, true, false, List, [], ◌∷◌, ◌++◌, length, Option, Ok, Err, refl, sym, ap, subst, ◌∙◌, append_assoc, arith}
use Rattle.std.proofs.lemmas.List.{append-nil}
use Rattle.std.specs.Option.{is_some}
use Rattle.rad_text.specs.declared.read.ReadError.{ReadError}
use Rattle.rad_text.specs.declared.read.ReadError.TheVariants as errors
use Rattle.rad_text.specs.Read.{Read, ◌>>=◌, Fails}
use Rattle.unlang_xlat.specs.declared.fault.Wrong.{Wrong}
use Rattle.unlang_xlat.specs.declared.part.Part.{Part}
use Rattle.unlang_xlat.specs.Reading.{Reader, piece_at, closes, ended, before, parts_in}

-- These parts before what is read.
abbrev pub in_front : List Part → Read (List Part) Wrong → Read (List Part) Wrong
in_front front read = read >>= λ parts. Ok (front ++ parts.0, parts.1)

in_front-before : (front : List Part) (one : Part) (read : Read (List Part) Wrong) → in_front front (before one read) ≡ in_front (front ++ one ∷ []) read
in_front-before front one (Ok parts) = ap (λ (all : List Part). Ok (all, parts.1)) (sym (append_assoc front (one ∷ []) parts.0))
in_front-before front one (Err wrong) = refl

in_front-nil : (read : Read (List Part) Wrong) → in_front [] read ≡ read
in_front-nil (Ok parts) = refl
in_front-nil (Err wrong) = refl

module _ (braced : Reader) (outer : Option ℕ) where
  -- With turns enough for what is left of a text, the parts that were read and those that are left are the whole.
  pub record Enough (front : List Part) (text : List ℕ) (total : Read (List Part) Wrong) : Type 0 where
    pub turns : ℕ
    pub enough : length text ≤ turns
    pub same : in_front front (parts_in braced outer turns text) ≡ total

  pub starts : (text : List ℕ) → Enough [] text (parts_in braced outer (length text) text)
  starts text = record { turns = length text; enough = omega arith; same = in_front-nil (parts_in braced outer (length text) text) }

  pub goes_on : (front : List Part) (c : ℕ) (rest : List ℕ) (total : Read (List Part) Wrong) (one : Part) (after : List ℕ) → closes outer c ≡ false → piece_at braced (is_some outer) (c ∷ rest) ≡ Ok (one, after)
      → length after < length (c ∷ rest) → Enough front (c ∷ rest) total → Enough (front ++ one ∷ []) after total
  unfolding parts_in
  goes_on front c rest total one after stays e shorter so_far = going so_far.turns so_far.enough so_far.same where
    going : (turns : ℕ) → length (c ∷ rest) ≤ turns → in_front front (parts_in braced outer turns (c ∷ rest)) ≡ total → Enough (front ++ one ∷ []) after total
    going zero enough same = absurd (omega arith)
    going (suc turns) enough same = record {
      turns = turns;
      enough = omega arith;
      same = sym (in_front-before front one (parts_in braced outer turns after)) ∙ (rw (stays, e) at same);
    }

  -- The same of a text by another name.
  pub goes_on_at : (front : List Part) (text : List ℕ) (c : ℕ) (rest : List ℕ) (total : Read (List Part) Wrong) (one : Part) (after : List ℕ) → text ≡ c ∷ rest → closes outer c ≡ false
      → piece_at braced (is_some outer) text ≡ Ok (one, after) → length after < length text → Enough front text total → Enough (front ++ one ∷ []) after total
  goes_on_at front text c rest total one after e = subst (λ (t : List ℕ). closes outer c ≡ false → piece_at braced (is_some outer) t ≡ Ok (one, after) → length after < length t → Enough front t total
      → Enough (front ++ one ∷ []) after total) (sym e) (goes_on front c rest total one after)

  pub goes_wrong : (front : List Part) (c : ℕ) (rest : List ℕ) (total : Read (List Part) Wrong) (error : ReadError Wrong) → closes outer c ≡ false → Fails error (piece_at braced (is_some outer) (c ∷ rest))
      → Enough front (c ∷ rest) total → Fails error total
  unfolding parts_in
  goes_wrong front c rest total errors.NoMemory stays e so_far = tt
  goes_wrong front c rest total (errors.Wrong wrong) stays e so_far = going so_far.turns so_far.enough so_far.same where
    going : (turns : ℕ) → length (c ∷ rest) ≤ turns → in_front front (parts_in braced outer turns (c ∷ rest)) ≡ total → total ≡ Err wrong
    going zero enough same = absurd (omega arith)
    going (suc turns) enough same = sym (rw (stays, e) at same)

  pub closed : (front : List Part) (c : ℕ) (rest : List ℕ) (total : Read (List Part) Wrong) → closes outer c ≡ true → Enough front (c ∷ rest) total → total ≡ Ok (front, rest)
  unfolding parts_in
  closed front c rest total closing so_far = going so_far.turns so_far.enough so_far.same where
    going : (turns : ℕ) → length (c ∷ rest) ≤ turns → in_front front (parts_in braced outer turns (c ∷ rest)) ≡ total → total ≡ Ok (front, rest)
    going zero enough same = absurd (omega arith)
    going (suc turns) enough same = sym (rw closing at same) ∙ ap (λ (all : List Part). Ok (all, rest)) (append-nil front)

  pub is_done : (front : List Part) (text : List ℕ) (total : Read (List Part) Wrong) → length text ≡ 0 → Enough front text total → total ≡ in_front front (ended outer)
  unfolding parts_in
  is_done front [] total e so_far = sym so_far.same
  is_done front (c ∷ rest) total e so_far = absurd (omega arith)
