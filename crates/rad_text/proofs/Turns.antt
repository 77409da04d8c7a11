-- The parts of a text, one turn at a time: what a loop over them keeps, whatever is made of them.
use Rattle.std.proofs.Common.{◌≡◌, ℕ, zero, suc, ◌<◌, ◌≤◌, List, [], ◌∷◌, length, Result, Ok, Err, refl, sym, ap, ◌∙◌, arith}
use Rattle.rad_text.specs.Parts.{parts_in, parts_of}

module _ {A F : Type 0} (part : List ℕ → Result (A × List ℕ) F) (stuck : F) where
  pub first_part : (turns : ℕ) (c : ℕ) (rest : List ℕ) (x : A) (after : List ℕ) → part (c ∷ rest) ≡ Ok (x, after) → parts_in part stuck (suc turns) (c ∷ rest) ≡ Ok x ∷ parts_in part stuck turns after
  unfolding parts_in
  first_part turns c rest x after e = rw (e, parts_in) refl

  first_wrong : (turns : ℕ) (c : ℕ) (rest : List ℕ) (fault : F) → part (c ∷ rest) ≡ Err fault → parts_in part stuck (suc turns) (c ∷ rest) ≡ Err fault ∷ []
  unfolding parts_in
  first_wrong turns c rest fault e = rw (e, parts_in) refl

  pub no_parts : (turns : ℕ) → parts_in part stuck turns [] ≡ []
  unfolding parts_in
  no_parts turns = refl

  -- With turns enough for what is left of a text, what is said of its parts is the whole.
  pub record Enough {Y : Type 0} (said : List (Result A F) → Y) (text : List ℕ) (total : Y) : Type 0 where
    pub turns : ℕ
    pub enough : length text ≤ turns
    pub same : said (parts_in part stuck turns text) ≡ total

  module _ {Y : Type 0} (said : List (Result A F) → Y) where
    pub starts : (text : List ℕ) → Enough said text (said (parts_of part stuck text))
    starts text = record { turns = length text; enough = omega arith; same = refl }

    -- The first part of a text that isn't empty, and then the parts of what follows it.
    pub goes_on : (next : List (Result A F) → Y) (text : List ℕ) (total : Y) (x : A) (after : List ℕ) → 0 < length text → part text ≡ Ok (x, after) → length after < length text
        → ((more : List (Result A F)) → next more ≡ said (Ok x ∷ more)) → Enough said text total → Enough next after total
    goes_on next [] total x after long e shorter step so_far = absurd (omega arith)
    goes_on next (c ∷ rest) total x after long e shorter step so_far = going so_far.turns so_far.enough so_far.same where
      going : (turns : ℕ) → length (c ∷ rest) ≤ turns → said (parts_in part stuck turns (c ∷ rest)) ≡ total → Enough next after total
      going zero enough same = absurd (omega arith)
      going (suc turns) enough same = record {
        turns = turns;
        enough = omega arith;
        same = step (parts_in part stuck turns after) ∙ ap said (sym (first_part turns c rest x after e)) ∙ same;
      }

    -- With its first part, what is said of the text's parts is the whole, whatever the others are called.
    pub goes_out : (text : List ℕ) (total : Y) (x : A) (after : List ℕ) → 0 < length text → part text ≡ Ok (x, after) → Enough said text total → (more : List (Result A F)) × (said (Ok x ∷ more) ≡ total)
    goes_out [] total x after long e so_far = absurd (omega arith)
    goes_out (c ∷ rest) total x after long e so_far = going so_far.turns so_far.enough so_far.same where
      going : (turns : ℕ) → length (c ∷ rest) ≤ turns → said (parts_in part stuck turns (c ∷ rest)) ≡ total → (more : List (Result A F)) × (said (Ok x ∷ more) ≡ total)
      going zero enough same = absurd (omega arith)
      going (suc turns) enough same = (parts_in part stuck turns after, ap said (sym (first_part turns c rest x after e)) ∙ same)

    -- The first part of a text, where it can't be read.
    pub goes_wrong : (text : List ℕ) (total : Y) (fault : F) → 0 < length text → part text ≡ Err fault → Enough said text total → said (Err fault ∷ []) ≡ total
    goes_wrong [] total fault long e so_far = absurd (omega arith)
    goes_wrong (c ∷ rest) total fault long e so_far = going so_far.turns so_far.enough so_far.same where
      going : (turns : ℕ) → length (c ∷ rest) ≤ turns → said (parts_in part stuck turns (c ∷ rest)) ≡ total → said (Err fault ∷ []) ≡ total
      going zero enough same = absurd (omega arith)
      going (suc turns) enough same = ap said (sym (first_wrong turns c rest fault e)) ∙ same

    -- Where nothing is left, what is said of no parts is the whole.
    pub is_done : (text : List ℕ) (total : Y) → length text ≡ 0 → Enough said text total → said [] ≡ total
    is_done [] total e so_far = ap said (sym (no_parts so_far.turns)) ∙ so_far.same
    is_done (c ∷ rest) total e so_far = absurd (omega arith)
