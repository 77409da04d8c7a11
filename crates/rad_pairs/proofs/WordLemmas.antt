-- Words that are read one octet at a time.
use Rattle.std.proofs.Common.{◌≡◌, ℕ, zero, suc, ◌+◌, false, eqb, List, [], ◌∷◌, ◌++◌, take, drop, Option, Some, None, add-one, refl, sym, ap, ◌∙◌, append_assoc}
use Rattle.std.proofs.lemmas.Bool.{cond-false}
use Rattle.rad_pairs.specs.Words.{behind, written, single_quoted, double_quoted}

-- These octets before what is read from a text.
abbrev pub in_front : List ℕ → Option (List ℕ × List ℕ) → Option (List ℕ × List ℕ)
in_front front None = None
in_front front (Some read) = Some (front ++ read.0, read.1)

in_front-behind : (front : List ℕ) (c : ℕ) (read : Option (List ℕ × List ℕ)) → in_front front (behind c read) ≡ in_front (front ++ c ∷ []) read
in_front-behind front c None = refl
in_front-behind front c (Some read) = ap (λ (octets : List ℕ). Some (octets, read.1)) (sym (append_assoc front (c ∷ []) read.0))

pub in_front-nil : (read : Option (List ℕ × List ℕ)) → in_front [] read ≡ read
in_front-nil None = refl
in_front-nil (Some read) = refl

-- An octet that is neither a quote nor a line end.
pub single_goes_on : (front : List ℕ) (c : ℕ) (rest : List ℕ) → eqb c 39 ≡ false → eqb c 10 ≡ false → in_front front (single_quoted (c ∷ rest)) ≡ in_front (front ++ c ∷ []) (single_quoted rest)
unfolding single_quoted
single_goes_on front c rest quote line = ap (in_front front) (cond-false _ _ _ quote ∙ cond-false _ _ _ line) ∙ in_front-behind front c (single_quoted rest)

passed : (n : ℕ) (text : List ℕ) → double_quoted n text ≡ double_quoted 0 (drop n text)
unfolding double_quoted
passed zero text = refl
passed (suc n) [] = refl
passed (suc n) (c ∷ rest) = passed n rest

pub double_goes_on : (front : List ℕ) (c : ℕ) (rest : List ℕ) → eqb c 34 ≡ false → eqb c 10 ≡ false
    → in_front front (double_quoted 0 (c ∷ rest)) ≡ in_front (front ++ (written c rest).0 ∷ []) (double_quoted 0 (drop (written c rest).1 rest))
unfolding double_quoted
double_goes_on front c rest quote line =
    ap (in_front front) (cond-false _ _ _ quote ∙ cond-false _ _ _ line)
    ∙ in_front-behind front (written c rest).0 (double_quoted (written c rest).1 rest)
    ∙ ap (in_front (front ++ (written c rest).0 ∷ [])) (passed (written c rest).1 rest)

-- One octet further in a text.
pub take_next : (n : ℕ) (text : List ℕ) (c : ℕ) (rest : List ℕ) → drop n text ≡ c ∷ rest → take (n + 1) text ≡ take n text ++ c ∷ []
take_next n text c rest e = rw add-one (go n text e) where
  go : (n : ℕ) (text : List ℕ) → drop n text ≡ c ∷ rest → take (suc n) text ≡ take n text ++ c ∷ []
  go zero [] e = absurd cc
  go zero (d ∷ more) e = let same : d ≡ c = cc in rw same refl
  go (suc n) [] e = absurd cc
  go (suc n) (d ∷ more) e = ap (λ (octets : List ℕ). d ∷ octets) (go n more e)

pub drop_next : (n : ℕ) (text : List ℕ) (c : ℕ) (rest : List ℕ) → drop n text ≡ c ∷ rest → drop (n + 1) text ≡ rest
drop_next n text c rest e = rw add-one (go n text e) where
  go : (n : ℕ) (text : List ℕ) → drop n text ≡ c ∷ rest → drop (suc n) text ≡ rest
  go zero [] e = absurd cc
  go zero (d ∷ more) e = cc
  go (suc n) [] e = absurd cc
  go (suc n) (d ∷ more) e = go n more e
