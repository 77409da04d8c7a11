-- Spans of texts that are written: each ends where it is written to end.
use Rattle.std.proofs.Common.{◌≡◌, ℕ, suc, Bool, true, false, ◌||◌, ◌==◌, eqb, List, [], ◌∷◌, ◌++◌, length, take, drop, inl, inr, refl, ap, ◌∙◌}
use Rattle.std.proofs.Math.Seq.{take-append_seam, drop-append_seam}
use Rattle.std.proofs.lemmas.Bool.{cases_Bool}
use Rattle.unlang_xlat.specs.Spans.{len_before}
use Rattle.unlang_xlat.specs.Written.{lacks}

-- The text ends here, or one of the two octets stands here.
abbrev pub stops : ℕ → ℕ → List ℕ → Bool
stops one other [] = true
stops one other (c ∷ rest) = c == one || c == other

pub lacks_parts : (octet c : ℕ) (text : List ℕ) → lacks octet (c ∷ text) ≡ true → (eqb c octet ≡ false) × (lacks octet text ≡ true)
lacks_parts octet c text none =
    elim (cases_Bool (eqb c octet)) [
      | inl is ↦ let never : false ≡ true = rw is at none in absurd cc
      | inr isnt ↦ (isnt, rw isnt at none)
    ]

pub lacks_append : (octet : ℕ) (front back : List ℕ) → lacks octet front ≡ true → lacks octet back ≡ true → lacks octet (front ++ back) ≡ true
lacks_append octet [] back a b = b
lacks_append octet (c ∷ front) back a b = let parts = lacks_parts octet c front a in rw parts.0 (lacks_append octet front back parts.1 b)

pub span_len : (one other : ℕ) (text rest : List ℕ) → lacks one text ≡ true → lacks other text ≡ true → stops one other rest ≡ true → len_before one other (text ++ rest) ≡ length text
unfolding len_before
span_len one other [] [] a b stop = refl
span_len one other [] (c ∷ rest) a b stop = rw stop refl
span_len one other (c ∷ text) rest a b stop =
    let first = lacks_parts one c text a in
    let second = lacks_parts other c text b in
    rw (first.0, second.0) (ap suc (span_len one other text rest first.1 second.1 stop))

pub span_taken : (one other : ℕ) (text rest : List ℕ) → lacks one text ≡ true → lacks other text ≡ true → stops one other rest ≡ true → take (len_before one other (text ++ rest)) (text ++ rest) ≡ text
span_taken one other text rest a b stop = ap (λ (n : ℕ). take n (text ++ rest)) (span_len one other text rest a b stop) ∙ take-append_seam text rest

pub span_dropped : (one other : ℕ) (text rest : List ℕ) → lacks one text ≡ true → lacks other text ≡ true → stops one other rest ≡ true → drop (len_before one other (text ++ rest)) (text ++ rest) ≡ rest
span_dropped one other text rest a b stop = ap (λ (n : ℕ). drop n (text ++ rest)) (span_len one other text rest a b stop) ∙ drop-append_seam text rest
