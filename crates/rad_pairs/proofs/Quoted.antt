-- Texts in double quotes that are printed and read again.
use Rattle.std.proofs.Common.{◌≡◌, ℕ, ◌+◌, ◌-◌, ◌*◌, ◌/◌, ◌%◌, ◌<◌, ◌≤◌, true, false, eqb, List, [], ◌∷◌, ◌++◌, Some, refl, sym, ap, subst, ◌∙◌, append_assoc, inl, inr, arith}
use Rattle.std.specs.List.{flat_map}
use Rattle.std.specs.Int.{is_in_range}
use Rattle.std.proofs.lemmas.Bool.{cases_Bool, leb-true, ne_eqb, le-leb, and_parts, cases_eq}
use Rattle.std.proofs.lemmas.List.Concat.{flat_map-cons}
use Rattle.rad_pairs.specs.ValueText.{escaped, quoted}
use Rattle.rad_pairs.specs.Words.{behind, double_quoted, word_at}
use Rattle.rad_pairs.specs.ReadingBack.{AreOctets}

-- Each way in which an octet is printed reads as that octet.
quote_read : (more : List ℕ) → double_quoted 0 (92 ∷ 34 ∷ more) ≡ behind 34 (double_quoted 0 more)
unfolding double_quoted
quote_read more = refl

backslash_read : (more : List ℕ) → double_quoted 0 (92 ∷ 92 ∷ more) ≡ behind 92 (double_quoted 0 more)
unfolding double_quoted
backslash_read more = refl

plain_read : (c : ℕ) (more : List ℕ) → eqb c 34 ≡ false → eqb c 10 ≡ false → eqb c 92 ≡ false → double_quoted 0 (c ∷ more) ≡ behind c (double_quoted 0 more)
unfolding double_quoted
plain_read c more quote line backslash = rw (quote, line, backslash, double_quoted) refl

octal_read : (a b d : ℕ) (more : List ℕ) → 48 ≤ a → a ≤ 51 → 48 ≤ b → b ≤ 55 → 48 ≤ d → d ≤ 55
    → double_quoted 0 (92 ∷ a ∷ b ∷ d ∷ more) ≡ behind ((a - 48) * 64 + (b - 48) * 8 + (d - 48)) (double_quoted 0 more)
unfolding double_quoted
octal_read a b d more a0 a1 b0 b1 d0 d1 =
    let quote : eqb a 34 ≡ false = ne_eqb a 34 (λ e. omega arith) in
    let backslash : eqb a 92 ≡ false = ne_eqb a 92 (λ e. omega arith) in
    rw (quote, backslash, le-leb 48 a a0, le-leb a 51 a1, le-leb 48 b b0, le-leb b 55 b1, le-leb 48 d d0, le-leb d 55 d1, double_quoted) refl

printable_read : (c : ℕ) (more : List ℕ) → eqb c 34 ≡ false → eqb c 92 ≡ false → is_in_range 32 126 c ≡ true → double_quoted 0 (escaped c ++ more) ≡ behind c (double_quoted 0 more)
printable_read c more quote backslash range =
    let low : 32 ≤ c = leb-true 32 c (and_parts _ _ range).0 in
    rw (quote, backslash, range) (plain_read c more quote (ne_eqb c 10 (λ e. omega arith)) backslash)

other_read : (c : ℕ) (more : List ℕ) → c < 256 → eqb c 34 ≡ false → eqb c 92 ≡ false → is_in_range 32 126 c ≡ false → double_quoted 0 (escaped c ++ more) ≡ behind c (double_quoted 0 more)
other_read c more lt quote backslash range =
    let value : (48 + c / 64 - 48) * 64 + (48 + c / 8 % 8 - 48) * 8 + (48 + c % 8 - 48) ≡ c = omega arith in
    rw (quote, backslash, range)
    (octal_read (48 + c / 64) (48 + c / 8 % 8) (48 + c % 8) more (omega arith) (omega arith) (omega arith) (omega arith) (omega arith) (omega arith)
    ∙ ap (λ (k : ℕ). behind k (double_quoted 0 more)) value)

escaped_read : (c : ℕ) (more : List ℕ) → c < 256 → double_quoted 0 (escaped c ++ more) ≡ behind c (double_quoted 0 more)
escaped_read c more lt =
    elim (cases_eq c 34) [
      | inl quote ↦ subst (λ (k : ℕ). double_quoted 0 (escaped k ++ more) ≡ behind k (double_quoted 0 more)) (sym quote) (quote_read more)
      | inr no_quote ↦
          elim (cases_eq c 92) [
            | inl backslash ↦ subst (λ (k : ℕ). double_quoted 0 (escaped k ++ more) ≡ behind k (double_quoted 0 more)) (sym backslash) (backslash_read more)
            | inr no_backslash ↦
                elim (cases_Bool (is_in_range 32 126 c)) [
                  | inl range ↦ printable_read c more (ne_eqb c 34 no_quote) (ne_eqb c 92 no_backslash) range
                  | inr range ↦ other_read c more lt (ne_eqb c 34 no_quote) (ne_eqb c 92 no_backslash) range
                ]
          ]
    ]

texts_read : (text tail : List ℕ) → AreOctets text → double_quoted 0 (flat_map escaped text ++ 34 ∷ tail) ≡ Some (text, tail)
unfolding double_quoted
texts_read [] tail all = refl
texts_read (c ∷ text) tail all =
    ap (double_quoted 0) (ap (λ (octets : List ℕ). octets ++ 34 ∷ tail) (flat_map-cons escaped c text) ∙ append_assoc (escaped c) (flat_map escaped text) (34 ∷ tail))
    ∙ escaped_read c (flat_map escaped text ++ 34 ∷ tail) all.0
    ∙ ap (behind c) (texts_read text tail all.1)

pub quoted_read : (text tail : List ℕ) → AreOctets text → word_at (quoted text ++ tail) ≡ Some (text, tail)
unfolding quoted word_at
quoted_read text tail all = ap (double_quoted 0) (append_assoc (flat_map escaped text) (34 ∷ []) tail) ∙ texts_read text tail all
