-- Texts that are joined and cut.
use Rattle.std.proofs.Common.{◌≡◌, ℕ, ◌≤◌, List, [], ◌∷◌, ◌++◌, length, take, sym, ap, ◌∙◌, length-append, arith}
use Rattle.std.proofs.lemmas.List.{append-nil, take-append-le}
use Rattle.rad_value.specs.declared.scope.Scope.{Scope}
use Rattle.rad_dict.specs.Definitions.{Definitions}
use Rattle.unlang_xlat.specs.declared.part.Part.{Part}
use Rattle.unlang_xlat.specs.declared.part.Part.TheOpen.{Part-F}
use Rattle.unlang_xlat.specs.declared.part.Part.TheFolds.{fold-roll-Part}
use Rattle.unlang_xlat.specs.declared.part.Part.TheVariants as part
use Rattle.unlang_xlat.specs.declared.part.Part.TheVariants.{rolls-Alternative}
use Rattle.unlang_xlat.specs.Texts.{cut, first_or, part_text, text_step}

-- A text that has its whole length already is cut as it is, whatever follows it.
cut_full : (text more : List ℕ) → 4096 ≤ length text → cut (text ++ more) ≡ cut text
unfolding cut
cut_full text more full = take-append-le 4096 text more full

pub cut_off : (text added more : List ℕ) → 4096 ≤ length text → cut (text ++ more) ≡ cut (text ++ (added ++ more))
cut_off text added more full = cut_full text more full ∙ sym (cut_full text (added ++ more) full)

-- What a text that is whole is cut to.
pub cut_done : (text more total : List ℕ) → more ≡ [] → cut (text ++ more) ≡ total → take 4096 text ≡ total
unfolding cut
cut_done text more total none so_far = ap (take 4096) (sym (append-nil text)) ∙ ap (λ (rest : List ℕ). take 4096 (text ++ rest)) (sym none) ∙ so_far

-- The second text stands where the first added nothing.
pub second_side : (old after_first after_second first second : List ℕ) → after_first ≡ old ++ first → length after_first ≡ length old → after_second ≡ after_first ++ second
    → after_second ≡ old ++ first_or first second
second_side old after_first after_second [] second e same f = f ∙ ap (λ (text : List ℕ). text ++ second) (e ∙ append-nil old)
second_side old after_first after_second (c ∷ first) second e same f = absurd (omega (arith, ap length e, length-append old (c ∷ first)))

-- An alternative's text, from those of its sides.
alternative_text : (scope : Scope) (dict : Definitions) (first second : Part) → part_text scope dict (part.Alternative first second) ≡ first_or (part_text scope dict first) (part_text scope dict second)
alternative_text scope dict first second =
    ap (part_text scope dict) (sym (rolls-Alternative first second)) ∙ fold-roll-Part (List ℕ) (text_step scope dict) (Part-F.Alternative first second)

pub second_text : (scope : Scope) (dict : Definitions) (one first second : Part) (old after_first after_second : List ℕ) → one ≡ part.Alternative first second → after_first ≡ old ++ part_text scope dict first
    → length after_first ≡ length old → after_second ≡ after_first ++ part_text scope dict second → after_second ≡ old ++ part_text scope dict one
second_text scope dict one first second old after_first after_second is e same f =
    second_side old after_first after_second (part_text scope dict first) (part_text scope dict second) e same f
    ∙ ap (λ (text : List ℕ). old ++ text) (sym (ap (part_text scope dict) is ∙ alternative_text scope dict first second))
