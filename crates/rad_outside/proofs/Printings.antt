-- Printing lines, one after another.
use Rattle.std.proofs.Common.{ℕ, ◌≡◌, ◌⊎◌, ◌++◌, take, drop, List, [], Option, Result, Ok, Err, IsErr, OnOk, inl, inr, refl, ap, sym, ◌∙◌, append-nil, append_assoc}
use Rattle.std.proofs.lemmas.List.{take-append-drop}
use Rattle.std.proofs.Math.Seq.{drop-length}
use Rattle.rad_outside.specs.declared.fault.Failed.{Failed}
use Rattle.rad_outside.specs.Sink.{Writes}
use Rattle.rad_outside.specs.Telling.{Tells}
use Rattle.rad_outside.specs.Printing.{Prints, PrintsWhole}
use Rattle.rad_outside.proofs.Tellings.{Tells-trans, Tells-same, Tells-weaker}

module _ (before now : Option (List ℕ)) where
  -- what is excused by less
  pub Prints-weaker : (lines : List ℕ) (A B : Type 0) → (A → B) → Tells before now (Prints lines A) → Tells before now (Prints lines B)
  Prints-weaker lines A B weaker = Tells-weaker (Prints lines B) before now (λ x y p. record {
    printed = p.printed;
    rest = p.rest;
    grows = p.grows;
    front = p.front;
    whole = elim p.whole [ inl none ↦ inl none | inr excuse ↦ inr (weaker excuse) ];
  })

  -- lines that were printed whole
  pub Prints-whole : (lines : List ℕ) (A : Type 0) → Tells before now (PrintsWhole lines) → Tells before now (Prints lines A)
  Prints-whole lines A = Tells-weaker (Prints lines A) before now (λ x y grows. record {
    printed = lines;
    rest = [];
    grows = grows;
    front = sym (append-nil lines);
    whole = inl refl;
  })

  -- lines that were cut short, and others that were to follow
  pub Prints-followed : (lines more : List ℕ) (A : Type 0) → A → Tells before now (Prints lines A) → Tells before now (Prints (lines ++ more) A)
  Prints-followed lines more A excuse = Tells-weaker (Prints (lines ++ more) A) before now (λ x y p. record {
    printed = p.printed;
    rest = p.rest ++ more;
    grows = p.grows;
    front = ap (λ l. l ++ more) p.front ∙ append_assoc p.printed p.rest more;
    whole = inr excuse;
  })

-- nothing was printed
pub Prints-nothing : (told : Option (List ℕ)) (lines : List ℕ) (A : Type 0) → A → Tells told told (Prints lines A)
Prints-nothing told lines A excuse = Tells-same (Prints lines A) told (λ x. record {
  printed = [];
  rest = lines;
  grows = sym (append-nil x);
  front = refl;
  whole = inr excuse;
})

-- lines behind others that were printed whole
pub Prints-behind : (a b c : Option (List ℕ)) (lines more : List ℕ) (A : Type 0) → Tells a b (PrintsWhole lines) → Tells b c (Prints more A) → Tells a c (Prints (lines ++ more) A)
Prints-behind a b c lines more A = Tells-trans (Prints (lines ++ more) A) a b c (λ x y z first second. record {
  printed = lines ++ second.printed;
  rest = second.rest;
  grows = second.grows ∙ ap (λ l. l ++ second.printed) first ∙ append_assoc x lines second.printed;
  front = ap (λ l. lines ++ l) second.front ∙ sym (append_assoc lines second.printed second.rest);
  whole = second.whole;
})

-- one write prints a front of its octets, and all of them where it was done
pub writes_front : (a b : Option (List ℕ)) (lines : List ℕ) (answer : Result (Unit {0}) Failed) (A : Type 0) → (IsErr answer → A) → Tells a b (Writes lines answer) → Tells a b (Prints lines A)
writes_front a b lines (Ok done) A excuse = Tells-weaker (Prints lines A) a b (λ x y w. record {
  printed = take w.0 lines;
  rest = drop w.0 lines;
  grows = w.1;
  front = sym (take-append-drop w.0 lines);
  whole = inl (ap (λ n. drop n lines) w.2 ∙ drop-length lines);
})
writes_front a b lines (Err failed) A excuse = Tells-weaker (Prints lines A) a b (λ x y w. record {
  printed = take w.0 lines;
  rest = drop w.0 lines;
  grows = w.1;
  front = sym (take-append-drop w.0 lines);
  whole = inr (excuse refl);
})

-- a write that was done prints its octets
pub writes_whole : (a b : Option (List ℕ)) (lines : List ℕ) (answer : Result (Unit {0}) Failed) → Tells a b (Writes lines answer) → OnOk answer (Tells a b (Prints lines ⊥))
writes_whole a b lines (Ok done) = λ w. writes_front a b lines (Ok done) ⊥ (λ wrong. cc) w
writes_whole a b lines (Err failed) = λ w. tt
