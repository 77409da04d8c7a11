-- What is left of a condition where something is wrong with it.
use Rattle.std.proofs.Common.{◌≡◌, ℕ, zero, suc, false, eqb, List, [], ◌∷◌, ◌++◌, length, take, drop, Option, Some, None, Result, Ok, Err, slice_index, inl, inr, refl, sym, ap, ◌∙◌, append_assoc, subst}
use Rattle.std.proofs.lemmas.Bool.{cases_Bool}
use Rattle.std.proofs.lemmas.List.{take-append-drop}
use Rattle.std.specs.Prelude.{◌⊎◌}
use Rattle.rad_text.specs.Blanks.{is_blank, after_blanks}
use Rattle.rad_text.specs.Read.{◌>>=◌}
use Rattle.unlang_cond.specs.declared.atom.Pattern.{Pattern}
use Rattle.unlang_cond.specs.declared.fault.Wrong.{Wrong}
use Rattle.unlang_cond.specs.declared.fault.Wrong.TheVariants.{BadCondition, UnknownAttr}

-- The text is the end of the whole.
pub record IsLeft (whole text : List ℕ) : Type 0 where
  pub front : List ℕ
  pub same : whole ≡ front ++ text

-- No blank stands at its front.
abbrev pub IsClear : List ℕ → Type 0
IsClear [] = Unit {0}
IsClear (c ∷ text) = is_blank c ≡ false

-- So many octets are left from a part on, and from one of two octets on.
pub record AtPart (whole : List ℕ) (left : ℕ) : Type 0 where
  pub back : List ℕ
  pub is_left : IsLeft whole back
  pub size : left ≡ length back
  pub clear : IsClear back

pub record AtOctet (whole : List ℕ) (left octet : ℕ) : Type 0 where
  pub back : List ℕ
  pub is_left : IsLeft whole back
  pub size : left ≡ length back
  pub octet_is : slice_index back 0 ≡ octet
  pub some : eqb octet 0 ≡ false

abbrev pub IsWrongAt : List ℕ → Wrong → Type 0
IsWrongAt whole (BadCondition left) = AtPart whole left
IsWrongAt whole (UnknownAttr left) = AtOctet whole left 38 ⊎ AtOctet whole left 34

-- A reading that goes on within the whole with what meets P, or is wrong at a place of it.
abbrev pub Within : {A : Type 0} → List ℕ → (A → Type 0) → Result (A × List ℕ) Wrong → Type 0
Within whole P (Ok x) = P x.0 × IsLeft whole x.1
Within whole P (Err wrong) = IsWrongAt whole wrong

abbrev pub WithinAlone : {A : Type 0} → List ℕ → (A → Type 0) → Result A Wrong → Type 0
WithinAlone whole P (Ok x) = P x
WithinAlone whole P (Err wrong) = IsWrongAt whole wrong

pub then_within : {A B : Type 0} (whole : List ℕ) (P : A → Type 0) (Q : B → Type 0) (r : Result (A × List ℕ) Wrong) (f : A × List ℕ → Result (B × List ℕ) Wrong) → Within whole P r
    → ((x : A) (rest : List ℕ) → P x → IsLeft whole rest → Within whole Q (f (x, rest))) → Within whole Q (r >>= f)
then_within whole P Q (Ok x) f is goes = goes x.0 x.1 is.0 is.1
then_within whole P Q (Err wrong) f is goes = is

pub alone_within : {A B : Type 0} (whole : List ℕ) (P : A → Type 0) (Q : B → Type 0) (r : Result A Wrong) (f : A → Result (B × List ℕ) Wrong) → WithinAlone whole P r → ((x : A) → P x → Within whole Q (f x)) → Within whole Q (r >>= f)
alone_within whole P Q (Ok x) f is goes = goes x is
alone_within whole P Q (Err wrong) f is goes = is

pub dropped : (whole text : List ℕ) (n : ℕ) → IsLeft whole text → IsLeft whole (drop n text)
dropped whole text n is = record {
  front = is.front ++ take n text;
  same = is.same ∙ ap (λ (xs : List ℕ). is.front ++ xs) (sym (take-append-drop n text)) ∙ sym (append_assoc is.front (take n text) (drop n text));
}

-- Blanks that are passed over.
blanks_dropped : (text : List ℕ) → (n : ℕ) × (after_blanks text ≡ drop n text)
unfolding after_blanks
blanks_dropped [] = (0, refl)
blanks_dropped (c ∷ text) =
    let later = blanks_dropped text in
    elim (cases_Bool (is_blank c)) [
      | inl blank ↦ (suc later.0, rw (blank, after_blanks) later.1)
      | inr part ↦ (0, rw (part, after_blanks) refl)
    ]

pub blanks_left : (whole text : List ℕ) → IsLeft whole text → IsLeft whole (after_blanks text)
blanks_left whole text is = subst (IsLeft whole) (sym (blanks_dropped text).1) (dropped whole text (blanks_dropped text).0 is)

pub blanks_clear : (text : List ℕ) → IsClear (after_blanks text)
unfolding after_blanks
blanks_clear [] = tt
blanks_clear (c ∷ text) =
    let later = blanks_clear text in
    elim (cases_Bool (is_blank c)) [
      | inl blank ↦ rw (blank, after_blanks) later
      | inr part ↦ rw (part, after_blanks) part
    ]

-- The first octet of a word is that of its text.
abbrev pub HasFront : List ℕ → List ℕ → Type 0
HasFront [] text = Unit {0}
HasFront (c ∷ word) text = slice_index text 0 ≡ c

pub front_taken : (n : ℕ) (text : List ℕ) → HasFront (take n text) text
front_taken zero text = tt
front_taken (suc n) [] = tt
front_taken (suc n) (c ∷ text) = refl

pub here : (whole text : List ℕ) → IsLeft whole text → IsClear text → AtPart whole (length text)
here whole text is clear = record { back = text; is_left = is; size = refl; clear = clear }

pub octet_here : (whole text : List ℕ) (octet : ℕ) → IsLeft whole text → slice_index text 0 ≡ octet → eqb octet 0 ≡ false → AtOctet whole (length text) octet
octet_here whole text octet is same some = record { back = text; is_left = is; size = refl; octet_is = same; some = some }

pub alone_then : {A B : Type 0} (whole : List ℕ) (P : A → Type 0) (Q : B → Type 0) (r : Result A Wrong) (f : A → Result B Wrong) → WithinAlone whole P r → ((x : A) → P x → WithinAlone whole Q (f x)) → WithinAlone whole Q (r >>= f)
alone_then whole P Q (Ok x) f is goes = goes x is
alone_then whole P Q (Err wrong) f is goes = is

-- Nothing is asked of what was read.
abbrev pub Any : {A : Type 0} → A → Type 0
Any x = Unit {0}

-- A pattern stands at its slash.
abbrev pub IsSlash : List ℕ → Option Pattern → Type 0
IsSlash whole None = Unit {0}
IsSlash whole (Some pattern) = AtOctet whole pattern.left 47
