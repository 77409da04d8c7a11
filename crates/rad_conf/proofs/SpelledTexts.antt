-- Octets are read as the text that they spell.
use Rattle.std.proofs.Common.{◌≡◌, ℕ, zero, suc, ◌+◌, ◌≤◌, Bool, true, false, ◌==◌, cond, List, [], ◌∷◌, ◌++◌, length, take, drop, Option, Some, None, Result, Ok, Err, refl, sym, ap, subst, ◌∙◌, append_assoc, arith}
use Rattle.std.proofs.lemmas.List.{length-append, append-nil}
use Rattle.std.proofs.lemmas.Bool.{eqb-true}
use Rattle.std.proofs.lemmas.Grind.{common_steps}
use Rattle.rad_text.specs.Read.{◌>>=◌}
use Rattle.rad_conf.specs.declared.fault.Wrong.{Wrong}
use Rattle.rad_conf.specs.declared.fault.Wrong.TheVariants as wrong
use Rattle.rad_conf.specs.declared.spelling.Spelling.{Spelling}
use Rattle.rad_conf.specs.declared.spelling.Ahead.{Ahead}
use Rattle.rad_conf.specs.declared.spelling.Ahead.TheVariants.{Reads, Passes}
use Rattle.rad_conf.specs.declared.growth.Growth.{Growth}
use Rattle.rad_conf.specs.Signs.{variable_at}
use Rattle.rad_conf.specs.Variables.{value_of}
use Rattle.rad_conf.specs.Words.{escape_of, has_escapes, has_variables, variable_in, behind, variable_part, reads, spelled_from}
use Rattle.rad_conf.specs.Spelling.{has_matching, in_braces, is_quoted, HasNoVariable, IsSpelled}
use Rattle.rad_conf.proofs.Quoted.{front}
use Rattle.rad_conf.proofs.Spellings.{braces_there, braces_found}
use Rattle.rad_conf.proofs.BareWords.{braces_front, braces_length}

-- Variables, as they are written and as the code finds them.
variable_there : (name rest : List ℕ) → has_matching 0 name ≡ true → variable_at (36 ∷ in_braces name rest) ≡ Some (length name)
unfolding variable_at
variable_there name rest matching = braces_there name rest matching

pub variable_found : (n : ℕ) (text : List ℕ) → variable_at text ≡ Some n → (name : List ℕ) × (after : List ℕ) × (text ≡ 36 ∷ in_braces name after) × (has_matching 0 name ≡ true)
unfolding variable_at
variable_found n [] e = absurd cc
variable_found n (c ∷ rest) e = by (c == 36) refl where
  by : (b : Bool) → (c == 36) ≡ b → (name : List ℕ) × (after : List ℕ) × (c ∷ rest ≡ 36 ∷ in_braces name after) × (has_matching 0 name ≡ true)
  by true here = let (name, after, is, matching) = braces_found n rest (grind (arith, common_steps)) in (name, after, grind (arith, common_steps, is), matching)
  by false here = absurd (grind (arith, common_steps))

pub no_variable : (text : List ℕ) → variable_at text ≡ None → HasNoVariable text
no_variable text e name rest matching is = let there : variable_at text ≡ Some (length name) = ap variable_at is ∙ variable_there name rest matching in absurd cc

pub none_there : (text : List ℕ) → HasNoVariable text → variable_at text ≡ None
none_there text none = by (variable_at text) refl where
  by : (found : Option ℕ) → variable_at text ≡ found → variable_at text ≡ None
  by None e = e
  by (Some n) e = let (name, after, is, matching) = variable_found n text e in absurd (none name after matching is)

none_in : (how : Spelling) (text : List ℕ) → (has_variables how ≡ true → HasNoVariable text) → variable_in how text ≡ None
none_in how text none = by (has_variables how) refl where
  by : (b : Bool) → has_variables how ≡ b → variable_in how text ≡ None
  by true has = rw has (none_there text (none has))
  by false has = rw has refl

abbrev pub Text : Type 0
Text = Result (List ℕ) Wrong

abbrev pub made : List ℕ → Text
made text = Ok text

module _ (growth : Growth) (how : Spelling) where
  passes : (xs rest out : List ℕ) (x : ℕ) → spelled_from growth how out (Passes (length (x ∷ xs))) ((x ∷ xs) ++ rest) ≡ spelled_from growth how out Reads rest
  unfolding spelled_from
  passes [] rest out x = grind (arith, common_steps)
  passes (y ∷ xs) rest out x = grind (arith, common_steps, passes xs rest out y)

  -- One octet, escape or variable more.
  octet_step : (out raw : List ℕ) (c : ℕ) → (has_escapes how ≡ true → (c == 92) ≡ false) → variable_in how (c ∷ raw) ≡ None → spelled_from growth how out Reads (c ∷ raw) ≡ spelled_from growth how (out ++ c ∷ []) Reads raw
  unfolding spelled_from
  octet_step out raw c plain none = by (has_escapes how) refl where
    by : (b : Bool) → has_escapes how ≡ b → spelled_from growth how out Reads (c ∷ raw) ≡ spelled_from growth how (out ++ c ∷ []) Reads raw
    by true has = rw (has, plain has, none) refl
    by false has = rw (has, none) refl

  escape_step : (out raw : List ℕ) (c : ℕ) → has_escapes how ≡ true → spelled_from growth how out Reads (92 ∷ c ∷ raw) ≡ spelled_from growth how (out ++ escape_of how c) Reads raw
  unfolding spelled_from
  escape_step out raw c has = rw has refl

  variable_reads : (out name raw : List ℕ) → has_variables how ≡ true → has_matching 0 name ≡ true
      → reads growth how out (36 ∷ in_braces name raw) ≡ (behind out (variable_part growth (length name) (36 ∷ in_braces name raw)) >>= (λ (part : List ℕ × ℕ). Ok (part.0, Passes part.1)))
  variable_reads out name raw has matching = by (has_escapes how) refl where
    by : (b : Bool) → has_escapes how ≡ b
        → reads growth how out (36 ∷ in_braces name raw) ≡ (behind out (variable_part growth (length name) (36 ∷ in_braces name raw)) >>= (λ (part : List ℕ × ℕ). Ok (part.0, Passes part.1)))
    by true takes = rw (takes, has, variable_there name raw matching) refl
    by false takes = rw (takes, has, variable_there name raw matching) refl

  name_there : (name raw : List ℕ) → take (length name) (drop 2 (36 ∷ in_braces name raw)) ≡ name
  name_there name raw = front name raw 125

  variable_good : (out name raw value : List ℕ) → has_variables how ≡ true → has_matching 0 name ≡ true → value_of growth name ≡ Some value → spelled_from growth how out Reads (36 ∷ in_braces name raw) ≡ spelled_from growth how (out ++ value) Reads raw
  unfolding spelled_from
  variable_good out name raw value has matching is =
      ap (λ (said : Result (List ℕ × Ahead) Wrong). said >>= (λ (next : List ℕ × Ahead). spelled_from growth how next.0 next.1 (in_braces name raw))) (variable_reads out name raw has matching)
      ∙ rw (name_there name raw) (rw is later)
    where
      size : length name + 2 ≡ length (123 ∷ (name ++ 125 ∷ []))
      size = omega (arith, length-append name (125 ∷ []))

      later : spelled_from growth how (out ++ value) (Passes (length name + 2)) (in_braces name raw) ≡ spelled_from growth how (out ++ value) Reads raw
      later = ap (λ (n : ℕ). spelled_from growth how (out ++ value) (Passes n) (in_braces name raw)) size ∙ ap (spelled_from growth how (out ++ value) (Passes (length (123 ∷ (name ++ 125 ∷ []))))) (braces_front name raw) ∙ passes (name ++ 125 ∷ []) raw (out ++ value) 123

  variable_bad : (out name raw : List ℕ) → has_variables how ≡ true → has_matching 0 name ≡ true → value_of growth name ≡ None → spelled_from growth how out Reads (36 ∷ in_braces name raw) ≡ Err wrong.NoVariable
  unfolding spelled_from
  variable_bad out name raw has matching is =
      ap (λ (said : Result (List ℕ × Ahead) Wrong). said >>= (λ (next : List ℕ × Ahead). spelled_from growth how next.0 next.1 (in_braces name raw))) (variable_reads out name raw has matching)
      ∙ rw (name_there name raw) (rw is refl)

  -- What is spelled so is read.
  pub spelled_read : (out : List ℕ) {raw text : List ℕ} → IsSpelled (value_of growth) how raw text → spelled_from growth how out Reads raw ≡ made (out ++ text)
  unfolding spelled_from
  spelled_read out IsSpelled.nothing = ap made (sym (append-nil out))
  spelled_read out (IsSpelled.octet c raw text plain none more) = octet_step out raw c plain (none_in how (c ∷ raw) none) ∙ spelled_read (out ++ c ∷ []) more ∙ ap made (append_assoc out (c ∷ []) text)
  spelled_read out (IsSpelled.escape c raw text has more) = escape_step out raw c has ∙ spelled_read (out ++ escape_of how c) more ∙ ap made (append_assoc out (escape_of how c) text)
  spelled_read out (IsSpelled.variable name raw value text has matching is more) = variable_good out name raw value has matching is ∙ spelled_read (out ++ value) more ∙ ap made (append_assoc out value text)

-- A text that doesn't end in a backslash which would take an octet along.
unfoldable pub is_whole : Bool → List ℕ → Bool
is_whole escaped [] = cond escaped false true
is_whole escaped (c ∷ raw) = is_whole (cond (c == 92) (cond escaped false true) false) raw

pub quoted_whole : (quote : ℕ) (escaped : Bool) (raw : List ℕ) → is_quoted quote escaped raw ≡ true → is_whole escaped raw ≡ true
unfolding is_quoted is_whole
quoted_whole quote true [] e = e
quoted_whole quote false [] e = refl
quoted_whole quote escaped (c ∷ raw) e = grind (arith, common_steps, quoted_whole quote (cond (c == 92) (cond escaped false true) false) raw)

whole_after : (escaped : Bool) (name raw : List ℕ) → is_whole escaped (name ++ 125 ∷ raw) ≡ true → is_whole false raw ≡ true
unfolding is_whole
whole_after escaped [] raw e = e
whole_after escaped (c ∷ name) raw e = whole_after (cond (c == 92) (cond escaped false true) false) name raw e

module _ (growth : Growth) (how : Spelling) where
  abbrev pub Spells : List ℕ → List ℕ → List ℕ → Type 0
  Spells out raw all = (text : List ℕ) × (all ≡ out ++ text) × IsSpelled (value_of growth) how raw text

  abbrev Shorter : ℕ → List ℕ → Type 0
  Shorter turns all = (out raw : List ℕ) → length raw ≤ turns → (has_escapes how ≡ true → is_whole false raw ≡ true) → spelled_from growth how out Reads raw ≡ made all → Spells out raw all

  spells_octet : (out all : List ℕ) (c : ℕ) (rest : List ℕ) → Shorter (length rest) all → (has_escapes how ≡ true → is_whole false (c ∷ rest) ≡ true) → spelled_from growth how out Reads (c ∷ rest) ≡ made all
      → (has_escapes how ≡ true → (c == 92) ≡ false) → variable_in how (c ∷ rest) ≡ None → Spells out (c ∷ rest) all
  unfolding is_whole
  spells_octet out all c rest shorter whole e plain none =
      let (text, is, spelled) = shorter (out ++ c ∷ []) rest (omega arith) (λ has. rw (plain has) at whole has) (sym (octet_step growth how out rest c plain none) ∙ e) in
      (c ∷ text, is ∙ append_assoc out (c ∷ []) text, IsSpelled.octet c rest text plain (λ has. no_variable (c ∷ rest) (rw has at none)) spelled)

  spells_variable : (out all name after : List ℕ) (rest : List ℕ) (c : ℕ) → Shorter (length rest) all → (has_escapes how ≡ true → is_whole false (c ∷ rest) ≡ true) → spelled_from growth how out Reads (c ∷ rest) ≡ made all
      → has_variables how ≡ true → has_matching 0 name ≡ true → c ∷ rest ≡ 36 ∷ in_braces name after → Spells out (c ∷ rest) all
  unfolding is_whole
  spells_variable out all name after rest c shorter whole e has matching is = by (value_of growth name) refl where
    here : spelled_from growth how out Reads (36 ∷ in_braces name after) ≡ made all
    here = ap (spelled_from growth how out Reads) (sym is) ∙ e

    fits : length after ≤ length rest
    fits = omega (arith, ap length is, braces_length name after)

    left : has_escapes how ≡ true → is_whole false after ≡ true
    left escapes = whole_after false name after (ap (is_whole false) (sym is) ∙ whole escapes)

    by : (found : Option (List ℕ)) → value_of growth name ≡ found → Spells out (c ∷ rest) all
    by None none = let bad : spelled_from growth how out Reads (36 ∷ in_braces name after) ≡ Err wrong.NoVariable = variable_bad growth how out name after has matching none in absurd cc
    by (Some value) some =
        let (text, same, spelled) = shorter (out ++ value) after fits left (sym (variable_good growth how out name after value has matching some) ∙ here) in
        (value ++ text, same ∙ append_assoc out value text, subst (λ (xs : List ℕ). IsSpelled (value_of growth) how xs (value ++ text)) (sym is) (IsSpelled.variable name after value text has matching some spelled))

  spells_escape : (out all : List ℕ) (rest : List ℕ) → Shorter (length rest) all → (has_escapes how ≡ true → is_whole false (92 ∷ rest) ≡ true) → spelled_from growth how out Reads (92 ∷ rest) ≡ made all → has_escapes how ≡ true → Spells out (92 ∷ rest) all
  unfolding is_whole
  spells_escape out all [] shorter whole e has = let no : false ≡ true = whole has in absurd cc
  spells_escape out all (d ∷ rest) shorter whole e has =
      let (text, is, spelled) = shorter (out ++ escape_of how d) rest (omega arith) (λ _. left (whole has)) (sym (escape_step growth how out rest d has) ∙ e) in
      (escape_of how d ++ text, is ∙ append_assoc out (escape_of how d) text, IsSpelled.escape d rest text has spelled)
    where
      left : is_whole false (92 ∷ d ∷ rest) ≡ true → is_whole false rest ≡ true
      left e = grind (arith, common_steps)

  spells_step : (out all : List ℕ) (c : ℕ) (rest : List ℕ) → Shorter (length rest) all → (has_escapes how ≡ true → is_whole false (c ∷ rest) ≡ true) → spelled_from growth how out Reads (c ∷ rest) ≡ made all → Spells out (c ∷ rest) all
  spells_step out all c rest shorter whole e = by_escape (has_escapes how) (c == 92) refl refl where
    by_variable : (found : Option ℕ) → variable_in how (c ∷ rest) ≡ found → (b : Bool) → has_variables how ≡ b → (has_escapes how ≡ true → (c == 92) ≡ false) → Spells out (c ∷ rest) all
    by_variable None none b has plain = spells_octet out all c rest shorter whole e plain none
    by_variable (Some n) some true has plain = let (name, after, is, matching) = variable_found n (c ∷ rest) (rw has at some) in spells_variable out all name after rest c shorter whole e has matching is
    by_variable (Some n) some false has plain = let no : None ≡ Some n = rw has at some in absurd cc

    by_escape : (escapes b : Bool) → has_escapes how ≡ escapes → (c == 92) ≡ b → Spells out (c ∷ rest) all
    by_escape true true has is = let same : c ≡ 92 = eqb-true c 92 is in
        subst (λ (d : ℕ). Spells out (d ∷ rest) all) (sym same)
        (spells_escape out all rest shorter (λ yes_it_has. ap (λ (d : ℕ). is_whole false (d ∷ rest)) (sym same) ∙ whole yes_it_has) (ap (λ (d : ℕ). spelled_from growth how out Reads (d ∷ rest)) (sym same) ∙ e) has)
    by_escape true false has is = by_variable (variable_in how (c ∷ rest)) refl (has_variables how) refl (λ _. is)
    by_escape false b has is = by_variable (variable_in how (c ∷ rest)) refl (has_variables how) refl (λ yes_it_has. absurd cc)

  spells_within : (turns : ℕ) (all : List ℕ) → Shorter turns all
  unfolding spelled_from
  spells_within turns all out [] within whole e = let same : out ≡ all = cc in ([], sym same ∙ sym (append-nil out), IsSpelled.nothing)
  spells_within zero all out (c ∷ rest) within whole e = absurd (omega arith)
  spells_within (suc turns) all out (c ∷ rest) within whole e =
      spells_step out all c rest (λ next raw less left is. spells_within turns all next raw (omega arith) left is) whole e

  -- What is read is spelled so.
  pub spelled_found : (raw all : List ℕ) → (has_escapes how ≡ true → is_whole false raw ≡ true) → spelled_from growth how [] Reads raw ≡ made all → IsSpelled (value_of growth) how raw all
  spelled_found raw all whole e = let (text, is, spelled) = spells_within (length raw) all [] raw (omega arith) whole e in subst (λ (t : List ℕ). IsSpelled (value_of growth) how raw t) (sym is) spelled
