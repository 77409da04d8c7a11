-- The entries of a users file, one line at a time.
use Rattle.std.proofs.Common.{◌≡◌, ℕ, ◌+◌, true, false, Option, Some, None, List, [], ◌∷◌, ◌++◌, length, refl, sym, ap, ◌∙◌, arith}
use Rattle.std.specs.Option.{is_some}
use Rattle.std.proofs.lemmas.Bool.{true≢false, false≢true}
use Rattle.rad_dict.specs.Definitions.{Definitions}
use Rattle.rad_text.specs.Lines.{lines_of}
use Rattle.mod_users.specs.declared.form.Form.{Form}
use Rattle.mod_users.specs.declared.draft.Draft.{Draft}
use Rattle.mod_users.specs.declared.placed.Placed.{Placed}
use Rattle.mod_users.specs.declared.fault.LineFault.{LineFault}
use Rattle.mod_users.specs.Reading.{Read, with_replies, replied, after_line, after_lines}

-- Reply items go to the last entry.
pub replied-push : (number : ℕ) (items : List Placed × Option LineFault) (drafts : List Draft) (draft : Draft)
    → replied number items (drafts ++ draft ∷ []) ≡ (drafts ++ with_replies items.0 draft ∷ [], items.1)
replied-push number items [] draft = refl
replied-push number items (one ∷ []) draft = refl
replied-push number items (one ∷ other ∷ drafts) draft = ap (λ (read : Read). (one ∷ read.0, read.1)) (replied-push number items (other ∷ drafts) draft)

-- What stands behind a line: its fault ends the reading.
abbrev by_line : Form → ℕ → List (List ℕ) → Definitions → Read → Read
by_line form number more dict read = elim read.1 [ Some wrong ↦ read | None ↦ after_lines form (number + 1) read.0 more dict ]

after_lines-cons : (form : Form) (number : ℕ) (drafts : List Draft) (line : List ℕ) (more : List (List ℕ)) (dict : Definitions)
    → after_lines form number drafts (line ∷ more) dict ≡ by_line form number more dict (after_line form number drafts line dict)
unfolding after_lines
after_lines-cons form number drafts line more dict = refl

-- A line without a fault is passed.
pub goes_on : (form : Form) (number : ℕ) (drafts next : List Draft) (wrong : Option LineFault) (line : List ℕ) (more : List (List ℕ)) (dict : Definitions) → is_some wrong ≡ false
    → (next, wrong) ≡ after_line form number drafts line dict → after_lines form (number + 1) next more dict ≡ after_lines form number drafts (line ∷ more) dict
goes_on form number drafts next None line more dict none e = ap (by_line form number more dict) e ∙ sym (after_lines-cons form number drafts line more dict)
goes_on form number drafts next (Some wrong) line more dict none e = absurd (true≢false none)

-- A line with a fault ends the reading.
pub ends : (form : Form) (number : ℕ) (drafts next : List Draft) (wrong : Option LineFault) (line : List ℕ) (more : List (List ℕ)) (dict : Definitions) → is_some wrong ≡ true
    → (next, wrong) ≡ after_line form number drafts line dict → (next, wrong) ≡ after_lines form number drafts (line ∷ more) dict
ends form number drafts next None line more dict some e = absurd (false≢true some)
ends form number drafts next (Some wrong) line more dict some e = ap (by_line form number more dict) e ∙ sym (after_lines-cons form number drafts line more dict)

pub no_lines : (form : Form) (number : ℕ) (drafts : List Draft) (dict : Definitions) → after_lines form number drafts (lines_of []) dict ≡ (drafts, None)
unfolding after_lines lines_of
no_lines form number drafts dict = refl

-- Where nothing is left of the text, its entries are those that are there.
pub is_done : (form : Form) (number : ℕ) (drafts : List Draft) (rest : List ℕ) (dict : Definitions) (total : Read) → length rest ≡ 0 → after_lines form number drafts (lines_of rest) dict ≡ total → (drafts, None) ≡ total
is_done form number drafts [] dict total none same = sym (no_lines form number drafts dict) ∙ same
is_done form number drafts (c ∷ rest) dict total none same = absurd (omega arith)
