-- The items of a line, one at a time.
use Rattle.std.proofs.Common.{◌≡◌, ℕ, Bool, true, ◌<◌, List, [], ◌∷◌, ◌++◌, length, Option, Some, None, Result, Ok, Err, sym, ap, ◌∙◌, append_assoc}
use Rattle.std.proofs.lemmas.List.{append-nil}
use Rattle.rad_text.proofs.Turns as turns
use Rattle.rad_text.specs.Read.{◌>>=◌}
use Rattle.rad_dict.specs.Definitions.{Definitions}
use Rattle.mod_users.specs.declared.form.Form.{Form}
use Rattle.mod_users.specs.declared.placed.Placed.{Placed}
use Rattle.mod_users.specs.declared.items.Seen.{Seen}
use Rattle.mod_users.specs.declared.fault.Wrong.{Wrong}
use Rattle.mod_users.specs.declared.fault.Wrong.TheVariants.{BadValue}
use Rattle.mod_users.specs.declared.fault.LineFault.{LineFault}
use Rattle.mod_users.specs.ItemParts.{solid}
use Rattle.mod_users.specs.Items.{item_at, part_at, fault_in, placed, listed, items_of}

-- What is said of the parts that are left: the items that were read, and then theirs.
abbrev behind : ℕ → ℕ → List Placed → List (Result Seen Wrong) → List Placed × Option LineFault
behind number width front parts = (front ++ (listed number width parts).0, (listed number width parts).1)

-- With turns enough for what is left of a line, what was read and the items that are left are the whole.
abbrev pub Enough : Form → Definitions → ℕ → ℕ → List Placed → List ℕ → List Placed × Option LineFault → Type 0
Enough form dict number width front text total = turns.Enough (part_at form dict) (BadValue 0) (behind number width front) text total

module _ (form : Form) (dict : Definitions) (number width : ℕ) where
  pub starts : (parted : Bool) (text : List ℕ) → Enough form dict number width [] (solid parted text) (items_of form parted number width text dict)
  unfolding items_of
  starts parted text = turns.starts (part_at form dict) (BadValue 0) (behind number width []) (solid parted text)

  one_part : (text : List ℕ) (seen : Seen) (after : List ℕ) → item_at form text dict ≡ Ok (seen, after) → part_at form dict text ≡ Ok (seen, solid true after)
  one_part text seen after e = ap (λ (read : Result (Seen × List ℕ) Wrong). read >>= λ one. Ok (one.0, solid true one.1)) e

  wrong_part : (text : List ℕ) (wrong : Wrong) → item_at form text dict ≡ Err wrong → part_at form dict text ≡ Err wrong
  wrong_part text wrong e = ap (λ (read : Result (Seen × List ℕ) Wrong). read >>= λ one. Ok (one.0, solid true one.1)) e

  pub goes_on : (front : List Placed) (text : List ℕ) (total : List Placed × Option LineFault) (seen : Seen) (after : List ℕ) → 0 < length text → item_at form text dict ≡ Ok (seen, after)
      → length (solid true after) < length text → Enough form dict number width front text total → Enough form dict number width (front ++ placed number width seen ∷ []) (solid true after) total
  goes_on front text total seen after long e shorter so_far =
      turns.goes_on (part_at form dict) (BadValue 0) (behind number width front) (behind number width (front ++ placed number width seen ∷ [])) text total seen (solid true after) long (one_part text seen after e) shorter
      (λ more. ap (λ (items : List Placed). (items, (listed number width more).1)) (append_assoc front (placed number width seen ∷ []) (listed number width more).0)) so_far

  pub ends : (front : List Placed) (text : List ℕ) (total : List Placed × Option LineFault) (wrong : Wrong) → 0 < length text → item_at form text dict ≡ Err wrong
      → Enough form dict number width front text total → (front, Some (fault_in number width wrong)) ≡ total
  ends front text total wrong long e so_far =
      ap (λ (items : List Placed). (items, Some (fault_in number width wrong))) (sym (append-nil front))
      ∙ turns.goes_wrong (part_at form dict) (BadValue 0) (behind number width front) text total wrong long (wrong_part text wrong e) so_far

  pub is_done : (front : List Placed) (text : List ℕ) (total : List Placed × Option LineFault) → length text ≡ 0 → Enough form dict number width front text total → (front, None) ≡ total
  is_done front text total none so_far =
      ap (λ (items : List Placed). (items, None)) (sym (append-nil front)) ∙ turns.is_done (part_at form dict) (BadValue 0) (behind number width front) text total none so_far
