-- The log law: what a log says to which pieces were appended, some of them whole and some not.
use Rattle.std.proofs.Common.{◌≡◌, ℕ, zero, suc, ◌<◌, ◌≤◌, true, false, cond, List, [], ◌∷◌, ◌++◌, length, take, refl, sym, ap, ◌∙◌, arith, append_assoc}
use Rattle.std.proofs.lemmas.Bool.{cond-false, leb-true, leb-false}
use Rattle.std.proofs.lemmas.List.{append-nil, length-append, take-append-le, take_all}
use Rattle.std.proofs.lemmas.List.Concat.{flat_map-cons}
use Rattle.rad_sessions.specs.declared.change.Change.{Change}
use Rattle.rad_sessions.specs.Listed.{after, after_all, is_too_many}
use Rattle.rad_sessions.specs.Log.{line_of, piece_of, folded_onto, folded}
use Rattle.rad_sessions.specs.Laws.{IsChange}
use Rattle.rad_sessions.specs.Pieces.{Written, octets_of_one, is_whole, octets_of_all, done_of, AreChanges, AllFit}
use Rattle.rad_sessions.proofs.LogLines.{flat_line, flat_take, mark_parts, flat_parts, flat_alone, line_alone}

-- A part of a piece that isn't whole says nothing.
pub cut_piece : (log : List ℕ) (change : Change) (n : ℕ) → IsChange change → n < length (piece_of change) → folded (log ++ take n (piece_of change)) ≡ folded log
cut_piece log change zero all short = ap folded (append-nil log)
cut_piece log change (suc zero) all short = flat_parts [] log (126 ∷ []) (omega arith, tt)
cut_piece log change (suc (suc n)) all short =
    let within : n ≤ length (line_of change) = omega (arith, length-append (line_of change) (10 ∷ [])) in
    mark_parts [] log (take n (line_of change ++ 10 ∷ []))
    ∙ ap (folded_onto (folded log)) (take-append-le n (line_of change) (10 ∷ []) within)
    ∙ flat_alone (folded log) (take n (line_of change)) (flat_take n (line_of change) (flat_line change all))

pub whole_piece : (log : List ℕ) (change : Change) → IsChange change → is_too_many (folded log) change ≡ false → folded (log ++ piece_of change) ≡ after (folded log) change
whole_piece log change all fits =
    mark_parts [] log (line_of change ++ 10 ∷ []) ∙ line_alone (folded log) change all ∙ cond-false (is_too_many (folded log) change) _ _ fits

one_more : (log : List ℕ) (written : Written) (pieces : List Written) → log ++ octets_of_all (written ∷ pieces) ≡ (log ++ octets_of_one written) ++ octets_of_all pieces
one_more log written pieces = ap (λ more. log ++ more) (flat_map-cons octets_of_one written pieces) ∙ sym (append_assoc log (octets_of_one written) (octets_of_all pieces))

pub log_law : (log : List ℕ) (pieces : List Written) → AreChanges pieces → AllFit (folded log) (done_of pieces) → folded (log ++ octets_of_all pieces) ≡ after_all (folded log) (done_of pieces)
log_law log [] all fit = ap folded (append-nil log)
log_law log (written ∷ pieces) all fit = (elim (is_whole written) as (λ b. is_whole written ≡ b → AllFit (folded log) (cond b (written.change ∷ done_of pieces) (done_of pieces)) → folded (log ++ octets_of_all (written ∷ pieces)) ≡ after_all (folded log) (cond b (written.change ∷ done_of pieces) (done_of pieces))) [
  | true ↦ λ e fits.
      let long : length (piece_of written.change) ≤ written.count = leb-true (length (piece_of written.change)) written.count e in
      let now : folded (log ++ octets_of_one written) ≡ after (folded log) written.change = ap (λ octets. folded (log ++ octets)) (take_all written.count (piece_of written.change) long) ∙ whole_piece log written.change all.0 fits.0 in
      ap folded (one_more log written pieces)
      ∙ log_law (log ++ octets_of_one written) pieces all.1 (rw now fits.1)
      ∙ ap (λ sessions. after_all sessions (done_of pieces)) now
  | false ↦ λ e fits.
      let short : written.count < length (piece_of written.change) = leb-false (length (piece_of written.change)) written.count e in
      let now : folded (log ++ octets_of_one written) ≡ folded log = cut_piece log written.change written.count all.0 short in
      ap folded (one_more log written pieces)
      ∙ log_law (log ++ octets_of_one written) pieces all.1 (rw now fits)
      ∙ ap (λ sessions. after_all sessions (done_of pieces)) now
]) refl fit
