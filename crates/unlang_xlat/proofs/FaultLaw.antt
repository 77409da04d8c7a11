-- The offset of a fault: a percent sign stands there.
use Rattle.std.proofs.Common.{◌≡◌, ℕ, suc, ◌<◌, ◌^◌, List, [], ◌∷◌, ◌++◌, length, None, Result, Ok, Err, refl, ap, subst, ◌∙◌, inl, inr, length-append, arith}
use Rattle.std.specs.Prelude.{slice_index}
use Rattle.rad_dict.specs.Definitions.{Definitions}
use Rattle.unlang_xlat.specs.declared.fault.Wrong.{Wrong}
use Rattle.unlang_xlat.specs.declared.fault.Wrong.TheVariants.{BadExpansion, UnknownAttr, UnknownFunction}
use Rattle.unlang_xlat.specs.declared.fault.XlatFault.{XlatFault}
use Rattle.unlang_xlat.specs.declared.part.Part.{Part}
use Rattle.unlang_xlat.specs.Reading.{braced, parts_in, parts_of}
use Rattle.unlang_xlat.specs.Faults.{offset, fault_of, placed, parsed}
use Rattle.unlang_xlat.specs.Places.{offset_of, IsAtSign}
use Rattle.unlang_xlat.proofs.FaultPlaces.{left_of, At, ok_err, err_same, bind_err}
use Rattle.unlang_xlat.proofs.FaultReadings.{text_wrong}

sign_here : (front more : List ℕ) → slice_index (front ++ 37 ∷ more) (length front) ≡ 37
sign_here [] more = refl
sign_here (c ∷ front) more = sign_here front more

offset_is : (text front more : List ℕ) (left : ℕ) → length text < 2 ^ 32 → text ≡ front ++ 37 ∷ more → left ≡ suc (length more) → offset text left ≡ length front
offset_is text front more left small whole size =
    let long = ap length whole ∙ length-append front (37 ∷ more) in
    omega (arith, long, size, small)

offset_of_wrong : (text : List ℕ) (wrong : Wrong) → offset_of (fault_of text wrong) ≡ offset text (left_of wrong)
offset_of_wrong text (BadExpansion left) = refl
offset_of_wrong text (UnknownAttr left) = refl
offset_of_wrong text (UnknownFunction left) = refl

wrong_at_sign : (text : List ℕ) (wrong : Wrong) → length text < 2 ^ 32 → At text (left_of wrong) → IsAtSign text (fault_of text wrong)
wrong_at_sign text wrong small place =
    let here : offset_of (fault_of text wrong) ≡ length place.front = offset_of_wrong text wrong ∙ offset_is text place.front place.more (left_of wrong) small place.whole place.size in
    let long = ap length place.whole ∙ length-append place.front (37 ∷ place.more) in
    record {
      within = omega (arith, here, long);
      sign = ap (slice_index text) here ∙ ap (λ (all : List ℕ). slice_index all (length place.front)) place.whole ∙ sign_here place.front place.more;
    }

placed_at : (dict : Definitions) (text : List ℕ) (read : Result (List Part) Wrong) (fault : XlatFault) → length text < 2 ^ 32 → ((wrong : Wrong) → read ≡ Err wrong → At text (left_of wrong))
    → placed text read ≡ Err fault → IsAtSign text fault
placed_at dict text (Ok parts) fault small tells e = ok_err parts fault e
placed_at dict text (Err wrong) fault small tells e = subst (IsAtSign text) (err_same (fault_of text wrong) fault e) (wrong_at_sign text wrong small (tells wrong refl))

pub fault_at_sign : (dict : Definitions) (text : List ℕ) (fault : XlatFault) → length text < 2 ^ 32 → parsed text dict ≡ Err fault → IsAtSign text fault
unfolding parsed
fault_at_sign dict text fault small e = placed_at dict text (parts_of text dict) fault small (λ wrong read. whole dict text wrong read) e where
  whole : (dict : Definitions) (text : List ℕ) (wrong : Wrong) → parts_of text dict ≡ Err wrong → At text (left_of wrong)
  whole dict text wrong read =
      elim (bind_err (parts_in (braced dict 32) None (length text) text) _ wrong read) [
        | inl here ↦ text_wrong dict text wrong here
        | inr parts ↦ ok_err _ wrong parts.1.1
      ]
