-- The offset of a fault: what stands there.
use Rattle.std.proofs.Common.{◌≡◌, ℕ, ◌<◌, ◌^◌, true, eqb, List, [], ◌∷◌, ◌++◌, length, Option, Some, None, Result, Err, slice_index, inl, inr, refl, sym, ap, subst, ◌∙◌, length-append, arith}
use Rattle.std.proofs.lemmas.List.{append-nil}
use Rattle.rad_dict.specs.Definitions.{Definitions}
use Rattle.unlang_cond.specs.declared.atom.Pattern.{Pattern}
use Rattle.unlang_cond.specs.declared.atom.Token.{Token}
use Rattle.unlang_cond.specs.declared.fault.CondFault.{CondFault}
use Rattle.unlang_cond.specs.declared.fault.CondFault.TheVariants as fault
use Rattle.unlang_cond.specs.declared.fault.Wrong.{Wrong}
use Rattle.unlang_cond.specs.declared.fault.Wrong.TheVariants.{BadCondition, UnknownAttr}
use Rattle.unlang_cond.specs.Faults.{offset_of, fault_of}
use Rattle.unlang_cond.specs.Tokens.{tokens_of}
use Rattle.unlang_cond.specs.Steps.{pattern_in, first_refused}
use Rattle.unlang_cond.proofs.Refused.{Refuses, RefusesAt, refused_among}
use Rattle.unlang_cond.specs.Conditions.{judged, reading_of, IsFaultOf}
use Rattle.unlang_cond.specs.Places.{HasOctet, IsToldAt}
use Rattle.unlang_cond.proofs.FaultSpots.{IsClear, AtOctet, IsWrongAt, IsSlash}
use Rattle.unlang_cond.proofs.FaultReadings.{HaveSlashes, IsWrongOr, text_fault}

behind : (front back : List ℕ) → slice_index (front ++ back) (length front) ≡ slice_index back 0
behind [] back = refl
behind (c ∷ front) back = behind front back

offset_is : (text front back : List ℕ) (left : ℕ) → length text < 2 ^ 32 → text ≡ front ++ back → left ≡ length back → offset_of (length text) left ≡ length front
offset_is text front back left small whole size =
    let long = ap length whole ∙ length-append front back in
    omega (arith, long, size, small)

octet_there : (text : List ℕ) (octet left : ℕ) → length text < 2 ^ 32 → AtOctet text left octet → HasOctet text (offset_of (length text) left) octet
octet_there text octet left small at =
    let here = offset_is text at.is_left.front at.back left small at.is_left.same at.size in
    record {
      within = rw here (by at.back at.is_left.same at.octet_is);
      octet_is = rw here (ap (λ (all : List ℕ). slice_index all (length at.is_left.front)) at.is_left.same ∙ behind at.is_left.front at.back ∙ at.octet_is);
    }
  where
    by : (back : List ℕ) → text ≡ at.is_left.front ++ back → slice_index back 0 ≡ octet → length at.is_left.front < length text
    by [] same none = let never : eqb octet 0 ≡ true = rw (sym none) refl in absurd cc
    by (c ∷ back) same some = omega (arith, ap length same ∙ length-append at.is_left.front (c ∷ back))

part_there : (text front back : List ℕ) (left : ℕ) → length text < 2 ^ 32 → text ≡ front ++ back → left ≡ length back → IsClear back → IsToldAt text (fault.BadCondition (offset_of (length text) left))
part_there text front [] left small whole size clear =
    let here = offset_is text front [] left small whole size in
    inl (here ∙ ap length (sym (append-nil front) ∙ sym whole))
part_there text front (c ∷ back) left small whole size clear =
    let here = offset_is text front (c ∷ back) left small whole size in
    let octet : slice_index text (length front) ≡ c = ap (λ (all : List ℕ). slice_index all (length front)) whole ∙ behind front (c ∷ back) in
    inr (record {
      within = omega (arith, here, ap length whole ∙ length-append front (c ∷ back));
      part = rw (here, octet) clear;
    })

wrong_there : (text : List ℕ) (wrong : Wrong) → length text < 2 ^ 32 → IsWrongAt text wrong → IsToldAt text (fault_of (length text) wrong)
wrong_there text (BadCondition left) small at = part_there text at.is_left.front at.back left small at.is_left.same at.size at.clear
wrong_there text (UnknownAttr left) small (inl at) = inl (octet_there text 38 left small at)
wrong_there text (UnknownAttr left) small (inr at) = inr (octet_there text 34 left small at)

slash_of : (dict : Definitions) (text : List ℕ) (pattern : Option Pattern) (left : ℕ) → IsSlash text pattern → Refuses pattern left → AtOctet text left 47
slash_of dict text None left slash refused = absurd refused
slash_of dict text (Some pattern) left slash refused = subst (λ (n : ℕ). AtOctet text n 47) refused.0 slash

slash_among : (dict : Definitions) (text : List ℕ) (tokens : List Token) (left : ℕ) → HaveSlashes dict text tokens → RefusesAt tokens left → AtOctet text left 47
slash_among dict text [] left are refused = absurd refused
slash_among dict text (t ∷ tokens) left are (inl here) = slash_of dict text (pattern_in t) left are.0 here
slash_among dict text (t ∷ tokens) left are (inr later) = slash_among dict text tokens left are.1 later

err_same : {A F : Type 0} (x y : F) → ◌≡◌ {A = Result A F} (Err x) (Err y) → x ≡ y
err_same x y e = cc

told_as : (dict : Definitions) (text : List ℕ) (told : CondFault) (tokens : List Token) (refused : Option ℕ) (wrong : Option Wrong) → length text < 2 ^ 32 → refused ≡ first_refused tokens
    → HaveSlashes dict text tokens → IsWrongOr dict text wrong → judged (length text) refused tokens wrong ≡ Err told → IsToldAt text told
told_as dict text told tokens (Some left) wrong small same slashes at e =
    subst (IsToldAt text) (err_same (fault.BadPattern (offset_of (length text) left)) told e)
    (octet_there text 47 left small (slash_among dict text tokens left slashes (refused_among tokens left (sym same))))
told_as dict text told tokens None (Some wrong) small same slashes at e =
    subst (IsToldAt text) (err_same (fault_of (length text) wrong) told e) (wrong_there text wrong small at)
told_as dict text told tokens None None small same slashes at e = absurd cc

pub fault_told : (dict : Definitions) (text : List ℕ) (told : CondFault) → length text < 2 ^ 32 → IsFaultOf told text dict → IsToldAt text told
unfolding reading_of
fault_told dict text told small (inl none) = subst (IsToldAt text) (sym none) tt
fault_told dict text told small (inr e) =
    told_as dict text told (tokens_of text dict).0 (first_refused (tokens_of text dict).0) (tokens_of text dict).1 small refl (text_fault dict text).0 (text_fault dict text).1 e
