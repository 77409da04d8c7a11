-- A request's attributes, written pair after pair.
use Rattle.std.proofs.Common.{◌≡◌, ℕ, ◌+◌, ◌≤◌, Bool, true, false, not, cond, ◌||◌, ◌&&◌, List, [], ◌∷◌, ◌++◌, length, drop, filter, refl, sym, ap, ◌∙◌, append_assoc}
use Rattle.std.specs.Prelude.{◌==◌, slice_get, Some}
use Rattle.std.specs.List.{flat_map, list_any}
use Rattle.std.proofs.lemmas.List.{append-nil, drop_all}
use Rattle.std.proofs.lemmas.List.Elements.{filter-append}
use Rattle.std.proofs.lemmas.Grind.{flat_map-append}
use Rattle.rad_value.specs.declared.values.Pair.{Pair}
use Rattle.rad_packet.specs.Packet.{Attribute, spelled}
use Rattle.rad_wire.specs.declared.draft.Draft.{Draft}
use Rattle.rad_wire.specs.Draft.{IsWritten, remaining}
use Rattle.rad_wire.specs.declared.request_fault.RequestFault.{RequestFault}
use Rattle.rad_wire.specs.declared.request_fault.RequestFault.TheVariants as faults
use Rattle.rad_wire.specs.Request.{Frame, PasswordRefused, asked_for, is_signature, long_password_of, long_passwords, signed_once}
use Rattle.rad_wire.proofs.Fitting.{drop_at_get}

-- ---- one attribute at most

remaining_none : (code : ℕ) (value : List ℕ) (signed : Bool) → remaining code value signed [] ≡ []
remaining_none code value true = refl
remaining_none code value false = refl

or_false : (b : Bool) → b ≡ (b || false)
or_false true = refl
or_false false = refl

or_true : (b : Bool) → true ≡ (b || true)
or_true true = refl
or_true false = refl

pub written_none : (code : ℕ) (value : List ℕ) (draft : Draft) → IsWritten code value draft draft []
written_none code value draft = record {
  octets = sym (append-nil draft.octets.items)
      ∙ ap (λ (x : List Attribute). draft.octets.items ++ flat_map spelled x) (sym (remaining_none code value draft.signed));
  signed = or_false draft.signed;
}

remaining_plain : (code : ℕ) (value : List ℕ) (signed : Bool) (a : Attribute) → is_signature code a ≡ false
    → remaining code value signed (a ∷ []) ≡ a ∷ []
remaining_plain code value true a plain = rw plain refl
remaining_plain code value false a plain = rw plain refl

pub written_plain : (code : ℕ) (value : List ℕ) (before after : Draft) (a : Attribute) → is_signature code a ≡ false
    → after.octets.items ≡ before.octets.items ++ spelled a → after.signed ≡ before.signed
    → IsWritten code value before after (a ∷ [])
written_plain code value before after a plain octets signed = record {
  octets = octets
      ∙ ap (λ (x : List ℕ). before.octets.items ++ x) (sym (append-nil (spelled a)))
      ∙ ap (λ (x : List Attribute). before.octets.items ++ flat_map spelled x) (sym (remaining_plain code value before.signed a plain));
  signed = signed ∙ or_false before.signed ∙ ap (λ (b : Bool). before.signed || (b || false)) (sym plain);
}

-- a draft with a Message-Authenticator takes no other, and one without takes this
signed-when : (code : ℕ) (value : List ℕ) (s : Bool) (a : Attribute) (before after : List ℕ) → is_signature code a ≡ true
    → (s ≡ false → after ≡ before ++ spelled (record { kind = 80; value = value })) → (s ≡ true → after ≡ before)
    → after ≡ before ++ flat_map spelled (remaining code value s (a ∷ []))
signed-when code value true a before after is first later =
    rw is (later refl ∙ sym (append-nil before))
signed-when code value false a before after is first later =
    let own : Attribute = record { kind = 80; value = value } in
    rw is (first refl ∙ ap (λ (x : List ℕ). before ++ x) (sym (append-nil (spelled own))))

pub written_signature : (code : ℕ) (value : List ℕ) (before after : Draft) (a : Attribute) → is_signature code a ≡ true
    → (before.signed ≡ false → after.octets.items ≡ before.octets.items ++ spelled (record { kind = 80; value = value }))
    → (before.signed ≡ true → after.octets.items ≡ before.octets.items) → after.signed ≡ true
    → IsWritten code value before after (a ∷ [])
written_signature code value before after a is first later signed = record {
  octets = signed-when code value before.signed a before.octets.items after.octets.items is first later;
  signed = signed ∙ or_true before.signed ∙ ap (λ (b : Bool). before.signed || (b || false)) (sym is);
}

-- ---- one after another

one_then : (code : ℕ) (value : List ℕ) (xs ys : List Attribute)
    → signed_once code value (xs ++ ys) ≡ signed_once code value xs ++ remaining code value (list_any (is_signature code) xs) ys
one_then code value [] ys = refl
one_then code value (a ∷ xs) ys =
    let own : Attribute = record { kind = 80; value = value } in
    let q : Attribute → Bool = λ (x : Attribute). not (is_signature code x) in
    elim (is_signature code a) as (λ b. cond b (own ∷ filter q (xs ++ ys)) (a ∷ signed_once code value (xs ++ ys))
    ≡ cond b (own ∷ filter q xs) (a ∷ signed_once code value xs) ++ remaining code value (b || list_any (is_signature code) xs) ys) [
      | true ↦ ap (λ (x : List Attribute). own ∷ x) (filter-append q xs ys)
      | false ↦ ap (λ (x : List Attribute). a ∷ x) (one_then code value xs ys)
    ]

remaining_then : (code : ℕ) (value : List ℕ) (signed : Bool) (xs ys : List Attribute)
    → remaining code value signed (xs ++ ys)
    ≡ remaining code value signed xs ++ remaining code value (signed || list_any (is_signature code) xs) ys
remaining_then code value true xs ys = filter-append (λ (x : Attribute). not (is_signature code x)) xs ys
remaining_then code value false xs ys = one_then code value xs ys

-- so far, the draft is what is asked of the pairs up to n, and none of them has a password too long
pub record Asks (frame : Frame) (value : List ℕ) (pairs : List Pair) (n : ℕ) (draft : Draft) : Type 0 where
  pub so_far : draft.octets.items ++ flat_map spelled (remaining frame.code value draft.signed (flat_map (asked_for frame) (drop n pairs)))
      ≡ flat_map spelled (signed_once frame.code value (flat_map (asked_for frame) pairs))
  pub short : flat_map (long_password_of frame.code) (drop n pairs) ≡ flat_map (long_password_of frame.code) pairs

pub Asks-more : (frame : Frame) (value : List ℕ) (pairs : List Pair) (n : ℕ) (before after : Draft) (pair : Pair)
    → Asks frame value pairs n before → slice_get pairs n ≡ Some pair
    → IsWritten frame.code value before after (asked_for frame pair) → long_password_of frame.code pair ≡ []
    → Asks frame value pairs (n + 1) after
Asks-more frame value pairs n before after pair asks found written fine =
    let f = asked_for frame in
    let rest = drop (n + 1) pairs in
    let own = remaining frame.code value before.signed (f pair) in
    let left = remaining frame.code value after.signed (flat_map f rest) in
    let parts : remaining frame.code value before.signed (f pair ++ flat_map f rest) ≡ own ++ left =
    remaining_then frame.code value before.signed (f pair) (flat_map f rest)
    ∙ ap (λ (b : Bool). own ++ remaining frame.code value b (flat_map f rest)) (sym written.signed) in
    record {
      so_far = ap (λ (x : List ℕ). x ++ flat_map spelled left) written.octets
          ∙ append_assoc before.octets.items (flat_map spelled own) (flat_map spelled left)
          ∙ ap (λ (x : List ℕ). before.octets.items ++ x) (sym (flat_map-append spelled own left))
          ∙ ap (λ (x : List Attribute). before.octets.items ++ flat_map spelled x) (sym parts)
          ∙ ap (λ (x : List Pair). before.octets.items ++ flat_map spelled (remaining frame.code value before.signed (flat_map f x))) (sym (drop_at_get pairs n pair found))
          ∙ asks.so_far;
      short = ap (λ (x : List ℕ). x ++ flat_map (long_password_of frame.code) rest) (sym fine)
          ∙ ap (flat_map (long_password_of frame.code)) (sym (drop_at_get pairs n pair found))
          ∙ asks.short;
    }

pub Asks-end : (frame : Frame) (value : List ℕ) (pairs : List Pair) (n : ℕ) (draft : Draft) → Asks frame value pairs n draft
    → length pairs ≤ n
    → (draft.octets.items ≡ flat_map spelled (signed_once frame.code value (flat_map (asked_for frame) pairs)))
    × (flat_map (long_password_of frame.code) pairs ≡ [])
Asks-end frame value pairs n draft asks past =
    let none : drop n pairs ≡ [] = drop_all n pairs past in (
      sym (append-nil draft.octets.items)
          ∙ ap (λ (x : List Attribute). draft.octets.items ++ flat_map spelled x) (sym (remaining_none frame.code value draft.signed))
          ∙ ap (λ (x : List Pair). draft.octets.items ++ flat_map spelled (remaining frame.code value draft.signed (flat_map (asked_for frame) x))) (sym none)
          ∙ asks.so_far,
      sym asks.short ∙ ap (flat_map (long_password_of frame.code)) none,
    )

-- a pair's password that is too long is the first of all
pub Asks-long : (frame : Frame) (value : List ℕ) (pairs : List Pair) (n long : ℕ) (others : List ℕ) (draft : Draft) (pair : Pair)
    → Asks frame value pairs n draft → slice_get pairs n ≡ Some pair → long_password_of frame.code pair ≡ long ∷ others
    → flat_map (long_password_of frame.code) pairs ≡ long ∷ (others ++ flat_map (long_password_of frame.code) (drop (n + 1) pairs))
Asks-long frame value pairs n long others draft pair asks found is =
    let g = long_password_of frame.code in
    sym asks.short
    ∙ ap (flat_map g) (drop_at_get pairs n pair found)
    ∙ ap (λ (x : List ℕ). x ++ flat_map g (drop (n + 1) pairs)) is

pub written_vendor : (code : ℕ) (value : List ℕ) (before after : Draft) (inside : List ℕ)
    → after.octets.items ≡ before.octets.items ++ spelled (record { kind = 26; value = inside }) → after.signed ≡ before.signed
    → IsWritten code value before after (record { kind = 26; value = inside } ∷ [])
written_vendor code value before after inside octets signed =
    written_plain code value before after (record { kind = 26; value = inside }) (no_signature (code == 1)) octets signed
  where
    no_signature : (b : Bool) → (b && false) ≡ false
    no_signature true = refl
    no_signature false = refl

-- so is its fault the fault of all
pub Asks-refused : (frame : Frame) (value : List ℕ) (pairs : List Pair) (n : ℕ) (draft : Draft) (pair : Pair) (fault : RequestFault)
    → Asks frame value pairs n draft → slice_get pairs n ≡ Some pair → PasswordRefused (long_password_of frame.code pair) fault
    → PasswordRefused (long_passwords frame.code pairs) fault
Asks-refused frame value pairs n draft pair (faults.PasswordTooLong count) asks found refused = (
  refused.0,
  refused.1 ++ flat_map (long_password_of frame.code) (drop (n + 1) pairs),
  Asks-long frame value pairs n refused.0 refused.1 draft pair asks found refused.2,
  refused.3,
)
Asks-refused frame value pairs n draft pair (faults.TooLong count) asks found refused = absurd refused
Asks-refused frame value pairs n draft pair faults.NoMemory asks found refused = tt
