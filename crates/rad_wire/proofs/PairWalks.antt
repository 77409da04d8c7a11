-- Walks over attributes that add pairs to a request list.
use Rattle.std.proofs.Common.{◌≡◌, ℕ, ◌+◌, ◌≤◌, List, [], ◌∷◌, ◌++◌, length, refl, ap, ◌∙◌, arith}
use Rattle.std.specs.List.{flat_map}
use Rattle.std.proofs.lemmas.List.{length-append}
use Rattle.rad_value.specs.declared.edits.ListName.TheVariants.{Request}
use Rattle.rad_value.specs.declared.values.Pair.{Pair}
use Rattle.rad_value.specs.PairLists.{PairLists, with_list}
use Rattle.rad_dict.specs.Definitions.{Definitions}
use Rattle.rad_packet.specs.Packet.{Attribute, AreAttributes}
use Rattle.rad_wire.specs.Pairs.{of_vendor, pair_of}
use Rattle.rad_packet.specs.Front.{IsFront, IsSplit}
use Rattle.rad_packet.proofs.Walks.{Makes, Makes-start, Makes-more, Makes-end, split_length}

-- the request list has the pairs that f makes of the attributes so far, and the other lists stay
pub record MakesPairs (f : Attribute → List Pair) (start : PairLists) (whole rest : List ℕ) (lists : PairLists) : Type 0 where
  pub made : Makes f start.request whole rest lists.request
  pub others : lists ≡ with_list start Request lists.request
  pub room : length lists.request + length rest ≤ length start.request + length whole

pub MakesPairs-start : (f : Attribute → List Pair) (start : PairLists) (whole : List ℕ) → MakesPairs f start whole whole start
MakesPairs-start f start whole = record {
  made = Makes-start f start.request whole;
  others = refl;
  room = omega arith;
}

pub MakesPairs-more : (f : Attribute → List Pair) (start lists new : PairLists) (whole octets rest front value : List ℕ) (kind : ℕ)
    → length (f (record { kind = kind; value = value })) ≤ length value + 2 → MakesPairs f start whole octets lists
    → IsSplit octets kind front value rest
    → new ≡ with_list lists Request (lists.request ++ f (record { kind = kind; value = value })) → MakesPairs f start whole rest new
MakesPairs-more f start lists new whole octets rest front value kind few makes split added =
    let more = f (record { kind = kind; value = value }) in
    let requests : new.request ≡ lists.request ++ more = ap (λ (l : PairLists). l.request) added in
    let replies : new.reply ≡ start.reply = ap (λ (l : PairLists). l.reply) added ∙ ap (λ (l : PairLists). l.reply) makes.others in
    let controls : new.control ≡ start.control = ap (λ (l : PairLists). l.control) added ∙ ap (λ (l : PairLists). l.control) makes.others in
    let of : List Pair → List Pair → PairLists = λ reply control. record {
      request = new.request;
      reply = reply;
      control = control;
    } in
    let sizes = split_length octets front value rest kind split in
    record {
      made = rw requests (Makes-more f start.request whole octets rest front value kind lists.request makes.made split);
      others = ap (λ (reply : List Pair). of reply new.control) replies ∙ ap (of start.reply) controls;
      room = rw requests (omega (arith, length-append lists.request more, few, sizes.0, makes.room));
    }

pub MakesPairs-end : (f : Attribute → List Pair) (start lists : PairLists) (whole rest : List ℕ) → MakesPairs f start whole rest lists
    → ((a : Attribute) (others : List ℕ) → ¬ IsFront a rest others)
    → (all : List Attribute) → AreAttributes all whole → lists ≡ with_list start Request (start.request ++ flat_map f all)
MakesPairs-end f start lists whole rest makes none all h =
    makes.others ∙ ap (with_list start Request) (Makes-end f start.request whole rest lists.request makes.made none all h)

-- the pair of a vendor's part, in a list
abbrev pub vendor_part : ℕ → Definitions → Attribute → List Pair
vendor_part vendor dict part = pair_of (of_vendor vendor part.kind) part.value dict ∷ []
