-- What is found stands in the table.
use Rattle.std.specs.Prelude.{position, slice_get, nat_lt, IsSome}
use Rattle.std.specs.Option.{option_map, option_and_then}
use Rattle.std.proofs.Common.{◌≡◌, ℕ, ◌<◌, Bool, true, false, cond, List, [], ◌∷◌, length, Option, Some, None, refl, sym, subst}
use Rattle.std.proofs.lemmas.List.Quantifiers.{position-Some}
use Rattle.std.proofs.lemmas.Option.{slice_get-get_or}
use Rattle.rad_words.specs.declared.sections.Section.{Section}
use Rattle.unlang_tree.specs.declared.policies.Subsection.{Subsection}
use Rattle.unlang_tree.specs.declared.policies.SectionTree.{SectionTree}
use Rattle.unlang_tree.specs.declared.policies.ServerTree.{ServerTree}
use Rattle.unlang_code.specs.declared.section_id.SectionId.{SectionId}
use Rattle.unlang_code.specs.Sections.{in_32_bits, is_named, subsection_of, section_in, found, statements_in, statements_of}

same_place : (t : Bool) (place number : ℕ) → cond t (Some place) None ≡ Some number → place ≡ number
same_place true place number is = cc
same_place false place number is = absurd (cc)

there : (subsections : List Subsection) (number : ℕ) → number < length subsections → (d : Subsection) → IsSome (option_map (λ (s : Subsection). s.statements) (slice_get subsections number))
there subsections number lt d = rw (slice_get-get_or subsections number d lt) refl

numbered : (subsections : List Subsection) (name : List ℕ) (number : ℕ) (place : Option ℕ) → position (is_named name) subsections ≡ place → option_and_then in_32_bits place ≡ Some number
    → IsSome (option_map (λ (s : Subsection). s.statements) (slice_get subsections number))
numbered subsections name number None at is = absurd (cc)
numbered [] name number (Some place) at is = absurd (cc)
numbered (s ∷ subsections) name number (Some place) at is =
    let within = position-Some (is_named name) (s ∷ subsections) place s at in
    let Within : ℕ → Type 0 = λ (n : ℕ). n < length (s ∷ subsections) in
    there (s ∷ subsections) number (subst Within (same_place (nat_lt place 4294967296) place number is) within.0) s

subsection_there : (subsections : List Subsection) (name : List ℕ) (number : ℕ) → subsection_of subsections name ≡ Some number → IsSome (option_map (λ (s : Subsection). s.statements) (slice_get subsections number))
unfolding subsection_of
subsection_there subsections name number is = numbered subsections name number (position (is_named name) subsections) refl is

named : (server : ℕ) (kind : Section) (sub : Option ℕ) → SectionId
named server kind sub = record { server = server; section = kind; sub = sub }

at_tree : (servers : List ServerTree) (server : ℕ) (kind : Section) (sub : Option ℕ) (tree : SectionTree) → section_in servers server kind ≡ Some tree → IsSome (statements_in sub tree) → IsSome (statements_of servers (named server kind sub))
unfolding statements_of named
at_tree servers server kind sub tree is some = let At : Option SectionTree → Type 0 = λ (o : Option SectionTree). IsSome (option_and_then (statements_in sub) o) in subst At (sym is) some

plain_there : (servers : List ServerTree) (server : ℕ) (kind : Section) (id : SectionId) (tree : Option SectionTree) → section_in servers server kind ≡ tree → option_map (λ (t : SectionTree). named server kind None) tree ≡ Some id → IsSome (statements_of servers id)
plain_there servers server kind id None is at = absurd (cc)
plain_there servers server kind id (Some tree) is at =
    let Stands : SectionId → Type 0 = λ (i : SectionId). IsSome (statements_of servers i) in
    subst Stands (let same : named server kind None ≡ id = cc in same) (at_tree servers server kind None tree is refl)

sub_there : (servers : List ServerTree) (server : ℕ) (kind : Section) (id : SectionId) (tree : SectionTree) (number : Option ℕ) → section_in servers server kind ≡ Some tree → ((n : ℕ) → number ≡ Some n → IsSome (statements_in (Some n) tree)) → option_map (λ n. named server kind (Some n)) number ≡ Some id
    → IsSome (statements_of servers id)
sub_there servers server kind id tree None is some at = absurd (cc)
sub_there servers server kind id tree (Some n) is some at =
    let Stands : SectionId → Type 0 = λ (i : SectionId). IsSome (statements_of servers i) in
    subst Stands (let same : named server kind (Some n) ≡ id = cc in same) (at_tree servers server kind (Some n) tree is (some n refl))

named_there : (servers : List ServerTree) (server : ℕ) (kind : Section) (name : List ℕ) (id : SectionId) (tree : Option SectionTree) → section_in servers server kind ≡ tree
    → option_and_then (λ (t : SectionTree). option_map (λ n. named server kind (Some n)) (subsection_of t.subsections name)) tree ≡ Some id → IsSome (statements_of servers id)
named_there servers server kind name id None is at = absurd (cc)
named_there servers server kind name id (Some tree) is at =
    sub_there servers server kind id tree (subsection_of tree.subsections name) is (λ n of_name. subsection_there tree.subsections name n of_name) at

-- what is found has statements
pub found_stands : (servers : List ServerTree) (server : ℕ) (kind : Section) (sub : Option (List ℕ)) (id : SectionId) → found servers server kind sub ≡ Some id → IsSome (statements_of servers id)
unfolding found named
found_stands servers server kind None id is = plain_there servers server kind id (section_in servers server kind) refl is
found_stands servers server kind (Some name) id is = named_there servers server kind name id (section_in servers server kind) refl is
