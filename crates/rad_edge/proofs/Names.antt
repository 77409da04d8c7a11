-- Names that are kept in order, seen as octets.
use Rattle.std.proofs.Common.{ℕ, ◌≡◌, List, [], ◌∷◌, map, refl, sym, ap, Some, None, Ordering, Less, Equal, Greater}
use Rattle.std.specs.Ordering.{nat_cmp, match_ordering}
use Rattle.std.specs.Cmp.Lexicographic.{slice_cmp}
use Rattle.std.specs.BTreeSet.{insert_key}
use Rattle.rad_outside.specs.Files.{File, name_in, with_name}

-- One of three lists, seen item by item.
by_order : {K : Type 0} (f : K → List ℕ) (o : Ordering) (less equal greater : List K) (rest : List (List ℕ)) → map f greater ≡ rest →
    map f (match_ordering o less equal greater) ≡ match_ordering o (map f less) (map f equal) rest
by_order f Less less equal greater rest e = refl
by_order f Equal less equal greater rest e = refl
by_order f Greater less equal greater rest e = e

-- A name that is put in its place stands in its place among the octets, where the order is that of the octets.
pub map-insert_key : {K : Type 0} (f : K → List ℕ) (keys : List K) (key : K) →
    map f (insert_key (λ x y. slice_cmp nat_cmp (f x) (f y)) keys key) ≡ insert_key (slice_cmp nat_cmp) (map f keys) (f key)
map-insert_key f [] key = refl
map-insert_key f (x ∷ xs) key =
    let rest : map f (x ∷ insert_key (λ x y. slice_cmp nat_cmp (f x) (f y)) xs key) ≡ f x ∷ insert_key (slice_cmp nat_cmp) (map f xs) (f key) =
    ap (λ names. f x ∷ names) (map-insert_key f xs key) in
    by_order f (slice_cmp nat_cmp (f key) (f x)) (key ∷ x ∷ xs) (x ∷ xs) (x ∷ insert_key (λ x y. slice_cmp nat_cmp (f x) (f y)) xs key)
    (f x ∷ insert_key (slice_cmp nat_cmp) (map f xs) (f key)) rest

-- A file that stands right in the folder adds its name.
pub with_name-some : (dir name : List ℕ) (names : List (List ℕ)) (file : File) → name_in dir file.path ≡ Some name →
    insert_key (slice_cmp nat_cmp) names name ≡ with_name dir names file
with_name-some dir name names file e =
    ap (λ o. elim o [ None ↦ names | Some n ↦ insert_key (slice_cmp nat_cmp) names n ]) (sym e)
