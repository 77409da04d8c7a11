-- A folder's names: which are listed, and in which order.
use Rattle.std.proofs.Common.{ℕ, ◌≡◌, ◌++◌, List, [], ◌∷◌, length, take, drop, refl, sym, ap, ◌∙◌, Option, Some, None, Bool, true, false, ◌&&◌, ◌||◌, not, cond, Ordering, Less, Equal, Greater}
use Rattle.std.specs.Ordering.{nat_cmp, match_ordering, ordering_reverse}
use Rattle.std.specs.Option.{option_and_then}
use Rattle.std.specs.List.{fold, AllByRecursion}
use Rattle.std.specs.List.Sorted.{IsStrictlySortedBy}
use Rattle.std.specs.Cmp.{both_ways}
use Rattle.std.specs.Cmp.Lexicographic.{slice_cmp, nat_list_cmp_total}
use Rattle.std.specs.BTreeSet.{insert_key}
use Rattle.std.specs.Str.{bytes_eq}
use Rattle.std.proofs.Math.Seq.{take-append_seam, drop-append_seam}
use Rattle.std.proofs.lemmas.List.{take-append-drop}
use Rattle.std.proofs.lemmas.Option.{option_and_then_some}
use Rattle.std.proofs.lemmas.Map.Lookups.{exact_bytes}
use Rattle.std.proofs.lemmas.Slice.Eq.{bytes_eq-Decides}
use Rattle.rad_outside.specs.Files.{File, after_beginning, below, plain_name, name_in, names_in, with_name, has_path, has_slash, is_among}

-- The order of names.
abbrev order : List ℕ → List ℕ → Ordering
order = slice_cmp nat_cmp

-- What is below x is below the names above x, too.
all_below : (k x : List ℕ) (xs : List (List ℕ)) → order k x ≡ Less → AllByRecursion (λ y. order x y ≡ Less) xs → AllByRecursion (λ y. order k y ≡ Less) xs
all_below k x [] e all = tt
all_below k x (y ∷ ys) e all = (nat_list_cmp_total.trans k x y e all.0, all_below k x ys e all.1)

-- What is below all of the names and below a further one is below all with that in its place.
all_below_more : (x k : List ℕ) (xs : List (List ℕ)) → order x k ≡ Less → AllByRecursion (λ y. order x y ≡ Less) xs → AllByRecursion (λ y. order x y ≡ Less) (insert_key order xs k)
all_below_more x k [] e all = (e, tt)
all_below_more x k (y ∷ ys) e all = by (order k y) (all_below_more x k ys e all.1)
  where
    by : (r : Ordering) → AllByRecursion (λ z. order x z ≡ Less) (insert_key order ys k) → AllByRecursion (λ z. order x z ≡ Less) (match_ordering r (k ∷ y ∷ ys) (y ∷ ys) (y ∷ insert_key order ys k))
    by Less h = (e, all)
    by Equal h = all
    by Greater h = (all.0, h)

-- Names that ascend still do with one more in its place.
ascending_more : (k : List ℕ) (xs : List (List ℕ)) → IsStrictlySortedBy order xs → IsStrictlySortedBy order (insert_key order xs k)
unfolding IsStrictlySortedBy
ascending_more k [] s = (tt, tt)
ascending_more k (x ∷ xs) s = by (order k x) refl (ascending_more k xs s.1)
  where
    by : (r : Ordering) → order k x ≡ r → IsStrictlySortedBy order (insert_key order xs k) → IsStrictlySortedBy order (match_ordering r (k ∷ x ∷ xs) (x ∷ xs) (x ∷ insert_key order xs k))
    by Less e h = ((e, all_below k x xs e s.0), s)
    by Equal e h = s
    by Greater e h = (all_below_more x k xs (nat_list_cmp_total.antisymm x k ∙ ap ordering_reverse e) s.0, h)

ascending_with : (dir : List ℕ) (names : List (List ℕ)) (file : File) → IsStrictlySortedBy order names → IsStrictlySortedBy order (with_name dir names file)
ascending_with dir names file s = by (name_in dir file.path)
  where
    by : (o : Option (List ℕ)) → IsStrictlySortedBy order (elim o [ None ↦ names | Some name ↦ insert_key order names name ])
    by None = s
    by (Some name) = ascending_more name names s

ascending_all : (dir : List ℕ) (files : List File) (names : List (List ℕ)) → IsStrictlySortedBy order names → IsStrictlySortedBy order (fold (with_name dir) names files)
ascending_all dir [] names s = s
ascending_all dir (file ∷ files) names s = ascending_all dir files (with_name dir names file) (ascending_with dir names file s)

-- The names of a folder ascend.
pub names_ascend : (dir : List ℕ) (files : List File) → IsStrictlySortedBy order (names_in dir files)
unfolding IsStrictlySortedBy
names_ascend dir files = ascending_all dir files [] tt

-- What follows a beginning is what stands behind it.
begins : (beginning octets rest : List ℕ) → after_beginning beginning octets ≡ Some rest → octets ≡ beginning ++ rest
begins beginning octets rest e = by (bytes_eq (take (length beginning) octets) beginning) (bytes_eq-Decides (take (length beginning) octets) beginning).0 e
  where
    by : (b : Bool) → (b ≡ true → take (length beginning) octets ≡ beginning) → cond b (Some (drop (length beginning) octets)) None ≡ Some rest → octets ≡ beginning ++ rest
    by true same f =
        let behind : drop (length beginning) octets ≡ rest = cc in
        sym (take-append-drop (length beginning) octets) ∙ ap (λ front. front ++ drop (length beginning) octets) (same refl) ∙ ap (λ xs. beginning ++ xs) behind
    by false same f = absurd cc

-- What stands behind a beginning follows it.
follows : (beginning rest : List ℕ) → after_beginning beginning (beginning ++ rest) ≡ Some rest
follows beginning rest =
    ap (λ front. cond (bytes_eq front beginning) (Some (drop (length beginning) (beginning ++ rest))) None) (take-append_seam beginning rest)
    ∙ ap (λ b. cond b (Some (drop (length beginning) (beginning ++ rest))) None) ((bytes_eq-Decides beginning beginning).1 refl)
    ∙ ap Some (drop-append_seam beginning rest)

-- A name that is taken as one is that name, without a slash.
plain_is : (name k : List ℕ) → plain_name name ≡ Some k → (name ≡ k) × (has_slash k ≡ false)
plain_is name k e = by (has_slash name) refl e
  where
    by : (b : Bool) → has_slash name ≡ b → cond b None (Some name) ≡ Some k → (name ≡ k) × (has_slash k ≡ false)
    by true slash f = absurd cc
    by false slash f =
        let same : name ≡ k = cc in
        (same, ap has_slash (sym same) ∙ slash)

-- A file that is found right in a folder has the folder's path, a slash and its name, which has no slash.
found_is : (dir path k : List ℕ) → name_in dir path ≡ Some k → (path ≡ dir ++ 47 ∷ k) × (has_slash k ≡ false)
found_is dir path k e =
    option_and_then_some plain_name (below dir path) k e (λ name below_is plain.
    option_and_then_some (after_beginning (47 ∷ [])) (after_beginning dir path) name below_is (λ rest in_dir behind.
    let is = plain_is name k plain in
    (begins dir path rest in_dir ∙ ap (λ xs. dir ++ xs) (begins (47 ∷ []) rest name behind ∙ ap (λ xs. 47 ∷ xs) is.0), is.1)))

-- A file with such a path is found.
is_found : (dir k : List ℕ) → has_slash k ≡ false → name_in dir (dir ++ 47 ∷ k) ≡ Some k
is_found dir k plain =
    ap (λ o. option_and_then plain_name (option_and_then (after_beginning (47 ∷ [])) o)) (follows dir (47 ∷ k))
    ∙ ap (option_and_then plain_name) (follows (47 ∷ []) k)
    ∙ ap (λ b. cond b None (Some k)) plain

-- Whether this name is there and is n.
abbrev is_name : Option (List ℕ) → List ℕ → Bool
is_name None n = false
is_name (Some k) n = bytes_eq n k

both_true : (s b : Bool) → (not s && b) ≡ true → (s ≡ false) × (b ≡ true)
both_true true b e = absurd cc
both_true false b e = (refl, e)

both_hold : (s b : Bool) → s ≡ false → b ≡ true → (not s && b) ≡ true
both_hold true b e f = absurd cc
both_hold false b e f = f

-- A file is found under a name exactly where its path is the folder's, a slash and that name, which has no slash.
named : (dir path n : List ℕ) → is_name (name_in dir path) n ≡ (not (has_slash n) && bytes_eq path (dir ++ 47 ∷ n))
named dir path n = both_ways (is_name (name_in dir path) n) (not (has_slash n) && bytes_eq path (dir ++ 47 ∷ n)) (there (name_in dir path) refl) back
  where
    there : (o : Option (List ℕ)) → name_in dir path ≡ o → is_name o n ≡ true → (not (has_slash n) && bytes_eq path (dir ++ 47 ∷ n)) ≡ true
    there None e f = absurd cc
    there (Some k) e f =
        let same : n ≡ k = (bytes_eq-Decides n k).0 f in
        let is = found_is dir path k e in
        both_hold (has_slash n) (bytes_eq path (dir ++ 47 ∷ n)) (ap has_slash same ∙ is.1)
        ((bytes_eq-Decides path (dir ++ 47 ∷ n)).1 (is.0 ∙ ap (λ xs. dir ++ 47 ∷ xs) (sym same)))

    back : (not (has_slash n) && bytes_eq path (dir ++ 47 ∷ n)) ≡ true → is_name (name_in dir path) n ≡ true
    back e =
        let holds = both_true (has_slash n) (bytes_eq path (dir ++ 47 ∷ n)) e in
        let at : path ≡ dir ++ 47 ∷ n = (bytes_eq-Decides path (dir ++ 47 ∷ n)).0 holds.1 in
        ap (λ o. is_name o n) (ap (name_in dir) at ∙ is_found dir n holds.0) ∙ (bytes_eq-Decides n n).1 refl

absorbed : (a b : Bool) → (a || b) ≡ (a || (a || b))
absorbed true b = refl
absorbed false b = refl

swapped : (a b c : Bool) → (a || (b || c)) ≡ (b || (a || c))
swapped true true c = refl
swapped true false c = refl
swapped false true c = refl
swapped false false c = refl

-- A name is among those with one more exactly where it is that one, or was among them.
among_more : (n k : List ℕ) (xs : List (List ℕ)) → is_among n (insert_key order xs k) ≡ (bytes_eq n k || is_among n xs)
among_more n k [] = refl
among_more n k (x ∷ xs) = by (order k x) refl (among_more n k xs)
  where
    by : (r : Ordering) → order k x ≡ r → is_among n (insert_key order xs k) ≡ (bytes_eq n k || is_among n xs)
        → is_among n (match_ordering r (k ∷ x ∷ xs) (x ∷ xs) (x ∷ insert_key order xs k)) ≡ (bytes_eq n k || (bytes_eq n x || is_among n xs))
    by Less e h = refl
    by Equal e h = absorbed (bytes_eq n x) (is_among n xs) ∙ ap (λ z. bytes_eq n z || (bytes_eq n x || is_among n xs)) (sym (exact_bytes k x e))
    by Greater e h = ap (λ t. bytes_eq n x || t) h ∙ swapped (bytes_eq n x) (bytes_eq n k) (is_among n xs)

among_with : (dir n : List ℕ) (names : List (List ℕ)) (file : File) → is_among n (with_name dir names file) ≡ (is_name (name_in dir file.path) n || is_among n names)
among_with dir n names file = by (name_in dir file.path)
  where
    by : (o : Option (List ℕ)) → is_among n (elim o [ None ↦ names | Some name ↦ insert_key order names name ]) ≡ (is_name o n || is_among n names)
    by None = refl
    by (Some name) = among_more n name names

gathered : (s b h a : Bool) → ((s && h) || ((s && b) || a)) ≡ ((s && (b || h)) || a)
gathered false b h a = refl
gathered true false h a = refl
gathered true true true a = refl
gathered true true false a = refl

none_more : (s a : Bool) → a ≡ ((s && false) || a)
none_more true a = refl
none_more false a = refl

among_all : (dir n : List ℕ) (files : List File) (names : List (List ℕ)) →
    is_among n (fold (with_name dir) names files) ≡ ((not (has_slash n) && has_path (dir ++ 47 ∷ n) files) || is_among n names)
among_all dir n [] names = none_more (not (has_slash n)) (is_among n names)
among_all dir n (file ∷ files) names =
    among_all dir n files (with_name dir names file)
    ∙ ap (λ t. (not (has_slash n) && has_path (dir ++ 47 ∷ n) files) || t) (among_with dir n names file ∙ ap (λ t. t || is_among n names) (named dir file.path n))
    ∙ gathered (not (has_slash n)) (bytes_eq file.path (dir ++ 47 ∷ n)) (has_path (dir ++ 47 ∷ n) files) (is_among n names)

or_false : (a : Bool) → (a || false) ≡ a
or_false true = refl
or_false false = refl

-- A name is listed exactly where it has no slash and the map has the folder's path, a slash and that name.
pub names_are_whole : (dir n : List ℕ) (files : List File) → is_among n (names_in dir files) ≡ (not (has_slash n) && has_path (dir ++ 47 ∷ n) files)
names_are_whole dir n files = among_all dir n files [] ∙ or_false (not (has_slash n) && has_path (dir ++ 47 ∷ n) files)
