-- Keys, and lists of requests and replies under them.
use Rattle.std.proofs.Common.{ℕ, ◌≡◌, ◌==◌, ◌&&◌, ◌+◌, Bool, true, false, not, cond, List, [], ◌∷◌, ◌++◌, take, drop, filter, Option, Some, None, refl, ap, sym, ◌∙◌, subst, one-add, add-one}
use Rattle.std.specs.List.{AllByRecursion, find, position_or_len, before_first, after_first}
use Rattle.std.specs.Option.{option_map}
use Rattle.std.specs.Str.{bytes_eq}
use Rattle.std.proofs.lemmas.Bool.{eqb-true, eq-eqb, false≢true}
use Rattle.std.proofs.lemmas.Slice.Eq.{bytes_eq-Decides}
use Rattle.rad_outside.specs.declared.listen.Peer.{Peer}
use Rattle.rad_core.specs.Requests.{RequestKey, same_key}

-- both sides of a conjunction that is true
both : (a b : Bool) → (a && b) ≡ true → (a ≡ true) × (b ≡ true)
both true b h = (refl, h)
both false b h = absurd (false≢true h)

same_source : (a b : Peer) → a.addr ≡ b.addr → a.port ≡ b.port → a ≡ b
same_source a b addr port =
    ap (λ (n : ℕ). let p : Peer = record { addr = n; port = a.port } in p) addr
    ∙ ap (λ (n : ℕ). let p : Peer = record { addr = b.addr; port = n } in p) port

-- keys test the same exactly where they are
pub key_eq : (a b : RequestKey) → same_key a b ≡ true → a ≡ b
key_eq a b h =
    let first = both (a.listener == b.listener) (a.source.addr == b.source.addr && (a.source.port == b.source.port && bytes_eq a.packet b.packet)) h in
    let second = both (a.source.addr == b.source.addr) (a.source.port == b.source.port && bytes_eq a.packet b.packet) first.1 in
    let third = both (a.source.port == b.source.port) (bytes_eq a.packet b.packet) second.1 in
    let listener : a.listener ≡ b.listener = eqb-true a.listener b.listener first.0 in
    let addr : a.source.addr ≡ b.source.addr = eqb-true a.source.addr b.source.addr second.0 in
    let port : a.source.port ≡ b.source.port = eqb-true a.source.port b.source.port third.0 in
    let packet : a.packet ≡ b.packet = (bytes_eq-Decides a.packet b.packet).0 third.1 in
    let source : a.source ≡ b.source = same_source a.source b.source addr port in
    ap (λ (n : ℕ). let k : RequestKey = record { listener = n; source = a.source; packet = a.packet } in k) listener
    ∙ ap (λ (p : Peer). let k : RequestKey = record { listener = b.listener; source = p; packet = a.packet } in k) source
    ∙ ap (λ (o : List ℕ). let k : RequestKey = record { listener = b.listener; source = b.source; packet = o } in k) packet

pub key_same : (a : RequestKey) → same_key a a ≡ true
key_same a =
    let listener = eq-eqb a.listener a.listener refl in
    let addr = eq-eqb a.source.addr a.source.addr refl in
    let port = eq-eqb a.source.port a.source.port refl in
    let packet = (bytes_eq-Decides a.packet a.packet).1 refl in
    ap (λ (t : Bool). t && (a.source.addr == a.source.addr && (a.source.port == a.source.port && bytes_eq a.packet a.packet))) listener
    ∙ ap (λ (t : Bool). t && (a.source.port == a.source.port && bytes_eq a.packet a.packet)) addr
    ∙ ap (λ (t : Bool). t && bytes_eq a.packet a.packet) port
    ∙ packet

pub key_differs : (a b : RequestKey) → ¬ (a ≡ b) → same_key a b ≡ false
key_differs a b differs = (elim (same_key a b) as (λ t. same_key a b ≡ t → t ≡ false) [
  | true ↦ λ e. absurd (differs (key_eq a b e))
  | false ↦ λ e. refl
]) refl

pub key_apart : (a b : RequestKey) → same_key a b ≡ false → ¬ (a ≡ b)
key_apart a b h e = false≢true (sym h ∙ subst (λ (k : RequestKey). same_key a k ≡ true) e (key_same a))

pub none_below : {X Y : Type 0} (f : X → Y) (o : Option X) → option_map f o ≡ None → o ≡ None
none_below f None h = refl
none_below f (Some x) h = cc

pub some_below : {X Y : Type 0} (f : X → Y) (o : Option X) (y : Y) → option_map f o ≡ Some y → (x : X) × (o ≡ Some x) × (f x ≡ y)
some_below f None y h = cc
some_below f (Some x) y h = (x, refl, cc)

module _ {X : Type 0} where
  pub AllR-append : (P : X → Type 0) (xs ys : List X) → AllByRecursion P xs → AllByRecursion P ys → AllByRecursion P (xs ++ ys)
  AllR-append P [] ys a b = b
  AllR-append P (x ∷ xs) ys a b = (a.0, AllR-append P xs ys a.1 b)

  pub AllR-map : (P Q : X → Type 0) (xs : List X) → ((x : X) → P x → Q x) → AllByRecursion P xs → AllByRecursion Q xs
  AllR-map P Q [] h a = tt
  AllR-map P Q (x ∷ xs) h a = (h x a.0, AllR-map P Q xs h a.1)

  -- what is found has what all have
  pub AllR-found : (P : X → Type 0) (p : X → Bool) (xs : List X) (x : X) → AllByRecursion P xs → find p xs ≡ Some x → P x
  AllR-found P p [] x a h = cc
  AllR-found P p (y ∷ ys) x a h = (elim (p y) as (λ b. cond b (Some y) (find p ys) ≡ Some x → P x) [
    | true ↦ λ e. let same : y ≡ x = cc in subst P same a.0
    | false ↦ λ e. AllR-found P p ys x a.1 e
  ]) h

  -- nothing found: none passes
  pub AllR-none : (p : X → Bool) (xs : List X) → find p xs ≡ None → AllByRecursion (λ x. p x ≡ false) xs
  AllR-none p [] h = tt
  AllR-none p (y ∷ ys) h = (elim (p y) as (λ b. p y ≡ b → cond b (Some y) (find p ys) ≡ None → AllByRecursion (λ x. p x ≡ false) (y ∷ ys)) [
    | true ↦ λ is e. cc
    | false ↦ λ is e. (is, AllR-none p ys e)
  ]) refl h

  -- a filter loses nothing that passes it, and adds nothing
  pub find_kept : (p q : X → Bool) (xs : List X) (x : X) → find p xs ≡ Some x → q x ≡ true → find p (filter q xs) ≡ Some x
  find_kept p q [] x h k = cc
  find_kept p q (y ∷ ys) x h k = (elim (p y) as (λ b. p y ≡ b → cond b (Some y) (find p ys) ≡ Some x → find p (cond (q y) (y ∷ filter q ys) (filter q ys)) ≡ Some x) [
    | true ↦ λ is e.
        let same : y ≡ x = cc in
        let passes : q y ≡ true = ap q same ∙ k in
        ap (λ (t : Bool). find p (cond t (y ∷ filter q ys) (filter q ys))) passes ∙ ap (λ (t : Bool). cond t (Some y) (find p (filter q ys))) is ∙ ap Some same
    | false ↦ λ is e. (elim (q y) as (λ t. find p (cond t (y ∷ filter q ys) (filter q ys)) ≡ Some x) [
      | true ↦ ap (λ (t : Bool). cond t (Some y) (find p (filter q ys))) is ∙ find_kept p q ys x e k
      | false ↦ find_kept p q ys x e k
    ])
  ]) refl h

  pub find_lost : (p q : X → Bool) (xs : List X) → find p xs ≡ None → find p (filter q xs) ≡ None
  find_lost p q [] h = refl
  find_lost p q (y ∷ ys) h = (elim (p y) as (λ b. p y ≡ b → cond b (Some y) (find p ys) ≡ None → find p (cond (q y) (y ∷ filter q ys) (filter q ys)) ≡ None) [
    | true ↦ λ is e. cc
    | false ↦ λ is e. (elim (q y) as (λ t. find p (cond t (y ∷ filter q ys) (filter q ys)) ≡ None) [
      | true ↦ ap (λ (t : Bool). cond t (Some y) (find p (filter q ys))) is ∙ find_lost p q ys e
      | false ↦ find_lost p q ys e
    ])
  ]) refl h

  -- the list without its first element that passes
  pub without_first : (p : X → Bool) (x : X) (xs : List X) → before_first p (x ∷ xs) ++ after_first p (x ∷ xs) ≡ cond (p x) xs (x ∷ (before_first p xs ++ after_first p xs))
  without_first p x xs =
      let n : ℕ = position_or_len p xs in
      elim (p x) as (λ b. take (cond (not b) (1 + n) 0) (x ∷ xs) ++ drop (cond (not b) (1 + n) 0 + 1) (x ∷ xs) ≡ cond b xs (x ∷ (take n xs ++ drop (n + 1) xs))) [
        | true ↦ refl
        | false ↦ simp (one-add, add-one)
      ]
