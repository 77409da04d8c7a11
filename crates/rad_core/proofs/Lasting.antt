-- Replies whose keeping time lasts.
use Rattle.std.proofs.Common.{ℕ, ◌≡◌, ◌≤◌, min, Bool, true, false, cond, List, [], ◌∷◌, ◌++◌, filter, refl, ap, ◌∙◌, arith}
use Rattle.std.proofs.lemmas.Bool.Decides.{nat_tests}
use Rattle.rad_core.specs.Requests.{KeptReply, lasts_at, LastTo}
use Rattle.rad_core.proofs.Keys.{AllR-append, AllR-map}

-- a reply lasts up to its last second
pub lasting : (moment : ℕ) (reply : KeptReply) → moment ≤ reply.until → lasts_at moment reply ≡ true
lasting moment reply h = grind (arith, nat_tests)

-- and no longer
pub lasted : (moment : ℕ) (reply : KeptReply) → lasts_at moment reply ≡ true → moment ≤ reply.until
lasted moment reply h = grind (arith, nat_tests, h)

-- what is left at a moment lasts to it
pub left_last : (moment : ℕ) (kept : List KeptReply) → LastTo moment (filter (lasts_at moment) kept)
left_last moment [] = tt
left_last moment (x ∷ xs) = (elim (lasts_at moment x) as (λ b. lasts_at moment x ≡ b → LastTo moment (cond b (x ∷ filter (lasts_at moment) xs) (filter (lasts_at moment) xs))) [
  | true ↦ λ is. (lasted moment x is, left_last moment xs)
  | false ↦ λ is. left_last moment xs
]) refl

-- where all last to a later moment, all are left
pub all_left : (moment oldest : ℕ) (kept : List KeptReply) → moment ≤ oldest → LastTo oldest kept → filter (lasts_at moment) kept ≡ kept
all_left moment oldest [] early last = refl
all_left moment oldest (x ∷ xs) early last =
    let is : moment ≤ x.until = let most = last.0 in omega (arith, early, most) in
    ap (λ (b : Bool). cond b (x ∷ filter (lasts_at moment) xs) (filter (lasts_at moment) xs)) (lasting moment x is) ∙ ap (λ more. x ∷ more) (all_left moment oldest xs early last.1)

-- one more reply
pub last_push : (oldest : ℕ) (kept : List KeptReply) (reply : KeptReply) → LastTo oldest kept → LastTo (min oldest reply.until) (kept ++ reply ∷ [])
last_push oldest kept reply last =
    AllR-append (λ (k : KeptReply). min oldest reply.until ≤ k.until) kept (reply ∷ [])
    (AllR-map (λ (k : KeptReply). oldest ≤ k.until) (λ (k : KeptReply). min oldest reply.until ≤ k.until) kept (λ k h. grind (arith, h)) last)
    (grind arith, tt)
