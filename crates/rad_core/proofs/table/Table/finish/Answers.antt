use Rattle.std.proofs.Common.{ℕ, ◌≡◌, ◌+◌, [], ◌∷◌, ◌++◌, length, map, min, ap, sym, ◌∙◌, subst, arith}
use Rattle.std.proofs.lemmas.List.{length_push, map_push}
use Rattle.rad_core.specs.Requests.{LastTo}
use Rattle.rad_core.specs.Rows.{kept_seen}
use Rattle.rad_core.proofs.Lasting.{last_push}
use Rattle.rad_core.proofs.table.Table.finish.Goals as goal

pub invariant_of-self-in-Some-reply : goal.invariant_of-self-in-Some-reply
invariant_of-self-in-Some-reply g c =
    let old = c.self.inside.kept.items in
    let more : length c.push_reserved.new.self.items ≡ length old + 1 = ap length c.push_reserved.ensures.items ∙ length_push old c.of-kept.result in
    let least : c.min-self-inside.result ≡ min c.self.inside.oldest c.of-kept.result.until = cc in
    let seen : map kept_seen c.push_reserved.new.self.items ≡ map kept_seen old ++ kept_seen c.of-kept.result ∷ [] = ap (map kept_seen) c.push_reserved.ensures.items ∙ map_push kept_seen old c.of-kept.result in (
      omega (arith, more, c.in-Some.ensures.fewer, c.push_reserved.ensures.capacity, c.self.invariant.0),
      omega (arith, more, c.in-Some.ensures.fewer, c.self.invariant.1),
      subst (λ (m : ℕ). LastTo m (map kept_seen c.push_reserved.new.self.items)) (sym least)
          (subst (LastTo (min c.self.inside.oldest c.of-kept.result.until)) (sym seen) (last_push c.self.inside.oldest (map kept_seen old) (kept_seen c.of-kept.result) c.self.invariant.2)),
    )
