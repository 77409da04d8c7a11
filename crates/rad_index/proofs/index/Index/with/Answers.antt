use Rattle.std.proofs.Common.{◌≡◌, ℕ, List, [], ◌∷◌, ◌++◌, length, eqb, false, unwrap_or, option_map, nat_cmp, ap, ◌∙◌, arith}
use Rattle.std.proofs.lemmas.Grind.{common_steps}
use Rattle.std.specs.BTreeMap.{get}
use Rattle.rad_index.proofs.PlacesLemmas.{places_with}
use Rattle.rad_index.proofs.index.Index.with.Goals as goal

pub invariant_of-result : goal.invariant_of-result
invariant_of-result c =
    let old : ℕ → List ℕ = λ q. unwrap_or (option_map (λ places. places.items) (get nat_cmp c.self.inside.places q)) [] in
    let new : ℕ → List ℕ = λ q. unwrap_or (option_map (λ places. places.items) (get nat_cmp c.insert.new.self q)) [] in
    let counted : c.self.inside.keys.len ≡ length c.self.inside.keys.items = omega arith in
    let same : new c.args.key ≡ old c.args.key ++ length c.self.inside.keys.items ∷ [] = rw (c.in_ok-insert.ensures.updates.1, c.in_ok-push.ensures.items, c.taken-here.ensures.here, c.len.ensures) (ap (λ n. old c.args.key ++ n ∷ []) counted) in
    let others : (q : ℕ) → eqb c.args.key q ≡ false → new q ≡ old q = λ q apart. ap (λ o. unwrap_or (option_map (λ places. places.items) o) []) (c.in_ok-insert.ensures.updates.2 q (grind (arith, common_steps)) ∙ c.taken-here.ensures.others q apart) in
    rw c.in_ok-push-2.ensures.items (places_with old new c.self.inside.keys.items c.args.key c.self.invariant same others)
