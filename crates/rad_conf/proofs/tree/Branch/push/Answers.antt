use Rattle.std.proofs.Common.{◌≡◌, ℕ, eqb, false, Option, Some, length, nat_cmp, sym, ap, ◌∙◌, arith}
use Rattle.std.proofs.lemmas.Grind.{common_steps}
use Rattle.std.specs.BTreeMap.{get}
use Rattle.rad_conf.proofs.PlacesLemmas.{push_none, places_with}
use Rattle.rad_conf.proofs.tree.Branch.push.Goals as goal

pub invariant_of-self-in_default-key : goal.invariant_of-self-in_default-key
invariant_of-self-in_default-key c = λ q.
    rw c.in_default.ensures.items (c.self.invariant q ∙ sym (push_none q c.self.inside.nodes.items c.args.node (sym c.pair_key-key.ensures ∙ c.in_default-key.is)))

pub invariant_of-self-in-Ok : goal.invariant_of-self-in-Ok
invariant_of-self-in-Ok c =
    let old : ℕ → Option ℕ = λ q. get nat_cmp c.self.inside.places q in
    let new : ℕ → Option ℕ = λ q. get nat_cmp c.insert.new.self q in
    let here : new c.in-Some-key.key ≡ Some (length c.self.inside.nodes.items) = c.in-Ok.ensures.updates.1 ∙ ap (λ (n : ℕ). Some n) (omega arith) in
    let others : (q : ℕ) → eqb c.in-Some-key.key q ≡ false → new q ≡ old q = λ q apart. c.in-Ok.ensures.updates.2 q (grind (arith, common_steps)) in
    rw c.in_default.ensures.items (places_with old new c.self.inside.nodes.items c.args.node c.in-Some-key.key (sym c.pair_key-key.ensures ∙ c.in-Some-key.is) c.self.invariant here others)
