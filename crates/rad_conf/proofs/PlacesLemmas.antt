-- The places of pairs, as a list of nodes grows, and what is found by them.
use Rattle.std.proofs.Common.{◌≡◌, ℕ, suc, Bool, true, false, cond, eqb, List, [], ◌∷◌, ◌++◌, length, Option, Some, None, option_map, refl, sym, ap, subst, ◌∙◌, eq-eqb}
use Rattle.std.proofs.lemmas.Bool.{eqb-true}
use Rattle.rad_conf.specs.declared.tree.Node.{Node}
use Rattle.rad_conf.specs.Places.{pair_key, is_key, later, last_place}

abbrev at_end : Bool → ℕ → Option ℕ
at_end b n = cond b (Some n) None

after : (first found : Option ℕ) (b : Bool) (n : ℕ) → later first (option_map suc (later found (at_end b n))) ≡ later (later first (option_map suc found)) (at_end b (suc n))
after first None true n = refl
after first None false n = refl
after first (Some p) true n = refl
after first (Some p) false n = refl

alone : (b : Bool) → later (at_end b 0) None ≡ later None (at_end b 0)
alone true = refl
alone false = refl

last_push : (key : ℕ) (nodes : List Node) (node : Node) → last_place key (nodes ++ node ∷ []) ≡ later (last_place key nodes) (at_end (is_key key (pair_key node)) (length nodes))
unfolding last_place
last_push key [] node = alone (is_key key (pair_key node))
last_push key (x ∷ nodes) node =
    ap (λ (found : Option ℕ). later (at_end (is_key key (pair_key x)) 0) (option_map suc found)) (last_push key nodes node)
    ∙ after (at_end (is_key key (pair_key x)) 0) (last_place key nodes) (is_key key (pair_key node)) (length nodes)

pub push_none : (key : ℕ) (nodes : List Node) (node : Node) → pair_key node ≡ None → last_place key (nodes ++ node ∷ []) ≡ last_place key nodes
push_none key nodes node e = last_push key nodes node ∙ ap (λ (one : Option ℕ). later (last_place key nodes) (at_end (is_key key one) (length nodes))) e

pub push_some : (key one : ℕ) (nodes : List Node) (node : Node) (b : Bool) → pair_key node ≡ Some one → eqb one key ≡ b → last_place key (nodes ++ node ∷ []) ≡ later (last_place key nodes) (at_end b (length nodes))
push_some key one nodes node b e same =
    last_push key nodes node ∙ ap (λ (k : Option ℕ). later (last_place key nodes) (at_end (is_key key k) (length nodes))) e ∙ ap (λ (t : Bool). later (last_place key nodes) (at_end t (length nodes))) same

-- One pair more: its place is that of its key, and the others stay.
pub places_with : (old new : ℕ → Option ℕ) (nodes : List Node) (node : Node) (one : ℕ) → pair_key node ≡ Some one → ((q : ℕ) → old q ≡ last_place q nodes) → new one ≡ Some (length nodes) → ((q : ℕ) → eqb one q ≡ false → new q ≡ old q)
    → (q : ℕ) → new q ≡ last_place q (nodes ++ node ∷ [])
places_with old new nodes node one is before here others q = by_cases (eqb one q) refl where
  at_key : new one ≡ last_place one (nodes ++ node ∷ [])
  at_key = here ∙ sym (push_some one one nodes node true is (eq-eqb one one refl))

  by_cases : (b : Bool) → eqb one q ≡ b → new q ≡ last_place q (nodes ++ node ∷ [])
  by_cases true e = let same : one ≡ q = eqb-true one q e in subst (λ (k : ℕ). new k ≡ last_place k (nodes ++ node ∷ [])) same at_key
  by_cases false e = others q e ∙ before q ∙ sym (push_some q one nodes node false is e)
