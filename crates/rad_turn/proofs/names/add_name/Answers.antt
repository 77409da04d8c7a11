use Rattle.std.proofs.Common.{rules, ◌≡◌, ◌-◌, sym, ◌∙◌, subst, arith, insert, ℕ}
use Rattle.rad_turn.specs.Names.{with_name}
use Rattle.rad_turn.proofs.Naming.{least_is, least_near, inserted}
use Rattle.rad_turn.proofs.names.add_name.Goals as goal

pub overflow_sub-name : goal.overflow_sub-name
overflow_sub-name c = let least = least_is c.args.out.now.items c.requires.rising in let positive = least.positive in let free = c.requires.free in omega arith

pub insert-requires : goal.insert-requires
insert-requires c = let near = least_near c.args.out.now.items c.requires.rising in let free = c.requires.free in search rules

pub returns-clause-added : goal.returns-clause-added
returns-clause-added c = let out = c.args.out.now.items in
    c.in_ok-insert.ensures.items ∙ subst (λ (n : ℕ). insert out (n - 1) n ≡ with_name n out) (sym c.requires.free) (sym (inserted out c.requires.rising))
