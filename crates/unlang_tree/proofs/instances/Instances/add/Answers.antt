use Rattle.std.proofs.Common.{◌≡◌, ◌≤◌, length, is_some, Ok, Err, map, ◌++◌, ◌∷◌, [], sym, ap, ◌∙◌, arith}
use Rattle.unlang_tree.specs.declared.fault.AddFault.TheVariants as fault
use Rattle.unlang_tree.specs.Instances.{instance_of, number_of}
use Rattle.unlang_tree.proofs.InstanceLemmas.{key_is_number, length_seen, inserted, due_taken, due_full, due_number}
use Rattle.unlang_tree.proofs.instances.Instances.add.Goals as goal

pub returns-then-is_some-clause-answer : goal.returns-then-is_some-clause-answer
returns-then-is_some-clause-answer c =
    due_taken c.args.self.now c.args.name.now c.is_some.result
    (c.is_some.ensures ∙ ap is_some (c.get_index_of.ensures.index ∙ key_is_number c.args.name.now c.self.inside.methods.entries ∙ ap (λ l. number_of l c.args.name.now) c.self.view_is))
    c.if-is_some.true

pub returns-then-number-ge-LIMIT-clause-answer : goal.returns-then-number-ge-LIMIT-clause-answer
returns-then-number-ge-LIMIT-clause-answer c =
    let many : c.len-number.result ≡ length c.args.self.now = c.len-number.ensures.len ∙ sym (length_seen c.self.inside.methods.entries) ∙ ap length c.self.view_is in
    let at_most : c.len-number.result ≤ 1024 = omega (arith, c.len-number.ensures.len, c.self.invariant) in
    due_full c.args.self.now c.args.name.now c.is_some.result
    (c.is_some.ensures ∙ ap is_some (c.get_index_of.ensures.index ∙ key_is_number c.args.name.now c.self.inside.methods.entries ∙ ap (λ l. number_of l c.args.name.now) c.self.view_is))
    c.if-is_some.false
    (omega (arith, many, c.if-number-ge-LIMIT.true))
    ∙ ap (λ n. Err (fault.Full n)) (omega (arith, at_most, c.if-number-ge-LIMIT.true))

pub returns-clause-answer : goal.returns-clause-answer
returns-clause-answer c =
    let many : c.len-number.result ≡ length c.args.self.now = c.len-number.ensures.len ∙ sym (length_seen c.self.inside.methods.entries) ∙ ap length c.self.view_is in
    due_number c.args.self.now c.args.name.now c.is_some.result
    (c.is_some.ensures ∙ ap is_some (c.get_index_of.ensures.index ∙ key_is_number c.args.name.now c.self.inside.methods.entries ∙ ap (λ l. number_of l c.args.name.now) c.self.view_is))
    c.if-is_some.false
    (omega (arith, many, c.if-number-ge-LIMIT.false))
    ∙ ap Ok (sym many)

pub returns-clause-ok : goal.returns-clause-ok
returns-clause-ok c =
    let fresh = c.in_ok-name.name in
    ap (map instance_of) c.in_ok-insert.ensures.entries
    ∙ inserted c.self.inside.methods fresh c.args.methods c.args.name.now c.in_ok-name.ensures.items
    (sym c.get_index_of.ensures.found ∙ sym c.is_some.ensures ∙ c.if-is_some.false)
    ∙ ap (λ l. l ++ record { name = c.args.name.now; methods = c.args.methods } ∷ []) c.self.view_is
