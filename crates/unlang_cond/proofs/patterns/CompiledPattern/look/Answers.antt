use Rattle.unlang_cond.proofs.Meant.{octets_of, looked_by_text}
use Rattle.unlang_cond.proofs.patterns.CompiledPattern.look.Goals as goal

pub returns : goal.returns
returns c =
    let meant = looked_by_text c.self.inside.regex c.self.invariant c.args.text.now (octets_of c.args.text.now c.type_inv.text) in
    rw (← c.self.view_is, ← meant) c.look.ensures
