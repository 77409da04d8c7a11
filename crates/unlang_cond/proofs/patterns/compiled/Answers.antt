use Rattle.std.proofs.Common.{◌≡◌, List, ℕ, true, false, sym, ap, subst, ◌∙◌}
use Rattle.std.specs.Prelude.{IsUtf8}
use Rattle.unlang_cond.specs.Patterns.{has_expansion}
use Rattle.unlang_cond.proofs.Refused.{expands, no_text, answered}
use Rattle.unlang_cond.proofs.patterns.compiled.Goals as goal

pub returns-then-has_expansion : goal.returns-then-has_expansion
returns-then-has_expansion c =
    expands c.args.pattern.now.source c.args.pattern.now.insensitive
    (ap has_expansion (sym c.as_slice.ensures) ∙ sym c.has_expansion.ensures ∙ c.if-has_expansion.true)

pub returns-in-Ok : goal.returns-in-Ok
returns-in-Ok c =
    answered c.args.pattern.now c.in-Ok.source.now c.built.result
    (ap has_expansion (sym c.as_slice.ensures) ∙ sym c.has_expansion.ensures ∙ c.if-has_expansion.false)
    (c.in-Ok.ensures.cases.0 ∙ c.as_slice-2.ensures) (subst IsUtf8 c.as_slice-2.ensures c.in-Ok.ensures.cases.1) c.built.ensures

pub returns-in-Err : goal.returns-in-Err
returns-in-Err c =
    no_text c.args.pattern.now.source c.args.pattern.now.insensitive (λ is. c.in-Err.ensures.cases.0 (subst IsUtf8 (sym c.as_slice-2.ensures) is))
