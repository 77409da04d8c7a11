use Rattle.std.proofs.Common.{◌≡◌, Option, List, Ok, None, ap, sym, subst, ◌∙◌}
use Rattle.unlang_cond.specs.declared.atom.Token.{Token}
use Rattle.unlang_cond.specs.declared.groups.Step.{Step}
use Rattle.unlang_cond.specs.declared.fault.Wrong.{Wrong}
use Rattle.unlang_cond.specs.Steps.{AreFit, AreSteps, first_refused}
use Rattle.unlang_cond.specs.Trees.{tree_of}
use Rattle.unlang_cond.proofs.Refused.{none_refused}
use Rattle.unlang_cond.proofs.Ready.{all_fit}
use Rattle.unlang_cond.proofs.Judged.{refused_reading, wrong_reading, whole_reading}
use Rattle.unlang_cond.proofs.condition.Cond.parse.Goals as goal

-- tokens whose steps are ready have no pattern that is refused
all_taken : (tokens : List Token) (steps : List Step) → AreSteps tokens steps → first_refused tokens ≡ None
all_taken tokens steps ready = none_refused tokens (subst AreFit ready.same (all_fit steps ready.ready))

pub returns-in-Err-clause-fault : goal.returns-in-Err-clause-fault
returns-in-Err-clause-fault c =
    rw c.refusal_of.ensures (refused_reading c.args.text.now c.args.dict.now c.in-Ok.field-0.tokens.items c.in-Ok.field-0.wrong c.in-Err.error c.in-Ok.ensures.tokens c.in-Err.ensures.refused)

pub returns-in-Some-clause-fault : goal.returns-in-Some-clause-fault
returns-in-Some-clause-fault c =
    rw c.fault_of.ensures
    (wrong_reading c.args.text.now c.args.dict.now c.in-Ok.field-0.tokens.items c.in-Ok.field-0.wrong c.in-Some.wrong c.in-Ok.ensures.tokens c.in-Some.is
    (all_taken c.in-Ok.field-0.tokens.items c.in-Ok-steps_of.steps.items c.in-Ok-steps_of.ensures.ready))

pub returns-in-None-clause-whole : goal.returns-in-None-clause-whole
returns-in-None-clause-whole c =
    whole_reading c.args.text.now c.args.dict.now c.in-Ok.field-0.tokens.items c.in-Ok.field-0.wrong c.in-Ok.ensures.tokens c.in-None.is
    (all_taken c.in-Ok.field-0.tokens.items c.in-Ok-steps_of.steps.items c.in-Ok-steps_of.ensures.ready)
    ∙ ap (λ (tokens : List Token). Ok (tree_of tokens)) (sym c.in-Ok-steps_of.ensures.ready.same)

pub returns-in-None-clause-patterns : goal.returns-in-None-clause-patterns
returns-in-None-clause-patterns c =
    let ready = c.in-Ok-steps_of.ensures.ready in
    rw (ap (λ (r : List Token × Option Wrong). r.0) c.in-Ok.ensures.tokens) (subst AreFit ready.same (all_fit c.in-Ok-steps_of.steps.items ready.ready))
