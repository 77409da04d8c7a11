use Rattle.std.specs.Prelude.{unwrap_or}
use Rattle.std.proofs.Common.{Option, sym, ap, ◌∙◌}
use Rattle.rad_words.specs.declared.codes.Code.{Code}
use Rattle.unlang_code.specs.declared.progress.Ended.{Ended}
use Rattle.unlang_code.specs.Judgement.{default_code}
use Rattle.unlang_code.proofs.Sectioning.{section_reaches}
use Rattle.unlang_code.proofs.run.run_section.Goals as goal

pub returns-in-Some-clause-ok : goal.returns-in-Some-clause-ok
returns-in-Some-clause-ok g c =
    let coded : Option Code → Code = λ (o : Option Code). unwrap_or o (default_code c.args.section) in
    section_reaches g.M.Module.meaning c.args.stack.now c.args.dict.now c.args.section c.args.statements.now c.args.scope.now c.run_members.new.scope (g.W.World.state c.args.world.now) (g.W.World.state c.run_members.new.world) c.in_ok-so_far.so_far c.in-Some.code
    c.in_ok-so_far.ensures.ok
    (sym (ap coded (ap (λ (e : Ended). e.code) (sym c.end_of.ensures) ∙ c.in-Some.is)))

pub returns-in-None-clause-ok : goal.returns-in-None-clause-ok
returns-in-None-clause-ok g c =
    let coded : Option Code → Code = λ (o : Option Code). unwrap_or o (default_code c.args.section) in
    section_reaches g.M.Module.meaning c.args.stack.now c.args.dict.now c.args.section c.args.statements.now c.args.scope.now c.run_members.new.scope (g.W.World.state c.args.world.now) (g.W.World.state c.run_members.new.world) c.in_ok-so_far.so_far c.default_code.result
    c.in_ok-so_far.ensures.ok
    (c.default_code.ensures ∙ sym (ap coded (ap (λ (e : Ended). e.code) (sym c.end_of.ensures) ∙ c.in-None.is)))
