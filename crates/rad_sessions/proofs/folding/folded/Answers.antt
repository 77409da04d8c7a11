use Rattle.std.proofs.Common.{sym, ◌∙◌}
use Rattle.rad_sessions.proofs.LineByLine.{next_line, last_line}
use Rattle.rad_sessions.proofs.folding.folded.Goals as goal

pub loop-line-preserved : goal.loop-line-preserved
loop-line-preserved c = record {
  whole =
      rw c.in_ok-after_line.ensures.list
      (sym (next_line c.loop-line.listed c.loop-line.rest.now c.in-Some.line.now c.in-Some.after.now c.in-Some.ensures.exact) ∙ c.loop-line.invariant.whole);
  fits = c.in_ok-after_line.ensures.fits c.loop-line.invariant.fits;
}

pub returns-clause-list : goal.returns-clause-list
returns-clause-list c = sym (last_line c.loop-line.listed c.loop-line.rest.now c.in_default.ensures.exact) ∙ c.loop-line.invariant.whole
