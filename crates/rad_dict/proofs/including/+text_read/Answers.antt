use Rattle.std.proofs.Common.{◌≡◌, ◌+◌, Result, Ok, Err, refl, sym, ap, subst, ◌∙◌, length, arith}
use Rattle.std.proofs.lemmas.Result.{err_from_is_err_and}
use Rattle.std.proofs.lemmas.Bool.{eqb-true}
use Rattle.rad_outside.specs.Files.{FilesTold}
use Rattle.rad_dict.specs.declared.fault.DictFault.{DictFault}
use Rattle.rad_dict.specs.declared.reading.Reading.{Reading}
use Rattle.rad_dict.specs.declared.step.Step.{Step}
use Rattle.rad_dict.specs.Answers.{IsFault, IsAnswer}
use Rattle.rad_dict.specs.Includes.{include_read, lines_read, source_at}
use Rattle.rad_text.specs.Lines.{lines_of}
use Rattle.rad_outside.proofs.Tellings.{Tells-same, Tells-weaker, Tells-trans}
use Rattle.rad_dict.proofs.Readings.{whole, Going, Ends, counted_fails, counted_goes, line_fails, line_goes, include_fails, include_missed, told_then, no_lines}
use Rattle.rad_dict.proofs.including.+text_read.Goals as goal
use Rattle.rad_dict.proofs.including.+text_read.Goals.{in-Goes, in-Includes+in_ok-text-in-Includes+in_ok-reading-in-Includes}

pub returns-in_err-reading-clause-told : goal.returns-in_err-reading-clause-told
returns-in_err-reading-clause-told g t c =
    let p = err_from_is_err_and c.from_residual.result c.from_residual.ensures.1 in
    let e = c.in_err-reading.field-0.0 in
    rw (p.1, p.2)
    (Tells-same (Ends (whole c.args.root.now c.args.left c.args.file.now c.args.text.now c.args.reading) (Err e)) (g.F.Files.told c.args.files.now)
    (λ (b : FilesTold). (refl, counted_fails (include_read b.present c.args.root.now c.args.left) c.args.file.now c.args.text.now c.args.reading e c.in_err-reading.ensures.exact)))

pub loop-rest-init : goal.loop-rest-init
loop-rest-init g t c = record {
  told = Tells-same (Going c.args.root.now c.args.left c.args.file.now 1 c.in_ok-reading.reading (lines_of c.args.text.now) (whole c.args.root.now c.args.left c.args.file.now c.args.text.now c.args.reading)) (g.F.Files.told c.args.files.now)
      (λ (b : FilesTold). (refl, counted_goes (include_read b.present c.args.root.now c.args.left) c.args.file.now c.args.text.now c.args.reading c.in_ok-reading.reading c.in_ok-reading.ensures.exact));
  faults = omega arith;
  lines = omega arith;
  fits = c.in_ok-reading.ensures.fits;
}

pub returns-in_err-reading-2-clause-told : goal.returns-in_err-reading-2-clause-told
returns-in_err-reading-2-clause-told g t c =
    let p = err_from_is_err_and c.from_residual-in_err-reading-2.result c.from_residual-in_err-reading-2.ensures.1 in
    let e = c.in_err-reading-2.field-0.0 in
    let total = whole c.args.root.now c.args.left c.args.file.now c.args.text.now c.args.reading in
    rw (p.1, p.2)
    (Tells-weaker (Ends total (Err e)) (g.F.Files.told c.args.files.now) (g.F.Files.told c.loop-rest.files)
    (λ (b n : FilesTold) going. (
      going.0,
      line_fails (include_read b.present c.args.root.now c.args.left) c.args.file.now c.loop-rest.line c.loop-rest.reading c.first_line.result.0.now (lines_of c.first_line.result.1.now) (total b.present)
          (ap (lines_read (include_read b.present c.args.root.now c.args.left) c.args.file.now c.loop-rest.line c.loop-rest.reading) (sym c.first_line.ensures.lines) ∙ going.1) e c.in_err-reading-2.ensures.exact,
    ))
    c.loop-rest.invariant.told)

pub returns-in_err-text-in-Includes-clause-told : goal.returns-in_err-text-in-Includes-clause-told
returns-in_err-text-in-Includes-clause-told g t c =
    let p = err_from_is_err_and c.from_residual-in_err-text-in-Includes.result c.from_residual-in_err-text-in-Includes.ensures.1 in
    let e = c.in_err-text-in-Includes.field-0.0 in
    let total = whole c.args.root.now c.args.left c.args.file.now c.args.text.now c.args.reading in
    let next = c.in-Includes.reading in
    rw (p.1, p.2)
    (Tells-trans (Ends total (Err e)) (g.F.Files.told c.args.files.now) (g.F.Files.told c.loop-rest.files) (g.F.Files.told c.source_at.new.files)
    (λ (b m n : FilesTold) going source. (
      source.0 ∙ going.0,
      include_fails (include_read b.present c.args.root.now c.args.left) c.args.file.now c.loop-rest.line c.loop-rest.reading c.first_line.result.0.now (lines_of c.first_line.result.1.now) (total b.present)
          (ap (lines_read (include_read b.present c.args.root.now c.args.left) c.args.file.now c.loop-rest.line c.loop-rest.reading) (sym c.first_line.ensures.lines) ∙ going.1)
          c.in-Includes.place c.in-Includes.path next e (c.in_ok-reading-2.ensures.exact ∙ ap (λ (one : Step). Ok one) c.in-Includes.is)
          (include_missed b.present c.args.root.now c.args.left c.in-Includes.place c.in-Includes.path c.as_slice.result.now next e c.as_slice.ensures
          (subst (λ (told : FilesTold). IsFault (source_at c.args.left told.present c.args.root.now c.in-Includes.place c.as_slice.result.now) e) going.0 source.1)),
    ))
    c.loop-rest.invariant.told c.in_err-text-in-Includes.ensures.told)

pub returns-in_err-reading-in-Includes-clause-told : goal.returns-in_err-reading-in-Includes-clause-told
returns-in_err-reading-in-Includes-clause-told g t c =
    let p = err_from_is_err_and c.from_residual-in_err-reading-in-Includes.result c.from_residual-in_err-reading-in-Includes.ensures.1 in
    let e = c.in_err-reading-in-Includes.field-0.0 in
    let total = whole c.args.root.now c.args.left c.args.file.now c.args.text.now c.args.reading in
    rw (p.1, p.2)
    (told_then c.args.root.now c.args.left c.args.file.now c.loop-rest.line c.loop-rest.reading c.loop-rest.rest.now c.first_line.result.0.now (lines_of c.first_line.result.1.now) total
    c.in-Includes.place c.in-Includes.path c.as_slice.result.now c.as_slice-path.result.now c.in-Includes.reading c.in_ok-text-in-Includes.text c.as_slice-text.result.now (Err e)
    (g.F.Files.told c.args.files.now) (g.F.Files.told c.loop-rest.files) (g.F.Files.told c.source_at.new.files) (g.F.Files.told c.text_read.new.files)
    c.first_line.ensures.lines (c.in_ok-reading-2.ensures.exact ∙ ap (λ (one : Step). Ok one) c.in-Includes.is) c.as_slice.ensures c.as_slice-path.ensures c.as_slice-text.ensures
    c.loop-rest.invariant.told c.in_ok-text-in-Includes.ensures.told c.in_err-reading-in-Includes.ensures.told)

pub loop-rest-preserved : goal.loop-rest-preserved
loop-rest-preserved g t c =
    let total = whole c.args.root.now c.args.left c.args.file.now c.args.text.now c.args.reading in
    elim c.match-branch-3.branch [
      | in-Goes w ↦ rw (w.files-is, w.reading-is) (record {
        told = Tells-weaker (Going c.args.root.now c.args.left c.args.file.now (c.loop-rest.line + 1) w.in-Goes.reading (lines_of c.first_line.result.1.now) total) (g.F.Files.told c.args.files.now) (g.F.Files.told c.loop-rest.files)
            (λ (b n : FilesTold) going. (
              going.0,
              line_goes (include_read b.present c.args.root.now c.args.left) c.args.file.now c.loop-rest.line c.loop-rest.reading c.first_line.result.0.now (lines_of c.first_line.result.1.now) (total b.present)
                  (ap (lines_read (include_read b.present c.args.root.now c.args.left) c.args.file.now c.loop-rest.line c.loop-rest.reading) (sym c.first_line.ensures.lines) ∙ going.1)
                  w.in-Goes.reading (c.in_ok-reading-2.ensures.exact ∙ ap (λ (one : Step). Ok one) w.in-Goes.is),
            ))
            c.loop-rest.invariant.told;
        faults = c.loop-rest.invariant.faults;
        lines = omega (arith, c.first_line.ensures.shorter, c.loop-rest.invariant.lines);
        fits = c.loop-rest.invariant.fits;
      })
      | in-Includes+in_ok-text-in-Includes+in_ok-reading-in-Includes w ↦ rw (w.files-is, w.reading-is) (record {
        told = told_then c.args.root.now c.args.left c.args.file.now c.loop-rest.line c.loop-rest.reading c.loop-rest.rest.now c.first_line.result.0.now (lines_of c.first_line.result.1.now) total
            w.in-Includes.place w.in-Includes.path w.as_slice.result.now w.as_slice-path.result.now w.in-Includes.reading w.in_ok-text-in-Includes.text w.as_slice-text.result.now (Ok w.in_ok-reading-in-Includes.reading)
            (g.F.Files.told c.args.files.now) (g.F.Files.told c.loop-rest.files) (g.F.Files.told w.source_at.new.files) (g.F.Files.told w.text_read.new.files)
            c.first_line.ensures.lines (c.in_ok-reading-2.ensures.exact ∙ ap (λ (one : Step). Ok one) w.in-Includes.is) w.as_slice.ensures w.as_slice-path.ensures w.as_slice-text.ensures
            c.loop-rest.invariant.told w.in_ok-text-in-Includes.ensures.told w.in_ok-reading-in-Includes.ensures.told;
        faults = omega (arith, c.loop-rest.invariant.faults, w.source_at.ensures.faults.later, w.text_read.ensures.faults.later);
        lines = omega (arith, c.first_line.ensures.shorter, c.loop-rest.invariant.lines);
        fits = c.loop-rest.invariant.fits;
      })
    ]

pub returns-clause-told : goal.returns-clause-told
returns-clause-told g t c =
    let empty : length c.loop-rest.rest.now ≡ 0 = eqb-true (length c.loop-rest.rest.now) 0 (sym c.loop-rest-test.ensures) in
    let total = whole c.args.root.now c.args.left c.args.file.now c.args.text.now c.args.reading in
    Tells-weaker (Ends total c.ended.result) (g.F.Files.told c.args.files.now) (g.F.Files.told c.loop-rest.files)
    (λ (b n : FilesTold) going. (
      going.0,
      subst (λ (said : Result Reading DictFault). IsAnswer said c.ended.result)
          (sym (no_lines (include_read b.present c.args.root.now c.args.left) c.args.file.now c.loop-rest.line c.loop-rest.reading c.loop-rest.rest.now empty) ∙ going.1) c.ended.ensures.exact,
    ))
    c.loop-rest.invariant.told
