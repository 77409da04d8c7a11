use Rattle.std.proofs.Common.{◌≡◌, ◌-◌, ◌<◌, ◌≢◌, false, eqb, ◌∷◌, List, ℕ, Ok, refl, sym, ap, subst, ◌∙◌, length, arith}
use Rattle.std.proofs.lemmas.Bool.{eqb-true, eqb-false}
use Rattle.std.proofs.lemmas.Result.{err_from_is_err_and}
use Rattle.rad_outside.specs.Files.{FilesTold}
use Rattle.rad_text.specs.Paths.{joined}
use Rattle.rad_conf.specs.declared.growth.Growth.{Growth}
use Rattle.rad_conf.specs.Answers.{IsFault}
use Rattle.rad_conf.specs.Growth.{taken, text_read}
use Rattle.rad_conf.specs.Includes.{paths_of, found_at, found_read, include_read}
use Rattle.rad_outside.proofs.Tellings.{Tells-same, Tells-weaker, Tells-trans}
use Rattle.rad_conf.proofs.IncludedFiles.{too_deep, include_missing, include_begins, path_fails, path_goes, paths_done, same_value}
use Rattle.rad_conf.proofs.Going.{goes_on, goes_wrong, goes_out, is_done, starts, too_long, end_fails, end_goes}
use Rattle.rad_conf.proofs.including.+reading.Goals as goal

nonzero : (n : ℕ) → false ≡ eqb n 0 → 0 < n
nonzero n e = omega (arith, eqb-false n 0 (sym e))

pub include_read-returns-then-left-eq0-clause-told : goal.include_read-returns-then-left-eq0-clause-told
include_read-returns-then-left-eq0-clause-told g t c =
    let none : c.args.left ≡ 0 = omega arith in
    Tells-same _ (g.F.Files.told c.args.files.now)
    (λ (b : FilesTold). (refl, too_deep b.present c.args.root.now c.args.left c.args.place c.args.optional c.args.path.now c.args.growth.now none))

pub include_read-returns-in_default-clause-told : goal.include_read-returns-in_default-clause-told
include_read-returns-in_default-clause-told g t c =
    let some : c.args.left ≢ 0 = omega arith in
    Tells-weaker _ (g.F.Files.told c.args.files.now) (g.F.Files.told c.paths_of.new.files)
    (λ (b n : FilesTold) told. (
      told.0,
      include_missing b.present c.args.root.now c.args.left c.args.place c.args.optional c.args.path.now c.args.growth.now c.missing.result some
          (same_value (paths_of b.present c.args.root.now c.args.path.now) c.in_ok-paths.field-0 told.1 ∙ c.in_default.is) c.missing.ensures,
    ))
    c.in_ok-paths.ensures.told

pub include_read-loop-path-init : goal.include_read-loop-path-init
include_read-loop-path-init g t c =
    let some : c.args.left ≢ 0 = omega arith in
    record {
      told = Tells-weaker _ (g.F.Files.told c.args.files.now) (g.F.Files.told c.paths_of.new.files)
          (λ (b n : FilesTold) told. (
            told.0,
            include_begins b.present c.args.root.now c.args.left c.args.place c.args.optional c.args.path.now c.args.growth.now c.in-Some.paths c.as_slice-rest.result.now some
                (same_value (paths_of b.present c.args.root.now c.args.path.now) c.in_ok-paths.field-0 told.1 ∙ c.in-Some.is) (c.as_slice-rest.ensures.value ∙ c.into_vec-paths.ensures),
          ))
          c.in_ok-paths.ensures.told;
      faults = c.in_ok-paths.ensures.faults.later;
      line = refl;
    }

pub include_read-returns-in_err-found_read-clause-told : goal.include_read-returns-in_err-found_read-clause-told
include_read-returns-in_err-found_read-clause-told g t c =
    let p = err_from_is_err_and c.from_residual-in_err-found_read.result c.from_residual-in_err-found_read.ensures.1 in
    let e = c.in_err-found_read.field-0.0 in
    rw (p.1, p.2)
    (Tells-trans _ (g.F.Files.told c.args.files.now) (g.F.Files.told c.loop-path.files) (g.F.Files.told c.found_read.new.files)
    (λ (b m n : FilesTold) going found. (
      found.0 ∙ going.0,
      path_fails (include_read b.present c.args.root.now (c.args.left - 1)) b.present c.args.root.now c.args.place c.args.optional c.loop-path.rest.now c.in-Some-split_first.after.now c.as_slice.result.now c.loop-path.growth
          (include_read b.present c.args.root.now c.args.left c.args.place c.args.optional c.args.path.now c.args.growth.now) e (c.in-Some-split_first.ensures.cases.0 ∙ ap (λ (path : List ℕ). path ∷ c.in-Some-split_first.after.now) (sym c.as_slice.ensures)) going.1
          (subst (λ (told : FilesTold). IsFault (found_read (include_read told.present c.args.root.now (c.args.left - 1)) c.args.place c.args.optional c.as_slice.result.now c.loop-path.growth (found_at (joined c.args.root.now c.as_slice.result.now) told.present)) e) going.0 found.1),
    ))
    c.loop-path.invariant.told c.in_err-found_read.ensures.told)

pub include_read-loop-path-preserved : goal.include_read-loop-path-preserved
include_read-loop-path-preserved g t c =
    record {
      told = Tells-trans _ (g.F.Files.told c.args.files.now) (g.F.Files.told c.loop-path.files) (g.F.Files.told c.found_read.new.files)
          (λ (b m n : FilesTold) going found. (
            found.0 ∙ going.0,
            path_goes (include_read b.present c.args.root.now (c.args.left - 1)) b.present c.args.root.now c.args.place c.args.optional c.loop-path.rest.now c.in-Some-split_first.after.now c.as_slice.result.now c.loop-path.growth c.found_read.new.growth
                (include_read b.present c.args.root.now c.args.left c.args.place c.args.optional c.args.path.now c.args.growth.now) (c.in-Some-split_first.ensures.cases.0 ∙ ap (λ (path : List ℕ). path ∷ c.in-Some-split_first.after.now) (sym c.as_slice.ensures)) going.1
                (subst (λ (told : FilesTold). found_read (include_read told.present c.args.root.now (c.args.left - 1)) c.args.place c.args.optional c.as_slice.result.now c.loop-path.growth (found_at (joined c.args.root.now c.as_slice.result.now) told.present) ≡ Ok c.found_read.new.growth) going.0 found.1),
          ))
          c.loop-path.invariant.told c.in_ok-found_read.ensures.told;
      faults = omega (arith, c.loop-path.invariant.faults, c.in_ok-found_read.ensures.faults.later);
      line = c.in_ok-found_read.ensures.line ∙ c.loop-path.invariant.line;
    }

pub include_read-returns-clause-told : goal.include_read-returns-clause-told
include_read-returns-clause-told g t c =
    Tells-weaker _ (g.F.Files.told c.args.files.now) (g.F.Files.told c.loop-path.files)
    (λ (b n : FilesTold) going. (
      going.0,
      paths_done (include_read b.present c.args.root.now (c.args.left - 1)) b.present c.args.root.now c.args.place c.args.optional c.loop-path.rest.now c.loop-path.growth
          (include_read b.present c.args.root.now c.args.left c.args.place c.args.optional c.args.path.now c.args.growth.now) c.in_default-split_first.ensures.cases going.1,
    ))
    c.loop-path.invariant.told

pub text_read-returns-in_err-count-clause-told : goal.text_read-returns-in_err-count-clause-told
text_read-returns-in_err-count-clause-told g t c =
    let p = err_from_is_err_and c.from_residual.result c.from_residual.ensures.1 in
    let e = c.in_err-count.field-0.0 in
    rw (p.1, p.2)
    (Tells-same _ (g.F.Files.told c.args.files.now)
    (λ (b : FilesTold). (refl, too_long (include_read b.present c.args.root.now c.args.left) c.args.file.now c.args.text.now c.args.growth.now e c.in_err-count.ensures.exact)))

pub text_read-loop-rest-init : goal.text_read-loop-rest-init
text_read-loop-rest-init g t c =
    record {
      told = Tells-same _ (g.F.Files.told c.args.files.now)
          (λ (b : FilesTold). (
            refl,
            starts (include_read b.present c.args.root.now c.args.left) c.args.file.now c.args.text.now c.args.growth.now c.count.new.self c.enter.new.self c.as_slice-rest.result.now c.in_ok-count.ensures.exact c.enter.ensures
                (c.as_slice-rest.ensures.value ∙ c.in_ok-lines.ensures.exact),
          ));
      faults = omega arith;
      lines = omega (arith, c.in_ok-lines.ensures.shorter, ap length c.as_slice-rest.ensures.value, ap (λ (growth : Growth). growth.line) c.enter.ensures);
      fits = c.in_ok-count.ensures.fits;
    }

pub text_read-returns-in_err-mark-clause-told : goal.text_read-returns-in_err-mark-clause-told
text_read-returns-in_err-mark-clause-told g t c =
    let p = err_from_is_err_and c.from_residual-in_err-mark.result c.from_residual-in_err-mark.ensures.1 in
    let e = c.in_err-mark.field-0.0 in
    let long : 0 < length c.loop-rest.rest.now = nonzero (length c.loop-rest.rest.now) c.loop-rest-test.ensures in
    rw (p.1, p.2)
    (Tells-weaker _ (g.F.Files.told c.args.files.now) (g.F.Files.told c.loop-rest.files)
    (λ (b n : FilesTold) going. (
      going.0,
      goes_wrong (include_read b.present c.args.root.now c.args.left) c.args.file.now c.count.new.self.line c.count.new.self.outside c.loop-rest.growth c.loop-rest.rest.now
          (text_read (include_read b.present c.args.root.now c.args.left) c.args.file.now c.args.text.now c.args.growth.now) e long c.in_err-mark.ensures.exact going.1,
    ))
    c.loop-rest.invariant.told)

pub text_read-returns-in_err-taken-clause-told : goal.text_read-returns-in_err-taken-clause-told
text_read-returns-in_err-taken-clause-told g t c =
    let p = err_from_is_err_and c.from_residual-in_err-taken.result c.from_residual-in_err-taken.ensures.1 in
    let e = c.in_err-taken.field-0.0 in
    let long : 0 < length c.loop-rest.rest.now = nonzero (length c.loop-rest.rest.now) c.loop-rest-test.ensures in
    rw (p.1, p.2)
    (Tells-trans _ (g.F.Files.told c.args.files.now) (g.F.Files.told c.loop-rest.files) (g.F.Files.told c.taken.new.files)
    (λ (b m n : FilesTold) going step. (
      step.0 ∙ going.0,
      goes_out (include_read b.present c.args.root.now c.args.left) c.args.file.now c.count.new.self.line c.count.new.self.outside c.loop-rest.growth c.loop-rest.rest.now
          (text_read (include_read b.present c.args.root.now c.args.left) c.args.file.now c.args.text.now c.args.growth.now) c.in_ok-mark.mark c.in_ok-mark.after.now e long c.in_ok-mark.ensures.exact
          (subst (λ (told : FilesTold). IsFault (taken (include_read told.present c.args.root.now c.args.left) c.args.file.now c.in_ok-mark.mark c.loop-rest.growth) e) going.0 step.1) going.1,
    ))
    c.loop-rest.invariant.told c.in_err-taken.ensures.told)

pub text_read-loop-rest-preserved : goal.text_read-loop-rest-preserved
text_read-loop-rest-preserved g t c =
    let long : 0 < length c.loop-rest.rest.now = nonzero (length c.loop-rest.rest.now) c.loop-rest-test.ensures in
    record {
      told = Tells-trans _ (g.F.Files.told c.args.files.now) (g.F.Files.told c.loop-rest.files) (g.F.Files.told c.taken.new.files)
          (λ (b m n : FilesTold) going step. (
            step.0 ∙ going.0,
            goes_on (include_read b.present c.args.root.now c.args.left) c.args.file.now c.count.new.self.line c.count.new.self.outside c.loop-rest.growth c.loop-rest.rest.now
                (text_read (include_read b.present c.args.root.now c.args.left) c.args.file.now c.args.text.now c.args.growth.now) c.in_ok-mark.mark c.in_ok-mark.after.now c.taken.new.growth long c.in_ok-mark.ensures.exact c.in_ok-mark.ensures.shorter
                (subst (λ (told : FilesTold). taken (include_read told.present c.args.root.now c.args.left) c.args.file.now c.in_ok-mark.mark c.loop-rest.growth ≡ Ok c.taken.new.growth) going.0 step.1) going.1,
          ))
          c.loop-rest.invariant.told c.in_ok-taken.ensures.told;
      faults = omega (arith, c.loop-rest.invariant.faults, c.in_ok-taken.ensures.faults.later);
      lines = omega (arith, c.loop-rest.invariant.lines, c.in_ok-mark.ensures.lines, c.in_ok-taken.ensures.line);
      fits = c.loop-rest.invariant.fits;
    }

pub text_read-returns-in_err-end-clause-told : goal.text_read-returns-in_err-end-clause-told
text_read-returns-in_err-end-clause-told g t c =
    let p = err_from_is_err_and c.from_residual-in_err-end.result c.from_residual-in_err-end.ensures.1 in
    let e = c.in_err-end.field-0.0 in
    let ended : length c.loop-rest.rest.now ≡ 0 = eqb-true (length c.loop-rest.rest.now) 0 (sym c.loop-rest-test.ensures) in
    rw (p.1, p.2)
    (Tells-weaker _ (g.F.Files.told c.args.files.now) (g.F.Files.told c.loop-rest.files)
    (λ (b n : FilesTold) going. (
      going.0,
      end_fails c.count.new.self.line c.count.new.self.outside c.loop-rest.growth (text_read (include_read b.present c.args.root.now c.args.left) c.args.file.now c.args.text.now c.args.growth.now) e
          (is_done (include_read b.present c.args.root.now c.args.left) c.args.file.now c.count.new.self.line c.count.new.self.outside c.loop-rest.growth c.loop-rest.rest.now (text_read (include_read b.present c.args.root.now c.args.left) c.args.file.now c.args.text.now c.args.growth.now) ended going.1) c.in_err-end.ensures,
    ))
    c.loop-rest.invariant.told)

pub text_read-returns-clause-told : goal.text_read-returns-clause-told
text_read-returns-clause-told g t c =
    let ended : length c.loop-rest.rest.now ≡ 0 = eqb-true (length c.loop-rest.rest.now) 0 (sym c.loop-rest-test.ensures) in
    Tells-weaker _ (g.F.Files.told c.args.files.now) (g.F.Files.told c.loop-rest.files)
    (λ (b n : FilesTold) going. (
      going.0,
      end_goes c.count.new.self.line c.count.new.self.outside c.loop-rest.growth c.end.new.self c.leave.new.self (text_read (include_read b.present c.args.root.now c.args.left) c.args.file.now c.args.text.now c.args.growth.now)
          (is_done (include_read b.present c.args.root.now c.args.left) c.args.file.now c.count.new.self.line c.count.new.self.outside c.loop-rest.growth c.loop-rest.rest.now (text_read (include_read b.present c.args.root.now c.args.left) c.args.file.now c.args.text.now c.args.growth.now) ended going.1) c.in_ok-end.ensures c.leave.ensures,
    ))
    c.loop-rest.invariant.told
