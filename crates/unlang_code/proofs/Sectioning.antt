-- A section, by what its statements come to.
use Rattle.std.specs.Prelude.{unwrap_or}
use Rattle.std.proofs.Common.{◌≡◌, List, ◌++◌, None, sym, ap, ◌∙◌}
use Rattle.rad_words.specs.declared.codes.Code.{Code}
use Rattle.rad_words.specs.declared.sections.Section.{Section}
use Rattle.rad_tables.specs.declared.group_kind.GroupKind.TheVariants.{Plain}
use Rattle.rad_value.specs.declared.scope.Scope.{Scope}
use Rattle.rad_dict.specs.Definitions.{Definitions}
use Rattle.rad_world.specs.Effects.{answers_of}
use Rattle.rad_world.specs.World.{WorldState}
use Rattle.mod_base.specs.Situation.{Situation, situation_in}
use Rattle.mod_base.specs.Meaning.{Meaning}
use Rattle.mod_base.specs.Reaching.{Reaches}
use Rattle.unlang_tree.specs.declared.statement.Statement.{Statement}
use Rattle.unlang_code.specs.declared.progress.Ended.{Ended}
use Rattle.unlang_code.specs.declared.progress.Progress.{Progress}
use Rattle.unlang_code.specs.Judgement.{default_code}
use Rattle.unlang_code.specs.Progress.{end_of}
use Rattle.unlang_code.specs.Run.{begun, run_of, section_done}
use Rattle.unlang_code.proofs.Pieces.{finished, ends_is}
use Rattle.unlang_code.proofs.Stepping.{left}

module _ {M : Type 0} (meaning : Meaning M) (stack : List M) (dict : Definitions) (section : Section) where
  -- the code of what a section's statements came to
  abbrev pub code_at : Ended → Code
  code_at e = unwrap_or e.code (default_code section)

  abbrev coded : Situation × Ended → Situation × Code
  coded d = (d.0, code_at d.1)

  -- a section, behind its statements
  pub section_reaches : (statements : List Statement) (s0 s1 : Scope) (w0 w1 : WorldState) (progress : Progress) (answer : Code)
      → Reaches (begun s0) w0 (left meaning stack dict section Plain None statements) s1 w1 (λ s. (s, progress)) → answer ≡ code_at (end_of progress)
      → Reaches s0 w0 (section_done meaning stack dict section statements) s1 w1 (λ s. (s, answer))
  section_reaches statements s0 s1 w0 w1 progress answer reached is = record {
    added = reached.added;
    gains = reached.gains;
    same = λ later earlier.
        ap coded (ends_is (run_of meaning stack dict section Plain statements (situation_in (begun s0) w0 (answers_of reached.added ++ later) earlier)))
        ∙ ap (λ (d : Situation × Progress). coded (finished d)) (reached.same later earlier)
        ∙ ap (λ (a : Code). (situation_in s1 w1 later (earlier ++ reached.added), a)) (sym is);
  }
