use Rattle.std.proofs.Common.{List, ℕ, Option, Some, Ok, refl, sym, ap, ◌∙◌}
use Rattle.rad_outside.specs.Files.{FilesTold}
use Rattle.rad_conf.specs.Includes.{named_in}
use Rattle.rad_outside.proofs.Tellings.{Tells-same, Tells-weaker}
use Rattle.rad_conf.proofs.Sources.{folder_good, folder_bad}
use Rattle.rad_conf.proofs.source.folder_paths.Goals as goal

pub returns-in_default-clause-told : goal.returns-in_default-clause-told
returns-in_default-clause-told g c =
    Tells-same _ (g.F.Files.told c.args.files.now)
    (λ (b : FilesTold). (refl, ap (λ (found : Option (List (List ℕ))). Ok found) (folder_bad b.present c.args.path.now c.args.at.now c.in_default.ensures.cases.0)))

pub returns-in_ok-named_in-in-Names-clause-told : goal.returns-in_ok-named_in-in-Names-clause-told
returns-in_ok-named_in-in-Names-clause-told g c =
    Tells-weaker _ (g.F.Files.told c.args.files.now) (g.F.Files.told c.list.new.self)
    (λ (b n : FilesTold) told. (
      told.0,
      ap (λ (found : Option (List (List ℕ))). Ok found)
          (folder_good b.present c.args.path.now c.args.at.now c.in-Ok.at.now c.in-Ok.ensures.cases.0 c.in-Ok.ensures.cases.1 told.1.0
          ∙ ap (λ (paths : List (List ℕ)). Some paths) (ap (named_in c.args.path.now) (sym told.1.1) ∙ sym c.in_ok-named_in-in-Names.ensures)),
    ))
    c.in-Names.ensures.told
