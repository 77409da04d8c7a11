use Rattle.std.proofs.Common.{ap, ◌∙◌, rules, tests}
use Rattle.std.specs.Option.{option_map}
use Rattle.std.proofs.lemmas.Iterator.{YieldsList-from_slice}
use Rattle.std.proofs.lemmas.Iterator.Search.{find_from_yields_List}
use Rattle.rad_core.specs.Requests.{is_kept_for}
use Rattle.rad_core.specs.Rows.{key_seen, kept_seen}
use Rattle.rad_core.proofs.Rows.{map-find}
use Rattle.rad_core.proofs.table.kept_for.Goals as goal

pub returns : goal.returns
returns c =
    ap (option_map kept_seen) (find_from_yields_List (λ kept. is_kept_for (key_seen c.args.key) (kept_seen kept)) _ _ c.find.result c.find.ensures.ran (YieldsList-from_slice c.args.kept.now cc) (λ x b q k. search (rules, tests)))
    ∙ map-find kept_seen (is_kept_for (key_seen c.args.key)) c.args.kept.now
