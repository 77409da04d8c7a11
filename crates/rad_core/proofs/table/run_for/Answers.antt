use Rattle.std.proofs.Common.{ap, ◌∙◌, rules, tests}
use Rattle.std.specs.Option.{option_map}
use Rattle.std.proofs.lemmas.Iterator.{YieldsList-from_slice}
use Rattle.std.proofs.lemmas.Iterator.Search.{find_from_yields_List}
use Rattle.rad_core.specs.Requests.{is_run_for}
use Rattle.rad_core.specs.Rows.{key_seen, row_seen}
use Rattle.rad_core.proofs.Rows.{map-find}
use Rattle.rad_core.proofs.table.run_for.Goals as goal

pub returns : goal.returns
returns g c =
    ap (option_map row_seen) (find_from_yields_List (λ row. is_run_for (key_seen c.args.key) (row_seen row)) _ _ c.find.result c.find.ensures.ran (YieldsList-from_slice c.args.rows.now cc) (λ x b q k. search (rules, tests)))
    ∙ map-find row_seen (is_run_for (key_seen c.args.key)) c.args.rows.now
