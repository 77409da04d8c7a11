use Rattle.std.proofs.Common.{◌≡◌, map, ap, ◌∙◌, sym}
use Rattle.std.specs.List.{position}
use Rattle.std.specs.Option.{option_map}
use Rattle.rad_core.specs.Requests.{is_at}
use Rattle.rad_core.specs.Rows.{row_seen}
use Rattle.rad_core.proofs.Rows.{map-find, map_parts}
use Rattle.rad_core.proofs.Firsts.{found_at, left_at, found_none, left_none}
use Rattle.rad_core.proofs.table.taken.Goals as goal

pub returns-in-None-clause-taken : goal.returns-in-None-clause-taken
returns-in-None-clause-taken g c =
    let same : c.as_slice.result.now ≡ c.args.rows.now.items = cc in
    ap (option_map row_seen) (sym (found_none (λ row. is_at c.args.place (row_seen row)) c.args.rows.now.items (ap (position (λ row. is_at c.args.place (row_seen row))) (sym same) ∙ sym c.in-None.ensures))) ∙ map-find row_seen (is_at c.args.place) c.args.rows.now.items

pub returns-in-None-clause-left : goal.returns-in-None-clause-left
returns-in-None-clause-left g c =
    let same : c.as_slice.result.now ≡ c.args.rows.now.items = cc in
    ap (map row_seen) (left_none (λ row. is_at c.args.place (row_seen row)) c.args.rows.now.items (ap (position (λ row. is_at c.args.place (row_seen row))) (sym same) ∙ sym c.in-None.ensures)) ∙ map_parts row_seen (is_at c.args.place) c.args.rows.now.items

pub returns-in-Some-clause-taken : goal.returns-in-Some-clause-taken
returns-in-Some-clause-taken g c =
    let same : c.as_slice.result.now ≡ c.args.rows.now.items = cc in
    ap (option_map row_seen) (sym (found_at (λ row. is_at c.args.place (row_seen row)) c.args.rows.now.items c.in-Some.index c.remove.result (ap (position (λ row. is_at c.args.place (row_seen row))) (sym same) ∙ sym c.in-Some.ensures) c.remove.ensures.value)) ∙ map-find row_seen (is_at c.args.place) c.args.rows.now.items

pub returns-in-Some-clause-left : goal.returns-in-Some-clause-left
returns-in-Some-clause-left g c =
    let same : c.as_slice.result.now ≡ c.args.rows.now.items = cc in
    ap (map row_seen) (c.remove.ensures.items ∙ left_at (λ row. is_at c.args.place (row_seen row)) c.args.rows.now.items c.in-Some.index (ap (position (λ row. is_at c.args.place (row_seen row))) (sym same) ∙ sym c.in-Some.ensures)) ∙ map_parts row_seen (is_at c.args.place) c.args.rows.now.items
