use Rattle.std.proofs.Common.{◌≡◌, ◌<◌, true, arith, length, vec_len, vec_capacity, is_some, ap, ◌∙◌}
use Rattle.std.specs.List.{list_any, insert}
use Rattle.rad_value.specs.Pairs.{is_of}
use Rattle.rad_value.proofs.Positions.{list_any-position, insert_first, length-filter_not, position_within}
use Rattle.rad_value.proofs.listed.replace.Goals as goal

pub insert-requires : goal.insert-requires
insert-requires c =
    let within = position_within (is_of c.args.pair.attr) c.args.pairs.now.items c.args.place c.requires in
    let left = ap length c.remove_all.ensures.items in
    omega (arith, c.remove_all.new.pairs.ok.0)

pub unwrap-requires : goal.unwrap-requires
unwrap-requires c =
    let p = is_of c.args.pair.attr in
    let found : list_any p c.args.pairs.now.items ≡ true = list_any-position p c.args.pairs.now.items ∙ ap is_some c.requires in
    let fewer = length-filter_not p c.args.pairs.now.items found in
    let left = ap length c.remove_all.ensures.items in
    let room : vec_len c.remove_all.new.pairs < vec_capacity c.remove_all.new.pairs = omega (arith, c.remove_all.ensures.room, c.remove_all.new.pairs.ok.0, c.args.pairs.now.ok.0, c.args.pairs.now.ok.1) in
    c.insert.ensures.succeeds room

pub returns-clause-set : goal.returns-clause-set
returns-clause-set c =
    let p = is_of c.args.pair.attr in
    let put = rw c.unwrap.ensures at c.insert.ensures.items in
    put ∙ ap (λ xs. insert xs c.args.place c.args.pair) c.remove_all.ensures.items ∙ insert_first p c.args.pairs.now.items c.args.place c.args.pair c.requires

pub returns-clause-bound : goal.returns-clause-bound
returns-clause-bound c =
    let p = is_of c.args.pair.attr in
    let found : list_any p c.args.pairs.now.items ≡ true = list_any-position p c.args.pairs.now.items ∙ ap is_some c.requires in
    let fewer = length-filter_not p c.args.pairs.now.items found in
    let left = ap length c.remove_all.ensures.items in
    let more = rw c.unwrap.ensures at c.insert.ensures.len in
    omega (arith, c.insert.new.self.ok.0, c.remove_all.new.pairs.ok.0)
