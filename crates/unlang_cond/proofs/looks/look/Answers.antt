use Rattle.std.proofs.Common.{◌≡◌, ap, sym, ◌∙◌, Some}
use Rattle.regex.specs.Bytes.{regex_pattern, matcher_pattern, group_count}
use Rattle.regex.specs.Locations.{location_count}
use Rattle.unlang_cond.proofs.Located.{some_look, no_look}
use Rattle.unlang_cond.proofs.looks.look.Goals as goal

pub returns-in-Some : goal.returns-in-Some
returns-in-Some c =
    let found = c.in-Some.ensures.found in
    let same : regex_pattern c.args.regex.now ≡ matcher_pattern c.in_ok-matcher.matcher = sym c.in_ok-matcher.ensures.pattern in
    let count : location_count c.captures_read.new.locations ≡ group_count c.args.regex.now = c.captures_read.ensures.count ∙ c.in_ok-locations.ensures.value in
    ap Some c.in_ok-captured-in-Some.ensures
    ∙ some_look (group_count c.args.regex.now) (regex_pattern c.args.regex.now) c.args.text.now found.0 c.captures_read.new.locations found.2.1 (rw same found.1) count

pub returns : goal.returns
returns c =
    let same : regex_pattern c.args.regex.now ≡ matcher_pattern c.in_ok-matcher.matcher = sym c.in_ok-matcher.ensures.pattern in
    no_look (group_count c.args.regex.now) (regex_pattern c.args.regex.now) c.args.text.now (rw same c.in-None.ensures.found)
