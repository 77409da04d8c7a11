use Rattle.std.proofs.Common.{ap, sym, ◌∙◌, ◌≡◌, Ok, subst}
use Rattle.rad_text.specs.Lines.{lines_of}
use Rattle.rad_text.specs.Read.{Fails}
use Rattle.radclient.specs.Groups.{Reading, lines_read, unread}
use Rattle.radclient.proofs.Readings.{groups_read, groups_wrong}
use Rattle.radclient.proofs.groups.read_groups.Goals as goal

pub returns-in-Ok : goal.returns-in-Ok
returns-in-Ok c =
    let text = c.args.text.now in
    let is : lines_read unread (lines_of text) ≡ Ok c.read_lines.new.self = ap (λ (u : Reading). lines_read u (lines_of text)) (sym c.new-reading.ensures) ∙ c.in-Ok.ensures in
    rw (groups_read text c.read_lines.new.self is) c.finish.ensures

pub returns-in-Err : goal.returns-in-Err
returns-in-Err c =
    let text = c.args.text.now in
    groups_wrong text c.in-Err.error (subst (λ (u : Reading). Fails c.in-Err.error (lines_read u (lines_of text))) c.new-reading.ensures c.in-Err.ensures)
