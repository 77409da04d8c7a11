use Rattle.rad_edge.proofs.Given.{told_by-risen}
use Rattle.rad_edge.proofs.mem.list_luck.ListLuckLuck.word.Goals as goal

pub returns-clause-told : goal.returns-clause-told
returns-clause-told c =
    let list = c.self.inside.words in
    rw (← c.self.view_is, c.next.ensures.state, c.next.ensures.number) (told_by-risen list.numbers list.asked)
