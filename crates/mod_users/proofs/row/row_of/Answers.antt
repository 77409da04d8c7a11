use Rattle.mod_users.proofs.RowLemmas.{refused_first, refused_behind}
use Rattle.mod_users.proofs.row.row_of.Goals as goal

pub returns-in-Err-clause-refused : goal.returns-in-Err-clause-refused
returns-in-Err-clause-refused c = refused_first c.in-Err.error c.args.draft.checks c.args.draft.replies c.in-Err.ensures.refused

pub returns-in-Err-ready_items-clause-refused : goal.returns-in-Err-ready_items-clause-refused
returns-in-Err-ready_items-clause-refused c =
    refused_behind c.in-Err-ready_items.error c.args.draft.checks c.args.draft.replies c.in-Ok.ready.items c.in-Ok.ready.patterns.items c.in-Ok.ensures.ready c.in-Err-ready_items.ensures.refused
