use Rattle.rad_value.proofs.EditLaws.{edit-added, edit-appended, edit-cleared, edit-kept, edit-others, edit-removed, edit-set}
use Rattle.rad_value.proofs.laws.edits_have_their_meaning.Goals as goal

pub returns-clause-others : goal.returns-clause-others
returns-clause-others c = edit-others

pub returns-clause-added : goal.returns-clause-added
returns-clause-added c = edit-added

pub returns-clause-set : goal.returns-clause-set
returns-clause-set c = edit-set

pub returns-clause-appended : goal.returns-clause-appended
returns-clause-appended c = edit-appended

pub returns-clause-removed : goal.returns-clause-removed
returns-clause-removed c = edit-removed

pub returns-clause-cleared : goal.returns-clause-cleared
returns-clause-cleared c = edit-cleared

pub returns-clause-kept : goal.returns-clause-kept
returns-clause-kept c = edit-kept
