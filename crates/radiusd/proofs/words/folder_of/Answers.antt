use Rattle.radiusd.proofs.Folders.{text_is_folder, other_is_none}
use Rattle.radiusd.proofs.words.folder_of.Goals as goal

pub returns-in-Ok : goal.returns-in-Ok
returns-in-Ok c = rw c.in-Some.is (text_is_folder c.in-Some.folder.now c.in-Ok.folder.now c.in-Ok.ensures.cases.0 c.in-Ok.ensures.cases.1)

pub returns-in-Err : goal.returns-in-Err
returns-in-Err c = rw c.in-Some.is (other_is_none c.in-Some.folder.now c.in-Err.ensures.cases.0)
