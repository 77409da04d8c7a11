use Rattle.unlang_tree.proofs.WrittenCalls.{site_read}
use Rattle.unlang_tree.proofs.laws.a_written_site_is_read.Goals as goal

pub returns : goal.returns
returns c = site_read
