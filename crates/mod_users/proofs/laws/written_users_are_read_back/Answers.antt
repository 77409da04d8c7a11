use Rattle.mod_users.proofs.WrittenBack.{entries_back}
use Rattle.mod_users.proofs.laws.written_users_are_read_back.Goals as goal

pub returns : goal.returns
returns c = λ form entries writable. entries_back form entries c.args.dict.now c.each_name_means_one_thing.ensures writable
