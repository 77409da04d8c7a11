use Rattle.rad_conf.proofs.WrittenFiles.{conf_read}
use Rattle.rad_conf.proofs.FilesFound.{conf_found}
use Rattle.rad_conf.proofs.laws.configurations_are_read_as_they_are_written.Goals as goal

pub returns-clause-read : goal.returns-clause-read
returns-clause-read c = λ dir name files nodes written. conf_read dir name files written

pub returns-clause-written : goal.returns-clause-written
returns-clause-written c = λ dir name files nodes read. conf_found dir name files nodes read
