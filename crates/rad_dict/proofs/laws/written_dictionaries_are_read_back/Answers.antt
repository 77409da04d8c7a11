use Rattle.std.proofs.Common.{length, ◌∙◌}
use Rattle.rad_text.specs.Paths.{last_part}
use Rattle.rad_dict.specs.Written.{lines_text}
use Rattle.rad_dict.specs.WrittenDefinitions.{statements_of}
use Rattle.rad_dict.proofs.WrittenDefinitions.{definitions_back}
use Rattle.rad_dict.proofs.WrittenWords.{statement_read}
use Rattle.rad_dict.proofs.WrittenFiles.{dictionary_back}
use Rattle.rad_dict.proofs.laws.written_dictionaries_are_read_back.Goals as goal

pub returns-clause-line : goal.returns-clause-line
returns-clause-line c = λ one all. statement_read one all

pub returns-clause-file : goal.returns-clause-file
returns-clause-file c = λ returns path files statements all short. dictionary_back returns path files statements all short

pub returns-clause-definitions : goal.returns-clause-definitions
returns-clause-definitions c = λ returns path files writing new all short.
    dictionary_back returns path files (statements_of writing) all short
    ∙ definitions_back writing (last_part path) (length (lines_text returns (statements_of writing))) new
