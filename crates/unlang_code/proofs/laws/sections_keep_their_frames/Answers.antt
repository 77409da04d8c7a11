use Rattle.unlang_code.proofs.FrameLaws.{section_leaves}
use Rattle.unlang_code.proofs.laws.sections_keep_their_frames.Goals as goal

pub returns : goal.returns
returns g c = λ stack dict kind statements situation list attr free. section_leaves g.M.Module.meaning g.met.M.Module.lawful stack dict kind list attr statements situation free
