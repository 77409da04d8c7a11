use Rattle.radclient.proofs.Verdicts.{ends_say}
use Rattle.radclient.proofs.laws.status_says_what_packets_got.Goals as goal

pub returns : goal.returns
returns c = λ words files_before files_now faults_before faults_now before now answer few ends.
    ends_say words files_before files_now faults_before faults_now before now answer few ends
