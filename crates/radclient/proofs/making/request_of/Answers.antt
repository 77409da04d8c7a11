use Rattle.radclient.proofs.Makings.{made_whole, made_badly}
use Rattle.radclient.proofs.making.request_of.Goals as goal

pub returns-in-Ok-clause-made : goal.returns-in-Ok-clause-made
returns-in-Ok-clause-made c =
    made_whole c.args.asked.now c.args.id c.args.high c.args.low c.args.pairs.now.request c.code_for-code.result c.authenticator_of-authenticator.result c.as_slice.result.now
    c.code_for-code.ensures c.authenticator_of-authenticator.ensures.octets c.as_slice.ensures
    c.in-Ok.request c.in-Ok.ensures.short c.in-Ok.ensures.octets c.in-Ok.ensures.well_formed.1.limit

pub returns-in-Err-clause-made : goal.returns-in-Err-clause-made
returns-in-Err-clause-made c =
    rw c.stop_of.ensures
    (made_badly c.args.asked.now c.args.id c.args.high c.args.low c.args.pairs.now.request c.code_for-code.result c.authenticator_of-authenticator.result c.as_slice.result.now
    c.code_for-code.ensures c.authenticator_of-authenticator.ensures.octets c.as_slice.ensures
    c.in-Err.fault c.in-Err.ensures.refused)
