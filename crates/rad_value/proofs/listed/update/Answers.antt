use Rattle.rad_value.proofs.listed.update.Goals as goal

pub returns-in-AddIfNone-clause-full : goal.returns-in-AddIfNone-clause-full
returns-in-AddIfNone-clause-full c = rw c.in-AddIfNone.is c.add_if_none.ensures.full

pub returns-in-Set-clause-full : goal.returns-in-Set-clause-full
returns-in-Set-clause-full c = rw c.in-Set.is c.set.ensures.full

pub returns-in-Append-clause-full : goal.returns-in-Append-clause-full
returns-in-Append-clause-full c = rw c.in-Append.is c.append.ensures.full
