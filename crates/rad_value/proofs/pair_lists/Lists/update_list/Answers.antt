use Rattle.rad_value.proofs.pair_lists.Lists.update_list.Goals as goal

pub returns-in-Request-clause-full : goal.returns-in-Request-clause-full
returns-in-Request-clause-full c = rw (c.in-Request.is, ← c.self.view_is) c.update.ensures.full

pub returns-in-Reply-clause-full : goal.returns-in-Reply-clause-full
returns-in-Reply-clause-full c = rw (c.in-Reply.is, ← c.self.view_is) c.update-in-Reply.ensures.full

pub returns-in-Control-clause-full : goal.returns-in-Control-clause-full
returns-in-Control-clause-full c = rw (c.in-Control.is, ← c.self.view_is) c.update-in-Control.ensures.full
