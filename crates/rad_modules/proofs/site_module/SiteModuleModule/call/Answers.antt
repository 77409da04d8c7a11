use Rattle.rad_modules.proofs.site_module.SiteModuleModule.call.Goals as goal

pub returns-in-Always-clause-memory : goal.returns-in-Always-clause-memory
returns-in-Always-clause-memory g c = rw c.in-Always.is c.call.ensures.memory

pub returns-in-Files-clause-memory : goal.returns-in-Files-clause-memory
returns-in-Files-clause-memory g c = rw c.in-Files.is c.call-in-Files.ensures.memory

pub returns-in-Pap-clause-memory : goal.returns-in-Pap-clause-memory
returns-in-Pap-clause-memory g c = rw c.in-Pap.is c.call-in-Pap.ensures.memory

pub returns-in-Chap-clause-memory : goal.returns-in-Chap-clause-memory
returns-in-Chap-clause-memory g c = rw c.in-Chap.is c.call-in-Chap.ensures.memory

pub returns-in-Realm-clause-memory : goal.returns-in-Realm-clause-memory
returns-in-Realm-clause-memory g c = rw c.in-Realm.is c.call-in-Realm.ensures.memory

pub returns-in-Filter-clause-memory : goal.returns-in-Filter-clause-memory
returns-in-Filter-clause-memory g c = rw c.in-Filter.is c.call-in-Filter.ensures.memory
