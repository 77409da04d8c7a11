use Rattle.std.proofs.Common.{refl}
use Rattle.mod_realm.proofs.UsersNamed.{answers_ok, has_its_realm, has_its_user, stays_whole}
use Rattle.mod_realm.proofs.laws.users_of_a_realm_are_named.Goals as goal

pub returns-clause-code : goal.returns-clause-code
returns-clause-code c = answers_ok

pub returns-clause-realm : goal.returns-clause-realm
returns-clause-realm c = has_its_realm

pub returns-clause-user : goal.returns-clause-user
returns-clause-user c = has_its_user

pub returns-clause-whole : goal.returns-clause-whole
returns-clause-whole c = stays_whole

pub returns-clause-preacct : goal.returns-clause-preacct
returns-clause-preacct c realms format delimiter lists = refl
