-- The realms that a module holds. This project's own.
use Rattle.std.specs.Prelude.{List}
use Rattle.std.specs.Arc.{arc_value}
use Rattle.mod_realm.specs.Realms.{Realm}
use Rattle.mod_realm.specs.declared.held.Place.{Place}
use Rattle.mod_realm.specs.declared.held.Place.TheVariants as place

-- The realms at a place: the module's own, or those that others hold, too.
abbrev pub realms_at : Place → List Realm
realms_at (place.Own realms) = realms
realms_at (place.Shared realms) = arc_value realms
