-- A world without devices. This project's own.
use Rattle.std.specs.Prelude.{[], None, true}
use Rattle.rad_world.specs.World.{WorldState}
use Rattle.rad_site.specs.declared.bare_world.BareWorld.{BareWorld}

-- It tells nothing of its effects and has no sessions; it counts what failed.
abbrev pub bare_state : BareWorld → WorldState
bare_state world = record {
  answers = world.answers.given;
  effects = None;
  sessions = [];
  takes_changes = true;
  write_faults = world.append_faults;
  line_faults = world.change_faults;
  lent = 0;
}

-- Before its first call.
abbrev pub no_world : WorldState
no_world = record {
  answers = [];
  effects = None;
  sessions = [];
  takes_changes = true;
  write_faults = 0;
  line_faults = 0;
  lent = 0;
}
