-- How the table's Rust values are seen. This project's own.
use Rattle.std.specs.Arc.{arc_value}
use Rattle.rad_core.specs.declared.key.Key.{Key}
use Rattle.rad_core.specs.declared.kept.Kept.{Kept}
use Rattle.rad_core.specs.declared.row.Row.{Row}
use Rattle.rad_core.specs.Requests.{RequestKey, InProgress, KeptReply}

-- A key, without where its packet lies.
abbrev pub key_seen : Key → RequestKey
key_seen key = record { listener = key.listener; source = key.source; packet = key.packet.now }

-- A kept reply, without where it lies.
abbrev pub kept_seen : Kept → KeptReply
kept_seen kept = record {
  key = record { listener = kept.listener; source = kept.source; packet = kept.packet };
  octets = arc_value kept.reply;
  until = kept.until;
}

-- A request in progress, without where its generation lies.
abbrev pub row_seen : {P : Type 0} → Row P → InProgress P
row_seen row = record {
  place = row.place;
  arrival = row.arrival;
  generation = arc_value row.generation;
  moment = row.moment;
}
