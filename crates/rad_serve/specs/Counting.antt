-- The counts of a run, over the entries that it added. This project's own.
use Rattle.std.specs.Prelude.{◌+◌, ◌-◌, Bool, true, false, List, drop, if◌then◌else◌}
use Rattle.std.specs.List.{count_by}
use Rattle.rad_policy.specs.declared.ending.Ending.{Ending}
use Rattle.rad_policy.specs.declared.ending.Ending.TheVariants.{Sent, Withheld, OutOfMemory}
use Rattle.rad_core.specs.declared.started.StartAnswer.{StartAnswer}
use Rattle.rad_core.specs.declared.started.StartAnswer.TheVariants.{Dropped, Repeat, Busy, Full, Fresh, NoRoom}
use Rattle.rad_core.specs.declared.installed.Installed.{Installed}
use Rattle.rad_core.specs.declared.installed.Installed.TheVariants as installed
use Rattle.rad_core.specs.declared.entry.Entry.{Entry}
use Rattle.rad_core.specs.declared.entry.Entry.TheVariants.{Start, Finish, Install, Look, Stop}
use Rattle.rad_build.specs.declared.fault.BuildFault.{BuildFault}
use Rattle.rad_serve.specs.declared.counts.Counts.{Counts}
use Rattle.rad_serve.specs.declared.counts.Tally.{Tally}
use Rattle.rad_serve.specs.Installing.{is_present_by}
use Rattle.rad_site.specs.Site.{Site}

-- A start is a request.
abbrev pub is_request : Entry Site BuildFault → Bool
is_request (Start arrival answer) = true
is_request (Finish worker place ending) = false
is_request (Install worker load listeners answer) = false
is_request (Look worker seen) = false
is_request (Stop worker) = false

-- An ending that sends octets is a reply.
abbrev pub sends : Ending → Bool
sends (Sent octets) = true
sends Withheld = false
sends OutOfMemory = false

-- A start that is answered with the reply that is kept for it.
abbrev pub is_repeat : StartAnswer → Bool
is_repeat (Dropped cause) = false
is_repeat (Repeat octets) = true
is_repeat (Busy place) = false
is_repeat (Full count) = false
is_repeat (Fresh place) = false
is_repeat NoRoom = false

-- Whether an entry stands for a reply that was handed to a wire.
abbrev pub is_reply : Entry Site BuildFault → Bool
is_reply (Start arrival answer) = is_repeat answer
is_reply (Finish worker place ending) = sends ending
is_reply (Install worker load listeners answer) = false
is_reply (Look worker seen) = false
is_reply (Stop worker) = false

-- An install that made its load the present generation.
abbrev pub is_install : Entry Site BuildFault → Bool
is_install (Start arrival answer) = false
is_install (Finish worker place ending) = false
is_install (Install worker load listeners answer) = is_present_by answer
is_install (Look worker seen) = false
is_install (Stop worker) = false

-- An install that left the present generation.
abbrev pub leaves_present : Installed BuildFault → Bool
leaves_present (installed.Generation number) = false
leaves_present (installed.Refused fault) = true
leaves_present (installed.ListenerGone name) = true

-- Whether an entry is a load that was refused.
abbrev pub is_refusal : Entry Site BuildFault → Bool
is_refusal (Start arrival answer) = false
is_refusal (Finish worker place ending) = false
is_refusal (Install worker load listeners answer) = leaves_present answer
is_refusal (Look worker seen) = false
is_refusal (Stop worker) = false

-- Starts, replies, installs but for the one at the start, which is the first entry, and refused installs.
abbrev pub counts_of : List (Entry Site BuildFault) → Counts
counts_of added = record {
  requests = count_by is_request added;
  replies = count_by is_reply added;
  reloads = count_by is_install (drop 1 added);
  refused = count_by is_refusal added;
}

-- What a history counts: starts, replies, installs and refused installs.
abbrev pub tally_of : List (Entry Site BuildFault) → Tally
tally_of history = record {
  requests = count_by is_request history;
  replies = count_by is_reply history;
  installs = count_by is_install history;
  refused = count_by is_refusal history;
}

-- One request more, and its reply if it got one.
abbrev pub with_request : Bool → Tally → Tally
with_request is_replied tally = record tally {
  requests = tally.requests + 1;
  replies = tally.replies + (if is_replied then 1 else 0);
}

-- One load more, which is the present generation or was refused.
abbrev pub with_load : Bool → Tally → Tally
with_load is_present tally = record tally {
  installs = tally.installs + (if is_present then 1 else 0);
  refused = tally.refused + (if is_present then 0 else 1);
}

-- The counts of a run, from what was counted before it, behind its first load and by now.
abbrev pub counts_between : Tally → Tally → Tally → Counts
counts_between before loaded now = record {
  requests = now.requests - before.requests;
  replies = now.replies - before.replies;
  reloads = now.installs - loaded.installs;
  refused = now.refused - before.refused;
}
