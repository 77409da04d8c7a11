-- What a command line asks for, as it is lent by its words. This serves private clauses.
use Rattle.radclient.specs.declared.words.Order.{Order}
use Rattle.radclient.specs.declared.words.Plan.{Plan}
use Rattle.radclient.specs.Words.{Line}

-- A plan without where its octets lie.
abbrev pub seen_plan : Plan → Line
seen_plan plan = record {
  asked = record {
    server = plan.server;
    kind = plan.kind;
    secret = plan.secret.now;
    count = plan.count;
    tries = plan.tries;
    waits = plan.waits;
    quiet = plan.quiet;
    shown = plan.shown;
  };
  file = plan.file.now;
}

-- An order as the command line that it was made from.
abbrev pub line_as : Order → Line
line_as order = record { asked = order.asked; file = order.file }
