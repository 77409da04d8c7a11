-- What a whole run of the program does, by the status that it answers: radclient(1) of FreeRADIUS. The statuses and the
-- lines are this project's own.
use Rattle.std.specs.Prelude.{ℕ, ◌≡◌, ◌<◌, ◌⊎◌, List, [], ◌∷◌, ◌++◌, map, codes, Option, Some, None, Result, Ok, Err}
use Rattle.std.specs.Str.{IsUtf8}
use Rattle.std.specs.Fmt.{decimal}
use Rattle.rad_outside.specs.declared.fault.NoMemory.{NoMemory}
use Rattle.rad_outside.specs.Files.{FilesTold, begun, octets_at}
use Rattle.rad_outside.specs.Telling.{Tells, Rose}
use Rattle.rad_value.specs.declared.values.Pair.{Pair}
use Rattle.rad_value.specs.PairLists.{PairLists}
use Rattle.radclient.specs.declared.asked.Asked.{Asked}
use Rattle.radclient.specs.declared.fault.LineFault.{LineFault}
use Rattle.radclient.specs.declared.fault.Reason.{Reason}
use Rattle.radclient.specs.declared.fault.Reason.TheVariants as reason
use Rattle.radclient.specs.declared.status.Status.{Status}
use Rattle.radclient.specs.declared.status.Status.TheVariants as status
use Rattle.radclient.specs.declared.stop.Unmade.{Unmade}
use Rattle.radclient.specs.declared.stop.Unmade.TheVariants as unmade
use Rattle.radclient.specs.Answers.{Act, Finished, NotMade, SocketFault, ended}
use Rattle.radclient.specs.Client.{client_run}
use Rattle.radclient.specs.Groups.{groups_of}
use Rattle.radclient.specs.Seen.{Seen, Gains, Goes, IsCutOff}
use Rattle.radclient.specs.Words.{Line, line_of}

-- The exit status of the program.
abbrev pub number_of : Status → ℕ
number_of status.Done = 0
number_of status.Unanswered = 1
number_of status.Refused = 2
number_of status.ReadFault = 3
number_of status.SocketFault = 4
number_of status.WriteFault = 6
number_of status.NoMemory = 8

-- The line of words that are refused.
abbrev pub usage_line : List ℕ
usage_line = codes "usage: radclient [-f FILE] [-x] [-c N] [-r N] [-t N] [-q] SERVER[:PORT] auth|acct SECRET" ++ 10 ∷ []

-- The line of a file that can't be read.
abbrev pub read_fault_line : List ℕ
read_fault_line = codes "read fault" ++ 10 ∷ []

-- The line of a wire that failed.
abbrev pub socket_fault_line : List ℕ
socket_fault_line = codes "socket fault" ++ 10 ∷ []

-- `FILE[LINE]: REASON`
abbrev pub place_line : List ℕ → ℕ → List ℕ → List ℕ
place_line file line why = file ++ codes "[" ++ decimal line ++ codes "]: " ++ why ++ 10 ∷ []

-- The names of what is wrong with a line.
abbrev pub reason_name : Reason → List ℕ
reason_name reason.UnknownAttr = codes "UnknownAttr"
reason_name reason.BadOperator = codes "BadOperator"
reason_name reason.BadValue = codes "BadValue"
reason_name reason.TooMany = codes "TooMany"

-- The names of why a packet can't be made.
abbrev pub unmade_name : Unmade → List ℕ
unmade_name unmade.PasswordTooLong = codes "PasswordTooLong"
unmade_name unmade.TooLong = codes "TooLong"

-- The line of a file's first fault.
abbrev pub fault_line : List ℕ → LineFault → List ℕ
fault_line file fault = place_line file fault.line (reason_name fault.reason)

-- The line of a packet that can't be made. It is no line of the file, so its number is 0.
abbrev pub unmade_line : List ℕ → Unmade → List ℕ
unmade_line file why = place_line file 0 (unmade_name why)

-- Lines were printed, or a front of them where the sink failed, whose count rose. Nothing else was done.
pub record Says (lines : List ℕ) (before now : Seen) : Type 0 where
  pub printed : List ℕ
  pub unwritten : List ℕ
  pub front : lines ≡ printed ++ unwritten
  pub gains : Gains (record { heard = []; sent = []; words = []; printed = printed }) before now
  pub whole : (unwritten ≡ []) ⊎ Rose before.out_faults now.out_faults

-- The status of a run that tried all packets, by how many got no good reply.
abbrev pub IsVerdict : ℕ → Status → Type 0
IsVerdict bad status.Done = bad ≡ 0
IsVerdict bad status.Unanswered = 0 < bad
IsVerdict bad status.Refused = ⊥
IsVerdict bad status.ReadFault = ⊥
IsVerdict bad status.SocketFault = ⊥
IsVerdict bad status.WriteFault = ⊥
IsVerdict bad status.NoMemory = ⊥

-- The lines of a refusal were printed, or there was no memory for them and nothing was done.
abbrev pub Refuses : List ℕ → Seen → Seen → Status → Type 0
Refuses lines before now status.Done = ⊥
Refuses lines before now status.Unanswered = ⊥
Refuses lines before now status.Refused = Says lines before now
Refuses lines before now status.ReadFault = ⊥
Refuses lines before now status.SocketFault = ⊥
Refuses lines before now status.WriteFault = ⊥
Refuses lines before now status.NoMemory = now ≡ before

-- What a run of packets did, by the status that it gives: every packet got a good reply, or some got none; a packet can't be
-- made, which is told; the wire failed, whose count rose, which is told; or it was cut off, since the sink failed, whose
-- count rose, or for want of memory.
pub data Ran (act : Act) (file : List ℕ) (before now : Seen) : Status → Type 0 where
  Good : Goes act (ended (Finished 0)) before now → Ran act file before now status.Done
  Bad : (bad : ℕ) → 0 < bad → Goes act (ended (Finished bad)) before now → Ran act file before now status.Unanswered
  Unsendable : (why : Unmade) (mid : Seen) → Goes act (ended (NotMade why)) before mid → Says (unmade_line file why) mid now
      → Ran act file before now status.Refused
  Broken : (mid : Seen) → Goes act (ended SocketFault) before mid → Rose before.wire_faults mid.wire_faults
      → Says socket_fault_line mid now → Ran act file before now status.SocketFault
  Unwritten : IsCutOff act before now → Rose before.out_faults now.out_faults → Ran act file before now status.WriteFault
  Starved : IsCutOff act before now → Ran act file before now status.NoMemory

-- The files have begun their next map, which has these octets at the path.
abbrev pub Holds : Option FilesTold → Option FilesTold → List ℕ → List ℕ → Type 0
Holds files_before files_now path octets =
    Tells files_before files_now (λ old new. (new ≡ begun old) × (octets_at path (begun old).present ≡ Some octets))

-- The files' next map lacks the path, or the files failed, whose count rose; or the path is no text.
abbrev pub Lacks : Option FilesTold → Option FilesTold → ℕ → ℕ → List ℕ → Type 0
Lacks files_before files_now faults_before faults_now path =
    Tells files_before files_now (λ old new. octets_at path (begun old).present ≡ None)
    ⊎ (Rose faults_before faults_now ⊎ ¬ IsUtf8 path)

-- The groups that packets are made of, as lists of pairs.
abbrev pub pairs_of_groups : List PairLists → List (List Pair)
pairs_of_groups groups = map (λ (l : PairLists). l.request) groups

-- What was done by a file's octets: the file has a fault, and then nothing was sent; its packets were tried; or memory ran out
-- before the first.
pub data Tail (asked : Asked) (file octets : List ℕ) (before now : Seen) : Status → Type 0 where
  Misread : (fault : LineFault) → groups_of octets ≡ Err fault → Says (fault_line file fault) before now
      → Tail asked file octets before now status.Refused
  Tried : (groups : List PairLists) (ended : Status) → groups_of octets ≡ Ok groups
      → Ran (client_run asked (pairs_of_groups groups)) file before now ended → Tail asked file octets before now ended
  Hungry : now ≡ before → Tail asked file octets before now status.NoMemory

-- What reading a file gave.
abbrev pub Read : List ℕ → Option FilesTold → Option FilesTold → ℕ → ℕ → Result (Option (List ℕ)) NoMemory → Type 0
Read path files_before files_now faults_before faults_now (Ok (Some octets)) = Holds files_before files_now path octets
Read path files_before files_now faults_before faults_now (Ok None) = Lacks files_before files_now faults_before faults_now path
Read path files_before files_now faults_before faults_now (Err failed) = Unit {0}

-- What a whole run of the program did, by its status: its words were refused, which prints the usage; the file couldn't be
-- read, which is told; what its octets gave was done; or memory ran out before anything was.
pub data Ends (words : List (List ℕ)) (files_before files_now : Option FilesTold) (faults_before faults_now : ℕ) (before now : Seen) : Status → Type 0 where
  Misworded : line_of words ≡ None → Says usage_line before now
      → Ends words files_before files_now faults_before faults_now before now status.Refused
  Unread : (line : Line) → line_of words ≡ Some line → Lacks files_before files_now faults_before faults_now line.file
      → Says read_fault_line before now → Ends words files_before files_now faults_before faults_now before now status.ReadFault
  Served : (line : Line) (octets : List ℕ) (ended : Status) → line_of words ≡ Some line
      → Holds files_before files_now line.file octets → Tail line.asked line.file octets before now ended
      → Ends words files_before files_now faults_before faults_now before now ended
  Starving : now ≡ before → Ends words files_before files_now faults_before faults_now before now status.NoMemory
