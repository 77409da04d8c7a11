-- How a run of radwho ends, and what it prints. After FreeRADIUS' radwho(1), with this project's own statuses.
use Rattle.std.specs.Prelude.{ℕ, ◌≡◌, ◌<◌, ◌≤◌, ◌==◌, ◌++◌, List, [], ◌∷◌, length, nat_lt, Option, Some, None, unwrap_or, codes, if◌then◌else◌}
use Rattle.std.specs.Fmt.{decimal}
use Rattle.std.specs.Str.{is_utf8}
use Rattle.rad_outside.specs.declared.files.Found.{Found}
use Rattle.rad_outside.specs.declared.files.Found.TheVariants as found
use Rattle.rad_outside.specs.Files.{File, octets_at}
use Rattle.rad_outside.specs.Telling.{Tells}
use Rattle.rad_sessions.specs.Log.{folded}
use Rattle.radwho.specs.declared.status.Status.{Status}
use Rattle.radwho.specs.declared.status.Status.TheVariants as status
use Rattle.radwho.specs.declared.wanted.Wanted.{Wanted}
use Rattle.radwho.specs.Lines.{lines_of}
use Rattle.rad_outside.specs.Printing.{Prints}

-- The exit status of the program.
abbrev pub number_of : Status → ℕ
number_of status.Done = 0
number_of status.Words = 1
number_of status.ReadFault = 3
number_of status.TooLong = 5
number_of status.PrintFault = 6
number_of status.NoMemory = 8

-- How a run ended, by its exit status.
abbrev pub ending_of : ℕ → Status
ending_of number =
    if number == 0 then status.Done
    else (if number == 1 then status.Words
    else (if number == 3 then status.ReadFault
    else (if number == 5 then status.TooLong
    else (if number == 6 then status.PrintFault else status.NoMemory))))

-- The exit statuses that there are.
abbrev pub IsListed : ℕ → Type 0
IsListed number = number ≡ number_of (ending_of number)

-- How many octets a log may have: 64 MiB.
abbrev pub limit : ℕ
limit = 67108864

-- The line of words that are refused.
unfoldable pub usage_line : List ℕ
usage_line = codes "usage: radwho [-r] [-n] [-s] [-u USER] [-N ADDRESS] [-F FILE]" ++ 10 ∷ []

-- The line of a log that couldn't be read.
unfoldable pub read_fault_line : List ℕ
read_fault_line = codes "read fault" ++ 10 ∷ []

-- The line of a log that is too long, with its length in octets.
unfoldable pub too_long_line : ℕ → List ℕ
too_long_line length = codes "log too long " ++ (decimal length ++ 10 ∷ [])

-- What is printed of a log: the lines of its sessions that are wanted, or that it is too long.
abbrev pub log_lines : Wanted → List ℕ → List ℕ
log_lines wanted log = if nat_lt limit (length log) then too_long_line (length log) else lines_of wanted (folded log)

-- Why a run ends so that has read its log: it ends well, or for a sink that failed, where the log isn't too long. Want of
-- memory may come at any time.
abbrev pub LogEnds : List ℕ → Type 0 → Status → Type 0
LogEnds log print_rose status.Done = length log ≤ limit
LogEnds log print_rose status.Words = ⊥
LogEnds log print_rose status.ReadFault = ⊥
LogEnds log print_rose status.TooLong = limit < length log
LogEnds log print_rose status.PrintFault = (length log ≤ limit) × print_rose
LogEnds log print_rose status.NoMemory = Unit {0}

-- What excuses a run that doesn't print all of its lines: nothing where it ends well, else that the sink failed, or that
-- memory ran out.
abbrev pub Excuse : Type 0 → Status → Type 0
Excuse print_rose status.Done = ⊥
Excuse print_rose status.Words = print_rose
Excuse print_rose status.ReadFault = print_rose
Excuse print_rose status.TooLong = print_rose
Excuse print_rose status.PrintFault = print_rose
Excuse print_rose status.NoMemory = Unit {0}

-- A run that has read this log: why it ended so, and what it printed.
pub record ShowsLog (wanted : Wanted) (log : List ℕ) (print_rose : Type 0) (told_before told_now : Option (List ℕ)) (ended : Status) : Type 0 where
  pub cause : LogEnds log print_rose ended
  pub printed : Tells told_before told_now (Prints (log_lines wanted log) (Excuse print_rose ended))

-- A run whose words are asked for: it couldn't read the log, since the files failed, and printed that; or it has read it.
abbrev pub Shows : Wanted → List ℕ → Type 0 → Type 0 → Option (List ℕ) → Option (List ℕ) → Status → Type 0
Shows wanted log read_rose print_rose told_before told_now status.Done = ShowsLog wanted log print_rose told_before told_now status.Done
Shows wanted log read_rose print_rose told_before told_now status.Words = ⊥
Shows wanted log read_rose print_rose told_before told_now status.ReadFault = read_rose × Tells told_before told_now (Prints read_fault_line print_rose)
Shows wanted log read_rose print_rose told_before told_now status.TooLong = ShowsLog wanted log print_rose told_before told_now status.TooLong
Shows wanted log read_rose print_rose told_before told_now status.PrintFault = ShowsLog wanted log print_rose told_before told_now status.PrintFault
Shows wanted log read_rose print_rose told_before told_now status.NoMemory = ShowsLog wanted log print_rose told_before told_now status.NoMemory

-- A run whose words are refused: it says so, and prints the usage line; or memory ran out and nothing was printed.
abbrev pub Refuses : Type 0 → Option (List ℕ) → Option (List ℕ) → Status → Type 0
Refuses print_rose told_before told_now status.Done = ⊥
Refuses print_rose told_before told_now status.Words = Tells told_before told_now (Prints usage_line print_rose)
Refuses print_rose told_before told_now status.ReadFault = ⊥
Refuses print_rose told_before told_now status.TooLong = ⊥
Refuses print_rose told_before told_now status.PrintFault = ⊥
Refuses print_rose told_before told_now status.NoMemory = Tells told_before told_now (λ before now. now ≡ before)

-- The log at a path: the file's octets, and none where it is missing. A path that is no text names no file.
abbrev pub log_at : List ℕ → List File → List ℕ
log_at path files = if is_utf8 path then unwrap_or (octets_at path files) [] else []

-- What was found at a path is the log there. A failure and want of memory say nothing of it.
abbrev pub IsLog : List File → List ℕ → Found → Type 0
IsLog files path (found.Bytes octets) = log_at path files ≡ octets
IsLog files path found.Missing = log_at path files ≡ []
IsLog files path found.Failed = Unit {0}
IsLog files path found.NoMemory = Unit {0}

-- A run by what its words ask for and the files' present map.
abbrev pub Runs : Option Wanted → List File → Type 0 → Type 0 → Option (List ℕ) → Option (List ℕ) → Status → Type 0
Runs None files read_rose print_rose told_before told_now ended = Refuses print_rose told_before told_now ended
Runs (Some wanted) files read_rose print_rose told_before told_now ended = Shows wanted (log_at wanted.path files) read_rose print_rose told_before told_now ended
