-- The headline: what a run of the server promises. This project's own.
use Rattle.std.specs.Prelude.{ℕ, ◌≡◌, ◌⊎◌, ◌<◌, ◌+◌, ◌++◌, List, [], ◌∷◌, length, map, Option}
use Rattle.std.specs.List.{AllByRecursion}
use Rattle.rad_outside.specs.declared.crew.Kit.{Kit}
use Rattle.rad_outside.specs.Crew.{Handed}
use Rattle.rad_outside.specs.Files.{FilesTold}
use Rattle.rad_outside.specs.Telling.{Tells}
use Rattle.rad_policy.specs.declared.arrival.Arrived.{Arrived}
use Rattle.rad_core.specs.State.{opening}
use Rattle.rad_core.specs.declared.entry.Entry.{Entry}
use Rattle.rad_core.specs.Entry.{worker_of}
use Rattle.rad_core.specs.Step.{IsLegal}
use Rattle.rad_core.specs.Worker.{Placed, placed, of_worker, served, answered, IsClosed, HaveOutcomes}
use Rattle.rad_core.specs.Completeness.{EachHasOneReply}
use Rattle.rad_core.specs.Keeping.{KeepsReplies}
use Rattle.rad_build.specs.declared.fault.BuildFault.{BuildFault}
use Rattle.rad_serve.specs.declared.left.Left.{Left}
use Rattle.radiusd.specs.Course.{Course, IsCourse, Takes, IsExcused, lines_of}
use Rattle.rad_serve.specs.History.{state_after}
use Rattle.rad_serve.specs.Leaving.{Leaves, IsAtEnd}
use Rattle.rad_site.specs.Meaning.{site_meaning}
use Rattle.rad_outside.specs.Printing.{Prints}
use Rattle.rad_site.specs.Site.{Site}
use Rattle.rad_serve.specs.Told.{KitTells, Hears, Sends, GrowsBy, IsAt}

-- Each kit, with its worker's number and as it was handed out, is so. There are as many kits as were handed out.
abbrev pub EachKit : {W S K U G : Type 0} → (ℕ → Handed W S K U G → Kit W S K U G → Type 0) → ℕ → List (Handed W S K U G) → List (Kit W S K U G) → Type 0
EachKit IsSo worker [] [] = Unit {0}
EachKit IsSo worker (handed ∷ more) (kit ∷ kits) = IsSo worker handed kit × EachKit IsSo (worker + 1) more kits
EachKit IsSo worker [] (kit ∷ kits) = ⊥
EachKit IsSo worker (handed ∷ more) [] = ⊥

-- What stands behind the first.
abbrev pub behind_first : {X : Type 0} → List X → List X
behind_first [] = []
behind_first (first ∷ more) = more

-- A worker's entries among those that were added to a history behind the install at the start.
abbrev pub entries_of : ℕ → List (Entry Site BuildFault) → List (Entry Site BuildFault) → List (Placed Site BuildFault)
entries_of worker before added = of_worker worker (behind_first (placed site_meaning (state_after before) added))

-- The entry is of worker 0 or of one that has a kit, where there are so many.
abbrev pub IsNamed : ℕ → Entry Site BuildFault → Type 0
IsNamed kits entry = (worker_of entry ≡ 0) ⊎ (worker_of entry < kits)

-- What came of asking a kit's wire is what came by its worker's entries, in order: each datagram received is one start,
-- from its source, with the kind and server of the listener that the kit was asked for and with its number, which is 0 as
-- a site has one, and each time nothing came is one look. Each fresh
-- start has its finish, with no other entry of the worker between.
pub record ServedInOrder {W S K U G : Type 0} (tells : KitTells W K U) (mine : List (Placed Site BuildFault)) (worker : ℕ) (handed : Handed W S K U G) (kit : Kit W S K U G) : Type 0 where
  pub received : Tells (tells.wire handed.kit.wire) (tells.wire kit.wire) (Hears mine)
  pub own : AllByRecursion (IsAt worker 0 handed.listen) (served mine)
  pub closed : IsClosed mine

-- The sends handed in on a kit's wire are the replies of these entries, in order, each to its arrival's source. Each
-- arrival that is authentic has one, unless its request was in progress already or the table was full, the policy withholds
-- it, or memory ran out.
pub record RepliesInOrder {W S K U G : Type 0} (tells : KitTells W K U) (mine : List (Placed Site BuildFault)) (handed : Handed W S K U G) (kit : Kit W S K U G) : Type 0 where
  pub sent : Tells (tells.wire handed.kit.wire) (tells.wire kit.wire) (Sends (answered mine))
  pub each : EachHasOneReply site_meaning mine

-- The j-th arrival has the j-th moment of the kit's clock, and its outcome is what the policy means for it with the
-- j-th word of the kit's luck, under the generation and moment of its place.
pub record HasOutcomes {W S K U G : Type 0} (tells : KitTells W K U) (mine : List (Placed Site BuildFault)) (handed : Handed W S K U G) (kit : Kit W S K U G) : Type 0 where
  pub moments : Tells (tells.clock handed.kit.clock) (tells.clock kit.clock) (GrowsBy (map (λ (a : Arrived). a.now) (served mine)))
  pub words : List ℕ
  pub drawn : Tells (tells.luck handed.kit.luck) (tells.luck kit.luck) (GrowsBy words)
  pub outcomes : HaveOutcomes site_meaning words mine

-- Nothing was appended to the kit's shelf, since no policy appends yet.
abbrev pub AppendsNothing : {W S K U G : Type 0} → Handed W S K U G → Kit W S K U G → Type 0
AppendsNothing handed kit = kit.shelf ≡ handed.kit.shelf

-- The worker left in a way that its wire and its entries tell of, or serves on. At status 0 its wire ended, or it
-- looked and saw a stop. But for the install at the start it loaded nothing, and it stopped the server only as one
-- whose wire failed 100 times in a row.
pub record HasLeft {W S K U G : Type 0} (tells : KitTells W K U) (status : ℕ) (mine : List (Placed Site BuildFault)) (handed : Handed W S K U G) (kit : Kit W S K U G) : Type 0 where
  pub left : Option Left
  pub leaves : Leaves tells left handed.kit.wire kit.wire mine
  pub at_end : status ≡ 0 → IsAtEnd left

-- The headline of a run of this course and exit status, over the entries that it adds to the hub's history, the kits
-- that the crew handed out, the session log and what was printed.
pub record Headline {W S K U G L : Type 0} (tells : KitTells W K U) (course : Course) (status : ℕ) (crew_before crew_now : Option (List (Handed W S K U G))) (log_before log_now : L) (printed_before printed_now : Option (List ℕ)) (sink_before sink_now : ℕ) (before after : List (Entry Site BuildFault)) (kits : List (Kit W S K U G)) : Type 0 where
  -- the history is legal, and begins with the history before
  pub added : List (Entry Site BuildFault)
  pub begins : after ≡ before ++ added
  pub legal_history : IsLegal site_meaning opening after
  -- a packet that comes again in the keeping time of its reply gets that reply's octets, and no policy is run for it
  pub repeats : KeepsReplies site_meaning after
  -- no other entry at all stands between a fresh start and its finish, since one thread serves
  pub whole : IsClosed (placed site_meaning (state_after before) added)
  -- the kits are those that the crew handed out
  pub handed : List (Handed W S K U G)
  pub handed_out : Tells crew_before crew_now (GrowsBy handed)
  pub named : AllByRecursion (IsNamed (length handed)) added
  -- loads: the first entry added is the install of what the site's files are built to, for its own listener, and the
  -- kits are those of that listener
  pub loads : Takes course status handed added
  pub served_in_order : EachKit (λ worker h kit. ServedInOrder tells (entries_of worker before added) worker h kit) 0 handed kits
  pub replies_in_order : EachKit (λ worker h kit. RepliesInOrder tells (entries_of worker before added) h kit) 0 handed kits
  pub outcomes : EachKit (λ worker h kit. HasOutcomes tells (entries_of worker before added) h kit) 0 handed kits
  pub appends : EachKit (λ worker h kit. AppendsNothing h kit) 0 handed kits
  pub control : EachKit (λ worker h kit. HasLeft tells status (entries_of worker before added) h kit) 0 handed kits
  -- no change of a session is logged yet: the log and its path are as they were
  pub session_log : log_now ≡ log_before
  -- a front of the lines was printed, and all of them where no write failed and the status isn't 8
  pub printed_lines : Tells printed_before printed_now (Prints (lines_of course status handed added) (IsExcused sink_before sink_now status))

-- The run took a course that its words and files give, and so it was.
abbrev pub RunsAs : List (List ℕ) → Option FilesTold → Option FilesTold → (Course → Type 0) → Type 0
RunsAs words files_before files_now IsSo = (course : Course) × IsCourse words files_before files_now course × IsSo course
