-- Written calls are read.
use Rattle.std.proofs.Common.{codes, ◌≡◌, ℕ, ◌-◌, ◌<◌, ◌≤◌, Bool, true, false, ◌||◌, lt-ltb, List, [], ◌∷◌, ◌++◌, length, Option, Some, None, Result, Ok, Err, refl, sym, ap, ◌∙◌, arith, append_assoc}
use Rattle.std.proofs.lemmas.List.{append-nil}
use Rattle.rad_outside.specs.declared.files.Place.{Place}
use Rattle.rad_conf.specs.declared.tree.Word.{Word}
use Rattle.rad_conf.specs.declared.tree.Node.{Node}
use Rattle.rad_conf.specs.declared.tree.Item.TheOpen as level
use Rattle.rad_words.specs.declared.sections.Section.{Section}
use Rattle.rad_text.specs.Read.{◌>>=◌}
use Rattle.unlang_tree.specs.declared.fault.TreeFault.{TreeFault}
use Rattle.unlang_tree.specs.declared.fault.TreeFault.TheVariants as fault
use Rattle.unlang_tree.specs.declared.statement.Call.{Call}
use Rattle.unlang_tree.specs.declared.statement.Statement.{Statement}
use Rattle.unlang_tree.specs.declared.statement.StatementKind.TheVariants as kinds
use Rattle.unlang_tree.specs.Instances.{number_of}
use Rattle.unlang_tree.specs.Readings.{one_more, most_statements, after_each}
use Rattle.unlang_tree.specs.Words.{is_one_of, is_return, later_words, is_word_statement, section_of}
use Rattle.unlang_tree.specs.Calls.{policy_for, call_of, is_optional, called_name, call_at}
use Rattle.unlang_tree.specs.Sites.{Site}
use Rattle.unlang_tree.specs.Statements.{one_statement, counted_call, word_at}
use Rattle.unlang_tree.specs.PolicyCalls.{policy_called}
use Rattle.unlang_tree.specs.Depths.{Depth, at_the_top}
use Rattle.unlang_tree.specs.Groups.{Opener, plain_block, plain_statement, group_block, arm_or_plain, block_or_plain, called_or_not, statement_by, opened_at, statement_at, with_statement, statements_of}
use Rattle.unlang_tree.specs.declared.statements.Counted.{Counted}
use Rattle.unlang_tree.specs.declared.groups.Members.{Members}
use Rattle.rad_words.specs.declared.sections.Section.TheVariants as which
use Rattle.unlang_tree.specs.declared.policies.SectionTree.{SectionTree}
use Rattle.unlang_tree.specs.declared.subsections.Parts.{Parts}
use Rattle.unlang_tree.specs.declared.servers.Known.{Known}
use Rattle.unlang_tree.specs.Sections.{subsection_block, with_one, with_part, section_block, with_section, with_item, server_of}
use Rattle.unlang_tree.specs.Policies.{server_block, with_server, servers_of}
use Rattle.unlang_tree.specs.Written.{IsWord, IsBlock, IsFree, IsCallable, call_from, Spell, nothing, by_name, by_dash, passed_over, IsUnknown}
use Rattle.unlang_tree.specs.Arms.{is_last_open}
use Rattle.unlang_tree.proofs.ArmLemmas.{word_no_arm, word_not_later, not_later_stands, plain_also, also_plain, call_closed}

neither : (a b : Bool) → (a || b) ≡ false → (a ≡ false) × (b ≡ false)
neither true b e = absurd cc
neither false b e = (refl, e)

module _ (site : Site) (section : Section) where
  -- a bare word is no block of statements
  no_group : (node : Node) (word : List ℕ) → IsWord node word → group_block node ≡ None
  no_group node word e = rw (e, group_block) refl

  plain_word : (levels room : ℕ) (node : Node) (word : List ℕ) → IsWord node word → plain_statement site section levels room node ≡ word_at site section room node.place word
  unfolding plain_statement
  plain_word levels room node word e =
      ap (λ item. elim item [
        | level.Pair left operator right ↦ Err (fault.BadAction node.place)
        | level.Name w ↦ word_at site section room node.place w.text
        | level.Block kind name body ↦ plain_block site section levels room node.place kind.text name body
      ]) e

  -- a bare word that calls no policy is read as a word, however deep it stands
  pub word_by : (opener : Opener) (depth : Depth) (room : ℕ) (node : Node) (word : List ℕ) → IsWord node word → policy_called site.root section node ≡ None
      → statement_by opener site section depth room node ≡ word_at site section room node.place word
  unfolding statement_by
  word_by opener depth room node word e free =
      ap (called_or_not opener site section depth room node) free
      ∙ ap (block_or_plain opener site section depth room node) (no_group node word e)
      ∙ ap (arm_or_plain opener site section depth room node) (word_no_arm node word e)
      ∙ plain_word depth.levels room node word e

  -- a word that is free calls none
  called_by : (node : Node) (word name : List ℕ) → IsWord node word → called_name word ≡ name → IsFree site section word name → policy_called site.root section node ≡ None
  called_by node word name e same free =
      rw (e, policy_called) (rw free.no_statement (ap (policy_for site.root section) same ∙ free.no_policy))

  -- `return` calls none
  pub return_free : (node : Node) → IsWord node (codes "return") → policy_called site.root section node ≡ None
  return_free node e = rw (e, policy_called) refl

  name_of_plain : (name : List ℕ) → is_optional name ≡ false → called_name name ≡ name
  name_of_plain name plain = rw plain refl

  pub free_name : (node : Node) (name : List ℕ) → IsWord node name → is_optional name ≡ false → IsFree site section name name → policy_called site.root section node ≡ None
  free_name node name e plain free = called_by node name name e (name_of_plain name plain) free

  pub free_dash : (node : Node) (name : List ℕ) → IsWord node (45 ∷ name) → IsFree site section (45 ∷ name) name → policy_called site.root section node ≡ None
  free_dash node name e free = called_by node (45 ∷ name) name e refl free

  abbrev plain_call : ℕ → Call
  plain_call number = record { instance = number; overrides = [] }

  call_read : (place : Place) (name : List ℕ) (number : ℕ) → IsCallable site section name number
      → call_of site.instances section place name ≡ Ok (plain_call number)
  unfolding call_of
  call_read place name number callable = rw (callable.numbered, call_of) (rw callable.method refl)

  unknown_read : (place : Place) (name : List ℕ) → number_of site.instances name ≡ None
      → call_of site.instances section place name ≡ Err (fault.UnknownModule place name)
  unfolding call_of
  unknown_read place name none = rw (none, call_of) refl

  -- `name`
  name_called : (place : Place) (name : List ℕ) → is_optional name ≡ false
      → call_at site.instances section place name ≡ (call_of site.instances section place name >>= λ call. Ok (Some call))
  unfolding call_at
  name_called place name plain = rw plain refl

  -- `-name`, where there is the instance
  optional_called : (place : Place) (name : List ℕ) (number : ℕ) → IsCallable site section name number
      → call_at site.instances section place (45 ∷ name) ≡ Ok (Some (plain_call number))
  unfolding call_at
  optional_called place name number callable = rw callable.numbered (ap (λ r. r >>= λ call. Ok (Some call)) (call_read place name number callable))

  -- `-name`, where there is none
  absent_called : (place : Place) (name : List ℕ) → number_of site.instances name ≡ None
      → call_at site.instances section place (45 ∷ name) ≡ Ok None
  unfolding call_at
  absent_called place name none = rw none refl

  -- the call of an instance, as the next statement
  abbrev pub next_from : Node → ℕ → ℕ → Counted
  next_from node number room = record { statement = call_from node number; room = room - 1 }

  counted : (room : ℕ) (place : Place) (call : Call) → 0 < room
      → counted_call room place (Some call) ≡ Ok (Some (record { statement = record { place = place; kind = kinds.Call call }; room = room - 1 }))
  unfolding counted_call one_statement one_more
  counted room place call some = rw (lt-ltb 0 room some) refl

  -- a word that is no statement of its own
  no_statement : (word : List ℕ) → is_word_statement word ≡ false → (is_return word ≡ false) × (is_one_of later_words word ≡ false)
  no_statement word e = neither (is_return word) (is_one_of later_words word) e

  -- a word whose call is known
  word_called : (opener : Opener) (depth : Depth) (room : ℕ) (node : Node) (word : List ℕ) (call : Option Call) → IsWord node word → policy_called site.root section node ≡ None → is_word_statement word ≡ false
      → call_at site.instances section node.place word ≡ Ok call → statement_by opener site section depth room node ≡ counted_call room node.place call
  unfolding word_at
  word_called opener depth room node word call spelled uncalled free e =
      word_by opener depth room node word spelled uncalled ∙ rw ((no_statement word free).0, (no_statement word free).1, e) refl

  word_wrong : (opener : Opener) (depth : Depth) (room : ℕ) (node : Node) (word : List ℕ) (wrong : TreeFault) → IsWord node word → policy_called site.root section node ≡ None → is_word_statement word ≡ false
      → call_at site.instances section node.place word ≡ Err wrong → statement_by opener site section depth room node ≡ Err wrong
  unfolding word_at
  word_wrong opener depth room node word wrong spelled uncalled free e =
      word_by opener depth room node word spelled uncalled ∙ rw ((no_statement word free).0, (no_statement word free).1, e) refl

  none_counted : (room : ℕ) (place : Place) → counted_call room place None ≡ Ok None
  unfolding counted_call
  none_counted room place = refl

  pub name_by : (opener : Opener) (depth : Depth) (room : ℕ) (node : Node) (name : List ℕ) (number : ℕ) → IsWord node name → is_optional name ≡ false → IsFree site section name name
      → IsCallable site section name number → 0 < room → statement_by opener site section depth room node ≡ Ok (Some (next_from node number room))
  name_by opener depth room node name number spelled plain free callable some =
      word_called opener depth room node name (Some (plain_call number)) spelled (free_name node name spelled plain free) free.no_statement
      (name_called node.place name plain ∙ ap (λ r. r >>= λ call. Ok (Some call)) (call_read node.place name number callable))
      ∙ counted room node.place (plain_call number) some

  pub optional_by : (opener : Opener) (depth : Depth) (room : ℕ) (node : Node) (name : List ℕ) (number : ℕ) → IsWord node (45 ∷ name) → IsFree site section (45 ∷ name) name
      → IsCallable site section name number → 0 < room → statement_by opener site section depth room node ≡ Ok (Some (next_from node number room))
  optional_by opener depth room node name number spelled free callable some =
      word_called opener depth room node (45 ∷ name) (Some (plain_call number)) spelled (free_dash node name spelled free) free.no_statement (optional_called node.place name number callable)
      ∙ counted room node.place (plain_call number) some

  pub absent_by : (opener : Opener) (depth : Depth) (room : ℕ) (node : Node) (name : List ℕ) → IsWord node (45 ∷ name) → IsFree site section (45 ∷ name) name
      → number_of site.instances name ≡ None → statement_by opener site section depth room node ≡ Ok None
  absent_by opener depth room node name spelled free none =
      word_called opener depth room node (45 ∷ name) None spelled (free_dash node name spelled free) free.no_statement (absent_called node.place name none) ∙ none_counted room node.place

  -- the same directly in a section
  abbrev top : Opener
  top = opened_at site section most_statements

  pub statement_of_name : (room : ℕ) (node : Node) (name : List ℕ) (number : ℕ) → IsWord node name → is_optional name ≡ false → IsFree site section name name
      → IsCallable site section name number → 0 < room → statement_at site section room node ≡ Ok (Some (next_from node number room))
  statement_of_name room node name number spelled plain free callable some = name_by top at_the_top room node name number spelled plain free callable some

  pub statement_of_optional : (room : ℕ) (node : Node) (name : List ℕ) (number : ℕ) → IsWord node (45 ∷ name) → IsFree site section (45 ∷ name) name
      → IsCallable site section name number → 0 < room → statement_at site section room node ≡ Ok (Some (next_from node number room))
  statement_of_optional room node name number spelled free callable some = optional_by top at_the_top room node name number spelled free callable some

  pub statement_of_absent : (room : ℕ) (node : Node) (name : List ℕ) → IsWord node (45 ∷ name) → IsFree site section (45 ∷ name) name
      → number_of site.instances name ≡ None → statement_at site section room node ≡ Ok None
  statement_of_absent room node name spelled free none = absent_by top at_the_top room node name spelled free none

  pub statement_of_unknown : (room : ℕ) (node : Node) (name : List ℕ) → IsUnknown site section node name → statement_at site section room node ≡ Err (fault.UnknownModule node.place name)
  statement_of_unknown room node name unknown =
      word_wrong top at_the_top room node name (fault.UnknownModule node.place name) unknown.spelled (free_name node name unknown.spelled unknown.plain unknown.free) unknown.free.no_statement
      (name_called node.place name unknown.plain ∙ ap (λ r. r >>= λ call. Ok (Some call)) (unknown_read node.place name unknown.none))

  -- what was read so far, and how many more there is room for
  abbrev so_far : List Statement → ℕ → Members
  so_far statements room = record { overrides = []; statements = statements; room = room }

  -- one node more among the statements that are known
  step_ok : (room : ℕ) (known : List Statement) (node : Node) (word : List ℕ) (more : Option Counted) (rest : List Node) → IsWord node word
      → statement_at site section room node ≡ Ok more
      → after_each (with_statement site section) (so_far known room) (node ∷ rest) ≡ after_each (with_statement site section) (plain_also (so_far known room) more) rest
  unfolding after_each with_statement
  step_ok room known node word more rest spelled e =
      rw (not_later_stands (is_last_open known) node (word_not_later node word spelled), e)
      (ap (λ m. after_each (with_statement site section) m rest) (also_plain (so_far known room) node more (word_not_later node word spelled)))

  step_wrong : (room : ℕ) (known : List Statement) (node : Node) (word : List ℕ) (wrong : TreeFault) (rest : List Node) → IsWord node word
      → statement_at site section room node ≡ Err wrong
      → after_each (with_statement site section) (so_far known room) (node ∷ rest) ≡ Err wrong
  unfolding after_each with_statement
  step_wrong room known node word wrong rest spelled e =
      rw (not_later_stands (is_last_open known) node (word_not_later node word spelled), e) refl

  abbrev from_here : List Statement → ℕ → List Node → Result Members TreeFault
  from_here known room nodes = after_each (with_statement site section) (so_far known room) nodes

  one_call_read : (room : ℕ) (known : List Statement) (node : Node) (word : List ℕ) (number : ℕ) (calls : List Statement) (nodes rest : List Node) → IsWord node word
      → statement_at site section room node ≡ Ok (Some (next_from node number room)) → length (call_from node number ∷ calls) ≤ room
      → from_here (known ++ call_from node number ∷ []) (room - 1) (nodes ++ rest) ≡ from_here ((known ++ call_from node number ∷ []) ++ calls) (room - 1 - length calls) rest
      → from_here known room (node ∷ (nodes ++ rest)) ≡ from_here (known ++ call_from node number ∷ calls) (room - length (call_from node number ∷ calls)) rest
  one_call_read room known node word number calls nodes rest spelled e within further =
      let s = call_from node number in
      let same : (known ++ s ∷ []) ++ calls ≡ known ++ s ∷ calls = simp append_assoc in
      let left : room - 1 - length calls ≡ room - length (s ∷ calls) = omega (arith, within) in
      step_ok room known node word (Some (next_from node number room)) (nodes ++ rest) spelled e
      ∙ further
      ∙ ap (λ k. from_here k (room - 1 - length calls) rest) same ∙ ap (λ r. from_here (known ++ s ∷ calls) r rest) left

  -- the calls that nodes spell stand behind what is known, and what follows them is read behind these
  pub spelled_read : (room : ℕ) (known : List Statement) (nodes : List Node) (calls : List Statement) (rest : List Node) → Spell site section nodes calls
      → length calls ≤ room
      → from_here known room (nodes ++ rest) ≡ from_here (known ++ calls) (room - length calls) rest
  spelled_read room known _ _ rest nothing within =
      let left : room ≡ room - 0 = omega arith in
      ap (λ k. from_here k room rest) (sym (append-nil known)) ∙ ap (λ r. from_here (known ++ []) r rest) left
  spelled_read room known _ _ rest (by_name node nodes calls name number spelled plain free callable more) within =
      one_call_read room known node name number calls nodes rest spelled (statement_of_name room node name number spelled plain free callable (omega (arith, within))) within
      (spelled_read (room - 1) (known ++ call_from node number ∷ []) nodes calls rest more (omega (arith, within)))
  spelled_read room known _ _ rest (by_dash node nodes calls name number spelled free callable more) within =
      one_call_read room known node (45 ∷ name) number calls nodes rest spelled (statement_of_optional room node name number spelled free callable (omega (arith, within))) within
      (spelled_read (room - 1) (known ++ call_from node number ∷ []) nodes calls rest more (omega (arith, within)))
  spelled_read room known _ _ rest (passed_over node nodes calls name spelled free none more) within =
      step_ok room known node (45 ∷ name) None (nodes ++ rest) spelled (statement_of_absent room node name spelled free none)
      ∙ spelled_read room known nodes calls rest more within

  nothing_left : (known : Members) → after_each (with_statement site section) known [] ≡ Ok known
  unfolding after_each
  nothing_left known = refl

  -- written calls are read
  pub calls_read : (room : ℕ) (nodes : List Node) (calls : List Statement) → Spell site section nodes calls → length calls ≤ room → statements_of site section room nodes ≡ Ok calls
  calls_read room nodes calls spelled within =
      ap (λ r. r >>= λ (members : Members). Ok members.statements)
      (ap (from_here [] room) (sym (append-nil nodes)) ∙ spelled_read room [] nodes calls [] spelled within ∙ nothing_left (so_far calls (room - length calls)))

  -- the first word that calls nothing is the fault
  pub unknown_found : (room : ℕ) (good : List Node) (calls : List Statement) (bad : Node) (name : List ℕ) (rest : List Node) → Spell site section good calls → length calls ≤ room
      → IsUnknown site section bad name → statements_of site section room (good ++ bad ∷ rest) ≡ Err (fault.UnknownModule bad.place name)
  unknown_found room good calls bad name rest spelled within unknown =
      ap (λ r. r >>= λ (members : Members). Ok members.statements)
      (spelled_read room [] good calls (bad ∷ rest) spelled within
      ∙ step_wrong (room - length calls) calls bad name (fault.UnknownModule bad.place name) rest unknown.spelled (statement_of_unknown (room - length calls) bad name unknown))

module _ (site : Site) where
  section_read : (node : Node) (nodes : List Node) → IsBlock node (codes "authorize") None nodes → section_block node ≡ Some (which.Authorize, nodes)
  unfolding section_of
  section_read node nodes e = rw (e, section_block) refl

  abbrev authorize_of : List Statement → SectionTree
  authorize_of calls = record { section = which.Authorize; statements = calls; subsections = [] }

  -- a word is no subsection
  no_subsection : (node : Node) (word : List ℕ) → IsWord node word → subsection_block which.Authorize node ≡ None
  no_subsection node word e = rw (e, subsection_block) refl

  abbrev parts : List Statement → ℕ → Parts
  parts statements room = record { statements = statements; subsections = []; room = room; may_go_on = false }

  part_ok : (known : Parts) (node : Node) (word : List ℕ) (more : Option Counted) → IsWord node word → statement_at site which.Authorize known.room node ≡ Ok more
      → with_part site which.Authorize known node ≡ Ok (with_one which.Authorize node known more)
  unfolding with_part
  part_ok known node word more spelled e = rw (no_subsection node word spelled, with_part) (rw (not_later_stands known.may_go_on node (word_not_later node word spelled), e) refl)

  abbrev parts_from : List Statement → ℕ → List Node → Result Parts TreeFault
  parts_from statements room nodes = after_each (with_part site which.Authorize) (parts statements room) nodes

  part_step : (known next : Parts) (node : Node) (rest : List Node) → with_part site which.Authorize known node ≡ Ok next
      → after_each (with_part site which.Authorize) known (node ∷ rest) ≡ after_each (with_part site which.Authorize) next rest
  unfolding after_each
  part_step known next node rest e = rw e refl

  no_parts : (known : Parts) → after_each (with_part site which.Authorize) known [] ≡ Ok known
  unfolding after_each
  no_parts known = refl

  abbrev read_as : List Statement → ℕ → Result Parts TreeFault
  read_as statements room = Ok (parts statements room)

  abbrev counted_from : Node → ℕ → ℕ → Counted
  counted_from node number room = record { statement = call_from node number; room = room - 1 }

  run_plain : (room : ℕ) (known : List Statement) (node : Node) (word : List ℕ) (number : ℕ) → IsWord node word
      → with_one which.Authorize node (parts known room) (Some (counted_from node number room)) ≡ parts (known ++ call_from node number ∷ []) (room - 1)
  run_plain room known node word number spelled = rw (word_not_later node word spelled, call_closed node number) refl

  one_call : (room : ℕ) (known : List Statement) (node : Node) (nodes : List Node) (word : List ℕ) (number : ℕ) (calls : List Statement) → IsWord node word
      → statement_at site which.Authorize room node ≡ Ok (Some (counted_from node number room)) → length (call_from node number ∷ calls) ≤ room
      → parts_from (known ++ call_from node number ∷ []) (room - 1) nodes ≡ read_as ((known ++ call_from node number ∷ []) ++ calls) (room - 1 - length calls)
      → parts_from known room (node ∷ nodes) ≡ read_as (known ++ call_from node number ∷ calls) (room - length (call_from node number ∷ calls))
  one_call room known node nodes word number calls spelled e within rest =
      let s = call_from node number in
      let same : (known ++ s ∷ []) ++ calls ≡ known ++ s ∷ calls = simp append_assoc in
      let left : room - 1 - length calls ≡ room - length (s ∷ calls) = omega (arith, within) in
      part_step (parts known room) (parts (known ++ s ∷ []) (room - 1)) node nodes (part_ok (parts known room) node word (Some (counted_from node number room)) spelled e ∙ ap (λ p. Ok p) (run_plain room known node word number spelled))
      ∙ rest ∙ ap (λ k. read_as k (room - 1 - length calls)) same ∙ ap (λ r. read_as (known ++ s ∷ calls) r) left

  parts_read : (room : ℕ) (known : List Statement) (nodes : List Node) (calls : List Statement) → Spell site which.Authorize nodes calls → length calls ≤ room
      → parts_from known room nodes ≡ read_as (known ++ calls) (room - length calls)
  parts_read room known _ _ nothing within =
      let left : room ≡ room - 0 = omega arith in
      no_parts (parts known room) ∙ ap (λ k. read_as k room) (sym (append-nil known)) ∙ ap (λ r. read_as (known ++ []) r) left
  parts_read room known _ _ (by_name node nodes calls name number spelled plain free callable more) within =
      one_call room known node nodes name number calls spelled
      (statement_of_name site which.Authorize room node name number spelled plain free callable (omega (arith, within))) within
      (parts_read (room - 1) (known ++ call_from node number ∷ []) nodes calls more (omega (arith, within)))
  parts_read room known _ _ (by_dash node nodes calls name number spelled free callable more) within =
      one_call room known node nodes (45 ∷ name) number calls spelled
      (statement_of_optional site which.Authorize room node name number spelled free callable (omega (arith, within))) within
      (parts_read (room - 1) (known ++ call_from node number ∷ []) nodes calls more (omega (arith, within)))
  parts_read room known _ _ (passed_over node nodes calls name spelled free none more) within =
      part_step (parts known room) (parts known room) node nodes (part_ok (parts known room) node (45 ∷ name) None spelled (statement_of_absent site which.Authorize room node name spelled free none))
      ∙ parts_read room known nodes calls more within

  authorize_read : (known : Known) (nodes : List Node) (calls : List Statement) → Spell site which.Authorize nodes calls → length calls ≤ known.room
      → with_section site known which.Authorize nodes ≡ Ok (record { sections = known.sections ++ authorize_of calls ∷ []; room = known.room - length calls })
  unfolding with_section
  authorize_read known nodes calls spelled within = rw (parts_read known.room [] nodes calls spelled within) refl

  item_read : (known : Known) (node : Node) (nodes : List Node) (calls : List Statement) → IsBlock node (codes "authorize") None nodes
      → Spell site which.Authorize nodes calls → length calls ≤ known.room
      → with_item site known node ≡ Ok (record { sections = known.sections ++ authorize_of calls ∷ []; room = known.room - length calls })
  unfolding with_item
  item_read known node nodes calls e spelled within = rw (section_read node nodes e, with_item) (authorize_read known nodes calls spelled within)

  server_read : (name : List ℕ) (node : Node) (nodes : List Node) (calls : List Statement) → IsBlock node (codes "authorize") None nodes
      → Spell site which.Authorize nodes calls → length calls ≤ 65536
      → server_of site name (node ∷ []) ≡ Ok (record { name = name; sections = authorize_of calls ∷ [] })
  unfolding server_of after_each
  server_read name node nodes calls e spelled within =
      rw (item_read (record { sections = []; room = 65536 }) node nodes calls e spelled within) refl

  server_found : (server : Node) (name : Word) (items : List Node) → IsBlock server (codes "server") (Some name) items → server_block server ≡ Some (name.text, items)
  server_found server name items e = rw (e, server_block) refl

  -- a site with one server that has one section authorize
  pub site_read : (server authorize : Node) (name : Word) (nodes : List Node) (calls : List Statement) → site.root ≡ server ∷ []
      → IsBlock server (codes "server") (Some name) (authorize ∷ []) → IsBlock authorize (codes "authorize") None nodes
      → Spell site which.Authorize nodes calls → length calls ≤ 65536
      → servers_of site ≡ Ok (record { name = name.text; sections = authorize_of calls ∷ [] } ∷ [])
  unfolding after_each with_server
  site_read server authorize name nodes calls root block inner spelled within =
      ap (after_each (with_server site) []) root
      ∙ rw (server_found server name (authorize ∷ []) block, with_server) (rw (server_read name.text authorize nodes calls inner spelled within) refl)
