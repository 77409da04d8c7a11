-- Written blocks of statements and called policies are read.
use Rattle.std.proofs.Common.{codes, ◌≡◌, ℕ, suc, ◌+◌, ◌-◌, ◌<◌, ◌≤◌, true, false, lt-ltb, List, [], ◌∷◌, ◌++◌, length, Option, Some, None, Result, Ok, Err, ◌⊎◌, inl, inr, refl, sym, ap, ◌∙◌, arith, append_assoc}
use Rattle.std.proofs.lemmas.List.{append-nil}
use Rattle.rad_outside.specs.declared.files.Place.{Place}
use Rattle.rad_conf.specs.declared.tree.Word.{Word}
use Rattle.rad_conf.specs.declared.tree.Node.{Node}
use Rattle.rad_words.specs.declared.sections.Section.{Section}
use Rattle.rad_text.specs.Read.{◌>>=◌}
use Rattle.unlang_tree.specs.declared.fault.TreeFault.{TreeFault}
use Rattle.unlang_tree.specs.declared.fault.TreeFault.TheVariants as fault
use Rattle.unlang_tree.specs.declared.statement.GroupForm.{GroupForm}
use Rattle.unlang_tree.specs.declared.statement.GroupForm.TheVariants as form
use Rattle.unlang_tree.specs.declared.statement.Override.{Override}
use Rattle.unlang_tree.specs.declared.statement.Statement.{Statement}
use Rattle.unlang_tree.specs.declared.statement.StatementKind.TheVariants as kinds
use Rattle.unlang_tree.specs.declared.statements.Counted.{Counted}
use Rattle.unlang_tree.specs.declared.groups.Members.{Members}
use Rattle.unlang_tree.specs.Sites.{Site}
use Rattle.unlang_tree.specs.Readings.{one_more, one_deeper, most_statements, after_each}
use Rattle.unlang_tree.specs.Words.{form_named}
use Rattle.unlang_tree.specs.Calls.{kind_of, body_of}
use Rattle.unlang_tree.specs.Actions.{override_of}
use Rattle.unlang_tree.specs.Statements.{one_statement, with_room, word_at, is_pair}
use Rattle.unlang_tree.specs.PolicyCalls.{policy_called}
use Rattle.unlang_tree.specs.Depths.{Depth, in_a_block, in_a_policy}
use Rattle.unlang_tree.specs.Groups.{Opener, group_of, group_at, policy_call, block_or_plain, called_or_not, statement_by, statement_at, and_also, with_own_action, has_own_actions, with_member, begun, opened_at, with_statement, statements_of}
use Rattle.unlang_tree.specs.Written.{IsWord, IsBlock, CallsPolicy, is_open, call_from, Spell, nothing, by_name, by_dash, passed_over}
use Rattle.unlang_tree.specs.WrittenGroups.{Begins, group, redundant, load_balance, redundant_load_balance, IsPair, group_from, return_from, SpellBlock, nothing_more, calls, returns, acts, nests, lays_out, Around, alone, around, LeadsBack, calls_itself, leads, arm_from, if_from, IsAsking, chooses, SpellArms, no_more_arms, passes, or_if, otherwise}
use Rattle.unlang_cond.specs.Trees.{Tree}
use Rattle.unlang_tree.specs.declared.statement.Arm.{Arm}
use Rattle.unlang_tree.specs.declared.words.ArmWord.{ArmWord}
use Rattle.unlang_tree.specs.declared.words.ArmWord.TheVariants as arm
use Rattle.unlang_tree.specs.Arms.{is_later_arm, is_last_open, not_stray, condition_at}
use Rattle.unlang_tree.proofs.ArmLemmas.{word_not_later, not_later_stands, plain_also, also_plain, last_open, if_at, if_open, later_joined, later_stands}
use Rattle.unlang_tree.proofs.WrittenArms.{BeginsArm, by_if, by_elsif, by_else, first_arm, elsif_later, else_later, if_asks, elsif_asks, else_asks, arm_read}
use Rattle.unlang_tree.proofs.BlockWords.{acting, IsPlain, word_no_pair, word_plain, block_no_pair, block_plain, pair_is, is_group, overridden, no_action, none_first, counted, opens, no_level, no_braces, no_body, is_fresh, is_loop}
use Rattle.unlang_tree.proofs.GroupLevels.{some_within}
use Rattle.unlang_tree.proofs.WrittenCalls.{next_from, word_by, return_free, name_by, optional_by, absent_by}

module _ (site : Site) (section : Section) where
  abbrev depth_at : ℕ → List (List ℕ) → Depth
  depth_at levels entered = record { levels = levels; entered = entered }

  -- a block of statements calls no policy
  no_call : (node : Node) (kind : GroupForm) (word : List ℕ) (name : Option Word) (body : List Node) → Begins kind word → IsBlock node word name body
      → policy_called site.root section node ≡ None
  unfolding form_named
  no_call node _ _ name body group e = rw (e, policy_called) refl
  no_call node _ _ name body redundant e = rw (e, policy_called) refl
  no_call node _ _ name body load_balance e = rw (e, policy_called) refl
  no_call node _ _ name body redundant_load_balance e = rw (e, policy_called) refl

  abbrev inner_of : ℕ → Opener
  inner_of within = opened_at site section within

  abbrev reader : ℕ → Depth → GroupForm → Members → Node → Result Members TreeFault
  reader within depth kind = with_member (inner_of within) site section depth kind

  abbrev read_from : ℕ → Depth → GroupForm → Members → List Node → Result Members TreeFault
  read_from within depth kind known nodes = after_each (reader within depth kind) known nodes

  abbrev statement_in : ℕ → Depth → ℕ → Node → Result (Option Counted) TreeFault
  statement_in within depth room node = statement_by (inner_of within) site section depth room node

  abbrev members : List Override → List Statement → ℕ → Members
  members own inner room = record { overrides = own; statements = inner; room = room }

  one_read : (within : ℕ) (depth : Depth) (kind : GroupForm) (known next : Members) (node : Node) (nodes : List Node) → reader within depth kind known node ≡ Ok next
      → read_from within depth kind known (node ∷ nodes) ≡ read_from within depth kind next nodes
  unfolding after_each
  one_read within depth kind known next node nodes e = rw e refl

  none_read : (within : ℕ) (depth : Depth) (kind : GroupForm) (known : Members) → read_from within depth kind known [] ≡ Ok known
  unfolding after_each
  none_read within depth kind known = refl

  -- a statement that is no pair is added
  stated : (within : ℕ) (depth : Depth) (kind : GroupForm) (known : Members) (node : Node) (more : Option Counted) → IsPlain node
      → statement_in within depth known.room node ≡ Ok more → reader within depth kind known node ≡ Ok (plain_also known more)
  unfolding with_member
  stated within depth kind known node more plain e =
      rw (no_action (has_own_actions kind) (is_pair node) plain.0, not_later_stands (is_last_open known.statements) node plain.1, e)
      (ap (λ m. Ok m) (also_plain known node more plain.1))

  acted : (within : ℕ) (depth : Depth) (kind : GroupForm) (known : Members) (node : Node) (left : Word) (operator : List ℕ) (right : Word) (one : Override) → has_own_actions kind ≡ true
      → IsPair node left operator right → override_of left.text operator right ≡ Some one
      → reader within depth kind known node ≡ Ok (members (known.overrides ++ one ∷ []) known.statements known.room)
  unfolding with_member with_own_action
  acted within depth kind known node left operator right one own e given =
      rw (own, pair_is node left operator right e, overridden known.overrides node left operator right one e given) refl

  returned : (room : ℕ) (place : Place) → 0 < room → word_at site section room place (codes "return") ≡ Ok (Some (record { statement = record { place = place; kind = kinds.Return }; room = room - 1 }))
  unfolding word_at one_statement one_more
  returned room place some = rw (lt-ltb 0 room some) refl

  -- a block of statements is read as its form says
  block_by : (within : ℕ) (depth : Depth) (room : ℕ) (node : Node) (kind : GroupForm) (word : List ℕ) (name : Option Word) (body : List Node) → Begins kind word → IsBlock node word name body
      → statement_in within depth room node ≡ (group_at (inner_of within) depth room node.place kind body >>= λ one. Ok (Some one))
  unfolding statement_by
  block_by within depth room node kind word name body begun_by e =
      ap (called_or_not (inner_of within) site section depth room node) (no_call node kind word name body begun_by e)
      ∙ ap (block_or_plain (inner_of within) site section depth room node) (is_group node kind word name body begun_by e)

  -- the policy of a word
  policy_is : (node : Node) (word : List ℕ) (policy : Node) → CallsPolicy site section node word policy → policy_called site.root section node ≡ Some policy
  policy_is node word policy called = rw (called.spelled, policy_called) (rw called.no_statement called.there)

  policy_by : (within : ℕ) (depth : Depth) (room : ℕ) (node : Node) (word : List ℕ) (policy : Node) → CallsPolicy site section node word policy
      → statement_in within depth room node ≡ (policy_call (inner_of within) depth room node policy >>= λ one. Ok (Some one))
  unfolding statement_by
  policy_by within depth room node word policy called =
      ap (called_or_not (inner_of within) site section depth room node) (policy_is node word policy called)

  -- what was read before stands before what is read
  abbrev Reads : ℕ → Depth → GroupForm → List Node → List Override → List Statement → ℕ → Type 0
  Reads within depth kind nodes own inner count = (known : Members) → count ≤ known.room
      → read_from within depth kind known nodes ≡ Ok (members (known.overrides ++ own) (known.statements ++ inner) (known.room - count))

  opened_read : (within room : ℕ) (depth : Depth) (place : Place) (kind : GroupForm) (nodes : List Node) (own : List Override) (inner : List Statement) (count : ℕ)
      → 0 < within → Reads (within - 1) depth kind nodes own inner count → count ≤ room
      → inner_of within depth place kind [] room nodes ≡ Ok (members own inner (room - count))
  opened_read within room depth place kind nodes own inner count some reads fits =
      some_within site section within depth place kind [] room nodes some ∙ reads (begun [] room) fits

  group_made : (opener : Opener) (depth : Depth) (levels room : ℕ) (place : Place) (kind : GroupForm) (body : List Node) (read : Members) → depth.levels ≡ suc levels → 0 < room
      → opener (in_a_block depth) place kind [] (room - 1) body ≡ Ok read → group_at opener depth room place kind body ≡ Ok (with_room read.room place (group_of kind read))
  unfolding group_at
  group_made opener depth levels room place kind body read deep some e =
      rw (ap (λ n. one_deeper n place) deep ∙ opens levels place, counted room place some, e) refl

  policy_made : (opener : Opener) (depth : Depth) (room : ℕ) (node : Node) (word : List ℕ) (policy : Node) (read : Members) → IsWord node word → is_open depth.entered policy ≡ false → 0 < room
      → opener (in_a_policy depth (kind_of policy)) node.place form.Policy [] (room - 1) (body_of policy) ≡ Ok read
      → policy_call opener depth room node policy ≡ Ok (with_room read.room node.place (group_of form.Policy read))
  unfolding policy_call after_each
  policy_made opener depth room node word policy read spelled fresh some e =
      rw (is_fresh depth.entered node.place policy fresh, no_braces node word depth.levels spelled, counted room node.place some, no_body node word spelled, e) refl

  group_read : (within levels room : ℕ) (entered : List (List ℕ)) (node : Node) (kind : GroupForm) (word : List ℕ) (name : Option Word) (body : List Node) (own : List Override) (inner : List Statement) (count : ℕ)
      → 0 < within → Begins kind word → IsBlock node word name body → Reads (within - 1) (depth_at levels entered) kind body own inner count → count < room
      → statement_in within (depth_at (suc levels) entered) room node ≡ Ok (Some (record { statement = group_from node kind own inner; room = room - 1 - count }))
  group_read within levels room entered node kind word name body own inner count some begun_by e reads fits =
      let less : suc levels - 1 ≡ levels = omega arith in
      block_by within (depth_at (suc levels) entered) room node kind word name body begun_by e
      ∙ ap (λ r. r >>= λ (c : Counted). Ok (Some c))
      (group_made (inner_of within) (depth_at (suc levels) entered) levels room node.place kind body (members own inner (room - 1 - count)) refl (omega (arith, fits))
      (ap (λ n. inner_of within (depth_at n entered) node.place kind [] (room - 1) body) less
      ∙ opened_read within (room - 1) (depth_at levels entered) node.place kind body own inner count some reads (omega (arith, fits))))

  policy_read : (within levels room : ℕ) (entered : List (List ℕ)) (node : Node) (word : List ℕ) (policy : Node) (inner : List Statement) (count : ℕ)
      → 0 < within → CallsPolicy site section node word policy → is_open entered policy ≡ false
      → Reads (within - 1) (depth_at levels (kind_of policy ∷ entered)) form.Policy (body_of policy) [] inner count → count < room
      → statement_in within (depth_at levels entered) room node ≡ Ok (Some (record { statement = group_from node form.Policy [] inner; room = room - 1 - count }))
  policy_read within levels room entered node word policy inner count some called fresh reads fits =
      policy_by within (depth_at levels entered) room node word policy called
      ∙ ap (λ r. r >>= λ (c : Counted). Ok (Some c))
      (policy_made (inner_of within) (depth_at levels entered) room node word policy (members [] inner (room - 1 - count)) called.spelled fresh (omega (arith, fits))
      (opened_read within (room - 1) (depth_at levels (kind_of policy ∷ entered)) node.place form.Policy (body_of policy) [] inner count some reads (omega (arith, fits))))

  -- behind one node
  behind_statement : (within : ℕ) (depth : Depth) (kind : GroupForm) (node : Node) (nodes : List Node) (statement : Statement) (taken : ℕ) (own : List Override) (inner : List Statement) (count : ℕ) (known : Members)
      → reader within depth kind known node ≡ Ok (members known.overrides (known.statements ++ statement ∷ []) (known.room - taken)) → Reads within depth kind nodes own inner count → taken + count ≤ known.room
      → read_from within depth kind known (node ∷ nodes) ≡ Ok (members (known.overrides ++ own) (known.statements ++ statement ∷ inner) (known.room - (taken + count)))
  behind_statement within depth kind node nodes statement taken own inner count known e reads fits =
      let next = members known.overrides (known.statements ++ statement ∷ []) (known.room - taken) in
      let same : (known.statements ++ statement ∷ []) ++ inner ≡ known.statements ++ statement ∷ inner = simp append_assoc in
      let left : known.room - taken - count ≡ known.room - (taken + count) = omega (arith, fits) in
      one_read within depth kind known next node nodes e ∙ reads next (omega (arith, fits))
      ∙ ap (λ s. Ok (members (known.overrides ++ own) s (known.room - taken - count))) same
      ∙ ap (λ r. Ok (members (known.overrides ++ own) (known.statements ++ statement ∷ inner) r)) left

  behind_none : (within : ℕ) (depth : Depth) (kind : GroupForm) (node : Node) (nodes : List Node) (own : List Override) (inner : List Statement) (count : ℕ) (known : Members)
      → reader within depth kind known node ≡ Ok known → Reads within depth kind nodes own inner count → count ≤ known.room
      → read_from within depth kind known (node ∷ nodes) ≡ Ok (members (known.overrides ++ own) (known.statements ++ inner) (known.room - count))
  behind_none within depth kind node nodes own inner count known e reads fits = one_read within depth kind known known node nodes e ∙ reads known fits

  call_reads : (within : ℕ) (depth : Depth) (kind : GroupForm) (node : Node) (nodes : List Node) (called : List Statement) (own : List Override) (inner : List Statement) (count : ℕ)
      → Spell site section (node ∷ []) called → Reads within depth kind nodes own inner count → Reads within depth kind (node ∷ nodes) own (called ++ inner) (length called + count)
  call_reads within depth kind _ nodes _ own inner count (by_name node _ _ name number spelled plain free callable nothing) reads = λ known fits.
      behind_statement within depth kind node nodes (call_from node number) 1 own inner count known
      (stated within depth kind known node (Some (next_from site section node number known.room)) (word_plain node name spelled)
      (name_by site section (inner_of within) depth known.room node name number spelled plain free callable (omega (arith, fits))))
      reads fits
  call_reads within depth kind _ nodes _ own inner count (by_dash node _ _ name number spelled free callable nothing) reads = λ known fits.
      behind_statement within depth kind node nodes (call_from node number) 1 own inner count known
      (stated within depth kind known node (Some (next_from site section node number known.room)) (word_plain node (45 ∷ name) spelled)
      (optional_by site section (inner_of within) depth known.room node name number spelled free callable (omega (arith, fits))))
      reads fits
  call_reads within depth kind _ nodes _ own inner count (passed_over node _ _ name spelled free none nothing) reads = λ known fits.
      let same : count ≡ 0 + count = omega arith in
      behind_none within depth kind node nodes own inner count known
      (stated within depth kind known node None (word_plain node (45 ∷ name) spelled)
      (absent_by site section (inner_of within) depth known.room node name spelled free none))
      reads (omega (arith, fits))
      ∙ ap (λ n. Ok (members (known.overrides ++ own) (known.statements ++ inner) (known.room - n))) same

  -- a statement has actions of its own, or no pairs stand in it
  abbrev MayAct : GroupForm → List Override → Type 0
  MayAct kind own = (has_own_actions kind ≡ true) ⊎ (own ≡ [])

  -- ---- the arms of an `if`

  abbrev Step : Type 0
  Step = Members → Node → Result Members TreeFault

  -- a step that adds what a node reads as
  abbrev Adds : Step → ℕ → Depth → Type 0
  Adds step within depth = (known : Members) (node : Node) (more : Option Counted) → is_pair node ≡ false → not_stray (is_last_open known.statements) node ≡ Ok tt
      → statement_in within depth known.room node ≡ Ok more → step known node ≡ Ok (and_also known node more)

  reader_adds : (within : ℕ) (depth : Depth) (kind : GroupForm) → Adds (reader within depth kind) within depth
  unfolding with_member
  reader_adds within depth kind known node more plain stands e = rw (no_action (has_own_actions kind) (is_pair node) plain, stands, e) refl

  section_adds : Adds (with_statement site section) most_statements (depth_at 32 [])
  unfolding with_statement
  section_adds known node more plain stands e = rw (stands, e) refl

  step_read : (step : Step) (known next : Members) (node : Node) (nodes : List Node) → step known node ≡ Ok next → after_each step known (node ∷ nodes) ≡ after_each step next nodes
  unfolding after_each
  step_read step known next node nodes e = rw e refl

  none_left : (step : Step) (known : Members) → after_each step known [] ≡ Ok known
  unfolding after_each
  none_left step known = refl

  -- what was read, of which these arms are the last
  abbrev choosing : List Override → List Statement → Place → List Arm → ℕ → Members
  choosing own front place arms room = members own (front ++ if_at place arms ∷ []) room

  later_read : (step : Step) (within : ℕ) (depth : Depth) → Adds step within depth
      → (own : List Override) (front : List Statement) (place : Place) (before : List Arm) (tree : Tree) (inner : List Statement) (room : ℕ) (node : Node) (more : List Arm) (left : ℕ)
      → is_pair node ≡ false → is_later_arm node ≡ true → statement_in within depth room node ≡ Ok (Some (record { statement = if_at node.place more; room = left }))
      → step (choosing own front place (before ++ arm_from (Some tree) inner ∷ []) room) node ≡ Ok (choosing own front place ((before ++ arm_from (Some tree) inner ∷ []) ++ more) left)
  later_read step within depth adds own front place before tree inner room node more left plain later e =
      let arms = before ++ arm_from (Some tree) inner ∷ [] in
      adds (choosing own front place arms room) node (Some (record { statement = if_at node.place more; room = left })) plain
      (later_stands (is_last_open (front ++ if_at place arms ∷ [])) node later (last_open front (if_at place arms) (if_open place before tree inner))) e
      ∙ ap (λ (m : Members). Ok m) (later_joined own front place arms room node node.place more left later)

  arm_block : (within levels room : ℕ) (entered : List (List ℕ)) (node : Node) (kind : ArmWord) (word : List ℕ) (name : Option Word) (asks : Option Tree) (body : List Node) (inner : List Statement) (count : ℕ)
      → 0 < within → BeginsArm kind word → IsBlock node word name body → condition_at site.dict kind node ≡ Ok asks → Reads (within - 1) (depth_at levels entered) form.Policy body [] inner count → count < room
      → statement_in within (depth_at (suc levels) entered) room node ≡ Ok (Some (record { statement = if_from node (arm_from asks inner ∷ []); room = room - 1 - count }))
  arm_block within levels room entered node kind word name asks body inner count some begun_by e read_as reads fits =
      let less : suc levels - 1 ≡ levels = omega arith in
      arm_read site section (inner_of within) (depth_at (suc levels) entered) levels room node kind word name asks body (members [] inner (room - 1 - count)) begun_by e refl (omega (arith, fits)) read_as
      (ap (λ n. inner_of within (depth_at n entered) node.place form.Policy [] (room - 1) body) less
      ∙ opened_read within (room - 1) (depth_at levels entered) node.place form.Policy body [] inner count some reads (omega (arith, fits)))

  mutual
    -- the nodes of a written block or policy
    pub block_reads : (within levels : ℕ) (entered : List (List ℕ)) (kind : GroupForm) (nodes : List Node) (own : List Override) (inner : List Statement) (count : ℕ)
        → count ≤ within → MayAct kind own → SpellBlock site section levels entered nodes own inner count → Reads within (depth_at levels entered) kind nodes own inner count
    block_reads within levels entered kind _ _ _ _ enough may (nothing_more _ _) = λ known fits.
        let left : known.room ≡ known.room - 0 = omega arith in
        none_read within (depth_at levels entered) kind known
        ∙ ap (λ o. Ok (members o known.statements known.room)) (sym (append-nil known.overrides))
        ∙ ap (λ s. Ok (members (known.overrides ++ []) s known.room)) (sym (append-nil known.statements))
        ∙ ap (λ r. Ok (members (known.overrides ++ []) (known.statements ++ []) r)) left
    block_reads within levels entered kind _ _ _ _ enough may (calls _ _ node nodes called own inner count spelled more) =
        call_reads within (depth_at levels entered) kind node nodes called own inner count spelled
        (block_reads within levels entered kind nodes own inner count (omega (arith, enough)) may more)
    block_reads within levels entered kind _ _ _ _ enough may (returns _ _ node nodes own inner count spelled more) = λ known fits.
        behind_statement within (depth_at levels entered) kind node nodes (return_from node) 1 own inner count known
        (stated within (depth_at levels entered) kind known node (Some (record { statement = return_from node; room = known.room - 1 })) (word_plain node (codes "return") spelled)
        (word_by site section (inner_of within) (depth_at levels entered) known.room node (codes "return") spelled (return_free site section node spelled) ∙ returned known.room node.place (omega (arith, fits))))
        (block_reads within levels entered kind nodes own inner count (omega (arith, enough)) may more) fits
    block_reads within levels entered kind _ _ _ _ enough (inr none) (acts _ _ node nodes left operator right one own inner count spelled given more) = none_first one own none
    block_reads within levels entered kind _ _ _ _ enough (inl may) (acts _ _ node nodes left operator right one own inner count spelled given more) = λ known fits.
        let next = members (known.overrides ++ one ∷ []) known.statements known.room in
        let same : (known.overrides ++ one ∷ []) ++ own ≡ known.overrides ++ one ∷ own = simp append_assoc in
        one_read within (depth_at levels entered) kind known next node nodes (acted within (depth_at levels entered) kind known node left operator right one may spelled given)
        ∙ block_reads within levels entered kind nodes own inner count enough (inl may) more next fits
        ∙ ap (λ o. Ok (members o (known.statements ++ inner) (known.room - count))) same
    block_reads within _ entered kind _ _ _ _ enough may (nests levels _ node nodes inside word name body actions within_it deep own inner count begun_by spelled nested more) = λ known fits.
        behind_statement within (depth_at (suc levels) entered) kind node nodes (group_from node inside actions within_it) (suc deep) own inner count known
        (stated within (depth_at (suc levels) entered) kind known node (Some (record { statement = group_from node inside actions within_it; room = known.room - 1 - deep })) (block_plain node inside word name body begun_by spelled)
        (group_read within levels known.room entered node inside word name body actions within_it deep (omega (arith, enough)) begun_by spelled
        (block_reads (within - 1) levels entered inside body actions within_it deep (omega (arith, enough)) (inl (acting inside word begun_by)) nested) (omega (arith, fits)))
        ∙ ap (λ r. Ok (members known.overrides (known.statements ++ group_from node inside actions within_it ∷ []) r)) (omega (arith, fits)))
        (block_reads within (suc levels) entered kind nodes own inner count (omega (arith, enough)) may more) fits
    block_reads within levels entered kind _ _ _ _ enough may (lays_out _ _ node nodes word policy within_it deep own inner count called fresh nested more) = λ known fits.
        behind_statement within (depth_at levels entered) kind node nodes (group_from node form.Policy [] within_it) (suc deep) own inner count known
        (stated within (depth_at levels entered) kind known node (Some (record { statement = group_from node form.Policy [] within_it; room = known.room - 1 - deep })) (word_plain node word called.spelled)
        (policy_read within levels known.room entered node word policy within_it deep (omega (arith, enough)) called fresh
        (block_reads (within - 1) levels (kind_of policy ∷ entered) form.Policy (body_of policy) [] within_it deep (omega (arith, enough)) (inr refl) nested) (omega (arith, fits)))
        ∙ ap (λ r. Ok (members known.overrides (known.statements ++ group_from node form.Policy [] within_it ∷ []) r)) (omega (arith, fits)))
        (block_reads within levels entered kind nodes own inner count (omega (arith, enough)) may more) fits
    block_reads within _ entered kind _ _ _ _ enough may (chooses levels _ node later nodes tree body within_it deep arms more own inner count is nested further behind) = λ known fits.
        let first = choosing known.overrides known.statements node.place (arm_from (Some tree) within_it ∷ []) (known.room - 1 - deep) in
        let whole = choosing known.overrides known.statements node.place (arm_from (Some tree) within_it ∷ arms) (known.room - 1 - deep - more) in
        let one = if_from node (arm_from (Some tree) within_it ∷ arms) in
        let same : (known.statements ++ one ∷ []) ++ inner ≡ known.statements ++ one ∷ inner = simp append_assoc in
        let left : known.room - 1 - deep - more - count ≡ known.room - (suc deep + more + count) = omega (arith, fits) in
        one_read within (depth_at (suc levels) entered) kind known first node (later ++ nodes)
        (stated within (depth_at (suc levels) entered) kind known node (Some (record { statement = if_from node (arm_from (Some tree) within_it ∷ []); room = known.room - 1 - deep }))
        (block_no_pair node (codes "if") (Some is.name) body is.spelled, first_arm node (Some is.name) body is.spelled)
        (arm_block within levels known.room entered node arm.If (codes "if") (Some is.name) (Some tree) body within_it deep (omega (arith, enough)) by_if is.spelled (if_asks site node tree body is)
        (block_reads (within - 1) levels entered form.Policy body [] within_it deep (omega (arith, enough)) (inr refl) nested) (omega (arith, fits))))
        ∙ arms_read (reader within (depth_at (suc levels) entered) kind) within levels entered (reader_adds within (depth_at (suc levels) entered) kind) later nodes arms more (omega (arith, enough)) further
        known.overrides known.statements node.place [] tree within_it (known.room - 1 - deep) (omega (arith, fits))
        ∙ block_reads within (suc levels) entered kind nodes own inner count (omega (arith, enough)) may behind whole (omega (arith, fits))
        ∙ ap (λ s. Ok (members (known.overrides ++ own) s (known.room - 1 - deep - more - count))) same
        ∙ ap (λ r. Ok (members (known.overrides ++ own) (known.statements ++ one ∷ inner) r)) left

    -- the arms behind an `if`, by whatever adds them
    arms_read : (step : Step) (within levels : ℕ) (entered : List (List ℕ)) → Adds step within (depth_at (suc levels) entered) → (later rest : List Node) (arms : List Arm) (more : ℕ) → more ≤ within → SpellArms site section levels entered later arms more
        → (own : List Override) (front : List Statement) (place : Place) (before : List Arm) (tree : Tree) (inner : List Statement) (room : ℕ) → more ≤ room
        → after_each step (choosing own front place (before ++ arm_from (Some tree) inner ∷ []) room) (later ++ rest) ≡ after_each step (choosing own front place ((before ++ arm_from (Some tree) inner ∷ []) ++ arms) (room - more)) rest
    arms_read step within levels entered adds _ rest _ _ enough (no_more_arms _ _) own front place before tree inner room fits =
        let so_far = before ++ arm_from (Some tree) inner ∷ [] in
        let left : room ≡ room - 0 = omega arith in
        ap (λ (arms : List Arm). after_each step (choosing own front place arms room) rest) (sym (append-nil so_far))
        ∙ ap (λ n. after_each step (choosing own front place (so_far ++ []) n) rest) left
    arms_read step within levels entered adds _ rest _ _ enough (passes _ _ node nodes name arms more spelled free none further) own front place before tree inner room fits =
        let known = choosing own front place (before ++ arm_from (Some tree) inner ∷ []) room in
        step_read step known known node (nodes ++ rest)
        (adds known node None (word_no_pair node (45 ∷ name) spelled) (not_later_stands (is_last_open known.statements) node (word_not_later node (45 ∷ name) spelled))
        (absent_by site section (inner_of within) (depth_at (suc levels) entered) room node name spelled free none))
        ∙ arms_read step within levels entered adds nodes rest arms more enough further own front place before tree inner room fits
    arms_read step within levels entered adds _ rest _ _ enough (or_if _ _ node nodes asks body within_it deep arms more is nested further) own front place before tree inner room fits =
        let so_far = before ++ arm_from (Some tree) inner ∷ [] in
        let one = arm_from (Some asks) within_it in
        let left : room - 1 - deep - more ≡ room - (suc deep + more) = omega (arith, fits) in
        step_read step (choosing own front place so_far room) (choosing own front place (so_far ++ one ∷ []) (room - 1 - deep)) node (nodes ++ rest)
        (later_read step within (depth_at (suc levels) entered) adds own front place before tree inner room node (one ∷ []) (room - 1 - deep)
        (block_no_pair node (codes "elsif") (Some is.name) body is.spelled) (elsif_later node (Some is.name) body is.spelled)
        (arm_block within levels room entered node arm.Elsif (codes "elsif") (Some is.name) (Some asks) body within_it deep (omega (arith, enough)) by_elsif is.spelled (elsif_asks site node asks body is)
        (block_reads (within - 1) levels entered form.Policy body [] within_it deep (omega (arith, enough)) (inr refl) nested) (omega (arith, fits))))
        ∙ arms_read step within levels entered adds nodes rest arms more (omega (arith, enough)) further own front place so_far asks within_it (room - 1 - deep) (omega (arith, fits))
        ∙ ap (λ (all : List Arm). after_each step (choosing own front place all (room - 1 - deep - more)) rest) (append_assoc so_far (one ∷ []) arms)
        ∙ ap (λ n. after_each step (choosing own front place (so_far ++ one ∷ arms) n) rest) left
    arms_read step within levels entered adds _ rest _ _ enough (otherwise _ _ node name body within_it deep e nested) own front place before tree inner room fits =
        let so_far = before ++ arm_from (Some tree) inner ∷ [] in
        let one = arm_from None within_it in
        let left : room - 1 - deep ≡ room - suc deep = omega (arith, fits) in
        step_read step (choosing own front place so_far room) (choosing own front place (so_far ++ one ∷ []) (room - 1 - deep)) node rest
        (later_read step within (depth_at (suc levels) entered) adds own front place before tree inner room node (one ∷ []) (room - 1 - deep)
        (block_no_pair node (codes "else") name body e) (else_later node name body e)
        (arm_block within levels room entered node arm.Else (codes "else") name None body within_it deep (omega (arith, enough)) by_else e (else_asks site.dict node)
        (block_reads (within - 1) levels entered form.Policy body [] within_it deep (omega (arith, enough)) (inr refl) nested) (omega (arith, fits))))
        ∙ ap (λ n. after_each step (choosing own front place (so_far ++ one ∷ []) n) rest) left

  -- a written `if` directly in a section
  pub if_written : (room : ℕ) (node : Node) (later : List Node) (tree : Tree) (body : List Node) (inner : List Statement) (count : ℕ) (arms : List Arm) (more : ℕ)
      → IsAsking site node (codes "if") tree body → SpellBlock site section 31 [] body [] inner count → SpellArms site section 31 [] later arms more → count + more < room → room ≤ 65536
      → statements_of site section room (node ∷ later) ≡ Ok (if_from node (arm_from (Some tree) inner ∷ arms) ∷ [])
  if_written room node later tree body inner count arms more is nested further fits most =
      let step = with_statement site section in
      let one = arm_from (Some tree) inner in
      let first = choosing [] [] node.place (one ∷ []) (room - 1 - count) in
      let later_arm = first_arm node (Some is.name) body is.spelled in
      ap (λ r. r >>= λ (m : Members). Ok m.statements)
      (step_read step (begun [] room) first node later
      (section_adds (begun [] room) node (Some (record { statement = if_from node (one ∷ []); room = room - 1 - count })) (block_no_pair node (codes "if") (Some is.name) body is.spelled)
      (not_later_stands (is_last_open []) node later_arm)
      (arm_block most_statements 31 room [] node arm.If (codes "if") (Some is.name) (Some tree) body inner count (omega arith) by_if is.spelled (if_asks site node tree body is)
      (block_reads (most_statements - 1) 31 [] form.Policy body [] inner count (omega (arith, fits, most)) (inr refl) nested) (omega (arith, fits)))
      ∙ ap (λ (m : Members). Ok m) (also_plain (begun [] room) node (Some (record { statement = if_from node (one ∷ []); room = room - 1 - count })) later_arm))
      ∙ ap (after_each step first) (sym (append-nil later))
      ∙ arms_read step most_statements 31 [] section_adds later [] arms more (omega (arith, fits, most)) further [] [] node.place [] tree inner (room - 1 - count) (omega (arith, fits))
      ∙ none_left step (choosing [] [] node.place (one ∷ arms) (room - 1 - count - more)))

  -- a written block
  pub group_written : (room : ℕ) (node : Node) (kind : GroupForm) (word : List ℕ) (name : Option Word) (body : List Node) (own : List Override) (inner : List Statement) (count : ℕ)
      → Begins kind word → IsBlock node word name body → SpellBlock site section 31 [] body own inner count → count < room → room ≤ 65536
      → statement_at site section room node ≡ Ok (Some (record { statement = group_from node kind own inner; room = room - 1 - count }))
  group_written room node kind word name body own inner count begun_by e spelled fits most =
      group_read most_statements 31 room [] node kind word name body own inner count (omega arith) begun_by e
      (block_reads (most_statements - 1) 31 [] kind body own inner count (omega (arith, fits, most)) (inl (acting kind word begun_by)) spelled) fits

  -- a written call of a policy
  pub policy_written : (room : ℕ) (node : Node) (word : List ℕ) (policy : Node) (inner : List Statement) (count : ℕ)
      → CallsPolicy site section node word policy → SpellBlock site section 32 (kind_of policy ∷ []) (body_of policy) [] inner count → count < room → room ≤ 65536
      → statement_at site section room node ≡ Ok (Some (record { statement = group_from node form.Policy [] inner; room = room - 1 - count }))
  policy_written room node word policy inner count called spelled fits most =
      policy_read most_statements 32 room [] node word policy inner count (omega arith) called refl
      (block_reads (most_statements - 1) 32 (kind_of policy ∷ []) form.Policy (body_of policy) [] inner count (omega (arith, fits, most)) (inr refl) spelled) fits

  first_wrong : (within : ℕ) (depth : Depth) (kind : GroupForm) (known : Members) (node : Node) (nodes : List Node) (wrong : TreeFault) → IsPlain node
      → statement_in within depth known.room node ≡ Err wrong → read_from within depth kind known (node ∷ nodes) ≡ Err wrong
  unfolding after_each with_member
  first_wrong within depth kind known node nodes wrong plain e =
      rw (no_action (has_own_actions kind) (is_pair node) plain.0, not_later_stands (is_last_open known.statements) node plain.1, e) refl

  opened_wrong : (within room : ℕ) (depth : Depth) (place : Place) (kind : GroupForm) (node : Node) (nodes : List Node) (wrong : TreeFault) → 0 < within → IsPlain node
      → statement_in (within - 1) depth room node ≡ Err wrong → inner_of within depth place kind [] room (node ∷ nodes) ≡ Err wrong
  opened_wrong within room depth place kind node nodes wrong some plain e =
      some_within site section within depth place kind [] room (node ∷ nodes) some ∙ first_wrong (within - 1) depth kind (begun [] room) node nodes wrong plain e

  around_plain : (levels : ℕ) (node last : Node) → Around levels node last → IsPlain node
  around_plain _ _ _ (alone last kind word name body begun_by e) = block_plain last kind word name body begun_by e
  around_plain _ _ _ (around levels node inner last kind word name rest begun_by e deeper) = block_plain node kind word name (inner ∷ rest) begun_by e

  group_deep : (opener : Opener) (depth : Depth) (room : ℕ) (place : Place) (kind : GroupForm) (body : List Node) → depth.levels ≡ 0
      → group_at opener depth room place kind body ≡ Err (fault.TooDeep place)
  unfolding group_at
  group_deep opener depth room place kind body deep = rw (ap (λ n. one_deeper n place) deep ∙ no_level place) refl

  group_wrong : (opener : Opener) (depth : Depth) (levels room : ℕ) (place : Place) (kind : GroupForm) (body : List Node) (wrong : TreeFault) → depth.levels ≡ suc levels → 0 < room
      → opener (in_a_block depth) place kind [] (room - 1) body ≡ Err wrong → group_at opener depth room place kind body ≡ Err wrong
  unfolding group_at
  group_wrong opener depth levels room place kind body wrong deep some e = rw (ap (λ n. one_deeper n place) deep ∙ opens levels place, counted room place some, e) refl

  -- the last of blocks within one another, where no more may be opened
  pub last_too_deep : (within levels room : ℕ) (node last : Node) → Around levels node last → levels ≤ room → levels ≤ within
      → statement_in within (depth_at levels []) room node ≡ Err (fault.TooDeep last.place)
  last_too_deep within _ room _ _ (alone last kind word name body begun_by e) fits enough =
      block_by within (depth_at 0 []) room last kind word name body begun_by e
      ∙ ap (λ r. r >>= λ (c : Counted). Ok (Some c)) (group_deep (inner_of within) (depth_at 0 []) room last.place kind body refl)
  last_too_deep within _ room _ _ (around levels node inner last kind word name rest begun_by e deeper) fits enough =
      let less : suc levels - 1 ≡ levels = omega arith in
      block_by within (depth_at (suc levels) []) room node kind word name (inner ∷ rest) begun_by e
      ∙ ap (λ r. r >>= λ (c : Counted). Ok (Some c))
      (group_wrong (inner_of within) (depth_at (suc levels) []) levels room node.place kind (inner ∷ rest) (fault.TooDeep last.place) refl (omega (arith, fits))
      (ap (λ n. inner_of within (depth_at n []) node.place kind [] (room - 1) (inner ∷ rest)) less
      ∙ opened_wrong within (room - 1) (depth_at levels []) node.place kind inner rest (fault.TooDeep last.place) (omega (arith, enough)) (around_plain levels inner last deeper)
      (last_too_deep (within - 1) levels (room - 1) inner last deeper (omega (arith, fits)) (omega (arith, enough)))))

  policy_loop : (opener : Opener) (depth : Depth) (room : ℕ) (node policy : Node) → is_open depth.entered policy ≡ true
      → policy_call opener depth room node policy ≡ Err (fault.PolicyLoop node.place)
  unfolding policy_call
  policy_loop opener depth room node policy e = rw (is_loop depth.entered node.place policy e) refl

  policy_wrong : (opener : Opener) (depth : Depth) (room : ℕ) (node : Node) (word : List ℕ) (policy : Node) (wrong : TreeFault) → IsWord node word → is_open depth.entered policy ≡ false → 0 < room
      → opener (in_a_policy depth (kind_of policy)) node.place form.Policy [] (room - 1) (body_of policy) ≡ Err wrong → policy_call opener depth room node policy ≡ Err wrong
  unfolding policy_call after_each
  policy_wrong opener depth room node word policy wrong spelled fresh some e =
      rw (is_fresh depth.entered node.place policy fresh, no_braces node word depth.levels spelled, counted room node.place some, no_body node word spelled, e) refl

  back_plain : (entered : List (List ℕ)) (before : ℕ) (node last : Node) → LeadsBack site section entered before node last → IsPlain node
  back_plain _ _ _ _ (calls_itself entered last word policy called e) = word_plain last word called.spelled
  back_plain _ _ _ _ (leads entered before node inner last word policy rest called fresh body more) = word_plain node word called.spelled

  -- a policy that calls itself
  pub leads_back : (within levels room : ℕ) (entered : List (List ℕ)) (before : ℕ) (node last : Node) → LeadsBack site section entered before node last → before ≤ room → before ≤ within
      → statement_in within (depth_at levels entered) room node ≡ Err (fault.PolicyLoop last.place)
  leads_back within levels room _ _ _ _ (calls_itself entered last word policy called e) fits enough =
      policy_by within (depth_at levels entered) room last word policy called
      ∙ ap (λ r. r >>= λ (c : Counted). Ok (Some c)) (policy_loop (inner_of within) (depth_at levels entered) room last policy e)
  leads_back within levels room _ _ _ _ (leads entered before node inner last word policy rest called fresh body more) fits enough =
      policy_by within (depth_at levels entered) room node word policy called
      ∙ ap (λ r. r >>= λ (c : Counted). Ok (Some c))
      (policy_wrong (inner_of within) (depth_at levels entered) room node word policy (fault.PolicyLoop last.place) called.spelled fresh (omega (arith, fits))
      (ap (inner_of within (depth_at levels (kind_of policy ∷ entered)) node.place form.Policy [] (room - 1)) body
      ∙ opened_wrong within (room - 1) (depth_at levels (kind_of policy ∷ entered)) node.place form.Policy inner rest (fault.PolicyLoop last.place) (omega (arith, enough))
      (back_plain (kind_of policy ∷ entered) before inner last more)
      (leads_back (within - 1) levels (room - 1) (kind_of policy ∷ entered) before inner last more (omega (arith, fits)) (omega (arith, enough)))))
