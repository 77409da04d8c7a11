-- Each call that is read is of an instance that is there and has a method for its section.
use Rattle.std.proofs.Common.{codes, ◌≡◌, ℕ, zero, suc, ◌-◌, Bool, true, false, not, ◌&&◌, ◌||◌, cond, if◌then◌else◌, List, [], ◌∷◌, ◌++◌, Option, Some, None, is_some, map, Result, Ok, Err, sym, ap, subst, ◌∙◌}
use Rattle.std.specs.List.{AllByRecursion, list_all}
use Rattle.std.specs.Str.{str_eq_ignore_ascii_case}
use Rattle.rad_outside.specs.declared.files.Place.{Place}
use Rattle.rad_conf.specs.declared.tree.Word.{Word}
use Rattle.rad_conf.specs.declared.tree.Node.{Node}
use Rattle.rad_conf.specs.declared.tree.Item.{out-Item}
use Rattle.rad_conf.specs.Tree.{Layer}
use Rattle.rad_conf.specs.declared.tree.Item.TheOpen as level
use Rattle.rad_words.specs.declared.sections.Section.{Section}
use Rattle.rad_words.specs.declared.sections.Section.TheVariants as which
use Rattle.rad_text.specs.Read.{◌>>=◌}
use Rattle.unlang_tree.specs.declared.fault.TreeFault.{TreeFault}
use Rattle.unlang_tree.specs.declared.fault.TreeFault.TheVariants as fault
use Rattle.unlang_tree.specs.declared.statement.Call.{Call}
use Rattle.unlang_tree.specs.declared.statement.Statement.{Statement}
use Rattle.unlang_tree.specs.declared.statement.StatementKind.{StatementKind, out-StatementKind, roll-StatementKind, roll-out-StatementKind}
use Rattle.unlang_tree.specs.declared.statement.StatementKind.TheVariants as kinds
use Rattle.unlang_tree.specs.declared.statement.StatementKind.TheVariants.{rolls-If}
use Rattle.unlang_tree.specs.declared.statement.StatementKind.TheOpen.{StatementKind-F}
use Rattle.unlang_tree.specs.declared.statement.StatementKind.TheOpen as opened
use Rattle.unlang_tree.specs.declared.statement.Group.{Group}
use Rattle.unlang_tree.specs.declared.statement.Arm.{Arm, out-Arm}
use Rattle.unlang_tree.specs.declared.words.ArmWord.{ArmWord}
use Rattle.unlang_cond.specs.Trees.{Tree}
use Rattle.unlang_tree.specs.declared.statement.GroupForm.{GroupForm}
use Rattle.unlang_tree.specs.declared.statement.GroupForm.TheVariants as form
use Rattle.unlang_tree.specs.declared.statement.Override.{Override}
use Rattle.unlang_tree.specs.declared.update.Line.{Line}
use Rattle.unlang_tree.specs.declared.statements.Counted.{Counted}
use Rattle.unlang_tree.specs.declared.groups.Members.{Members}
use Rattle.unlang_tree.specs.declared.policies.Subsection.{Subsection}
use Rattle.unlang_tree.specs.declared.policies.SectionTree.{SectionTree}
use Rattle.unlang_tree.specs.declared.policies.ServerTree.{ServerTree}
use Rattle.unlang_tree.specs.declared.subsections.Parts.{Parts}
use Rattle.unlang_tree.specs.declared.servers.Known.{Known}
use Rattle.unlang_tree.specs.Instances.{number_of}
use Rattle.unlang_tree.specs.Sites.{Site}
use Rattle.unlang_tree.specs.Readings.{one_more, one_deeper, after_each, most_statements}
use Rattle.unlang_tree.specs.Words.{is_one_of, is_return, later_words, later_blocks}
use Rattle.unlang_tree.specs.Calls.{kind_of, body_of, call_of, called_name, is_unwritten, call_at, not_open}
use Rattle.unlang_tree.specs.Arms.{arm_of, condition_at, is_last_open, not_stray, is_later_arm, arms_of, gone_on, with_last, joined_by}
use Rattle.unlang_tree.specs.Actions.{with_override, overrides_of}
use Rattle.unlang_tree.specs.Updates.{update_at}
use Rattle.unlang_tree.specs.Statements.{with_room, one_statement, counted_call, word_at, is_pair, with_actions, call_block_at, update_statement}
use Rattle.unlang_tree.specs.PolicyCalls.{policy_called, braces_at}
use Rattle.unlang_tree.specs.Depths.{Depth, at_the_top, in_a_block, in_a_policy}
use Rattle.unlang_tree.specs.Groups.{Opener, plain_block, plain_statement, group_block, group_of, group_at, if_of, arm_at, policy_call, arm_or_plain, block_or_plain, called_or_not, statement_by, and_also, with_own_action, has_own_actions, with_member, begun, opened_at, statement_at, with_statement, members_of}
use Rattle.unlang_tree.specs.Sections.{subsection_block, with_subsection, own_name, with_call, with_run, with_written, with_one, with_part, parts_of, section_block, with_section, with_item, server_of}
use Rattle.unlang_tree.specs.Policies.{server_block, with_server, servers_of}
use Rattle.unlang_tree.specs.EachCall.{joined, calls_in_kind, calls_in, calls_of, EachCall, EachCallWithin, EachCallIn, EachCallOfSections, EachCallOf, IsMet}
use Rattle.unlang_tree.proofs.CallsWithin.{calls_by_kind, calls_of_call, calls_of_return, calls_of_update, calls_of_made, calls_of_if, calls_of_one_arm}
use Rattle.unlang_tree.proofs.EachWider.{each_added}
use Rattle.unlang_tree.proofs.CallLemmas.{numbered_met}
use Rattle.unlang_tree.proofs.Binds.{ok_same, err_ok, bind_ok, past, either, kept, all_both, all_apart}

module _ (site : Site) where
  call_met : (section : Section) (place : Place) (name : List ℕ) (call : Call) → call_of site.instances section place name ≡ Ok call → IsMet site.instances section call
  unfolding call_of
  call_met section place name call e =
      numbered_met site.instances section place name (number_of site.instances name) call e

  -- the calls of a call that may not be written
  abbrev IsMetIf : Section → Option Call → Type 0
  IsMetIf section None = Unit {0}
  IsMetIf section (Some call) = IsMet site.instances section call

  some_met : (section : Section) (r : Result Call TreeFault) (call : Option Call) → ((one : Call) → r ≡ Ok one → IsMet site.instances section one)
      → (r >>= λ one. Ok (Some one)) ≡ Ok call → IsMetIf section call
  some_met section r call met e =
      let one = bind_ok r (λ c. Ok (Some c)) call e in
      subst (IsMetIf section) (ok_same (Some one.0) call one.1.1) (met one.0 one.1.0)

  split_met : (section : Section) (b : Bool) (r : Result (Option Call) TreeFault) (call : Option Call) → (r ≡ Ok call → IsMetIf section call)
      → cond b (Ok None) r ≡ Ok call → IsMetIf section call
  split_met section true r call met e = subst (IsMetIf section) (ok_same None call e) tt
  split_met section false r call met e = met e

  word_call_met : (section : Section) (place : Place) (word : List ℕ) (call : Option Call) → call_at site.instances section place word ≡ Ok call → IsMetIf section call
  unfolding call_at
  word_call_met section place word call e =
      split_met section (is_unwritten site.instances word)
      (call_of site.instances section place (called_name word) >>= λ one. Ok (Some one)) call
      (some_met section (call_of site.instances section place (called_name word)) call (call_met section place (called_name word))) e

  -- the calls of a statement that may not be written
  abbrev AreMetIf : Section → Option Counted → Type 0
  AreMetIf section None = Unit {0}
  AreMetIf section (Some one) = AllByRecursion (IsMet site.instances section) (calls_in one.statement)

  abbrev KindMet : Section → StatementKind → Type 0
  KindMet section kind = AllByRecursion (IsMet site.instances section) (calls_in_kind kind)

  kind_met : (section : Section) (left : ℕ) (place : Place) (kind : StatementKind) → KindMet section kind → AreMetIf section (Some (with_room left place kind))
  kind_met section left place kind met =
      subst (AllByRecursion (IsMet site.instances section)) (sym (calls_by_kind (record { place = place; kind = kind }))) met

  call_kind_met : (section : Section) (call : Call) → IsMet site.instances section call → KindMet section (kinds.Call call)
  call_kind_met section call met = subst (AllByRecursion (IsMet site.instances section)) (sym (calls_of_call call)) (met, tt)

  stated_met : (section : Section) (room : ℕ) (place : Place) (kind : StatementKind) (statement : Option Counted) → KindMet section kind
      → one_statement room place kind ≡ Ok statement → AreMetIf section statement
  unfolding one_statement
  stated_met section room place kind statement met e =
      let last = bind_ok (one_more room place) (λ done. Ok (Some (with_room (room - 1) place kind))) statement e in
      subst (AreMetIf section) (ok_same (Some (with_room (room - 1) place kind)) statement last.1.1) (kind_met section (room - 1) place kind met)

  counted_met : (section : Section) (room : ℕ) (place : Place) (call : Option Call) (statement : Option Counted) → IsMetIf section call
      → counted_call room place call ≡ Ok statement → AreMetIf section statement
  unfolding counted_call
  counted_met section room place None statement met e = subst (AreMetIf section) (ok_same None statement e) tt
  counted_met section room place (Some call) statement met e = stated_met section room place (kinds.Call call) statement (call_kind_met section call met) e

  word_met : (section : Section) (room : ℕ) (place : Place) (word : List ℕ) (statement : Option Counted)
      → word_at site section room place word ≡ Ok statement → AreMetIf section statement
  unfolding word_at
  word_met section room place word statement e =
      let called : Result (Option Counted) TreeFault = call_at site.instances section place word >>= counted_call room place in
      either (is_return word) (one_statement room place kinds.Return) (if is_one_of later_words word then Err (fault.NotBuilt place) else called) statement
      (stated_met section room place kinds.Return statement (subst (AllByRecursion (IsMet site.instances section)) (sym calls_of_return) tt))
      (λ behind.
      let rest = past (is_one_of later_words word) (fault.NotBuilt place) called statement behind in
      let one = bind_ok (call_at site.instances section place word) (counted_call room place) statement rest in
      counted_met section room place one.0 statement (word_call_met section place word one.0 one.1.0) one.1.1)
      e

  abbrev acting : Call → List Override → StatementKind
  acting call overrides = kinds.Call (record { instance = call.instance; overrides = overrides })

  actions_met : (section : Section) (levels room : ℕ) (place : Place) (pairs : List Node) (call : Option Call) (statement : Option Counted) → IsMetIf section call
      → with_actions levels room place pairs call ≡ Ok statement → AreMetIf section statement
  unfolding with_actions
  actions_met section levels room place pairs None statement met e = subst (AreMetIf section) (ok_same None statement e) tt
  actions_met section levels room place pairs (Some call) statement met e =
      let last : List Override → Result (Option Counted) TreeFault = λ overrides. Ok (Some (with_room (room - 1) place (acting call overrides))) in
      let opened = bind_ok (one_deeper levels place) (λ opened. one_more room place >>= λ done. overrides_of pairs >>= last) statement e in
      let counted = bind_ok (one_more room place) (λ done. overrides_of pairs >>= last) statement opened.1.1 in
      let given = bind_ok (overrides_of pairs) last statement counted.1.1 in
      subst (AreMetIf section) (ok_same (Some (with_room (room - 1) place (acting call given.0))) statement given.1.1)
      (kind_met section (room - 1) place (acting call given.0) (call_kind_met section (record { instance = call.instance; overrides = given.0 }) met))

  call_block_met : (section : Section) (levels room : ℕ) (place : Place) (kind : List ℕ) (name : Option Word) (body : List Node) (statement : Option Counted)
      → call_block_at site section levels room place kind name body ≡ Ok statement → AreMetIf section statement
  unfolding call_block_at
  call_block_met section levels room place kind name body statement e =
      let rest = past (is_some name || not (list_all is_pair body)) (fault.UnknownKeyword place) (call_at site.instances section place kind >>= λ call. with_actions levels room place body call) statement e in
      let one = bind_ok (call_at site.instances section place kind) (λ call. with_actions levels room place body call) statement rest in
      actions_met section levels room place body one.0 statement (word_call_met section place kind one.0 one.1.0) one.1.1

  update_met : (section : Section) (levels room : ℕ) (place : Place) (name : Option Word) (body : List Node) (statement : Option Counted)
      → update_statement site levels room place name body ≡ Ok statement → AreMetIf section statement
  unfolding update_statement
  update_met section levels room place name body statement e =
      let last : List Line → Result (Option Counted) TreeFault = λ lines. Ok (Some (with_room (room - 1) place (kinds.Update lines))) in
      let one = bind_ok (update_at site.dict levels room place name body) last statement e in
      subst (AreMetIf section) (ok_same (Some (with_room (room - 1) place (kinds.Update one.0))) statement one.1.1)
      (kind_met section (room - 1) place (kinds.Update one.0) (subst (AllByRecursion (IsMet site.instances section)) (sym (calls_of_update one.0)) tt))

  plain_block_met : (section : Section) (levels room : ℕ) (place : Place) (kind : List ℕ) (name : Option Word) (body : List Node) (statement : Option Counted)
      → plain_block site section levels room place kind name body ≡ Ok statement → AreMetIf section statement
  unfolding plain_block
  plain_block_met section levels room place kind name body statement e =
      let called : Result (Option Counted) TreeFault = call_block_at site section levels room place kind name body in
      either (str_eq_ignore_ascii_case kind (codes "update")) (update_statement site levels room place name body)
      (if is_one_of later_blocks kind then Err (fault.NotBuilt place) else called) statement
      (update_met section levels room place name body statement)
      (λ rest. call_block_met section levels room place kind name body statement (past (is_one_of later_blocks kind) (fault.NotBuilt place) called statement rest))
      e

  -- a node by its item, as `out-Item` opens it
  abbrev item_by : Section → ℕ → ℕ → Node → Layer → Result (Option Counted) TreeFault
  item_by section levels room node item = elim item [
    | level.Pair left operator right ↦ Err (fault.BadAction node.place)
    | level.Name word ↦ word_at site section room node.place word.text
    | level.Block kind name body ↦ plain_block site section levels room node.place kind.text name body
  ]

  item_met : (section : Section) (levels room : ℕ) (node : Node) (item : Layer) (statement : Option Counted)
      → item_by section levels room node item ≡ Ok statement → AreMetIf section statement
  item_met section levels room node (level.Pair left operator right) statement e = err_ok statement (fault.BadAction node.place) e
  item_met section levels room node (level.Name word) statement e = word_met section room node.place word.text statement e
  item_met section levels room node (level.Block kind name body) statement e = plain_block_met section levels room node.place kind.text name body statement e

  plain_met : (section : Section) (levels room : ℕ) (node : Node) (statement : Option Counted)
      → plain_statement site section levels room node ≡ Ok statement → AreMetIf section statement
  unfolding plain_statement
  plain_met section levels room node statement e = item_met section levels room node (out-Item node.item) statement e

  abbrev AreMet : Section → List Statement → Type 0
  AreMet section statements = EachCall (IsMet site.instances) section statements

  abbrev MembersMet : Section → Members → Type 0
  MembersMet section members = AreMet section members.statements

  -- a reader of what stands within statements whose calls are met
  abbrev OpenerMet : Section → Opener → Type 0
  OpenerMet section opener = (depth : Depth) (place : Place) (form : GroupForm) (own : List Override) (room : ℕ) (body : List Node) (members : Members)
      → opener depth place form own room body ≡ Ok members → MembersMet section members

  made_met : (section : Section) (place : Place) (form : GroupForm) (members : Members) → MembersMet section members
      → AreMetIf section (Some (with_room members.room place (group_of form members)))
  made_met section place form members met =
      kind_met section members.room place (group_of form members)
      (subst (AllByRecursion (IsMet site.instances section)) (sym (calls_of_made form members.overrides members.statements)) met)

  group_met : (section : Section) (opener : Opener) (depth : Depth) (room : ℕ) (place : Place) (form : GroupForm) (body : List Node) (one : Counted) → OpenerMet section opener
      → group_at opener depth room place form body ≡ Ok one → AreMetIf section (Some one)
  unfolding group_at
  group_met section opener depth room place form body one met e =
      let last : Members → Result Counted TreeFault = λ members. Ok (with_room members.room place (group_of form members)) in
      let read = opener (in_a_block depth) place form [] (room - 1) body in
      let deeper = bind_ok (one_deeper depth.levels place) (λ deeper. one_more room place >>= λ done. read >>= last) one e in
      let counted = bind_ok (one_more room place) (λ done. read >>= last) one deeper.1.1 in
      let members = bind_ok read last one counted.1.1 in
      subst (λ (c : Counted). AreMetIf section (Some c)) (ok_same (with_room members.0.room place (group_of form members.0)) one members.1.1)
      (made_met section place form members.0 (met (in_a_block depth) place form [] (room - 1) body members.0 members.1.0))

  policy_met : (section : Section) (opener : Opener) (depth : Depth) (room : ℕ) (node policy : Node) (one : Counted) → OpenerMet section opener
      → policy_call opener depth room node policy ≡ Ok one → AreMetIf section (Some one)
  unfolding policy_call
  policy_met section opener depth room node policy one met e =
      let place = node.place in
      let inner = in_a_policy depth (kind_of policy) in
      let last : Members → Result Counted TreeFault = λ members. Ok (with_room members.room place (group_of form.Policy members)) in
      let read : List Override → Result Counted TreeFault = λ own. opener inner place form.Policy own (room - 1) (body_of policy) >>= last in
      let fresh = bind_ok (not_open depth.entered place (kind_of policy)) (λ fresh. braces_at node depth.levels >>= λ braced. one_more room place >>= λ done. overrides_of (body_of node) >>= read) one e in
      let braced = bind_ok (braces_at node depth.levels) (λ braced. one_more room place >>= λ done. overrides_of (body_of node) >>= read) one fresh.1.1 in
      let counted = bind_ok (one_more room place) (λ done. overrides_of (body_of node) >>= read) one braced.1.1 in
      let own = bind_ok (overrides_of (body_of node)) read one counted.1.1 in
      let members = bind_ok (opener inner place form.Policy own.0 (room - 1) (body_of policy)) last one own.1.1 in
      subst (λ (c : Counted). AreMetIf section (Some c)) (ok_same (with_room members.0.room place (group_of form.Policy members.0)) one members.1.1)
      (made_met section place form.Policy members.0 (met inner place form.Policy own.0 (room - 1) (body_of policy) members.0 members.1.0))

  some_one_met : (section : Section) (read : Result Counted TreeFault) (statement : Option Counted) → ((one : Counted) → read ≡ Ok one → AreMetIf section (Some one))
      → (read >>= λ one. Ok (Some one)) ≡ Ok statement → AreMetIf section statement
  some_one_met section read statement met e =
      let one = bind_ok read (λ (one : Counted). Ok (Some one)) statement e in
      subst (AreMetIf section) (ok_same (Some one.0) statement one.1.1) (met one.0 one.1.0)

  arm_met : (section : Section) (opener : Opener) (depth : Depth) (room : ℕ) (word : ArmWord) (node : Node) (one : Counted) → OpenerMet section opener
      → arm_at opener site depth room word node ≡ Ok one → AreMetIf section (Some one)
  unfolding arm_at
  arm_met section opener depth room word node one met e =
      let last : Option Tree → Members → Result Counted TreeFault = λ condition members. Ok (with_room members.room node.place (if_of condition members.statements)) in
      let read = opener (in_a_block depth) node.place form.Policy [] (room - 1) (body_of node) in
      let asked = bind_ok (condition_at site.dict word node) (λ condition. one_deeper depth.levels node.place >>= λ deeper. one_more room node.place >>= λ done. read >>= last condition) one e in
      let deeper = bind_ok (one_deeper depth.levels node.place) (λ deeper. one_more room node.place >>= λ done. read >>= last asked.0) one asked.1.1 in
      let counted = bind_ok (one_more room node.place) (λ done. read >>= last asked.0) one deeper.1.1 in
      let members = bind_ok read (last asked.0) one counted.1.1 in
      subst (λ (c : Counted). AreMetIf section (Some c)) (ok_same (with_room members.0.room node.place (if_of asked.0 members.0.statements)) one members.1.1)
      (kind_met section members.0.room node.place (if_of asked.0 members.0.statements)
      (subst (AllByRecursion (IsMet site.instances section)) (sym (calls_of_one_arm asked.0 members.0.statements))
      (all_both (IsMet site.instances section) (calls_of members.0.statements) [] (met (in_a_block depth) node.place form.Policy [] (room - 1) (body_of node) members.0 members.1.0) tt)))

  arm_or_plain_met : (section : Section) (opener : Opener) (depth : Depth) (room : ℕ) (node : Node) (word : Option ArmWord) (statement : Option Counted) → OpenerMet section opener
      → arm_or_plain opener site section depth room node word ≡ Ok statement → AreMetIf section statement
  arm_or_plain_met section opener depth room node None statement met e = plain_met section depth.levels room node statement e
  arm_or_plain_met section opener depth room node (Some word) statement met e =
      some_one_met section (arm_at opener site depth room word node) statement
      (λ one read. arm_met section opener depth room word node one met read) e

  block_or_plain_met : (section : Section) (opener : Opener) (depth : Depth) (room : ℕ) (node : Node) (block : Option (GroupForm × List Node)) (statement : Option Counted) → OpenerMet section opener
      → block_or_plain opener site section depth room node block ≡ Ok statement → AreMetIf section statement
  block_or_plain_met section opener depth room node None statement met e = arm_or_plain_met section opener depth room node (arm_of node) statement met e
  block_or_plain_met section opener depth room node (Some block) statement met e =
      some_one_met section (group_at opener depth room node.place block.0 block.1) statement
      (λ one read. group_met section opener depth room node.place block.0 block.1 one met read) e

  called_or_not_met : (section : Section) (opener : Opener) (depth : Depth) (room : ℕ) (node : Node) (policy : Option Node) (statement : Option Counted) → OpenerMet section opener
      → called_or_not opener site section depth room node policy ≡ Ok statement → AreMetIf section statement
  called_or_not_met section opener depth room node None statement met e = block_or_plain_met section opener depth room node (group_block node) statement met e
  called_or_not_met section opener depth room node (Some policy) statement met e =
      some_one_met section (policy_call opener depth room node policy) statement (λ one read. policy_met section opener depth room node policy one met read) e

  within_met : (section : Section) (opener : Opener) (depth : Depth) (room : ℕ) (node : Node) (statement : Option Counted)
      → OpenerMet section opener → statement_by opener site section depth room node ≡ Ok statement → AreMetIf section statement
  unfolding statement_by
  within_met section opener depth room node statement met e =
      called_or_not_met section opener depth room node (policy_called site.root section node) statement met e

  -- the calls of arms
  abbrev calls_in_arms : List Arm → List Call
  calls_in_arms arms = joined (map (λ (arm : Arm). calls_of (out-Arm arm).statements) arms)

  abbrev Met : Section → List Call → Type 0
  Met section calls = AllByRecursion (IsMet site.instances section) calls

  arms_both : (section : Section) (arms more : List Arm) → Met section (calls_in_arms arms) → Met section (calls_in_arms more) → Met section (calls_in_arms (arms ++ more))
  arms_both section [] more left right = right
  arms_both section (arm ∷ arms) more left right =
      let parts = all_apart (IsMet site.instances section) (calls_of (out-Arm arm).statements) (calls_in_arms arms) left in
      all_both (IsMet site.instances section) (calls_of (out-Arm arm).statements) (calls_in_arms (arms ++ more)) parts.0 (arms_both section arms more parts.1 right)

  abbrev arms_in : StatementKind-F StatementKind Arm Group Statement → List Arm
  arms_in layer = elim layer [
    | opened.Call call ↦ []
    | opened.Group group ↦ []
    | opened.Return ↦ []
    | opened.Update lines ↦ []
    | opened.If arms ↦ arms
  ]

  layer_met : (section : Section) (layer : StatementKind-F StatementKind Arm Group Statement) → KindMet section (roll-StatementKind layer) → Met section (calls_in_arms (arms_in layer))
  layer_met section (opened.Call call) met = tt
  layer_met section (opened.Group group) met = tt
  layer_met section opened.Return met = tt
  layer_met section (opened.Update lines) met = tt
  layer_met section (opened.If arms) met = subst (Met section) (ap calls_in_kind (rolls-If arms) ∙ calls_of_if arms) met

  arms_met : (section : Section) (kind : StatementKind) → KindMet section kind → Met section (calls_in_arms (arms_of kind))
  arms_met section kind met = layer_met section (out-StatementKind kind) (subst (KindMet section) (sym (roll-out-StatementKind kind)) met)

  of_kind : (section : Section) (one : Statement) → Met section (calls_in one) → KindMet section one.kind
  of_kind section one met = subst (Met section) (calls_by_kind one) met

  gone_on_met : (section : Section) (one more : Statement) → Met section (calls_in one) → Met section (calls_in more) → Met section (calls_in (gone_on one more))
  gone_on_met section one more left right =
      subst (Met section) (sym (calls_by_kind (gone_on one more)))
      (subst (Met section) (sym (calls_of_if (arms_of one.kind ++ arms_of more.kind)))
      (arms_both section (arms_of one.kind) (arms_of more.kind) (arms_met section one.kind (of_kind section one left)) (arms_met section more.kind (of_kind section more right))))

  last_met : (section : Section) (statements : List Statement) (more : Statement) → AreMet section statements → Met section (calls_in more) → AreMet section (with_last statements more)
  last_met section [] more all right = tt
  last_met section (one ∷ []) more all right =
      let parts = all_apart (IsMet site.instances section) (calls_in one) [] all in
      all_both (IsMet site.instances section) (calls_in (gone_on one more)) [] (gone_on_met section one more parts.0 right) tt
  last_met section (one ∷ next ∷ others) more all right =
      let parts = all_apart (IsMet site.instances section) (calls_in one) (calls_of (next ∷ others)) all in
      all_both (IsMet site.instances section) (calls_in one) (calls_of (with_last (next ∷ others) more)) parts.0 (last_met section (next ∷ others) more parts.1 right)

  joined_met : (section : Section) (later : Bool) (statements : List Statement) (one : Statement) → AreMet section statements → Met section (calls_in one)
      → AreMet section (joined_by later statements one)
  joined_met section false statements one all more = each_added (IsMet site.instances) section statements one all more
  joined_met section true statements one all more = last_met section statements one all more

  also_met : (section : Section) (members : Members) (node : Node) (one : Option Counted) → MembersMet section members → AreMetIf section one → MembersMet section (and_also members node one)
  also_met section members node None all more = all
  also_met section members node (Some one) all more = joined_met section (is_later_arm node) members.statements one.statement all more

  own_action_met : (section : Section) (known next : Members) (node : Node) → MembersMet section known → with_own_action known node ≡ Ok next → MembersMet section next
  unfolding with_own_action
  own_action_met section known next node all e =
      let one = bind_ok (with_override known.overrides node) (λ overrides. Ok (record { overrides = overrides; statements = known.statements; room = known.room })) next e in
      subst (MembersMet section) (ok_same (record { overrides = one.0; statements = known.statements; room = known.room }) next one.1.1) all

  member_met : (section : Section) (opener : Opener) (depth : Depth) (kind : GroupForm) → OpenerMet section opener
      → (known next : Members) (node : Node) → MembersMet section known → with_member opener site section depth kind known node ≡ Ok next → MembersMet section next
  unfolding with_member
  member_met section opener depth kind met known next node all e =
      let read : Result (Option Counted) TreeFault = statement_by opener site section depth known.room node in
      let stated : Result Members TreeFault = read >>= λ one. Ok (and_also known node one) in
      either (has_own_actions kind && is_pair node) (with_own_action known node) (not_stray (is_last_open known.statements) node >>= λ placed. stated) next
      (own_action_met section known next node all)
      (λ rest.
      let placed = bind_ok (not_stray (is_last_open known.statements) node) (λ placed. stated) next rest in
      let one = bind_ok read (λ one. Ok (and_also known node one)) next placed.1.1 in
      subst (MembersMet section) (ok_same (and_also known node one.0) next one.1.1)
      (also_met section known node one.0 all (within_met section opener depth known.room node one.0 met one.1.0)))
      e

  opened_met : (section : Section) (within : ℕ) → OpenerMet section (opened_at site section within)
  unfolding opened_at
  opened_met section zero depth place kind own room body members e = err_ok members (fault.TooMany place) e
  opened_met section (suc within) depth place kind own room body members e =
      kept (with_member (opened_at site section within) site section depth kind) (MembersMet section)
      (member_met section (opened_at site section within) depth kind (opened_met section within)) (begun own room) members body tt e

  statement_met : (section : Section) (room : ℕ) (node : Node) (statement : Option Counted) → statement_at site section room node ≡ Ok statement → AreMetIf section statement
  statement_met section room node statement e =
      within_met section (opened_at site section most_statements) at_the_top room node statement (opened_met section most_statements) e

  step_met : (section : Section) (known next : Members) (node : Node) → MembersMet section known → with_statement site section known node ≡ Ok next → MembersMet section next
  unfolding with_statement
  step_met section known next node all e =
      let stated : Result Members TreeFault = statement_at site section known.room node >>= λ statement. Ok (and_also known node statement) in
      let placed = bind_ok (not_stray (is_last_open known.statements) node) (λ placed. stated) next e in
      let one = bind_ok (statement_at site section known.room node) (λ statement. Ok (and_also known node statement)) next placed.1.1 in
      subst (MembersMet section) (ok_same (and_also known node one.0) next one.1.1) (also_met section known node one.0 all (statement_met section known.room node one.0 one.1.0))

  members_met : (section : Section) (room : ℕ) (nodes : List Node) (members : Members) → members_of site section room nodes ≡ Ok members → MembersMet section members
  members_met section room nodes members e =
      kept (with_statement site section) (MembersMet section) (step_met section) (begun [] room) members nodes tt e

  abbrev PartsMet : Section → Parts → Type 0
  PartsMet section known = AreMet section known.statements × EachCallWithin (IsMet site.instances) section known.subsections

  sub_added : (section : Section) (subs : List Subsection) (sub : Subsection) → EachCallWithin (IsMet site.instances) section subs → AreMet section sub.statements
      → EachCallWithin (IsMet site.instances) section (subs ++ sub ∷ [])
  sub_added section subs sub all more = all_both (λ (one : Subsection). EachCall (IsMet site.instances) section one.statements) subs (sub ∷ []) all (more, tt)

  subsection_met : (section : Section) (known next : Parts) (name : List ℕ) (body : List Node) → PartsMet section known → with_subsection site section known name body ≡ Ok next → PartsMet section next
  unfolding with_subsection
  subsection_met section known next name body all e =
      let one = bind_ok (members_of site section known.room body) (λ (members : Members). Ok (record { statements = known.statements; subsections = known.subsections ++ record { name = name; statements = members.statements } ∷ []; room = members.room; may_go_on = false })) next e in
      subst (PartsMet section) (ok_same (record { statements = known.statements; subsections = known.subsections ++ record { name = name; statements = one.0.statements } ∷ []; room = one.0.room; may_go_on = false }) next one.1.1)
      (all.0, sub_added section known.subsections (record { name = name; statements = one.0.statements }) all.1 (members_met section known.room body one.0 one.1.0))

  own_met : (section : Section) (name : Option (List ℕ)) (statement : Statement) (subs : List Subsection) → EachCallWithin (IsMet site.instances) section subs
      → AllByRecursion (IsMet site.instances section) (calls_in statement) → EachCallWithin (IsMet site.instances) section (with_call name statement subs)
  own_met section None statement subs all more = all
  own_met section (Some name) statement subs all more =
      sub_added section subs (record { name = name; statements = statement ∷ [] }) all (each_added (IsMet site.instances) section [] statement tt more)

  run_met : (section : Section) (node : Node) (known : Parts) (one : Counted) → PartsMet section known → AreMetIf section (Some one) → PartsMet section (with_run node known one)
  run_met section node known one all more = (joined_met section (is_later_arm node) known.statements one.statement all.0 more, all.1)

  written_met : (section : Section) (node : Node) (known : Parts) (one : Counted) → PartsMet section known → AreMetIf section (Some one)
      → PartsMet section (with_written section node known one)
  written_met which.Authorize node known one all more = run_met which.Authorize node known one all more
  written_met which.Authenticate node known one all more = (all.0, own_met which.Authenticate (own_name node one.statement.kind) one.statement known.subsections all.1 more)
  written_met which.Session node known one all more = run_met which.Session node known one all more
  written_met which.Preacct node known one all more = run_met which.Preacct node known one all more
  written_met which.Accounting node known one all more = run_met which.Accounting node known one all more
  written_met which.PostAuth node known one all more = run_met which.PostAuth node known one all more

  one_met : (section : Section) (node : Node) (known : Parts) (one : Option Counted) → PartsMet section known → AreMetIf section one → PartsMet section (with_one section node known one)
  one_met section node known None all more = all
  one_met section node known (Some one) all more = written_met section node known one all more

  abbrev part_by : Section → Parts → Node → Option (List ℕ × List Node) → Result Parts TreeFault
  part_by section known node block = elim block [
    | Some block ↦ with_subsection site section known block.0 block.1
    | None ↦ not_stray known.may_go_on node >>= λ placed. statement_at site section known.room node >>= λ statement. Ok (with_one section node known statement)
  ]

  part_by_met : (section : Section) (known next : Parts) (node : Node) (block : Option (List ℕ × List Node)) → PartsMet section known → part_by section known node block ≡ Ok next → PartsMet section next
  part_by_met section known next node (Some block) all e = subsection_met section known next block.0 block.1 all e
  part_by_met section known next node None all e =
      let placed = bind_ok (not_stray known.may_go_on node) (λ placed. statement_at site section known.room node >>= λ statement. Ok (with_one section node known statement)) next e in
      let one = bind_ok (statement_at site section known.room node) (λ statement. Ok (with_one section node known statement)) next placed.1.1 in
      subst (PartsMet section) (ok_same (with_one section node known one.0) next one.1.1) (one_met section node known one.0 all (statement_met section known.room node one.0 one.1.0))

  part_met : (section : Section) (known next : Parts) (node : Node) → PartsMet section known → with_part site section known node ≡ Ok next → PartsMet section next
  unfolding with_part
  part_met section known next node all e = part_by_met section known next node (subsection_block section node) all e

  abbrev SectionsMet : Known → Type 0
  SectionsMet known = EachCallOfSections (IsMet site.instances) known.sections

  abbrev section_tree : Section → Parts → SectionTree
  section_tree section parts = record { section = section; statements = parts.statements; subsections = parts.subsections }

  section_met : (known next : Known) (section : Section) (body : List Node) → SectionsMet known → with_section site known section body ≡ Ok next → SectionsMet next
  unfolding with_section
  section_met known next section body all e =
      let one = bind_ok (parts_of site section known.room body) (λ (parts : Parts). Ok (record { sections = known.sections ++ section_tree section parts ∷ []; room = parts.room })) next e in
      let met = kept (with_part site section) (PartsMet section) (part_met section) (record { statements = []; subsections = []; room = known.room; may_go_on = false }) one.0 body (tt, tt) one.1.0 in
      subst SectionsMet (ok_same (record { sections = known.sections ++ section_tree section one.0 ∷ []; room = one.0.room }) next one.1.1)
      (all_both (EachCallIn (IsMet site.instances)) known.sections (section_tree section one.0 ∷ []) all ((met.0, met.1), tt))

  abbrev item_of : Known → Option (Section × List Node) → Result Known TreeFault
  item_of known block = elim block [
    | None ↦ Ok known
    | Some block ↦ with_section site known block.0 block.1
  ]

  block_item_met : (known next : Known) (block : Option (Section × List Node)) → SectionsMet known → item_of known block ≡ Ok next → SectionsMet next
  block_item_met known next None all e = subst SectionsMet (ok_same known next e) all
  block_item_met known next (Some block) all e = section_met known next block.0 block.1 all e

  server_item_met : (known next : Known) (node : Node) → SectionsMet known → with_item site known node ≡ Ok next → SectionsMet next
  unfolding with_item
  server_item_met known next node all e = block_item_met known next (section_block node) all e

  server_met : (name : List ℕ) (items : List Node) (server : ServerTree) → server_of site name items ≡ Ok server → EachCallOfSections (IsMet site.instances) server.sections
  unfolding server_of
  server_met name items server e =
      let start : Known = record { sections = []; room = most_statements } in
      let one = bind_ok (after_each (with_item site) start items) (λ (known : Known). Ok (record { name = name; sections = known.sections })) server e in
      subst (λ (s : ServerTree). EachCallOfSections (IsMet site.instances) s.sections) (ok_same (record { name = name; sections = one.0.sections }) server one.1.1)
      (kept (with_item site) SectionsMet server_item_met start one.0 items tt one.1.0)

  abbrev node_of : List ServerTree → Option (List ℕ × List Node) → Result (List ServerTree) TreeFault
  node_of servers block = elim block [
    | None ↦ Ok servers
    | Some block ↦ server_of site block.0 block.1 >>= λ server. Ok (servers ++ server ∷ [])
  ]

  block_node_met : (servers next : List ServerTree) (block : Option (List ℕ × List Node)) → EachCallOf (IsMet site.instances) servers → node_of servers block ≡ Ok next → EachCallOf (IsMet site.instances) next
  block_node_met servers next None all e = subst (EachCallOf (IsMet site.instances)) (ok_same servers next e) all
  block_node_met servers next (Some block) all e =
      let one = bind_ok (server_of site block.0 block.1) (λ server. Ok (servers ++ server ∷ [])) next e in
      subst (EachCallOf (IsMet site.instances)) (ok_same (servers ++ one.0 ∷ []) next one.1.1)
      (all_both (λ (server : ServerTree). EachCallOfSections (IsMet site.instances) server.sections) servers (one.0 ∷ []) all (server_met block.0 block.1 one.0 one.1.0, tt))

  node_met : (servers next : List ServerTree) (node : Node) → EachCallOf (IsMet site.instances) servers → with_server site servers node ≡ Ok next → EachCallOf (IsMet site.instances) next
  unfolding with_server
  node_met servers next node all e = block_node_met servers next (server_block node) all e

  -- the policies of a configuration
  pub servers_met : (servers : List ServerTree) → servers_of site ≡ Ok servers → EachCallOf (IsMet site.instances) servers
  servers_met servers e = kept (with_server site) (EachCallOf (IsMet site.instances)) node_met [] servers site.root tt e
