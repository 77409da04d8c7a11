-- What each leaf does to a situation, whole sections do.
use Rattle.std.specs.Prelude.{slice_get, map, length}
use Rattle.std.specs.List.{AllByRecursion}
use Rattle.std.proofs.ByRecursion.{All-append, All-take, All-drop}
use Rattle.std.proofs.Common.{◌≡◌, ℕ, Bool, true, false, List, [], ◌∷◌, ◌++◌, take, drop, Option, Some, None, refl, sym, ap, subst, ◌∙◌}
use Rattle.rad_words.specs.declared.codes.Code.{Code}
use Rattle.rad_words.specs.declared.sections.Section.{Section}
use Rattle.rad_tables.specs.declared.group_kind.GroupKind.{GroupKind}
use Rattle.rad_tables.specs.declared.group_kind.GroupKind.TheVariants.{Plain, Redundant}
use Rattle.rad_value.specs.declared.scope.Scope.{Scope}
use Rattle.unlang_tree.specs.declared.update.Line.{Line}
use Rattle.unlang_code.specs.Updates.{line_done, then_rest, lines_done}
use Rattle.rad_dict.specs.Definitions.{Definitions}
use Rattle.mod_base.specs.Situation.{Situation}
use Rattle.mod_base.specs.Meaning.{Meaning}
use Rattle.unlang_tree.specs.declared.statement.Arm.{Arm, out-Arm, roll-Arm, out-roll-Arm}
use Rattle.unlang_tree.specs.declared.statement.Call.{Call}
use Rattle.unlang_tree.specs.declared.statement.Group.{Group, out-Group, roll-Group, out-roll-Group}
use Rattle.unlang_tree.specs.declared.statement.GroupForm.{GroupForm}
use Rattle.unlang_tree.specs.declared.statement.GroupForm.TheVariants as form
use Rattle.unlang_tree.specs.declared.statement.Override.{Override}
use Rattle.unlang_tree.specs.declared.statement.Statement.{Statement}
use Rattle.unlang_tree.specs.declared.statement.StatementKind.{StatementKind}
use Rattle.unlang_tree.specs.declared.statement.StatementKind.{roll-StatementKind}
use Rattle.unlang_tree.specs.declared.statement.StatementKind.TheOpen.{StatementKind-F, Arm-F, Group-F, Statement-F}
use Rattle.unlang_tree.specs.declared.statement.StatementKind.TheOpen as level
use Rattle.unlang_tree.specs.declared.statement.StatementKind.TheFolds.{map-StatementKind, fold-Arm, fold_out-Arm, fold_out-Group, fold-roll-StatementKind, fold-roll-Statement, ind-Statement}
use Rattle.unlang_cond.specs.Trees.{Tree}
use Rattle.unlang_cond.specs.Tests.{OnlyCaptures}
use Rattle.unlang_code.specs.Choosing.{Test, asks, met_or, first_met}
use Rattle.unlang_code.specs.Run.{kind_step, arm_step, group_step, statement_step, Outcome, Piece, in_scope, with_last, with_choice, updated, called_of, called, is_over, and_then, block_of, picked, alone, rotated, balanced_in, formed, taken, branched, arm_block, group_done, arm_done, arm_asked, if_done, statement_done, kind_done, run_of}
use Rattle.unlang_code.proofs.Asking.{met_captures}
use Rattle.unlang_code.proofs.Trees.{by_arms}
use Rattle.unlang_code.specs.Leaves.{Leaf, Calls, Edits, module_done, leaf_done, leaves_in, leaves_at, leaves_of, kind_leaves, arm_leaves, group_leaves, statement_leaves, joined}

-- a relation of a situation to a later one, which stays where a code is noted, a choice is made or captures are set
pub record IsLasting (R : Situation → Situation → Type 0) : Type 0 where
  pub alike : (s : Situation) → R s s
  pub joined : (a b c : Situation) → R a b → R b c → R a c
  pub noted : (s t : Situation) (answer : Code) → R s t → R s (in_scope (with_last answer t.scope) t)
  pub chose : (s t : Situation) → R s t → R s (in_scope (with_choice t.scope) t)
  pub captured : (s : Situation) (scope : Scope) → OnlyCaptures s.scope scope → R s (in_scope scope s)

module _ (R : Situation → Situation → Type 0) (lasting : IsLasting R) where
  -- a piece leads only to such situations
  abbrev pub Leads : Piece → Type 0
  Leads piece = (kind : GroupKind) (s : Situation) → R s (piece kind s).situation

  and_then_leads : (s : Situation) (first : Outcome) (rest : Situation → Outcome) (t : Bool) → R s first.situation → R first.situation (rest first.situation).situation → R s (and_then t first rest).situation
  and_then_leads s first rest true leads more = leads
  and_then_leads s first rest false leads more = lasting.joined s first.situation (rest first.situation).situation leads more

  -- what is done behind a piece leads on
  pub rest_leads : (first : Outcome) (rest : Situation → Outcome) → R first.situation (rest first.situation).situation → R first.situation (and_then (is_over first) first rest).situation
  rest_leads first rest more = and_then_leads first.situation first rest (is_over first) (lasting.alike first.situation) more

  pub block_leads : (kind : GroupKind) (pieces : List Piece) → AllByRecursion Leads pieces → (s : Situation) → R s (block_of kind pieces s).situation
  block_leads kind [] all s = lasting.alike s
  block_leads kind (piece ∷ pieces) all s =
      and_then_leads s (piece kind s) (block_of kind pieces) (is_over (piece kind s)) (all.0 kind s) (block_leads kind pieces all.1 (piece kind s).situation)

  ordered_leads : (kind : GroupKind) (n : ℕ) (pieces : List Piece) → AllByRecursion Leads pieces → (s : Situation) → R s (block_of kind (alone n pieces) s).situation × R s (block_of kind (rotated n pieces) s).situation
  ordered_leads kind n pieces all s = (
    block_leads kind (alone n pieces) (All-take Leads 1 (drop n pieces) (All-drop Leads n pieces all)) s,
    block_leads kind (rotated n pieces) (All-append Leads (drop n pieces) (take n pieces) (All-drop Leads n pieces all) (All-take Leads n pieces all)) s,
  )

  balanced_leads : (kind : GroupKind) (pieces : List Piece) → AllByRecursion Leads pieces → (s : Situation) → R s (balanced_in kind pieces s).situation
  balanced_leads Plain [] all s = lasting.alike s
  balanced_leads Redundant [] all s = lasting.alike s
  balanced_leads Plain (piece ∷ pieces) all s =
      let n = picked s.scope (length (piece ∷ pieces)) in
      lasting.chose s (block_of Plain (alone n (piece ∷ pieces)) s).situation (ordered_leads Plain n (piece ∷ pieces) all s).0
  balanced_leads Redundant (piece ∷ pieces) all s =
      let n = picked s.scope (length (piece ∷ pieces)) in
      lasting.chose s (block_of Redundant (rotated n (piece ∷ pieces)) s).situation (ordered_leads Redundant n (piece ∷ pieces) all s).1

  pub formed_leads : (shape : GroupForm) (pieces : List Piece) → AllByRecursion Leads pieces → (s : Situation) → R s (formed shape pieces s).situation
  formed_leads form.Group pieces all s = block_leads Plain pieces all s
  formed_leads form.Redundant pieces all s = block_leads Redundant pieces all s
  formed_leads form.LoadBalance pieces all s = balanced_leads Plain pieces all s
  formed_leads form.RedundantLoadBalance pieces all s = balanced_leads Redundant pieces all s
  formed_leads form.Policy pieces all s = block_leads Plain pieces all s

  -- the block of an arm is one of those that lead on, or there is none
  abbrev LeadsIf : Option Piece → Type 0
  LeadsIf None = Unit {0}
  LeadsIf (Some piece) = Leads piece

  met_leads_by : (arm : Test × Piece) (arms : List (Test × Piece)) → Leads arm.1 → ((scope : Scope) → LeadsIf (first_met arms scope).0) → (asked : Bool × Scope) → LeadsIf (met_or arm.1 (first_met arms) asked).0
  met_leads_by arm arms here more (true, scope) = here
  met_leads_by arm arms here more (false, scope) = more scope

  met_leads : (arms : List (Test × Piece)) → AllByRecursion (λ (arm : Test × Piece). Leads arm.1) arms → (scope : Scope) → LeadsIf (first_met arms scope).0
  met_leads [] all scope = tt
  met_leads (arm ∷ arms) all scope = met_leads_by arm arms all.0 (met_leads arms all.1) (arm.0 scope)

  taken_leads : (met : Option Piece × Scope) → LeadsIf met.0 → (kind : GroupKind) (s : Situation) → OnlyCaptures s.scope met.1 → R s (taken met kind s).situation
  taken_leads (None, scope) leads kind s only = lasting.captured s scope only
  taken_leads (Some piece, scope) leads kind s only = lasting.joined s (in_scope scope s) (piece kind (in_scope scope s)).situation (lasting.captured s scope only) (leads kind (in_scope scope s))

  module _ {M : Type 0} (meaning : Meaning M) (stack : List M) (dict : Definitions) (section : Section) where
    call_leads : (kind : GroupKind) (overrides : List Override) (m : Option M) (s : Situation) → R s (module_done meaning dict section m s) → R s (called_of meaning dict section kind overrides m s).situation
    call_leads kind overrides None s leads = leads
    call_leads kind overrides (Some m) s leads = lasting.noted s (meaning.does m dict section s).0 (meaning.does m dict section s).1 leads

    -- a leaf leads only to such situations
    abbrev pub LeafLeads : Leaf → Type 0
    LeafLeads leaf = (s : Situation) → R s (leaf_done meaning stack dict section leaf s)

    pub called_leads : (call : Call) → LeafLeads (Calls call) → Leads (λ kind. called meaning stack dict section kind call)
    called_leads call leads kind s = call_leads kind call.overrides (slice_get stack call.instance) s (leads s)

    -- lines of an update, one after the other
    rest_leads_on : (s : Situation) (rest : Scope → Scope × Bool) (b : Bool) (scope : Scope) → R s (in_scope scope s) → (R s (in_scope scope s) → R s (in_scope (rest scope).0 s)) → R s (in_scope (then_rest rest b scope).0 s)
    rest_leads_on s rest true scope leads more = more leads
    rest_leads_on s rest false scope leads more = leads

    lines_lead : (lines : List Line) → AllByRecursion LeafLeads (map Edits lines) → (s : Situation) → R s (in_scope (lines_done dict lines s.scope).0 s)
    lines_lead [] all s = lasting.alike s
    lines_lead (line ∷ lines) all s =
        let first = line_done dict line s.scope in
        rest_leads_on s (lines_done dict lines) first.1 first.0 (all.0 s)
        (λ leads. lasting.joined s (in_scope first.0 s) (in_scope (lines_done dict lines first.0).0 s) leads (lines_lead lines all.1 (in_scope first.0 s)))

    pub edit_leads : (lines : List Line) → AllByRecursion LeafLeads (map Edits lines) → Leads (λ kind. updated dict section kind lines)
    edit_leads lines all kind s = lines_lead lines all s

    both_parts : {X : Type 0} (P : X → Type 0) (xs ys : List X) → AllByRecursion P (xs ++ ys) → AllByRecursion P xs × AllByRecursion P ys
    both_parts P [] ys all = (tt, all)
    both_parts P (x ∷ xs) ys all = let more = both_parts P xs ys all.1 in ((all.0, more.0), more.1)

    abbrev done_at : Statement → Piece
    done_at = statement_done meaning stack dict section

    joined_is : (statements : List Statement) → joined (map leaves_at statements) ≡ leaves_of statements
    joined_is [] = refl
    joined_is (one ∷ statements) = ap (λ (leaves : List Leaf). leaves_at one ++ leaves) (joined_is statements)

    abbrev IsLed : Statement → Type 0
    IsLed one = AllByRecursion LeafLeads (leaves_at one) → Leads (statement_done meaning stack dict section one)

    abbrev IsKindLed : StatementKind → Type 0
    IsKindLed what = AllByRecursion LeafLeads (leaves_in what) → Leads (kind_done meaning stack dict section what)

    abbrev IsGroupLed : Group → Type 0
    IsGroupLed group = AllByRecursion LeafLeads (leaves_of (out-Group group).statements) → Leads (group_done meaning stack dict section group)

    abbrev IsArmLed : Arm → Type 0
    IsArmLed arm = AllByRecursion LeafLeads (leaves_of (out-Arm arm).statements) → Leads (arm_done meaning stack dict section arm)

    all_led : (statements : List ((one : Statement) × IsLed one)) → AllByRecursion LeafLeads (leaves_of (map (λ e. e.0) statements)) → AllByRecursion Leads (map (statement_done meaning stack dict section) (map (λ e. e.0) statements))
    all_led [] all = tt
    all_led (e ∷ statements) all =
        let parts = both_parts LeafLeads (leaves_at e.0) (leaves_of (map (λ e. e.0) statements)) all in
        (e.1 parts.0, all_led statements parts.1)

    -- the leaves of an arm, and of arms
    arm_leaves_are : (arm : Arm) → fold-Arm (List Leaf) (List Leaf) (List Leaf) (List Leaf) kind_leaves arm_leaves group_leaves statement_leaves arm ≡ leaves_of (out-Arm arm).statements
    arm_leaves_are arm = fold_out-Arm (List Leaf) (List Leaf) (List Leaf) (List Leaf) kind_leaves arm_leaves group_leaves statement_leaves arm ∙ joined_is (out-Arm arm).statements

    -- arms lead on where their leaves do
    arms_led : (arms : List ((arm : Arm) × IsArmLed arm)) → AllByRecursion LeafLeads (joined (map (fold-Arm (List Leaf) (List Leaf) (List Leaf) (List Leaf) kind_leaves arm_leaves group_leaves statement_leaves) (map (λ e. e.0) arms)))
        → AllByRecursion (λ (arm : Test × Piece). Leads arm.1) (map (arm_asked meaning stack dict section) (map (λ e. e.0) arms))
    arms_led [] all = tt
    arms_led (e ∷ arms) all =
        let leaves = fold-Arm (List Leaf) (List Leaf) (List Leaf) (List Leaf) kind_leaves arm_leaves group_leaves statement_leaves in
        let parts = both_parts LeafLeads (leaves e.0) (joined (map leaves (map (λ d. d.0) arms))) all in
        (e.1 (subst (AllByRecursion LeafLeads) (arm_leaves_are e.0) parts.0), arms_led arms parts.1)

    if_leads : (arms : List Arm) → AllByRecursion (λ (arm : Test × Piece). Leads arm.1) (map (arm_asked meaning stack dict section) arms) → Leads (if_done meaning stack dict section arms)
    if_leads arms all kind s =
        let asked = map (arm_asked meaning stack dict section) arms in
        taken_leads (first_met asked s.scope) (met_leads asked all s.scope) kind s (met_captures dict (arm_done meaning stack dict section) arms s.scope)

    kind_led : (y : StatementKind-F ((what : StatementKind) × IsKindLed what) ((arm : Arm) × IsArmLed arm) ((group : Group) × IsGroupLed group) ((one : Statement) × IsLed one))
        → IsKindLed (roll-StatementKind (map-StatementKind _ _ _ _ _ _ _ _ (λ e. e.0) (λ e. e.0) (λ e. e.0) (λ e. e.0) y))
    kind_led (level.Call call) each =
        subst Leads (sym (fold-roll-StatementKind Piece (Test × Piece) Piece Piece (kind_step meaning stack dict section) (arm_step dict section) (group_step section) statement_step (level.Call call))) (called_leads call (subst (AllByRecursion LeafLeads) (fold-roll-StatementKind (List Leaf) (List Leaf) (List Leaf) (List Leaf) kind_leaves arm_leaves group_leaves statement_leaves (level.Call call)) each).0)
    kind_led (level.Group group) each =
        subst Leads (sym (fold-roll-StatementKind Piece (Test × Piece) Piece Piece (kind_step meaning stack dict section) (arm_step dict section) (group_step section) statement_step (level.Group group.0) ∙ fold_out-Group Piece (Test × Piece) Piece Piece (kind_step meaning stack dict section) (arm_step dict section) (group_step section) statement_step group.0)) (group.1 (subst (AllByRecursion LeafLeads) (fold-roll-StatementKind (List Leaf) (List Leaf) (List Leaf) (List Leaf) kind_leaves arm_leaves group_leaves statement_leaves (level.Group group.0) ∙ fold_out-Group (List Leaf) (List Leaf) (List Leaf) (List Leaf) kind_leaves arm_leaves group_leaves statement_leaves group.0 ∙ joined_is (out-Group group.0).statements) each))
    kind_led level.Return each = subst Leads (sym (fold-roll-StatementKind Piece (Test × Piece) Piece Piece (kind_step meaning stack dict section) (arm_step dict section) (group_step section) statement_step level.Return)) (λ kind s. lasting.alike s)
    kind_led (level.Update lines) each =
        subst Leads (sym (fold-roll-StatementKind Piece (Test × Piece) Piece Piece (kind_step meaning stack dict section) (arm_step dict section) (group_step section) statement_step (level.Update lines))) (edit_leads lines (subst (AllByRecursion LeafLeads) (fold-roll-StatementKind (List Leaf) (List Leaf) (List Leaf) (List Leaf) kind_leaves arm_leaves group_leaves statement_leaves (level.Update lines)) each))
    kind_led (level.If arms) each =
        let plain = map (λ e. e.0) arms in
        subst Leads (sym (fold-roll-StatementKind Piece (Test × Piece) Piece Piece (kind_step meaning stack dict section) (arm_step dict section) (group_step section) statement_step (level.If plain) ∙ ap branched (by_arms meaning stack dict section plain)))
        (if_leads plain (arms_led arms (subst (AllByRecursion LeafLeads) (fold-roll-StatementKind (List Leaf) (List Leaf) (List Leaf) (List Leaf) kind_leaves arm_leaves group_leaves statement_leaves (level.If plain)) each)))

    arm_led : (x : Arm-F StatementKind Arm Group Statement) (y : Arm-F ((what : StatementKind) × IsKindLed what) ((arm : Arm) × IsArmLed arm) ((group : Group) × IsGroupLed group) ((one : Statement) × IsLed one))
        → map (λ e. e.0) y.statements ≡ x.statements → IsArmLed (roll-Arm x)
    arm_led x y is each kind s =
        let rolled = out-roll-Arm x in
        let leads : AllByRecursion Leads (map done_at x.statements) =
        subst (λ statements. AllByRecursion LeafLeads (leaves_of statements) → AllByRecursion Leads (map done_at statements)) is (all_led y.statements)
        (subst (λ (made : Arm-F StatementKind Arm Group Statement). AllByRecursion LeafLeads (leaves_of made.statements)) rolled each) in
        subst (λ (made : Arm-F StatementKind Arm Group Statement). R s (block_of Plain (map done_at made.statements) s).situation) (sym rolled)
        (block_leads Plain (map done_at x.statements) leads s)

    group_led : (x : Group-F StatementKind Arm Group Statement) (y : Group-F ((what : StatementKind) × IsKindLed what) ((arm : Arm) × IsArmLed arm) ((group : Group) × IsGroupLed group) ((one : Statement) × IsLed one))
        → map (λ e. e.0) y.statements ≡ x.statements → IsGroupLed (roll-Group x)
    group_led x y is each kind s =
        let rolled = out-roll-Group x in
        let leads : AllByRecursion Leads (map done_at x.statements) =
        subst (λ statements. AllByRecursion LeafLeads (leaves_of statements) → AllByRecursion Leads (map done_at statements)) is (all_led y.statements)
        (subst (λ (made : Group-F StatementKind Arm Group Statement). AllByRecursion LeafLeads (leaves_of made.statements)) rolled each) in
        subst (λ (made : Group-F StatementKind Arm Group Statement). R s (formed made.form (map done_at made.statements) s).situation) (sym rolled)
        (formed_leads x.form (map done_at x.statements) leads s)

    pub statement_led : (one : Statement) → IsLed one
    statement_led = ind-Statement IsKindLed IsArmLed IsGroupLed IsLed
        (λ x y is. subst (λ z. IsKindLed (roll-StatementKind z)) is (kind_led y))
        (λ x y is. arm_led x y (ap (λ z. z.statements) is))
        (λ x y is. group_led x y (ap (λ z. z.statements) is))
        (λ x y is each. subst Leads (sym (fold-roll-Statement Piece (Test × Piece) Piece Piece (kind_step meaning stack dict section) (arm_step dict section) (group_step section) statement_step x))
        (subst IsKindLed (ap (λ z. z.kind) is) y.kind.1 (subst (AllByRecursion LeafLeads) (fold-roll-Statement (List Leaf) (List Leaf) (List Leaf) (List Leaf) kind_leaves arm_leaves group_leaves statement_leaves x) each)))

    -- statements lead on where their leaves do
    pub each_led : (statements : List Statement) → AllByRecursion LeafLeads (leaves_of statements) → AllByRecursion Leads (map done_at statements)
    each_led [] all = tt
    each_led (one ∷ statements) all =
        let parts = both_parts LeafLeads (leaves_at one) (leaves_of statements) all in
        (statement_led one parts.0, each_led statements parts.1)

    pub run_leads : (statements : List Statement) → AllByRecursion LeafLeads (leaves_of statements) → (kind : GroupKind) (s : Situation) → R s (run_of meaning stack dict section kind statements s).situation
    run_leads statements all kind s = block_leads kind (map done_at statements) (each_led statements all) s

    -- the block of an arm leads on where each leaf does, and so does an `if`
    any_arms : (arms : List Arm) → ((leaves : List Leaf) → AllByRecursion LeafLeads leaves) → AllByRecursion (λ (arm : Test × Piece). Leads arm.1) (map (arm_asked meaning stack dict section) arms)
    any_arms [] every = tt
    any_arms (arm ∷ arms) every =
        let statements = (out-Arm arm).statements in
        ((λ kind s. block_leads Plain (map done_at statements) (each_led statements (every (leaves_of statements))) s), any_arms arms every)

    pub any_if_leads : (arms : List Arm) → ((leaves : List Leaf) → AllByRecursion LeafLeads leaves) → Leads (if_done meaning stack dict section arms)
    any_if_leads arms every = if_leads arms (any_arms arms every)
