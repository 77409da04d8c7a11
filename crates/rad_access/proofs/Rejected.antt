-- A rejected request's reply has no pair of an attribute that is no message and that Post-Auth-Type REJECT doesn't add.
use Rattle.std.specs.Prelude.{map, filter, slice_get, unwrap_or}
use Rattle.std.specs.List.{AllByRecursion}
use Rattle.std.proofs.Common.{◌≡◌, ℕ, Bool, true, false, cond, ◌&&◌, List, [], ◌∷◌, Option, Some, None, refl, ap, ◌∙◌}
use Rattle.rad_words.specs.declared.attributes.AttrId.{AttrId}
use Rattle.rad_words.specs.declared.sections.Section.{Section}
use Rattle.rad_words.specs.Attribute.{same_attr}
use Rattle.rad_value.specs.declared.edits.EditOp.{EditOp}
use Rattle.rad_value.specs.declared.edits.ListName.{ListName}
use Rattle.rad_value.specs.declared.edits.ListName.TheVariants.{Request, Reply, Control}
use Rattle.rad_value.specs.declared.values.Pair.{Pair}
use Rattle.rad_value.specs.declared.values.Value.{Value}
use Rattle.rad_value.specs.declared.scope.Scope.{Scope}
use Rattle.rad_value.specs.Edit.{edited_by}
use Rattle.rad_value.specs.Pairs.{is_of, values_of}
use Rattle.rad_value.specs.PairLists.{PairLists, list_of, with_list, same_list}
use Rattle.rad_dict.specs.Definitions.{Definitions}
use Rattle.rad_dict.proofs.Lookups.{same_attr_is}
use Rattle.mod_base.specs.Situation.{Situation}
use Rattle.mod_base.proofs.Frames.{values_stay}
use Rattle.unlang_xlat.specs.Texts.{expanded}
use Rattle.mod_filter.specs.Module.{users_of, key_of}
use Rattle.mod_filter.proofs.Adding.{none_is_added}
use Rattle.unlang_tree.specs.declared.statement.Statement.{Statement}
use Rattle.unlang_tree.specs.declared.update.Line.{Line}
use Rattle.unlang_code.specs.declared.section_id.SectionId.{SectionId}
use Rattle.unlang_code.specs.declared.update.Said.{Said}
use Rattle.unlang_code.specs.declared.update.Said.TheVariants as said
use Rattle.unlang_code.specs.Leaves.{Leaf, Calls, Edits, EachLeaf, module_done, LeafKeeps, leaves_of}
use Rattle.unlang_code.specs.Sections.{statements_of}
use Rattle.unlang_code.specs.Updates.{said_by, done_with}
use Rattle.unlang_code.proofs.Keeping.{section_keeps}
use Rattle.rad_modules.specs.declared.site_module.SiteModule.{SiteModule}
use Rattle.rad_modules.specs.declared.site_module.SiteModule.TheVariants as site
use Rattle.rad_access.specs.declared.verdict.Verdict.{Verdict}
use Rattle.rad_access.specs.declared.verdict.Verdict.TheVariants as verdict
use Rattle.rad_access.specs.Access.{let_in}
use Rattle.rad_access.specs.Attributes.{reply_message}
use Rattle.rad_access.proofs.Editing.{other_edit, by_said}
use Rattle.rad_access.specs.Decided.{reject_of, kept, posted_for, refused_by, refused, refused_for, with_messages, decided}
use Rattle.rad_access.specs.Policies.{Policies}
use Rattle.rad_access.specs.Rejects.{module_adds, call_adds, leaf_adds, RejectNeverAdds, with_reply}
use Rattle.rad_modules.specs.SiteModules.{site_module}
use Rattle.rad_modules.specs.SiteLaws.{site_module_lawful}

-- The reply list has no pair of an attribute.
abbrev NoneOf : AttrId → PairLists → Type 0
NoneOf attr lists = values_of attr lists.reply ≡ []

-- ---- edits

by_list : (attr : AttrId) (list : ListName) (named : AttrId) (o : EditOp) (value : Value) (lists : PairLists) → (same_list list Reply && same_attr attr named) ≡ false → NoneOf attr lists
    → NoneOf attr (with_list lists list (edited_by o (record { attr = named; value = value }) (list_of lists list)))
by_list attr Request named o value lists other none = none
by_list attr Reply named o value lists other none = other_edit attr o (record { attr = named; value = value }) lists.reply other ∙ none
by_list attr Control named o value lists other none = none

by_line : (attr : AttrId) (line : Line) (s : Said) (scope : Scope) → (same_list line.list Reply && same_attr attr line.attr.id) ≡ false → NoneOf attr scope.lists → NoneOf attr (done_with line s scope).0.lists
by_line attr line s scope other none = by_said (NoneOf attr) line s scope (λ v is now. by_list attr line.list line.attr.id line.op v scope.lists other now) none

-- ---- modules, and statements

framed_none : (attr : AttrId) (m : SiteModule) (dict : Definitions) (kind : Section) (s : Situation) → site_module.edits m Reply attr ≡ false → NoneOf attr s.scope.lists → NoneOf attr (site_module.does m dict kind s).0.scope.lists
framed_none attr m dict kind s free none = values_stay (site_module.edits m) kind s (site_module.does m dict kind s).0 Reply attr (site_module_lawful m dict kind s) free ∙ none

module_none : (attr : AttrId) (m : SiteModule) (dict : Definitions) (kind : Section) (s : Situation) → module_adds attr m ≡ false → NoneOf attr s.scope.lists → NoneOf attr (site_module.does m dict kind s).0.scope.lists
module_none attr (site.Always m) dict kind s free none = none
module_none attr (site.Files m) dict kind s free none = framed_none attr (site.Files m) dict kind s free none
module_none attr (site.Pap m) dict kind s free none = framed_none attr (site.Pap m) dict kind s free none
module_none attr (site.Chap m) dict kind s free none = framed_none attr (site.Chap m) dict kind s free none
module_none attr (site.Realm m) dict kind s free none = framed_none attr (site.Realm m) dict kind s free none
module_none attr (site.Filter m) dict kind s free none = none_is_added attr (users_of m) (expanded s.scope dict (key_of m)) dict kind s.scope.lists free none

call_none : (attr : AttrId) (m : Option SiteModule) (dict : Definitions) (kind : Section) (s : Situation) → call_adds attr m ≡ false → NoneOf attr s.scope.lists → NoneOf attr (module_done site_module dict kind m s).scope.lists
call_none attr None dict kind s free none = none
call_none attr (Some m) dict kind s free none = module_none attr m dict kind s free none

module _ (attr : AttrId) (stack : List SiteModule) (dict : Definitions) (kind : Section) where
  leaf_none : (leaf : Leaf) → leaf_adds stack attr leaf ≡ false → LeafKeeps (NoneOf attr) site_module stack dict kind leaf
  leaf_none (Calls call) free s none = call_none attr (slice_get stack call.instance) dict kind s free none
  leaf_none (Edits line) free s none = by_line attr line (said_by dict line.attr line.right s.scope) s.scope free none

  leaves_none : (leaves : List Leaf) → AllByRecursion (λ leaf. leaf_adds stack attr leaf ≡ false) leaves → AllByRecursion (LeafKeeps (NoneOf attr) site_module stack dict kind) leaves
  leaves_none [] all = tt
  leaves_none (leaf ∷ leaves) all = (leaf_none leaf all.0, leaves_none leaves all.1)

-- ---- messages

no_message : (attr : AttrId) (pair : Pair) (b : Bool) → same_attr attr reply_message ≡ false → is_of reply_message pair ≡ true → is_of attr pair ≡ b → b ≡ false
no_message attr pair true other message is =
    absurd (let own = same_attr_is pair.attr attr is in let no : same_attr pair.attr reply_message ≡ false = ap (λ (a : AttrId). same_attr a reply_message) own ∙ other in cc)
no_message attr pair false other message is = refl

messages_none : (attr : AttrId) (pairs : List Pair) → same_attr attr reply_message ≡ false → filter (is_of attr) (kept pairs) ≡ []
messages_none attr [] other = refl
messages_none attr (pair ∷ pairs) other = by_pair (is_of reply_message pair) (messages_none attr pairs other) refl where
  by_pair : (b : Bool) → filter (is_of attr) (kept pairs) ≡ [] → is_of reply_message pair ≡ b → filter (is_of attr) (cond b (pair ∷ kept pairs) (kept pairs)) ≡ []
  by_pair true more is = rw (no_message attr pair (is_of attr pair) other is refl) more
  by_pair false more is = more

module _ (policies : Policies) (dict : Definitions) (server : List ℕ) (attr : AttrId) (other : same_attr attr reply_message ≡ false) (never : RejectNeverAdds policies server attr) where
  each_leaf : (id : SectionId) (statements : Option (List Statement)) → reject_of policies server ≡ Some id → statements_of policies.table id ≡ statements
      → EachLeaf (LeafKeeps (NoneOf attr) site_module policies.stack dict id.section) (unwrap_or statements [])
  each_leaf id None named at = tt
  each_leaf id (Some statements) named at = leaves_none attr policies.stack dict id.section (leaves_of statements) (never id statements named at)

  by_reject : (id : Option SectionId) (s : Situation) → reject_of policies server ≡ id → NoneOf attr s.scope.lists → NoneOf attr (refused_by policies dict id s).0.scope.lists
  by_reject None s named none = none
  by_reject (Some id) s named none =
      section_keeps (NoneOf attr) site_module policies.stack dict id.section (unwrap_or (statements_of policies.table id) []) (each_leaf id (statements_of policies.table id) named refl) s none

  by_verdict : (v : Verdict) (s : Situation) → (refused_for policies dict server v s).1 ≡ verdict.Reject → NoneOf attr (refused_for policies dict server v s).0.scope.lists
  by_verdict verdict.Accept s is = absurd (cc)
  by_verdict verdict.Reject s is = by_reject (reject_of policies server) (with_messages s) refl (ap (map (λ (p : Pair). p.value)) (messages_none attr s.scope.lists.reply other))
  by_verdict verdict.Withhold s is = absurd (cc)

  -- A rejected request has no such pair.
  pub rejected_none : (s : Situation) → (decided policies dict server s).1 ≡ verdict.Reject → NoneOf attr (decided policies dict server s).0.scope.lists
  unfolding decided
  rejected_none s is =
      let let_in_or_not = let_in policies dict server s in
      let done = posted_for policies dict server let_in_or_not.1 let_in_or_not.0 in
      by_verdict done.1 done.0 is

-- What is done for a rejected request looks at the messages of its reply alone.
pub refused_same : (policies : Policies) (dict : Definitions) (server : List ℕ) (s : Situation) (reply : List Pair) → kept reply ≡ kept s.scope.lists.reply
    → refused policies dict server (with_reply reply s) ≡ refused policies dict server s
refused_same policies dict server s reply same = ap (λ (messages : List Pair). refused_by policies dict (reject_of policies server) (with_reply messages s)) same
