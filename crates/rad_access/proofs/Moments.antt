-- No section changes the moment of its request.
use Rattle.std.specs.Prelude.{slice_get, unwrap_or}
use Rattle.std.specs.List.{AllByRecursion}
use Rattle.std.proofs.Common.{◌≡◌, List, [], ◌∷◌, Option, Some, None, refl, ap, ◌∙◌}
use Rattle.rad_words.specs.declared.sections.Section.{Section}
use Rattle.rad_tables.specs.declared.group_kind.GroupKind.TheVariants.{Plain}
use Rattle.rad_value.specs.declared.scope.Scope.{Scope}
use Rattle.rad_value.specs.Edit.{tried}
use Rattle.rad_value.specs.PairLists.{PairLists}
use Rattle.rad_dict.specs.Definitions.{Definitions}
use Rattle.mod_base.specs.Situation.{Situation}
use Rattle.mod_base.specs.Meaning.{Meaning, IsLawful}
use Rattle.unlang_tree.specs.declared.policies.ServerTree.{ServerTree}
use Rattle.unlang_code.specs.declared.section_id.SectionId.{SectionId}
use Rattle.unlang_code.specs.Sections.{statements_of}
use Rattle.unlang_tree.specs.declared.update.Line.{Line}
use Rattle.unlang_code.specs.declared.update.Said.{Said}
use Rattle.unlang_code.specs.declared.update.Said.TheVariants as said
use Rattle.unlang_code.specs.Updates.{said_by, edit_of, tried_to, done_with}
use Rattle.unlang_code.specs.Run.{section_of, begun, in_scope}
use Rattle.unlang_code.specs.Leaves.{Leaf, Calls, Edits, module_done, leaf_done, leaves_of}
use Rattle.unlang_code.proofs.Leaving.{IsLasting, LeafLeads, run_leads}

tried_keeps : (lists : Option PairLists) (scope : Scope) → (tried_to lists scope).0.moment ≡ scope.moment
tried_keeps None scope = refl
tried_keeps (Some lists) scope = refl

said_keeps : (line : Line) (s : Said) (scope : Scope) → (done_with line s scope).0.moment ≡ scope.moment
said_keeps line (said.Value v) scope = tried_keeps (tried scope.lists (edit_of line v)) scope
said_keeps line said.Nothing scope = refl
said_keeps line said.Unreadable scope = refl

module _ {M : Type 0} (meaning : Meaning M) (lawful : (m : M) (dict : Definitions) (method : Section) (s : Situation) → IsLawful (meaning.edits m) method s (meaning.does m dict method s).0)
    (stack : List M) (dict : Definitions) where
  abbrev Keeps : Situation → Situation → Type 0
  Keeps s t = t.scope.moment ≡ s.scope.moment

  lasts : IsLasting Keeps
  lasts = record {
    alike = λ s. refl;
    joined = λ a b c first second. second ∙ first;
    noted = λ s t answer keeps. keeps;
    chose = λ s t keeps. keeps;
    captured = λ s scope only. ap (λ (x : Scope). x.moment) only;
  }

  module_keeps : (kind : Section) (m : Option M) (s : Situation) → Keeps s (module_done meaning dict kind m s)
  module_keeps kind None s = refl
  module_keeps kind (Some m) s = (lawful m dict kind s).scope.moment

  leaf_keeps : (kind : Section) (leaf : Leaf) (s : Situation) → Keeps s (leaf_done meaning stack dict kind leaf s)
  leaf_keeps kind (Calls call) s = module_keeps kind (slice_get stack call.instance) s
  leaf_keeps kind (Edits line) s = said_keeps line (said_by dict line.attr line.right s.scope) s.scope

  leaves_keep : (kind : Section) (leaves : List Leaf) → AllByRecursion (LeafLeads Keeps lasts meaning stack dict kind) leaves
  leaves_keep kind [] = tt
  leaves_keep kind (leaf ∷ leaves) = (leaf_keeps kind leaf, leaves_keep kind leaves)

  pub section_keeps_moment : (servers : List ServerTree) (id : SectionId) (s : Situation) → (section_of meaning stack dict servers id s).0.scope.moment ≡ s.scope.moment
  section_keeps_moment servers id s =
      let statements = unwrap_or (statements_of servers id) [] in
      run_leads Keeps lasts meaning stack dict id.section statements (leaves_keep id.section (leaves_of statements)) Plain (in_scope (begun s.scope) s)
