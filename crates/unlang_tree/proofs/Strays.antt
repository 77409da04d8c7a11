-- An `elsif` or an `else` behind calls alone.
use Rattle.std.proofs.Common.{◌≡◌, ℕ, suc, ◌-◌, ◌≤◌, true, false, List, [], ◌∷◌, ◌++◌, length, Ok, Err, refl, ap, ◌∙◌, arith}
use Rattle.std.specs.List.{slice_get}
use Rattle.rad_conf.specs.declared.tree.Node.{Node}
use Rattle.rad_words.specs.declared.sections.Section.{Section}
use Rattle.rad_text.specs.Read.{◌>>=◌}
use Rattle.unlang_tree.specs.declared.fault.TreeFault.TheVariants as fault
use Rattle.unlang_tree.specs.declared.statement.Statement.{Statement}
use Rattle.unlang_tree.specs.declared.groups.Members.{Members}
use Rattle.unlang_tree.specs.Sites.{Site}
use Rattle.unlang_tree.specs.Readings.{after_each}
use Rattle.unlang_tree.specs.Arms.{is_later_arm, is_open, is_open_behind, is_last_open, not_stray}
use Rattle.unlang_tree.specs.Groups.{with_statement, statements_of}
use Rattle.unlang_tree.specs.Written.{call_from, Spell, nothing, by_name, by_dash, passed_over}
use Rattle.unlang_tree.proofs.ArmLemmas.{last_there, call_closed}
use Rattle.unlang_tree.proofs.WrittenCalls.{spelled_read}

later_last : (one next : Statement) (others : List Statement) → is_last_open (one ∷ next ∷ others) ≡ is_last_open (next ∷ others)
later_last one next others =
    let at : length (one ∷ next ∷ others) - 1 ≡ suc (length (next ∷ others) - 1) = omega arith in
    ap (λ n. is_open_behind (slice_get (one ∷ next ∷ others) n)) at

first_closed : (one : Statement) (others : List Statement) → is_open one ≡ false → is_last_open others ≡ false → is_last_open (one ∷ others) ≡ false
first_closed one [] e more = ap is_open_behind (last_there [] one) ∙ e
first_closed one (next ∷ others) e more = later_last one next others ∙ more

module _ (site : Site) (section : Section) where
  -- no arm may follow calls
  calls_closed : (nodes : List Node) (calls : List Statement) → Spell site section nodes calls → is_last_open calls ≡ false
  calls_closed _ _ nothing = refl
  calls_closed _ _ (by_name node nodes calls name number spelled plain free callable more) = first_closed (call_from node number) calls (call_closed node number) (calls_closed nodes calls more)
  calls_closed _ _ (by_dash node nodes calls name number spelled free callable more) = first_closed (call_from node number) calls (call_closed node number) (calls_closed nodes calls more)
  calls_closed _ _ (passed_over node nodes calls name spelled free none more) = calls_closed nodes calls more

  stray_wrong : (known : Members) (node : Node) (rest : List Node) → is_later_arm node ≡ true → is_last_open known.statements ≡ false
      → after_each (with_statement site section) known (node ∷ rest) ≡ Err (fault.UnknownKeyword node.place)
  unfolding after_each with_statement not_stray
  stray_wrong known node rest later closed = rw (later, closed) refl

  -- one that stands there is the fault
  pub stray_found : (room : ℕ) (good : List Node) (calls : List Statement) (bad : Node) (rest : List Node) → Spell site section good calls → length calls ≤ room → is_later_arm bad ≡ true
      → statements_of site section room (good ++ bad ∷ rest) ≡ Err (fault.UnknownKeyword bad.place)
  stray_found room good calls bad rest spelled within later =
      ap (λ r. r >>= λ (members : Members). Ok members.statements)
      (spelled_read site section room [] good calls (bad ∷ rest) spelled within
      ∙ stray_wrong (record { overrides = []; statements = calls; room = room - length calls }) bad rest later (calls_closed good calls spelled))
