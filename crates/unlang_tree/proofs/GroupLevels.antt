-- What stands within a statement, by how many statements more may stand within one another.
use Rattle.std.proofs.Common.{◌≡◌, ℕ, zero, suc, ◌-◌, ◌<◌, List, Err, refl, ap, arith}
use Rattle.rad_outside.specs.declared.files.Place.{Place}
use Rattle.rad_conf.specs.declared.tree.Node.{Node}
use Rattle.rad_words.specs.declared.sections.Section.{Section}
use Rattle.unlang_tree.specs.declared.fault.TreeFault.TheVariants as fault
use Rattle.unlang_tree.specs.declared.statement.GroupForm.{GroupForm}
use Rattle.unlang_tree.specs.declared.statement.Override.{Override}
use Rattle.unlang_tree.specs.Sites.{Site}
use Rattle.unlang_tree.specs.Readings.{after_each}
use Rattle.unlang_tree.specs.Depths.{Depth}
use Rattle.unlang_tree.specs.Groups.{with_member, begun, opened_at}

module _ (site : Site) (section : Section) where
  pub none_within : (within : ℕ) (depth : Depth) (place : Place) (form : GroupForm) (own : List Override) (room : ℕ) (body : List Node) → within ≡ 0
      → opened_at site section within depth place form own room body ≡ Err (fault.TooMany place)
  unfolding opened_at
  none_within zero depth place form own room body none = refl
  none_within (suc within) depth place form own room body none = absurd (omega (arith, none))

  pub some_within : (within : ℕ) (depth : Depth) (place : Place) (form : GroupForm) (own : List Override) (room : ℕ) (body : List Node) → 0 < within
      → opened_at site section within depth place form own room body
      ≡ after_each (with_member (opened_at site section (within - 1)) site section depth form) (begun own room) body
  unfolding opened_at
  some_within zero depth place form own room body some = absurd (omega (arith, some))
  some_within (suc within) depth place form own room body some =
      let less : within ≡ suc within - 1 = omega arith in
      ap (λ n. after_each (with_member (opened_at site section n) site section depth form) (begun own room) body) less
