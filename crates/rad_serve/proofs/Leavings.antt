-- How a worker leaves, after what it has served before.
use Rattle.std.proofs.Common.{◌++◌, List, [], ◌∷◌, Option, Some, None, ap, sym, ◌∙◌, append_assoc, append-nil, IsTrue}
use Rattle.rad_outside.specs.declared.wire.Heard.TheVariants as heard
use Rattle.rad_outside.specs.Telling.{Tells}
use Rattle.rad_core.specs.declared.entry.Entry.TheVariants.{Look, Stop}
use Rattle.rad_core.specs.Worker.{Placed, At, OnlyServes, is_service}
use Rattle.rad_build.specs.declared.fault.BuildFault.{BuildFault}
use Rattle.rad_serve.specs.declared.left.Left.{Left}
use Rattle.rad_serve.specs.declared.left.Left.TheVariants as left
use Rattle.rad_site.specs.Site.{Site}
use Rattle.rad_serve.specs.Told.{KitTells}
use Rattle.rad_serve.specs.Leaving.{Leaves, HearsLast, StaysOpen}
use Rattle.rad_outside.proofs.Tellings.{Tells-trans, Tells-same}
use Rattle.rad_serve.proofs.Telling.{HearsLast-join, StaysOpen-join, All-append}

both_serve : (xs ys : List (Placed Site BuildFault)) → OnlyServes xs → OnlyServes ys → OnlyServes (xs ++ ys)
both_serve xs ys first second = All-append (λ (entry : Placed Site BuildFault). IsTrue (is_service entry)) xs ys first second

-- a wire that wasn't asked
pub unasked : {W K U : Type 0} (tells : KitTells W K U) (wire : W) → Tells (tells.wire wire) (tells.wire wire) StaysOpen
unasked tells wire = Tells-same StaysOpen (tells.wire wire) (λ x. ([], sym (append-nil x.heard), tt))

module _ {W K U : Type 0} (tells : KitTells W K U) (a b c : W) (xs ys : List (Placed Site BuildFault)) where
  pub Leaves-join : (way : Option Left) → Leaves tells None a b xs → Leaves tells way b c ys → Leaves tells way a c (xs ++ ys)
  Leaves-join None first leaves = (
    both_serve xs ys first.0 leaves.0,
    Tells-trans StaysOpen (tells.wire a) (tells.wire b) (tells.wire c) StaysOpen-join first.1 leaves.1,
  )
  Leaves-join (Some left.Ended) first leaves = (
    both_serve xs ys first.0 leaves.0,
    leaves.1,
    Tells-trans (HearsLast heard.Ended) (tells.wire a) (tells.wire b) (tells.wire c) (HearsLast-join heard.Ended) first.1 leaves.2,
  )
  Leaves-join (Some left.Stopped) first leaves = (
    record {
      front = xs ++ leaves.0.front;
      before = leaves.0.before;
      worker = leaves.0.worker;
      seen = leaves.0.seen;
      last = ap (λ l. xs ++ l) leaves.0.last ∙ sym (append_assoc xs leaves.0.front (At leaves.0.before (Look leaves.0.worker leaves.0.seen) ∷ []));
      shows = leaves.0.shows;
      only = both_serve xs leaves.0.front first.0 leaves.0.only;
    },
    Tells-trans (HearsLast heard.Quiet) (tells.wire a) (tells.wire b) (tells.wire c) (HearsLast-join heard.Quiet) first.1 leaves.1,
  )
  Leaves-join (Some left.Deaf) first leaves = (
    record {
      front = xs ++ leaves.0.front;
      before = leaves.0.before;
      worker = leaves.0.worker;
      last = ap (λ l. xs ++ l) leaves.0.last ∙ sym (append_assoc xs leaves.0.front (At leaves.0.before (Stop leaves.0.worker) ∷ []));
      only = both_serve xs leaves.0.front first.0 leaves.0.only;
    },
    leaves.1,
    Tells-trans StaysOpen (tells.wire a) (tells.wire b) (tells.wire c) StaysOpen-join first.1 leaves.2,
  )
  Leaves-join (Some left.Worn) first leaves = (
    both_serve xs ys first.0 leaves.0,
    Tells-trans StaysOpen (tells.wire a) (tells.wire b) (tells.wire c) StaysOpen-join first.1 leaves.1,
  )
