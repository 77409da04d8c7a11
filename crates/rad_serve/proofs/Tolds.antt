-- What a kit tells over several passes.
use Rattle.std.proofs.Common.{ℕ, ◌++◌, List, [], map, refl, ap, sym, ◌∙◌, subst, append-nil}
use Rattle.std.specs.List.{AllByRecursion}
use Rattle.std.proofs.lemmas.List.{map-append}
use Rattle.rad_outside.specs.declared.crew.Kit.{Kit}
use Rattle.rad_outside.specs.declared.listen.Listen.{Listen}
use Rattle.rad_outside.specs.Telling.{Tells}
use Rattle.rad_policy.specs.declared.arrival.Arrived.{Arrived}
use Rattle.rad_core.specs.Worker.{Placed, Answer, served, answered}
use Rattle.rad_core.proofs.Histories.{served-append, answered-append, IsClosed-append, HaveOutcomes-append}
use Rattle.rad_build.specs.declared.fault.BuildFault.{BuildFault}
use Rattle.rad_site.specs.Site.{Site}
use Rattle.rad_site.specs.Meaning.{site_meaning}
use Rattle.rad_serve.specs.Told.{Told, KitTells, IsAt, Hears, Sends, GrowsBy}
use Rattle.rad_outside.proofs.Tellings.{Tells-trans, Tells-same}
use Rattle.rad_serve.proofs.Telling.{Hears-join, Sends-join, GrowsBy-join, All-append}

module _ {W S K U G : Type 0} (tells : KitTells W K U) (worker : ℕ) (listen : Listen) where
  -- nothing was done
  pub Told-same : (kit : Kit W S K U G) → Told tells worker listen kit kit []
  Told-same kit = record {
    listener = refl;
    closed = tt;
    own = tt;
    served_in_order = Tells-same (Hears []) (tells.wire kit.wire) (λ x. ([], sym (append-nil x.heard), refl));
    replies_in_order = Tells-same (Sends []) (tells.wire kit.wire) (λ x. ([], sym (append-nil x.sent), refl));
    moments_in_order = Tells-same (GrowsBy []) (tells.clock kit.clock) (λ x. sym (append-nil x));
    words = [];
    words_in_order = Tells-same (GrowsBy []) (tells.luck kit.luck) (λ x. sym (append-nil x));
    outcomes = refl;
    shelf = refl;
  }

  -- one run after another
  pub Told-trans : (a b c : Kit W S K U G) (xs ys : List (Placed Site BuildFault)) → Told tells worker listen a b xs → Told tells worker listen b c ys → Told tells worker listen a c (xs ++ ys)
  Told-trans a b c xs ys first second = record {
    listener = second.listener ∙ first.listener;
    closed = IsClosed-append xs ys first.closed second.closed;
    own = subst (AllByRecursion (IsAt worker a.listener listen)) (sym (served-append xs ys))
        (All-append (IsAt worker a.listener listen) (served xs) (served ys) first.own
        (subst (λ n. AllByRecursion (IsAt worker n listen) (served ys)) first.listener second.own));
    served_in_order = Tells-trans (Hears (xs ++ ys)) (tells.wire a.wire) (tells.wire b.wire) (tells.wire c.wire) (Hears-join xs ys) first.served_in_order second.served_in_order;
    replies_in_order = subst (λ (rs : List Answer). Tells (tells.wire a.wire) (tells.wire c.wire) (Sends rs)) (sym (answered-append xs ys first.closed))
        (Tells-trans (Sends (answered xs ++ answered ys)) (tells.wire a.wire) (tells.wire b.wire) (tells.wire c.wire) (Sends-join (answered xs) (answered ys)) first.replies_in_order second.replies_in_order);
    moments_in_order = subst (λ (ms : List ℕ). Tells (tells.clock a.clock) (tells.clock c.clock) (GrowsBy ms)) (sym (ap (map (λ (r : Arrived). r.now)) (served-append xs ys) ∙ map-append (λ (r : Arrived). r.now) (served xs) (served ys)))
        (Tells-trans (GrowsBy (map (λ (r : Arrived). r.now) (served xs) ++ map (λ (r : Arrived). r.now) (served ys))) (tells.clock a.clock) (tells.clock b.clock) (tells.clock c.clock) (GrowsBy-join (map (λ (r : Arrived). r.now) (served xs)) (map (λ (r : Arrived). r.now) (served ys))) first.moments_in_order second.moments_in_order);
    words = first.words ++ second.words;
    words_in_order = Tells-trans (GrowsBy (first.words ++ second.words)) (tells.luck a.luck) (tells.luck b.luck) (tells.luck c.luck) (GrowsBy-join first.words second.words) first.words_in_order second.words_in_order;
    outcomes = HaveOutcomes-append site_meaning first.words second.words xs ys first.closed first.outcomes second.outcomes;
    shelf = second.shelf ∙ first.shelf;
  }
