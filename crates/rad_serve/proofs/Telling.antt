-- What wires tell over several calls.
use Rattle.std.proofs.Common.{◌≡◌, ◌++◌, List, [], ◌∷◌, map, Option, Some, None, refl, ap, sym, ◌∙◌, append_assoc}
use Rattle.std.specs.List.{AllByRecursion}
use Rattle.std.specs.Option.{option_map}
use Rattle.std.proofs.lemmas.List.{map-append}
use Rattle.rad_outside.specs.declared.wire.Heard.{Heard}
use Rattle.rad_outside.specs.declared.wire.Heard.TheVariants as heard
use Rattle.rad_outside.specs.Wire.{WireTold}
use Rattle.rad_core.specs.Worker.{Answer, Placed, asked}
use Rattle.rad_core.proofs.Histories.{asked-append}
use Rattle.rad_build.specs.declared.fault.BuildFault.{BuildFault}
use Rattle.rad_site.specs.Site.{Site}
use Rattle.rad_serve.specs.Told.{datagram_of, events, taken, answer_of, Hears, Sends, GrowsBy, Datagram}
use Rattle.rad_serve.specs.Leaving.{HearsLast, StaysOpen, IsOpen}

pub events-append : (xs ys : List Heard) → events (xs ++ ys) ≡ events xs ++ events ys
events-append [] ys = refl
events-append (heard.Datagram octets from ∷ xs) ys = ap (λ (more : List (Option Datagram)). Some (record { from = from; octets = octets }) ∷ more) (events-append xs ys)
events-append (heard.Quiet ∷ xs) ys = ap (λ (more : List (Option Datagram)). None ∷ more) (events-append xs ys)
events-append (heard.Ended ∷ xs) ys = events-append xs ys
events-append (heard.Failed ∷ xs) ys = events-append xs ys

taken-append : (xs ys : List (Placed Site BuildFault)) → taken (xs ++ ys) ≡ taken xs ++ taken ys
taken-append xs ys = ap (map (option_map datagram_of)) (asked-append xs ys) ∙ map-append (option_map datagram_of) (asked xs) (asked ys)

grown : {X : Type 0} (before mid now xs ys : List X) → mid ≡ before ++ xs → now ≡ mid ++ ys → now ≡ before ++ (xs ++ ys)
grown before mid now xs ys first second = second ∙ ap (λ l. l ++ ys) first ∙ append_assoc before xs ys

pub Hears-join : (mine more : List (Placed Site BuildFault)) (x y z : WireTold) → Hears mine x y → Hears more y z → Hears (mine ++ more) x z
Hears-join mine more x y z first second = (
  first.0 ++ second.0,
  grown x.heard y.heard z.heard first.0 second.0 first.1 second.1,
  events-append first.0 second.0 ∙ ap (λ l. l ++ events second.0) first.2
      ∙ ap (λ l. taken mine ++ l) second.2 ∙ sym (taken-append mine more),
)

pub Sends-join : (arrivals bs : List Answer) (x y z : WireTold) → Sends arrivals x y → Sends bs y z → Sends (arrivals ++ bs) x z
Sends-join arrivals bs x y z first second = (
  first.0 ++ second.0,
  grown x.sent y.sent z.sent first.0 second.0 first.1 second.1,
  map-append answer_of first.0 second.0 ∙ ap (λ l. l ++ map answer_of second.0) first.2 ∙ ap (λ l. arrivals ++ l) second.2,
)

pub GrowsBy-join : {X : Type 0} (arrivals bs x y z : List X) → GrowsBy arrivals x y → GrowsBy bs y z → GrowsBy (arrivals ++ bs) x z
GrowsBy-join arrivals bs x y z first second = grown x y z arrivals bs first second

pub All-append : {X : Type 0} (P : X → Type 0) (xs ys : List X) → AllByRecursion P xs → AllByRecursion P ys → AllByRecursion P (xs ++ ys)
All-append P [] ys all more = more
All-append P (x ∷ xs) ys all more = (all.0, All-append P xs ys all.1 more)

pub StaysOpen-join : (x y z : WireTold) → StaysOpen x y → StaysOpen y z → StaysOpen x z
StaysOpen-join x y z first second = (
  first.0 ++ second.0,
  grown x.heard y.heard z.heard first.0 second.0 first.1 second.1,
  All-append IsOpen first.0 second.0 first.2 second.2,
)

pub HearsLast-join : (answer : Heard) (x y z : WireTold) → StaysOpen x y → HearsLast answer y z → HearsLast answer x z
HearsLast-join answer x y z first second = (
  first.0 ++ second.0,
  grown x.heard y.heard z.heard first.0 (second.0 ++ answer ∷ []) first.1 second.1
      ∙ ap (λ l. x.heard ++ l) (sym (append_assoc first.0 second.0 (answer ∷ []))),
  All-append IsOpen first.0 second.0 first.2 second.2,
)
