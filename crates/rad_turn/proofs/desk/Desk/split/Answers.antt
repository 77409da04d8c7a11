use Rattle.std.proofs.Common.{rules, ◌≡◌, true, List, ℕ, sym, ap, ◌∙◌, subst, length}
use Rattle.rad_turn.specs.Seats.{out_of}
use Rattle.rad_turn.specs.Names.{is_rising, least_free, with_name}
use Rattle.rad_turn.proofs.Naming.{least_is, with_rising}
use Rattle.rad_turn.proofs.Sharing.{cuts_idle, cut_keeps, parts}
use Rattle.rad_turn.proofs.desk.Desk.split.Goals as goal

pub split_seat-place-requires : goal.split_seat-place-requires
split_seat-place-requires g c = let seat = c.args.seat.now in (search rules, search rules, cuts_idle g.S.Stands.stands g.S.Stands.origin g.S.Stands.by _ seat.place.me.0 seat.idle c.requires.first)

pub invariant_of-seat-2 : goal.invariant_of-seat-2
invariant_of-seat-2 g c =
    let seat = c.args.seat.now in
    let keeps = cut_keeps seat.place.me.0 seat.place.me.1 _ seat.idle c.split_seat-place.ensures.2 in
    let name : c.free_name-name.result ≡ least_free seat.out.items = search rules in
    let told : c.add_name.new.out.items ≡ with_name c.free_name-name.result seat.out.items = c.in_ok-add_name.ensures.added in
    let same : with_name c.free_name-name.result seat.out.items ≡ with_name (least_free seat.out.items) seat.out.items = ap (λ (n : ℕ). with_name n seat.out.items) name in
    let added : c.add_name.new.out.items ≡ with_name (least_free seat.out.items) seat.out.items = ◌∙◌ {A = List ℕ} told same in
    let names : with_name (least_free (out_of seat.place.me.0)) (out_of seat.place.me.0) ≡ with_name (least_free seat.out.items) seat.out.items = ap (λ (out : List ℕ). with_name (least_free out) out) seat.others in
    let least = least_is seat.out.items seat.rising in record {
      idle = keeps.0;
      empty = ap length keeps.1 ∙ seat.empty;
      named = keeps.2 ∙ seat.named;
      others = keeps.3 ∙ (names ∙ sym {A = List ℕ} added);
      rising = subst (λ (out : List ℕ). is_rising 0 out ≡ true) (sym {A = List ℕ} added) (with_rising 0 (least_free seat.out.items) seat.out.items seat.rising least.positive least.free);
    }

pub returns-clause-parts : goal.returns-clause-parts
returns-clause-parts g c =
    let seat = c.args.seat.now in
    let told = c.split_seat-place.ensures in
    let up : is_rising 0 (out_of seat.place.me.0) ≡ true = ap (λ (out : List ℕ). is_rising 0 out) seat.others ∙ seat.rising in
    (search rules, parts seat.place.me.0 _ _ seat.idle _ _ (ap (λ m. m.0) told.2) (ap (λ m. m.0) told.4) up)
