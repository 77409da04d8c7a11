use Rattle.std.proofs.Common.{rules, ◌≡◌, true, List, ℕ, sym, ap, ◌∙◌, subst, length}
use Rattle.rad_turn.specs.Names.{is_rising, without_name}
use Rattle.rad_turn.proofs.Naming.{without_rising}
use Rattle.rad_turn.proofs.Having.{empty_is}
use Rattle.rad_turn.proofs.Sharing.{glues_idle, settles_glued, join_leaves}
use Rattle.rad_turn.proofs.desk.Desk.join.Goals as goal

pub join_seat-requires : goal.join_seat-requires
join_seat-requires g c = let seat = c.args.seat.now in let other = c.args.other in
    (search rules, search rules, empty_is _ other.empty, search rules, glues_idle g.S.Stands.stands g.S.Stands.origin g.S.Stands.by _ _ seat.place.me.0 other.place.me.0 seat.idle other.idle c.requires.first)

pub load-requires : goal.load-requires
load-requires g c = let seat = c.args.seat.now in let other = c.args.other in
    (search rules, search rules, settles_glued g.S.Stands.stands g.S.Stands.origin g.S.Stands.by _ _ seat.place.me.0 other.place.me.0 _ _ seat.idle other.idle c.requires.first c.join_seat.ensures.2)

pub invariant_of-seat : goal.invariant_of-seat
invariant_of-seat g c =
    let seat = c.args.seat.now in let other = c.args.other in
    let gone : c.remove_name.new.out.items ≡ without_name other.name seat.out.items = c.remove_name.ensures in
    let leaves = join_leaves g.S.Stands.by seat.place.me.0 other.place.me.0 seat.idle other.idle seat.place.me.1 _ _ c.join_seat.ensures.2 c.load.ensures.2 in record {
      idle = leaves.0;
      empty = ap length leaves.1 ∙ seat.empty;
      named = leaves.2 ∙ seat.named;
      others = leaves.3 ∙ ((λ i. without_name (other.named i) (seat.others i)) ∙ sym {A = List ℕ} gone);
      rising = subst (λ (out : List ℕ). is_rising 0 out ≡ true) (sym {A = List ℕ} gone) (without_rising 0 other.name seat.out.items seat.rising);
    }

pub returns-clause-joins : goal.returns-clause-joins
returns-clause-joins g c =
    let seat = c.args.seat.now in let other = c.args.other in
    let leaves = join_leaves g.S.Stands.by seat.place.me.0 other.place.me.0 seat.idle other.idle seat.place.me.1 _ _ c.join_seat.ensures.2 c.load.ensures.2 in
    leaves.4 _
