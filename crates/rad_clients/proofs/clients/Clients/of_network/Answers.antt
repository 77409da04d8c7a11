use Rattle.std.proofs.Common.{◌≡◌, Bool, List, refl, ap, ◌∙◌}
use Rattle.std.specs.List.{find}
use Rattle.rad_packet.specs.declared.client.Client.{Client}
use Rattle.rad_index.specs.Places.{places_of}
use Rattle.rad_index.specs.Search.{found_at}
use Rattle.rad_index.proofs.Searches.{looked_up}
use Rattle.rad_clients.specs.Networks.{is_of, network_key, key_of}
use Rattle.rad_clients.proofs.Nearest.{key_only}
use Rattle.rad_clients.proofs.clients.Clients.of_network.Goals as goal

pub returns : goal.returns
returns c =
    let test : Client → Bool = is_of c.args.bits c.args.addr in
    let places = c.places-places.result.now in
    let at : places ≡ places_of (network_key c.args.bits c.args.addr) c.self.inside.networks = rw (c.places-places.ensures, c.network_key.ensures) refl in
    c.client_at.ensures ∙ ap (λ (rows : List Client). found_at test rows places) c.as_slice.ensures.value
    ∙ looked_up test key_of (network_key c.args.bits c.args.addr) (key_only c.args.bits c.args.addr) c.self.inside.rows.items c.self.inside.networks places at c.self.invariant.0
    ∙ ap (find test) c.self.view_is
