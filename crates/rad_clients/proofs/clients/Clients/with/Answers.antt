use Rattle.std.proofs.Common.{◌≡◌, ◌≤◌, List, [], ◌∷◌, ◌++◌, map, ap, sym, ◌∙◌}
use Rattle.std.proofs.lemmas.List.{map-append}
use Rattle.std.proofs.lemmas.List.Elements.{All-append}
use Rattle.rad_packet.specs.declared.client.Client.{Client}
use Rattle.rad_clients.specs.Networks.{key_of}
use Rattle.rad_clients.proofs.Nearest.{only_fits}
use Rattle.rad_clients.proofs.clients.Clients.with.Goals as goal

pub invariant_of-result : goal.invariant_of-result
invariant_of-result c =
    let rows : List Client = c.self.inside.rows.items in
    let last : List Client = c.args.client ∷ [] in
    let keys : c.in_ok-networks.networks ≡ map key_of (rows ++ last) =
    c.in_ok-networks.ensures ∙ ap (λ key. c.self.inside.networks ++ key ∷ []) c.network_key.ensures ∙ ap (λ all. all ++ map key_of last) c.self.invariant.0 ∙ sym (map-append key_of rows last) in
    rw c.in_ok-push.ensures.items (keys, All-append (λ (client : Client). client.bits ≤ 32) rows last c.self.invariant.1 (only_fits c.args.client c.requires))
