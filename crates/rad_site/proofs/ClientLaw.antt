-- The clients of a site are what its blocks say, each of a network of its own.
use Rattle.std.specs.Prelude.{map, filter, find, nat_le, length, if◌then◌else◌}
use Rattle.std.specs.Option.{is_some}
use Rattle.std.proofs.Common.{◌≡◌, Bool, true, false, ◌||◌, List, [], ◌∷◌, ◌++◌, Option, Some, Result, Ok, refl, sym, ap, subst, ◌∙◌}
use Rattle.rad_conf.specs.declared.tree.Node.{Node}
use Rattle.rad_packet.specs.declared.client.Client.{Client}
use Rattle.rad_clients.specs.Networks.{is_of}
use Rattle.rad_build.specs.declared.fault.BuildFault.{BuildFault}
use Rattle.rad_build.specs.declared.fault.BuildFault.TheVariants as fault
use Rattle.rad_build.specs.Nodes.{◌>>=◌, bad_setting, after_each}
use Rattle.rad_build.specs.Said.{AreNew}
use Rattle.rad_build.specs.ClientBlock.{client_at}
use Rattle.rad_build.specs.ClientsSaid.{said_client, IsOfAnother}
use Rattle.rad_build.proofs.Saying.{behind, past, same_ok, none_is, Adds, Says, all_said}
use Rattle.rad_build.proofs.ClientsSaid.{client_said}
use Rattle.rad_site.specs.Built.{most_clients, is_client, none_unbuilt, with_client, with_item, clients_in}

neither_first : (a b : Bool) → (a || b) ≡ false → a ≡ false
neither_first true b is = absurd (cc)
neither_first false b is = refl

client_adds : (node : Node) (known all : List Client) → with_client known node ≡ Ok all → Adds IsOfAnother known (said_client node) all
unfolding with_client
client_adds node known all is =
    behind (client_at node) (λ client. if is_some (find (is_of client.bits client.addr) known) || nat_le most_clients (length known) then bad_setting node.place client.name else Ok (known ++ client ∷ [])) all is (λ client now later.
    let stands = is_some (find (is_of client.bits client.addr) known) in
    let free = past (stands || nat_le most_clients (length known)) (fault.BadSetting node.place client.name) (Ok (known ++ client ∷ [])) all later in
    record {
      one = client;
      is_said = client_said node client now;
      joined = same_ok (known ++ client ∷ []) all free.1;
      new = none_is (find (is_of client.bits client.addr) known) (neither_first stands (nat_le most_clients (length known)) free.0);
    })

all_clients : (nodes : List Node) (clients : List Client) → clients_in nodes ≡ Ok clients → Says IsOfAnother said_client [] (filter is_client nodes) clients
unfolding clients_in
all_clients nodes clients is =
    behind (none_unbuilt nodes) (λ built. after_each with_item [] nodes) clients is (λ built now later.
    all_said IsOfAnother said_client is_client with_client with_item (λ known node. refl) client_adds [] nodes clients later)

pub said_by_blocks : (nodes : List Node) (clients : List Client) → clients_in nodes ≡ Ok clients → map (λ (one : Client). Some one) clients ≡ map said_client (filter is_client nodes)
said_by_blocks nodes clients is = let all = all_clients nodes clients is in ap (λ (cs : List Client). map (λ (one : Client). Some one) cs) all.joined ∙ all.said

pub are_new : (nodes : List Node) (clients : List Client) → clients_in nodes ≡ Ok clients → AreNew IsOfAnother [] clients
are_new nodes clients is = let all = all_clients nodes clients is in subst (AreNew IsOfAnother []) (sym all.joined) all.new
