-- The peer at an address of a socket. This project's own.
use Rattle.std.specs.Prelude.{Option, Some, None}
use Rattle.std.specs.declared.net.socket_addr.SocketAddr.{SocketAddr}
use Rattle.std.specs.declared.net.socket_addr.SocketAddr.TheVariants as socket
use Rattle.std.specs.Net.Addr.{ipv4_bits}
use Rattle.std.specs.Net.Socket.{v4_ip, v4_port}
use Rattle.rad_outside.specs.declared.listen.Peer.{Peer}

-- The peer at an address of IPv4. An address of IPv6 has none.
abbrev pub peer_at : SocketAddr → Option Peer
peer_at (socket.V4 address) = Some (record { addr = ipv4_bits (v4_ip address); port = v4_port address })
peer_at (socket.V6 address) = None
