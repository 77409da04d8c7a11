use Rattle.std.proofs.Common.{◌≡◌, length}
use Rattle.rad_index.specs.Search.{found_at}
use Rattle.rad_clients.specs.Networks.{is_of}
use Rattle.rad_clients.proofs.clients.client_at.Given as goal

abbrev pub invariant-loop-place : goal.invariant-loop-place
invariant-loop-place l = found_at (is_of l.bits l.addr) l.rows l.rest ≡ found_at (is_of l.bits l.addr) l.rows l.places

abbrev pub decreases-loop-place : goal.decreases-loop-place
decreases-loop-place l = length l.rest
