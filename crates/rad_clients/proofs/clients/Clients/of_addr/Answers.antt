use Rattle.rad_clients.proofs.Nearest.{is_nearest, is_stranger}
use Rattle.std.specs.Option.{option_copied}
use Rattle.rad_clients.proofs.clients.Clients.of_addr.Goals as goal

pub returns-clause-nearest : goal.returns-clause-nearest
returns-clause-nearest c = is_nearest c.args.addr c.args.self.now (option_copied c.nearest.result) c.nearest.ensures c.each_prefix_fits.ensures

pub returns-clause-stranger : goal.returns-clause-stranger
returns-clause-stranger c = is_stranger c.args.addr c.args.self.now (option_copied c.nearest.result) c.nearest.ensures c.each_prefix_fits.ensures
