use Rattle.std.proofs.Common.{◌∙◌, rules}
use Rattle.rad_wire.proofs.Replies.{reply_in_place, reply_packet, reply_signed, reply_unsigned, unsigned_limit}
use Rattle.rad_wire.specs.Reply.{reply_attributes}
use Rattle.rad_wire.proofs.reply.reply_bytes.Goals as goal

pub sign-requires-clause-limit : goal.sign-requires-clause-limit
sign-requires-clause-limit c =
    let octets = c.args.request.now.octets.now in
    let pairs = c.args.lists.now.reply in
    let unsigned = reply_unsigned c.args.code c.args.request.now.id c.proxy_states_len-limit.result pairs octets c.extend_from_slice-2.new.self.items c.push_pairs.new.reply.items c.push_proxy_states.new.reply.items c.requires.well_formed c.requires.id c.proxy_states_len-limit.ensures.value
    (search rules) c.in_ok-push_pairs.ensures.written c.in_ok-push_proxy_states.ensures in
    unsigned_limit c.args.code pairs octets c.push_proxy_states.new.reply.items c.requires.well_formed unsigned

pub returns-clause-octets : goal.returns-clause-octets
returns-clause-octets c =
    let octets = c.args.request.now.octets.now in
    let pairs = c.args.lists.now.reply in
    let unsigned = reply_unsigned c.args.code c.args.request.now.id c.proxy_states_len-limit.result pairs octets c.extend_from_slice-2.new.self.items c.push_pairs.new.reply.items c.push_proxy_states.new.reply.items c.requires.well_formed c.requires.id c.proxy_states_len-limit.ensures.value
    (search rules) c.in_ok-push_pairs.ensures.written c.in_ok-push_proxy_states.ensures in
    c.from_vec.ensures ∙ c.shrink_to_fit.ensures.items ∙ c.sign.ensures
    ∙ reply_in_place c.args.code pairs octets c.push_proxy_states.new.reply.items c.args.secret.now unsigned

pub returns-clause-well_formed : goal.returns-clause-well_formed
returns-clause-well_formed c =
    let octets = c.args.request.now.octets.now in
    rw (returns-clause-octets c) (reply_attributes c.args.lists.now.reply octets, reply_packet c.args.code c.args.lists.now.reply octets c.args.secret.now c.requires.well_formed)

pub returns-clause-signed : goal.returns-clause-signed
returns-clause-signed c =
    rw (returns-clause-octets c, c.requires.id)
    (reply_signed c.args.code c.args.lists.now.reply c.args.request.now.octets.now c.args.secret.now)

pub returns-clause-limit : goal.returns-clause-limit
returns-clause-limit c =
    let packet = reply_packet c.args.code c.args.lists.now.reply c.args.request.now.octets.now c.args.secret.now c.requires.well_formed in
    rw (returns-clause-octets c) packet.limit
