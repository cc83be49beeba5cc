use Rattle.std.proofs.Common.{rules}
use Rattle.wire.specs.Layout.{message_of}
use Rattle.messages.proofs.Located.{propose_located, prepare_located, commit_located, new_view_located}
use Rattle.messages.proofs.message.read_message.Goals as goal

pub returns-in-1 : goal.returns-in-1
unfolding message_of
returns-in-1 c = let e = propose_located c.args.packet.limit.bytes c.args.packet.bytes.now in search rules

pub returns-in-2 : goal.returns-in-2
unfolding message_of
returns-in-2 c = let e = prepare_located c.args.packet.limit.bytes c.args.packet.bytes.now in search rules

pub returns-in-3 : goal.returns-in-3
unfolding message_of
returns-in-3 c = let e = commit_located c.args.packet.limit.bytes c.args.packet.bytes.now in search rules

pub returns-in-4 : goal.returns-in-4
unfolding message_of
returns-in-4 c = let e = new_view_located c.args.packet.limit.bytes c.args.packet.bytes.now in search rules
