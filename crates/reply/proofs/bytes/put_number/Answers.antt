use Rattle.reply.proofs.Numbers.{number_put}
use Rattle.reply.proofs.bytes.put_number.Goals as goal

pub returns : goal.returns
returns c = number_put c.args.width c.args.value c.requires c.extend_from_slice.result c.args.out.now.items c.to_be_bytes.ensures c.extend_from_slice.ensures.items
