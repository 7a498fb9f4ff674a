use Rattle.std.proofs.Common.{length}
use Rattle.std.specs.Int.{w32, w64, to_be_bytes}
use Rattle.md_nbd.specs.OptionReplies.{option_reply_magic}
use Rattle.md_nbd.proofs.Joined.{joined}
use Rattle.md_nbd.proofs.option_replies.put_option_reply.Goals as goal

pub returns : goal.returns
returns c =
    joined c.args.out.now.items c.put_reply_head.new.out.items c.put_sized.new.out.items (to_be_bytes w64 option_reply_magic) (to_be_bytes w32 c.args.option)
    (to_be_bytes w32 c.args.kind) (to_be_bytes w32 (length c.args.body.now)) c.args.body.now c.in_ok-put_reply_head.ensures c.in_ok-put_sized.ensures
