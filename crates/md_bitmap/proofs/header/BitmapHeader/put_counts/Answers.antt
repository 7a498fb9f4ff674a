use Rattle.std.proofs.Common.{◌++◌, List, ℕ, ap, take, ◌∙◌, arith}
use Rattle.byteorder.specs.Endian.{little_bytes}
use Rattle.md_bitmap.specs.Header.{count_bytes}
use Rattle.md_bitmap.proofs.Encoded.{regroup_3}
use Rattle.md_bitmap.proofs.header.BitmapHeader.put_counts.Goals as goal

pub returns-clause-front : goal.returns-clause-front
unfolding count_bytes
returns-clause-front c =
    (c.put_u64-3.ensures.front ∙ ap (λ (xs : List ℕ). xs ++ little_bytes 8 c.args.self.now.sync_size)
    (c.put_u64-2.ensures.front ∙ ap (λ (xs : List ℕ). xs ++ little_bytes 8 c.args.self.now.events_cleared)
    (c.put_u64.ensures.front)))
    ∙ regroup_3 (take 24 c.args.out.now) (little_bytes 8 c.args.self.now.events) (little_bytes 8 c.args.self.now.events_cleared) (little_bytes 8 c.args.self.now.sync_size)

pub returns-clause-fit : goal.returns-clause-fit
returns-clause-fit c = record {
  events = omega arith;
  events_cleared = omega arith;
  sync_size = omega arith;
}
