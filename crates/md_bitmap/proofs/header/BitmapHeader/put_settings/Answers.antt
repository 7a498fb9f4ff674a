use Rattle.std.proofs.Common.{◌++◌, List, ℕ, ap, take, ◌∙◌, arith}
use Rattle.byteorder.specs.Endian.{little_bytes}
use Rattle.md_bitmap.specs.Header.{setting_bytes}
use Rattle.md_bitmap.proofs.header.BitmapHeader.put_settings.Goals as goal
use Rattle.md_format.proofs.Written.{regroup_6}

pub returns-clause-front : goal.returns-clause-front
unfolding setting_bytes
returns-clause-front c =
    (c.put_u32-6.ensures.front ∙ ap (λ (xs : List ℕ). xs ++ little_bytes 4 c.args.self.now.nodes)
    (c.put_u32-5.ensures.front ∙ ap (λ (xs : List ℕ). xs ++ little_bytes 4 c.args.self.now.sectors_reserved)
    (c.put_u32-4.ensures.front ∙ ap (λ (xs : List ℕ). xs ++ little_bytes 4 c.args.self.now.write_behind)
    (c.put_u32-3.ensures.front ∙ ap (λ (xs : List ℕ). xs ++ little_bytes 4 c.args.self.now.daemon_sleep)
    (c.put_u32-2.ensures.front ∙ ap (λ (xs : List ℕ). xs ++ little_bytes 4 c.args.self.now.chunksize)
    (c.put_u32.ensures.front))))))
    ∙ regroup_6 (take 48 c.args.out.now) (little_bytes 4 c.args.self.now.state) (little_bytes 4 c.args.self.now.chunksize) (little_bytes 4 c.args.self.now.daemon_sleep) (little_bytes 4 c.args.self.now.write_behind) (little_bytes 4 c.args.self.now.sectors_reserved) (little_bytes 4 c.args.self.now.nodes)

pub returns-clause-fit : goal.returns-clause-fit
returns-clause-fit c = record {
  state = omega arith;
  chunksize = omega arith;
  daemon_sleep = omega arith;
  write_behind = omega arith;
  sectors_reserved = omega arith;
  nodes = omega arith;
}
