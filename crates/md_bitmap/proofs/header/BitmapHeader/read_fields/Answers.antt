use Rattle.md_bitmap.proofs.Accepted.{magic_is, version_is, sound_is}
use Rattle.md_bitmap.proofs.header.BitmapHeader.read_fields.Goals as goal

pub invariant_of-result : goal.invariant_of-result
invariant_of-result c = record {
  sound = rw (c.u64_at-3.ensures, c.u32_at-2.ensures) (sound_is c.args.bytes.now c.requires);
}

pub returns : goal.returns
returns c = record {
  magic = magic_is c.args.bytes.now c.requires;
  version = version_is c.args.bytes.now c.requires;
  uuid = c.uuid_at.ensures;
  events = c.u64_at.ensures;
  events_cleared = c.u64_at-2.ensures;
  sync_size = c.u64_at-3.ensures;
  state = c.u32_at.ensures;
  chunksize = c.u32_at-2.ensures;
  daemon_sleep = c.u32_at-3.ensures;
  write_behind = c.u32_at-4.ensures;
  sectors_reserved = c.u32_at-5.ensures;
  nodes = c.u32_at-6.ensures;
  cluster_name = c.array_at.ensures;
}
