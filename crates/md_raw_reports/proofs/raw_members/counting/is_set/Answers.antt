use Rattle.std.proofs.Common.{◌/◌, ◌%◌, slice_index, refl}
use Rattle.std.proofs.lemmas.Nat.Bits.{shr_and_one}
use Rattle.md_bitmap.specs.Marks.{is_set}
use Rattle.md_raw_reports.proofs.raw_members.counting.is_set.Goals as goal

pub returns : goal.returns
unfolding is_set
returns c = rw (shr_and_one (slice_index c.args.bytes.now (c.args.i / 8)) (c.args.i % 8)) refl
