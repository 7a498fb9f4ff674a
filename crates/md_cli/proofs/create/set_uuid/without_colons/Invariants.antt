use Rattle.std.proofs.Common.{◌≡◌, ℕ, ◌+◌, ◌/◌, ◌<◌, get_or, length, slice_index}
use Rattle.md_cli.proofs.create.set_uuid.without_colons.Given as goal

abbrev pub invariant-loop-place : goal.invariant-loop-place
invariant-loop-place l = record {
  long : length l.digits ≡ 32;
  each : (i d : ℕ) → i < l.place → get_or l.digits i d ≡ slice_index l.text (i + i / 8);
}
