use Rattle.std.proofs.Common.{◌≡◌, ℕ}
use Rattle.md_bitmap.specs.Marks.{is_set}
use Rattle.md_kept_members.proofs.Kept.Uniting.{IsUnion}
use Rattle.md_kept_members.proofs.marking.united_marks.Given as goal

abbrev pub invariant-loop-member : goal.invariant-loop-member
invariant-loop-member l = record {
  chunks : l.marks.chunks ≡ l.chunks;
  bits : (c : ℕ) → IsUnion l.members l.member-index c (is_set l.marks.bytes c);
}
