-- Whether a kernel may be given an array as it stands. The reasons are those of the kernel's md driver (md_check_recovery, which rebuilds
-- before it makes members agree, and super_1_validate) and of mdadm, as they were seen in a virtual machine; the text is this project's own.
use Rattle.std.specs.Prelude.{ℕ, ◌*◌, ◌==◌, ◌&&◌, ◌||◌, not, nat_lt, Bool, List, [], ◌++◌, Option, Some, None, codes, if◌then◌else◌}
use Rattle.std.specs.List.{list_any, range_with_len}
use Rattle.md_super.specs.declared.superblock.Superblock.{Superblock}
use Rattle.md_assembly.specs.declared.state.MemberState.{MemberState}
use Rattle.md_assembly.specs.States.{has_recovery_offset, is_in_sync, is_recovering, is_spare, is_up_to_date}
use Rattle.md_bitmap.specs.Marks.{is_set}
use Rattle.md_kept_members.specs.View.{MemberView}
use Rattle.md_state.specs.Members.{clean_offset}
use Rattle.md_state.specs.View.{ArrayView}
use Rattle.md_notices.specs.Dropping.{is_faulty}
use Rattle.md_notices.specs.Parting.{is_active_by_own}
use Rattle.md_notices.specs.declared.kernel.Sign.{Sign}
use Rattle.md_notices.specs.declared.kernel.Sign.TheVariants as sign
use Rattle.md_notices.specs.declared.kernel.Unready.{Unready}
use Rattle.md_notices.specs.declared.kernel.Unready.TheVariants as why

-- the chunk is marked, and begins before the sector
abbrev pub marks_below : ArrayView → ℕ → ℕ → Bool
marks_below a sector chunk = is_set a.marks.bytes chunk && nat_lt (chunk * a.chunks.sectors) sector

-- some chunk is
abbrev pub is_marked_below : ArrayView → ℕ → Bool
is_marked_below a sector = list_any (marks_below a sector) (range_with_len 0 a.marks.chunks)

-- The device in this state is faulty, and by its own superblock, which is at most one event older than the array's, recovering in a role,
-- and in part rebuilt: the others were written to without it.
abbrev pub is_left_out : Superblock → MemberState → Superblock → Bool
is_left_out shared state own =
    is_faulty state && is_active_by_own own && has_recovery_offset own && nat_lt 0 own.recovery_offset
    && is_up_to_date shared own

-- what is asked of a member, by its state and its own superblock
abbrev pub shows : ArrayView → Sign → MemberView → Bool
shows a sign.Waiting m = is_recovering m.state || is_spare m.state
shows a sign.Unclean m = is_in_sync m.state && not (m.superblock.resync_offset == clean_offset)
shows a sign.Newest m = is_in_sync m.state && not m.due
shows a sign.Ahead m = is_recovering m.state && not m.due
shows a sign.Saying m = is_recovering m.state && is_marked_below a m.superblock.recovery_offset
shows a sign.LeftOut m = is_left_out a.shared m.state m.superblock

abbrev pub has_one : ArrayView → Sign → Bool
has_one a wanted = list_any (shows a wanted) a.members

-- Members in sync may differ, since the array was not stopped in order, and a kernel rebuilds another one first. Where it was, marks of
-- a degraded array tell only what a member lacks that is not there.
abbrev pub may_differ : ArrayView → Bool
may_differ a = not a.resynced && has_one a sign.Waiting && has_one a sign.Unclean

-- The superblocks of all members in sync are older than that of one that is recovering: they don't tell of its role.
abbrev pub told_by_one : ArrayView → Bool
told_by_one a = has_one a sign.Ahead && not (has_one a sign.Newest)

-- The first reason why a kernel may not be given the array.
abbrev pub why_unready : ArrayView → Option Unready
why_unready a =
    if may_differ a then Some why.MayDiffer else
    if told_by_one a then Some why.ToldByOne else
    if has_one a sign.Saying then Some why.SaysMarked else
    if has_one a sign.LeftOut then Some why.LeftOut else None

-- ---- what is said of it

-- the command that is to be run first
abbrev pub command_before : Unready → List ℕ
command_before why.MayDiffer = codes "resync"
command_before why.ToldByOne = codes "rebuild"
command_before why.SaysMarked = codes "rebuild"
command_before why.LeftOut = codes "add"

abbrev pub reason_words : Unready → List ℕ
reason_words why.MayDiffer =
    codes "run mdcli resync first: members in sync may differ, and it would rebuild another one before\n"
reason_words why.ToldByOne =
    codes "run mdcli rebuild first: no other superblock tells of the recovering member's role yet\n"
reason_words why.SaysMarked =
    codes "run mdcli rebuild first: it takes marked chunks before a recovery offset for copied\n"
reason_words why.LeftOut =
    codes "run mdcli add first, of the faulty member: one from before 2024 takes it for recovering still\n"

abbrev pub unready_reason_text : Unready → List ℕ
unready_reason_text reason = codes "mdcli: not ready for a kernel: " ++ reason_words reason

abbrev pub unready_text : Option Unready → List ℕ
unready_text None = []
unready_text (Some reason) = unready_reason_text reason
