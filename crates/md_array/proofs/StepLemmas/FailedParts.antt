-- A write of a part of a member failed, and made its member faulty or halted the mirror: which write it was, whatever the part.
use Rattle.std.proofs.Common.{◌≡◌, ℕ, true, ap}
use Rattle.md_model.specs.Events.{Event, MemberPart}
use Rattle.md_members.specs.DeviceWrites.Writes.{Write}
use Rattle.md_kept_members.specs.View.{MemberView}
use Rattle.md_state.specs.View.{ArrayView, MirrorView}
use Rattle.md_state.specs.Members.{IsMember}
use Rattle.md_state.specs.Trying.{FailsWriting, HaltsWriting}
use Rattle.md_state.specs.Steps.WriteMember.{data_write}
use Rattle.md_state.specs.Steps.CopyData.{run_write}
use Rattle.md_array.specs.Steps.Record.{super_write}
use Rattle.md_array.specs.InTurn.{Did, HaltsAt, Requests}

module _ (k : ℕ) (old new : MirrorView) (before : Requests) where
  pub failed_write : (part : MemberPart) (after : Requests) → Did old before (Event.WriteFails k part) new after → (w : Write) × FailsWriting k w old new
  failed_write MemberPart.Superblock after did = (super_write old.array did.1.member, did.1.fails)
  failed_write (MemberPart.BitmapSector b) after did = (did.1.write, did.1.fails)
  failed_write (MemberPart.RequestData n) after did = (data_write did.5.member did.0, did.5.fails)
  failed_write (MemberPart.CopiedSectors s n) after did = (run_write did.1.copy.may.target s did.1.bytes, did.1.fails)
  failed_write MemberPart.Log after did = (did.1.write, did.1.fails)

  pub halting_write : (part : MemberPart) → HaltsAt old before (Event.WriteFails k part) new → (w : Write) × (m : MemberView) × IsMember old.array k m × HaltsWriting k w old new
  halting_write MemberPart.Superblock h = (super_write old.array h.member, h.member, h.may.at, h.halts)
  halting_write (MemberPart.BitmapSector b) h = (h.write, h.member, h.may.in_sync.member, h.halts)
  halting_write (MemberPart.RequestData n) h = (data_write h.3.member h.0, h.3.member, h.3.may.intent.in_sync.member, h.3.halts)
  halting_write (MemberPart.CopiedSectors s n) h = (run_write h.copy.may.target s h.bytes, h.copy.may.target, h.copy.may.in_sync.member, h.halts)
  halting_write MemberPart.Log h = (h.write, h.member, h.in_sync.member, h.halts)

-- a mirror that such a write halted is as it was, but for that
module _ (old new : MirrorView) (before : Requests) where
  pub halted_array : (e : Event) → HaltsAt old before e new → new.array ≡ record old.array { halted = true }
  halted_array (Event.WriteFails k part) h = (halting_write k old new before part h).3.array.array
  halted_array e h = absurd h

  pub halted_then : (e : Event) → HaltsAt old before e new → new.array.halted ≡ true
  halted_then e h = ap (λ (a : ArrayView). a.halted) (halted_array e h)
