-- Marks that are stored on the members in sync, and a record of a member that was given nothing.
use Rattle.std.proofs.Common.{◌≡◌, ◌<◌, ◌∙◌, ℕ, true, false, true≢false, inl, inr, length, ap, arith, subst, sym}
use Rattle.std.proofs.lemmas.Option.{slice_get_cases}
use Rattle.md_array.specs.Steps.Checkpoint.{MayCheckpoint}
use Rattle.md_array.specs.Steps.NoteResynced.{AreNoted}
use Rattle.md_assembly.specs.States.{is_recovering}
use Rattle.md_bitmap.specs.Marks.{Bitmap, is_set}
use Rattle.md_kept_members.specs.View.{MemberView}
use Rattle.md_metadata.specs.Storing.{HasAllMarks, IsMarking, StoresAll}
use Rattle.md_state.specs.Steps.MakeClean.{IsIdle}
use Rattle.md_state.specs.Members.{IsMember}
use Rattle.md_state.specs.View.{ArrayView, MirrorView}

pub noted_after : (old new : MirrorView) → StoresAll IsMarking (HasAllMarks old.array.marks) old new → AreNoted new.array
noted_after old new stored i c m in_sync low on =
    let marks : new.array.marks ≡ old.array.marks = ap (λ (a : ArrayView). a.marks) stored.stores.ready.others in
    stored.done i m in_sync c (subst (λ (b : Bitmap). c < b.chunks) marks low) ∙ ap (λ (b : Bitmap). is_set b.bytes c) (sym marks) ∙ on

pub may_checkpoint : (k : ℕ) (none : Bitmap) (v : MirrorView) → k < length v.array.members
    → ((m : MemberView) → IsMember v.array k m → is_recovering m.state ≡ true) → IsIdle v.array → v.array.resynced ≡ true
    → AreNoted v.array → none.chunks ≡ v.array.marks.chunks → ((c : ℕ) → is_set none.bytes c ≡ false) → MayCheckpoint k none v
may_checkpoint k none v within recovering idle resynced noted chunks empty = elim (slice_get_cases v.array.members k).1 [
  | inl (m, low, at, is) ↦ record {
    member = m;
    at = at;
    recovering = recovering m at;
    idle = idle;
    resynced = resynced;
    noted = noted;
    copied_chunks = chunks;
    holds = λ honest content has d n disk is_n c s below on inside. absurd (true≢false (sym on ∙ empty c));
  }
  | inr (past, none_there) ↦ absurd (omega (arith, within, past))
]
