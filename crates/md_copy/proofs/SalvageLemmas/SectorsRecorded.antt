-- How far the target is rebuilt is recorded on it: what it holds it holds still.
use Rattle.std.proofs.Common.{◌≡◌, ◌∙◌, ℕ, ◌+◌, ◌*◌, ◌<◌, slice_get, Some, sym, ap, subst, arith, inl, inr}
use Rattle.std.proofs.lemmas.Bool.{both_ways, cases_Bool}
use Rattle.md_bitmap.specs.declared.chunks.Chunks.{Chunks}
use Rattle.md_bitmap.specs.Chunks.{InChunk}
use Rattle.md_bitmap.specs.Marks.{Bitmap}
use Rattle.md_kept_members.specs.Permitting.{ListsAny}
use Rattle.md_kept_members.specs.View.{MemberView}
use Rattle.md_state.specs.Members.{IsMember}
use Rattle.md_state.specs.Missing.{is_missing}
use Rattle.md_state.specs.View.{MirrorView}
use Rattle.md_array.specs.Consistency.{IsConsistent}
use Rattle.md_array.specs.Steps.Checkpoint.{Checkpoints}
use Rattle.md_copy.specs.Salvaging.Sectors.{AreSectorsHeld, IsSectorHeld, bytes_of_sector}
use Rattle.md_copy.proofs.Held.HeldRecorded.{chunks_is, data_kept, marks_is, no_stop, other_is, room, target_same, was_there}

module _ (target : ℕ) (copied : Bitmap) (v w : MirrorView) (sound : IsConsistent v) (r : Checkpoints target copied v w) where
  pub sector_still : (s : ℕ) → s < v.array.chunks.size → IsSectorHeld v target s → IsSectorHeld w target s
  sector_still s inside held = record {
    at = held.at;
    member = held.member;
    other = held.other;
    in_sync = record { member = other_is target copied v w sound r held.at held.other ∙ held.in_sync.member; in_sync = held.in_sync.in_sync };
    unlisted = held.unlisted;
    same = λ x d e there at_d at_e honest_d honest_e.
        (let m = r.may.member in
        let y = was_there target copied v w sound r target e at_e in
        let at_v : slice_get v.disks held.at ≡ Some d = sym (r.disks.tried.others held.at held.other) ∙ at_d in
        let stays = r.disks.tried.stays y.0 e y.1 at_e in
        let size = room target copied v w sound r y.0 y.1 in
        ap (λ (z : MemberView). bytes_of_sector z e.content s) (target_same target copied v w sound r x there)
        ∙ data_kept target copied v w sound r y.0 e y.1 at_e (512 * (m.superblock.data_offset + s)) 512 (omega arith) (omega (arith, inside, size))
        ∙ held.same m d y.0 r.may.at at_v y.1 honest_d (sym stays.honest ∙ honest_e));
  }

  pub sectors_recorded : AreSectorsHeld v target copied → AreSectorsHeld w target copied
  sectors_recorded held = record {
    chunks = held.chunks ∙ ap (λ (b : Bitmap). b.chunks) (sym (marks_is target copied v w sound r));
    held = λ c s low set inside.
        (let low_v = subst (λ (b : Bitmap). c < b.chunks) (marks_is target copied v w sound r) low in
        let inside_v = subst (λ (k : Chunks). InChunk k.sectors k.size c s) (chunks_is target copied v w sound r) inside in
        sector_still s inside_v.within (held.held c s low_v set inside_v));
    unlisted = λ x there c low set has lists.
        (let low_v = subst (λ (b : Bitmap). c < b.chunks) (marks_is target copied v w sound r) low in
        let lists_v : ListsAny v.array.chunks c r.may.member = listed_before x there c lists in
        elim (cases_Bool (is_missing v.array r.may.member c)) [
          | inl missing ↦
              elim (cases_Bool (is_missing w.array x c)) [
                | inl still ↦ has still
                | inr none ↦ no_stop target copied v w sound r x there c low_v missing none (inr lists_v)
              ]
          | inr none ↦ held.unlisted r.may.member r.may.at c low_v set (λ missing. both_ways (is_missing v.array r.may.member c) none missing) lists_v
        ]);
  }
    where
      listed_before : (x : MemberView) → IsMember w.array target x → (c : ℕ) → ListsAny w.array.chunks c x → ListsAny v.array.chunks c r.may.member
      listed_before x at c lists =
          let there = subst (λ (z : MemberView). ListsAny v.array.chunks c z) (target_same target copied v w sound r x at) (subst (λ (k : Chunks). ListsAny k c x) (chunks_is target copied v w sound r) lists) in
          record { sector = there.sector; inside = there.inside; bad = there.bad }
