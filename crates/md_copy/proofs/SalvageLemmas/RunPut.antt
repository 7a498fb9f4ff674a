-- A run of sectors that the target lacks was written to it: the devices are back, and nothing else changed.
use Rattle.std.proofs.Common.{◌≡◌, ◌∙◌, ◌⊎◌, ℕ, ◌+◌, ◌-◌, ◌*◌, ◌/◌, ◌%◌, ◌<◌, ◌≤◌, true, List, [], length, slice_get, Result, Ok, Err, MatchResult, ◌++◌, drop, take, append-nil, refl, sym, ap, subst, arith, inl, inr}
use Rattle.std.proofs.lemmas.Bool.{cases_eq, cases_lt}
use Rattle.std.proofs.lemmas.List.{take_all}
use Rattle.std.proofs.lemmas.Option.{same_Some}
use Rattle.std.proofs.Math.ListN.{drop_of_length-le}
use Rattle.md_array.specs.Consistency.{IsConsistent}
use Rattle.md_array.specs.Steps.Lend.{AreBack, ComesBackFromLoan, IsBesideMissing}
use Rattle.md_array.proofs.General.ReadingData.{each_answer}
use Rattle.md_array.proofs.Rebuilding.HeldContent.{its_chunk}
use Rattle.md_bitmap.proofs.Limits.{div-lt-div_ceil}
use Rattle.md_device.specs.Splice.{SameOutside, part}
use Rattle.md_device.proofs.Splices.{part_after, part_before}
use Rattle.md_kept_members.specs.View.{MemberView}
use Rattle.md_state.specs.DiskWrites.{IsFailed, IsTried, IsWritten}
use Rattle.md_state.specs.Members.{IsMember}
use Rattle.md_state.specs.Missing.{is_rebuilt}
use Rattle.md_state.specs.Steps.CopyData.{run_write}
use Rattle.md_state.specs.View.{Disk, MirrorView}
use Rattle.md_state.proofs.Stays.{stays_same}
use Rattle.md_copy.specs.Salvaging.Putting.{FailsToPut, PutsRun}
use Rattle.md_copy.specs.Salvaging.Sectors.{AreLacked, IsLacked}

part_of_none : (content : List ℕ) (at : ℕ) → part content at 0 ≡ []
unfolding part
part_of_none content at = refl

-- What lies beside each missing chunk lies beside each sector that is lacked.
pub beside_sector : (v : MirrorView) → IsConsistent v → (m : MemberView) (s : ℕ) → IsLacked v.array m s → (at n : ℕ) → IsBesideMissing v.array m at n
    → (at + n ≤ 512 * (m.superblock.data_offset + s)) ⊎ (512 * (m.superblock.data_offset + s) + 512 ≤ at)
beside_sector v sound m s lacked at n beside =
    let w = v.array.chunks.sectors in
    let chunk = its_chunk v.array.chunks.size w s sound.chunks.wide lacked.inside in
    let from = chunk.from in
    let below = chunk.below in
    let within = chunk.within in
    let low = subst (λ (y : ℕ). s / w < y) (sym sound.chunks.count) (div-lt-div_ceil v.array.chunks.size w s sound.chunks.wide lacked.inside) in
    elim (beside (s / w) low lacked.missing) [
      | inl before ↦ inl (omega (arith, before, from))
      | inr after ↦ inr (omega (arith, after, from, below, within))
    ]

module _ (v : MirrorView) (sound : IsConsistent v) (target sector : ℕ) (bytes : List ℕ) (member : MemberView) (at_member : IsMember v.array target member) (rebuilt : is_rebuilt member.state ≡ true)
    (some : 512 ≤ length bytes) (whole : length bytes % 512 ≡ 0) (lacked : AreLacked v target sector (sector + length bytes / 512)) where
  abbrev first : ℕ
  first = 512 * (member.superblock.data_offset + sector)

  -- the target's bytes beside its missing chunks are as they were
  part_kept : (d e : Disk) → SameOutside first (length bytes) d.content e.content → (at n : ℕ) → IsBesideMissing v.array member at n → part e.content at n ≡ part d.content at n
  part_kept d e same at n beside = elim (cases_lt at first) [
    | inl low ↦ elim (beside_sector v sound member sector (lacked member at_member sector (omega arith) (omega (arith, some))) at n beside) [
      | inl before ↦ part_before same at n before
      | inr after ↦ absurd (omega (arith, low, after))
    ]
    | inr from ↦ elim (cases_lt at (first + length bytes)) [
      | inr past ↦ part_after same at n past
      | inl inside ↦
          let s = at / 512 - member.superblock.data_offset in
          elim (beside_sector v sound member s (lacked member at_member s (omega (arith, from)) (omega (arith, from, inside, whole))) at n beside) [
            | inl before ↦
                let none : n ≡ 0 = omega (arith, before, from) in
                ap (λ k. part e.content at k) none ∙ part_of_none e.content at ∙ sym (part_of_none d.content at) ∙ sym (ap (λ k. part d.content at k) none)
            | inr after ↦ absurd (omega (arith, after, from))
          ]
    ]
  ]

  -- the devices are back
  pub back : (disks : List Disk) → IsTried target (run_write member sector bytes) v.disks disks → AreBack v (record v { disks = disks })
  back disks tried = record {
    array = refl;
    as_many = tried.as_many;
    each = λ k d e m at_d at_e at_m. elim (cases_eq k target) [
      | inl here ↦
          let is : member ≡ m = same_Some member m (sym at_member ∙ ap (slice_get v.array.members) (sym here) ∙ at_m) in
          let was = ap (slice_get v.disks) (sym here) ∙ at_d in
          let now = ap (slice_get disks) (sym here) ∙ at_e in
          let outside = tried.outside d e was now in
          subst (λ (x : MemberView). ComesBackFromLoan v.array x d e) is (record {
            stays = tried.stays d e was now;
            size = outside.size;
            beside = part_kept d e outside;
            others = λ no. absurd (let yes = rebuilt in cc);
          })
      | inr other ↦
          let same : d ≡ e = same_Some d e (sym at_d ∙ sym (tried.others k other) ∙ at_e) in
          subst (λ (x : Disk). ComesBackFromLoan v.array m d x) same (record { stays = stays_same d; size = refl; beside = λ at n h. refl; others = λ no. refl })
    ];
  }

-- ---- the answer
module _ {T E : Type 0} (v : MirrorView) (target sector : ℕ) (bytes : List ℕ) (member : MemberView) (at_member : IsMember v.array target member) (offset : ℕ) (offset_is : member.superblock.data_offset ≡ offset) (before after : List Disk)
    (before_is : before ≡ v.disks) (r : Result T E)
    (put : MatchResult r (λ _. IsWritten target (record { sector = offset + sector; bytes = bytes }) before after) (λ _. IsFailed target (record { sector = offset + sector; bytes = bytes }) before after)) where
  of_run : MatchResult r (λ _. IsWritten target (run_write member sector bytes) v.disks after) (λ _. IsFailed target (run_write member sector bytes) v.disks after)
  of_run =
      subst (λ (o : ℕ). MatchResult r (λ _. IsWritten target (record { sector = o + sector; bytes = bytes }) v.disks after) (λ _. IsFailed target (record { sector = o + sector; bytes = bytes }) v.disks after)) (sym offset_is)
      (subst (λ (ds : List Disk). MatchResult r (λ _. IsWritten target (record { sector = offset + sector; bytes = bytes }) ds after) (λ _. IsFailed target (record { sector = offset + sector; bytes = bytes }) ds after)) before_is put)

  pub run_tried : IsTried target (run_write member sector bytes) v.disks after
  run_tried = tried_of r of_run
    where
      tried_of : (r : Result T E) → MatchResult r (λ _. IsWritten target (run_write member sector bytes) v.disks after) (λ _. IsFailed target (run_write member sector bytes) v.disks after)
          → IsTried target (run_write member sector bytes) v.disks after
      tried_of (Ok x) is = is.tried
      tried_of (Err e) is = is.tried

  pub run_put : MatchResult r (λ _. PutsRun target sector bytes v (record v { disks = after })) (λ _. FailsToPut target sector bytes v (record v { disks = after }))
  run_put = each_answer r _ _ _ _
      (λ is. record { member = member; at = at_member; array = refl; disks = is })
      (λ is. record { member = member; at = at_member; array = refl; disks = is })
      of_run

-- ---- a slice of a list that is written back
all_dropped : {X : Type 0} (old : List X) (n : ℕ) → length old ≤ n → drop n old ≡ []
all_dropped old n long = drop_of_length-le old long

pub written_back : {X : Type 0} (n : ℕ) (new old : List X) → n ≡ length old → length new ≡ length old → take n (new ++ drop (length new) old) ≡ new
written_back n new old long same =
    ap (λ rest. take n (new ++ rest)) (all_dropped old (length new) (omega (arith, same))) ∙ ap (take n) (append-nil new) ∙ take_all n new (omega (arith, long, same))
