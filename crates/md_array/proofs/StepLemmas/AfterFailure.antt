-- A write to a member fails, and the member with it or the mirror: what holds of the mirror between its calls holds after that.
use Rattle.std.proofs.Common.{◌≡◌, ◌≢◌, ℕ, ◌/◌, ◌≤◌, Bool, true, false, not, true≢false, List, map, slice_get, count_by, Some, refl, sym, ap, ◌∙◌, subst, arith, length-set}
use Rattle.std.proofs.lemmas.Option.{slice_get_within}
use Rattle.md_model.proofs.Puts.{by_same}
use Rattle.md_assembly.specs.States.{is_in_sync, takes_role}
use Rattle.md_assembly.proofs.Indices.{got_within}
use Rattle.md_members.specs.DeviceWrites.Writes.{Write}
use Rattle.md_inflight.specs.Requests.Pending.{PendingView}
use Rattle.md_kept_members.specs.View.{MemberView}
use Rattle.md_kept_members.specs.Members.{made_due}
use Rattle.md_state.specs.View.{ArrayView, Disk, MirrorView}
use Rattle.md_state.specs.Members.{IsInSync, IsMember, is_degraded}
use Rattle.md_state.specs.InMemory.{HasMarksOfSize, HasRoles}
use Rattle.md_state.specs.DiskWrites.{IsTried}
use Rattle.md_state.specs.Steps.Rise.{Fails, Halts, made_faulty, risen, without}
use Rattle.md_state.specs.Requests.{IsPending, lacks}
use Rattle.md_state.specs.Trying.{FailsWriting, HaltsWriting}
use Rattle.md_array.specs.Fits.{Fits, FitsMember}
use Rattle.md_array.specs.Consistency.{HaveSupers, IsConsistent}
use Rattle.md_array.proofs.StepLemmas.OneMember.{fits_like, like_itself}
use Rattle.md_array.proofs.General.Replaced.{count_lower, of_set}
use Rattle.md_array.proofs.General.Indices.{count_map, got_in_map, got_other}
use Rattle.md_array.proofs.Worlds.Risen.{risen_is_consistent}
use Rattle.md_array.proofs.Worlds.Without.{role_kept}

-- ---- a write changes no device's size
fits_tried : (a : ArrayView) (k : ℕ) (w : Write) (before after : List Disk) → IsTried k w before after → Fits before a → Fits after a
fits_tried a k w before after tried f = record {
  as_many = tried.as_many ∙ f.as_many;
  each = λ j e m at is. by_same j k
      (λ same.
      let here : slice_get after k ≡ Some e = sym (ap (slice_get after) same) ∙ at in
      let many = tried.as_many in
      let low = slice_get_within after k e here in
      let d = got_within before k (omega arith) in
      fits_like a a m m d.0 e refl (like_itself m) (tried.outside d.0 e d.1 here).size (f.each j d.0 m (ap (slice_get before) same ∙ d.1) is))
      (λ apart. f.each j e m (sym (tried.others j apart) ∙ at) is);
}

-- ---- a member is faulty
module _ (a : ArrayView) (k : ℕ) (m : MemberView) (at : IsMember a k m) where
  abbrev b : ArrayView
  b = without a k m

  -- what holds of each member before, and of a faulty one like it, holds of each after
  each_without : (P : MemberView → Type 0) → P (made_faulty m) → ((j : ℕ) (x : MemberView) → IsMember a j x → P x) → (j : ℕ) (x : MemberView) → IsMember b j x → P x
  each_without P here there j x is = of_set a.members k j (made_faulty m) x is (λ _ same. subst P (sym same) here) (λ _ was. there j x was)

  number_was : (j : ℕ) (x : MemberView) → IsMember b j x → (y : MemberView) × IsMember a j y × (x.superblock.dev_number ≡ y.superblock.dev_number)
  number_was j x is = of_set a.members k j (made_faulty m) x is
      (λ here same. (m, ap (slice_get a.members) here ∙ at, ap (λ (y : MemberView). y.superblock.dev_number) same))
      (λ _ was. (x, was, refl))

  -- one that is not faulty is another member
  is_another : (P : MemberView → Bool) → P (made_faulty m) ≡ false → (j : ℕ) (x : MemberView) → IsMember b j x → P x ≡ true → (j ≢ k) × IsMember a j x
  is_another P none j x is e = of_set a.members k j (made_faulty m) x is (λ _ same. absurd (true≢false (sym e ∙ ap P same ∙ none))) (λ apart was. (apart, was))

  active : (j role : ℕ) (x : MemberView) → IsMember b j x → takes_role role x.state ≡ true → (j ≢ k) × IsMember a j x
  active j role x is e = is_another (λ y. takes_role role y.state) refl j x is e

  roles_without_it : (o : ℕ) (n : MemberView) → o ≢ k → IsInSync a o n → HasRoles a → HasRoles b
  roles_without_it o n apart in_sync r = record {
    few = subst (λ (c : ℕ). c ≤ 64) (sym (length-set a.members k (made_faulty m))) r.few;
    numbers = λ i j x y at_i at_j same.
        let p = number_was i x at_i in
        let q = number_was j y at_j in
        r.numbers i j p.0 q.0 p.1 q.1 (sym p.2 ∙ same ∙ q.2);
    shared = λ j role x is e.
        let p = active j role x is e in
        role_kept m a.shared.roles x.superblock.dev_number (λ same. p.0 (r.numbers j k x m p.1 at same)) ∙ r.shared j role x p.1 e;
    below = λ j role x is e. r.below j role x (active j role x is e).1 e;
    one_each = λ i j role x y at_i at_j e f. r.one_each i j role x y (active i role x at_i e).1 (active j role y at_j f).1 e f;
    serving = λ running. (o, n, record { member = got_other a.members k o (made_faulty m) apart ∙ in_sync.member; in_sync = in_sync.in_sync });
  }

  chunks_without : HasMarksOfSize a → HasMarksOfSize b
  chunks_without h = record {
    size = h.size;
    count = h.count;
    wide = h.wide;
    none_past = h.none_past;
    member_size = each_without (λ x. x.superblock.size ≡ a.shared.size) (h.member_size k m at) h.member_size;
    member_width = each_without (λ x. x.header.chunksize / 512 ≡ a.chunks.sectors) (h.member_width k m at) h.member_width;
    member_count = each_without (λ x. x.stored.chunks ≡ a.marks.chunks) (h.member_count k m at) h.member_count;
  }

  fits_faulty : (d : Disk) → FitsMember a m d → FitsMember b (made_faulty m) d
  fits_faulty d fit = record { long = fit.long; short = fit.short; has = fit.has; placed = fit.placed; few_chunks = fit.few_chunks; sound = fit.sound; told = λ rebuilt. absurd cc }

  fits_other : (x : MemberView) (d : Disk) → FitsMember a x d → FitsMember b x d
  fits_other x d fit = record { long = fit.long; short = fit.short; has = fit.has; placed = fit.placed; few_chunks = fit.few_chunks; sound = fit.sound; told = fit.told }

  fits_without : (disks : List Disk) → Fits disks a → Fits disks b
  fits_without disks f = record {
    as_many = f.as_many ∙ sym (length-set a.members k (made_faulty m));
    each = λ j d x there is. of_set a.members k j (made_faulty m) x is
        (λ here same. subst (λ (y : MemberView). FitsMember b y d) (sym same) (fits_faulty d (f.each j d m there (ap (slice_get a.members) here ∙ at))))
        (λ _ was. fits_other x d (f.each j d x there was));
  }

  supers_without : (w : Write) (before after : List Disk) → IsTried k w before after → HaveSupers (record { disks = before; array = a }) → HaveSupers (record { disks = after; array = b })
  supers_without w before after tried have j d x there is in_sync honest =
      let p = is_another (λ (y : MemberView). is_in_sync y.state) refl j x is in_sync in
      have j d x (sym (tried.others j p.0) ∙ there) p.1 in_sync honest

  pub without_is_consistent : (w : Write) (before after : List Disk) (o : ℕ) (n : MemberView) → o ≢ k → IsInSync a o n → IsTried k w before after
      → IsConsistent (record { disks = before; array = a }) → IsConsistent (record { disks = after; array = b })
  without_is_consistent w before after o n apart in_sync tried c = record {
    fits = fits_without after (fits_tried a k w before after tried c.fits);
    roles = roles_without_it o n apart in_sync c.roles;
    chunks = chunks_without c.chunks;
    inside = c.inside;
    supers = λ running. supers_without w before after tried (c.supers running);
  }

pub failed_is_consistent : (k : ℕ) (w : Write) (old new : MirrorView) → IsConsistent old → FailsWriting k w old new → IsConsistent new
failed_is_consistent k w old new c fails =
    let f = fails.array in
    let full = not (is_degraded (without old.array k f.member)) in
    subst (λ (a : ArrayView). IsConsistent (record { disks = new.disks; array = a })) (sym f.array)
    (without_is_consistent (risen old.array full) k (made_due f.member) (got_in_map made_due old.array.members k f.member f.at) w old.disks new.disks
    f.other (made_due f.other_member) f.apart
    (record { member = got_in_map made_due old.array.members f.other f.other_member f.other_in_sync.member; in_sync = f.other_in_sync.in_sync })
    fails.disks.tried (risen_is_consistent old full c))

-- ---- the mirror is halted
pub halted_is_consistent : (k : ℕ) (w : Write) (old new : MirrorView) → IsConsistent old → HaltsWriting k w old new → IsConsistent new
halted_is_consistent k w old new c halts =
    let fits = fits_tried old.array k w old.disks new.disks halts.disks.tried c.fits in
    let r = c.roles in
    let h = c.chunks in
    subst (λ (a : ArrayView). IsConsistent (record { disks = new.disks; array = a })) (sym halts.array.array)
    (record {
      fits = record { as_many = fits.as_many; each = λ j d m at is. let fit = fits.each j d m at is in record { long = fit.long; short = fit.short; has = fit.has; placed = fit.placed; few_chunks = fit.few_chunks; sound = fit.sound; told = fit.told } };
      roles = record { few = r.few; numbers = r.numbers; shared = r.shared; below = r.below; one_each = r.one_each; serving = λ running. absurd (true≢false running) };
      chunks = record { size = h.size; count = h.count; wide = h.wide; none_past = h.none_past; member_size = h.member_size; member_width = h.member_width; member_count = h.member_count };
      inside = c.inside;
      supers = λ running. absurd (true≢false running);
    })

-- ---- requests stay in flight: no more members lack one than before
pub failed_is_pending : (k : ℕ) (old new : ArrayView) (p : PendingView) → Fails k old new → IsPending old p → IsPending new p
failed_is_pending k old new p f is =
    let risen_count : count_by (lacks p) (map made_due old.members) ≡ count_by (lacks p) old.members = count_map (lacks p) made_due old.members in
    let lower = count_lower (lacks p) (map made_due old.members) k (made_faulty f.member) refl in
    let room = is.room in
    subst (λ (a : ArrayView). IsPending a p) (sym f.array) (record {
      belongs = is.belongs;
      extent = is.extent;
      whole = is.whole;
      room = omega arith;
    })

pub halted_is_pending : (k : ℕ) (old new : ArrayView) (p : PendingView) → Halts k old new → IsPending old p → IsPending new p
halted_is_pending k old new p h is = subst (λ (a : ArrayView). IsPending a p) (sym h.array) (record { belongs = is.belongs; extent = is.extent; whole = is.whole; room = is.room })
