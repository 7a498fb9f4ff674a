-- A halted mirror over devices of which one has other bytes in a write's range: it is sound still, where an opening would read of that device
-- what is kept.
use Rattle.std.proofs.Common.{◌≡◌, ◌∙◌, ℕ, Bool, true, true≢false, List, slice_get, Some, refl, sym, ap, subst, arith}
use Rattle.std.proofs.lemmas.Option.{same_Some, slice_get_within}
use Rattle.md_kept_members.specs.View.{MemberView}
use Rattle.md_model.proofs.Puts.{by_same}
use Rattle.md_members.specs.DeviceWrites.Writes.{Write}
use Rattle.md_state.specs.DiskWrites.{IsTried}
use Rattle.md_state.specs.Members.{IsMember}
use Rattle.md_state.specs.View.{ArrayView, Disk}
use Rattle.md_array.specs.Consistency.{IsConsistent}
use Rattle.md_array.specs.Fits.{Fits}
use Rattle.md_array.specs.ReadAsKept.{IsReadAsKept}
use Rattle.md_array.proofs.General.Honesty.{tried_honest}
use Rattle.md_array.proofs.StepLemmas.OneMember.{fits_like, like_itself}
use Rattle.md_laws.specs.Runs.{Moment}
use Rattle.md_laws.proofs.Runs.Moments.{IsSoundAt}
use Rattle.md_assembly.proofs.Indices.{got_within}
use Rattle.md_call_laws.specs.Crashes.TornWrites.{halted_over}

module _ (t : Moment) (at : IsSoundAt t) (k : ℕ) (w : Write) (disks : List Disk) (tried : IsTried k w t.mirror.disks disks) where
  abbrev a : ArrayView
  a = t.mirror.array

  -- the device that stood there before
  abbrev pub WasThere : Disk → Type 0
  WasThere e = (d : Disk) × (slice_get t.mirror.disks k ≡ Some d)

  pub was_there : (e : Disk) → slice_get disks k ≡ Some e → WasThere e
  was_there e is = let low = slice_get_within disks k e is in let many = tried.as_many in got_within t.mirror.disks k (omega arith)

  fits : Fits disks a
  fits = record {
    as_many = tried.as_many ∙ at.sound.fits.as_many;
    each = λ j e m there is. by_same j k
        (λ same.
        let here : slice_get disks k ≡ Some e = sym (ap (slice_get disks) same) ∙ there in
        let d = was_there e here in
        fits_like a a m m d.0 e refl (like_itself m) (tried.outside d.0 e d.1 here).size (at.sound.fits.each j d.0 m (ap (slice_get t.mirror.disks) same ∙ d.1) is))
        (λ apart. at.sound.fits.each j e m (sym (tried.others j apart) ∙ there) is);
  }

  consistent : IsConsistent (halted_over t disks).mirror
  consistent =
      let r = at.sound.roles in
      let h = at.sound.chunks in
      record {
        fits = record {
          as_many = fits.as_many;
          each = λ j d m there is.
              let fit = fits.each j d m there is in
              record { long = fit.long; short = fit.short; has = fit.has; placed = fit.placed; few_chunks = fit.few_chunks; sound = fit.sound; told = fit.told };
        };
        roles = record { few = r.few; numbers = r.numbers; shared = r.shared; below = r.below; one_each = r.one_each; serving = λ running. absurd (true≢false running) };
        chunks = record { size = h.size; count = h.count; wide = h.wide; none_past = h.none_past; member_size = h.member_size; member_width = h.member_width; member_count = h.member_count };
        inside = at.sound.inside;
        supers = λ running. absurd (true≢false running);
      }

  halted_kept : (m : MemberView) (spoiled : Bool) (content : List ℕ) → IsReadAsKept a m t.failed_at spoiled content → IsReadAsKept (record a { halted = true }) m t.failed_at spoiled content
  halted_kept m spoiled content r = record { super = r.super; header = r.header }

  module _ (m : MemberView) (is_member : IsMember a k m)
      (reads : (d e : Disk) → slice_get t.mirror.disks k ≡ Some d → slice_get disks k ≡ Some e → IsReadAsKept a m t.failed_at (t.misread k) e.content) where
    read : (j : ℕ) (e : Disk) (n : MemberView) → slice_get disks j ≡ Some e → IsMember a j n → IsReadAsKept (record a { halted = true }) n t.failed_at (t.misread j) e.content
    read j e n there is = by_same j k
        (λ same.
        let here : slice_get disks k ≡ Some e = sym (ap (slice_get disks) same) ∙ there in
        let d = was_there e here in
        let it : n ≡ m = same_Some n m (sym is ∙ ap (slice_get a.members) same ∙ is_member) in
        subst (λ (i : ℕ). IsReadAsKept (record a { halted = true }) n t.failed_at (t.misread i) e.content) (sym same)
        (subst (λ (x : MemberView). IsReadAsKept (record a { halted = true }) x t.failed_at (t.misread k) e.content) (sym it)
        (halted_kept m (t.misread k) e.content (reads d.0 e d.1 here))))
        (λ apart. halted_kept n (t.misread j) e.content (at.read j e n (sym (tried.others j apart) ∙ there) is))

    pub sound_over : IsSoundAt (halted_over t disks)
    sound_over = record { sound = consistent; read = read; honest = tried_honest k w t.mirror.disks disks tried at.honest; in_flight = at.in_flight }
