-- A mirror whose devices were only read is consistent as before.
use Rattle.std.proofs.Common.{◌≡◌, ℕ, Bool, List, length, slice_get, Option, Some, None, refl, sym, ap, ◌∙◌, subst, arith, true}
use Rattle.std.proofs.lemmas.Option.{none-some, slice_get_within}
use Rattle.md_model.specs.Worlds.{Request}
use Rattle.md_kept_members.specs.View.{MemberView}
use Rattle.md_state.specs.View.{ArrayView, Disk, MirrorView, geometry_of}
use Rattle.md_state.specs.Rests.{Rests}
use Rattle.md_array.specs.Consistency.{HasPlaces, HasSuper, IsConsistent}
use Rattle.md_array.specs.ReadAsKept.{AreReadAsKept, IsReadAsKept}
use Rattle.md_array.specs.Worlds.{block_on, is_listed, is_listed_next, stored_of, stored_on, super_in, world_of, world_on}
use Rattle.md_array.proofs.StepLemmas.OneMember.{fits_like, like_itself}
use Rattle.md_badblocks.specs.Runs.{IsBad}
use Rattle.md_assembly.proofs.Indices.{got_within}

-- a device with the same bytes has the same superblock
super_as : (m : MemberView) (d e : Disk) → e.content ≡ d.content → HasSuper m d → HasSuper m e
super_as m d e same has =
    let block : block_on e.content ≡ block_on d.content = ap block_on same in
    record {
      super = has.super;
      is = ap super_in block ∙ has.is;
      number = has.number;
      recovering = has.recovering;
      places = subst (HasPlaces m) (sym block) has.places;
      listed = subst (λ (c : List ℕ). (sector : ℕ) → is_listed m.superblock c sector ≡ true → is_listed_next m.superblock c sector ≡ true) (sym same) has.listed;
      known = subst (λ (c : List ℕ). (sector : ℕ) → is_listed_next m.superblock c sector ≡ true → IsBad m.bad sector) (sym same) has.known;
    }

module _ (old new : MirrorView) (r : Rests old new) where
  abbrev a : ArrayView
  a = old.array

  -- the device that each was
  record WasDisk (k : ℕ) (e : Disk) : Type 0 where
    disk : Disk
    at : slice_get old.disks k ≡ Some disk
    content : e.content ≡ disk.content
    honest : e.honest ≡ disk.honest

  was : (k : ℕ) (e : Disk) → slice_get new.disks k ≡ Some e → WasDisk k e
  was k e at =
      let low = slice_get_within new.disks k e at in
      let many = r.disks.same.as_many in
      let d = got_within old.disks k (omega arith) in
      record { disk = d.0; at = d.1; content = r.disks.content k d.0 e d.1 at; honest = (r.disks.same.honest k d.0 e d.1 at).honest }

  -- what a device holds of the array
  same_stored : (m : Option MemberView) (k : ℕ) → stored_on a m (slice_get new.disks k) ≡ stored_on a m (slice_get old.disks k)
  same_stored m k = by m (slice_get new.disks k) (slice_get old.disks k) refl refl
    where
      by : (m : Option MemberView) (x y : Option Disk) → slice_get new.disks k ≡ x → slice_get old.disks k ≡ y → stored_on a m x ≡ stored_on a m y
      by None x y e f = refl
      by (Some m) None None e f = refl
      by (Some m) (Some d) (Some c) e f = ap (stored_of a m) (r.disks.content k c d f e)
      by (Some m) (Some d) None e f = let c = was k d e in absurd (none-some c.disk (sym f ∙ c.at))
      by (Some m) None (Some c) e f =
          let low = slice_get_within old.disks k c f in
          let many = r.disks.same.as_many in
          let d = got_within new.disks k (omega arith) in
          absurd (none-some d.0 (sym e ∙ d.1))

  pub world_rests : (requests : ℕ → Option Request) → world_of new requests ≡ world_of old requests
  world_rests requests =
      ap (λ (x : ArrayView). world_on new.disks x requests) r.array
      ∙ (λ i. record (world_of old requests) { stored = λ k. same_stored (slice_get a.members k) k i })

  -- what holds of the array that is kept holds of the same array
  at_array : (P : ArrayView → Type 0) → P a → P new.array
  at_array P = subst P (sym r.array)

  pub rests_read : (failed_at : ℕ) (spoiled : ℕ → Bool) → AreReadAsKept old failed_at spoiled → AreReadAsKept new failed_at spoiled
  rests_read failed_at spoiled are =
      at_array (λ x. AreReadAsKept (record { disks = new.disks; array = x }) failed_at spoiled)
      (λ k e m at member. let d = was k e at in subst (IsReadAsKept a m failed_at (spoiled k)) (sym d.content) (are k d.disk m d.at member))

  pub rests_sound : IsConsistent old → IsConsistent new
  rests_sound sound =
      at_array (λ x. IsConsistent (record { disks = new.disks; array = x })) (record {
        fits = record {
          as_many = r.disks.same.as_many ∙ sound.fits.as_many;
          each = λ k e m at member. let d = was k e at in
              fits_like a a m m d.disk e refl (like_itself m) (ap length d.content) (sound.fits.each k d.disk m d.at member);
        };
        roles = sound.roles;
        chunks = sound.chunks;
        inside = sound.inside;
        supers = λ running k e m at member in_sync honest. let d = was k e at in
            super_as m d.disk e d.content (sound.supers running k d.disk m d.at member in_sync (sym d.honest ∙ honest));
      })

  pub geometry_rests : geometry_of new.array ≡ geometry_of old.array
  geometry_rests = ap geometry_of r.array
