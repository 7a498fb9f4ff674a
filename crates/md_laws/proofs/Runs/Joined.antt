-- A device that is taken back as it was left lies behind the content by what is marked.
use Rattle.std.proofs.Common.{◌≡◌, ℕ, ◌+◌, ◌*◌, inr, true, true≢false, cond, ◌&&◌, nat_lt, List, [], Some, refl, sym, ap, ◌∙◌, subst}
use Rattle.md_device.specs.Splice.{part}
use Rattle.md_kept_members.specs.OwnFields.{kept_superblock}
use Rattle.md_kept_members.specs.TakingBack.{recovering}
use Rattle.md_kept_members.specs.View.{MemberView}
use Rattle.md_members.specs.Members.{IsReadMember as IsRead}
use Rattle.md_model.specs.Behind.{IsBehind}
use Rattle.md_model.specs.Content.{Content}
use Rattle.md_model.specs.Devices.{Stored, Super}
use Rattle.md_model.specs.Sectors.{Geometry}
use Rattle.md_model.specs.Worlds.{World}
use Rattle.md_super.specs.declared.superblock.Superblock.{Superblock}
use Rattle.md_super.specs.Log.{has_bad_block_log}
use Rattle.md_kept_members.specs.OnDevices.Storing.{sector_from_super}
use Rattle.md_state.specs.View.{ArrayView, Disk, MirrorView, geometry_of}
use Rattle.md_array.specs.Steps.ReAdd.{ReAdds}
use Rattle.md_array.specs.ReadAsKept.{HasOwnSuper, IsOwnSuper, IsSuperOn}
use Rattle.md_array.specs.Worlds.{block_on, is_listed, is_logged, list_bit, stored_of, super_in, super_of, world_of}
use Rattle.md_array.proofs.StepLemmas.OneMember.{stored_there}
use Rattle.md_array.proofs.Worlds.Listed.{listed_kept_of}
use Rattle.md_array.proofs.Worlds.PartsApart.{HasParts, bitmap_alone, block_beside_bitmap, log_beside_bitmap, parts_of}
use Rattle.md_array.proofs.Worlds.ReadAsKept.{own_stays}
use Rattle.md_array.proofs.Worlds.Supers.{super_shown}
use Rattle.md_laws.specs.LeftBehind.{FailedJoins, IsStill, LogJoins, MissingJoins}
use Rattle.md_laws.proofs.Openings.Reopened.{super_on}
use Rattle.md_laws.proofs.Runs.LeftBehind.{failed_behind, failed_clear, failed_later, log_held, log_later, missing_later}
use Rattle.md_laws.proofs.Runs.MirrorContents.{life_held_at}
use Rattle.md_laws.proofs.Crashes.LeftAtCrashes.{sorted}

-- bit 2 and the offset don't change what a log lists, where the device has a superblock
listed_recovering : (offset : ℕ) (v : Superblock) (content : List ℕ) (s : Super) → super_in (block_on content) ≡ Some s → (sector : ℕ) → is_listed (recovering offset v) content sector ≡ is_listed v content sector
unfolding is_listed
listed_recovering offset v content s is sector =
    let block = block_on content in
    let bit : list_bit (recovering offset v) block (super_in block) ≡ list_bit v block (super_in block) = ap (list_bit (recovering offset v) block) is ∙ sym (ap (list_bit v block) is) in
    ap (λ b. (b && has_bad_block_log v) && is_logged content (sector_from_super v.bblog_offset) v.bblog_size v.bblog_shift sector) bit

-- ---- what is read of the device by the array that takes it back, and by the one that it left
module _ (a : ArrayView) (m : MemberView) (left : List ℕ) (parts : HasParts a m left) (has : HasOwnSuper a.shared m.superblock left)
    (j : ℕ) (device : Disk) (old new : MirrorView) (r : ReAdds j device old new) (honest : device.honest ≡ true) (still : IsStill m left device.content)
    (size : old.array.chunks.size ≡ a.chunks.size) where
  abbrev now : List ℕ
  now = device.content

  abbrev v : Superblock
  v = r.info.superblock

  abbrev back : MemberView
  back = r.recorded.takes.member

  there : IsSuperOn now v
  there = super_on now v (subst (λ b. IsRead now b r.info) honest r.read).superblock

  own : IsOwnSuper a.shared m.superblock now v
  own = own_stays a.shared m.superblock left now (block_beside_bitmap a m left now parts still) (log_beside_bitmap a m left now parts still) has v there

  superblock_is : back.superblock ≡ recovering 0 (kept_superblock r.info)
  superblock_is = r.recorded.takes.taken.superblock

  data_offset : back.superblock.data_offset ≡ m.superblock.data_offset
  data_offset = ap (λ (x : Superblock). x.data_offset) superblock_is ∙ own.data_offset

  listed : (sector : ℕ) → is_listed back.superblock now sector ≡ is_listed m.superblock now sector
  listed sector =
      ap (λ (x : Superblock). is_listed x now sector) superblock_is
      ∙ listed_recovering 0 (kept_superblock r.info) now (super_of v) (super_shown (block_on now) v there.fields there.sound) sector
      ∙ listed_kept_of now v r.info.bad there.fields there.sound sector
      ∙ own.listed sector

  same_size : new.array.chunks.size ≡ a.chunks.size
  same_size = ap (λ (x : ArrayView). x.chunks.size) r.recorded.takes.array ∙ size

  abbrev was : Stored
  was = stored_of a m left

  abbrev is : Stored
  is = stored_of new.array back now

  bitmap : stored_of a m now ≡ record was { bits = (stored_of a m now).bits; bitmap_events = (stored_of a m now).bitmap_events; bitmap_cleared = (stored_of a m now).bitmap_cleared; bitmap_fits = (stored_of a m now).bitmap_fits }
  bitmap = bitmap_alone a m left now parts still

  same_data : (s : ℕ) → is.content s ≡ was.content s
  same_data s = (λ i. cond (nat_lt s (same_size i)) (part now (512 * (data_offset i + s)) 512) []) ∙ ap (λ (d : Stored). d.content s) bitmap

  same_list : (s : ℕ) → is.listed s ≡ was.listed s
  same_list s =
      (λ i. nat_lt s (same_size i) && listed (data_offset i + s) i)
      ∙ ap (λ (d : Stored). d.listed s) bitmap

  pub joined_behind : (g : Geometry) (w : World) (c : Content) → IsBehind g c was w → IsBehind g c is w
  joined_behind g w c late = record {
    in_memory = λ s low off clear. same_data s ∙ late.in_memory s low (sym (same_list s) ∙ off) clear;
    on_members = λ i s low on off bit. same_data s ∙ late.on_members i s low on (sym (same_list s) ∙ off) bit;
  }

same_sizes : (g : Geometry) (a b : ArrayView) → geometry_of a ≡ g → geometry_of b ≡ g → a.chunks.size ≡ b.chunks.size
same_sizes g a b x y = ap (λ (z : Geometry). z.size) (x ∙ sym y)

pub failed_joins : FailedJoins
failed_joins before m a start holds es rest final t b life k clear f o d is_member there more others newest last c degraded j device new r honest still =
    let g = geometry_of m.array in
    let then = failed_behind before m a start holds es rest final t b life k f in
    let later = failed_later before m a start holds es rest final t b life k f more others newest last c degraded in
    let sound = then.held.sound in
    let shown = stored_there f.mirror.disks f.mirror.array k o d is_member there in
    inr (joined_behind f.mirror.array o d.content (parts_of f.mirror sound.sound k d o there is_member) ((sound.read k d o there is_member).super (failed_clear t k f clear))
    j device last.mirror new r honest still (same_sizes g last.mirror.array f.mirror.array later.held.geometry then.held.geometry) g (world_of last.mirror last.requests) c
    (subst (λ (x : Stored). IsBehind g c x (world_of last.mirror last.requests)) shown later.behind))

pub log_joins : LogJoins
log_joins before m a start holds es rest final t b life k clear f o d is_member there more others newest last c degraded j device new r honest still no_less =
    let g = geometry_of m.array in
    let then = log_held before m a start holds es rest final t b life k f in
    let later = log_later before m a start holds es rest final t b life k f in
    let shown : (world_of f.mirror f.requests).stored k ≡ stored_of f.mirror.array o d.content = stored_there f.mirror.disks f.mirror.array k o d is_member there in
    -- of one that lists all nothing is asked: so the array is as large as it was
    let late = later (record ((world_of f.mirror f.requests).stored k) { listed = λ _. true }) (λ s low. refl) (λ s low on. absurd (true≢false on)) more others newest last c degraded in
    let same = same_data f.mirror.array o d.content (parts_of f.mirror then.sound.sound k d o there is_member)
    ((then.sound.read k d o there is_member).super clear)
    j device last.mirror new r honest still (same_sizes g last.mirror.array f.mirror.array late.held.geometry then.geometry) in
    inr (later (stored_of new.array r.recorded.takes.member device.content) (λ s low. same s ∙ sym (ap (λ (x : Stored). x.content s) shown)) no_less more others newest last c degraded).behind

pub missing_joins : MissingJoins
missing_joins before m a start holds es rest final t b life k clear next r c becomes more others newest last d degraded j device new back honest still =
    let g = geometry_of m.array in
    let held = life_held_at before m a start holds es rest final t b life in
    let later = missing_later before m a start holds es rest final t b life k next r c becomes more others newest last d degraded in
    let x = (sorted t held.sound r.again.devices.left r.again.devices.is_left).device k r.device r.member r.at r.in_sync.member in
    inr (joined_behind t.mirror.array r.member r.device.content x.parts (x.read.super clear)
    j device last.mirror new back honest still (same_sizes g last.mirror.array t.mirror.array later.held.geometry held.geometry) g (world_of last.mirror last.requests) d later.behind)
