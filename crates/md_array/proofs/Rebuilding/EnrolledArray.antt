-- An array with a member that came into sync: what holds of it in memory, and of the member's device.
use Rattle.std.proofs.Common.{◌≡◌, ◌≢◌, ℕ, ◌+◌, ◌*◌, ◌<◌, ◌≤◌, ◌↔◌, inl, inr, Bool, true, true≢false, List, length, slice_get, Some, refl, sym, ap, ◌∙◌, subst, arith, eq-eqb, eqb-true, map}
use Rattle.std.proofs.lemmas.Bool.{cases_lt}
use Rattle.std.proofs.lemmas.Bool.Decides.{nat_tests}
use Rattle.std.proofs.lemmas.List.{get_or_past}
use Rattle.std.proofs.lemmas.List.FromFn.{length-map-range_with_len}
use Rattle.std.proofs.lemmas.Option.{slice_get_within}
use Rattle.md_kept_members.specs.OnDevices.Storing.{IsStorable, sector_from_super}
use Rattle.md_kept_members.specs.OnDevices.Superblocks.{IsReadable}
use Rattle.md_array.proofs.StepLemmas.OneMember.{HasPlacesOf}
use Rattle.md_array.specs.Consistency.{HasPlaces, HasSuper, IsConsistent}
use Rattle.md_array.specs.Fits.{Fits}
use Rattle.md_array.specs.Worlds.{is_listed_next, super_in, super_of, is_listed}
use Rattle.md_array.proofs.General.Indices.{at_set_same, got_in_map}
use Rattle.md_array.proofs.StepLemmas.Record.{listed_written, readable_super}
use Rattle.md_array.proofs.Rebuilding.RoleTaken as taken
use Rattle.md_array.proofs.Rebuilding.RoleTaken.{TakesRole}
use Rattle.md_array.proofs.Rebuilding.MemberStored.{HoldsMember, bitmap_in_sync, placed_in_sync}
use Rattle.md_array.proofs.Rebuilding.LogListed.{listed_enrolled, logged}
use Rattle.md_device.specs.Splice.{part}
use Rattle.md_super.specs.declared.superblock.Superblock.{Superblock}
use Rattle.md_super.specs.Log.{has_bad_block_log}
use Rattle.md_super.specs.Merge.{merged}
use Rattle.md_super.proofs.Order.{sound_without_fault}
use Rattle.md_super.proofs.RoleLists.{length-roles_in}
use Rattle.md_bitmap.specs.declared.header.BitmapHeader.{BitmapHeader}
use Rattle.md_badblocks.specs.declared.run.Run.{Run}
use Rattle.md_badblocks.specs.Log.{log_bytes}
use Rattle.md_badblocks.specs.Runs.{IsBad, IsCanonical}
use Rattle.md_members.specs.Areas.{AreAreasPlaced, bitmap_sectors, has_bitmap}
use Rattle.md_members.specs.Members.{sectors_of_device}
use Rattle.md_assembly.specs.declared.state.MemberState.TheVariants.{InSync, Recovering}
use Rattle.md_assembly.specs.States.{is_in_sync, takes_role}
use Rattle.md_kept_members.specs.Enrolling.{HasRoomFor, in_sync_superblock, log_room}
use Rattle.md_kept_members.specs.Members.{made_due}
use Rattle.md_kept_members.specs.View.{MemberView}
use Rattle.md_kept_members.specs.Membership.Joining.{entries_with, joined_roles, role_after}
use Rattle.md_state.specs.Steps.Enrol.{enrolled}
use Rattle.md_state.specs.InMemory.{HasMarksOfSize, HasRoles}
use Rattle.md_state.specs.Members.{IsMember}
use Rattle.md_state.specs.View.{ArrayView, Disk, MirrorView}
use Rattle.md_state.specs.Missing.{is_rebuilt}

-- ---- its role
module _ (a : ArrayView) (k : ℕ) (m : MemberView) (role : ℕ) (is : IsMember a k m) (r : HasRoles a) where
  -- the array's superblock with its role has no more entries than one may have
  pub few_entries : (own : Superblock) → IsReadable (merged (record a.shared { events = a.shared.events + 1; roles = joined_roles a.shared a.members m.superblock.dev_number role }) own)
      → entries_with a.shared m.superblock.dev_number ≤ 1920
  few_entries own readable =
      let number = m.superblock.dev_number in
      let most = (sound_without_fault _ readable.sound).few_roles in
      let count : length (joined_roles a.shared a.members number role) ≡ _ = ap length readable.fields.roles ∙ length-roles_in _ _ in
      let entries = length-map-range_with_len (role_after a.shared a.members number role) 0 (entries_with a.shared number) in
      omega arith

  pub takes_by : m.state ≡ Recovering role → entries_with a.shared m.superblock.dev_number ≤ 1920 → TakesRole a k m role
  takes_by state few =
      let number = m.superblock.dev_number in
      let takes : takes_role role m.state ≡ true = ap (takes_role role) state ∙ eq-eqb role role refl in
      let low = r.below k role m is takes in
      let given = r.shared k role m is takes in
      let disks = a.shared.in_profile.few_disks in
      record {
        below = low;
        small = elim (cases_lt number 1920) [
          | inl small ↦ small
          | inr large ↦
              let entries : entries_with a.shared number ≡ length a.shared.roles = grind (arith, nat_tests) in
              let none = get_or_past a.shared.roles number 0xffff (omega arith) in
              absurd (omega arith)
        ];
        alone = λ j x there too. r.one_each j k role x m there is too takes;
        out = ap is_in_sync state;
      }

-- ---- its device
-- all of it but its data can be stored there
pub storable : (v : MirrorView) (c : IsConsistent v) (k : ℕ) (m n : MemberView) (list : List Run) (d : Disk) → IsMember v.array k m → n.superblock ≡ in_sync_superblock list m.superblock
    → n.stored.chunks ≡ v.array.marks.chunks → HasRoomFor n.superblock n.bad → slice_get v.disks k ≡ Some d → IsStorable n d.content
storable v c k m n list d is superblock chunks room found =
    let fit = c.fits.each k d m found is in
    let count : m.stored.chunks ≡ n.stored.chunks = c.chunks.member_count k m is ∙ sym chunks in
    record {
      long = fit.long;
      has = ap has_bitmap superblock ∙ bitmap_in_sync m.superblock list ∙ fit.has;
      placed = subst (λ (o : Superblock). AreAreasPlaced (sectors_of_device d.content) o (bitmap_sectors n.stored.chunks)) (sym superblock)
          (placed_in_sync m.superblock list (sectors_of_device d.content) (bitmap_sectors n.stored.chunks)
          (subst (λ (x : ℕ). AreAreasPlaced (sectors_of_device d.content) m.superblock (bitmap_sectors x)) count fit.placed));
      few_chunks = subst (λ (x : ℕ). x ≤ 1048576) count fit.few_chunks;
      room = room;
    }

-- ---- the array with it
module _ (disks now : List Disk) (a : ArrayView) (c : IsConsistent (record { disks = disks; array = a })) (k role : ℕ) (m n : MemberView) (is : IsMember a k m)
    (t : TakesRole a k m role) (list : List Run) (superblock : n.superblock ≡ in_sync_superblock list m.superblock) (header : n.header ≡ m.header)
    (chunks : n.stored.chunks ≡ a.marks.chunks) (state : n.state ≡ InSync role) where
  abbrev b : ArrayView
  b = enrolled a k n role

  places : HasPlacesOf m n
  places = record {
    number = ap (λ (v : Superblock). v.dev_number) superblock;
    size = ap (λ (v : Superblock). v.size) superblock;
    has = ap has_bitmap superblock ∙ bitmap_in_sync m.superblock list;
    placed = λ sectors width p. subst (λ (o : Superblock). AreAreasPlaced sectors o width) (sym superblock) (placed_in_sync m.superblock list sectors width p);
    header = header;
    chunks = chunks ∙ sym (c.chunks.member_count k m is);
    told = λ tells rebuilt. absurd (true≢false (sym rebuilt ∙ ap is_rebuilt state));
  }

  own : (wanted : ℕ) → takes_role wanted n.state ≡ true → role ≡ wanted
  own wanted takes = eqb-true role wanted (sym (ap (takes_role wanted) state) ∙ takes)

  low : k < length (map made_due a.members)
  low = slice_get_within (map made_due a.members) k (made_due m) (got_in_map made_due a.members k m is)

  pub roles_enrolled : HasRoles b
  roles_enrolled = taken.roles_taken disks now a c k role m n is t places own b.events_cleared
      (k, n, record { member = at_set_same (map made_due a.members) k n low; in_sync = ap is_in_sync state })

  pub chunks_enrolled : HasMarksOfSize b
  chunks_enrolled = taken.chunks_taken disks now a c k role m n is t places own b.events_cleared

  pub fits_enrolled : (room : HasRoomFor n.superblock n.bad) → length now ≡ length disks → ((j : ℕ) → j ≢ k → slice_get now j ≡ slice_get disks j)
      → ((d e : Disk) → slice_get disks k ≡ Some d → slice_get now k ≡ Some e → length e.content ≡ length d.content) → Fits now b
  fits_enrolled room = taken.fits_taken disks now a c k role m n is t places own b.events_cleared

  -- ---- its device, with all of it but its data
  module _ (canonical : IsCanonical list) (bad : n.bad ≡ list) (room : HasRoomFor n.superblock n.bad) (readable : IsReadable (merged b.shared n.superblock)) where
    -- by its own fields its log lists its list
    next_lists : (h : BitmapHeader) (e : Disk) → HoldsMember b.shared n h e.content → (sector : ℕ) → is_listed_next n.superblock e.content sector ≡ true ↔ IsBad n.bad sector
    next_lists h e holds sector =
        let v = m.superblock in
        let fits : HasRoomFor v list = subst (λ (o : Superblock). HasRoomFor o list) superblock (subst (HasRoomFor n.superblock) bad room) in
        let log : has_bad_block_log v ≡ true → part e.content (512 * sector_from_super v.bblog_offset) (512 * v.bblog_size) ≡ log_bytes list (log_room v) =
        λ has. logged v n.superblock list n.bad (ap (λ (o : Superblock). o.bblog_size) superblock) (ap (λ (o : Superblock). o.bblog_offset) superblock) bad e.content holds.log has in
        subst (λ (t : Bool). (t ≡ true) ↔ IsBad n.bad sector) (sym (ap (λ (o : Superblock). is_listed_next o e.content sector) superblock))
        (subst (λ (runs : List Run). (is_listed_next (in_sync_superblock list v) e.content sector ≡ true) ↔ IsBad runs sector) (sym bad) (listed_enrolled v list e.content canonical fits log sector))

    pub lists_enrolled : (h : BitmapHeader) (e : Disk) → HoldsMember b.shared n h e.content → (sector : ℕ) → is_listed n.superblock e.content sector ≡ true ↔ IsBad n.bad sector
    lists_enrolled h e holds sector =
        subst (λ (t : Bool). (t ≡ true) ↔ IsBad n.bad sector) (sym (listed_written b n e.content readable holds.block sector)) (next_lists h e holds sector)

    pub super_enrolled : (h : BitmapHeader) (e : Disk) → HoldsMember b.shared n h e.content → HasSuper n e
    super_enrolled h e holds =
        let spelled = readable.fields in
        let listed = listed_written b n e.content readable holds.block in
        record {
          super = super_of (merged b.shared n.superblock);
          is = ap super_in holds.block ∙ readable_super b n readable;
          number = refl;
          recovering = refl;
          places = subst (HasPlaces n) (sym holds.block) (record {
            data_offset = sym spelled.data_offset;
            bitmap_offset = sym spelled.bitmap_offset;
            bblog_size = sym spelled.bblog_size;
            bblog_offset = sym spelled.bblog_offset;
          });
          listed = λ sector on. sym (listed sector) ∙ on;
          known = λ sector. (next_lists h e holds sector).0;
        }
