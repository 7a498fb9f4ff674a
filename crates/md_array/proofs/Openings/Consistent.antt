-- A mirror that was opened is consistent.
use Rattle.std.proofs.Common.{◌≡◌, ℕ, ◌<◌, ◌≤◌, true, false, List, length, slice_get, Some, refl, sym, ap, ◌∙◌, subst, arith, inl, inr, ◌↔◌}
use Rattle.std.specs.Int.{div_ceil}
use Rattle.std.proofs.lemmas.Bool.{cases_lt}
use Rattle.std.proofs.lemmas.Option.{slice_get_within}
use Rattle.md_super.specs.declared.superblock.Superblock.{Superblock}
use Rattle.md_bitmap.specs.Marks.{is_set}
use Rattle.md_bitmap.specs.Sound.{chunk_count}
use Rattle.md_bitmap.proofs.Limits.{div_ceil-sectors}
use Rattle.md_members.specs.declared.info.MemberInfo.{MemberInfo}
use Rattle.md_assembly.specs.declared.state.MemberState.{MemberState}
use Rattle.md_assembly.specs.declared.fault.AssembleFault.TheVariants.{TooMany}
use Rattle.md_assembly.specs.States.{is_in_sync, role_in, state_of, takes_role}
use Rattle.md_assembly.proofs.Indices.{got_within, got_same}
use Rattle.md_inflight.specs.Inflight.{InflightList, lookup}
use Rattle.md_model.proofs.Cases.{by_test, none_some}
use Rattle.md_inflight.specs.declared.requests.extent.Extent.{Extent}
use Rattle.md_kept_members.specs.View.{MemberView}
use Rattle.md_kept_members.specs.Kept.{IsKept}
use Rattle.md_state.specs.View.{ArrayView, Disk, MirrorView}
use Rattle.md_state.specs.Members.{IsInSync, IsMember}
use Rattle.md_state.specs.InMemory.{HasMarksOfSize, HasRoles}
use Rattle.md_array.specs.Fits.{Fits}
use Rattle.md_array.specs.Consistency.{HasPlaces, HasSuper, IsConsistent}
use Rattle.md_array.specs.Open.Opened.{IsOpenedFrom}
use Rattle.md_array.specs.Open.Marks.{IsMarkedBy}
use Rattle.md_array.specs.Worlds.{block_on, is_listed, is_listed_next, super_in, super_of}
use Rattle.md_array.proofs.Openings.Fitting as fitting
use Rattle.md_array.proofs.StepLemmas.OneMember.{fits_like, like_itself}
use Rattle.md_array.proofs.Worlds.Device.{bad_is_listed, listed_next_new, places_new, super_new}
use Rattle.md_array.proofs.Worlds.Member.{by_need}
use Rattle.md_array.proofs.Worlds.Shown.{shown_honest}
use Rattle.md_array.proofs.Openings.Sound.{kept_at, numbers_distinct, roles_distinct, size_shared, some_in_sync}
use Rattle.md_array.proofs.Worlds.States.{role_taken}
use Rattle.md_badblocks.specs.Runs.{IsBad}

-- storing marks leaves a device as long as it was
as_long : (a : ArrayView) (m : MemberView) (d e : Disk) → IsMarkedBy a m d e → length e.content ≡ length d.content
as_long a m d e marked = by_need m (λ need. (marked.0 need).outside.size) (λ none. ap length (marked.1 none).0)

module _ (before : List Disk) (v : MirrorView) (o : IsOpenedFrom before v) where
  abbrev a : ArrayView
  a = v.array

  abbrev infos : List MemberInfo
  infos = o.array.infos

  -- a member with what was read of it
  record IsReadAt (k : ℕ) (m : MemberView) : Type 0 where
    info : MemberInfo
    listed : slice_get infos k ≡ Some info
    kept : IsKept a.shared.events a.events_cleared info (state_of a.shared info.superblock) m

  read_at : (k : ℕ) (m : MemberView) → IsMember a k m → IsReadAt k m
  read_at k m is =
      let low = slice_get_within a.members k m is in
      let many = o.array.remembered.as_many in
      let info = got_within infos k (omega arith) in
      record { info = info.0; listed = info.1; kept = kept_at infos o.array.assembly a o.array.assembled o.array.sound o.array.remembered k info.0 m info.1 is }

  number_is : (k : ℕ) (m : MemberView) (r : IsReadAt k m) → m.superblock.dev_number ≡ r.info.superblock.dev_number
  number_is k m r = ap (λ (x : Superblock). x.dev_number) r.kept.superblock

  -- ---- the roles
  few : length a.members ≤ 64
  few = elim (cases_lt 64 (length infos)) [
    | inl many ↦ absurd (o.array.sound TooMany (omega arith) many)
    | inr most ↦ let as_many = o.array.remembered.as_many in omega arith
  ]

  numbers : (j k : ℕ) (m n : MemberView) → IsMember a j m → IsMember a k n → m.superblock.dev_number ≡ n.superblock.dev_number → j ≡ k
  numbers j k m n at_j at_k same =
      let x = read_at j m at_j in
      let y = read_at k n at_k in
      numbers_distinct infos o.array.sound j k x.info y.info x.listed y.listed (sym (number_is j m x) ∙ same ∙ number_is k n y)

  taken : (k role : ℕ) (m : MemberView) (r : IsReadAt k m) → takes_role role m.state ≡ true → takes_role role (state_of a.shared r.info.superblock) ≡ true
  taken k role m r takes = subst (λ (s : MemberState). takes_role role s ≡ true) r.kept.state_is takes

  one_each : (j k role : ℕ) (m n : MemberView) → IsMember a j m → IsMember a k n → takes_role role m.state ≡ true → takes_role role n.state ≡ true → j ≡ k
  one_each j k role m n at_j at_k takes_m takes_n =
      let x = read_at j m at_j in
      let y = read_at k n at_k in
      roles_distinct infos o.array.assembly a o.array.assembled o.array.sound o.array.remembered j k role x.info y.info x.listed y.listed (taken j role m x takes_m) (taken k role n y takes_n)

  kept_of : (k : ℕ) (info : MemberInfo) → slice_get infos k ≡ Some info → (m : MemberView) × (IsMember a k m)
  kept_of k info listed =
      let low = slice_get_within infos k info listed in
      let many = o.array.remembered.as_many in
      got_within a.members k (omega arith)

  state_kept : (k : ℕ) (info : MemberInfo) (m : MemberView) → slice_get infos k ≡ Some info → IsMember a k m → m.state ≡ state_of a.shared info.superblock
  state_kept k info m listed is = (kept_at infos o.array.assembly a o.array.assembled o.array.sound o.array.remembered k info m listed is).state_is

  serving : (k : ℕ) × (m : MemberView) × IsInSync a k m
  serving =
      let some = some_in_sync infos o.array.assembly a o.array.assembled o.array.sound o.array.remembered in
      let m = kept_of some.0 some.1 some.2 in
      (some.0, m.0, record { member = m.1; in_sync = ap is_in_sync (state_kept some.0 some.1 m.0 some.2 m.1) ∙ some.3 })

  roles : HasRoles a
  roles = record {
    few = few;
    numbers = numbers;
    shared = λ k role m is takes. let r = read_at k m is in ap (role_in a.shared) (number_is k m r) ∙ (role_taken a.shared r.info.superblock role (taken k role m r takes)).0;
    below = λ k role m is takes. let r = read_at k m is in (role_taken a.shared r.info.superblock role (taken k role m r takes)).1;
    one_each = one_each;
    serving = λ running. serving;
  }

  -- ---- the chunks
  member_size : (k : ℕ) (m : MemberView) → IsMember a k m → m.superblock.size ≡ a.shared.size
  member_size k m is =
      let r = read_at k m is in
      ap (λ (x : Superblock). x.size) r.kept.superblock ∙ size_shared infos o.array.assembly a o.array.assembled o.array.sound o.array.remembered k r.info r.listed

  -- any member's chunks are as many as the array's
  counted : (k : ℕ) (m : MemberView) → IsMember a k m → a.marks.chunks ≡ div_ceil a.chunks.size a.chunks.sectors
  counted k m is =
      let r = read_at k m is in
      let size : r.info.superblock.size ≡ a.chunks.size = size_shared infos o.array.assembly a o.array.assembled o.array.sound o.array.remembered k r.info r.listed ∙ sym o.array.remembered.size in
      o.array.remembered.mark_count k m is ∙ r.kept.chunks
      ∙ ap (λ (n : ℕ). chunk_count n m.header.chunksize) size
      ∙ sym (div_ceil-sectors a.chunks.size m.header.chunksize m.header.sound.chunk_size)
      ∙ ap (div_ceil a.chunks.size) (sym (o.array.remembered.width k m is))

  wide : (k : ℕ) (m : MemberView) → IsMember a k m → 0 < a.chunks.sectors
  wide k m is =
      let least = m.header.sound.chunk_size.least in
      let width = o.array.remembered.width k m is in
      omega arith

  -- a mark is one of a member
  none_past : (c : ℕ) → a.marks.chunks ≤ c → is_set a.marks.bytes c ≡ false
  none_past c past = by_test (is_set a.marks.bytes c)
      (λ marked. let k = (o.array.remembered.marks c).0 marked in let count = o.array.remembered.mark_count k.0 k.1 k.2.member in let low = k.3.0 in absurd (omega arith))
      (λ clear. clear)

  chunks : HasMarksOfSize a
  chunks =
      let some = serving in
      record {
        size = o.array.remembered.size;
        count = counted some.0 some.1 some.2.member;
        wide = wide some.0 some.1 some.2.member;
        none_past = none_past;
        member_size = member_size;
        member_width = λ k m is. sym (o.array.remembered.width k m is);
        member_count = λ k m is. sym (o.array.remembered.mark_count k m is);
      }

  -- ---- the devices
  fits : Fits v.disks a
  fits =
      let fit = fitting.fits before a o.array in
      record {
        as_many = o.marked.same.as_many ∙ fit.as_many;
        each = λ k e m at_disk at_member.
            let d = got_within before k (omega (arith, slice_get_within v.disks k e at_disk, o.marked.same.as_many)) in
            fits_like a a m m d.0 e refl (like_itself m) (as_long a m d.0 e (o.marked.each k d.0 e d.1 at_disk m at_member)) (fit.each k d.0 m d.1 at_member);
      }

  super : (k : ℕ) (d : Disk) (m : MemberView) → slice_get v.disks k ≡ Some d → IsMember a k m → d.honest ≡ true → HasSuper m d
  super k d m at_disk at_member honest =
      let s = shown_honest before v o k m (λ old was. sym (o.marked.same.honest k old d was at_disk).honest ∙ honest) at_member in
      record {
        super = record (super_of m.superblock) { offset = s.info.superblock.recovery_offset };
        number = refl;
        places = subst (λ (x : Disk). HasPlaces m (block_on x.content)) (got_same v.disks k s.new d s.is at_disk) (places_new a m s.info s.old s.new s.opened);
        is = subst (λ (x : Disk). super_in (block_on x.content) ≡ Some (record (super_of m.superblock) { offset = s.info.superblock.recovery_offset })) (got_same v.disks k s.new d s.is at_disk) (super_new a m s.info s.old s.new s.opened);
        recovering = refl;
        listed = λ sector on.
            let same = subst (λ (x : Disk). is_listed m.superblock x.content sector ≡ is_listed_next m.superblock x.content sector) (got_same v.disks k s.new d s.is at_disk) (listed_next_new a m s.info s.old s.new s.opened sector) in
            sym same ∙ on;
        known = λ sector on.
            let same = subst (λ (x : Disk). is_listed m.superblock x.content sector ≡ is_listed_next m.superblock x.content sector) (got_same v.disks k s.new d s.is at_disk) (listed_next_new a m s.info s.old s.new s.opened sector) in
            (subst (λ (x : Disk). (is_listed m.superblock x.content sector ≡ true) ↔ IsBad m.bad sector) (got_same v.disks k s.new d s.is at_disk) (bad_is_listed a m s.info s.old s.new s.opened sector)).0 (same ∙ on);
      }

  pub consistent : IsConsistent v
  consistent = record {
    fits = fits;
    roles = roles;
    chunks = chunks;
    inside = λ n e listed. absurd (none_some e (subst (λ (r : InflightList Extent). lookup r.entries n ≡ Some e) o.array.remembered.idle listed));
    supers = λ _ k d m at_disk at_member _ honest. super k d m at_disk at_member honest;
  }
