-- An interrupted open leaves the devices of a mirror as they were left.
use Rattle.std.proofs.Common.{◌≡◌, ◌≢◌, ◌⊎◌, ℕ, ◌+◌, ◌*◌, ◌/◌, ◌<◌, ◌≤◌, inl, inr, Bool, true, false, true≢false, cond, nat_lt, List, [], ◌∷◌, ◌++◌, length, drop, slice_get, Some, refl, sym, ap, ◌∙◌, subst, arith, lt-ltb}
use Rattle.std.proofs.lemmas.Bool.{cases_lt, and_from}
use Rattle.std.proofs.lemmas.List.{append_assoc, append-nil}
use Rattle.std.proofs.lemmas.Option.{same_Some, slice_get_within}
use Rattle.md_device.specs.Splice.{SameOutside}
use Rattle.md_device.proofs.Splices.{part_before}
use Rattle.md_device.proofs.Leaving.{leaves_none}
use Rattle.md_format.specs.Fields.{number_at}
use Rattle.md_bitmap.specs.Marks.{is_set}
use Rattle.md_bitmap.proofs.Limits.{div-lt-div_ceil}
use Rattle.md_members.specs.declared.info.MemberInfo.{MemberInfo}
use Rattle.md_members.specs.Areas.{bitmap_sectors}
use Rattle.md_members.specs.DeviceWrites.Bitmaps.{bitmap_writes}
use Rattle.md_members.specs.DeviceWrites.Writes.{IsAnyIn, IsCutShort, Write, after}
use Rattle.md_members.proofs.DeviceWriteLemmas.Frames.{outside_around, outside_none, outside_then}
use Rattle.md_members.proofs.DeviceWriteLemmas.Stored.{stored_all, stored_cut}
use Rattle.md_model.specs.Sectors.{chunk_of}
use Rattle.md_model.specs.Devices.{accepts, is_accepted, is_marked}
use Rattle.md_model.proofs.Cases.{by_test}
use Rattle.md_model.proofs.Puts.{by_same}
use Rattle.md_kept_members.specs.View.{MemberView}
use Rattle.md_kept_members.specs.Members.{NeedsMarks}
use Rattle.md_kept_members.specs.OnDevices.Storing.{sector_from_super}
use Rattle.md_state.specs.Members.{IsMember}
use Rattle.md_state.specs.View.{ArrayView, Disk, geometry_of}
use Rattle.md_state.specs.DeviceChanges.{IsLeftAlone}
use Rattle.md_array.specs.Open.Opened.{IsArrayOf}
use Rattle.md_array.specs.ReadAsKept.{chunk_size_on}
use Rattle.md_array.specs.Open.Marks.{AreMarkWrites, FailsToStore, IsMarkedBy, StoresMarksOn}
use Rattle.md_array.specs.Worlds.{header_fits, header_on, stored_of}
use Rattle.md_array.proofs.Worlds.PartsApart.{bitmap_alone}
use Rattle.md_array.proofs.General.Indices.{got_in_map}
use Rattle.md_array.proofs.Worlds.Device.{IsOpenedMember, bits_new, chunk_size_new, fits_on}
use Rattle.md_array.proofs.Worlds.Member.{by_need}
use Rattle.md_array.proofs.Worlds.Outside.{starts_at}
use Rattle.md_array.proofs.Worlds.ReadMember as read
use Rattle.md_array.proofs.Worlds.ReadMember.{IsReadMember}
use Rattle.md_laws.specs.HalfOpened.{FailsOnMember, IsHalfOpened, IsHeaderKept}
use Rattle.md_laws.specs.Lives.{AreFoundAgain, IsAsLeft, IsFoundAgain, IsReadAsKeptInLives, StaysAsLeft}
use Rattle.md_laws.specs.Runs.{Moment}
use Rattle.md_laws.specs.CrashesWithin.{MayBeLeft}
use Rattle.md_laws.proofs.Openings.BitmapArea.{AllIn, IsNextAny, all_in, area_kept, next_any}
use Rattle.md_laws.proofs.Crashes.AtSteps.{new_has}
use Rattle.md_laws.proofs.Runs.Moments.{IsSoundAt, life_keeps, sound_when_opened}
use Rattle.md_laws.proofs.Openings.Reopened.{again, bitmap_offset, same_count, same_stored}
use Rattle.md_assembly.proofs.Indices.{got_within}

above : (j k : ℕ) → j ≤ k → j ≢ k → j < k
above j k low apart = elim (cases_lt j k) [
  | inl less ↦ less
  | inr more ↦ absurd (apart (omega arith))
]

-- ---- a member's device, of which an opening made this
module _ (a : ArrayView) (m : MemberView) (old : Disk) (left : List ℕ) (room : 512 * (sector_from_super m.superblock.bitmap_offset + bitmap_sectors m.stored.chunks) ≤ length old.content) where
  abbrev start : ℕ
  start = sector_from_super m.superblock.bitmap_offset

  abbrev sectors : ℕ
  sectors = bitmap_sectors m.stored.chunks

  -- all marks are stored, or the header is as it was
  pub record IsPartlyStored : Type 0 where
    pub outside : SameOutside (512 * start) (512 * sectors) old.content left
    pub header : StoresMarksOn a m old (record old { content = left }) ⊎ IsHeaderKept m old.content left

  as_was : left ≡ old.content → IsPartlyStored
  as_was same = record {
    outside = subst (SameOutside (512 * start) (512 * sectors) old.content) (sym same) (outside_none (512 * start) (512 * sectors) old.content);
    header = inr (ap (λ (c : List ℕ). header_on c start) same);
  }

  stopped : (first : ℕ) (writes : List Write) → AreMarkWrites a m first writes → IsCutShort old.content writes left → IsPartlyStored
  stopped first ws are cut_there =
      let at : first ≡ start = sym (starts_at m.superblock first are.at) in
      let writes : ws ≡ bitmap_writes start are.header m.stored sectors = are.writes_are ∙ ap (λ (x : ℕ). bitmap_writes x are.header m.stored sectors) at in
      let cut = stored_cut start are.header m.stored sectors old.content left (omega arith) room (subst (λ (xs : List Write). IsCutShort old.content xs left) writes cut_there) in
      let outside : SameOutside (512 * start) (512 * sectors) old.content left = elim cut [
        | inl all ↦
            let stored = stored_all start are.header m.stored sectors old.content (omega arith) room in
            subst (SameOutside (512 * start) (512 * sectors) old.content) (sym all) (outside_around stored.outside (512 * start) (512 * sectors) (omega arith) (omega arith))
        | inr kept ↦ outside_around kept (512 * start) (512 * sectors) (omega arith) (omega arith)
      ] in
      record {
        outside = outside;
        header = elim cut [
          | inl all ↦ inl (record {
            start = first;
            writes = ws;
            are = are;
            done = λ _. all ∙ ap (after old.content) (sym writes);
            within = λ _. leaves_none old.crashes (IsCutShort old.content ws);
            outside = subst (λ (x : ℕ). SameOutside (512 * x) (512 * sectors) old.content left) (sym at) outside;
          })
          | inr kept ↦ inr (part_before kept (512 * start) 256 (omega arith))
        ];
      }

  -- no more than the bitmap is written, also where a write fails
  beside : (first : ℕ) (ws : List Write) → AreMarkWrites a m first ws → (made rest : List Write) → ws ≡ made ++ rest → IsNextAny rest (after old.content made) left → SameOutside (512 * start) (512 * sectors) old.content left
  beside first ws are made rest order next =
      let at : first ≡ start = sym (starts_at m.superblock first are.at) in
      let writes : ws ≡ bitmap_writes start are.header m.stored sectors = are.writes_are ∙ ap (λ (x : ℕ). bitmap_writes x are.header m.stored sectors) at in
      area_kept start sectors made rest old.content left
      (subst (AllIn start sectors) (sym writes ∙ order) (all_in start are.header m.stored sectors (omega arith))) room next

  module _ (e : Disk) (honest : old.honest ≡ true) (may : MayBeLeft old e left ⊎ (left ≡ e.content)) where
    stores_left : StoresMarksOn a m old e → IsPartlyStored
    stores_left s = elim may [
      | inl (inl same) ↦ as_was same
      | inl (inr new) ↦ stopped s.start s.writes s.are (new_has old.crashes e.crashes (IsCutShort old.content s.writes) (s.within honest) new.0 left new.1)
      | inr end ↦ stopped s.start s.writes s.are (record { done = s.writes; rest = []; order = sym (append-nil s.writes); mixed = end ∙ s.done honest })
    ]

    fails_left : FailsToStore a m old e → IsHeaderKept m old.content left → IsPartlyStored
    fails_left f kept = record {
      outside = elim may [
        | inl (inl same) ↦ subst (SameOutside (512 * start) (512 * sectors) old.content) (sym same) (outside_none (512 * start) (512 * sectors) old.content)
        | inl (inr new) ↦
            elim (new_has old.crashes e.crashes (λ c. IsCutShort old.content f.made c ⊎ IsAnyIn f.tried (after old.content f.made) c) (f.within honest) new.0 left new.1) [
              | inl cut ↦ beside f.start f.writes f.are cut.done (cut.rest ++ f.tried ∷ f.rest)
                  (f.order ∙ ap (λ (xs : List Write). xs ++ f.tried ∷ f.rest) cut.order ∙ append_assoc cut.done cut.rest (f.tried ∷ f.rest)) (next_any cut.rest (f.tried ∷ f.rest) (after old.content cut.done) left cut.mixed)
              | inr any ↦ beside f.start f.writes f.are f.made (f.tried ∷ f.rest) f.order any
            ]
        | inr end ↦ beside f.start f.writes f.are f.made (f.tried ∷ f.rest) f.order (subst (IsAnyIn f.tried (after old.content f.made)) (sym end) (f.stopped honest))
      ];
      header = inr kept;
    }

    alone_left : IsLeftAlone old e → left ≡ old.content
    alone_left is = elim may [
      | inl (inl same) ↦ same
      | inl (inr new) ↦ new_has old.crashes e.crashes (λ c. c ≡ old.content) (is.1 honest) new.0 left new.1
      | inr end ↦ end ∙ is.0
    ]

-- ---- it is as it was left
module _ (t : Moment) (at_t : IsSoundAt t) (before : List Disk) (is : ArrayView)
    (r : AreFoundAgain t before) (o : IsArrayOf before is)
    (k j : ℕ) (there : r.at k ≡ Some j) (n : MemberView) (is_member : IsMember is j n) (left : List ℕ) where
  abbrev f : IsFoundAgain t.mirror.array r.left before k j
  f = r.again k j there

  abbrev was : ArrayView
  was = t.mirror.array

  abbrev m : MemberView
  m = f.member

  abbrev info : MemberInfo
  info = (again t at_t before is r o k j there n is_member).info

  abbrev seen : IsReadMember is n info f.disk_now.content
  seen = (again t at_t before is r o k j there n is_member).seen

  at : n.superblock.bitmap_offset ≡ m.superblock.bitmap_offset
  at = bitmap_offset t at_t before is r o k j there n is_member

  count : is.marks.chunks ≡ was.marks.chunks
  count = same_count t at_t before is r o

  -- the same area
  same_chunks : n.stored.chunks ≡ m.stored.chunks
  same_chunks = sym seen.count ∙ count ∙ sym (at_t.sound.chunks.member_count k m f.is_member)

  abbrev new : Disk
  new = record f.disk_now { content = left }

  pub room : 512 * (sector_from_super n.superblock.bitmap_offset + bitmap_sectors n.stored.chunks) ≤ length f.disk_now.content
  room = fits_on _ (sector_from_super n.superblock.bitmap_offset) (bitmap_sectors n.stored.chunks) (length f.disk_now.content) (read.starts is n info f.disk_now.content seen)
      (read.bitmap_placed is n info f.disk_now.content seen).within.to

  module _ (need : NeedsMarks n) (partly : IsPartlyStored is n f.disk_now left room) where
    outside : SameOutside (512 * sector_from_super m.superblock.bitmap_offset) (512 * bitmap_sectors m.stored.chunks) f.disk_now.content new.content
    outside = subst (λ (x : ℕ). SameOutside (512 * sector_from_super m.superblock.bitmap_offset) (512 * bitmap_sectors x) f.disk_now.content new.content) same_chunks
        (subst (λ x. SameOutside (512 * sector_from_super x) (512 * bitmap_sectors n.stored.chunks) f.disk_now.content new.content) at partly.outside)

    -- before it counted as all marked
    refused : is_accepted (stored_of was m f.disk_now.content) ≡ false
    refused =
        ap is_accepted (sym (same_stored t at_t before is r o k j there n is_member))
        ∙ by_test (is_accepted (stored_of is n f.disk_now.content)) (λ e. absurd (need.refused (read.accepted_before is n info f.disk_now.content seen e))) (λ e. e)

    opened_member : StoresMarksOn is n f.disk_now new → IsOpenedMember is n info f.disk_now new
    opened_member stores = record { honest = r.honest j f.disk_now f.at_now; member = seen; stored = λ _. stores; unchanged = λ none. absurd (none need) }

    -- where all marks are stored
    module _ (stores : StoresMarksOn is n f.disk_now new) where
      stored_size : chunk_size_on m.superblock new.content ≡ chunk_size_on m.superblock f.disk_now.content
      stored_size =
          (λ i. number_at 4 52 (header_on new.content (sector_from_super (sym at i))))
          ∙ chunk_size_new is n info f.disk_now new (opened_member stores) need.in_sync
          ∙ sym (read.chunk_size_old is n info f.disk_now.content seen)
          ∙ (λ i. number_at 4 52 (header_on f.disk_now.content (sector_from_super (at i))))

      stored_bit : (c : ℕ) → c < was.marks.chunks → (stored_of was m new.content).bits c ≡ true
      stored_bit c low =
          let low_is : c < is.marks.chunks = subst (λ (x : ℕ). c < x) (sym count) low in
          and_from (nat_lt c was.marks.chunks) _ (lt-ltb c was.marks.chunks low)
          ((λ i. is_set (drop (512 * sector_from_super (sym at i) + 256) new.content) c)
          ∙ bits_new is n info f.disk_now new (opened_member stores) need.in_sync c low_is
          ∙ seen.kept.all_marks need c
          ∙ lt-ltb c n.stored.chunks (subst (λ (x : ℕ). c < x) seen.count low_is))

    -- where the header is as it was
    module _ (kept : IsHeaderKept n f.disk_now.content left) where
      header_kept : header_on new.content (sector_from_super m.superblock.bitmap_offset) ≡ header_on f.disk_now.content (sector_from_super m.superblock.bitmap_offset)
      header_kept = subst (λ x. header_on new.content (sector_from_super x) ≡ header_on f.disk_now.content (sector_from_super x)) at kept

      still_refused : is_accepted (stored_of was m new.content) ≡ false
      still_refused =
          let alone = bitmap_alone was m f.disk_now.content new.content (again t at_t before is r o k j there n is_member).parts outside in
          (λ i. accepts (alone i).super (number_at 8 24 (header_kept i)) (header_fits was (header_kept i)))
          ∙ refused

    marked : (c : ℕ) → c < was.marks.chunks → is_marked (stored_of was m new.content) c ≡ true
    marked c low = elim partly.header [
      | inl stores ↦ either (is_accepted (stored_of was m new.content)) (stored_bit stores c low)
      | inr kept ↦ ap (λ b. cond b ((stored_of was m new.content).bits c) true) (still_refused kept)
    ]
      where
        either : (b : Bool) {x : Bool} → x ≡ true → cond b x true ≡ true
        either true e = e
        either false e = refl

    pub half_as_left : IsAsLeft was m f.disk_left.content new.content
    half_as_left = record {
      outside = outside_then f.as_left.outside outside;
      chunk_size = elim partly.header [
        | inl stores ↦ stored_size stores
        | inr kept ↦ ap (number_at 4 52) (header_kept kept)
      ] ∙ f.as_left.chunk_size;
      marks = λ s low clear.
          let in_range = div-lt-div_ceil was.chunks.size was.chunks.sectors s at_t.sound.chunks.wide low in
          absurd (true≢false (sym (marked (chunk_of (geometry_of was) s) (subst (λ (x : ℕ). s / was.chunks.sectors < x) (sym at_t.sound.chunks.count) in_range)) ∙ clear));
    }

  module _ (e : Disk) (may : MayBeLeft f.disk_now e left ⊎ (left ≡ e.content)) where
    honest : f.disk_now.honest ≡ true
    honest = r.honest j f.disk_now f.at_now

    pub alone_as_left : IsLeftAlone f.disk_now e → IsAsLeft was m f.disk_left.content left
    alone_as_left alone = subst (IsAsLeft was m f.disk_left.content) (sym (alone_left is n f.disk_now left room e honest may alone)) f.as_left

    pub marked_as_left : IsMarkedBy is n f.disk_now e → IsAsLeft was m f.disk_left.content left
    marked_as_left marked = by_need n
        (λ need. half_as_left need (stores_left is n f.disk_now left room e honest may (marked.0 need)))
        (λ none. alone_as_left (marked.1 none))

    pub failed_as_left : NeedsMarks n → FailsToStore is n f.disk_now e → IsHeaderKept n f.disk_now.content left → IsAsLeft was m f.disk_left.content left
    failed_as_left need fails kept = half_as_left need (fails_left is n f.disk_now left room e honest may fails kept)

-- ---- so is each device that an interrupted open leaves
module _ (t : Moment) (at_t : IsSoundAt t) (before : List Disk) (is : ArrayView)
    (r : AreFoundAgain t before) (o : IsArrayOf before is) (left : List (List ℕ)) (half : IsHalfOpened is before left)
    (k j : ℕ) (at : r.at k ≡ Some j) (c : List ℕ) (there : slice_get left j ≡ Some c) where
  abbrev then : IsFoundAgain t.mirror.array r.left before k j
  then = r.again k j at

  as_many : length half.after ≡ length before
  as_many = elim half.opens [
    | inl marked ↦ marked.same.as_many
    | inr fails ↦ fails.ends.same.as_many
  ]

  end : (e : Disk) × (slice_get half.after j ≡ Some e)
  end = let low = slice_get_within before j then.disk_now then.at_now in let many = as_many in got_within half.after j (omega arith)

  member : (n : MemberView) × IsMember is j n
  member =
      let low = slice_get_within before j then.disk_now then.at_now in
      let read_many = o.read.as_many in
      let members_many = o.remembered.as_many in
      got_within is.members j (omega arith)

  may : MayBeLeft then.disk_now end.0 c ⊎ (c ≡ end.0.content)
  may = elim half.when [
    | inl within ↦ inl (within.each j then.disk_now end.0 c then.at_now end.1 there)
    | inr last ↦ inr (same_Some c end.0.content (sym there ∙ ap (λ (cs : List (List ℕ)). slice_get cs j) last ∙ got_in_map (λ (d : Disk). d.content) half.after j end.0 end.1))
  ]

  by_marks : IsMarkedBy is member.0 then.disk_now end.0 → IsAsLeft t.mirror.array then.member then.disk_left.content c
  by_marks = marked_as_left t at_t before is r o k j at member.0 member.1 c end.0 may

  by_failure : (x : FailsOnMember is before half.after left) → IsAsLeft t.mirror.array then.member then.disk_left.content c
  by_failure x = by_same j x.on
      (λ here.
      let same : member.0 ≡ x.ends.member = same_Some member.0 x.ends.member (sym member.1 ∙ ap (slice_get is.members) here ∙ x.ends.at) in
      let was : slice_get before x.on ≡ Some then.disk_now = sym (ap (slice_get before) here) ∙ then.at_now in
      failed_as_left t at_t before is r o k j at member.0 member.1 c end.0 may
      (subst NeedsMarks (sym same) x.ends.needs)
      (subst (λ (n : MemberView). FailsToStore is n then.disk_now end.0) (sym same) (x.ends.failed then.disk_now end.0 was (sym (ap (slice_get half.after) here) ∙ end.1)))
      (subst (λ (n : MemberView). IsHeaderKept n then.disk_now.content c) (sym same) (x.header then.disk_now c was (sym (ap (slice_get left) here) ∙ there))))
      (λ apart. elim (cases_lt j x.on) [
        | inl earlier ↦ by_marks (x.ends.earlier j then.disk_now end.0 then.at_now end.1 earlier member.0 member.1)
        | inr behind ↦ alone_as_left t at_t before is r o k j at member.0 member.1 c end.0 may (x.ends.later j then.disk_now end.0 then.at_now end.1 (above x.on j behind (λ same. apart (sym same))))
      ])

  pub as_left : IsAsLeft t.mirror.array then.member then.disk_left.content c
  as_left = elim half.opens [
    | inl marked ↦ by_marks (marked.each j then.disk_now end.0 then.at_now end.1 member.0 member.1)
    | inr fails ↦ by_failure fails
  ]

-- ---- at each moment of a life
pub read_as_kept : IsReadAsKeptInLives
read_as_kept before m start es rest final last life = (life_keeps m es rest final last (sound_when_opened before m start.honest start.opened) life).read

pub stays_as_left : StaysAsLeft
stays_as_left before m start es rest final last life found a devices of left half k j at c there =
    as_left last (life_keeps m es rest final last (sound_when_opened before m start.honest start.opened) life) found a devices of left half k j at c there
