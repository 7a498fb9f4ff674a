-- What the members in sync hold, and the target where it lacks nothing, they hold once the target is salvaged and prepared: some content is held, as an
-- enrolment asks.
use Rattle.std.proofs.Common.{◌≡◌, ◌≢◌, ◌∙◌, ◌⊎◌, ℕ, ◌+◌, ◌*◌, ◌/◌, ◌<◌, ◌≤◌, Bool, true, false, true≢false, nat_lt, set, List, slice_get, Some, refl, sym, ap, subst, arith, inl, inr, lt-ltb}
use Rattle.std.proofs.lemmas.Bool.{and_from, both_ways, cases_Bool, cases_eq, cases_lt}
use Rattle.std.proofs.lemmas.Option.{same_Some, slice_get_within}
use Rattle.md_assembly.specs.States.{is_in_sync}
use Rattle.md_assembly.proofs.Indices.{got_same, got_within}
use Rattle.md_badblocks.specs.declared.run.Run.{Run}
use Rattle.md_badblocks.specs.Runs.{IsBad}
use Rattle.md_bitmap.specs.declared.chunks.Chunks.{Chunks}
use Rattle.md_bitmap.specs.Chunks.{InChunk}
use Rattle.md_bitmap.specs.Marks.{Bitmap, is_set}
use Rattle.md_bitmap.proofs.Limits.{div-lt-div_ceil}
use Rattle.md_device.specs.Splice.{part}
use Rattle.md_kept_members.specs.SectorLists.{IsPlaced, in_chunks_but, in_runs}
use Rattle.md_kept_members.specs.View.{MemberView}
use Rattle.md_model.specs.Content.{Content}
use Rattle.md_model.proofs.Cases.{by_test}
use Rattle.md_state.specs.Members.{IsMember}
use Rattle.md_state.specs.Missing.{is_missing}
use Rattle.md_state.specs.View.{ArrayView, Disk, MirrorView}
use Rattle.md_super.specs.declared.superblock.Superblock.{Superblock}
use Rattle.md_array.specs.Consistency.{IsConsistent}
use Rattle.md_array.specs.Steps.Enrol.{Enrols, HoldsContent, MayEnrolSectors}
use Rattle.md_array.specs.Steps.EnrolEvents.{IsHeldBy, prepared}
use Rattle.md_array.specs.Worlds.{AreHonest, lies_in, lists_of}
use Rattle.md_array.proofs.General.Indices.{got_other}
use Rattle.md_array.proofs.Rebuilding.HeldContent.{another, its_chunk, then_sector}
use Rattle.md_array.proofs.Rebuilding.InBetween.{prepared_is, superblock, then_at, then_disk}
use Rattle.md_array.proofs.Worlds.Bad.{test_from_bad}
use Rattle.md_copy.specs.Salvaging.Sectors.{IsLacked}
use Rattle.md_copy.specs.Salvaging.Steps.{Salvages, SalvagesReadied}
use Rattle.md_copy.specs.Table.Sources.{missing_chunks}
use Rattle.md_copy.specs.declared.salvaging.salvaged.Salvaged.{Salvaged}
use Rattle.md_copy.proofs.Leads.RebuildLeads.{begin_holds}
use Rattle.md_copy.proofs.Passing.PassesTold.{HoldsSoFar}
use Rattle.md_copy.proofs.Ready.StartsReadied.{starts_of}
use Rattle.md_copy.proofs.SalvageLaws.LastSteps.{listed_devices}
use Rattle.md_copy.proofs.SalvageLaws.SalvageLeads.{ListsThem, lists_lead}
use Rattle.md_copy.proofs.SalvageLaws.SalvagedMember.{alike, byte_filled, go_f, isnt_f, stay, still_or_copied, to}
use Rattle.md_copy.proofs.SalvageLaws.SectorsBeside.{same_bytes}
use Rattle.md_copy.proofs.SalvageLaws.SectorsKept.{IsAlike, disk_was}
use Rattle.md_copy.proofs.SalvageLemmas.EveryRole.{in_no_role}
use Rattle.md_copy.proofs.SalvageLemmas.HeldSectors.{sector_holds}
use Rattle.md_copy.proofs.Stored.StoringKeeps.{KeepsAll, settles_keep}
use Rattle.md_call_laws.specs.Rebuilds.RebuiltInLife.{HeldWhatItHad}
use Rattle.md_call_laws.proofs.RebuildLemmas.HeldAtEnrol.{held_readied}

-- ---- the target as lists are stored: it is out of sync, and as it was
module _ (listed : List Run) (target : ℕ) (old noted stored : MirrorView) where
  lists_array : ListsThem listed old noted stored → stored.array ≡ record old.array { members = stored.array.members }
  lists_array (inl none) = ap (λ (v : MirrorView). record v.array { members = stored.array.members }) none.1
  lists_array (inr both) = both.1.others ∙ ap (λ (a : ArrayView). record a { members = stored.array.members }) both.0.others

  same_then : ListsThem listed old noted stored → (m n : MemberView) → IsMember old.array target m → is_in_sync m.state ≡ false → IsMember stored.array target n → n ≡ m
  same_then (inl none) m n at_m out at_n = same_Some n m (sym at_n ∙ ap (λ (v : MirrorView). slice_get v.array.members target) none.1 ∙ at_m)
  same_then (inr both) m n at_m out at_n =
      let low = slice_get_within old.array.members target m at_m in
      let many = both.0.goes.array.as_many in
      let z = got_within noted.array.members target (omega (arith, low, many)) in
      let same : z.0 ≡ m = (both.0.lists target m z.0 at_m z.1).alone.out out in
      elim (both.1.members target z.0 n z.1 at_n) [
        | inl is ↦ absurd (in_no_role z.0 (ap (λ (x : MemberView). is_in_sync x.state) same ∙ out) is.0)
        | inr kept ↦ kept.1 ∙ same
      ]

module _ (target : ℕ) (told : Salvaged) (old new : MirrorView) (h : Salvages target told old new) (content : Content) (honest_f : AreHonest h.salvages.filled.disks) (has_f : HoldsContent h.salvages.filled.disks h.salvages.filled.array content)
    (honest : AreHonest h.salvages.enrols.stored.disks) (has : HoldsContent h.salvages.enrols.stored.disks h.salvages.enrols.stored.array content) (had : HeldWhatItHad target content old) where
  abbrev s : SalvagesReadied target h.begins.now h.none h.ready new told
  s = h.salvages

  abbrev v : MirrorView
  v = h.ready

  abbrev f : MirrorView
  f = h.salvages.filled

  abbrev st : MirrorView
  st = h.salvages.enrols.stored

  abbrev a : ArrayView
  a = h.salvages.enrols.stored.array

  abbrev m : MemberView
  m = h.begins.now

  abbrev mf : MemberView
  mf = h.salvages.fills.now

  abbrev at_f : IsMember h.salvages.filled.array target h.salvages.fills.now
  at_f = h.salvages.fills.there

  abbrev n : MemberView
  n = h.salvages.enrols.may.member

  abbrev at_n : IsMember h.salvages.enrols.stored.array target h.salvages.enrols.may.member
  at_n = h.salvages.enrols.may.at

  abbrev but : ℕ → Bool
  but = in_chunks_but h.salvages.filled.array.chunks h.salvages.missing told.listed

  abbrev gone : ℕ → Bool
  gone = in_runs told.listed

  abbrev r : Enrols target (in_chunks_but h.salvages.filled.array.chunks h.salvages.missing told.listed) (in_runs told.listed) h.salvages.enrols.stored h.salvages.enrolled
  r = h.salvages.enrols.enrols

  abbrev may : MayEnrolSectors target (in_chunks_but h.salvages.filled.array.chunks h.salvages.missing told.listed) (in_runs told.listed) h.salvages.enrols.stored
  may = h.salvages.enrols.may

  so : HoldsSoFar target v h.none (missing_chunks v.array m)
  so = begin_holds target old v h.none h.begins

  settled : KeepsAll s.enrolled new × IsConsistent new
  settled = settles_keep s.enrolled new s.stores_until_done

  sound : IsConsistent st
  sound = (lists_lead target told.listed f s.enrols.noted st s.fills.sound s.enrols.lists).sound

  had_ready : HeldWhatItHad target content v
  had_ready = held_readied target content old v (starts_of target old v h.none h.begins) so.ready.sound had

  alike_f : IsAlike m mf
  alike_f = alike target m h.none v new told s h.begins.there so h.begins.is_none.bits new settled.0 settled.1

  out_f : is_in_sync mf.state ≡ false
  out_f = isnt_f target m h.none v new told s h.begins.there so h.begins.is_none.bits new settled.0 settled.1

  n_is : n ≡ mf
  n_is = same_then told.listed target f s.enrols.noted st s.enrols.lists mf n at_f out_f at_n

  array_is : a ≡ record f.array { members = a.members }
  array_is = lists_array told.listed target f s.enrols.noted st s.enrols.lists

  a_chunks : a.chunks ≡ f.array.chunks
  a_chunks = ap (λ (b : ArrayView). b.chunks) array_is

  v_chunks : f.array.chunks ≡ v.array.chunks
  v_chunks = (stay target m h.none v new told s h.begins.there so h.begins.is_none.bits new settled.0 settled.1).members.chunks

  v_marks : f.array.marks ≡ v.array.marks
  v_marks = (stay target m h.none v new told s h.begins.there so h.begins.is_none.bits new settled.0 settled.1).members.marks

  module _ (d : Disk) (was : slice_get st.disks target ≡ Some d) where
    abbrev then : Disk
    then = then_disk target but gone st s.enrolled sound r d was

    abbrev now : List Disk
    now = set st.disks target then

    -- the members in sync
    has_now : HoldsContent now a content
    has_now = record {
      held = λ j z y there on q low unlisted.
          (let apart = another target but gone st s.enrolled sound r may honest d was j y on in
          has.held j z y (sym (got_other st.disks target j then apart) ∙ there) on q low unlisted);
    }

    -- ---- the target, in a sector of a chunk that it does not lack
    module _ (q : ℕ) (low : q < a.chunks.size) (present : is_missing a n (q / a.chunks.sectors) ≡ false) (unlisted : lists_of a r.member q ≡ false) where
      abbrev sector : ℕ
      sector = n.superblock.data_offset + q

      it_is : r.comes.member ≡ n
      it_is = same_Some r.comes.member n (sym r.comes.at ∙ at_n)

      unplaced : IsPlaced but n.superblock.data_offset sector → ⊥
      unplaced p =
          let is = p.is in
          let same : p.at ≡ q = omega (arith, is) in
          let lacks = (may.only q (inl (sym (ap but same) ∙ p.in_set))).1 in
          both_ways (is_missing a n (q / a.chunks.sectors)) present lacks

      clear : IsBad n.bad sector → ⊥
      clear bad =
          let was_bad : IsBad r.comes.member.bad (r.comes.member.superblock.data_offset + q) = subst (λ (x : MemberView). IsBad x.bad (x.superblock.data_offset + q)) (sym it_is) bad in
          let listed : IsBad r.comes.list (r.comes.member.superblock.data_offset + q) =
          (r.comes.list_is.bad (r.comes.member.superblock.data_offset + q)).1
          (inl (was_bad, subst (λ (x : MemberView). IsPlaced but x.superblock.data_offset (x.superblock.data_offset + q) → ⊥) (sym it_is) unplaced)) in
          let there : IsBad r.member.bad (r.member.superblock.data_offset + q) =
          subst (λ (o : Superblock). IsBad r.member.bad (o.data_offset + q)) (sym (superblock target but gone st s.enrolled sound r))
          (subst (λ (runs : List Run). IsBad runs (r.comes.member.superblock.data_offset + q)) (sym r.comes.comes.bad) listed) in
          true≢false (sym (and_from (nat_lt q a.chunks.size) (lies_in r.member.bad (r.member.superblock.data_offset + q)) (lt-ltb q a.chunks.size low) (test_from_bad r.member.bad (r.member.superblock.data_offset + q) there)) ∙ unlisted)

      -- by the array when the target was ready
      low_v : q < v.array.chunks.size
      low_v = subst (λ (k : Chunks). q < k.size) (a_chunks ∙ v_chunks) low

      abbrev c : ℕ
      c = q / v.array.chunks.sectors

      present_f : is_missing f.array mf c ≡ false
      present_f =
          sym (subst (λ (k : Chunks). is_missing a n (q / k.sectors) ≡ is_missing f.array mf c) (sym (a_chunks ∙ v_chunks)) (ap (λ (b : ArrayView). is_missing b n c) array_is ∙ ap (λ (z : MemberView). is_missing f.array z c) n_is)) ∙ present

      c_low : c < v.array.marks.chunks
      c_low = subst (λ (z : ℕ). c < z) (sym so.ready.sound.chunks.count) (div-lt-div_ceil v.array.chunks.size v.array.chunks.sectors q so.ready.sound.chunks.wide low_v)

      inside : InChunk v.array.chunks.sectors v.array.chunks.size c q
      inside = its_chunk v.array.chunks.size v.array.chunks.sectors q so.ready.sound.chunks.wide low_v

      -- the target's device once all chunks are filled
      disk_f : (b : Disk) × (slice_get f.disks target ≡ Some b)
      disk_f =
          let within = slice_get_within st.disks target d was in
          let many = (listed_devices told.listed f s.enrols.noted st s.enrols.lists).as_many in
          got_within f.disks target (omega (arith, within, many))

      disk_v : (b : Disk) × (slice_get v.disks target ≡ Some b)
      disk_v = disk_was target v f (stay target m h.none v new told s h.begins.there so h.begins.is_none.bits new settled.0 settled.1).devices target disk_f.0 disk_f.1

      size_f : f.array.chunks.size ≤ mf.superblock.data_size
      size_f =
          let fits = (s.fills.sound.fits.each target disk_f.0 mf disk_f.1 at_f).placed.data_holds in
          let same = s.fills.sound.chunks.size in
          let mine = s.fills.sound.chunks.member_size target mf at_f in
          omega (arith, fits, same, mine)

      low_f : q < f.array.chunks.size
      low_f = subst (λ (k : Chunks). q < k.size) a_chunks low

      -- one that was copied it has from a member that serves it
      held_copied : is_set s.copied.bytes c ≡ true → part disk_f.0.content (512 * (mf.superblock.data_offset + q)) 512 ≡ content q
      held_copied set =
          let held = (to target m h.none v new told s h.begins.there so h.begins.is_none.bits new settled.0 settled.1).held.held c q (subst (λ (b : Bitmap). c < b.chunks) (sym v_marks) c_low) set
          (subst (λ (k : Chunks). InChunk k.sectors k.size c q) (sym v_chunks) inside) in
          let running = (go_f target m h.none v new told s h.begins.there so h.begins.is_none.bits new settled.0 settled.1).ready.goes.idle.running in
          sector_holds target f s.fills.sound running honest_f q low_f held content has_f disk_f.0 mf disk_f.1 at_f

      -- one that was not it did not lack before, and it was left
      present_v : is_set s.copied.bytes c ≡ false → is_missing v.array m c ≡ false
      present_v free = elim (cases_Bool (is_missing v.array m c)) [
        | inr has_it ↦ has_it
        | inl lacks ↦ elim (still_or_copied target m h.none v new told s h.begins.there so h.begins.is_none.bits new settled.0 settled.1 c c_low lacks) [
          | inl missing ↦ absurd (both_ways (is_missing f.array mf c) present_f missing)
          | inr set ↦ absurd (both_ways (is_set s.copied.bytes c) free set)
        ]
      ]

      beside_it : is_set s.copied.bytes c ≡ false → (p i : ℕ) → 512 * (m.superblock.data_offset + q) ≤ p → p < 512 * (m.superblock.data_offset + q) + 512 → IsLacked v.array m i
          → (p + 1 ≤ 512 * (m.superblock.data_offset + i)) ⊎ (512 * (m.superblock.data_offset + i + 1) ≤ p)
      beside_it free p i from below lacks = elim (cases_lt i q) [
        | inl less ↦ inr (omega (arith, less, from))
        | inr up ↦ elim (cases_eq i q) [
          | inl same ↦ absurd (both_ways (is_missing v.array m c) (present_v free) (ap (λ (x : ℕ). is_missing v.array m (x / v.array.chunks.sectors)) (sym same) ∙ lacks.missing))
          | inr other ↦ inl (omega (arith, up, other, below))
        ]
      ]

      held_before : is_set s.copied.bytes c ≡ false → part disk_f.0.content (512 * (mf.superblock.data_offset + q)) 512 ≡ content q
      held_before free =
          let offset = alike_f.offset in
          let size = alike_f.size in
          let long = size_f in
          let short = low_f in
          ap (λ (o : ℕ). part disk_f.0.content (512 * (o + q)) 512) offset
          ∙ same_bytes disk_f.0.content disk_v.0.content (512 * (m.superblock.data_offset + q)) 512
          (λ p from below.
          byte_filled target m h.none v new told s h.begins.there so h.begins.is_none.bits new settled.0 settled.1 p (omega (arith, from)) (omega (arith, below, offset, size, long, short))
          (λ i lacks isnt. beside_it free p i from below lacks) disk_v.0 disk_f.0 disk_v.1 disk_f.1)
          ∙ had_ready disk_v.0 m disk_v.1 h.begins.there q low_v (present_v free)
          (λ bad. clear (subst (λ (x : MemberView). IsBad x.bad (x.superblock.data_offset + q)) (sym n_is)
          (subst (λ (runs : List Run). IsBad runs (mf.superblock.data_offset + q)) (sym alike_f.bad) (subst (λ (o : ℕ). IsBad m.bad (o + q)) (sym offset) bad))))

      held_filled : part disk_f.0.content (512 * (mf.superblock.data_offset + q)) 512 ≡ content q
      held_filled = by_test (is_set s.copied.bytes c) held_copied held_before

      held_there : part d.content (512 * sector) 512 ≡ content q
      held_there =
          let long = size_f in
          let short = low_f in
          ap (λ (z : MemberView). part d.content (512 * (z.superblock.data_offset + q)) 512) n_is
          ∙ (listed_devices told.listed f s.enrols.noted st s.enrols.lists).keeps target disk_f.0 d mf disk_f.1 was at_f (512 * (mf.superblock.data_offset + q)) 512 (omega arith) (omega (arith, long, short))
          ∙ held_filled

    told_then : (e : Disk) (y : MemberView) → slice_get now target ≡ Some e → IsMember a target y → (q : ℕ) → q < a.chunks.size → is_missing a y (q / a.chunks.sectors) ≡ false → lists_of a r.member q ≡ false
        → part e.content (512 * (y.superblock.data_offset + q)) 512 ≡ content q
    told_then e y at_e at_y q low present unlisted =
        let device : then ≡ e = got_same now target then e (then_at target but gone st s.enrolled sound r d was) at_e in
        let here : y ≡ r.comes.member = same_Some y r.comes.member (sym at_y ∙ r.comes.at) in
        let mine : y ≡ n = same_Some y n (sym at_y ∙ at_n) in
        sym (ap (λ (x : Disk). part x.content (512 * (y.superblock.data_offset + q)) 512) device)
        ∙ ap (λ (x : MemberView). part then.content (512 * (x.superblock.data_offset + q)) 512) here
        ∙ then_sector target but gone st s.enrolled sound r may honest d was q low
        ∙ ap (λ (x : MemberView). part d.content (512 * (x.superblock.data_offset + q)) 512) (sym here ∙ mine)
        ∙ held_there q low (subst (λ (x : MemberView). is_missing a x (q / a.chunks.sectors) ≡ false) mine present) unlisted

    held_now : IsHeldBy target (lists_of a r.member) content (prepared r)
    held_now = subst (IsHeldBy target (lists_of a r.member) content) (sym (prepared_is target but gone st s.enrolled sound r d was)) (record { in_sync = has_now; told = told_then })

  pub is_held : IsHeldBy target (lists_of a r.member) content (prepared r)
  is_held =
      let low = slice_get_within a.members target r.comes.member r.comes.at in
      let many = sound.fits.as_many in
      let d = got_within st.disks target (omega (arith, low, many)) in
      held_now d.0 d.1
