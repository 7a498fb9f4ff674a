-- What the members in sync hold, and the target where it lacks nothing, they hold once the target is filled and prepared: some content is
-- held, as an enrolment asks.
use Rattle.std.proofs.Common.{◌≡◌, ◌∙◌, ℕ, ◌+◌, ◌*◌, ◌/◌, ◌<◌, inl, true, false, true≢false, nat_lt, set, List, slice_get, Some, sym, ap, subst, arith, lt-ltb}
use Rattle.md_kept_members.proofs.SectorSets.{after_of}
use Rattle.md_array.proofs.Rebuilding.ByChunks.{may_by_chunks}
use Rattle.md_kept_members.specs.SectorLists.{in_chunks}
use Rattle.std.specs.Int.{div_ceil}
use Rattle.std.proofs.lemmas.Bool.{and_from}
use Rattle.std.proofs.lemmas.Grind.{div_ceil_times}
use Rattle.std.proofs.lemmas.Nat.{div_below}
use Rattle.std.proofs.lemmas.Option.{same_Some, slice_get_within}
use Rattle.md_assembly.specs.States.{is_recovering}
use Rattle.md_assembly.proofs.Indices.{got_same, got_within}
use Rattle.md_badblocks.specs.declared.run.Run.{Run}
use Rattle.md_badblocks.specs.Runs.{IsBad}
use Rattle.md_bitmap.specs.declared.chunks.Chunks.{Chunks}
use Rattle.md_bitmap.specs.Chunks.{InChunk}
use Rattle.md_bitmap.specs.Marks.{Bitmap, is_set}
use Rattle.md_device.specs.Splice.{part}
use Rattle.md_kept_members.specs.Enrolling.{IsOf}
use Rattle.md_kept_members.specs.View.{MemberView}
use Rattle.md_model.specs.Content.{Content}
use Rattle.md_model.proofs.Cases.{by_test}
use Rattle.md_copy.specs.PassLaws.Listed.{ListsOwn}
use Rattle.md_state.specs.Members.{IsMember}
use Rattle.md_state.specs.Missing.{is_missing}
use Rattle.md_state.specs.View.{ArrayView, Disk, MirrorView}
use Rattle.md_super.specs.declared.superblock.Superblock.{Superblock}
use Rattle.md_array.specs.Consistency.{IsConsistent}
use Rattle.md_array.specs.Steps.Enrol.{EnrolsChunks, HoldsContent}
use Rattle.md_array.specs.Steps.EnrolEvents.{IsHeldBy, prepared}
use Rattle.md_array.specs.Worlds.{AreHonest, lies_in, lists_of}
use Rattle.md_array.proofs.General.Indices.{got_other}
use Rattle.md_array.proofs.Rebuilding.HeldContent.{another, its_chunk, then_sector}
use Rattle.md_array.proofs.Rebuilding.InBetween.{prepared_is, superblock, then_at, then_disk}
use Rattle.md_array.proofs.Worlds.Bad.{test_from_bad}
use Rattle.md_copy.specs.Table.Sources.{missing_chunks}
use Rattle.md_copy.specs.Rebuilt.{failed_of}
use Rattle.md_copy.proofs.Held.HeldChunks.{one_holds}
use Rattle.md_copy.proofs.Passing.PassesKeep.{IsBesideSince, PassesKeep, all_keep}
use Rattle.md_copy.proofs.Passing.PassesLack.{LacksSame, all_lacks}
use Rattle.md_copy.proofs.Passing.PassesTold.{HoldsSoFar, filled_held, filled_ready}
use Rattle.md_copy.proofs.Leads.RebuildLeads.{begin_holds}
use Rattle.md_copy.proofs.Ready.StartedAs.{StartsAs}
use Rattle.md_copy.proofs.Ready.StartsReadied.{starts_of}
use Rattle.md_call_laws.specs.Rebuilds.RebuiltInLife.{HeldWhatItHad}
use Rattle.md_call_laws.specs.Rebuilds.RebuildCrashes.{HasFilled}
use Rattle.md_call_laws.proofs.RebuildLemmas.RebuiltHolds.{beside_other, one_chunk}

-- ---- what it held before, it holds once the rebuild is readied
module _ (target : ℕ) (content : Content) (old v : MirrorView) (st : StartsAs target old v) (sound : IsConsistent v) (had : HeldWhatItHad target content old) where
  chunk_low : (s : ℕ) → s < v.array.chunks.size → s / v.array.chunks.sectors < old.array.marks.chunks
  chunk_low s low =
      let bounds = div_ceil_times v.array.chunks.size v.array.chunks.sectors sound.chunks.wide in
      let below = div_below s v.array.chunks.sectors (div_ceil v.array.chunks.size v.array.chunks.sectors) sound.chunks.wide (omega (arith, bounds.0)) in
      subst (λ (b : Bitmap). s / v.array.chunks.sectors < b.chunks) st.marks (subst (λ (x : ℕ). s / v.array.chunks.sectors < x) (sym sound.chunks.count) below)

  pub held_readied : HeldWhatItHad target content v
  held_readied d m at_d at_m s low present unlisted =
      let l = st.before target m at_m in
      let x = st.disk_before target d at_d in
      let fits = (sound.fits.each target d m at_d at_m).placed.data_holds in
      let size = sound.chunks.size in
      let own = sound.chunks.member_size target m at_m in
      let same_size = l.2.size in
      let low_old : s < old.array.chunks.size = subst (λ (k : Chunks). s < k.size) st.chunks low in
      let lacks_not : is_missing old.array l.0 (s / old.array.chunks.sectors) ≡ false = ap (λ (k : Chunks). is_missing old.array l.0 (s / k.sectors)) (sym st.chunks)
      ∙ sym (st.missing l.0 m l.1 at_m (s / v.array.chunks.sectors) (chunk_low s low)) ∙ present in
      ap (λ (o : ℕ). part d.content (512 * (o + s)) 512) l.2.offset
      ∙ st.kept target x.0 d l.0 x.1 at_d l.1 (512 * (l.0.superblock.data_offset + s)) 512 (omega arith) (omega (arith, low, fits, size, own, same_size))
      ∙ had x.0 l.0 x.1 l.1 s low_old lacks_not
      (λ bad. unlisted (subst (λ (runs : List Run). IsBad runs (m.superblock.data_offset + s)) (sym l.2.bad) (subst (λ (o : ℕ). IsBad l.0.bad (o + s)) (sym l.2.offset) bad)))

module _ (target : ℕ) (kept orphans : Bitmap) (old filled new : MirrorView) (h : HasFilled target kept orphans old filled) (r : EnrolsChunks target kept orphans filled new)
    (honest : AreHonest filled.disks) (content : Content) (has : HoldsContent filled.disks filled.array content) (had : HeldWhatItHad target content old) where
  abbrev v : MirrorView
  v = h.ready

  abbrev a : ArrayView
  a = filled.array

  abbrev m : MemberView
  m = h.begins.now

  abbrev n : MemberView
  n = h.fills.has.may.member

  abbrev sound : IsConsistent filled
  sound = h.fills.sound

  at_n : IsMember a target n
  at_n = h.fills.has.may.at

  so : HoldsSoFar target v h.none (missing_chunks v.array m)
  so = begin_holds target old v h.none h.begins

  had_ready : HeldWhatItHad target content v
  had_ready = held_readied target content old v (starts_of target old v h.none h.begins) so.ready.sound had

  keeps : PassesKeep target (failed_of h.passes) (failed_of h.passes) h.none h.copied v filled
  keeps = all_keep target m h.passes h.none h.copied v filled h.fills.copies

  lacks : LacksSame target h.none h.copied v.array a
  lacks = all_lacks target m h.passes h.none h.copied v filled h.fills.copies

  recovers : is_recovering m.state ≡ true
  recovers = so.ready.recovering m h.begins.there

  running : a.halted ≡ false
  running = (filled_ready target m h.passes h.none h.copied v filled h.fills.copies so).goes.idle.running

  own : ListsOwn v.array.chunks (failed_of h.passes) m n
  own =
      let x = keeps.lists.after target m h.begins.there in
      subst (ListsOwn v.array.chunks (failed_of h.passes) m) (same_Some x.0 n (sym x.1 ∙ at_n)) x.2

  module _ (d : Disk) (was : slice_get filled.disks target ≡ Some d) where
    abbrev then : Disk
    then = then_disk target (in_chunks filled.array.chunks kept) (in_chunks filled.array.chunks orphans) filled new sound r d was

    abbrev now : List Disk
    now = set filled.disks target then

    -- the members in sync
    has_now : HoldsContent now a content
    has_now = record {
      held = λ j z y there on s low unlisted.
          (let apart = another target (in_chunks filled.array.chunks kept) (in_chunks filled.array.chunks orphans) filled new sound r (may_by_chunks target kept orphans filled h.fills.sound h.fills.has.may) honest d was j y on in
          has.held j z y (sym (got_other filled.disks target j then apart) ∙ there) on s low unlisted);
    }

    -- ---- the target, in a sector of a chunk that it does not lack
    module _ (s : ℕ) (low : s < a.chunks.size) (present : is_missing a n (s / a.chunks.sectors) ≡ false) (unlisted : lists_of a r.member s ≡ false) where
      abbrev c : ℕ
      c = s / a.chunks.sectors

      abbrev sector : ℕ
      sector = n.superblock.data_offset + s

      inside : InChunk a.chunks.sectors a.chunks.size c s
      inside = its_chunk a.chunks.size a.chunks.sectors s sound.chunks.wide low

      c_low : c < a.marks.chunks
      c_low =
          let bounds = div_ceil_times a.chunks.size a.chunks.sectors sound.chunks.wide in
          subst (λ (x : ℕ). c < x) (sym sound.chunks.count) (div_below s a.chunks.sectors (div_ceil a.chunks.size a.chunks.sectors) sound.chunks.wide (omega (arith, bounds.0)))

      c_ready : c < v.array.marks.chunks
      c_ready = subst (λ (b : Bitmap). c < b.chunks) lacks.marks c_low

      it_is : r.comes.member ≡ n
      it_is = same_Some r.comes.member n (sym r.comes.at ∙ at_n)

      -- its list before has no sector of it
      unkept : IsOf a.chunks n.superblock.data_offset kept sector → ⊥
      unkept of =
          let is = of.of_chunk.is in
          let same : s ≡ of.of_chunk.at = omega arith in
          let one = one_chunk a.chunks.sectors a.chunks.size of.chunk c s (subst (InChunk a.chunks.sectors a.chunks.size of.chunk) (sym same) of.of_chunk.inside) inside in
          true≢false (sym (h.fills.has.may.only c c_low (inl (sym (ap (is_set kept.bytes) one) ∙ of.in_set))) ∙ present)

      clear : IsBad n.bad sector → ⊥
      clear bad =
          let was_bad : IsBad r.comes.member.bad (r.comes.member.superblock.data_offset + s) = subst (λ (x : MemberView). IsBad x.bad (x.superblock.data_offset + s)) (sym it_is) bad in
          let listed : IsBad r.comes.list (r.comes.member.superblock.data_offset + s) =
          ((after_of a.chunks kept orphans r.comes.member r.comes.list r.comes.list_is).bad (r.comes.member.superblock.data_offset + s)).1
          (inl (was_bad, subst (λ (x : MemberView). IsOf a.chunks x.superblock.data_offset kept (x.superblock.data_offset + s) → ⊥) (sym it_is) unkept)) in
          let there : IsBad r.member.bad (r.member.superblock.data_offset + s) =
          subst (λ (o : Superblock). IsBad r.member.bad (o.data_offset + s)) (sym (superblock target (in_chunks filled.array.chunks kept) (in_chunks filled.array.chunks orphans) filled new sound r))
          (subst (λ (runs : List Run). IsBad runs (r.comes.member.superblock.data_offset + s)) (sym r.comes.comes.bad) listed) in
          true≢false (sym (and_from (nat_lt s a.chunks.size) (lies_in r.member.bad (r.member.superblock.data_offset + s)) (lt-ltb s a.chunks.size low) (test_from_bad r.member.bad (r.member.superblock.data_offset + s) there)) ∙ unlisted)

      -- one that was copied, by now, it has from a member that serves it
      held_copied : is_set h.copied.bytes c ≡ true → part d.content (512 * sector) 512 ≡ content s
      held_copied set =
          one_holds target filled sound running honest c ((filled_held target m h.passes h.none h.copied v filled h.fills.copies so).held c c_low set) content has d n was at_n s inside

      -- one that was not, it lacked no more before the passes, and they left it
      held_before : is_set h.copied.bytes c ≡ false → part d.content (512 * sector) 512 ≡ content s
      held_before uncopied =
          let many = keeps.as_many in
          let low_d = slice_get_within filled.disks target d was in
          let b = got_within v.disks target (omega (arith, many, low_d)) in
          let chunks : a.chunks ≡ v.array.chunks = lacks.chunks in
          let offset = own.offset in
          let there : is_missing v.array m c ≡ false = sym (lacks.missing m n h.begins.there at_n recovers c c_ready uncopied) ∙ present in
          let low_ready : s < v.array.chunks.size = subst (λ (k : Chunks). s < k.size) chunks low in
          let has_it : is_missing v.array m (s / v.array.chunks.sectors) ≡ false = ap (λ (k : Chunks). is_missing v.array m (s / k.sectors)) (sym chunks) ∙ there in
          let fits = (so.ready.sound.fits.each target b.0 m b.1 h.begins.there).placed.data_holds in
          let size = so.ready.sound.chunks.size in
          let mine = so.ready.sound.chunks.member_size target m h.begins.there in
          let since : IsBesideSince v.array m h.none h.copied (512 * (m.superblock.data_offset + s)) 512 = record {
            from = omega arith;
            to = omega (arith, low_ready, size, mine);
            beside = λ e set none. beside_other v.array m.superblock.data_offset e c s (subst (λ (k : Chunks). InChunk k.sectors k.size c s) chunks inside)
                (λ same. true≢false (sym set ∙ ap (is_set h.copied.bytes) same ∙ uncopied));
          } in
          ap (λ (o : ℕ). part d.content (512 * (o + s)) 512) offset
          ∙ keeps.beside b.0 d m b.1 was h.begins.there (512 * (m.superblock.data_offset + s)) 512 since
          ∙ had_ready b.0 m b.1 h.begins.there s low_ready has_it
          (λ bad. clear (subst (λ (o : ℕ). IsBad n.bad (o + s)) (sym offset) ((own.bad (m.superblock.data_offset + s)).1 (inl bad))))

      held_there : part d.content (512 * sector) 512 ≡ content s
      held_there = by_test (is_set h.copied.bytes c) held_copied held_before

    told : (e : Disk) (y : MemberView) → slice_get now target ≡ Some e → IsMember a target y → (s : ℕ) → s < a.chunks.size → is_missing a y (s / a.chunks.sectors) ≡ false → lists_of a r.member s ≡ false
        → part e.content (512 * (y.superblock.data_offset + s)) 512 ≡ content s
    told e y at_e at_y s low present unlisted =
        let device : then ≡ e = got_same now target then e (then_at target (in_chunks filled.array.chunks kept) (in_chunks filled.array.chunks orphans) filled new sound r d was) at_e in
        let here : y ≡ r.comes.member = same_Some y r.comes.member (sym at_y ∙ r.comes.at) in
        let mine : y ≡ n = same_Some y n (sym at_y ∙ at_n) in
        sym (ap (λ (x : Disk). part x.content (512 * (y.superblock.data_offset + s)) 512) device)
        ∙ ap (λ (x : MemberView). part then.content (512 * (x.superblock.data_offset + s)) 512) here
        ∙ then_sector target (in_chunks filled.array.chunks kept) (in_chunks filled.array.chunks orphans) filled new sound r (may_by_chunks target kept orphans filled h.fills.sound h.fills.has.may) honest d was s low
        ∙ ap (λ (x : MemberView). part d.content (512 * (x.superblock.data_offset + s)) 512) (sym here ∙ mine)
        ∙ held_there s low (subst (λ (x : MemberView). is_missing a x (s / a.chunks.sectors) ≡ false) mine present) unlisted

    held_now : IsHeldBy target (lists_of a r.member) content (prepared r)
    held_now = subst (IsHeldBy target (lists_of a r.member) content) (sym (prepared_is target (in_chunks filled.array.chunks kept) (in_chunks filled.array.chunks orphans) filled new sound r d was)) (record { in_sync = has_now; told = told })

  pub is_held : IsHeldBy target (lists_of a r.member) content (prepared r)
  is_held =
      let low = slice_get_within a.members target r.comes.member r.comes.at in
      let many = sound.fits.as_many in
      let d = got_within filled.disks target (omega (arith, low, many)) in
      held_now d.0 d.1
