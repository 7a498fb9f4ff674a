-- What a salvage makes of its target from the moment that it is readied.
use Rattle.std.proofs.Common.{◌≡◌, ◌≢◌, ◌∙◌, ◌⊎◌, ◌↔◌, ℕ, ◌+◌, ◌-◌, ◌*◌, ◌/◌, ◌<◌, ◌≤◌, ◌&&◌, Bool, true, false, not, nat_lt, List, [], min, slice_get, Some, refl, sym, ap, subst, arith, inl, inr}
use Rattle.std.proofs.lemmas.Bool.{and_parts, both_ways, cases_Bool, cases_lt}
use Rattle.std.proofs.lemmas.Bool.Decides.{nat_tests}
use Rattle.std.proofs.lemmas.Option.{same_Some, slice_get_within}
use Rattle.md_assembly.proofs.Indices.{got_within}
use Rattle.md_assembly.specs.States.{is_in_sync}
use Rattle.md_badblocks.specs.declared.run.Run.{Run}
use Rattle.md_badblocks.specs.Runs.{IsBad}
use Rattle.md_bitmap.specs.declared.chunks.Chunks.{Chunks}
use Rattle.md_bitmap.specs.Chunks.{InChunk}
use Rattle.md_bitmap.specs.Marks.{Bitmap, is_set}
use Rattle.md_bitmap.proofs.Limits.{div-lt-div_ceil}
use Rattle.md_copy.specs.PassLaws.Passes.{slots_of_pass}
use Rattle.md_device.specs.Splice.{part}
use Rattle.md_kept_members.specs.SectorLists.{in_chunks, in_chunks_but, in_runs}
use Rattle.md_kept_members.specs.View.{MemberView}
use Rattle.md_kept_members.proofs.SectorSets.{bad_in, in_bad}
use Rattle.md_model.specs.Content.{Content}
use Rattle.md_model.proofs.Cases.{by_test}
use Rattle.md_device.proofs.Failing.{fails_still}
use Rattle.md_read.specs.Reading.{IsReadOfMember, NoneGives}
use Rattle.md_state.specs.Members.{IsInSync, IsMember}
use Rattle.md_state.specs.Missing.{AreMissing, is_missing}
use Rattle.md_state.specs.View.{Disk, MirrorView}
use Rattle.md_array.specs.Consistency.{IsConsistent}
use Rattle.md_array.specs.Steps.Enrol.{HoldsContent, KeepsData}
use Rattle.md_array.specs.Steps.Lend.{IsBesideChunk}
use Rattle.md_array.specs.Worlds.{AreHonest, is_listed}
use Rattle.md_array.proofs.Rebuilding.HeldContent.{chunk_unique, its_chunk}
use Rattle.md_copy.specs.Salvaging.Filling.{IsLeft}
use Rattle.md_copy.specs.Salvaging.Losing.{EnrolsWithout}
use Rattle.md_copy.specs.Salvaging.Salvaged.{IsBesideWritten, IsSalvaged, IsSectorServedThen}
use Rattle.md_copy.specs.Salvaging.Sectors.{AreSectorsHeld, IsLacked, IsSectorHeld, bytes_of_sector}
use Rattle.md_copy.specs.Salvaging.Steps.{FillsBut, SalvagesReadied}
use Rattle.md_copy.specs.Table.Sources.{missing_chunks}
use Rattle.md_copy.specs.declared.salvaging.salvaged.Salvaged.{Salvaged}
use Rattle.md_copy.proofs.Held.HeldRecorded.{out_of_sync}
use Rattle.md_copy.proofs.Passing.PassesKeep.{PassesKeep, pass_keeps}
use Rattle.md_copy.proofs.Passing.PassesLack.{pass_lacks}
use Rattle.md_copy.proofs.Passing.PassesTold.{HoldsSoFar}
use Rattle.md_copy.proofs.SalvageLaws.ChunkRuns.{GoesSoFar, salvaged_go}
use Rattle.md_copy.proofs.SalvageLaws.ChunksTo.{all_to, filled_all, lost_none, none_before}
use Rattle.md_copy.proofs.SalvageLaws.FilledSoFar.{listed_still}
use Rattle.md_copy.proofs.SalvageLaws.LastSteps.{last_bad, last_counted, last_grown, last_many, last_own, last_state, other_data, other_lists, other_out, other_then, own_data, own_list, sector_short}
use Rattle.md_copy.proofs.SalvageLaws.SalvageLeads.{passed_goes, passed_holds}
use Rattle.md_copy.proofs.SalvageLaws.SectorsBeside.{salvaged_byte, same_bytes}
use Rattle.md_copy.proofs.SalvageLaws.SectorsKept.{DevicesStay, IsAlike, Stays, between, disk_was, pass_stay, salvaged_stay, stays_on}
use Rattle.md_copy.proofs.SalvageLaws.SectorsLacked.{AreLossyClear, copied_missing, lossy_clear, missing_was}
use Rattle.md_copy.proofs.SalvageLemmas.HeldSectors.{sectors_of_chunks}
use Rattle.md_copy.proofs.SalvageLemmas.LeftSalvaged.{SalvagesTo}
use Rattle.md_copy.proofs.SalvageLemmas.LostWidened.{in_gap}
use Rattle.md_copy.proofs.SalvageLemmas.SameRoom.{HasSameRoom, HaveSameRoom, fits_before}
use Rattle.md_copy.proofs.Stored.StoringKeeps.{KeepsAll}

-- ---- tests
lt_of : (a b : ℕ) → nat_lt a b ≡ true → a < b
lt_of a b is = grind (arith, nat_tests)

lt_true : (a b : ℕ) → a < b → nat_lt a b ≡ true
lt_true a b is = grind (arith, nat_tests)

all_true : (a b c d : Bool) → a ≡ true → b ≡ true → c ≡ true → d ≡ false → ((a && (b && c)) && not d) ≡ true
all_true true true true false p q r t = refl
all_true false b c d p q r t = absurd cc
all_true true false c d p q r t = absurd cc
all_true true true false d p q r t = absurd cc
all_true true true true true p q r t = absurd cc

module _ (target : ℕ) (m : MemberView) (none : Bitmap) (v new : MirrorView) (told : Salvaged) (h : SalvagesReadied target m none v new told) (at : IsMember v.array target m) (so : HoldsSoFar target v none (missing_chunks v.array m))
    (clear : (c : ℕ) → is_set none.bytes c ≡ false) (y : MirrorView) (stored : KeepsAll h.enrolled y) (sound_y : IsConsistent y) where
  abbrev fl : FillsBut target m h.pass none h.copied h.kept told.lost v h.filled
  fl = h.fills

  abbrev f : MirrorView
  f = h.filled

  abbrev p : MirrorView
  p = h.fills.passed

  abbrev whole : Bitmap
  whole = h.fills.whole

  abbrev x : MirrorView
  x = h.enrolled

  abbrev en : EnrolsWithout target h.missing told.listed h.filled h.enrolled
  en = h.enrols

  abbrev mf : MemberView
  mf = h.fills.now

  abbrev tp : MemberView
  tp = h.fills.then

  abbrev at_p : IsMember h.fills.passed.array target h.fills.then
  at_p = h.fills.at_then

  abbrev at_f : IsMember h.filled.array target h.fills.now
  at_f = h.fills.there

  abbrev sound_f : IsConsistent h.filled
  sound_f = h.fills.sound

  -- ---- the moments on the way
  go_p : GoesSoFar target p whole
  go_p = passed_goes target m h.pass none whole v p fl.records so

  held_p : AreSectorsHeld p target whole
  held_p = sectors_of_chunks p target whole (passed_holds target m h.pass none whole v p fl.records so).held

  pub to : SalvagesTo target fl.salvages.chunks whole h.copied told.lost p f
  to = all_to target tp whole h.copied told.lost p f at_p go_p held_p fl.salvages

  pub go_f : GoesSoFar target f h.copied
  go_f = salvaged_go target fl.salvages.chunks whole h.copied [] told.lost p f fl.salvages.salvaged go_p

  stay_p : Stays target v p
  stay_p = pass_stay target (missing_chunks v.array m) h.pass none whole v p fl.records

  pub stay : Stays target v f
  stay = stays_on target v p f stay_p (salvaged_stay target fl.salvages.chunks whole h.copied [] told.lost p f fl.salvages.salvaged)

  keeps : PassesKeep target [] h.pass.failed none whole v p
  keeps = pass_keeps target (missing_chunks v.array m) h.pass none whole v p fl.records

  pub alike : IsAlike m mf
  alike = (let n = stay.members.then target m at in subst (IsAlike m) (same_Some n.0 mf (sym n.1 ∙ at_f)) n.2)

  pub isnt : is_in_sync m.state ≡ false
  isnt = out_of_sync m.state (so.ready.recovering m at)

  pub isnt_f : is_in_sync mf.state ≡ false
  isnt_f = out_of_sync mf.state (go_f.ready.recovering mf at_f)

  -- ---- chunks
  wide : 0 < v.array.chunks.sectors
  wide = so.ready.sound.chunks.wide

  f_chunks : f.array.chunks ≡ v.array.chunks
  f_chunks = stay.members.chunks

  f_marks : f.array.marks ≡ v.array.marks
  f_marks = stay.members.marks

  p_chunks : p.array.chunks ≡ v.array.chunks
  p_chunks = stay_p.members.chunks

  p_marks : p.array.marks ≡ v.array.marks
  p_marks = stay_p.members.marks

  -- the chunk of a sector
  abbrev chunk_of : ℕ → ℕ
  chunk_of s = s / v.array.chunks.sectors

  inside_of : (s : ℕ) → s < v.array.chunks.size → InChunk v.array.chunks.sectors v.array.chunks.size (chunk_of s) s
  inside_of s low = its_chunk v.array.chunks.size v.array.chunks.sectors s wide low

  low_of : (s : ℕ) → s < v.array.chunks.size → chunk_of s < v.array.marks.chunks
  low_of s low = subst (λ (z : ℕ). chunk_of s < z) (sym so.ready.sound.chunks.count) (div-lt-div_ceil v.array.chunks.size v.array.chunks.sectors s wide low)

  its : (c s : ℕ) → InChunk v.array.chunks.sectors v.array.chunks.size c s → c ≡ chunk_of s
  its c s inside = chunk_unique v.array.chunks.size v.array.chunks.sectors s c wide inside

  -- ---- what it lacks
  was_missing : (c : ℕ) → is_missing f.array mf c ≡ true → is_missing v.array m c ≡ true
  was_missing c missing =
      missing_was target fl.records.stretches.rounds (slots_of_pass h.pass) [] none whole v p fl.records.stretches.all m tp at at_p c (to.lacked_before tp mf at_p at_f c missing)

  -- of the array at the end, by its own width
  lacked_f : (s : ℕ) → s < v.array.chunks.size → is_missing f.array mf (chunk_of s) ≡ true → IsLacked f.array mf s
  lacked_f s low missing = record {
    inside = subst (λ (q : Chunks). s < q.size) (sym f_chunks) low;
    missing = subst (λ (q : Chunks). is_missing f.array mf (s / q.sectors) ≡ true) (sym f_chunks) missing;
  }

  missing_f : (s : ℕ) → IsLacked f.array mf s → is_missing f.array mf (chunk_of s) ≡ true
  missing_f s lacks = subst (λ (q : Chunks). is_missing f.array mf (s / q.sectors) ≡ true) f_chunks lacks.missing

  pub lacked_v : (s : ℕ) → IsLacked f.array mf s → IsLacked v.array m s
  lacked_v s lacks = record { inside = subst (λ (q : Chunks). s < q.size) f_chunks lacks.inside; missing = was_missing (chunk_of s) (missing_f s lacks) }

  -- a chunk that it lacked it lacks still, or it is copied
  pub still_or_copied : (c : ℕ) → c < v.array.marks.chunks → is_missing v.array m c ≡ true → (is_missing f.array mf c ≡ true) ⊎ (is_set h.copied.bytes c ≡ true)
  still_or_copied c low missing = elim (cases_Bool (is_set h.copied.bytes c)) [
    | inl set ↦ inr set
    | inr free ↦ elim (cases_Bool (is_set whole.bytes c)) [
      | inl set ↦ absurd (both_ways (is_set h.copied.bytes c) free (to.others c (λ is. both_ways (is_set whole.bytes c) ((fl.salvages.are c).0 is).uncopied set) ∙ set))
      | inr none_set ↦
          let same = (pass_lacks target (missing_chunks v.array m) h.pass none whole v p fl.records).missing m tp at at_p (so.ready.recovering m at) c low none_set in
          inl (to.lacked tp mf at_p at_f c (subst (λ (q : Bitmap). c < q.chunks) (sym p_marks) low) (same ∙ missing) free)
    ]
  ]

  -- ---- lost sectors
  lossy : AreLossyClear p.array.chunks h.copied told.lost
  lossy = lossy_clear target fl.salvages.chunks whole h.copied [] told.lost p f fl.salvages.salvaged go_p.ready.sound.chunks.wide (λ c s inside bad. absurd bad)

  lost_missing : (s : ℕ) → IsBad told.lost s → (s < v.array.chunks.size) × (is_missing f.array mf (chunk_of s) ≡ true)
  lost_missing s bad =
      let is = to.among s bad in
      let left : IsLeft p.array tp whole is.0 = (fl.salvages.are is.0).0 is.1 in
      let inside = subst (λ (q : Chunks). InChunk q.sectors q.size is.0 s) p_chunks is.2 in
      let missing = to.lacked tp mf at_p at_f is.0 left.low left.missing (lossy is.0 s is.2 bad) in
      (inside.within, ap (is_missing f.array mf) (sym (its is.0 s inside)) ∙ missing)

  lost_lacked : (s : ℕ) → IsBad told.lost s → IsLacked f.array mf s
  lost_lacked s bad = (let is = lost_missing s bad in lacked_f s is.0 is.1)

  pub lost_gives : (s : ℕ) → IsBad told.lost s → NoneGives s v f
  lost_gives s bad = elim (lost_none target fl.salvages.chunks whole h.copied [] told.lost p f fl.salvages.salvaged s bad) [
    | inl none_was ↦ absurd none_was
    | inr gives ↦ none_before target s v p f stay_p gives
  ]

  -- ---- listed sectors
  missing_bit : (c : ℕ) → c < f.array.marks.chunks → is_set h.missing.bytes c ≡ is_missing f.array mf c
  missing_bit c low =
      let own : en.member ≡ mf = same_Some en.member mf (sym en.at ∙ at_f) in
      en.missing_are.bits c (subst (λ n. c < n) (sym en.missing_are.chunks) low) ∙ ap (λ (z : MemberView). is_missing f.array z c) own

  listed_inside : (s : ℕ) → IsBad told.listed s → s < v.array.chunks.size
  listed_inside s bad = elim (h.fits.fewest.widened.more s bad) [
    | inl lost ↦ (lost_missing s lost.0).0
    | inr gap ↦ (let last = (lost_missing gap.after gap.after_is.0).0 in let below = gap.below in omega (arith, last, below))
  ]

  listed_missing : (s : ℕ) → IsBad told.listed s → is_missing f.array mf (chunk_of s) ≡ true
  listed_missing s bad =
      let low = listed_inside s bad in
      let early = subst (λ (q : Bitmap). chunk_of s < q.chunks) (sym f_marks) (low_of s low) in
      elim (cases_Bool (is_set h.missing.bytes (chunk_of s))) [
        | inl set ↦ sym (missing_bit (chunk_of s) early) ∙ set
        | inr free ↦
            absurd (h.fits.fewest.widened.lists.beside s bad (chunk_of s) (subst (λ n. chunk_of s < n) (sym en.missing_are.chunks) early) free
            (subst (λ (q : Chunks). InChunk q.sectors q.size (chunk_of s) s) (sym f_chunks) (inside_of s low)))
      ]

  pub listed_lacked : (s : ℕ) → IsBad told.listed s → IsLacked f.array mf s
  listed_lacked s bad = lacked_f s (listed_inside s bad) (listed_missing s bad)

  pub lost_listed : (s : ℕ) → IsBad told.lost s → IsBad told.listed s
  lost_listed s bad =
      h.fits.fewest.widened.lists.all s (
        bad,
        λ c low free inside.
            (let here = its c s (subst (λ (q : Chunks). InChunk q.sectors q.size c s) f_chunks inside) in
            let missing = ap (is_missing f.array mf) here ∙ (lost_missing s bad).1 in
            both_ways (is_set h.missing.bytes c) free (missing_bit c (subst (λ n. c < n) en.missing_are.chunks low) ∙ missing)),
      )

  room_of : (l n : MemberView) → IsAlike l n → HasSameRoom l n
  room_of l n x = record { in_sync = ap is_in_sync x.state; bad = x.bad; offset = x.offset; room = x.room }

  same_room : HaveSameRoom v.array f.array
  same_room = record {
    chunks = f_chunks;
    then = λ k l at_l. (let x = stay.members.then k l at_l in (x.0, x.1, room_of l x.0 x.2));
    before = λ k n at_n. (let x = stay.members.before k n at_n in (x.0, x.1, room_of x.0 n x.2));
  }

  -- ---- what it holds
  pub held_at : (s : ℕ) → IsLacked v.array m s → (IsBad told.lost s → ⊥) → IsSectorHeld f target s
  held_at s lacks free =
      let low = low_of s lacks.inside in
      elim (still_or_copied (chunk_of s) low lacks.missing) [
        | inl missing ↦ filled_all target tp whole h.copied told.lost p f at_p go_p held_p fl.salvages mf at_f s (lacked_f s lacks.inside missing) free
        | inr set ↦
            to.held.held (chunk_of s) s (subst (λ (q : Bitmap). chunk_of s < q.chunks) (sym f_marks) low) set
            (subst (λ (q : Chunks). InChunk q.sectors q.size (chunk_of s) s) (sym f_chunks) (inside_of s lacks.inside))
      ]

  honest_f : (k : ℕ) (d e : Disk) → slice_get v.disks k ≡ Some d → slice_get f.disks k ≡ Some e → AreHonest v.disks → e.honest ≡ true
  honest_f k d e at_d at_e honest = stay.devices.honest k d e at_d at_e ∙ honest k d at_d

  size_within : (k : ℕ) (d : Disk) (n : MemberView) → slice_get f.disks k ≡ Some d → IsMember f.array k n → f.array.chunks.size ≤ n.superblock.data_size
  size_within k d n at_d at_n =
      let fits = (sound_f.fits.each k d n at_d at_n).placed.data_holds in
      let same = sound_f.chunks.size in
      let mine = sound_f.chunks.member_size k n at_n in
      omega (arith, fits, same, mine)

  disk_f : (e : Disk) → slice_get y.disks target ≡ Some e → (d : Disk) × (slice_get f.disks target ≡ Some d)
  disk_f e there =
      let low = slice_get_within y.disks target e there in
      let many = last_many target h.missing told.listed f x sound_f en y stored sound_y in
      got_within f.disks target (omega (arith, low, many))

  holds_then : AreHonest v.disks → (content : Content) → HoldsContent v.disks v.array content → (e : Disk) → slice_get y.disks target ≡ Some e → (s : ℕ) → IsLacked v.array m s → (IsBad told.lost s → ⊥)
      → bytes_of_sector m e.content s ≡ content s
  holds_then honest content has e at_e s lacks free =
      let d = disk_f e at_e in
      let b = disk_was target v f stay.devices target d.0 d.1 in
      let held = held_at s lacks free in
      let n = stay.members.before held.at held.member held.in_sync.member in
      let on : IsInSync v.array held.at n.0 = record { member = n.1; in_sync = ap is_in_sync (sym n.2.state) ∙ held.in_sync.in_sync } in
      let low = slice_get_within f.array.members held.at held.member held.in_sync.member in
      let many = sound_f.fits.as_many in
      let src = got_within f.disks held.at (omega (arith, low, many)) in
      let src_v = disk_was target v f stay.devices held.at src.0 src.1 in
      let place = n.0.superblock.data_offset + s in
      let moved : held.member.superblock.data_offset + s ≡ place = ap (λ o. o + s) n.2.offset in
      let super = so.ready.sound.supers so.ready.goes.idle.running held.at src_v.0 n.0 src_v.1 n.1 on.in_sync (honest held.at src_v.0 src_v.1) in
      let unlisted : is_listed n.0.superblock src_v.0.content place ≡ false = by_test (is_listed n.0.superblock src_v.0.content place)
      (λ yes. absurd (held.unlisted (subst (IsBad held.member.bad) (sym moved) (subst (λ (runs : List Run). IsBad runs place) (sym n.2.bad) (super.known place (super.listed place yes))))))
      (λ no. no) in
      let size = size_within target d.0 mf d.1 at_f in
      let size_src = size_within held.at src.0 held.member src.1 held.in_sync.member in
      let inside : s < f.array.chunks.size = subst (λ (q : Chunks). s < q.size) (sym f_chunks) lacks.inside in
      let same_size = n.2.size in
      ap (λ o. part e.content (512 * (o + s)) 512) (sym alike.offset)
      ∙ own_data target h.missing told.listed f x sound_f en y stored sound_y mf at_f d.0 e d.1 at_e (512 * (mf.superblock.data_offset + s)) 512 (omega arith) (omega (arith, inside, size))
      ∙ held.same mf src.0 d.0 at_f src.1 d.1 (honest_f held.at src_v.0 src.0 src_v.1 src.1 honest) (honest_f target b.0 d.0 b.1 d.1 honest)
      ∙ ap (λ o. part src.0.content (512 * o) 512) moved
      ∙ stay.devices.others held.at src_v.0 src.0 n.0 held.other src_v.1 src.1 n.1 (512 * place) 512 (omega arith) (omega (arith, inside, size_src, same_size))
      ∙ has.held held.at src_v.0 n.0 src_v.1 on s lacks.inside unlisted

  -- ---- the other members' lists
  listed_within : (s : ℕ) → IsBad told.listed s → s < f.array.chunks.size
  listed_within s bad = (listed_lacked s bad).inside

  sources_then : (k : ℕ) (l w : MemberView) → k ≢ target → IsInSync v.array k l → IsMember y.array k w → (sector : ℕ) → IsBad w.bad sector ↔ (IsBad l.bad sector ⊎ ((s : ℕ) × IsBad told.listed s × (sector ≡ l.superblock.data_offset + s)))
  sources_then k l w other on at_w sector =
      let n = stay.members.then k l on.member in
      let on_f : IsInSync f.array k n.0 = record { member = n.1; in_sync = ap is_in_sync n.2.state ∙ on.in_sync } in
      subst (λ (o : ℕ). IsBad w.bad sector ↔ (IsBad l.bad sector ⊎ ((s : ℕ) × IsBad told.listed s × (sector ≡ o + s)))) n.2.offset
      (subst (λ (runs : List Run). IsBad w.bad sector ↔ (IsBad runs sector ⊎ ((s : ℕ) × IsBad told.listed s × (sector ≡ n.0.superblock.data_offset + s)))) n.2.bad
      (other_lists target h.missing told.listed f x sound_f en y stored sound_y listed_within k n.0 w other on_f at_w sector))

  out_then : (k : ℕ) (l w : MemberView) → k ≢ target → IsMember v.array k l → (IsInSync v.array k l → ⊥) → IsMember y.array k w → w.bad ≡ l.bad
  out_then k l w other at_l not_on at_w =
      let n = stay.members.then k l at_l in
      let is_out : is_in_sync n.0.state ≡ false = elim (cases_Bool (is_in_sync n.0.state)) [
        | inl is_on ↦ absurd (not_on (record { member = at_l; in_sync = ap is_in_sync (sym n.2.state) ∙ is_on }))
        | inr is_off ↦ is_off
      ] in
      other_out target h.missing told.listed f x sound_f en y stored sound_y k n.0 w other n.1 is_out at_w ∙ n.2.bad

  -- where its data begin
  offset_then : (k : ℕ) (l w : MemberView) → k ≢ target → IsMember v.array k l → IsMember y.array k w → w.superblock.data_offset ≡ l.superblock.data_offset
  offset_then k l w other at_l at_w =
      let n = stay.members.then k l at_l in
      let o = other_then target h.missing told.listed f x sound_f en y stored sound_y k n.0 other n.1 in
      ap (λ (z : MemberView). z.superblock.data_offset) (same_Some w o.last (sym at_w ∙ o.in_last)) ∙ o.offset ∙ o.too.offset ∙ n.2.offset

  -- ---- who serves a sector then
  served_not : (s : ℕ) → IsBad told.listed s → IsSectorServedThen target v.array y.array s → ⊥
  served_not s bad served =
      let k = served.0 in
      let r = served.1 in
      let lists = (sources_then k r.before r.after r.other r.in_sync r.at (r.before.superblock.data_offset + s)).1 (inr (s, bad, refl)) in
      r.unlisted (subst (λ (o : ℕ). IsBad r.after.bad (o + s)) (sym (offset_then k r.before r.after r.other r.in_sync.member r.at)) lists)

  served_if : (s : ℕ) → IsLacked v.array m s → (IsBad told.listed s → ⊥) → IsSectorServedThen target v.array y.array s
  served_if s lacks free =
      let held = held_at s lacks (λ bad. free (lost_listed s bad)) in
      let k = held.at in
      let l = stay.members.before k held.member held.in_sync.member in
      let on : IsInSync v.array k l.0 = record { member = l.1; in_sync = ap is_in_sync (sym l.2.state) ∙ held.in_sync.in_sync } in
      let o = other_then target h.missing told.listed f x sound_f en y stored sound_y k held.member held.other held.in_sync.member in
      let offset = offset_then k l.0 o.last held.other l.1 o.in_last in (
        k,
        record {
          other = held.other;
          before = l.0;
          in_sync = on;
          after = o.last;
          at = o.in_last;
          unlisted = λ lists. elim ((sources_then k l.0 o.last held.other on o.in_last (l.0.superblock.data_offset + s)).0 (subst (λ (q : ℕ). IsBad o.last.bad (q + s)) offset lists)) [
            | inl was ↦ held.unlisted (subst (λ (q : ℕ). IsBad held.member.bad (q + s)) (sym l.2.offset) (subst (λ (runs : List Run). IsBad runs (l.0.superblock.data_offset + s)) (sym l.2.bad) was))
            | inr more ↦ (let is = more.2 in let same : more.0 ≡ s = omega (arith, is) in free (subst (IsBad told.listed) same more.1))
          ];
        },
      )

  -- ---- its own list
  -- sectors of the array that come to it
  abbrev copied_sectors : ℕ → Bool
  copied_sectors = in_chunks_but f.array.chunks h.missing told.listed

  abbrev width : ℕ
  width = f.array.chunks.sectors

  placed_lacks : (s : ℕ) → copied_sectors s ≡ true → IsLacked v.array m s
  placed_lacks s is =
      let both = and_parts (in_chunks f.array.chunks h.missing s) (not (in_runs told.listed s)) is in
      let parts = and_parts (nat_lt s f.array.chunks.size) (nat_lt (s / width) h.missing.chunks && is_set h.missing.bytes (s / width)) both.0 in
      let last = and_parts (nat_lt (s / width) h.missing.chunks) (is_set h.missing.bytes (s / width)) parts.1 in
      let inside = lt_of s f.array.chunks.size parts.0 in
      let low = lt_of (s / width) h.missing.chunks last.0 in
      lacked_v s (record { inside = inside; missing = sym (missing_bit (s / width) (subst (λ n. s / width < n) en.missing_are.chunks low)) ∙ last.1 })

  copied_if : (s : ℕ) → IsLacked f.array mf s → in_runs told.listed s ≡ false → copied_sectors s ≡ true
  copied_if s lacks free =
      let low_f : s / width < f.array.marks.chunks = subst (λ (z : ℕ). s / width < z) (sym sound_f.chunks.count) (div-lt-div_ceil f.array.chunks.size width s sound_f.chunks.wide lacks.inside) in
      let low = subst (λ n. s / width < n) (sym en.missing_are.chunks) low_f in
      all_true (nat_lt s f.array.chunks.size) (nat_lt (s / width) h.missing.chunks) (is_set h.missing.bytes (s / width)) (in_runs told.listed s) (lt_true s f.array.chunks.size lacks.inside)
      (lt_true (s / width) h.missing.chunks low) (missing_bit (s / width) low_f ∙ lacks.missing) free

  abbrev now_bad : List Run
  now_bad = en.enrols.member.bad

  listed_or_not : (sector : ℕ) → ((s : ℕ) → sector ≡ m.superblock.data_offset + s → in_runs told.listed s ≡ false) ⊎ ((s : ℕ) × IsBad told.listed s × (sector ≡ m.superblock.data_offset + s))
  listed_or_not sector = elim (cases_lt sector m.superblock.data_offset) [
    | inl low ↦ inl (λ s is. absurd (omega (arith, low, is)))
    | inr from ↦
        let q = sector - m.superblock.data_offset in
        elim (cases_Bool (in_runs told.listed q)) [
          | inl there ↦ inr (q, bad_in told.listed q there, omega (arith, from))
          | inr free ↦ inl (λ s is. (let same : s ≡ q = omega (arith, is) in ap (in_runs told.listed) same ∙ free))
        ]
  ]

  own_then : (sector : ℕ) → IsBad now_bad sector
      ↔ ((IsBad m.bad sector × ((s : ℕ) → IsLacked v.array m s → sector ≡ m.superblock.data_offset + s → ⊥)) ⊎ ((s : ℕ) × IsBad told.listed s × (sector ≡ m.superblock.data_offset + s)))
  own_then sector =
      let list = own_list target h.missing told.listed f x sound_f en y stored sound_y mf at_f isnt_f in (
        λ bad. elim ((list.bad sector).0 bad) [
          | inr placed ↦ (let is = placed.0 in inr (is.at, bad_in told.listed is.at is.in_set, is.is ∙ ap (λ o. o + is.at) alike.offset))
          | inl was ↦ elim (listed_or_not sector) [
            | inr here ↦ inr here
            | inl free ↦
                inl (
                  subst (λ (runs : List Run). IsBad runs sector) alike.bad was.0,
                  λ s lacks is.
                      (let at_s : sector ≡ mf.superblock.data_offset + s = is ∙ ap (λ o. o + s) (sym alike.offset) in
                      let low = low_of s lacks.inside in
                      let fills : is_missing f.array mf (chunk_of s) ≡ true → ⊥ =
                      λ missing. was.1 (record { at = s; in_set = copied_if s (lacked_f s lacks.inside missing) (free s is); is = at_s }) in
                      elim (still_or_copied (chunk_of s) low lacks.missing) [
                        | inl missing ↦ fills missing
                        | inr set ↦
                            to.held.unlisted mf at_f (chunk_of s) (subst (λ (q : Bitmap). chunk_of s < q.chunks) (sym f_marks) low) set fills
                            (record { sector = s; inside = subst (λ (q : Chunks). InChunk q.sectors q.size (chunk_of s) s) (sym f_chunks) (inside_of s lacks.inside); bad = subst (IsBad mf.bad) at_s was.0 })
                      ]),
                )
          ]
        ],
        λ either. (list.bad sector).1 (elim either [
          | inl both ↦
              inl (
                subst (λ (runs : List Run). IsBad runs sector) (sym alike.bad) both.0,
                λ placed. both.1 placed.at (placed_lacks placed.at placed.in_set) (placed.is ∙ ap (λ o. o + placed.at) alike.offset),
              )
          | inr here ↦
              let s = here.0 in
              let at_s : sector ≡ mf.superblock.data_offset + s = here.2 ∙ ap (λ o. o + s) (sym alike.offset) in
              let low = slice_get_within f.array.members target mf at_f in
              let many = sound_f.fits.as_many in
              let d = got_within f.disks target (omega (arith, low, many)) in
              let short = sector_short f sound_f target d.0 mf d.1 at_f s (listed_within s here.1) in
              inr (record { at = s; in_set = in_bad told.listed s here.1; is = at_s }, omega (arith, short, at_s))
        ]),
      )

  -- ---- beside what is written
  -- a chunk that the pass copied has no lost sector
  whole_free : (c s : ℕ) → is_set whole.bytes c ≡ true → InChunk v.array.chunks.sectors v.array.chunks.size c s → IsBad told.lost s → ⊥
  whole_free c s set inside bad =
      let is = to.among s bad in
      let left = (fl.salvages.are is.0).0 is.1 in
      let there = subst (λ (q : Chunks). InChunk q.sectors q.size is.0 s) p_chunks is.2 in
      let same : is.0 ≡ c = its is.0 s there ∙ sym (its c s inside) in
      both_ways (is_set whole.bytes c) (ap (is_set whole.bytes) (sym same) ∙ left.uncopied) set

  lacked_was_p : (s : ℕ) → IsLacked p.array tp s → IsLacked v.array m s
  lacked_was_p s lacks = record {
    inside = subst (λ (q : Chunks). s < q.size) p_chunks lacks.inside;
    missing = missing_was target fl.records.stretches.rounds (slots_of_pass h.pass) [] none whole v p fl.records.stretches.all m tp at at_p (chunk_of s)
        (subst (λ (q : Chunks). is_missing p.array tp (s / q.sectors) ≡ true) p_chunks lacks.missing);
  }

  alike_p : IsAlike m tp
  alike_p = (let n = stay_p.members.then target m at in subst (IsAlike m) (same_Some n.0 tp (sym n.1 ∙ at_p)) n.2)

  module _ (i : ℕ) (from : 512 * m.superblock.data_offset ≤ i) (upto : i + 1 ≤ 512 * (m.superblock.data_offset + m.superblock.data_size))
      (out : (s : ℕ) → IsLacked v.array m s → (IsBad told.lost s → ⊥) → (i + 1 ≤ 512 * (m.superblock.data_offset + s)) ⊎ (512 * (m.superblock.data_offset + s + 1) ≤ i)) where
    abbrev its_sector : ℕ
    its_sector = i / 512 - m.superblock.data_offset

    -- beside each chunk that the pass copied
    beside_whole : (c : ℕ) → is_set whole.bytes c ≡ true → is_set none.bytes c ≡ false → IsBesideChunk v.array.chunks m.superblock.data_offset i 1 c
    beside_whole c set free = elim (cases_lt its_sector (c * v.array.chunks.sectors)) [
      | inl low ↦ inl (omega (arith, low, from))
      | inr above ↦ elim (cases_lt its_sector (min ((c + 1) * v.array.chunks.sectors) v.array.chunks.size)) [
        | inr past ↦ inr (omega (arith, past, above, from))
        | inl below ↦
            let inside : InChunk v.array.chunks.sectors v.array.chunks.size c its_sector = record { from = above; below = omega (arith, below); within = omega (arith, below) } in
            let missing = copied_missing target fl.records.stretches.rounds (slots_of_pass h.pass) [] none whole v p fl.records.stretches.all m at c set free in
            let lacks : IsLacked v.array m its_sector = record { inside = inside.within; missing = ap (is_missing v.array m) (sym (its c its_sector inside)) ∙ missing } in
            elim (out its_sector lacks (whole_free c its_sector set inside)) [
              | inl before ↦ absurd (omega (arith, before, from))
              | inr after ↦ absurd (omega (arith, after, from))
            ]
      ]
    ]

    -- up to the moment at which it may come into sync
    pub byte_filled : (d e : Disk) → slice_get v.disks target ≡ Some d → slice_get f.disks target ≡ Some e → part e.content i 1 ≡ part d.content i 1
    byte_filled d e at_d at_e =
        let b = between target v p stay_p.devices target d at_d in
        salvaged_byte target told.lost m.superblock.data_offset m.superblock.data_size i from upto fl.salvages.chunks whole h.copied [] p f fl.salvages.salvaged go_p.ready.sound.chunks.wide
        (λ n at_n. (let same = same_Some n tp (sym at_n ∙ at_p) in
        (ap (λ (z : MemberView). z.superblock.data_offset) same ∙ alike_p.offset, ap (λ (z : MemberView). z.superblock.data_size) same ∙ alike_p.size)))
        (λ n at_n s lacks free. out s (lacked_was_p s (subst (λ (z : MemberView). IsLacked p.array z s) (same_Some n tp (sym at_n ∙ at_p)) lacks)) free) b.0 e b.1 at_e
        ∙ keeps.beside d b.0 m at_d b.1 at i 1 (record { from = from; to = upto; beside = beside_whole })

    byte_then : (d e : Disk) → slice_get v.disks target ≡ Some d → slice_get y.disks target ≡ Some e → part e.content i 1 ≡ part d.content i 1
    byte_then d e at_d at_e =
        let q = disk_f e at_e in
        let offset = alike.offset in
        let size = alike.size in
        own_data target h.missing told.listed f x sound_f en y stored sound_y mf at_f q.0 e q.1 at_e i 1 (omega (arith, offset, from)) (omega (arith, offset, size, upto)) ∙ byte_filled d q.0 at_d q.1

  beside_then : (d e : Disk) → slice_get v.disks target ≡ Some d → slice_get y.disks target ≡ Some e → (i n : ℕ) → IsBesideWritten v.array m told.lost i n → part e.content i n ≡ part d.content i n
  beside_then d e at_d at_e i n b =
      let low = b.from in
      let high = b.to in
      same_bytes e.content d.content i n
      (λ q from below. byte_then q (omega (arith, from, low)) (omega (arith, below, high))
      (λ s lacks free. elim (b.beside s lacks free) [ inl before ↦ inl (omega (arith, before, below)) | inr after ↦ inr (omega (arith, after, from)) ]) d e at_d at_e)

  -- ---- all of it
  others_then : (k : ℕ) (d e : Disk) (l : MemberView) → k ≢ target → slice_get v.disks k ≡ Some d → slice_get y.disks k ≡ Some e → IsMember v.array k l → KeepsData l d e
  others_then k d e l other at_d at_e at_l i n from upto =
      let b = between target v f stay.devices k d at_d in
      let z = stay.members.then k l at_l in
      let offset = z.2.offset in
      let size = z.2.size in
      other_data target h.missing told.listed f x sound_f en y stored sound_y k b.0 e z.0 other b.1 at_e z.1 i n (omega (arith, offset, from)) (omega (arith, offset, size, upto))
      ∙ stay.devices.others k d b.0 l other at_d b.1 at_l i n from upto

  devices_last : DevicesStay target v f
  devices_last = stay.devices

  -- from f on no failure is forgotten either
  gives_last : (s : ℕ) → NoneGives s v f → NoneGives s v y
  gives_last s gives k l on = elim (gives k l on) [
    | inl lists ↦ inl lists
    | inr failed ↦ inr (λ d w was now.
        let b = between target v f stay.devices k d was in
        let before = failed d b.0 was b.1 in
        let counted = last_counted target h.missing told.listed f x sound_f en y stored sound_y k b.0 w b.1 now in (
          λ honest. let less = before.0 honest in omega (arith, less, counted),
          λ n there. fails_still d.faults b.0.faults w.faults (IsReadOfMember n s 1) _ (before.1 n there) (last_grown target h.missing told.listed f x sound_f en y stored sound_y k b.0 w b.1 now),
        ))
  ]

  pub salvaged_so : IsSalvaged target told.lost told.listed v y
  salvaged_so =
      let own = last_own target h.missing told.listed f x sound_f en y stored sound_y mf at_f in
      record {
        member = m;
        at = at;
        now = own.0;
        there = own.1;
        state = elim (last_state target h.missing told.listed f x sound_f en y stored sound_y mf at_f) [
          | inl in_sync ↦ inl in_sync
          | inr failed ↦
              inr (
                failed.0,
                λ d w at_d at_w honest.
                    (let b = between target v f stay.devices target d at_d in
                    let first = stay.devices.counted target d b.0 at_d b.1 in
                    let less = failed.1 b.0 w b.1 at_w (stay.devices.honest target d b.0 at_d b.1 ∙ honest) in
                    omega (arith, first, less)),
              )
        ];
        holds = holds_then;
        listed_are = λ s lacks. (
          λ bad. served_not s bad,
          λ unserved. elim (cases_Bool (in_runs told.listed s)) [
            | inl there ↦ bad_in told.listed s there
            | inr free ↦ absurd (unserved (served_if s lacks (λ bad. both_ways (in_runs told.listed s) free (in_bad told.listed s bad))))
          ],
        );
        lost_are = λ s bad. (lacked_v s (lost_lacked s bad), gives_last s (lost_gives s bad));
        more = λ s bad. elim (h.fits.fewest.widened.more s bad) [
          | inl lost ↦ inl lost.0
          | inr gap ↦ inr (lacked_v s (listed_lacked s bad), (h.fits.gap, h.fits.widest, in_gap h.fits.gap h.fits.to f.array.chunks h.missing told.lost s gap))
        ];
        all = lost_listed;
        missing = h.missing;
        missing_are = record {
          chunks = en.missing_are.chunks ∙ ap (λ (q : Bitmap). q.chunks) f_marks;
          lacked = λ c low set. was_missing c (sym (missing_bit c (subst (λ (q : Bitmap). c < q.chunks) (sym f_marks) low)) ∙ set);
          listed = listed_still target m h.pass none h.copied h.kept told.lost v f fl at so h.missing
              (subst (λ (z : MemberView). AreMissing f.array z h.missing) (same_Some en.member mf (sym en.at ∙ at_f)) en.missing_are);
        };
        fits = fits_before target h.missing told.lost v.array f.array told.listed same_room h.fits;
        own = λ sector.
            subst (λ (runs : List Run). IsBad runs sector
            ↔ ((IsBad m.bad sector × ((s : ℕ) → IsLacked v.array m s → sector ≡ m.superblock.data_offset + s → ⊥)) ⊎ ((s : ℕ) × IsBad told.listed s × (sector ≡ m.superblock.data_offset + s))))
            (sym (last_bad target h.missing told.listed f x sound_f en y stored sound_y mf at_f)) (own_then sector);
        sources = sources_then;
        out = out_then;
        beside = beside_then;
        others = λ k d e l other at_d at_e at_l. others_then k d e l other at_d at_e at_l;
      }
