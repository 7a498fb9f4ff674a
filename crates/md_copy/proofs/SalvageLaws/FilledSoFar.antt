-- What the target of a salvage lacks once all chunks that were left are filled, and which sectors are to be listed.
use Rattle.std.proofs.Common.{◌≡◌, ◌∙◌, ◌⊎◌, ℕ, ◌/◌, ◌<◌, true, List, [], sym, ap, subst, arith, inl, inr}
use Rattle.std.proofs.lemmas.Bool.{both_ways, cases_Bool}
use Rattle.std.proofs.lemmas.Option.{same_Some}
use Rattle.md_badblocks.specs.declared.run.Run.{Run}
use Rattle.md_badblocks.specs.Runs.{IsBad}
use Rattle.md_bitmap.specs.declared.chunks.Chunks.{Chunks}
use Rattle.md_bitmap.specs.Chunks.{InChunk}
use Rattle.md_bitmap.specs.Marks.{Bitmap, is_set}
use Rattle.md_bitmap.proofs.Limits.{div-lt-div_ceil}
use Rattle.md_copy.specs.PassLaws.Passes.{PassView}
use Rattle.md_kept_members.specs.Permitting.{ListsAny}
use Rattle.md_kept_members.specs.View.{MemberView}
use Rattle.md_read.specs.Reading.{NoneGives}
use Rattle.md_state.specs.Members.{IsMember}
use Rattle.md_state.specs.Missing.{AreMissing, is_missing}
use Rattle.md_state.specs.View.{MirrorView}
use Rattle.md_array.proofs.Rebuilding.HeldContent.{chunk_unique, its_chunk}
use Rattle.md_copy.specs.Salvaging.Filling.{IsLeft}
use Rattle.md_copy.specs.Salvaging.Sectors.{AreSectorsHeld, IsLacked}
use Rattle.md_copy.specs.Salvaging.Steps.{FillsBut}
use Rattle.md_copy.specs.Salvaging.Widened.{IsWidened}
use Rattle.md_copy.specs.Table.Sources.{missing_chunks}
use Rattle.md_copy.proofs.Passing.PassesLack.{pass_lacks}
use Rattle.md_copy.proofs.Passing.PassesTold.{HoldsSoFar}
use Rattle.md_copy.proofs.SalvageLaws.ChunkRuns.{GoesSoFar, salvaged_go}
use Rattle.md_copy.proofs.SalvageLaws.ChunksTo.{all_to, lost_none, none_before}
use Rattle.md_copy.proofs.SalvageLaws.SalvageLeads.{passed_goes, passed_holds}
use Rattle.md_copy.proofs.SalvageLaws.SectorsKept.{IsAlike, Stays, pass_stay, salvaged_stay, stays_on}
use Rattle.md_copy.proofs.SalvageLaws.SectorsLacked.{AreLossyClear, lossy_clear}
use Rattle.md_copy.proofs.SalvageLemmas.HeldSectors.{sectors_of_chunks}
use Rattle.md_copy.proofs.SalvageLemmas.LeftSalvaged.{SalvagesTo}
use Rattle.md_copy.proofs.SalvageLemmas.SameRoom.{any_same}

module _ (target : ℕ) (m : MemberView) (pass : PassView) (none copied kept : Bitmap) (lost : List Run) (v f : MirrorView) (fl : FillsBut target m pass none copied kept lost v f) (at : IsMember v.array target m)
    (so : HoldsSoFar target v none (missing_chunks v.array m)) where
  abbrev p : MirrorView
  p = fl.passed

  abbrev whole : Bitmap
  whole = fl.whole

  abbrev mf : MemberView
  mf = fl.now

  abbrev tp : MemberView
  tp = fl.then

  go_p : GoesSoFar target p whole
  go_p = passed_goes target m pass none whole v p fl.records so

  held_p : AreSectorsHeld p target whole
  held_p = sectors_of_chunks p target whole (passed_holds target m pass none whole v p fl.records so).held

  to : SalvagesTo target fl.salvages.chunks whole copied lost p f
  to = all_to target tp whole copied lost p f fl.at_then go_p held_p fl.salvages

  pub filled_goes : GoesSoFar target f copied
  filled_goes = salvaged_go target fl.salvages.chunks whole copied [] lost p f fl.salvages.salvaged go_p

  stay_p : Stays target v p
  stay_p = pass_stay target (missing_chunks v.array m) pass none whole v p fl.records

  pub filled_stay : Stays target v f
  filled_stay = stays_on target v p f stay_p (salvaged_stay target fl.salvages.chunks whole copied [] lost p f fl.salvages.salvaged)

  wide : 0 < f.array.chunks.sectors
  wide = filled_goes.ready.sound.chunks.wide

  abbrev chunk_of : ℕ → ℕ
  chunk_of s = s / f.array.chunks.sectors

  inside_of : (s : ℕ) → s < f.array.chunks.size → InChunk f.array.chunks.sectors f.array.chunks.size (chunk_of s) s
  inside_of s low = its_chunk f.array.chunks.size f.array.chunks.sectors s wide low

  pub low_of : (s : ℕ) → s < f.array.chunks.size → chunk_of s < f.array.marks.chunks
  low_of s low = subst (λ (z : ℕ). chunk_of s < z) (sym filled_goes.ready.sound.chunks.count) (div-lt-div_ceil f.array.chunks.size f.array.chunks.sectors s wide low)

  its : (c s : ℕ) → InChunk f.array.chunks.sectors f.array.chunks.size c s → c ≡ chunk_of s
  its c s inside = chunk_unique f.array.chunks.size f.array.chunks.sectors s c wide inside

  chunks_since : f.array.chunks ≡ p.array.chunks
  chunks_since = (salvaged_stay target fl.salvages.chunks whole copied [] lost p f fl.salvages.salvaged).members.chunks

  lossy : AreLossyClear p.array.chunks copied lost
  lossy = lossy_clear target fl.salvages.chunks whole copied [] lost p f fl.salvages.salvaged go_p.ready.sound.chunks.wide (λ c s inside bad. absurd bad)

  pub lost_lacked : (s : ℕ) → IsBad lost s → IsLacked f.array mf s
  lost_lacked s bad =
      let is = to.among s bad in
      let left : IsLeft p.array tp whole is.0 = (fl.salvages.are is.0).0 is.1 in
      let inside = subst (λ (q : Chunks). InChunk q.sectors q.size is.0 s) (sym chunks_since) is.2 in
      let missing = to.lacked tp mf fl.at_then fl.there is.0 left.low left.missing (lossy is.0 s is.2 bad) in
      record { inside = inside.within; missing = ap (is_missing f.array mf) (sym (its is.0 s inside)) ∙ missing }

  pub lost_gives : (s : ℕ) → IsBad lost s → NoneGives s v f
  lost_gives s bad = elim (lost_none target fl.salvages.chunks whole copied [] lost p f fl.salvages.salvaged s bad) [
    | inl none_was ↦ absurd none_was
    | inr gives ↦ none_before target s v p f stay_p gives
  ]

  -- a chunk that it lacked it lacks still, or it is copied
  still_or_copied : (c : ℕ) → c < v.array.marks.chunks → is_missing v.array m c ≡ true → (is_missing f.array mf c ≡ true) ⊎ (is_set copied.bytes c ≡ true)
  still_or_copied c low missing = elim (cases_Bool (is_set copied.bytes c)) [
    | inl set ↦ inr set
    | inr free ↦ elim (cases_Bool (is_set whole.bytes c)) [
      | inl set ↦ absurd (both_ways (is_set copied.bytes c) free (to.others c (λ is. both_ways (is_set whole.bytes c) ((fl.salvages.are c).0 is).uncopied set) ∙ set))
      | inr none_set ↦
          let same = (pass_lacks target (missing_chunks v.array m) pass none whole v p fl.records).missing m tp at fl.at_then (so.ready.recovering m at) c low none_set in
          inl (to.lacked tp mf fl.at_then fl.there c (subst (λ (q : Bitmap). c < q.chunks) (sym stay_p.members.marks) low) (same ∙ missing) free)
    ]
  ]

  alike : IsAlike m mf
  alike = (let n = filled_stay.members.then target m at in subst (IsAlike m) (same_Some n.0 mf (sym n.1 ∙ fl.there)) n.2)

  -- what it lacks still has each chunk that it lacked and of which it lists a sector: one that is copied it does not list any more
  pub listed_still : (missing : Bitmap) → AreMissing f.array mf missing → (c : ℕ) → c < v.array.marks.chunks → is_missing v.array m c ≡ true → ListsAny v.array.chunks c m → is_set missing.bytes c ≡ true
  listed_still missing are c low was lists =
      let low_f : c < f.array.marks.chunks = subst (λ (q : Bitmap). c < q.chunks) (sym filled_stay.members.marks) low in
      let bit = are.bits c (subst (λ n. c < n) (sym are.chunks) low_f) in
      elim (cases_Bool (is_missing f.array mf c)) [
        | inl lacks ↦ bit ∙ lacks
        | inr has ↦ elim (still_or_copied c low was) [
          | inl lacks ↦ bit ∙ lacks
          | inr set ↦
              absurd (to.held.unlisted mf fl.there c low_f set (λ lacks. both_ways (is_missing f.array mf c) has lacks)
              (any_same v.array.chunks f.array.chunks c m mf filled_stay.members.chunks alike.bad alike.offset lists))
        ]
      ]

  -- what is to be listed
  module _ (missing : Bitmap) (are : AreMissing f.array mf missing) (gap last : ℕ) (listed : List Run) (w : IsWidened gap last f.array.chunks missing lost listed) where
    listed_inside : (s : ℕ) → IsBad listed s → s < f.array.chunks.size
    listed_inside s bad = elim (w.more s bad) [
      | inl is ↦ (lost_lacked s is.0).inside
      | inr close ↦ (let high = (lost_lacked close.after close.after_is.0).inside in let below = close.below in omega (arith, high, below))
    ]

    pub listed_lacked : (s : ℕ) → IsBad listed s → IsLacked f.array mf s
    listed_lacked s bad =
        let low = listed_inside s bad in
        let early = low_of s low in
        let here = subst (λ n. chunk_of s < n) (sym are.chunks) early in
        record {
          inside = low;
          missing = elim (cases_Bool (is_set missing.bytes (chunk_of s))) [
            | inl set ↦ sym (are.bits (chunk_of s) here) ∙ set
            | inr free ↦ absurd (w.lists.beside s bad (chunk_of s) here free (inside_of s low))
          ];
        }
