-- A member that comes into sync holds what the members in sync hold, in each sector that it does not list then.
use Rattle.std.proofs.Common.{◌≡◌, ◌≢◌, ℕ, ◌+◌, ◌*◌, ◌/◌, ◌<◌, ◌≤◌, inl, inr, Bool, true, false, true≢false, nat_lt, List, set, slice_get, Some, refl, sym, ap, ◌∙◌, subst, arith, lt-ltb}
use Rattle.std.specs.Int.{div_ceil}
use Rattle.std.proofs.lemmas.Bool.{and_from, cases_lt}
use Rattle.std.proofs.lemmas.Nat.{div_below, le-div}
use Rattle.std.proofs.lemmas.Grind.{div_ceil_times}
use Rattle.std.proofs.lemmas.Option.{same_Some}
use Rattle.md_assembly.specs.States.{is_in_sync}
use Rattle.md_assembly.proofs.Indices.{got_same}
use Rattle.md_badblocks.specs.declared.run.Run.{Run}
use Rattle.md_badblocks.specs.Runs.{IsBad}
use Rattle.md_bitmap.specs.Chunks.{InChunk}
use Rattle.md_bitmap.specs.Marks.{Bitmap, is_set}
use Rattle.md_device.specs.Splice.{part}
use Rattle.md_kept_members.specs.SectorLists.{IsPlaced}
use Rattle.md_kept_members.specs.View.{MemberView}
use Rattle.md_model.specs.Content.{Content}
use Rattle.md_model.proofs.Cases.{by_test}
use Rattle.md_state.specs.Members.{IsInSync}
use Rattle.md_state.specs.Missing.{is_missing}
use Rattle.md_state.specs.View.{ArrayView, Disk, MirrorView}
use Rattle.md_super.specs.declared.superblock.Superblock.{Superblock}
use Rattle.md_array.specs.Consistency.{IsConsistent}
use Rattle.md_array.specs.Steps.Enrol.{Enrols, HoldsContent, MayEnrolSectors}
use Rattle.md_array.specs.Steps.EnrolEvents.{IsHeldBy}
use Rattle.md_array.specs.Worlds.{AreHonest, lies_in, lists_of}
use Rattle.md_array.proofs.General.Indices.{got_other}
use Rattle.md_array.proofs.Rebuilding.CopiedContent as some
use Rattle.md_array.proofs.Rebuilding.CopiedContent.{HasSector}
use Rattle.md_array.proofs.Rebuilding.InBetween.{may_rebuild_it, superblock, then_at, then_beside, then_disk}
use Rattle.md_array.proofs.Rebuilding.PreparedEvent.{sector_kept}
use Rattle.md_array.proofs.StepLemmas.Lend.{unrebuilt}
use Rattle.md_array.proofs.Worlds.Bad.{test_from_bad}
use Rattle.md_array.proofs.Worlds.PartsApart.{ends_below, parts_of}

-- the chunk of a sector
pub its_chunk : (size width s : ℕ) → 0 < width → s < size → InChunk width size (s / width) s
its_chunk size width s wide inside = record {
  from = elim (cases_lt s (s / width * width)) [
    | inl low ↦ let less : s / width < s / width = div_below s width (s / width) wide low in absurd (omega arith)
    | inr reaches ↦ reaches
  ];
  below = elim (cases_lt s ((s / width + 1) * width)) [
    | inl low ↦ low
    | inr past ↦ let more : s / width + 1 ≤ s / width = le-div (s / width + 1) s width wide past in absurd (omega arith)
  ];
  within = inside;
}

-- no other chunk has it
pub chunk_unique : (size width s c : ℕ) → 0 < width → InChunk width size c s → c ≡ s / width
chunk_unique size width s c wide inside =
    let up : c ≤ s / width = le-div c s width wide inside.from in
    let down : s / width < c + 1 = div_below s width (c + 1) wide inside.below in
    omega arith

module _ (k : ℕ) (copied lost : ℕ → Bool) (old new : MirrorView) (c : IsConsistent old) (r : Enrols k copied lost old new) (may : MayEnrolSectors k copied lost old)
    (honest : AreHonest old.disks) (d : Disk) (was : slice_get old.disks k ≡ Some d) where
  abbrev array : ArrayView
  array = old.array

  abbrev it : MemberView
  it = r.comes.member

  abbrev then : Disk
  then = then_disk k copied lost old new c r d was

  abbrev now : List Disk
  now = set old.disks k then

  abbrev chunk : ℕ → ℕ
  chunk s = s / array.chunks.sectors

  abbrev at : ℕ → ℕ
  at s = 512 * (it.superblock.data_offset + s)

  abbrev listed : ℕ → Bool
  listed = lists_of array r.member

  is_it : may.member ≡ it
  is_it = got_same array.members k may.member it may.at r.comes.at

  pub chunk_low : (s : ℕ) → s < array.chunks.size → chunk s < array.marks.chunks
  chunk_low s low =
      let bounds = div_ceil_times array.chunks.size array.chunks.sectors c.chunks.wide in
      subst (λ (x : ℕ). chunk s < x) (sym c.chunks.count) (div_below s array.chunks.sectors (div_ceil array.chunks.size array.chunks.sectors) c.chunks.wide (omega (arith, bounds.0)))

  -- a member in sync is another one
  pub another : (j : ℕ) (y : MemberView) → IsInSync array j y → j ≢ k
  another j y on here =
      let same : y ≡ it = same_Some y it (sym on.member ∙ ap (slice_get array.members) here ∙ r.comes.at) in
      let rebuilt = (may_rebuild_it k copied lost old new c r may).rebuilt in
      true≢false (sym rebuilt ∙ unrebuilt it.state (sym (ap (λ (x : MemberView). is_in_sync x.state) same) ∙ on.in_sync))

  -- a lost sector is listed
  lost_listed : (s : ℕ) → s < array.chunks.size → lost s ≡ true → listed s ≡ true
  lost_listed s low is =
      let bound = ends_below old c k it r.comes.at in
      let placed : IsPlaced lost it.superblock.data_offset (it.superblock.data_offset + s) = record { at = s; in_set = is; is = refl } in
      let bad : IsBad r.comes.list (it.superblock.data_offset + s) = (r.comes.list_is.bad (it.superblock.data_offset + s)).1 (inr (placed, omega arith)) in
      let there : IsBad r.member.bad (r.member.superblock.data_offset + s) =
      subst (λ (v : Superblock). IsBad r.member.bad (v.data_offset + s)) (sym (superblock k copied lost old new c r)) (subst (λ (runs : List Run). IsBad runs (it.superblock.data_offset + s)) (sym r.comes.comes.bad) bad) in
      and_from (nat_lt s array.chunks.size) (lies_in r.member.bad (r.member.superblock.data_offset + s)) (lt-ltb s array.chunks.size low) (test_from_bad r.member.bad (r.member.superblock.data_offset + s) there)

  -- one that it lacked and does not list was copied
  was_copied : (s : ℕ) → s < array.chunks.size → is_missing array it (chunk s) ≡ true → listed s ≡ false → copied s ≡ true
  was_copied s low missing unlisted =
      elim (may.cover s low (subst (λ (x : MemberView). is_missing array x (chunk s) ≡ true) (sym is_it) missing)) [
        | inl is ↦ is
        | inr gone ↦ absurd (true≢false (sym (lost_listed s low gone) ∙ unlisted))
      ]

  -- there it holds any content that the members in sync hold
  holds_copied : (content : Content) → HoldsContent old.disks array content → (s : ℕ) → s < array.chunks.size → is_missing array it (chunk s) ≡ true → listed s ≡ false
      → part d.content (at s) 512 ≡ content s
  holds_copied content has s low missing unlisted = may.holds honest content has d it was r.comes.at s (was_copied s low missing unlisted)

  -- ---- the device of some member in sync does not list it either
  pub one_has_it : (content : Content) → HoldsContent old.disks array content → (s : ℕ) → s < array.chunks.size → is_missing array it (chunk s) ≡ true → listed s ≡ false → HasSector old.disks array s
  one_has_it content has s low missing unlisted =
      some.one_has_it old.disks array s content (part d.content (at s) 512) has (λ other held. holds_copied other held s low missing unlisted)

  -- One that it listed and does not list any more is of a chunk that was copied.
  pub was_missing : (s : ℕ) → s < array.chunks.size → IsBad it.bad (it.superblock.data_offset + s) → listed s ≡ false → is_missing array it (chunk s) ≡ true
  was_missing s low bad unlisted = by_test (copied s)
      (λ is. subst (λ (x : MemberView). is_missing array x (chunk s) ≡ true) is_it (may.only s (inl is)).1)
      (λ clear.
      let sector = it.superblock.data_offset + s in
      let none : IsPlaced copied it.superblock.data_offset sector → ⊥ = λ p.
      (let same : p.at ≡ s = let e = p.is in omega arith in
      true≢false (sym p.in_set ∙ ap copied same ∙ clear)) in
      let still : IsBad r.comes.list sector = (r.comes.list_is.bad sector).1 (inl (bad, none)) in
      let there : IsBad r.member.bad (r.member.superblock.data_offset + s) =
      subst (λ (v : Superblock). IsBad r.member.bad (v.data_offset + s)) (sym (superblock k copied lost old new c r)) (subst (λ (runs : List Run). IsBad runs sector) (sym r.comes.comes.bad) still) in
      absurd (true≢false (sym (and_from (nat_lt s array.chunks.size) (lies_in r.member.bad (r.member.superblock.data_offset + s)) (lt-ltb s array.chunks.size low) (test_from_bad r.member.bad (r.member.superblock.data_offset + s) there)) ∙ unlisted)))

  -- ---- in the midst
  pub had_content : (content : Content) → HoldsContent now array content → HoldsContent old.disks array content
  had_content content has = record {
    held = λ j z y there on s low unlisted.
        has.held j z y (got_other old.disks k j then (another j y on) ∙ there) on s low unlisted;
  }

  pub then_sector : (s : ℕ) → s < array.chunks.size → part then.content (at s) 512 ≡ part d.content (at s) 512
  then_sector = sector_kept array it d.content then.content (parts_of old c k d it was r.comes.at) (then_beside k copied lost old new c r d was)

  pub it_holds : (content : Content) → IsHeldBy k listed content (record old { disks = now }) → (s : ℕ) → s < array.chunks.size → listed s ≡ false
      → part then.content (at s) 512 ≡ content s
  it_holds content held s low unlisted = by_test (is_missing array it (chunk s))
      (λ missing. then_sector s low ∙ holds_copied content (had_content content held.in_sync) s low missing unlisted)
      (λ had. held.told then it (then_at k copied lost old new c r d was) r.comes.at s low had unlisted)
