-- A superblock is written to a member that is rebuilt, or its write fails: the log on the device lists what the list in memory has, if it did
-- before.
use Rattle.std.proofs.Common.{◌≡◌, ℕ, ◌+◌, Bool, true, false, ◌&&◌, nat_lt, List, slice_get, Option, Some, refl, sym, ap, ◌∙◌}
use Rattle.std.proofs.lemmas.Bool.{and_from, and_parts}
use Rattle.md_super.specs.declared.superblock.Superblock.{Superblock}
use Rattle.md_members.specs.Members.{reads_log}
use Rattle.md_assembly.specs.declared.state.MemberState.{MemberState}
use Rattle.md_assembly.specs.declared.state.MemberState.TheVariants.{InSync, Recovering, Stale, Spare, Faulty}
use Rattle.md_model.specs.Rebuilding.{is_target}
use Rattle.md_model.specs.States as states
use Rattle.md_model.specs.Worlds.{Request}
use Rattle.md_kept_members.specs.View.{MemberView}
use Rattle.md_kept_members.specs.OnDevices.Storing.{sector_from_super}
use Rattle.md_state.specs.Members.{IsMember}
use Rattle.md_state.specs.Missing.{is_rebuilt}
use Rattle.md_state.specs.View.{ArrayView, Disk, MirrorView}
use Rattle.md_array.specs.Consistency.{IsConsistent}
use Rattle.md_array.specs.Events.{ListsIn, ListsStill}
use Rattle.md_array.specs.Worlds.{is_listed, is_listed_next, is_logged, kind_of, lies_in, lists_of, reads_log_on, world_of}
use Rattle.md_array.proofs.StepLemmas.OneMember.{member_there, stored_there}

target_rebuilt : (s : MemberState) → is_target (kind_of s) ≡ true → is_rebuilt s ≡ true
target_rebuilt (InSync role) e = absurd cc
target_rebuilt (Recovering role) e = refl
target_rebuilt (Stale role) e = absurd cc
target_rebuilt Spare e = refl
target_rebuilt Faulty e = absurd cc

-- what is listed is listed next, by a superblock by which the log is read
listed_logged : (own : Superblock) (content : List ℕ) (sector : ℕ) → reads_log own ≡ true → is_listed own content sector ≡ true → is_listed_next own content sector ≡ true
unfolding is_listed is_listed_next
listed_logged own content sector reads listed =
    let logged : Bool = is_logged content (sector_from_super own.bblog_offset) own.bblog_size own.bblog_shift sector in
    and_from (reads_log own) logged reads (and_parts (reads_log_on own content) logged listed).1

-- Member k was o on the device d, and is n on e, with the same list.
module _ (k : ℕ) (old new : MirrorView) (c : IsConsistent old) (o n : MemberView) (at_old : IsMember old.array k o) (at_new : IsMember new.array k n)
    (d e : Disk) (before : slice_get old.disks k ≡ Some d) (after : slice_get new.disks k ≡ Some e) (requests : ℕ → Option Request)
    (same_size : new.array.chunks.size ≡ old.array.chunks.size) (same_bad : n.bad ≡ o.bad) (same_start : n.superblock.data_offset ≡ o.superblock.data_offset) where
  abbrev a : ArrayView
  a = old.array

  record IsListedBefore (s : ℕ) : Type 0 where
    now : is_listed o.superblock d.content (o.superblock.data_offset + s) ≡ true
    next : is_listed_next o.superblock d.content (o.superblock.data_offset + s) ≡ true

  was_listed : is_rebuilt o.state ≡ true → ListsIn (world_of old requests) k → (s : ℕ) → lists_of a o s ≡ true → IsListedBefore s
  was_listed rebuilt has s bad =
      let sector : ℕ = o.superblock.data_offset + s in
      let told : reads_log o.superblock ≡ true = (c.fits.each k d o before at_old).told rebuilt sector (and_parts (nat_lt s a.chunks.size) (lies_in o.bad sector) bad).1 in
      let listed = has s (member_there a k o false (λ (x : MemberView). lists_of a x s) at_old ∙ bad) in
      let shown : (nat_lt s a.chunks.size && is_listed o.superblock d.content sector) ≡ true = sym (λ i. (stored_there old.disks a k o d at_old before i).listed s) ∙ listed in
      let now = (and_parts (nat_lt s a.chunks.size) (is_listed o.superblock d.content sector) shown).1 in
      record { now = now; next = listed_logged o.superblock d.content sector told now }

  -- what was listed, and is listed next, is listed there
  pub lists_still : ((sector : ℕ) → is_listed o.superblock d.content sector ≡ true → is_listed_next o.superblock d.content sector ≡ true → is_listed n.superblock e.content sector ≡ true)
      → ListsStill k (world_of old requests) (world_of new requests)
  lists_still listed_then target has s bad_new =
      let rebuilt = target_rebuilt o.state (sym (ap is_target (member_there a k o states.State.Faulty (λ (x : MemberView). kind_of x.state) at_old)) ∙ target) in
      let bad_n : lists_of new.array n s ≡ true = sym (member_there new.array k n false (λ (x : MemberView). lists_of new.array x s) at_new) ∙ bad_new in
      let same_lists : lists_of new.array n s ≡ lists_of a o s = λ i. nat_lt s (same_size i) && lies_in (same_bad i) (same_start i + s) in
      let was = was_listed rebuilt has s (sym same_lists ∙ bad_n) in
      let then : is_listed n.superblock e.content (n.superblock.data_offset + s) ≡ true =
      ap (λ (x : ℕ). is_listed n.superblock e.content (x + s)) same_start ∙ listed_then (o.superblock.data_offset + s) was.now was.next in
      (λ i. (stored_there new.disks new.array k n e at_new after i).listed s)
      ∙ and_from (nat_lt s new.array.chunks.size) (is_listed n.superblock e.content (n.superblock.data_offset + s))
      (and_parts (nat_lt s new.array.chunks.size) (lies_in n.bad (n.superblock.data_offset + s)) bad_n).0 then
