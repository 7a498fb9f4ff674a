-- What is noticed of an array beside what a command gives: which of its images, and which devices that were not named, get a line.
use Rattle.std.specs.Prelude.{◌≡◌, ◌↔◌, ◌==◌, ◌&&◌, ◌||◌, ℕ, IsTrue, Bool, false, List, Option, Some, None, MatchOption, length, replicate, slice_get, is_some, unwrap_or, if◌then◌else◌}
use Rattle.std.specs.List.{position}
use Rattle.md_state.specs.View.{ArrayView}
use Rattle.md_kept_members.specs.View.{MemberView}
use Rattle.md_notices.specs.declared.noticing.Asked.{Asked}
use Rattle.md_assembly.specs.declared.state.MemberState.{MemberState}
use Rattle.md_assembly.specs.States.{is_spare}
use Rattle.md_notices.specs.Kernel.{why_unready}
use Rattle.md_notices.specs.Noticing.{WereMarkedAtOpening, AreUnnamed, all_dropped, all_parted, all_states, in_sync_count}
use Rattle.md_notices.specs.ListedSectors.{all_sector_counts, all_longer_lists}
use Rattle.md_notices.specs.LostSectors.{lost_in}
use Rattle.md_notices.specs.Parting.{IsFirstInSync, NoneInSync}
use Rattle.md_notices.specs.UngivenChunks.{chunks_ungiven, none_ungiven}
use Rattle.md_notices.specs.declared.ungiven_chunks.UngivenChunks.{UngivenChunks}
use Rattle.md_words.specs.Asks.{Ask, failing_of, leaving_of, loss_of, overwritten_by, tells_parted}
use Rattle.md_words.specs.declared.loss.Loss.{Loss}
use Rattle.md_words.specs.declared.loss.Loss.TheVariants.{Chunks}
use Rattle.md_words.specs.declared.overwritten.Overwritten.{Overwritten}
use Rattle.md_words.specs.declared.overwritten.Overwritten.TheVariants as overwritten
use Rattle.md_messages.specs.declared.notices.Notices.{Notices}
use Rattle.md_notices.specs.declared.held.held.Held.TheVariants.{Nothing}
use Rattle.md_notices.specs.Held.Holding.{is_unseen, needs_telling}
use Rattle.md_messages.specs.Holding.{IsJoining, IsOwn, one_needs_telling}

-- nothing is noticed
abbrev pub nothing : Notices
nothing = record {
  marked = replicate 64 false;
  alone = None;
  parted = replicate 64 false;
  source = None;
  unnamed = replicate 32 None;
  states = replicate 64 None;
  ungiven = none_ungiven;
  listed = replicate 64 0;
  dropped = replicate 64 false;
  more_listed = replicate 64 None;
  lost = record { count = 0; first = None };
  unready = None;
  in_sync = 0;
  raid_disks = 0;
  held = Nothing;
  own = false;
  each = None;
}

-- of the members of an array, where the command says which were used without those in sync
abbrev pub parted_members : Ask → List MemberView → List Bool
parted_members ask members = if tells_parted ask then all_parted members else replicate 64 false

-- the chunks that a rebuild would list whole: one that loses chunks for a bad sector, of this member
abbrev pub ungiven_by : Overwritten → Option Loss → ArrayView → UngivenChunks
ungiven_by (overwritten.Member k) (Some Chunks) a = chunks_ungiven a (slice_get a.members k)
ungiven_by overwritten loss a = none_ungiven

-- As the array was opened, where what the device holds that is to join it was noted before. That is no device which misses, where
-- it is of the array.
pub record NotesOpening (ask : Ask) (a : ArrayView) (old n : Notices) : Type 0 where
  pub marked : WereMarkedAtOpening a.members n.marked
  pub alone : n.alone ≡ (if in_sync_count a.members == 1 then n.source else None)
  pub parted : n.parted ≡ parted_members ask a.members
  pub source : MatchOption n.source (NoneInSync a.members (length a.members)) (IsFirstInSync a.members)
  pub joining : Option ℕ
  pub is_joining : IsJoining a.shared n.held joining
  pub unnamed : AreUnnamed a joining n.unnamed
  pub states : n.states ≡ all_states a.members
  pub ungiven : n.ungiven ≡ ungiven_by (overwritten_by ask) (loss_of ask) a
  pub listed : n.listed ≡ all_sector_counts a.members
  pub held : n.held ≡ old.held
  pub own : IsTrue n.own ↔ IsOwn (overwritten_by ask) a n.held

-- what the command was asked to do with a member, of which it is known whether it left
abbrev pub asked_of : Ask → Bool → Asked
asked_of ask left = record { left = if left then leaving_of ask else None; failed = failing_of ask }

-- as the command left the array, of which it is known whether the member left that was to be taken out
abbrev pub with_dropped : Ask → ArrayView → Bool → Notices → Notices
with_dropped ask a left n = record n {
  dropped = all_dropped n.states a.members (asked_of ask left);
  more_listed = all_longer_lists n.listed a.members (asked_of ask left);
  lost = lost_in a;
  unready = why_unready a;
  in_sync = in_sync_count a.members;
  raid_disks = a.shared.raid_disks;
}

-- without what was done in memory alone
abbrev pub without_stored : Notices → Notices
without_stored n = record n {
  marked = replicate 64 false;
  dropped = replicate 64 false;
  more_listed = replicate 64 None;
}

-- the member was a spare, so that it may be rebuilt
abbrev pub was_spare : Option MemberState → Bool
was_spare None = false
was_spare (Some state) = is_spare state

-- the member in this place was used without those in sync
abbrev pub was_parted : Notices → ℕ → Bool
was_parted n k = unwrap_or (slice_get n.parted k) false

-- What is overwritten is asked of before, where what it holds is known, or where nobody looked at it. A returning device and a member
-- are asked of where they were written to without the others, and a member that can't be rebuilt is not. A member is asked of too where
-- whole chunks would be listed as bad on it.
abbrev pub asks_before : Overwritten → Notices → Bool
asks_before overwritten.Images n = one_needs_telling n.each
asks_before overwritten.NewDevice n = needs_telling n.held
asks_before overwritten.ReturningDevice n = n.own || is_unseen n.held
asks_before (overwritten.Member k) n =
    was_parted n k && was_spare (unwrap_or (slice_get n.states k) None) || is_some n.ungiven.first
asks_before overwritten.Nothing n = false

-- the first role whose device was not named
abbrev pub first_absent : Notices → Option ℕ
first_absent n = position (λ number. is_some number) n.unnamed

-- a command is asked of before it is done
abbrev pub asks_first : Ask → Notices → Bool
asks_first ask n = asks_before (overwritten_by ask) n
