-- What holds of reads, whichever way they are done.
use Rattle.std.proofs.Common.{◌≡◌, ◌∙◌, ℕ, ◌+◌, ◌*◌, ◌-◌, ◌/◌, ◌%◌, ◌<◌, ◌≤◌, List, ◌++◌, length, take, Ok, sym, ap, subst, arith, length-append}
use Rattle.std.proofs.lemmas.List.{length-take-le}
use Rattle.md_array.specs.Consistency.{IsConsistent}
use Rattle.md_laws.proofs.Runs.Rests.{rests_then}
use Rattle.md_read.specs.declared.fault.UnreadFault.TheVariants.{Unreadable}
use Rattle.md_read.specs.declared.unresynced_fault.UnresyncedFault.{UnresyncedFault}
use Rattle.md_read.specs.declared.unresynced_fault.UnresyncedFault.TheVariants as unresynced
use Rattle.md_read.specs.Reading.{RefusesRead}
use Rattle.md_read.specs.Unresynced.{EndsAt, MayReadSectors}
use Rattle.md_read.proofs.PartsInTurn.{more_parts, parts_later}
use Rattle.md_read.proofs.ReadAnswers.{read_answer}
use Rattle.md_read.proofs.RunsInTurn.{gives_later, gives_then}
use Rattle.md_resync.specs.declared.fault.ResyncFault.TheVariants.{ReadFault}
use Rattle.md_state.specs.Rests.{Rests}
use Rattle.md_state.specs.View.{ArrayView, MirrorView}
use Rattle.md_refusals.specs.declared.fault.CommandFault.{CommandFault}
use Rattle.md_refusals.specs.declared.fault.CommandFault.TheVariants.{Read, Resync}
use Rattle.md_read_commands.specs.declared.way.Way.{Way}
use Rattle.md_read_commands.specs.declared.way.Way.TheVariants.{Resynced, Unresynced}
use Rattle.md_read_commands.specs.Ways.{EndsReading, MayReadBy, ReadsBy}

-- a part of sectors that may be read
pub may_read_part : (way : Way) (old mid : ArrayView) → mid ≡ old → (sector count done sectors : ℕ) → MayReadBy way old sector count → 0 < sectors → done + sectors ≤ count
    → MayReadBy way mid (sector + done) sectors
may_read_part way old mid same sector count done sectors by some within =
    let inside = by.may.range.inside in
    let here : MayReadBy way old (sector + done) sectors = record {
      may = record { running = by.may.running; range = record { some = some; inside = omega arith } };
      is_for = by.is_for;
    } in
    subst (λ (a : ArrayView). MayReadBy way a (sector + done) sectors) (sym same) here

-- ---- what is read
pub reads_rests : (way : Way) (sector : ℕ) (bytes : List ℕ) (old new : MirrorView) → ReadsBy way sector bytes old new → Rests old new
reads_rests Resynced sector bytes old new reads = reads.rests
reads_rests Unresynced sector bytes old new reads = reads.rests

pub reads_some : (way : Way) (sector : ℕ) (bytes : List ℕ) (old new : MirrorView) → ReadsBy way sector bytes old new → 0 < length bytes / 512
reads_some Resynced sector bytes old new reads = reads.may.range.some
reads_some Unresynced sector bytes old new reads = reads.may.range.some

-- a read that fails after it changes nothing of what was read
pub reads_later : (way : Way) (old mid new : MirrorView) (sector : ℕ) (bytes : List ℕ) → ReadsBy way sector bytes old mid → Rests mid new → ReadsBy way sector bytes old new
reads_later Resynced old mid new sector bytes reads rests = record {
  may = reads.may;
  rests = rests_then old mid new reads.rests rests;
  given = gives_later sector old mid new bytes reads.given rests;
  content = reads.content;
}
reads_later Unresynced old mid new sector bytes reads rests = record {
  may = reads.may;
  rests = rests_then old mid new reads.rests rests;
  given = parts_later sector old mid new bytes reads.given rests;
}

-- ---- one read after another
module _ (old mid new : MirrorView) (sound : IsConsistent old) (sector : ℕ) (xs ys : List ℕ) (whole : length xs % 512 ≡ 0) where
  count : length (xs ++ ys) / 512 ≡ length xs / 512 + length ys / 512
  count = let long = length-append xs ys in omega arith

  within : (a b : ArrayView) → b ≡ a → 0 < length xs / 512 → sector + length xs / 512 + length ys / 512 ≤ b.chunks.size → a.halted ≡ b.halted → (0 < length (xs ++ ys) / 512) × (sector + length (xs ++ ys) / 512 ≤ a.chunks.size)
  within a b same some inside running =
      let many = count in
      let size = ap (λ (v : ArrayView). v.chunks.size) same in
      (omega arith, omega arith)

  pub both_read : (way : Way) → ReadsBy way sector xs old mid → ReadsBy way (sector + length xs / 512) ys mid new → ReadsBy way sector (xs ++ ys) old new
  both_read Resynced first second =
      let fits = within old.array mid.array first.rests.array first.may.range.some second.may.range.inside (first.may.running ∙ sym second.may.running) in
      read_answer old new sound sector (xs ++ ys)
      (record { running = first.may.running; range = record { some = fits.0; inside = fits.1 }; resynced = first.may.resynced })
      {T = Unit {0}} (Ok tt) (gives_then sector old mid new xs ys first.given second.given)
  both_read Unresynced first second =
      let fits = within old.array mid.array first.rests.array first.may.range.some second.may.range.inside (first.may.running ∙ sym second.may.running) in
      record {
        may = record { running = first.may.running; range = record { some = fits.0; inside = fits.1 } };
        rests = rests_then old mid new first.rests second.rests;
        given = more_parts sector old mid new xs ys first.given second.given;
      }

-- ---- a read that ended at a sector
-- where that is, and that nothing was written
pub record Ends (sector s : ℕ) (piece : List ℕ) (old new : MirrorView) (way : Way) : Type 0 where
  pub from : sector ≤ s
  pub below : s < sector + length piece / 512
  pub rests : Rests old new
  -- the sectors before it are what a read gives
  pub front : sector < s → ReadsBy way sector (take (512 * (s - sector)) piece) old new

module _ (old new : MirrorView) (sound : IsConsistent old) (sector s : ℕ) (piece : List ℕ) where
  abbrev front : List ℕ
  front = take (512 * (s - sector)) piece

  long : s < sector + length piece / 512 → length front ≡ 512 * (s - sector)
  long below = length-take-le (512 * (s - sector)) piece (omega arith)

  ends_resynced : RefusesRead sector piece old new (Unreadable s) → Ends sector s piece old new Resynced
  ends_resynced unread = record {
    from = unread.1.from;
    below = unread.1.below;
    rests = unread.1.rests;
    front = λ some.
        let may = unread.0 in
        let inside = may.range.inside in
        let below = unread.1.below in
        let as_long = long below in
        read_answer old new sound sector front
        (record { running = may.running; range = record { some = omega arith; inside = omega arith }; resynced = may.resynced })
        {T = Unit {0}} (Ok tt) (gives_later sector old unread.1.mid new front unread.1.earlier unread.1.later);
  }

  ends_unresynced : (reason : UnresyncedFault) → MayReadSectors old.array sector (length piece / 512) → EndsAt sector s piece reason old new → Ends sector s piece old new Unresynced
  ends_unresynced reason may ends = record {
    from = ends.from;
    below = ends.below;
    rests = ends.rests;
    front = λ some.
        let inside = may.range.inside in
        let below = ends.below in
        let as_long = long below in
        record {
          may = record { running = may.running; range = record { some = omega arith; inside = omega arith } };
          rests = ends.rests;
          given = parts_later sector old ends.mid new front ends.earlier ends.later;
        };
  }

  pub ends_there : (way : Way) (reason : CommandFault) → EndsReading way sector s piece old new reason → Ends sector s piece old new way
  ends_there Resynced (Read (Unreadable t)) h = ends_resynced h.1
  ends_there Unresynced (Read (Unreadable t)) h = ends_unresynced (unresynced.Unreadable s) h.1.0 h.1.1
  ends_there Unresynced (Resync (ReadFault k c)) h = ends_unresynced (unresynced.ReadFault k s) h.1.0 h.1.1
  ends_there way reason h = absurd h

-- nothing was written
pub ends_rest : (way : Way) (sector s : ℕ) (piece : List ℕ) (old new : MirrorView) (reason : CommandFault) → EndsReading way sector s piece old new reason → Rests old new
ends_rest Resynced sector s piece old new (Read (Unreadable t)) h = h.1.1.rests
ends_rest Unresynced sector s piece old new (Read (Unreadable t)) h = h.1.1.rests
ends_rest Unresynced sector s piece old new (Resync (ReadFault k c)) h = h.1.1.rests
ends_rest way sector s piece old new reason h = absurd h

-- what holds of each reason for which a read may end holds of the one for which it did
pub by_reason : (P : CommandFault → Type 0) → ((s : ℕ) → P (Read (Unreadable s))) → ((k c : ℕ) → P (Resync (ReadFault k c)))
    → (way : Way) (sector s : ℕ) (piece : List ℕ) (old new : MirrorView) (reason : CommandFault) → EndsReading way sector s piece old new reason → P reason
by_reason P unreadable source Resynced sector s piece old new (Read (Unreadable t)) h = unreadable t
by_reason P unreadable source Unresynced sector s piece old new (Read (Unreadable t)) h = unreadable t
by_reason P unreadable source Unresynced sector s piece old new (Resync (ReadFault k c)) h = source k c
by_reason P unreadable source way sector s piece old new reason h = absurd h
