-- Sectors are read after a resync, where one was needed.
use Rattle.std.proofs.Common.{◌≡◌, ◌∙◌, ◌&&◌, ℕ, Bool, true, false, not, refl, sym, ap, subst}
use Rattle.std.specs.Prelude.{MatchResult, Result, Ok, Err}
use Rattle.md_streams.specs.declared.sink.Sink.{Ghosts}
use Rattle.md_read.specs.declared.fault.UnreadFault.{UnreadFault}
use Rattle.md_read.specs.declared.fault.UnreadFault.TheVariants.{Halted, NotResynced, OutOfRange, Unreadable}
use Rattle.md_resync.specs.declared.fault.ResyncFault.TheVariants.{ReadFault}
use Rattle.md_resync.proofs.Told.{resynced_array}
use Rattle.md_state.specs.Members.{is_degraded}
use Rattle.md_state.specs.Trying.{Refuses}
use Rattle.md_state.specs.View.{ArrayView, MirrorView}
use Rattle.md_refusals.specs.declared.fault.CommandFault.{CommandFault}
use Rattle.md_refusals.specs.declared.fault.CommandFault.TheVariants.{NoPieceMemory, OutputFault, Read, Resync}
use Rattle.md_read_commands.specs.Filling.{FillsArray, IsFirstGap, PutsAll, PutsFilled, RefusesFilled, RefusesToFill}
use Rattle.md_read_commands.specs.Pieces.{PutsSectors, RefusesSectors}
use Rattle.md_read_commands.specs.Reading.{IsReadied, IsReadyTo, IsWayFor, MayReadArray, MustBeResynced, ReadsArray, ReadsReadonly, RefusesReadonly, RefusesReady, RefusesToRead}
use Rattle.md_commands.specs.Resyncing.{ResyncsIfNeeded, needs_resync}
use Rattle.md_streams.specs.declared.gaps.Gaps.{Gaps}
use Rattle.md_streams.specs.Gaps.{HasNoGaps}
use Rattle.md_read_commands.specs.declared.way.Way.{Way}
use Rattle.md_read_commands.specs.declared.way.Way.TheVariants.{Resynced, Unresynced}
use Rattle.md_read_commands.specs.Ways.{MayReadBy}

module _ (old ready : MirrorView) (readied : ResyncsIfNeeded old ready) where
  halted_at : (needs : Bool) → needs_resync old.array ≡ needs → ready.array.halted ≡ old.array.halted
  halted_at true is = ap (λ (a : ArrayView). a.halted) (resynced_array old ready (readied.resynced is))
  halted_at false is = ap (λ (v : MirrorView). v.array.halted) (readied.untouched is)

  size_at : (needs : Bool) → needs_resync old.array ≡ needs → ready.array.chunks.size ≡ old.array.chunks.size
  size_at true is = ap (λ (a : ArrayView). a.chunks.size) (resynced_array old ready (readied.resynced is))
  size_at false is = ap (λ (v : MirrorView). v.array.chunks.size) (readied.untouched is)

  not_degraded : (d r : Bool) → r ≡ false → d && not r ≡ false → d ≡ false
  not_degraded true r none e = cc
  not_degraded false r none e = refl

  module _ (sector count : ℕ) (may : MayReadArray old.array sector count) where
    pub not_resynced : ready.array.resynced ≡ false → Refuses old ready (MustBeResynced old.array sector count)
    not_resynced not_yet = by (needs_resync old.array) refl
      where
        by : (needs : Bool) → needs_resync old.array ≡ needs → Refuses old ready (MustBeResynced old.array sector count)
        by true is = let yes = ap (λ (a : ArrayView). a.resynced) (resynced_array old ready (readied.resynced is)) in absurd cc
        by false is =
            let same = readied.untouched is in
            let still : old.array.resynced ≡ false = sym (ap (λ (v : MirrorView). v.array.resynced) same) ∙ not_yet in
            record {
              unchanged = same;
              reason = record { may = may; not_yet = still; complete = not_degraded (is_degraded old.array) old.array.resynced still is };
            }

  module _ (sector count : ℕ) (may : MayReadArray old.array sector count) (resynced : ready.array.resynced ≡ true) where
    pub may_read : MayReadBy Resynced ready.array sector count
    may_read =
        let size = size_at (needs_resync old.array) refl in
        let inside = may.range.inside in
        record {
          may = record {
            running = halted_at (needs_resync old.array) refl ∙ may.running;
            range = record { some = may.range.some; inside = rw size inside };
          };
          is_for = resynced;
        }

    pub is_readied : IsReadied sector count old ready
    is_readied = record { may = may; readied = readied; resynced = resynced }

-- ---- what a read answers then
module _ {S : Type 0} (o : Ghosts S) (sector count : ℕ) (old ready new : MirrorView) (before after : S) where
  module _ (is_readied : IsReadied sector count old ready) where
    refuses_readied : (fault : CommandFault) → RefusesSectors o Resynced sector count ready new before after fault → RefusesToRead o sector count old new before after fault
    refuses_readied NoPieceMemory h = record { ready = ready; readied = is_readied; refused = h }
    refuses_readied (Read (Unreadable s)) h = record { ready = ready; readied = is_readied; refused = h }
    refuses_readied OutputFault h = record { ready = ready; readied = is_readied; refused = h }
    refuses_readied fault h = absurd h.1.reads.ends

    read_or_not : (result : Result (Unit {0}) CommandFault)
        → MatchResult result (λ _. PutsSectors o Resynced sector count ready new before after) (RefusesSectors o Resynced sector count ready new before after)
        → MatchResult result (λ _. ReadsArray o sector count old new before after) (RefusesToRead o sector count old new before after)
    read_or_not (Ok x) puts = record { ready = ready; readied = is_readied; puts = puts }
    read_or_not (Err fault) h = refuses_readied fault h

  pub read_ready : (way : Way) → IsReadyTo false sector count old way ready → (result : Result (Unit {0}) CommandFault)
      → MatchResult result (λ _. PutsSectors o way sector count ready new before after) (RefusesSectors o way sector count ready new before after)
      → MatchResult result (λ _. ReadsArray o sector count old new before after) (RefusesToRead o sector count old new before after)
  read_ready way is result h =
      read_or_not is.0 result
      (subst (λ (w : Way). MatchResult result (λ _. PutsSectors o w sector count ready new before after) (RefusesSectors o w sector count ready new before after)) is.1 h)

module _ {S : Type 0} (o : Ghosts S) (sector count : ℕ) (old new : MirrorView) (before after : S) where
  -- it was not made ready
  pub not_ready : (fault : CommandFault) → RefusesReady false sector count old new fault → RefusesToRead o sector count old new before before fault
  not_ready (Read Halted) h = (h, refl)
  not_ready (Read OutOfRange) h = (h, refl)
  not_ready (Read NotResynced) h = (h, refl)
  not_ready (Resync fault) h = (h.0, h.1, refl)
  not_ready fault h = absurd h

  -- ---- where it is read as it is
  pub not_ready_as_it_is : (fault : CommandFault) → RefusesReady true sector count old new fault → RefusesReadonly o sector count old new before before fault
  not_ready_as_it_is (Read Halted) h = (h, refl)
  not_ready_as_it_is (Read OutOfRange) h = (h, refl)
  not_ready_as_it_is (Read NotResynced) h = (h, refl)
  not_ready_as_it_is fault h = absurd h

  module _ (may : MayReadArray old.array sector count) where
    refuses_as_it_is : (way : Way) → IsWayFor old.array way → (fault : CommandFault) → RefusesSectors o way sector count old new before after fault → RefusesReadonly o sector count old new before after fault
    refuses_as_it_is Resynced chosen NoPieceMemory h = record { may = may; way = Resynced; chosen = chosen; refused = h }
    refuses_as_it_is Resynced chosen OutputFault h = record { may = may; way = Resynced; chosen = chosen; refused = h }
    refuses_as_it_is Resynced chosen (Read (Unreadable s)) h = record { may = may; way = Resynced; chosen = chosen; refused = h }
    refuses_as_it_is Resynced chosen fault h = absurd h.1.reads.ends
    refuses_as_it_is Unresynced chosen NoPieceMemory h = record { may = may; way = Unresynced; chosen = chosen; refused = h }
    refuses_as_it_is Unresynced chosen OutputFault h = record { may = may; way = Unresynced; chosen = chosen; refused = h }
    refuses_as_it_is Unresynced chosen (Read (Unreadable s)) h = record { may = may; way = Unresynced; chosen = chosen; refused = h }
    refuses_as_it_is Unresynced chosen (Resync (ReadFault k c)) h = record { may = may; way = Unresynced; chosen = chosen; refused = h }
    refuses_as_it_is Unresynced chosen fault h = absurd h.1.reads.ends

    pub read_as_it_is : (way : Way) → IsWayFor old.array way → (result : Result (Unit {0}) CommandFault)
        → MatchResult result (λ _. PutsSectors o way sector count old new before after) (RefusesSectors o way sector count old new before after)
        → MatchResult result (λ _. ReadsReadonly o sector count old new before after) (RefusesReadonly o sector count old new before after)
    read_as_it_is way chosen (Ok x) puts = record { may = may; way = way; chosen = chosen; puts = puts }
    read_as_it_is way chosen (Err fault) h = refuses_as_it_is way chosen fault h

-- ---- where sectors that are not given are filled
module _ {S : Type 0} (o : Ghosts S) (readonly : Bool) (sector count : ℕ) (gaps : Gaps) (old ready new : MirrorView) (before after : S) where
  pub not_ready_to_fill : HasNoGaps gaps → (fault : CommandFault) → RefusesReady readonly sector count old new fault → RefusesToFill o readonly sector count gaps old new before before fault
  not_ready_to_fill none (Read Halted) h = record { refused = h; unwritten = refl; none = none }
  not_ready_to_fill none (Read OutOfRange) h = record { refused = h; unwritten = refl; none = none }
  not_ready_to_fill none (Read NotResynced) h = record { refused = h; unwritten = refl; none = none }
  not_ready_to_fill none (Resync fault) h = record { refused = h; unwritten = refl; none = none }
  not_ready_to_fill none fault h = absurd h

  module _ (way : Way) (is : IsReadyTo readonly sector count old way ready) where
    pub refuses_to_fill : (fault : CommandFault) → RefusesFilled o way sector count gaps ready new before after fault → RefusesToFill o readonly sector count gaps old new before after fault
    refuses_to_fill NoPieceMemory h = record { way = way; ready = ready; readied = is; refused = h }
    refuses_to_fill OutputFault h = record { way = way; ready = ready; readied = is; refused = h }
    refuses_to_fill fault h = absurd h

    module _ (puts : PutsFilled o way sector count gaps ready new before after) where
      pub puts_all : PutsAll o readonly sector count gaps old new before after
      puts_all = record { way = way; ready = ready; readied = is; puts = puts }

      pub fills_but : (fault : UnreadFault) → IsFirstGap gaps fault → RefusesToFill o readonly sector count gaps old new before after (Read fault)
      fills_but (Unreadable s) first = (puts_all, first)
      fills_but fault first = absurd first

      pub fills_all : HasNoGaps gaps → FillsArray o readonly sector count gaps old new before after
      fills_all none = record { puts = puts_all; none = none }
