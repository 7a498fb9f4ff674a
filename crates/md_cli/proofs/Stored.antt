-- Lists that are stored: what stays, and that no device comes or goes.
use Rattle.std.proofs.Common.{◌∙◌, ℕ, None, Result, Ok, Err, inl, inr, refl, subst, sym}
use Rattle.std.specs.Prelude.{MatchResult}
use Rattle.md_array.specs.Consistency.{IsConsistent}
use Rattle.md_array.specs.InTurn.{Requests}
use Rattle.md_metadata.specs.Going.{GoesOn, HaltsAfter}
use Rattle.md_metadata.specs.Storing.{IsRecording, StoringFails}
use Rattle.md_metadata.specs.StoringLists.{ListFails, StoresList}
use Rattle.md_metadata.specs.declared.fault.PartFault.{PartFault}
use Rattle.md_metadata.specs.declared.fault.PartFault.TheVariants.{Halted, MemberFailed}
use Rattle.md_model.specs.Events.{Event}
use Rattle.md_resync.specs.declared.fault.ResyncFault.{ResyncFault}
use Rattle.md_state.specs.View.{MirrorView}
use Rattle.md_refusals.specs.declared.fault.CommandFault.{CommandFault}
use Rattle.md_refusals.specs.declared.fault.CommandFault.TheVariants.{Resync}
use Rattle.md_commands.specs.Resyncing.{RefusesNeededResync, ResyncsIfNeeded}
use Rattle.md_commands.specs.SettingAside.{RefusesSalvageResync, ResyncsToSalvage}
use Rattle.md_words.specs.Asks.{Ask, loss_of}
use Rattle.md_cli.specs.Lacking.{Maps, is_sectors}
use Rattle.md_cli.specs.StoringLists.{FailsToReady, FailsToStoreDue, IsReadiedToStore, IsToReady, ReadiesToStore, RefusesResyncFor, ResyncsFor, StoresDue}
use Rattle.md_commands.proofs.AsideCounts.{not_readied_to_salvage, readied_to_salvage}
use Rattle.md_commands.proofs.DeviceCounts.{AsMany, halts, not_readied, readied, same}

went_as_many : (F G : Requests → Requests) (IsOf : Event → Type 0) (old new : MirrorView) → IsConsistent old → GoesOn F G IsOf old new → AsMany old new
went_as_many F G IsOf old new sound goes = goes.sound.fits.as_many ∙ goes.array.as_many ∙ sym sound.fits.as_many

halted_as_many : (F G : Requests → Requests) (IsOf : Event → Type 0) (old new : MirrorView) → IsConsistent old → HaltsAfter F G IsOf old new → AsMany old new
halted_as_many F G IsOf old new sound h = halts h.failing h.mid new (G (λ _. None)) (h.halts (λ _. None)) ∙ went_as_many F G IsOf old h.mid sound h.goes

pub stored_as_many : (k : ℕ) (old new : MirrorView) → IsConsistent old → StoresList k old new → AsMany old new
stored_as_many k old new sound h = went_as_many _ _ _ old new sound h.goes

pub unstored_as_many : (k : ℕ) (old new : MirrorView) (fault : PartFault) → IsConsistent old → ListFails k old new fault → AsMany old new
unstored_as_many k old new Halted sound h = halted_as_many _ _ _ old new sound h.halts
unstored_as_many k old new (MemberFailed j) sound h = went_as_many _ _ _ old new sound h.1.loses.goes

pub due_as_many : (old new : MirrorView) → IsConsistent old → StoresDue old new → AsMany old new
due_as_many old new sound (inl h) = same old new h.1
due_as_many old new sound (inr h) = went_as_many _ _ _ old new sound h.stores.goes

pub not_due_as_many : (old new : MirrorView) (why : PartFault) → IsConsistent old → StoringFails IsRecording old new why → AsMany old new
not_due_as_many old new Halted sound h = halted_as_many _ _ _ old new sound h.halts
not_due_as_many old new (MemberFailed j) sound h = went_as_many _ _ _ old new sound h.loses.goes

pub due_sound : (old new : MirrorView) → IsConsistent old → StoresDue old new → IsConsistent new
due_sound old new sound (inl h) = subst IsConsistent (sym h.1) sound
due_sound old new sound (inr h) = h.stores.goes.sound

-- a command that stores lists made the array ready, or could not
pub readied_gives : (ask : Ask) (lacking : Maps) (old new : MirrorView) (r : Result (Unit {0}) CommandFault) → IsToReady ask lacking old.array
    → MatchResult r (λ _. IsReadiedToStore ask old new) (FailsToReady ask old new)
    → MatchResult r (λ _. ReadiesToStore ask lacking old new) (λ fault. IsToReady ask lacking old.array × FailsToReady ask old new fault)
readied_gives ask lacking old new (Ok v) to h = inl (to, h)
readied_gives ask lacking old new (Err f) to h = (to, h)

-- the resync before that
pub salvage_resync_as_many : (old new : MirrorView) (r : Result (Unit {0}) ResyncFault) → MatchResult r (λ _. ResyncsToSalvage old new) (RefusesSalvageResync old new) → AsMany old new
salvage_resync_as_many old new (Ok v) h = readied_to_salvage old new h
salvage_resync_as_many old new (Err why) h = not_readied_to_salvage why old new h

pub needed_resync_as_many : (old new : MirrorView) (r : Result (Unit {0}) ResyncFault) → MatchResult r (λ _. ResyncsIfNeeded old new) (RefusesNeededResync old new) → AsMany old new
needed_resync_as_many old new (Ok v) h = readied old new h
needed_resync_as_many old new (Err why) h = not_readied why old new h

pub not_resynced_fails : (ask : Ask) (old new : MirrorView) (why : ResyncFault) → RefusesResyncFor (is_sectors (loss_of ask)) old new why → FailsToReady ask old new (Resync why)
not_resynced_fails ask old new why refused = inl (record { why = why; is = refl; refused = refused })

pub resynced_and_stored : (ask : Ask) (old mid new : MirrorView) (r : Result (Unit {0}) CommandFault) → ResyncsFor (is_sectors (loss_of ask)) old mid
    → MatchResult r (λ _. StoresDue mid new) (FailsToStoreDue mid new)
    → MatchResult r (λ _. IsReadiedToStore ask old new) (FailsToReady ask old new)
resynced_and_stored ask old mid new (Ok v) resynced h = record { mid = mid; resynced = resynced; stored = h }
resynced_and_stored ask old mid new (Err f) resynced h = inr (record { mid = mid; resynced = resynced; fails = h })
