-- Commands that may be asked first: they are done, or declined.
use Rattle.std.specs.Prelude.{◌≡◌, ◌⊎◌, false, length, List, Result, Ok, Err}
use Rattle.clap.specs.Words.{Text}
use Rattle.md_streams.specs.declared.source.Source.{Ghosts as SourceGhosts}
use Rattle.md_streams.specs.declared.sink.Sink.{Ghosts as SinkGhosts}
use Rattle.md_words.specs.Asks.{Ask, compares, fills}
use Rattle.md_refusals.specs.declared.fault.CommandFault.{CommandFault}
use Rattle.md_refusals.specs.declared.fault.CommandFault.TheVariants.{Options}
use Rattle.md_refusals.specs.declared.option_fault.OptionFault.TheVariants.{MapOfTarget}
use Rattle.md_messages.specs.Question.{Question}
use Rattle.md_messages.specs.declared.notices.Notices.{Notices}
use Rattle.md_cli.specs.Lacking.{Maps}
use Rattle.md_cli.specs.MapOfTarget.{LacksInTarget}
use Rattle.md_cli.specs.Opened.{OpenedView}
use Rattle.md_cli.specs.Performing.{Performs}
use Rattle.md_cli.specs.StoringLists.{FailsToReady, FailsToStoreAll, IsToReady, ReadiesToStore, StoresEachList, StoresEarly}
use Rattle.md_cli.specs.Streams.{Streams}

-- A command that was asked of does not go on: nothing is done.
pub record Declines {V R S A : Type 0} (q : Question A) (n : Notices) (before after : V)
    (old new : Streams R S A) (result : Result (Unit {0}) CommandFault) : Type 0 where
  pub why : CommandFault
  pub is : result ≡ Err why
  pub declined : q n old.asker new.asker (Err why)
  pub same : after ≡ before
  pub unused : new ≡ record old { asker = new.asker }

module _ {R S A : Type 0} (r : SourceGhosts R) (s : SinkGhosts S) (names : List Text) (lacking : Maps)
    (ask : Ask) where
  -- The lists of members whose images lack something are stored, and then the command is done with the array; or one can't be stored,
  -- and nothing else is done.
  pub record StoresThenPerforms (before after : OpenedView) (old new : Streams R S A)
      (result : Result (Unit {0}) CommandFault) : Type 0 where
    pub early : StoresEarly ask before.mirror.array
    pub ready : OpenedView
    pub stores : StoresEachList lacking before ready
    pub performs : Performs r s names ask ready after old new result

  pub record FailsToBegin (before after : OpenedView) (old new : Streams R S A)
      (result : Result (Unit {0}) CommandFault) : Type 0 where
    pub early : StoresEarly ask before.mirror.array
    pub fault : CommandFault
    pub is : result ≡ Err fault
    pub fails : FailsToStoreAll lacking before after fault
    pub unused : new ≡ record old { asker = new.asker }

  -- Or no list is to be stored, and the command is done.
  abbrev pub StoresAndPerforms : OpenedView → OpenedView → Streams R S A → Streams R S A
      → Result (Unit {0}) CommandFault → Type 0
  StoresAndPerforms before after old new result =
      StoresThenPerforms before after old new result
      ⊎ (FailsToBegin before after old new result
      ⊎ ((StoresEarly ask before.mirror.array → ⊥) × Performs r s names ask before after old new result))

  -- The array is made ready for lists to be stored, where some are; then they are, and the command is done.
  pub record PerformsReadied (before after : OpenedView) (old new : Streams R S A)
      (result : Result (Unit {0}) CommandFault) : Type 0 where
    pub ready : OpenedView
    pub beside : ready.beside ≡ before.beside
    pub as_many : length ready.mirror.disks ≡ length before.mirror.disks
    pub readies : ReadiesToStore ask lacking before.mirror ready.mirror
    pub goes : StoresAndPerforms ready after old new result

  -- It can't be made ready, and nothing else is done.
  pub record FailsReadying (before after : OpenedView) (old new : Streams R S A)
      (result : Result (Unit {0}) CommandFault) : Type 0 where
    pub beside : after.beside ≡ before.beside
    pub as_many : length after.mirror.disks ≡ length before.mirror.disks
    pub to_ready : IsToReady ask lacking before.mirror.array
    pub fault : CommandFault
    pub is : result ≡ Err fault
    pub fails : FailsToReady ask before.mirror after.mirror fault
    pub unused : new ≡ record old { asker = new.asker }

  abbrev pub PerformsAndStores : OpenedView → OpenedView → Streams R S A → Streams R S A
      → Result (Unit {0}) CommandFault → Type 0
  PerformsAndStores before after old new result =
      PerformsReadied before after old new result ⊎ FailsReadying before after old new result

module _ {R S A : Type 0} (r : SourceGhosts R) (s : SinkGhosts S) (q : Question A) (names : List Text)
    (lacking : Maps) (ask : Ask) (n : Notices) where
  -- it goes on, and is done or refused; nobody is asked again
  pub record GoesOnAgreed (before after : OpenedView) (old new : Streams R S A)
      (result : Result (Unit {0}) CommandFault) : Type 0 where
    pub agreed : q n old.asker new.asker (Ok tt)
    pub performs : PerformsAndStores r s names lacking ask before after old new result
    -- no other command notes for which sectors zeros were put out
    pub noted : fills ask ≡ false → new.gaps ≡ old.gaps
    -- nor in how many chunks members differ
    pub counted : compares ask ≡ false → new.mismatched ≡ old.mismatched

  -- The member that it rebuilds is recovering, and its image lacks some sector of the array: nothing is done, and nobody is asked.
  pub record RefusesMapOfTarget (before after : OpenedView) (old new : Streams R S A)
      (result : Result (Unit {0}) CommandFault) : Type 0 where
    pub lacks : LacksInTarget lacking ask before.mirror.array
    pub is : result ≡ Err (Options MapOfTarget)
    pub same : after ≡ before
    pub unasked : new.asker ≡ old.asker
    pub unused : new ≡ record old { asker = new.asker }

  abbrev pub PerformsOrDeclines : OpenedView → OpenedView → Streams R S A → Streams R S A
      → Result (Unit {0}) CommandFault → Type 0
  PerformsOrDeclines before after old new result =
      (LacksInTarget lacking ask before.mirror.array → ⊥)
      × (GoesOnAgreed before after old new result ⊎ Declines q n before after old new result)
      ⊎ RefusesMapOfTarget before after old new result
