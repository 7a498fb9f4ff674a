-- What commands do with an opened array.
use Rattle.std.specs.Prelude.{◌≡◌, ◌⊎◌, ◌<◌, ◌≤◌, ◌+◌, ◌-◌, ◌^◌, ℕ, Bool, true, false, codes, List, [], Option, Some, None, Result, Ok, Err, MatchResult, if◌then◌else◌, min, unwrap_or}
use Rattle.md_metadata.specs.declared.coming_back.extent_of_rebuild.RebuildExtent.{RebuildExtent}
use Rattle.md_metadata.specs.declared.coming_back.extent_of_rebuild.RebuildExtent.TheVariants.{All, Marked}
use Rattle.md_streams.specs.declared.source.Source.{Ghosts as SourceGhosts}
use Rattle.md_commands.specs.Adding.{AddsDevice, KeepsDevice, RefusesJoining}
use Rattle.md_commands.specs.Checking.{ChecksMembers, ListsMismatches, RefusesToCheck, RefusesToList}
use Rattle.md_commands.specs.Failing.{RefusesToFail}
use Rattle.md_commands.specs.Objects.{checked_line, detail_line, plan_shown, rebuilt_object_line, summary_shown}
use Rattle.md_streams.specs.Putting.{PutsOut}
use Rattle.md_refusals.specs.Output.{ShowsText}
use Rattle.md_commands.specs.Planning.{RefusesToPlan, ShowsPlan}
use Rattle.md_commands.specs.ReAdding.{ReAddsDevice, RefusesToReAdd}
use Rattle.md_commands.specs.Rebuilding.{RebuildsArray, RebuiltText, RefusesToRebuild, rebuilt_shown}
use Rattle.md_commands.specs.Salvaging.{RefusesToSalvage, SalvagedText, SalvagesArray, salvaged_object_line, salvaged_shown}
use Rattle.md_commands.specs.Removing.{HandsBack, RefusesToRemove, RemovesMember}
use Rattle.md_commands.specs.Resyncing.{RefusesToResync, ResyncsArray}
use Rattle.md_commands.specs.Stopping.{RefusesToStop, StopsArray, StopsArrayAfter}
use Rattle.md_commands.specs.Writing.{RefusesToWrite, WritesArray}
use Rattle.md_refusals.specs.declared.fault.CommandFault.{CommandFault}
use Rattle.md_refusals.specs.declared.fault.CommandFault.TheVariants.{NoMemory, OutputFault, Read}
use Rattle.md_read.specs.declared.fault.UnreadFault.{UnreadFault}
use Rattle.md_read_commands.specs.Filling.{IsFirstGap, ReadsFilled, has_put_all}
use Rattle.md_streams.specs.Gaps.{HasBothGaps, HasNoGaps, no_gaps}
use Rattle.md_read_commands.specs.Reading.{ReadsArray, ReadsReadonly, RefusesReadonly, RefusesToRead}
use Rattle.md_read_commands.specs.Serving.{ServesArray}
use Rattle.md_serve_commands.specs.Writable.{ServesWritable}
use Rattle.md_streams.specs.declared.sink.Sink.{Ghosts as SinkGhosts}
use Rattle.md_images.specs.Taking.{Text}
use Rattle.md_report.specs.AsText.CheckReport.{list_text}
use Rattle.md_report.specs.AsText.WholeArray.DetailReport.{detail_text}
use Rattle.md_report.specs.AsText.WholeArray.SummaryReport.{summary_text}
use Rattle.md_report.specs.AsText.WholeArray.VerboseReport.{verbose_text}
use Rattle.md_streams.specs.declared.gaps.Gaps.{Gaps}
use Rattle.md_state.specs.Rests.{Rests}
use Rattle.md_state.specs.Steps.Fail.{FailsMember}
use Rattle.md_state.specs.View.{ArrayView, Disk, MirrorView}
use Rattle.md_words.specs.Asks.{Ask, assembles, details, plans, reads, serves, serves_writable, checks, writes, resyncs, stops, fails, removes, adds, re_adds, rebuilds}
use Rattle.md_words.specs.declared.form.CheckForm.{CheckForm}
use Rattle.md_words.specs.declared.form.CheckForm.TheVariants as check_form
use Rattle.md_words.specs.declared.form.DetailForm.{DetailForm}
use Rattle.md_words.specs.declared.form.DetailForm.TheVariants as detail_form
use Rattle.md_words.specs.declared.form.RebuildForm.{RebuildForm}
use Rattle.md_words.specs.declared.form.RebuildForm.TheVariants as rebuild_form
use Rattle.md_words.specs.declared.loss.Loss.TheVariants as loss
use Rattle.md_cli.specs.Opened.{OpenedView}
use Rattle.md_cli.specs.Streams.{Streams}

-- what a member that comes back is rebuilt in: what is marked, or all of it
abbrev pub rebuild_extent : Bool → RebuildExtent
rebuild_extent full = if full then All else Marked

-- how an array is shown in detail, whose members are on these images
abbrev pub detail_shown : DetailForm → List Text → ArrayView → List ℕ
detail_shown detail_form.Text images a = detail_text a
detail_shown detail_form.Verbose images a = verbose_text a images
detail_shown detail_form.Json images a = detail_line images a

-- what is told of the rebuild of member k: the plan of each pass and a line, the line alone, or an object
abbrev pub rebuilt_told : RebuildForm → ℕ → RebuiltText
rebuilt_told rebuild_form.Plans k = rebuilt_shown false k
rebuilt_told rebuild_form.Line k = rebuilt_shown true k
rebuilt_told rebuild_form.Json k = rebuilt_object_line k

-- what is told of it where bad sectors are lost, and not their chunks
abbrev pub salvaged_told : RebuildForm → ℕ → SalvagedText
salvaged_told rebuild_form.Plans k = salvaged_shown false k
salvaged_told rebuild_form.Line k = salvaged_shown true k
salvaged_told rebuild_form.Json k = salvaged_object_line k

-- how many sectors are read from this one on: as many as are asked for, or else all up to the end of the array
abbrev pub sectors_asked : ArrayView → ℕ → Option ℕ → ℕ
sectors_asked array sector None = array.chunks.size - sector
sectors_asked array sector (Some count) = count

-- where a read goes on of which so many sectors stand already; no array has the last sector of all numbers
abbrev pub rest_from : ℕ → ℕ → ℕ
rest_from sector stands = min (sector + stands) (2 ^ 64 - 1)

-- What is answered once all sectors are put out, of which these were not given: the first, if there are some.
abbrev pub AnswersGaps : Gaps → Result (Unit {0}) CommandFault → Type 0
AnswersGaps gaps result =
    MatchResult result
    (λ _. HasNoGaps gaps)
    (λ fault. (unread : UnreadFault) × (fault ≡ Read unread) × IsFirstGap gaps unread)

-- What was not given to a read and to the one before it, and what is answered: where all is put out, the first of all.
pub record JoinsGaps (was now : Gaps) (part : Result (Unit {0}) CommandFault) (all : Option Gaps)
    (result : Result (Unit {0}) CommandFault) : Type 0 where
  pub gaps : Gaps
  pub is : all ≡ Some gaps
  pub both : HasBothGaps was now gaps
  pub put : has_put_all part ≡ true → AnswersGaps gaps result
  pub cut : has_put_all part ≡ false → result ≡ part

-- Where nothing stands before it a read says itself what was not given. Else it is joined, unless there is no memory for that.
abbrev pub JoinsEarlier : Option Gaps → Option Gaps → Result (Unit {0}) CommandFault → Option Gaps
    → Result (Unit {0}) CommandFault → Type 0
JoinsEarlier None told part all result = (all ≡ told) × (result ≡ part)
JoinsEarlier (Some was) None part all result = (all ≡ None) × (result ≡ part)
JoinsEarlier (Some was) (Some now) part all result =
    JoinsGaps was now part all result ⊎ (all ≡ Some now) × (result ≡ Err NoMemory)

module _ {S : Type 0} (s : SinkGhosts S) where
  -- The output holds nothing back, and then this is answered; or it failed.
  abbrev pub EndsOutput : S → S → (Result (Unit {0}) CommandFault → Type 0) → Result (Unit {0}) CommandFault
      → Type 0
  EndsOutput old new Answers result =
      PutsOut s old new [] × Answers result ⊎ (result ≡ Err OutputFault) × (s.failed new ≡ true)

  -- Sectors are put out, and those that are not given are filled. Which these are is told with those that were not given before them.
  pub record ReadsFilledOn (readonly : Bool) (sector count : ℕ) (old new : MirrorView) (before after : S)
      (was all : Option Gaps) (result : Result (Unit {0}) CommandFault) : Type 0 where
    pub told : Option Gaps
    pub part : Result (Unit {0}) CommandFault
    pub reads : ReadsFilled s readonly sector count old new before after told part
    pub goes_on : JoinsEarlier was told part all result

  -- Sectors of the array are put out: after a resync where one is needed or, where no image may be changed, as they would be after it.
  abbrev pub ShowsSectors : ℕ → ℕ → Bool → OpenedView → OpenedView → S → S → Result (Unit {0}) CommandFault
      → Type 0
  ShowsSectors sector count false before after old new result =
      MatchResult result
      (λ _. ReadsArray s sector count before.mirror after.mirror old new)
      (RefusesToRead s sector count before.mirror after.mirror old new)
  ShowsSectors sector count true before after old new result =
      MatchResult result
      (λ _. ReadsReadonly s sector count before.mirror after.mirror old new)
      (RefusesReadonly s sector count before.mirror after.mirror old new)

  -- the same, or sectors that are not given are filled; then it is noted which these are, beside those that were not given before the
  -- first one, and whether all sectors are put out
  abbrev pub PerformsRead : {R A : Type 0} → ℕ → ℕ → Bool → Bool → OpenedView → OpenedView → Streams R S A
      → Streams R S A → Result (Unit {0}) CommandFault → Type 0
  PerformsRead sector count false readonly before after old new result =
      ShowsSectors sector count readonly before after old.output new.output result
  PerformsRead sector count true readonly before after old new result =
      ReadsFilledOn readonly sector count before.mirror after.mirror old.output new.output old.gaps new.gaps
      result
      × (new.all_out ≡ has_put_all result)

  -- What is left of the sectors that are asked for is put out, where so many of them stand already: all behind these.
  pub record PutsRest {R A : Type 0} (sector count : ℕ) (fill readonly : Bool) (before after : OpenedView)
      (old new : Streams R S A) (result : Result (Unit {0}) CommandFault) : Type 0 where
    pub left : (old.stands ≡ 0) ⊎ (old.stands < count)
    pub reads : PerformsRead (rest_from sector old.stands) (count - old.stands) fill readonly before after
        old new result

  -- All of them stand: nothing is read. Which were not given is told.
  pub record HasNoRest {R A : Type 0} (count : ℕ) (before after : OpenedView) (old new : Streams R S A)
      (result : Result (Unit {0}) CommandFault) : Type 0 where
    pub some : 0 < old.stands
    pub all : count ≤ old.stands
    pub same : after ≡ before
    pub gaps : new.gaps ≡ old.gaps
    pub answer : EndsOutput old.output new.output (AnswersGaps (unwrap_or old.gaps no_gaps)) result

  abbrev pub PerformsReadOn : {R A : Type 0} → ℕ → ℕ → Bool → Bool → OpenedView → OpenedView
      → Streams R S A → Streams R S A → Result (Unit {0}) CommandFault → Type 0
  PerformsReadOn sector count fill readonly before after old new result =
      PutsRest sector count fill readonly before after old new result
      ⊎ HasNoRest count before after old new result

  -- The members in sync are compared, and in how many chunks two differ is put out, or which these are. The answer is how many.
  abbrev pub ShowsMismatches : CheckForm → List Text → OpenedView → OpenedView → S → S
      → Result ℕ CommandFault → Type 0
  ShowsMismatches check_form.Count names before after old new result =
      MatchResult result
      (λ count. ChecksMembers s count before.mirror after.mirror old new)
      (RefusesToCheck s before.mirror after.mirror old new)
  ShowsMismatches check_form.List names before after old new result =
      MatchResult result
      (λ count. ListsMismatches s (list_text before.mirror.array.chunks) count before.mirror after.mirror
      old new)
      (RefusesToList s before.mirror after.mirror old new)
  ShowsMismatches check_form.Json names before after old new result =
      MatchResult result
      (λ count. ListsMismatches s (checked_line before.mirror.array names) count before.mirror after.mirror
      old new)
      (RefusesToList s before.mirror after.mirror old new)

  -- This is done, and how many chunks these are is noted.
  pub record CountsMismatches (form : CheckForm) (names : List Text) (before after : OpenedView) (old new : S)
      (mismatched : Option ℕ) : Type 0 where
    pub count : ℕ
    pub shows : ShowsMismatches form names before after old new (Ok count)
    pub noted : mismatched ≡ Some count

  abbrev pub PerformsCheck : CheckForm → List Text → OpenedView → OpenedView → S → S → Option ℕ
      → Result (Unit {0}) CommandFault → Type 0
  PerformsCheck form names before after old new mismatched result =
      MatchResult result
      (λ _. CountsMismatches form names before after old new mismatched)
      (λ fault. ShowsMismatches form names before after old new (Err fault))

  -- The array is stopped, and shown in a text that is made of it.
  abbrev pub PerformsStop : (ArrayView → List ℕ) → OpenedView → OpenedView → S → S
      → Result (Unit {0}) CommandFault → Type 0
  PerformsStop text_of before after old new result =
      MatchResult result
      (λ _. StopsArray s text_of before.mirror after.mirror old new)
      (RefusesToStop s before.mirror after.mirror old new)

  -- Member k leaves, and then the array is stopped and shown. Its device stands beside the array then.
  pub record PerformsRemove (k : ℕ) (before after : OpenedView) (old new : S)
      (result : Result (Unit {0}) CommandFault) : Type 0 where
    pub handed_back : HandsBack k before.mirror.disks after.mirror.disks after.beside
    pub removes : MatchResult result
        (λ _. StopsArrayAfter s summary_text (RemovesMember k before.mirror) after.mirror old new)
        (RefusesToRemove s k before.mirror after.mirror old new)

  -- The device beside the array joins it, and then the array is stopped and shown. If it does not join, it stands there again.
  pub record PerformsAdd (text_of : ArrayView → List ℕ) (before after : OpenedView) (old new : S)
      (result : Result (Unit {0}) CommandFault) : Type 0 where
    pub device : Disk
    pub is : before.beside ≡ Some device
    pub kept : KeepsDevice before.mirror.disks after.mirror.disks after.beside
    pub adds : MatchResult result
        (λ _. StopsArrayAfter s text_of (AddsDevice device before.mirror) after.mirror old new)
        (RefusesJoining s device after.beside before.mirror after.mirror old new)

  -- it comes back, and gets what it lacks
  pub record PerformsReAdd (text_of : ArrayView → List ℕ) (extent : RebuildExtent) (before after : OpenedView)
      (old new : S) (result : Result (Unit {0}) CommandFault) : Type 0 where
    pub device : Disk
    pub is : before.beside ≡ Some device
    pub kept : KeepsDevice before.mirror.disks after.mirror.disks after.beside
    pub re_adds : MatchResult result
        (λ _. StopsArrayAfter s text_of (ReAddsDevice extent device before.mirror) after.mirror old new)
        (RefusesToReAdd s extent device after.beside before.mirror after.mirror old new)

module _ {R S A : Type 0} (r : SourceGhosts R) (s : SinkGhosts S) where
  -- A client is served from the array, of which nothing is written. Which sectors were filled for it is noted, where they were to be.
  pub record PerformsServe (fill : Bool) (before after : OpenedView) (old new : Streams R S A)
      (result : Result (Unit {0}) CommandFault) : Type 0 where
    pub gaps : Gaps
    pub serves : ServesArray r s fill before.mirror after.mirror gaps old.input new.input old.output
        new.output result
    pub rests : Rests before.mirror after.mirror
    pub noted : fill ≡ true → new.gaps ≡ Some gaps

module _ {R S : Type 0} (r : SourceGhosts R) (s : SinkGhosts S) where
  -- The input is written, and then the array is stopped and shown; or not all of it is, but perhaps so many sectors.
  pub record PerformsWrite (sector : ℕ) (count : Option ℕ) (before after : OpenedView) (input rest : R)
      (old new : S) (result : Result (Unit {0}) CommandFault) : Type 0 where
    pub written : ℕ
    pub writes : MatchResult result
        (λ _. WritesArray r s sector count before.mirror after.mirror input rest old new)
        (RefusesToWrite r s sector count before.mirror after.mirror input rest old new written)

module _ {R S A : Type 0} (r : SourceGhosts R) (s : SinkGhosts S) (names : List Text) where
  -- The array as it was opened and as it is left, from the images of these names, that of a device which joins last; and the streams
  -- before and after. A report leaves the array as it is. The input is read by `write` and `serve` alone.
  abbrev pub Performs : Ask → OpenedView → OpenedView → Streams R S A → Streams R S A
      → Result (Unit {0}) CommandFault → Type 0
  Performs (assembles json readonly) before after old new result =
      (after ≡ before) × (new.input ≡ old.input)
      × ShowsText s (summary_shown (codes "assemble") json names before.mirror.array) old.output new.output
      result
  Performs (details form readonly) before after old new result =
      (after ≡ before) × (new.input ≡ old.input)
      × ShowsText s (detail_shown form names before.mirror.array) old.output new.output result
  Performs (plans k json readonly) before after old new result =
      (after ≡ before) × (new.input ≡ old.input)
      × MatchResult result
      (λ _. ShowsPlan s before.mirror.array k old.output new.output
      (plan_shown json names before.mirror.array))
      (RefusesToPlan s before.mirror.array k old.output new.output)
  Performs (reads sector count fill readonly) before after old new result =
      (after.beside ≡ before.beside) × (new.input ≡ old.input)
      × PerformsReadOn s sector (sectors_asked before.mirror.array sector count) fill readonly before after
      old new result
  Performs (serves fill) before after old new result =
      (after.beside ≡ before.beside) × PerformsServe r s fill before after old new result
  Performs serves_writable before after old new result =
      (after.beside ≡ before.beside)
      × ServesWritable r s before.mirror after.mirror old.input new.input old.output new.output result
  Performs (checks form exit_code readonly) before after old new result =
      (after.beside ≡ before.beside) × (new.input ≡ old.input)
      × PerformsCheck s form names before after old.output new.output new.mismatched result
  Performs (writes sector count) before after old new result =
      (after.beside ≡ before.beside)
      × PerformsWrite r s sector count before after old.input new.input old.output new.output result
  Performs resyncs before after old new result =
      (after.beside ≡ before.beside) × (new.input ≡ old.input)
      × MatchResult result
      (λ _. ResyncsArray s before.mirror after.mirror old.output new.output)
      (RefusesToResync s before.mirror after.mirror old.output new.output)
  Performs (stops json) before after old new result =
      (after.beside ≡ before.beside) × (new.input ≡ old.input)
      × PerformsStop s (summary_shown (codes "stop") json names) before after old.output new.output result
  Performs (fails k) before after old new result =
      (after.beside ≡ before.beside) × (new.input ≡ old.input)
      × MatchResult result
      (λ _. StopsArrayAfter s summary_text (FailsMember k before.mirror) after.mirror old.output new.output)
      (RefusesToFail s k before.mirror after.mirror old.output new.output)
  Performs (removes k) before after old new result =
      (new.input ≡ old.input) × PerformsRemove s k before after old.output new.output result
  Performs (adds name json) before after old new result =
      (new.input ≡ old.input)
      × PerformsAdd s (summary_shown (codes "add") json names) before after old.output new.output result
  Performs (re_adds name full json) before after old new result =
      (new.input ≡ old.input)
      × PerformsReAdd s (summary_shown (codes "re-add") json names) (rebuild_extent full) before after
      old.output new.output result
  Performs (rebuilds k loss.Chunks form) before after old new result =
      (after.beside ≡ before.beside) × (new.input ≡ old.input)
      × MatchResult result
      (λ _. RebuildsArray s k before.mirror after.mirror old.output new.output (rebuilt_told form k))
      (RefusesToRebuild s k before.mirror after.mirror old.output new.output)
  Performs (rebuilds k loss.Sectors form) before after old new result =
      (after.beside ≡ before.beside) × (new.input ≡ old.input)
      × MatchResult result
      (λ _. SalvagesArray s k before.mirror after.mirror old.output new.output (salvaged_told form k))
      (RefusesToSalvage s k before.mirror after.mirror old.output new.output)
  -- the others open no array
  Performs _ before after old new result = ⊥
