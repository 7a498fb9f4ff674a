-- A rebuild's passes over a mirror, step by step: a pass is made, what was copied is recorded, and what failed is listed.
use Rattle.std.specs.Prelude.{◌≡◌, ◌≢◌, ◌⊎◌, ◌^◌, ◌<◌, ℕ, false, List, [], ◌∷◌, ◌++◌, length, map, All}
use Rattle.md_bitmap.specs.Marks.{Bitmap, is_set}
use Rattle.md_cert.specs.Tables.{chunks_of_rows}
use Rattle.md_cert.specs.declared.slots.Slot.{Slot}
use Rattle.md_cert.specs.declared.table.Row.{Row}
use Rattle.md_kept_members.specs.View.{MemberView}
use Rattle.md_cert.specs.declared.planned.Planned.{Planned}
use Rattle.md_state.specs.Members.{IsMember}
use Rattle.md_state.specs.View.{MirrorView}
use Rattle.md_array.specs.Consistency.{IsConsistent}
use Rattle.md_pass.specs.Copied.{AreUncopied}
use Rattle.md_copy.specs.PassLaws.Listed.{IsArrayPass, IsFailedOf}
use Rattle.md_copy.specs.PassLaws.Passes.{PassView, failed_chunks, slots_of_pass}
use Rattle.md_copy.specs.declared.beginning.fault.RebuildFault.{RebuildFault}
use Rattle.md_copy.specs.declared.beginning.fault.RebuildFault.TheVariants.{LogFull, MetadataFault, NoMemory, TargetFault}
use Rattle.md_copy.specs.Table.Sources.{HasSources, IsTableIn, missing_chunks}
use Rattle.md_copy.specs.declared.passes.all_passes.Passed.{Passed}
use Rattle.md_copy.specs.Passes.Held.{AreHeld}
use Rattle.md_copy.specs.Passes.Listing.{ListsAll, EndsListing}
use Rattle.md_copy.specs.Preparing.{IsNoMemory}
use Rattle.md_copy.specs.Readying.Ready.{IsReadyToCopy}
use Rattle.md_copy.specs.Passes.Stretches.{AreRecorded, BreaksStretch, FailsToRecordStretch, RecordsStretches, slots_before}

-- A pass over these chunks: it is planned by what is kept in memory, and made in stretches, by each of which how far the target is rebuilt is
-- recorded. Its slots failed whose chunks were not copied.
pub record RecordsPass (target : ℕ) (chunks : List ℕ) (p : PassView) (before after : Bitmap) (old new : MirrorView) : Type 0 where
  pub is : IsArrayPass old.array chunks p
  pub member : MemberView
  pub at : IsMember old.array target member
  pub uncopied : AreUncopied (slots_of_pass p) before
  pub failed : IsFailedOf p after
  pub stretches : RecordsStretches target (slots_of_pass p) before after old new
  pub sound : IsConsistent new

-- A pass is made of which slots failed. Their chunks are listed, and the lists stored.
pub record ListsPass (target : ℕ) (chunks : List ℕ) (p : PassView) (before after : Bitmap) (old new : MirrorView) : Type 0 where
  pub recorded : MirrorView
  pub records : RecordsPass target chunks p before after old recorded
  pub some : p.failed ≢ []
  pub lists : ListsAll p.failed recorded new

-- Passes of which slots failed, one after another, each over the chunks that failed in the one before: from
-- these chunks to those that are left, and from the set of those that were copied to the one after them.
abbrev pub AreListedPasses : ℕ → List PassView → List ℕ → List ℕ → Bitmap → Bitmap → MirrorView → MirrorView → Type 0
AreListedPasses target [] chunks left before after old new = (left ≡ chunks) × (after ≡ before) × (new ≡ old)
AreListedPasses target (p ∷ ps) chunks left before after old new =
    (mid : Bitmap) × (next : MirrorView) × ListsPass target chunks p before mid old next × AreListedPasses target ps (failed_chunks p) left mid after next new

-- ---- all passes
-- After such passes one more, of which no slot failed: all is copied that can be. These are the passes, the first over the chunks that the member
-- lacks.
pub record CopiesAll (target : ℕ) (m : MemberView) (passes : List PassView) (before after : Bitmap) (old new : MirrorView) : Type 0 where
  pub listed : List PassView
  pub left : List ℕ
  pub mid : Bitmap
  pub now : MirrorView
  pub passed : AreListedPasses target listed (missing_chunks old.array m) left before mid old now
  pub last : PassView
  pub records : RecordsPass target left last mid after now new
  pub done : last.failed ≡ []
  pub passes_are : passes ≡ listed ++ last ∷ []

-- ---- where they end before that
-- The passes ended after some of which slots failed, or before the first: these chunks were left, and those
-- copied.
pub record EndsBetween (target : ℕ) (m : MemberView) (before : Bitmap) (old : MirrorView) (Why : List ℕ → Bitmap → MirrorView → Type 0) : Type 0 where
  pub passes : List PassView
  pub left : List ℕ
  pub copied : Bitmap
  pub now : MirrorView
  pub passed : AreListedPasses target passes (missing_chunks old.array m) left before copied old now
  pub why : Why left copied now

-- A pass was planned, and these stretches of it are recorded, or none. These slots are left. What failed is not told.
pub record MakesPart (target : ℕ) (chunks : List ℕ) (before after : Bitmap) (old new : MirrorView) : Type 0 where
  pub pass : PassView
  pub is : IsArrayPass old.array chunks pass
  pub uncopied : AreUncopied (slots_of_pass pass) before
  pub rounds : List ℕ
  pub left : List Slot
  pub stretches : AreRecorded target rounds (slots_of_pass pass) left before after old new

-- Memory was refused for a pass, or within it: before its next stretch read anything.
abbrev pub LacksMemoryToPass : ℕ → List ℕ → Bitmap → Bitmap → MirrorView → MirrorView → Type 0
LacksMemoryToPass target chunks before after old new = ((after ≡ before) × (new ≡ old)) ⊎ MakesPart target chunks before after old new

-- A pass was made in part, and then ended in the stretch up to this round.
pub record EndsInStretch (target : ℕ) (chunks : List ℕ) (before : Bitmap) (old : MirrorView) (Why : List Slot → Bitmap → MirrorView → Type 0) : Type 0 where
  pub copied : Bitmap
  pub begun : MirrorView
  pub part : MakesPart target chunks before copied old begun
  pub round : ℕ
  pub why : Why (slots_before round part.left) copied begun

-- The target could not be written in a pass.
abbrev pub BreaksOffPass : ℕ → List ℕ → Bitmap → MirrorView → MirrorView → Type 0
BreaksOffPass target chunks before old new = EndsInStretch target chunks before old (λ slots copied begun. BreaksStretch target slots copied begun new)

-- A stretch of a pass was made, and how far the target is rebuilt could not be recorded.
abbrev pub FailsRecording : ℕ → List ℕ → Bitmap → MirrorView → MirrorView → Type 0
FailsRecording target chunks before old new = EndsInStretch target chunks before old (λ slots copied begun. FailsToRecordStretch target slots copied begun new)

-- A pass was made and recorded, slots of it failed, and they are not all listed, with this fault.
pub record FailsListing (target : ℕ) (fault : RebuildFault) (chunks : List ℕ) (before after : Bitmap) (old new : MirrorView) : Type 0 where
  pub pass : PassView
  pub recorded : MirrorView
  pub records : RecordsPass target chunks pass before after old recorded
  pub some : pass.failed ≢ []
  pub fails : EndsListing pass.failed recorded new fault

-- ---- after a pass of which slots failed
-- The chunks of the slots that failed are listed, and these rows are the next table.
pub record GoesOnWith (failed : List Slot) (old new : MirrorView) (rows : List Row) : Type 0 where
  pub lists : ListsAll failed old new
  pub chunks : chunks_of_rows rows ≡ map (λ (s : Slot). s.chunk) failed
  pub sources : All (HasSources new.array) rows

-- The chunks of the slots that failed are not all listed; or they are, and memory was refused for the next
-- table.
abbrev pub FailsBetween : List Slot → MirrorView → MirrorView → RebuildFault → Type 0
FailsBetween failed old new fault = EndsListing failed old new fault ⊎ (IsNoMemory fault × ListsAll failed old new)

-- ---- what the calls for one pass and for all of them answer
pub record MakesOne (target : ℕ) (rows : List Row) (before after : Bitmap) (old new : MirrorView) (told : Passed) : Type 0 where
  pub pass : PassView
  pub planned : told.planned ≡ pass.planned
  pub failed : told.failed ≡ length pass.failed
  pub records : RecordsPass target (chunks_of_rows rows) pass before after old new

abbrev pub FailsOne : ℕ → List Row → Bitmap → Bitmap → MirrorView → MirrorView → RebuildFault → Type 0
FailsOne target rows before after old new NoMemory = LacksMemoryToPass target (chunks_of_rows rows) before after old new
FailsOne target rows before after old new TargetFault = BreaksOffPass target (chunks_of_rows rows) before old new ⊎ FailsRecording target (chunks_of_rows rows) before old new
FailsOne target rows before after old new fault = ⊥

pub record PassesAll (target : ℕ) (m : MemberView) (before after : Bitmap) (old new : MirrorView) (plans : List Planned) : Type 0 where
  pub passes : List PassView
  pub plans_are : plans ≡ map (λ (p : PassView). p.planned) passes
  pub copies : CopiesAll target m passes before after old new
  pub few : length plans < 2 ^ 32
  pub within : target < length new.array.members
  pub ready : IsReadyToCopy target new
  pub held : AreHeld new target after

-- before a stretch reads anything, as the target can't be written, or while failed chunks are listed
abbrev pub PassesFail : ℕ → MemberView → Bitmap → Bitmap → MirrorView → MirrorView → RebuildFault → Type 0
PassesFail target m before after old new NoMemory =
    EndsBetween target m before old (λ left copied now. LacksMemoryToPass target left copied after now new)
    ⊎ EndsBetween target m before old (λ left copied now. FailsListing target NoMemory left copied after now new)
PassesFail target m before after old new (LogFull k) = EndsBetween target m before old (λ left copied now. FailsListing target (LogFull k) left copied after now new)
PassesFail target m before after old new (MetadataFault k) = EndsBetween target m before old (λ left copied now. FailsListing target (MetadataFault k) left copied after now new)
PassesFail target m before after old new TargetFault =
    EndsBetween target m before old (λ left copied now. BreaksOffPass target left copied now new)
    ⊎ EndsBetween target m before old (λ left copied now. FailsRecording target left copied now new)
PassesFail target m before after old new fault = ⊥

-- ---- a table of what is left
-- The rows are of chunks that the target lacks and that were not copied.
pub record IsTableFor (v : MirrorView) (target : ℕ) (copied : Bitmap) (rows : List Row) : Type 0 where
  pub table : (m : MemberView) → IsMember v.array target m → IsTableIn v.array m rows
  pub fresh : All (λ row. is_set copied.bytes row.chunk ≡ false) rows
