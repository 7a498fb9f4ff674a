-- A salvage wins and loses no device.
use Rattle.std.proofs.Common.{◌≡◌, ◌∙◌, ◌⊎◌, ⊎_elim, ℕ, List, [], ◌∷◌, length, ap, Bool}
use Rattle.md_badblocks.specs.declared.run.Run.{Run}
use Rattle.md_bitmap.specs.Marks.{Bitmap}
use Rattle.md_kept_members.specs.View.{MemberView}
use Rattle.md_state.specs.View.{MirrorView}
use Rattle.md_copy.specs.declared.beginning.fault.RebuildFault.{RebuildFault}
use Rattle.md_copy.specs.declared.beginning.fault.RebuildFault.TheVariants as rebuild
use Rattle.md_copy.specs.declared.salvaging.salvaged.Salvaged.{Salvaged}
use Rattle.md_copy.specs.Ending.Leaving.{LeavesSo}
use Rattle.md_copy.specs.Passes.Listing.{StoresLists}
use Rattle.md_copy.specs.PassLaws.Passes.{PassView}
use Rattle.md_copy.specs.Readying.Admission.{RefusesToReady}
use Rattle.md_copy.specs.Salvaging.Filling.{AreSalvaged, BreaksFilling, EndsSalvaging, FailsChunk, SalvagesChunk}
use Rattle.md_copy.specs.Salvaging.Losing.{EnrolsWithout, EndsWithout, FailsWithout, NotesLost, every_role}
use Rattle.md_copy.specs.Salvaging.Steps.{EndsSalvageReadied, FailsWhole, FillsBut, RefusesSalvage, Salvages}
use Rattle.md_copy.specs.Table.Sources.{missing_chunks}
use Rattle.md_streams.specs.declared.sink.Sink.{Ghosts}
use Rattle.md_refusals.specs.declared.fault.CommandFault.{CommandFault}
use Rattle.md_refusals.specs.declared.fault.CommandFault.TheVariants.{BadMember, OutputFault, Rebuild, Resync, Stop}
use Rattle.md_commands.specs.Salvaging.{RefusesToSalvage, SalvagesArray, SalvagesResynced}
use Rattle.md_commands.proofs.AsideCounts.{not_readied_to_salvage, readied_to_salvage}
use Rattle.md_commands.proofs.DeviceCounts.{AsMany, fails_after, same, stopped_after}
use Rattle.md_commands.proofs.RebuildCounts.{begun, broken_off, gone_on, lacks_in_pass, left, lowered, recorded, settled, stopped_admitted, stopped_at, unrecorded}

-- ---- chunks that are left
chunk : (k c : ℕ) (before after : Bitmap) (lost_before lost : List Run) (old new : MirrorView) → SalvagesChunk k c before after lost_before lost old new → AsMany old new
chunk k c before after lost_before lost old new h =
    ⊎_elim (λ is. same h.filled new is.1) (λ recorded. recorded.1.disks.tried.as_many) h.ends ∙ h.fills.fills.within.as_many

chunks : (k : ℕ) (cs : List ℕ) (before after : Bitmap) (lost_before lost : List Run) (old new : MirrorView)
    → AreSalvaged k cs before after lost_before lost old new → AsMany old new
chunks k [] before after lost_before lost old new h = same old new h.2
chunks k (c ∷ cs) before after lost_before lost old new h =
    chunks k cs h.0 after h.1 lost h.2 new h.4 ∙ chunk k c before h.0 lost_before h.1 old h.2 h.3

broken : (fault : RebuildFault) (k start end : ℕ) (old new : MirrorView) → BreaksFilling k start end old new fault → AsMany old new
broken rebuild.TargetFault k start end old new h = h.fails.disks.tried.as_many ∙ h.within.as_many
broken rebuild.NoMemory k start end old new h = h.as_many
broken fault k start end old new h = absurd h

not_filled : (fault : RebuildFault) (k c : ℕ) (before after : Bitmap) (old new : MirrorView) → FailsChunk k c before after old new fault → AsMany old new
not_filled fault k c before after old new h =
    ⊎_elim (λ b. broken fault k b.1 b.2 old new b.5) (λ f. f.5.1.disks.tried.as_many ∙ f.3.fills.within.as_many) h

not_all : (fault : RebuildFault) (k : ℕ) (m : MemberView) (before after : Bitmap) (old new : MirrorView) → EndsSalvaging k m before after old new fault → AsMany old new
not_all fault k m before after old new h =
    ⊎_elim (λ none. same old new none.2)
    (λ e. not_filled fault k e.next e.copied after e.begun new e.fails ∙ chunks k e.chunks before e.copied [] e.lost old e.begun e.salvaged)
    h

filled : (k : ℕ) (m : MemberView) (p : PassView) (none copied kept : Bitmap) (lost : List Run) (ready now : MirrorView)
    → FillsBut k m p none copied kept lost ready now → AsMany ready now
filled k m p none copied kept lost ready now f =
    chunks k f.salvages.chunks f.whole copied [] lost f.passed now f.salvages.salvaged
    ∙ recorded k (missing_chunks ready.array m) p none f.whole ready f.passed f.records

-- ---- what is lost is listed, and the target comes into sync
listed : (lost : List Run) (old noted stored : MirrorView) → ((lost ≡ []) × (stored ≡ old)) ⊎ (NotesLost lost old noted × StoresLists every_role noted stored) → AsMany old stored
listed lost old noted stored h = ⊎_elim (λ is. same old stored is.1) (λ l. l.1.writes.as_many ∙ ap length l.0.disks) h

enrolled : (k : ℕ) (missing : Bitmap) (lost : List Run) (old new : MirrorView) → EnrolsWithout k missing lost old new → AsMany old new
enrolled k missing lost old new e = e.enrols.disks.as_many ∙ listed lost old e.noted e.stored e.lists

ended : (k : ℕ) (missing : Bitmap) (lost : List Run) (old new : MirrorView) (Why : (copied : ℕ → Bool) → MirrorView → Type 0)
    → ((copied : ℕ → Bool) (stored : MirrorView) → Why copied stored → AsMany stored new) → EndsWithout k missing lost old Why → AsMany old new
ended k missing lost old new Why after e = after _ e.stored e.why ∙ listed lost old e.noted e.stored e.lists

not_enrolled : (fault : RebuildFault) (k : ℕ) (missing : Bitmap) (lost : List Run) (old new : MirrorView) → FailsWithout k missing lost old new fault → AsMany old new
not_enrolled (rebuild.LogFull j) k missing lost old new h = same old new h.0
not_enrolled rebuild.NoMemory k missing lost old new h =
    ⊎_elim (λ is. same old new is)
    (λ rest. ⊎_elim (λ e. ap length e.notes.disks) (λ e. ended k missing lost old new _ (λ copied stored why. same stored new why) e) rest)
    h
not_enrolled (rebuild.MetadataFault j) k missing lost old new h = h.2.writes.as_many ∙ ap length h.1.disks
not_enrolled rebuild.TargetFault k missing lost old new h = ended k missing lost old new _ (λ copied stored why. why.disks.as_many) h
not_enrolled fault k missing lost old new h = absurd h

-- ---- the whole call
salvaged : (k : ℕ) (told : Salvaged) (old new : MirrorView) → Salvages k told old new → AsMany old new
salvaged k told old new s =
    let r = s.salvages in
    settled r.enrolled new r.stores_until_done
    ∙ (enrolled k r.missing told.listed r.filled r.enrolled r.enrols
    ∙ (filled k s.begins.now r.pass s.none r.copied r.kept told.lost s.ready r.filled r.fills
    ∙ begun k old s.ready s.none s.begins))

not_whole : (fault : RebuildFault) (k : ℕ) (m : MemberView) (before after : Bitmap) (old new : MirrorView) → FailsWhole k m before after old new fault → AsMany old new
not_whole rebuild.NoMemory k m before after old new h = lacks_in_pass k (missing_chunks old.array m) before after old new h
not_whole rebuild.TargetFault k m before after old new h =
    ⊎_elim (λ b. broken_off k (missing_chunks old.array m) before old new b) (λ u. unrecorded k (missing_chunks old.array m) before old new u) h
not_whole fault k m before after old new h = absurd h

not_salvaged_ready : (fault : RebuildFault) (k : ℕ) (m : MemberView) (none after : Bitmap) (ready new : MirrorView)
    → EndsSalvageReadied k m none after ready new fault → AsMany ready new
not_salvaged_ready fault k m none after ready new h =
    ⊎_elim (λ w. not_whole fault k m none after ready new w)
    (λ rest.
    ⊎_elim
    (λ s. not_all fault k s.4.0 s.1 after s.2 new s.4.2 ∙ recorded k (missing_chunks ready.array m) s.0 none s.1 ready s.2 s.3)
    (λ f.
    ⊎_elim (λ memory. same f.4 new memory.1) (λ e. not_enrolled fault k e.0 e.2 f.4 new e.4) f.7
    ∙ filled k m f.0 none f.1 f.2 f.3 ready f.4 f.5)
    rest)
    h

left_so : (fault : RebuildFault) (k : ℕ) (copied : Bitmap) (stopped new : MirrorView) → LeavesSo k copied stopped new fault → AsMany stopped new
left_so rebuild.NoMemory k copied stopped new h = left k copied stopped new h
left_so (rebuild.LogFull j) k copied stopped new h = left k copied stopped new h
left_so (rebuild.MetadataFault j) k copied stopped new h = left k h.0 stopped new h.2
left_so fault k copied stopped new h = same stopped new h

not_ready : (fault : RebuildFault) (k : ℕ) (mid new : MirrorView) → RefusesToReady k mid new fault → AsMany mid new
not_ready (rebuild.MetadataFault j) k mid new h = ⊎_elim (λ e. stopped_at k j mid new e) (λ e. stopped_admitted k j mid new e) h
not_ready rebuild.TargetFault k mid new h =
    ⊎_elim (λ f. f.fails.disks.tried.as_many ∙ gone_on mid f.mid f.stores.goes) (λ f. f.fails.disks.tried.as_many ∙ gone_on mid f.stored f.first.stores.goes) h
not_ready rebuild.NoMemory k mid new h = gone_on mid new h.first.stores.goes
not_ready fault k mid new h = absurd h

not_salvaged : (fault : RebuildFault) (k : ℕ) (old new : MirrorView) → RefusesSalvage k old new fault → AsMany old new
not_salvaged fault k old new h =
    ⊎_elim (λ at_once. same old new at_once.3)
    (λ rest.
    ⊎_elim (λ memory. same old new memory.1.unchanged)
    (λ later.
    ⊎_elim (λ e. not_ready fault k e.lowered new e.why ∙ lowered k e.none old e.lowered e.lowers)
    (λ e. left_so fault k e.3.0 e.3.1 new e.3.3 ∙ (not_salvaged_ready fault k e.2.now e.1 e.3.0 e.0 e.3.1 e.3.2 ∙ begun k old e.0 e.1 e.2))
    later)
    rest)
    h

-- ---- the command
salvaged_readied : (k : ℕ) (told : Salvaged) (old new : MirrorView) → SalvagesResynced k told old new → AsMany old new
salvaged_readied k told old new r = salvaged k told r.ready new r.salvages ∙ readied_to_salvage old r.ready r.readied

module _ {S : Type 0} (s : Ghosts S) (k : ℕ) (old new : MirrorView) (before after : S) where
  pub done_salvage : (text_of : Salvaged → List ℕ) → SalvagesArray s k old new before after text_of → AsMany old new
  done_salvage text_of h = stopped_after (SalvagesResynced k h.told old) old new (salvaged_readied k h.told old) h.done

  pub salvages_as_many : (fault : CommandFault) → RefusesToSalvage s k old new before after fault → AsMany old new
  salvages_as_many BadMember h = same old new h.0.unchanged
  salvages_as_many (Resync fault) h = not_readied_to_salvage fault old new h.refused
  salvages_as_many (Rebuild fault) h = not_salvaged fault k h.refused.ready new h.refused.refused ∙ readied_to_salvage old h.refused.ready h.refused.readied
  salvages_as_many (Stop fault) h =
      fails_after (λ mid. (told : Salvaged) × SalvagesResynced k told old mid) old new fault (λ mid r. salvaged_readied k r.0 old mid r.1) h.refused
  salvages_as_many OutputFault h = stopped_after (SalvagesResynced k h.told old) old new (salvaged_readied k h.told old) h.done
  salvages_as_many fault h = absurd h
