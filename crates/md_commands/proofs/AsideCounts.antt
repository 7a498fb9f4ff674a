-- The resync before a salvage wins and loses no device.
use Rattle.std.proofs.Common.{◌≡◌, ◌∙◌, ⊎_elim, ℕ, List, [], ◌∷◌, length, None, ap}
use Rattle.md_state.specs.View.{MirrorView}
use Rattle.md_metadata.specs.Going.{GoesOn, HaltsAfter, only_others}
use Rattle.md_metadata.specs.Storing.{IsRecording, StoringFails}
use Rattle.md_metadata.specs.StoringLists.{IsListing, ListFails}
use Rattle.md_metadata.specs.declared.fault.PartFault.{PartFault}
use Rattle.md_metadata.specs.declared.fault.PartFault.TheVariants as part
use Rattle.md_model.specs.Events.{Event}
use Rattle.md_resync.specs.declared.fault.ResyncFault.{ResyncFault}
use Rattle.md_commands.specs.SettingAside.{EndsUnread, FailsAside, FailsAsideOn, FailsToStoreFitting, RefusesSalvageResync, RegardsUngiven, ResyncsToSalvage, SetsAside, SetsAsideAfter, SetsAsideOn, StoresIfFitting}
use Rattle.md_commands.proofs.DeviceCounts.{AsMany, KeepsMembers, halts, led, none_in_flight, not_readied, nothing, readied, same}

recording_keeps : KeepsMembers IsRecording
recording_keeps = record { removes = λ k of. of; adds = λ d left of. of; re_adds = λ own offset device left of. of; enrols = λ k role listed of. of }

listing_keeps : (j : ℕ) → KeepsMembers (IsListing j)
listing_keeps j = record { removes = λ k of. of; adds = λ d left of. of; re_adds = λ own offset device left of. of; enrols = λ k role listed of. of }

module _ (IsOf : Event → Type 0) (keeps : KeepsMembers IsOf) where
  gone : (old new : MirrorView) → GoesOn only_others only_others IsOf old new → AsMany old new
  gone old new g = led IsOf keeps g.events None old new nothing nothing g.steps (g.leads None nothing (none_in_flight old.array))

  halted : (old new : MirrorView) → HaltsAfter only_others only_others IsOf old new → AsMany old new
  halted old new h = halts h.failing h.mid new nothing (h.halts nothing) ∙ gone old h.mid h.goes

-- ---- one list is stored
not_recorded : (why : PartFault) (old new : MirrorView) → StoringFails IsRecording old new why → AsMany old new
not_recorded part.Halted old new h = halted IsRecording recording_keeps old new h.halts
not_recorded (part.MemberFailed k) old new h = gone IsRecording recording_keeps old new h.loses.goes

not_listed : (k : ℕ) (why : PartFault) (old new : MirrorView) → ListFails k old new why → AsMany old new
not_listed k part.Halted old new h = halted (IsListing k) (listing_keeps k) old new h.halts
not_listed k (part.MemberFailed j) old new h = gone (IsListing k) (listing_keeps k) old new h.1.loses.goes

fitting : (k : ℕ) (old new : MirrorView) → StoresIfFitting k old new → AsMany old new
fitting k old new h =
    ⊎_elim
    (λ s. gone (IsListing k) (listing_keeps k) s.1.recorded new s.1.stores.goes ∙ gone IsRecording recording_keeps old s.1.recorded s.1.records.stores.goes)
    (λ is. same old new is.1)
    h

not_fitting : (k : ℕ) (fault : ResyncFault) (old new : MirrorView) → FailsToStoreFitting k old new fault → AsMany old new
not_fitting k fault old new h =
    ⊎_elim (λ r. not_recorded h.0 old new r) (λ r. not_listed k h.0 r.0 new r.2 ∙ gone IsRecording recording_keeps old r.0 r.1.stores.goes) h.2

-- ---- member after member
regarded : (k : ℕ) (old new : MirrorView) → RegardsUngiven k old new → AsMany old new
regarded k old new r = ap length r.regards.disks ∙ r.rests.disks.same.as_many

aside_on : (k : ℕ) (old new : MirrorView) → SetsAsideOn k old new → AsMany old new
aside_on k old new h = ⊎_elim (λ r. r.disks.same.as_many) (λ l. fitting k l.regarded new l.stores ∙ regarded k old l.regarded l.regards) h

not_aside_on : (k : ℕ) (fault : ResyncFault) (old new : MirrorView) → FailsAsideOn k old new fault → AsMany old new
not_aside_on k fault old new h = ⊎_elim (λ m. m.1.disks.same.as_many) (λ r. not_fitting k fault r.0 new r.2 ∙ regarded k old r.0 r.1) h

aside : (ks : List ℕ) (old new : MirrorView) → SetsAside ks old new → AsMany old new
aside [] old new h = same old new h
aside (k ∷ ks) old new h = aside ks h.0 new h.2 ∙ aside_on k old h.0 h.1

not_aside : (fault : ResyncFault) (old new : MirrorView) → FailsAside old new fault → AsMany old new
not_aside fault old new h = not_aside_on h.member fault h.begun new h.fails ∙ aside h.members old h.begun h.sets

-- ---- the resync
unread : (old new : MirrorView) → EndsUnread old new → AsMany old new
unread old new e = not_readied e.fault old new e.refused

aside_after : (old new : MirrorView) → SetsAsideAfter old new → AsMany old new
aside_after old new a = aside a.members a.ended new a.sets ∙ unread old a.ended a.unread

pub readied_to_salvage : (old new : MirrorView) → ResyncsToSalvage old new → AsMany old new
readied_to_salvage old new h = ⊎_elim (λ r. readied old new r) (λ r. readied r.0 new r.2 ∙ aside_after old r.0 r.1) h

pub not_readied_to_salvage : (fault : ResyncFault) (old new : MirrorView) → RefusesSalvageResync old new fault → AsMany old new
not_readied_to_salvage fault old new h =
    ⊎_elim (λ r. not_readied fault old new r.1)
    (λ rest.
    ⊎_elim (λ e. not_aside fault e.0 new e.2 ∙ unread old e.0 e.1) (λ s. not_readied fault s.0 new s.2 ∙ aside_after old s.0 s.1) rest)
    h
