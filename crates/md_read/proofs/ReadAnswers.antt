-- What a read gives is the content of the array; its answers, whole.
use Rattle.std.proofs.Common.{◌≡◌, ◌∙◌, ℕ, ◌+◌, ◌*◌, ◌/◌, ◌<◌, cond, List, [], length, inl, sym, ap, arith}
use Rattle.std.specs.Prelude.{MatchResult, Result, Ok, Err}
use Rattle.std.proofs.lemmas.Option.{slice_get_within}
use Rattle.md_device.specs.Device.{held}
use Rattle.md_device.specs.Splice.{part}
use Rattle.md_device.proofs.Splices.{length-part}
use Rattle.md_model.specs.Devices.{Stored}
use Rattle.md_model.proofs.Cases.{below-nat_lt}
use Rattle.md_state.specs.Members.{IsInSync}
use Rattle.md_state.specs.Rests.{Rests}
use Rattle.md_state.specs.View.{ArrayView, MirrorView}
use Rattle.md_array.specs.Consistency.{IsConsistent}
use Rattle.md_array.proofs.StepLemmas.OneMember.{stored_there}
use Rattle.md_array.proofs.Worlds.InSync.{in_sync_there}
use Rattle.md_array.proofs.Worlds.SectorCopied.{in_sync_as, unlisted_there}
use Rattle.md_read.specs.declared.fault.UnreadFault.{UnreadFault}
use Rattle.md_read.specs.declared.fault.UnreadFault.TheVariants.{Halted, NotResynced, OutOfRange, Unreadable}
use Rattle.md_read.specs.Reading.{AreOfContent, GivesSectors, IsGivenUpTo, MayReadAt, Reads, RefusesRead}
use Rattle.md_read.proofs.RunsInTurn.{gives_rests, sector_held}
use Rattle.md_assembly.proofs.Indices.{got_within}

pub read_rests : {T : Type 0} (old new : MirrorView) (sector : ℕ) (bytes : List ℕ) (r : Result T UnreadFault) → MatchResult r (λ _. GivesSectors sector bytes old new) (λ fault. IsGivenUpTo sector bytes fault old new) → Rests old new
read_rests old new sector bytes (Ok x) gives = gives_rests sector bytes old new gives
read_rests old new sector bytes (Err (Unreadable s)) none = none.rests
read_rests old new sector bytes (Err Halted) none = absurd none
read_rests old new sector bytes (Err OutOfRange) none = absurd none
read_rests old new sector bytes (Err NotResynced) none = absurd none

module _ (old new : MirrorView) (sound : IsConsistent old) (sector : ℕ) (bytes : List ℕ) (may : MayReadAt old.array sector (length bytes / 512)) where
  abbrev a : ArrayView
  a = old.array

  -- the member that gave a sector holds the content there
  are_of_content : GivesSectors sector bytes old new → AreOfContent sector bytes old
  are_of_content gives honest requests in_flight content rest i low quiet =
      let s : ℕ = sector + i in
      let given = sector_held sector bytes old new gives i low in
      let k = given.from in
      let m = given.is.member in
      let at = given.is.at in
      let there = slice_get_within a.members k m at in
      let many = sound.fits.as_many in
      let d = got_within old.disks k (omega arith) in
      let within = may.range.inside in
      let inside : s < a.chunks.size = omega arith in
      let on : IsInSync a k m = record { member = at; in_sync = (in_sync_as given.role m.state given.is.in_sync).0 } in
      let long : length (held bytes i 512) ≡ 512 = length-part bytes (512 * i) 512 (omega arith) in
      sym (given.holds d.0 m d.1 at (honest k d.0 d.1))
      ∙ ap (held d.0.content (m.superblock.data_offset + s)) long
      ∙ sym (ap (λ b. cond b (part d.0.content (512 * (m.superblock.data_offset + s)) 512) []) (below-nat_lt s a.chunks.size inside))
      ∙ sym (ap (λ (x : Stored). x.content s) (stored_there old.disks a k m d.0 at d.1))
      ∙ rest k s inside (in_sync_there old.disks a requests k m on) (unlisted_there old sound honest requests in_flight may.running k s m on inside given.unlisted) quiet (inl may.resynced)

  pub read_answer : {T : Type 0} (r : Result T UnreadFault) → MatchResult r (λ _. GivesSectors sector bytes old new) (λ fault. IsGivenUpTo sector bytes fault old new)
      → MatchResult r (λ _. Reads sector bytes old new) (RefusesRead sector bytes old new)
  read_answer (Ok x) gives = record { may = may; rests = gives_rests sector bytes old new gives; given = gives; content = are_of_content gives }
  read_answer (Err (Unreadable s)) none = (may, none)
  read_answer (Err Halted) none = absurd none
  read_answer (Err OutOfRange) none = absurd none
  read_answer (Err NotResynced) none = absurd none
