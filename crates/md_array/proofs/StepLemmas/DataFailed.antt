-- A write of a request's bytes to a member fails: that is the model's event, whatever it left of their sectors.
use Rattle.std.proofs.Common.{◌≡◌, ℕ, ◌+◌, ◌*◌, Option, refl, sym, ap, ◌∙◌, subst}
use Rattle.md_device.specs.Splice.{SameOutside}
use Rattle.md_model.specs.Devices.{Stored}
use Rattle.md_model.specs.Worlds.{Request}
use Rattle.md_model.specs.Failures.{LeftByData}
use Rattle.md_model.specs.Events.{Event, MemberPart}
use Rattle.md_members.specs.DeviceWrites.Writes.{Write}
use Rattle.md_inflight.specs.Requests.Pending.{PendingView, request_sectors}
use Rattle.md_kept_members.specs.View.{MemberView}
use Rattle.md_state.specs.View.{ArrayView, MirrorView}
use Rattle.md_state.specs.Requests.{IsPending, among, request_of}
use Rattle.md_state.specs.Members.{IsMember}
use Rattle.md_state.specs.Steps.WriteMember.{FailsToWrite, data_write}
use Rattle.md_array.specs.Consistency.{IsConsistent}
use Rattle.md_array.specs.Events.{Does, HappensAmong}
use Rattle.md_array.specs.Worlds.{stored_of, world_of, world_on}
use Rattle.md_array.proofs.StepLemmas.WriteMember.{may_write}
use Rattle.md_array.proofs.StepLemmas.InFlight.{among_in_flight, inside_of, not_touched, whole_of}
use Rattle.md_array.proofs.StepLemmas.OneMember.{stored_there}
use Rattle.md_array.proofs.Worlds.PartsApart.{block_beside_data, data_alone, data_elsewhere, log_beside_data, parts_of}
use Rattle.md_array.proofs.Worlds.ReadAsKept.{own_stays}
use Rattle.md_array.proofs.Worlds.Failed.{IsThere, does_failing, left, member_fails, there_is}
use Rattle.md_array.proofs.Worlds.States.{in_sync_recorded}

module _ (k : ℕ) (old new : MirrorView) (p q : PendingView) (c : IsConsistent old) (pending : IsPending old.array p) (f : FailsToWrite k old new p q) where
  abbrev a : ArrayView
  a = old.array

  abbrev m : MemberView
  m = f.member

  abbrev w : Write
  w = data_write m p

  abbrev at : IsMember a k m
  at = f.may.intent.in_sync.member

  left_by_data : (others : ℕ → Option Request) (t : IsThere k old.disks new.disks)
      → LeftByData (world_of old (among p others)) k (request_of p) (left k w old new c f.fails m at (among p others))
  left_by_data others t =
      let requests = among p others in
      let was : (world_of old requests).stored k ≡ stored_of a m t.old.content = stored_there old.disks a k m t.old at t.was in
      let is : (world_on new.disks a requests).stored k ≡ stored_of a m t.new.content = stored_there new.disks a k m t.new at t.is in
      let has = parts_of old c k t.old m t.was at in
      let inside = inside_of old p c pending in
      let outside : SameOutside (512 * (m.superblock.data_offset + p.sector)) (512 * request_sectors p) t.old.content t.new.content =
      subst (λ (n : ℕ). SameOutside (512 * w.sector) n t.old.content t.new.content) (whole_of a p pending) (f.fails.disks.tried.outside t.old t.new t.was t.is) in
      let content_is = ap (λ (s : Stored). s.content) is in
      record {
        rest = is ∙ data_alone a m t.old.content t.new.content has p.sector (request_sectors p) inside outside ∙ (λ i. record (sym was i) { content = sym content_is i });
        outside = λ s away. ap (λ (x : Stored). x.content s) is
            ∙ data_elsewhere a m t.old.content t.new.content has p.sector (request_sectors p) inside outside s (not_touched (request_of p) s away)
            ∙ sym (ap (λ (x : Stored). x.content s) was);
      }

  -- the request is as it was
  pub write_member_fails_happens : HappensAmong old p (Event.WriteFails k (MemberPart.RequestData p.ticket.number)) new q
  write_member_fails_happens honest others in_flight =
      let requests = among p others in
      let e = Event.WriteFails k (MemberPart.RequestData p.ticket.number) in
      let t = there_is old k m w new.disks c at f.fails.disks.tried in
      let fails = member_fails k w old new c f.fails m at requests (in_sync_recorded m.state f.may.intent.in_sync.in_sync) in
      subst (λ (x : PendingView). Does old requests e new (among x others)) (sym f.pending)
      (does_failing k w old new c f.fails m at requests e honest (w, f.fails.disks) (among_in_flight a p pending others in_flight)
      (f.may.intent.running, (left k w old new c f.fails m at requests, (request_of p, may_write k old p c pending m f.may others, left_by_data others t), fails))
      tt (λ _. refl) (λ _. refl)
      (λ d e was is.
      let parts = parts_of old c k d m was at in
      let inside = inside_of old p c pending in
      let outside = subst (λ (n : ℕ). SameOutside (512 * w.sector) n d.content e.content) (whole_of a p pending) (f.fails.disks.tried.outside d e was is) in
      own_stays a.shared m.superblock d.content e.content
      (block_beside_data a m d.content e.content parts p.sector (request_sectors p) inside outside)
      (log_beside_data a m d.content e.content parts p.sector (request_sectors p) inside outside)))
