-- A write of a superblock fails: where it left the old superblock, the new one or none, that is the model's event.
use Rattle.std.proofs.Common.{◌≡◌, ℕ, ◌*◌, inl, inr, true, Some, slice_get, Option, refl, sym, ap, ◌∙◌, subst}
use Rattle.std.proofs.lemmas.Option.{same_Some}
use Rattle.md_badblocks.specs.Runs.{IsBad}
use Rattle.md_model.specs.Steps.{GrowsTo}
use Rattle.md_model.specs.Devices.{Stored}
use Rattle.md_model.specs.Worlds.{Request}
use Rattle.md_model.specs.Failures.{LeftBySuper}
use Rattle.md_model.specs.Events.{Event, MemberPart}
use Rattle.md_model.proofs.Cases.{none_some}
use Rattle.md_array.proofs.StepLemmas.ListGrown.{grows_by}
use Rattle.md_array.specs.Consistency.{IsConsistent, HasSuper}
use Rattle.md_array.specs.Events.{HappensIfOldNewOrNone, IsOldNewOrNone}
use Rattle.md_array.specs.ReadAsKept.{HasOwnSuper}
use Rattle.md_array.specs.Steps.Record.{FailsToRecord, super_write}
use Rattle.md_array.specs.Worlds.{block_on, is_listed, stored_of, super_in, super_of, world_of, world_on, is_listed_next}
use Rattle.md_array.proofs.Worlds.Listed.{listed_kept, listed_unread, next_kept, IsLogKept}
use Rattle.md_array.proofs.StepLemmas.OneMember.{stored_there}
use Rattle.md_array.proofs.Worlds.PartsApart.{log_beside_super, parts_of, super_alone}
use Rattle.md_array.proofs.Worlds.ReadAsKept.{own_stays, own_written}
use Rattle.md_array.proofs.StepLemmas.Record.{listed_written, readable_super, super_is_for}
use Rattle.md_array.proofs.Worlds.Failed.{IsThere, does_failing, left, member_fails, there_is}
use Rattle.md_array.proofs.Worlds.InSync.{in_sync_of}
use Rattle.md_array.proofs.Worlds.Supers.{super_shown}
use Rattle.md_device.specs.Splice.{SameOutside}
use Rattle.md_assembly.specs.States.{is_in_sync}
use Rattle.md_members.specs.DeviceWrites.Writes.{Write}
use Rattle.md_kept_members.specs.View.{MemberView}
use Rattle.md_state.specs.View.{ArrayView, Disk, MirrorView}

module _ (k : ℕ) (old new : MirrorView) (c : IsConsistent old) (f : FailsToRecord k old new) where
  abbrev a : ArrayView
  a = old.array

  abbrev m : MemberView
  m = f.member

  abbrev w : Write
  w = super_write a m

  -- the log of a member in sync lists what it listed, or what was to be listed next
  module _ (t : IsThere k old.disks new.disks) (in_sync : is_in_sync m.state ≡ true) (honest : t.old.honest ≡ true) (leaves : IsOldNewOrNone w.bytes t.old t.new) (sector : ℕ) where
    log_kept : IsLogKept m.superblock t.old.content t.new.content
    log_kept =
        let outside : SameOutside (512 * 8) 4096 t.old.content t.new.content =
        subst (λ (n : ℕ). SameOutside (512 * 8) n t.old.content t.new.content) f.may.readable.size (f.fails.disks.tried.outside t.old t.new t.was t.is) in
        log_beside_super a m t.old.content t.new.content (parts_of old c k t.old m t.was f.may.at) outside

    has : HasSuper m t.old
    has = c.supers f.may.running k t.old m t.was f.may.at in_sync honest

    next_left : is_listed_next m.superblock t.new.content sector ≡ is_listed_next m.superblock t.old.content sector
    next_left = next_kept m.superblock t.old.content t.new.content log_kept sector

    lists_still : is_listed m.superblock t.old.content sector ≡ true → is_listed m.superblock t.new.content sector ≡ true
    lists_still was = elim leaves [
      | inl same ↦ listed_kept m.superblock t.old.content t.new.content log_kept sector same ∙ was
      | inr other ↦
          elim other [
            | inl next ↦ listed_written a m t.new.content f.may.readable next sector ∙ next_left ∙ has.listed sector was
            | inr none ↦ listed_unread m.superblock t.new.content none sector ∙ next_left ∙ has.listed sector was
          ]
    ]

    lists_known : is_listed m.superblock t.new.content sector ≡ true → IsBad m.bad sector
    lists_known now = has.known sector (elim leaves [
      | inl same ↦ has.listed sector (sym (listed_kept m.superblock t.old.content t.new.content log_kept sector same) ∙ now)
      | inr other ↦
          elim other [
            | inl next ↦ sym next_left ∙ sym (listed_written a m t.new.content f.may.readable next sector) ∙ now
            | inr none ↦ sym next_left ∙ sym (listed_unread m.superblock t.new.content none sector) ∙ now
          ]
    ])

  left_by_super : (requests : ℕ → Option Request) (t : IsThere k old.disks new.disks) → t.old.honest ≡ true → IsOldNewOrNone w.bytes t.old t.new
      → LeftBySuper (world_of old requests) k (left k w old new c f.fails m f.may.at requests)
  left_by_super requests t honest leaves =
      let was : (world_of old requests).stored k ≡ stored_of a m t.old.content = stored_there old.disks a k m t.old f.may.at t.was in
      let is : (world_on new.disks a requests).stored k ≡ stored_of a m t.new.content = stored_there new.disks a k m t.new f.may.at t.is in
      let outside : SameOutside (512 * 8) 4096 t.old.content t.new.content =
      subst (λ (n : ℕ). SameOutside (512 * 8) n t.old.content t.new.content) f.may.readable.size (f.fails.disks.tried.outside t.old t.new t.was t.is) in
      let super_left = ap (λ (s : Stored). s.super) is in
      record {
        rest = is ∙ super_alone a m t.old.content t.new.content (parts_of old c k t.old m t.was f.may.at) outside
            ∙ (λ i. record (sym was i) { super = sym super_left i; listed = sym (ap (λ (s : Stored). s.listed) is) i });
        listed = λ on.
            let in_sync = in_sync_of old.disks a requests k m f.may.at on in
            subst (λ (x : Stored). GrowsTo (world_of old requests) k x.listed) (sym is)
            (grows_by old.disks a requests k m t.old f.may.at t.was (is_listed m.superblock t.new.content) (lists_still t in_sync honest leaves) (lists_known t in_sync honest leaves));
        super = elim leaves [
          | inl same ↦ inl (super_left ∙ ap super_in same ∙ sym (ap (λ (s : Stored). s.super) was))
          | inr other ↦
              elim other [
                | inl next ↦ inr (inl (super_left ∙ ap super_in next ∙ readable_super a m f.may.readable ∙ ap Some (super_is_for old.disks a requests k m f.may.at)))
                | inr none ↦ inr (inr (super_left ∙ none))
              ]
        ];
      }

  -- a superblock that is read there is still the member's
  own_left : (d e : Disk) → slice_get old.disks k ≡ Some d → slice_get new.disks k ≡ Some e → IsOldNewOrNone w.bytes d e
      → HasOwnSuper a.shared m.superblock d.content → HasOwnSuper a.shared m.superblock e.content
  own_left d e was is leaves has =
      let outside : SameOutside (512 * 8) 4096 d.content e.content =
      subst (λ (n : ℕ). SameOutside (512 * 8) n d.content e.content) f.may.readable.size (f.fails.disks.tried.outside d e was is) in
      elim leaves [
        | inl same ↦ own_stays a.shared m.superblock d.content e.content same (log_beside_super a m d.content e.content (parts_of old c k d m was f.may.at) outside) has
        | inr other ↦
            elim other [
              | inl next ↦ own_written a m e.content f.may.readable next
              | inr none ↦ λ v on. absurd (none_some (super_of v) (sym none ∙ super_shown (block_on e.content) v on.fields on.sound))
            ]
      ]

  pub record_fails_happens : HappensIfOldNewOrNone k old new
  record_fails_happens n at leaves honest requests in_flight =
      let t = there_is old k m w new.disks c f.may.at f.fails.disks.tried in
      let same : n ≡ m = same_Some n m (sym at ∙ f.may.at) in
      let whole = subst (λ (x : MemberView). IsOldNewOrNone (super_write a x).bytes t.old t.new) same (leaves t.old t.new t.was t.is) in
      let by_super = left_by_super requests t (honest k t.old t.was) whole in
      does_failing k w old new c f.fails m f.may.at requests (Event.WriteFails k MemberPart.Superblock) honest (super_write a m, f.fails.disks) in_flight
      (f.may.running, (left k w old new c f.fails m f.may.at requests, by_super, member_fails k w old new c f.fails m f.may.at requests f.may.active))
      tt (λ _. refl) (λ _. refl)
      (λ d e was is. own_left d e was is (subst (λ (x : MemberView). IsOldNewOrNone (super_write a x).bytes d e) same (leaves d e was is)))
