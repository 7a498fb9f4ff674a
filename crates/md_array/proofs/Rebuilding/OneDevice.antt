-- What one device of a member that is rebuilt holds changes, and nothing in memory: the mirror stays consistent, and so its world.
use Rattle.std.proofs.Common.{◌≡◌, ◌≢◌, ℕ, inl, inr, Bool, true, true≢false, List, length, slice_get, Option, Some, None, refl, sym, ap, ◌∙◌, subst, arith}
use Rattle.std.proofs.lemmas.Bool.{cases_lt}
use Rattle.std.proofs.lemmas.Option.{same_Some, slice_get_past, slice_get_within}
use Rattle.md_assembly.proofs.Indices.{got_within}
use Rattle.md_assembly.specs.States.{is_in_sync}
use Rattle.md_kept_members.specs.View.{MemberView}
use Rattle.md_model.proofs.Puts.{by_same, put-hit, put-miss}
use Rattle.md_model.proofs.Steps.Between.{between_step, in_flight_step}
use Rattle.md_model.specs.Devices.{Stored}
use Rattle.md_model.specs.Events.{Event, Step}
use Rattle.md_model.specs.Runs.{failed_after}
use Rattle.md_model.specs.Sectors.{put}
use Rattle.md_model.specs.Steps.{with_device}
use Rattle.md_model.specs.Worlds.{Request}
use Rattle.md_state.specs.DiskWrites.{AtDevice, IsTried}
use Rattle.md_state.specs.Members.{IsMember}
use Rattle.md_state.specs.Missing.{is_rebuilt}
use Rattle.md_state.specs.Requests.{AreInFlight}
use Rattle.md_state.specs.View.{ArrayView, Disk, MirrorView, geometry_of}
use Rattle.md_members.specs.DeviceWrites.Writes.{Write}
use Rattle.md_array.specs.Consistency.{IsConsistent}
use Rattle.md_array.specs.Events.{Does, IsChangedAlone, KeepsLists, WritesOnce}
use Rattle.md_array.specs.ReadAsKept.{AreReadAsKept, IsReadAsKept, misread_after}
use Rattle.md_array.specs.Worlds.{AreHonest, stored_of, stored_on, world_of, world_on}
use Rattle.md_array.proofs.StepLemmas.Lend.{same_super, unrebuilt}
use Rattle.md_array.proofs.StepLemmas.OneMember.{fits_like, like_itself}
use Rattle.md_array.proofs.Worlds.ReadAsKept.{IsTheSameBut}

-- no device but k holds anything else
pub record IsOnlyAt (k : ℕ) (before after : List Disk) : Type 0 where
  pub as_many : length after ≡ length before
  pub honest : (j : ℕ) → AtDevice j before after (λ d e. e.honest ≡ d.honest)
  pub size : AtDevice k before after (λ d e. length e.content ≡ length d.content)
  pub others : (j : ℕ) → j ≢ k → AtDevice j before after (λ d e. e.content ≡ d.content)

pub changed_only : (k : ℕ) (Related : List ℕ → List ℕ → Type 0) (before after : List Disk) → IsChangedAlone k Related before after → IsOnlyAt k before after
changed_only k Related before after is = record {
  as_many = is.as_many;
  honest = λ j d e was now. by_same j k
      (λ here. (is.stays d e (sym (ap (slice_get before) here) ∙ was) (sym (ap (slice_get after) here) ∙ now)).honest)
      (λ apart. (is.others j apart d e was now).0.honest);
  size = is.size;
  others = λ j apart d e was now. (is.others j apart d e was now).1.0;
}

pub tried_only : (k : ℕ) (w : Write) (before after : List Disk) → IsTried k w before after → IsOnlyAt k before after
tried_only k w before after is =
    let same : (j : ℕ) → j ≢ k → (d e : Disk) → slice_get before j ≡ Some d → slice_get after j ≡ Some e → e ≡ d =
    λ j apart d e was now. same_Some e d (sym now ∙ is.others j apart ∙ was) in
    record {
      as_many = is.as_many;
      honest = λ j d e was now. by_same j k
          (λ here. (is.stays d e (sym (ap (slice_get before) here) ∙ was) (sym (ap (slice_get after) here) ∙ now)).honest)
          (λ apart. ap (λ (x : Disk). x.honest) (same j apart d e was now));
      size = λ d e was now. (is.outside d e was now).size;
      others = λ j apart d e was now. ap (λ (x : Disk). x.content) (same j apart d e was now);
    }

stored_same : (a : ArrayView) (o : Option MemberView) (d e : Disk) → e.content ≡ d.content → stored_on a o (Some e) ≡ stored_on a o (Some d)
stored_same a None d e same = refl
stored_same a (Some m) d e same = ap (stored_of a m) same

module _ (k : ℕ) (m : MemberView) (old new : MirrorView) (c : IsConsistent old) (at : IsMember old.array k m) (rebuilt : is_rebuilt m.state ≡ true)
    (array : new.array ≡ old.array) (only : IsOnlyAt k old.disks new.disks) where
  abbrev a : ArrayView
  a = old.array

  was : (j : ℕ) (e : Disk) → slice_get new.disks j ≡ Some e → (d : Disk) × (slice_get old.disks j ≡ Some d)
  was j e is =
      let low = slice_get_within new.disks j e is in
      let many = only.as_many in
      got_within old.disks j (omega arith)

  pub only_honest : AreHonest old.disks → AreHonest new.disks
  only_honest honest j e is = let d = was j e is in only.honest j d.0 e d.1 is ∙ honest j d.0 d.1

  long_at : (j : ℕ) (d e : Disk) → slice_get old.disks j ≡ Some d → slice_get new.disks j ≡ Some e → length e.content ≡ length d.content
  long_at j d e before after = by_same j k
      (λ here. only.size d e (sym (ap (slice_get old.disks) here) ∙ before) (sym (ap (slice_get new.disks) here) ∙ after))
      (λ apart. ap (λ (x : List ℕ). length x) (only.others j apart d e before after))

  -- ---- the mirror
  pub only_is_consistent : IsConsistent new
  only_is_consistent =
      subst (λ (x : ArrayView). IsConsistent (record { disks = new.disks; array = x })) (sym array)
      (record {
        fits = record {
          as_many = only.as_many ∙ c.fits.as_many;
          each = λ j e n at_disk at_member.
              let d = was j e at_disk in
              fits_like a a n n d.0 e refl (like_itself n) (long_at j d.0 e d.1 at_disk) (c.fits.each j d.0 n d.1 at_member);
        };
        roles = c.roles;
        chunks = c.chunks;
        inside = c.inside;
        supers = λ running j e n at_disk at_member in_sync honest.
            let d = was j e at_disk in
            by_same j k
            (λ here.
            let same : n ≡ m = same_Some n m (sym at_member ∙ ap (slice_get a.members) here ∙ at) in
            absurd (true≢false (sym rebuilt ∙ unrebuilt m.state (sym (ap (λ (x : MemberView). is_in_sync x.state) same) ∙ in_sync))))
            (λ apart. same_super n d.0 e (only.others j apart d.0 e d.1 at_disk) (c.supers running j d.0 n d.1 at_member in_sync (sym (only.honest j d.0 e d.1 at_disk) ∙ honest)));
      })

  pub only_read : (failed_at : ℕ) (spoiled then : ℕ → Bool) → IsTheSameBut k spoiled then
      → AtDevice k old.disks new.disks (λ d e. IsReadAsKept a m failed_at (spoiled k) d.content → IsReadAsKept a m failed_at (then k) e.content)
      → AreReadAsKept old failed_at spoiled → AreReadAsKept new failed_at then
  only_read failed_at spoiled then others keeps are j e n at_disk at_member =
      let d = was j e at_disk in
      let there : IsMember a j n = subst (λ (x : ArrayView). IsMember x j n) array at_member in
      let had = are j d.0 n d.1 there in
      subst (λ (x : ArrayView). IsReadAsKept x n failed_at (then j) e.content) (sym array)
      (by_same j k
      (λ here.
      let same : n ≡ m = same_Some n m (sym there ∙ ap (slice_get a.members) here ∙ at) in
      let at_k : IsReadAsKept a m failed_at (spoiled k) d.0.content =
      subst (λ (i : ℕ). IsReadAsKept a m failed_at (spoiled i) d.0.content) here (subst (λ (x : MemberView). IsReadAsKept a x failed_at (spoiled j) d.0.content) same had) in
      subst (λ (x : MemberView). IsReadAsKept a x failed_at (then j) e.content) (sym same)
      (subst (λ (i : ℕ). IsReadAsKept a m failed_at (then i) e.content) (sym here)
      (keeps d.0 e (sym (ap (slice_get old.disks) here) ∙ d.1) (sym (ap (slice_get new.disks) here) ∙ at_disk) at_k)))
      (λ apart. subst (λ (x : List ℕ). IsReadAsKept a n failed_at (then j) x) (sym (only.others j apart d.0 e d.1 at_disk))
      (subst (λ (b : Bool). IsReadAsKept a n failed_at b d.0.content) (sym (others j apart)) had)))

  -- ---- its world
  module _ (requests : ℕ → Option Request) where
    abbrev pub only_left : Stored
    only_left = (world_on new.disks a requests).stored k

    elsewhere : (j : ℕ) → j ≢ k → stored_on a (slice_get a.members j) (slice_get new.disks j) ≡ stored_on a (slice_get a.members j) (slice_get old.disks j)
    elsewhere j apart =
        let many = only.as_many in
        elim (cases_lt j (length old.disks)) [
          | inl low ↦
              let d = got_within old.disks j low in
              let e = got_within new.disks j (omega arith) in
              ap (stored_on a (slice_get a.members j)) e.1 ∙ stored_same a (slice_get a.members j) d.0 e.0 (only.others j apart d.0 e.0 d.1 e.1) ∙ sym (ap (stored_on a (slice_get a.members j)) d.1)
          | inr past ↦ ap (stored_on a (slice_get a.members j)) (slice_get_past new.disks j (omega arith) ∙ sym (slice_get_past old.disks j past))
        ]

    stored_at : (j : ℕ) → stored_on a (slice_get a.members j) (slice_get new.disks j) ≡ put k only_left (λ j. stored_on a (slice_get a.members j) (slice_get old.disks j)) j
    stored_at j = by_same j k
        (λ same. ap (λ n. stored_on a (slice_get a.members n) (slice_get new.disks n)) same
        ∙ sym (ap (put k only_left (λ j. stored_on a (slice_get a.members j) (slice_get old.disks j))) same ∙ put-hit k only_left (λ j. stored_on a (slice_get a.members j) (slice_get old.disks j))))
        (λ apart. elsewhere j apart ∙ sym (put-miss k only_left (λ j. stored_on a (slice_get a.members j) (slice_get old.disks j)) j apart))

    pub only_world : world_of new requests ≡ with_device (world_of old requests) k only_left
    only_world = ap (λ (x : ArrayView). world_on new.disks x requests) array ∙ (λ i. record (world_on old.disks a requests) { stored = λ j. stored_at j i })

    pub only_does : (e : Event) → AreHonest old.disks → WritesOnce e old.disks new.disks → AreInFlight a requests
        → Step (geometry_of a) (world_of old requests) e (world_of new requests) → KeepsLists e (world_of old requests) (world_of new requests)
        → ((failed_at : ℕ) → failed_after e (world_of new requests) failed_at ≡ failed_at)
        → ((spoiled : ℕ → Bool) → IsTheSameBut k spoiled (misread_after e a (world_of old requests) spoiled))
        → ((failed_at : ℕ) (spoiled : ℕ → Bool) → AtDevice k old.disks new.disks
        (λ d n. IsReadAsKept a m failed_at (spoiled k) d.content → IsReadAsKept a m failed_at (misread_after e a (world_of old requests) spoiled k) n.content))
        → Does old requests e new requests
    only_does e honest writes in_flight step lists after others keeps = record {
      honest = only_honest honest;
      writes = writes;
      in_flight = subst (λ (x : ArrayView). AreInFlight x requests) (sym array) in_flight;
      geometry = ap geometry_of array;
      step = step;
      content = λ x y holds becomes. between_step (geometry_of a) (world_of old requests) e (world_of new requests) x y step becomes holds;
      written = in_flight_step (geometry_of a) (world_of old requests) e (world_of new requests) step;
      sound = only_is_consistent;
      lists = lists;
      read = λ failed_at spoiled are.
          let then = misread_after e a (world_of old requests) spoiled in
          subst (λ n. AreReadAsKept new n then) (sym (after failed_at)) (only_read failed_at spoiled then (others spoiled) (keeps failed_at spoiled) are);
    }
