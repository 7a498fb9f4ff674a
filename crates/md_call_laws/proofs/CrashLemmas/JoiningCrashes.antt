-- What a crash leaves within `add` and `re_add`, before they are done.
use Rattle.std.proofs.Common.{◌≡◌, ◌∙◌, ◌⊎◌, inl, inr, ℕ, ◌+◌, ◌*◌, ◌≤◌, eqb, false, drop, take, take-take, List, [], ◌∷◌, ◌++◌, length, slice_get, Some, None, refl, sym, ap, subst, arith}
use Rattle.std.proofs.lemmas.Bool.{eqb-true}
use Rattle.std.proofs.lemmas.List.{length-map, length-replicate, length_push, map-append}
use Rattle.std.proofs.lemmas.Option.{none-some, same_Some, slice_get_within}
use Rattle.md_create.specs.Layout.{wipe}
use Rattle.md_device.specs.Crashes.{IsMixed}
use Rattle.md_device.specs.Splice.{part}
use Rattle.md_format.specs.Fields.{number_at}
use Rattle.md_format.proofs.Places.{little_from-part}
use Rattle.md_model.specs.Devices.{Stored}
use Rattle.md_model.specs.Events.{Event}
use Rattle.md_model.proofs.Cases.{by_test}
use Rattle.md_model.proofs.Puts.{by_same}
use Rattle.md_super.specs.Faults.{super_fault_of}
use Rattle.md_super.specs.declared.fault.SuperFault.TheVariants.{Magic}
use Rattle.md_members.specs.DeviceWrites.Writes.{IsCutShort}
use Rattle.md_state.specs.DiskWrites.{AtDevice}
use Rattle.md_state.specs.View.{Disk, MirrorView}
use Rattle.md_array.specs.Steps.Add.{add_event}
use Rattle.md_array.specs.Steps.ReAdd.{ReAdds, re_add_event}
use Rattle.md_array.specs.Worlds.{block_on, super_in}
use Rattle.md_array.proofs.General.Appended.{got_beside, got_last}
use Rattle.md_array.proofs.General.Indices.{got_in_map}
use Rattle.md_array.proofs.StepLemmas.OneMember.{stored_there}
use Rattle.md_laws.specs.Left.{contents_of}
use Rattle.md_laws.specs.Runs.{MirrorRun, Moment}
use Rattle.md_laws.specs.ReadAfterCrashes.{EndsInFirstSector, ReadsAs}
use Rattle.md_laws.specs.CrashesWithin.{IsLeftBut, IsLeftFailing}
use Rattle.md_laws.proofs.Openings.OpenedFrom.{super_was}
use Rattle.md_laws.proofs.Openings.Opened as opening
use Rattle.md_laws.proofs.Runs.CallRuns.{add_is_a_call, call_is_run, re_add_is_a_call}
use Rattle.md_laws.proofs.Runs.Moments.{life_keeps, sound_when_opened}
use Rattle.md_laws.proofs.Crashes.AtSteps.{same_lists}
use Rattle.md_laws.proofs.Crashes.FirstSector.{cut_reads}
use Rattle.md_laws.proofs.Crashes.ReadAs.{reads_at_add, reads_at_re_add}
use Rattle.md_laws.proofs.Crashes.WithinAdd.{crashes_at_failed_add, crashes_at_refused_add}
use Rattle.md_laws.proofs.Crashes.WithinReAdd.{crashes_at_failed_re_add, crashes_at_refused_re_add}
use Rattle.md_assembly.proofs.Indices.{got_within}
use Rattle.md_call_laws.specs.Crashes.JoiningCrashes.{HasOtherMagic, IsGivenOrNone, IsLeftBeside, NoneIsOpened, CrashesInAdd, CrashesInFailedAdd, CrashesInFailedReAdd, CrashesInReAdd, CrashesInRefusedAdd, CrashesInRefusedReAdd}

-- ---- the mirror's devices, and the one behind them
-- what stands on the last one
last_left : (disks : List Disk) (was : Disk) (left : List Disk) (P : List ℕ → List ℕ → Type 0) → IsLeftBut (length disks) P (disks ++ was ∷ []) (contents_of left)
    → (c : List ℕ) × (slice_get (contents_of left) (length disks) ≡ Some c)
last_left disks was left P but = let many = but.as_many in let long = length_push disks was in got_within (contents_of left) (length disks) (omega arith)

module _ (disks : List Disk) (was : Disk) (left : List Disk) (P : List ℕ → List ℕ → Type 0) (but : IsLeftBut (length disks) P (disks ++ was ∷ []) (contents_of left))
    (c : List ℕ) (there : slice_get (contents_of left) (length disks) ≡ Some c) where
  abbrev now : Disk
  now = record was { content = c }

  as_listed : contents_of left ≡ contents_of (disks ++ now ∷ [])
  as_listed =
      let all = disks ++ now ∷ [] in
      let content : Disk → List ℕ = λ d. d.content in
      same_lists (contents_of all) (contents_of left) (but.as_many ∙ length_push disks was ∙ sym (length_push disks now) ∙ sym (length-map all content))
      (λ j x y at is. by_same j (length disks)
      (λ here.
      same_Some y c (sym is ∙ ap (slice_get (contents_of left)) here ∙ there)
      ∙ sym (same_Some x c (sym at ∙ ap (slice_get (contents_of all)) here ∙ got_in_map content all (length disks) now (got_last disks now))))
      (λ apart.
      let inside = slice_get_within (contents_of left) j y is in
      let many = but.as_many in
      let b = got_within (disks ++ was ∷ []) j (omega arith) in
      but.others j apart b.0 y b.1 is
      ∙ sym (same_Some x b.0.content (sym at ∙ got_in_map content all j b.0 (got_beside disks was now j apart ∙ b.1)))))

  beside_are : contents_of left ≡ contents_of disks ++ c ∷ []
  beside_are = as_listed ∙ map-append (λ (d : Disk). d.content) disks (now ∷ [])

leaves_beside : (t : Moment) (device : Disk) (left : List Disk) (P : List ℕ → List ℕ → Type 0) → IsLeftBut (length t.mirror.disks) P (t.mirror.disks ++ device ∷ []) (contents_of left)
    → IsLeftBeside t left (P device.content)
leaves_beside t device left P but =
    let disks = t.mirror.disks in
    let c = last_left disks device left P but in
    record {
      beside = c.0;
      are = beside_are disks device left P but c.0 c.1;
      is_left = inl refl;
      stands = but.this device c.0 (got_last disks device) c.1;
    }

-- more is known of what stands there
beside_more : (t : Moment) (left : List Disk) (P Q : List ℕ → Type 0) → ((c : List ℕ) → P c → Q c) → IsLeftBeside t left P → IsLeftBeside t left Q
beside_more t left P Q more l = record { beside = l.beside; are = l.are; is_left = l.is_left; stands = more l.beside l.stands }

-- ---- zeros are no superblock
abbrev zeros : List ℕ
zeros = wipe.bytes

no_magic : number_at 4 0 zeros ≡ 0
unfolding number_at
no_magic = refl

zero_is_none : ◌≡◌ {A = ℕ} 0 0xa92b4efc → ⊥
zero_is_none at = omega (arith, at)

no_roles : number_at 4 220 zeros ≡ 0
unfolding number_at
no_roles = refl

refused : super_fault_of zeros ≡ Some Magic
unfolding super_fault_of
refused = rw no_magic refl

none_in_zeros : super_in zeros ≡ None
unfolding super_in
none_in_zeros = rw refused refl

zeros_short : EndsInFirstSector zeros
zeros_short = let none = no_roles in omega arith

-- ---- another magic number is none
magic_first : (bytes : List ℕ) → number_at 4 0 (take 512 bytes) ≡ number_at 4 0 bytes
unfolding number_at
magic_first bytes = little_from-part 4 0 0 512 bytes (omega arith)

refused_by_magic : (block : List ℕ) → eqb (number_at 4 0 block) 0xa92b4efc ≡ false → super_fault_of block ≡ Some Magic
unfolding super_fault_of
refused_by_magic block off = rw off refl

none_of_fault : (block : List ℕ) → super_fault_of block ≡ Some Magic → super_in block ≡ None
unfolding super_in
none_of_fault block is = rw is refl

none_by_magic : (block : List ℕ) → HasOtherMagic block → super_in block ≡ None
none_by_magic block other = none_of_fault block (refused_by_magic block
    (by_test (eqb (number_at 4 0 block) 0xa92b4efc) (λ at. absurd (other (eqb-true (number_at 4 0 block) 0xa92b4efc at))) (λ off. off)))

first_part : (bytes : List ℕ) → part bytes (512 * 0) 512 ≡ take 512 bytes
unfolding part
first_part bytes = refl

first_sector : (content : List ℕ) → take 512 (block_on content) ≡ part content (512 * 8) 512
unfolding part
first_sector content = take-take 512 4096 (drop 4096 content) (omega arith)

-- the magic number of what stands in the superblock's place is that of its first sector
magic_on : (c : List ℕ) → number_at 4 0 (block_on c) ≡ number_at 4 0 (part c (512 * 8) 512)
magic_on c = sym (magic_first (block_on c)) ∙ ap (number_at 4 0) (first_sector c)

-- ---- a device that comes in
module _ (device : Disk) (room : 512 * 8 + 4096 ≤ length device.content) where
  wiped_short : EndsInFirstSector (block_on device.content) → (c : List ℕ) → IsMixed 8 zeros device.content c → IsGivenOrNone device c
  wiped_short ends c mixed =
      let cut : IsCutShort device.content (record { sector = 8; bytes = zeros } ∷ []) c = record { done = []; rest = record { sector = 8; bytes = zeros } ∷ []; order = refl; mixed = mixed } in
      elim (cut_reads device.content c zeros (length-replicate {A = ℕ} 4096 0) room ends zeros_short cut) [
        | inl was ↦ inl was
        | inr none ↦ inr (none.decoded ∙ none_in_zeros)
      ]

  wiped_other : HasOtherMagic (block_on device.content) → (c : List ℕ) → IsMixed 8 zeros device.content c → super_in (block_on c) ≡ None
  wiped_other other c mixed = none_by_magic (block_on c) (elim (mixed.each 0 (let long = length-replicate {A = ℕ} 4096 0 in omega arith)) [
    | inl old ↦ λ at. other (magic_on device.content ∙ ap (number_at 4 0) (sym old) ∙ sym (magic_on c) ∙ at)
    | inr new ↦ λ at. zero_is_none (sym no_magic ∙ sym (magic_first zeros) ∙ ap (number_at 4 0) (sym (first_part zeros)) ∙ ap (number_at 4 0) (sym new) ∙ sym (magic_on c) ∙ at)
  ])

  wiped : EndsInFirstSector (block_on device.content) ⊎ HasOtherMagic (block_on device.content) → (c : List ℕ) → IsMixed 8 zeros device.content c → IsGivenOrNone device c
  wiped stood c mixed = elim stood [ inl ends ↦ wiped_short ends c mixed | inr other ↦ inr (wiped_other other c mixed) ]

-- an event that was done
module _ (t : Moment) (e : Event) (new : MirrorView) (reaches : (last : Moment) × MirrorRun t (e ∷ []) last × ((last.mirror ≡ new) × (last.requests ≡ t.requests))) where
  abbrev then : Moment
  then = record reaches.0 { mirror = new; requests = t.requests }

  run : MirrorRun t (e ∷ []) then
  run = subst (MirrorRun t (e ∷ [])) (λ i. record reaches.0 { mirror = reaches.2.0 i; requests = reaches.2.1 i }) reaches.1

pub crashes_in_add : CrashesInAdd
crashes_in_add before m start events rest final t life k device new honest r old new_ends left within =
    let at = life_keeps m events rest final t (sound_when_opened before m start.honest start.opened) life in
    let e = add_event k device t.mirror new r in
    let leads = add_is_a_call k device t.mirror new at.sound honest r None t.requests at.in_flight in
    let reaches = call_is_run (e ∷ []) None t new t.requests leads at.honest (tt, tt) in
    let fits = r.may.long in
    elim (reads_at_add k device t.mirror new (contents_of left) honest r new_ends within) [
      | inl done ↦ inl (record { at = then t e new reaches; run = run t e new reaches; is_left = inl done })
      | inr but ↦
          inr (beside_more t left _ (IsGivenOrNone device)
          (λ c stands. elim stands [ inl mixed ↦ wiped device (omega arith) old c mixed | inr none ↦ inr (ap super_in none.0 ∙ none_in_zeros) ])
          (leaves_beside t device left _ but))
    ]

-- ---- a device that comes back
-- it stands last, and what was left of it is this
taken : (t : Moment) (device : Disk) (new : MirrorView) (left : List Disk) (k : ℕ) (r : ReAdds k device t.mirror new) (c : List ℕ) → contents_of left ≡ contents_of t.mirror.disks ++ c ∷ []
    → ReadsAs (block_on c) (block_on r.recorded.now.content) → AtDevice (length t.mirror.disks) new.disks left (λ now e. ReadsAs (block_on e.content) (block_on now.content))
taken t device new left k r c are reads now e is at =
    let n = length t.mirror.disks in
    let now_is : r.recorded.now ≡ now = same_Some r.recorded.now now (sym (got_last t.mirror.disks r.recorded.now) ∙ sym (ap (λ (xs : List Disk). slice_get xs n) r.recorded.disks) ∙ is) in
    let last : slice_get (contents_of left) n ≡ Some c =
    ap (λ (xs : List (List ℕ)). slice_get xs n) are
    ∙ ap (slice_get (contents_of t.mirror.disks ++ c ∷ [])) (sym (length-map t.mirror.disks (λ (d : Disk). d.content)))
    ∙ got_last (contents_of t.mirror.disks) c in
    let bytes : c ≡ e.content = same_Some c e.content (sym last ∙ got_in_map (λ (d : Disk). d.content) left n e at) in
    subst (λ (x : Disk). ReadsAs (block_on e.content) (block_on x.content)) now_is (subst (λ (b : List ℕ). ReadsAs (block_on b) (block_on r.recorded.now.content)) bytes reads)

pub crashes_in_re_add : CrashesInReAdd
crashes_in_re_add before m start events rest final t life k device new honest r old_ends new_ends left within =
    let at = life_keeps m events rest final t (sound_when_opened before m start.honest start.opened) life in
    let e = re_add_event k device t.mirror new r in
    let leads = re_add_is_a_call k device t.mirror new at.sound honest r None t.requests at.in_flight in
    let reaches = call_is_run (e ∷ []) None t new t.requests leads at.honest (tt, tt) in
    let but = reads_at_re_add k device t.mirror new (contents_of left) at.honest honest r old_ends new_ends within in
    let l = leaves_beside t device left _ but in
    elim l.stands [
      | inl was ↦ inr (record { beside = l.beside; are = l.are; is_left = l.is_left; stands = was })
      | inr now ↦ inl (record {
        at = then t e new reaches;
        run = run t e new reaches;
        is_left = inr (inr (inr (inr (inr (inl (record {
          on = k;
          device = device;
          before = t.mirror;
          call = r;
          honest = honest;
          within = within;
          reads = taken t device new left k r l.beside l.are now;
        }))))));
      })
    ]

-- ---- where they are not done
pub crashes_in_failed_add : CrashesInFailedAdd
crashes_in_failed_add t device given new honest f left within =
    leaves_beside t device left (IsLeftFailing f.fails.writes.done f.fails.writes.tried) (crashes_at_failed_add device given t.mirror new (contents_of left) honest f within)

pub crashes_in_failed_re_add : CrashesInFailedReAdd
crashes_in_failed_re_add t device given new honest f left within = leaves_beside t device left _ (crashes_at_failed_re_add device given t.mirror new (contents_of left) honest f within)

pub crashes_in_refused_add : CrashesInRefusedAdd
crashes_in_refused_add t device given new fault other refused left within = record {
  beside = device.content;
  are = crashes_at_refused_add device given t.mirror new (contents_of left) fault other refused within ∙ map-append (λ (d : Disk). d.content) t.mirror.disks (device ∷ []);
  is_left = inl refl;
  stands = refl;
}

pub crashes_in_refused_re_add : CrashesInRefusedReAdd
crashes_in_refused_re_add t device given new fault other honest refused left within =
    leaves_beside t device left (λ was c. c ≡ was) (crashes_at_refused_re_add device given t.mirror new (contents_of left) fault other honest refused within)

-- ---- an opening reads a superblock of each device
pub none_is_opened : NoneIsOpened
none_is_opened before m honest o j d at none =
    let low = slice_get_within before j d at in
    let read_many = o.array.read.as_many in
    let members_many = o.array.remembered.as_many in
    let n = got_within m.array.members j (omega arith) in
    let x = (opening.opened before m honest o).members.filled j (slice_get_within m.array.members j n.0 n.1) in
    none-some x.0 (sym none ∙ sym (ap (λ (s : Stored). s.super) (stored_there before m.array j n.0 d n.1 at)) ∙ super_was before m honest o j x.0 x.1)
