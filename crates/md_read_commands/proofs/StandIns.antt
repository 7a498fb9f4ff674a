-- Members are asked one after another.
use Rattle.std.proofs.Common.{◌≡◌, ◌∙◌, ℕ, ◌+◌, ◌*◌, ◌<◌, ◌≤◌, Bool, true, false, List, [], Some, length, slice_get, refl, sym, subst, ap, arith}
use Rattle.std.specs.Prelude.{◌≢◌, ◌⊎◌, pos}
use Rattle.std.proofs.lemmas.Int.{ints}
use Rattle.std.proofs.lemmas.Nat.{and_assoc, and_or_apart}
use Rattle.std.proofs.lemmas.Option.{same_Some}
use Rattle.md_members.specs.Reading.{BitmapStartsAt, CallFails, RefusesSuper}
use Rattle.md_members.specs.declared.fault.MemberFault.{MemberFault}
use Rattle.md_super.specs.declared.superblock.Superblock.{Superblock}
use Rattle.md_super.specs.Profile.{IsProfile, unsupported_features}
use Rattle.md_kept_members.specs.Enrolling.{whole-supported}
use Rattle.md_kept_members.specs.TakingBack.{recovering-supported}
use Rattle.md_kept_members.specs.View.{MemberView}
use Rattle.md_device.specs.Device.{held}
use Rattle.md_device.specs.declared.device.Device.{Ghosts}
use Rattle.md_model.proofs.Puts.{by_same}
use Rattle.md_state.specs.View.{Disk, disk_of, of_disks}
use Rattle.md_read_commands.specs.Fronted.{fronted, fronted_disk, in_memory}
use Rattle.md_read_commands.specs.StandIn.{FitsOrFailed, HeaderFitsOrFailed, HeaderTells, IsLostBy, LacksSuperblock, NoneDoubts, NoneOf, doubts_device, with_entries, with_recovery}
use Rattle.md_read_commands.proofs.Fronts.{fronted_none}
use Rattle.md_read_commands.specs.declared.stand_in.fronted.FrontedDevice.{FrontedDevice}

-- one more has another number
pub none_of_more : (members : List MemberView) (number n : ℕ) (m : MemberView) → slice_get members n ≡ Some m → m.superblock.dev_number ≢ number → NoneOf members number n → NoneOf members number (n + 1)
none_of_more members number n m there other none k x low at =
    by_same k n
    (λ same. subst (λ (y : MemberView). y.superblock.dev_number ≢ number) (same_Some m x (sym there ∙ subst (λ (i : ℕ). slice_get members i ≡ Some x) same at)) other)
    (λ apart. none k x (omega arith) at)

-- and one more doubts nothing
pub none_doubts_more : (members : List MemberView) (number role n : ℕ) (m : MemberView) → slice_get members n ≡ Some m → doubts_device m.superblock m.state number role ≡ false → NoneDoubts members number role n → NoneDoubts members number role (n + 1)
none_doubts_more members number role n m there says none k x low at =
    by_same k n
    (λ same. subst (λ (y : MemberView). doubts_device y.superblock y.state number role ≡ false) (same_Some m x (sym there ∙ subst (λ (i : ℕ). slice_get members i ≡ Some x) same at)) says)
    (λ apart. none k x (omega arith) at)

-- a device of which nothing stands in memory
abbrev with_content : {D : Type 0} → Ghosts D → D → List ℕ → Disk
with_content g d content = record { content = content; honest = g.honest d; faults = g.faults d; failures = g.failures d; crashes = [] }

pub fronted_as : {D : Type 0} (g : Ghosts D) (device : D) (f : FrontedDevice D) → f.inner ≡ device → f.front.items ≡ [] → fronted_disk g f ≡ in_memory (disk_of g device)
fronted_as g device f inner front =
    ap (λ (xs : List ℕ). with_content g f.inner (fronted xs (g.content f.inner))) front
    ∙ ap (with_content g f.inner) (fronted_none (g.content f.inner))
    ∙ ap (λ d. with_content g d (g.content d)) inner

-- ---- feature maps that are supported
pub recovery_supported : (in_sync : Bool) (feature_map : ℕ) → unsupported_features feature_map ≡ 0 → unsupported_features (with_recovery in_sync feature_map) ≡ 0
recovery_supported true feature_map none = whole-supported feature_map none
recovery_supported false feature_map none = recovering-supported feature_map none

pub entries_supported : (lists : Bool) (feature_map : ℕ) → unsupported_features feature_map ≡ 0 → unsupported_features (with_entries lists feature_map) ≡ 0
entries_supported true feature_map none = and_or_apart 0xffff_fff4 feature_map 8 refl ∙ none
entries_supported false feature_map none = and_assoc 0xffff_fff4 feature_map 0xffff_fff7 ∙ none

-- in a superblock that is otherwise as it was
pub profile_of : (v : Superblock) (feature_map : ℕ) → unsupported_features feature_map ≡ 0 → IsProfile feature_map v.level v.raid_disks v.super_offset
profile_of v feature_map none = record {
  features = none;
  level_is = v.in_profile.level_is;
  some_disks = v.in_profile.some_disks;
  few_disks = v.in_profile.few_disks;
  super_offset_is = v.in_profile.super_offset_is;
}

-- ---- what can be read of its own
-- a bitmap starts in one sector
pub one_start : (v : Superblock) (a b : ℕ) → BitmapStartsAt v a → BitmapStartsAt v b → a ≡ b
one_start v a b first other =
    let same : pos a ≡ pos b = first ∙ sym other in
    omega (arith, ints)

-- what is known of that sector
pub header_fits : (freshest : Superblock) (content : List ℕ) (start before after : ℕ) → BitmapStartsAt freshest start → (512 * start + 512 ≤ length content → (before < after) ⊎ HeaderTells freshest (held content start 512)) → HeaderFitsOrFailed freshest content before after
header_fits freshest content start before after at tells other at_other inside =
    subst (λ (n : ℕ). 512 * n + 512 ≤ length content → (before < after) ⊎ HeaderTells freshest (held content n 512))
    (one_start freshest start other at at_other) tells inside

-- a superblock was not read, and what could be read of it fits
pub lacks_super : (freshest : Superblock) (number : ℕ) (may_list : Bool) (old mid after new : Disk) (fault : MemberFault) → IsLostBy fault → RefusesSuper old.content old.honest (CallFails of_disks old mid) fault → mid.content ≡ old.content → mid.honest ≡ old.honest → old.failures ≤ mid.failures
    → (512 * 9 ≤ length mid.content → mid.honest ≡ true → FitsOrFailed freshest number may_list mid.content mid.failures after.failures)
    → after.content ≡ mid.content → after.honest ≡ mid.honest → mid.failures ≤ after.failures
    → (after.honest ≡ true → HeaderFitsOrFailed freshest after.content after.failures new.failures)
    → after.failures ≤ new.failures → LacksSuperblock freshest number may_list old new
lacks_super freshest number may_list old mid after new fault is refused content honest counted front content_after honest_after counted_after header counted_new = record {
  fault = fault;
  is = is;
  mid = mid;
  refused = refused;
  after = after;
  front = λ long told.
      subst (λ (xs : List ℕ). FitsOrFailed freshest number may_list xs mid.failures after.failures) content
      (front (subst (λ (xs : List ℕ). 512 * 9 ≤ length xs) (sym content) long) (honest ∙ told));
  header = λ told.
      subst (λ (xs : List ℕ). HeaderFitsOrFailed freshest xs after.failures new.failures) (content_after ∙ content)
      (header (honest_after ∙ honest ∙ told));
  counted = (counted, counted_after, counted_new);
}
