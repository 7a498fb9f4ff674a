-- A superblock's bytes, once the checksum is in its place.
use Rattle.std.proofs.Common.{◌≡◌, ℕ, ◌+◌, ◌-◌, ◌*◌, ◌^◌, ◌<◌, ◌≤◌, List, ◌++◌, length, take, drop, replicate, refl, sym, subst, ap, ◌∙◌, inl, inr, arith}
use Rattle.std.proofs.lemmas.List.{drop_at, take_at, length-append, length-replicate, take-append-le}
use Rattle.std.specs.List.{flat_map}
use Rattle.byteorder.specs.Endian.{little_bytes}
use Rattle.md_format.specs.Fields.{number_at}
use Rattle.md_super.specs.Checksum.{checksum_of}
use Rattle.md_super.specs.Encoding.{head_bytes, shape_bytes, bitmap_offset_bytes, reshape_bytes, place_bytes, log_field_bytes, state_bytes, front_bytes, back_bytes, bytes_with, super_bytes}
use Rattle.md_super.specs.Faults.{SuperFaultStands, super_fault_place, NoSuperFault}
use Rattle.md_super.specs.Fits.{TextsFit, FrontFits, RolesFit}
use Rattle.md_super.specs.Format.{IsSuper}
use Rattle.md_super.specs.Profile.{unsupported_features}
use Rattle.md_super.specs.declared.fault.SuperFault.{SuperFault}
use Rattle.md_super.specs.declared.fault.SuperFault.TheVariants.{Magic, Major, MaxDev, Checksum, SuperOffset, Feature, Level, RaidDisks, NoMemory}
use Rattle.md_super.specs.declared.superblock.Superblock.{Superblock}
use Rattle.md_super.proofs.Encoded.{reads_back}
use Rattle.md_super.proofs.RoleLists.{length-flat_map_two, length-roles_in}
use Rattle.md_super.proofs.SameSum.{same_checksum}

length-ten : (a b c d e f g h i j : List ℕ) →
    length (a ++ b ++ c ++ d ++ e ++ f ++ g ++ h ++ i ++ j)
    ≡ length a + length b + length c + length d + length e + length f + length g + length h + length i + length j
length-ten a b c d e f g h i j = simp length-append

length-front_bytes : (v : Superblock) → TextsFit v → length (front_bytes v) ≡ 216
unfolding front_bytes head_bytes shape_bytes bitmap_offset_bytes reshape_bytes place_bytes log_field_bytes state_bytes
length-front_bytes v fit =
    length-ten (head_bytes v) v.set_uuid v.set_name (shape_bytes v) (bitmap_offset_bytes v) (reshape_bytes v) (place_bytes v) v.device_uuid (log_field_bytes v) (state_bytes v)
    ∙ rw (fit.set_uuid, fit.set_name, fit.device_uuid) refl

length-back_bytes : (roles : List ℕ) → length roles ≤ 1920 → length (back_bytes roles) ≡ 3876
unfolding back_bytes
length-back_bytes roles few =
    let front = little_bytes 4 (length roles) ++ replicate 32 0 in
    let pairs = flat_map (little_bytes 2) roles in
    omega (arith, length-append (front ++ pairs) (replicate (3840 - 2 * length roles) 0), length-append front pairs, length-flat_map_two roles, length-replicate {A = ℕ} (3840 - 2 * length roles) 0, few)

length-bytes_with : (total : ℕ) (v : Superblock) → TextsFit v → length v.roles ≤ 1920 → length (bytes_with total v) ≡ 4096
unfolding bytes_with
length-bytes_with total v fit few =
    let front = front_bytes v in
    let sum = little_bytes 4 total in
    omega (arith, length-append (front ++ sum) (back_bytes v.roles), length-append front sum, length-front_bytes v fit, length-back_bytes v.roles few)

-- a superblock has 4096 bytes
pub length-super_bytes : (v : Superblock) → TextsFit v → length v.roles ≤ 1920 → length (super_bytes v) ≡ 4096
unfolding super_bytes
length-super_bytes v = length-bytes_with (checksum_of (bytes_with 0 v) (length v.roles)) v

front_of : (front a back : List ℕ) → length front ≡ 216 → take 216 (front ++ a ++ back) ≡ front
front_of front a back long =
    take-append-le 216 (front ++ a) back (omega (arith, length-append front a, long)) ∙ take_at front a 216 long

back_of : (front a back : List ℕ) → length front ≡ 216 → length a ≡ 4 → drop 220 (front ++ a ++ back) ≡ back
back_of front a back front_long long = drop_at (front ++ a) back 220 (omega (arith, length-append front a, front_long, long))

-- the bytes with one number in the checksum's place, and another put there
pub replaced : (v : Superblock) (old new : ℕ) (plain out : List ℕ) → FrontFits v → plain ≡ bytes_with old v → out ≡ take 216 plain ++ little_bytes 4 new ++ drop 220 plain → out ≡ bytes_with new v
unfolding bytes_with
replaced v old new plain out fit is written =
    let front = length-front_bytes v fit.texts in
    let before : take 216 plain ≡ front_bytes v = rw is (front_of (front_bytes v) (little_bytes 4 old) (back_bytes v.roles) front) in
    let behind : drop 220 plain ≡ back_bytes v.roles = rw is (back_of (front_bytes v) (little_bytes 4 old) (back_bytes v.roles) front refl) in
    rw (before, behind) at written

-- the checksum is put in its place
pub sealed : (v : Superblock) (total : ℕ) (plain out : List ℕ) → FrontFits v → plain ≡ bytes_with 0 v → total ≡ checksum_of plain (length v.roles) → out ≡ take 216 plain ++ little_bytes 4 total ++ drop 220 plain → out ≡ super_bytes v
unfolding super_bytes
sealed v total plain out fit is total_is written =
    let sum : total ≡ checksum_of (bytes_with 0 v) (length v.roles) = total_is ∙ ap (λ (xs : List ℕ). checksum_of xs (length v.roles)) is in
    rw (← sum) (replaced v 0 total plain out fit is written)

checksum_fits : (bytes : List ℕ) (max_dev : ℕ) → checksum_of bytes max_dev < 2 ^ 32
unfolding checksum_of
checksum_fits bytes max_dev = omega arith

checksum_kept : (v : Superblock) (total : ℕ) → FrontFits v → checksum_of (bytes_with 0 v) (length v.roles) ≡ checksum_of (bytes_with total v) (length v.roles)
unfolding bytes_with
checksum_kept v total fit = same_checksum (front_bytes v) (back_bytes v.roles) (little_bytes 4 0) (little_bytes 4 total) (length-front_bytes v fit.texts) refl refl (length v.roles)

-- what is sealed reads back, but for its checksum, which is right
pub sealed_reads_back : (v : Superblock) → FrontFits v → RolesFit v.roles → length v.roles ≤ 1920 →
    IsSuper (super_bytes v) (record v { sb_csum = checksum_of (super_bytes v) (length v.roles) })
unfolding super_bytes
sealed_reads_back v fit roles_fit few =
    let total = checksum_of (bytes_with 0 v) (length v.roles) in
    let P : ℕ → Type 0 = λ x. IsSuper (bytes_with total v) (record v { sb_csum = x }) in
    subst P (checksum_kept v total fit) (reads_back total v fit roles_fit few (checksum_fits (bytes_with 0 v) (length v.roles)))

faultless : (bytes : List ℕ) (v : Superblock) → IsSuper bytes v → number_at 4 220 bytes ≡ length v.roles → v.sb_csum ≡ checksum_of bytes (length v.roles) → length v.roles ≤ 1920 →
    (f : SuperFault) → super_fault_place f < 9 → SuperFaultStands bytes f → ⊥
faultless bytes v is max_dev sum few Magic before s = s is.magic
faultless bytes v is max_dev sum few Major before s = s is.major_version
faultless bytes v is max_dev sum few MaxDev before s = omega (arith, max_dev, few, s)
faultless bytes v is max_dev sum few Checksum before s = s (rw max_dev (sym is.sb_csum ∙ sum))
faultless bytes v is max_dev sum few SuperOffset before s = s (sym is.super_offset ∙ v.in_profile.super_offset_is)
faultless bytes v is max_dev sum few (Feature bits) before s =
    let none : unsupported_features (number_at 4 8 bytes) ≡ 0 = rw (← is.feature_map) v.in_profile.features in
    omega (arith, s.0, s.1, none)
faultless bytes v is max_dev sum few Level before s = s (sym is.level ∙ v.in_profile.level_is)
faultless bytes v is max_dev sum few RaidDisks before s =
    let some = v.in_profile.some_disks in
    let most = v.in_profile.few_disks in
    elim s [ inl none ↦ omega (arith, is.raid_disks, some, none) | inr many ↦ omega (arith, is.raid_disks, most, many) ]
faultless bytes v is max_dev sum few NoMemory before s = omega (arith, before)

-- bytes that spell a superblock, with their checksum, have no fault
pub no_fault_in : (bytes : List ℕ) (v : Superblock) → IsSuper bytes v → v.sb_csum ≡ checksum_of bytes (length v.roles) → length v.roles ≤ 1920 → NoSuperFault bytes
no_fault_in bytes v is sum few =
    let max_dev = sym (ap length is.roles ∙ length-roles_in (number_at 4 220 bytes) bytes) in
    faultless bytes v is max_dev sum few
