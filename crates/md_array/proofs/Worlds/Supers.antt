-- A superblock that was read is the one that the world shows.
use Rattle.std.proofs.Common.{◌≡◌, ℕ, true, not, bit_and, List, slice_index_or, ◌==◌, Some, None, refl, sym, ap, subst, arith, eq-eqb, le-leb, lt-ltb}
use Rattle.md_format.specs.Fields.{number_at}
use Rattle.md_format.proofs.Order.{same_unless_other}
use Rattle.md_super.specs.declared.superblock.Superblock.{Superblock}
use Rattle.md_super.specs.declared.fault.SuperFault.TheVariants.{Checksum}
use Rattle.md_super.specs.Checksum.{checksum_of}
use Rattle.md_super.specs.Profile.{unsupported_features}
use Rattle.md_super.specs.Faults.{NoSuperFault, super_fault_of}
use Rattle.md_super.specs.Format.{IsSuper}
use Rattle.md_super.proofs.Order.{sound_without_fault}
use Rattle.md_members.specs.Reading.{ReadsSuper}
use Rattle.md_array.specs.Worlds.{super_of, super_of_block, super_in, block_on}

no_fault : (block : List ℕ) → NoSuperFault block → super_fault_of block ≡ None
unfolding super_fault_of
no_fault block none =
    let s = sound_without_fault block none in
    let sum : number_at 4 216 block ≡ checksum_of block (number_at 4 220 block) = same_unless_other _ _ (none Checksum (omega arith)) in
    rw (
      eq-eqb (number_at 4 0 block) 0xa92b4efc s.magic,
      eq-eqb (number_at 4 4 block) 1 s.major_version,
      le-leb (number_at 4 220 block) 1920 s.few_roles,
      eq-eqb (number_at 4 216 block) (checksum_of block (number_at 4 220 block)) sum,
      eq-eqb (number_at 8 144 block) 8 s.profile.super_offset_is,
      eq-eqb (unsupported_features (number_at 4 8 block)) 0 s.profile.features,
      eq-eqb (number_at 4 72 block) 1 s.profile.level_is,
      lt-ltb 0 (number_at 4 92 block) s.profile.some_disks,
      le-leb (number_at 4 92 block) 32 s.profile.few_disks,
    ) refl

same_fields : (block : List ℕ) (v : Superblock) → IsSuper block v → super_of_block block ≡ super_of v
same_fields block v f =
    λ i. record {
      number = sym f.dev_number i;
      events = sym f.events i;
      role = λ d. slice_index_or (sym f.roles i) d 0xffff;
      recovering = not (bit_and (sym f.feature_map i) 2 == 0);
      offset = sym f.recovery_offset i;
    }

pub super_shown : (block : List ℕ) (v : Superblock) → IsSuper block v → NoSuperFault block → super_in block ≡ Some (super_of v)
unfolding super_in
super_shown block v fields sound = rw (no_fault block sound) (ap Some (same_fields block v fields))

-- the superblock on an honest device
pub block_spells : (content : List ℕ) (v : Superblock) → ReadsSuper content true v → IsSuper (block_on content) v
block_spells content v r = subst (λ (bytes : List ℕ). IsSuper bytes v) (r.read.from_device refl) r.fields

pub device_super : (content : List ℕ) (v : Superblock) → ReadsSuper content true v → super_in (block_on content) ≡ Some (super_of v)
device_super content v r = super_shown (block_on content) v (block_spells content v r) (subst (λ (bytes : List ℕ). NoSuperFault bytes) (r.read.from_device refl) r.sound)
