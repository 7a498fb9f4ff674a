-- The tests of `decode` decide its faults, in their order.
use Rattle.std.proofs.Common.{◌≡◌, ◌≢◌, ℕ, ◌<◌, ◌≤◌, Bool, true, false, ◌&&◌, nat_lt, nat_le, eqb, List, Option, Some, None, refl, ◌⊎◌, inl, inr, arith}
use Rattle.std.proofs.lemmas.Bool.{eqb-true, eqb-false, cases_lt, leb-true, leb-false, ltb-true, ltb-false, and_parts}
use Rattle.md_format.specs.Fields.{number_at}
use Rattle.md_format.specs.FirstFault.{check}
use Rattle.md_format.proofs.Order.{Decides, AllDecide, decide_none, decide_more, fault_found, none_found, same_unless_other}
use Rattle.md_super.specs.declared.fault.SuperFault.{SuperFault}
use Rattle.md_super.specs.declared.fault.SuperFault.TheVariants.{Magic, Major, MaxDev, Checksum, SuperOffset, Feature, Level, RaidDisks, NoMemory}
use Rattle.md_super.specs.Checksum.{checksum_of}
use Rattle.md_super.specs.Profile.{unsupported_features}
use Rattle.md_super.specs.Faults.{SuperFaultStands, super_fault_place, NoSuperFault, IsFirstSuperFault, checks, super_fault_of, IsSoundSuper}

placed : (f : SuperFault) → 0 < super_fault_place f
placed Magic = omega arith
placed _ = omega arith

-- a test by an equation, whose fault is the only one at its place
by_equation : (bytes : List ℕ) (n a b : ℕ) (g : SuperFault) → super_fault_place g ≡ n → (a ≢ b → SuperFaultStands bytes g) → ((f : SuperFault) → super_fault_place f ≡ n → SuperFaultStands bytes f → a ≢ b) → Decides (SuperFaultStands bytes) super_fault_place n (check (eqb a b) g)
by_equation bytes n a b g at stands only = record {
  placed = at;
  sound = λ e. stands (eqb-false a b e);
  complete = λ f super_fault_place passes s. only f super_fault_place s (eqb-true a b passes);
}

only_magic : (bytes : List ℕ) (f : SuperFault) → super_fault_place f ≡ 1 → SuperFaultStands bytes f → number_at 4 0 bytes ≢ 0xa92b4efc
only_magic bytes Magic e s = s
only_magic bytes _ e s = absurd (omega arith)

only_major : (bytes : List ℕ) (f : SuperFault) → super_fault_place f ≡ 2 → SuperFaultStands bytes f → number_at 4 4 bytes ≢ 1
only_major bytes Major e s = s
only_major bytes _ e s = absurd (omega arith)

only_max_dev : (bytes : List ℕ) (f : SuperFault) → super_fault_place f ≡ 3 → SuperFaultStands bytes f → 1920 < number_at 4 220 bytes
only_max_dev bytes MaxDev e s = s
only_max_dev bytes _ e s = absurd (omega arith)

only_checksum : (bytes : List ℕ) (f : SuperFault) → super_fault_place f ≡ 4 → SuperFaultStands bytes f → number_at 4 216 bytes ≢ checksum_of bytes (number_at 4 220 bytes)
only_checksum bytes Checksum e s = s
only_checksum bytes _ e s = absurd (omega arith)

only_super_offset : (bytes : List ℕ) (f : SuperFault) → super_fault_place f ≡ 5 → SuperFaultStands bytes f → number_at 8 144 bytes ≢ 8
only_super_offset bytes SuperOffset e s = s
only_super_offset bytes _ e s = absurd (omega arith)

only_feature : (bytes : List ℕ) (f : SuperFault) → super_fault_place f ≡ 6 → SuperFaultStands bytes f → unsupported_features (number_at 4 8 bytes) ≢ 0
only_feature bytes (Feature bits) e s = λ none. absurd (omega (arith, s.0, s.1, none))
only_feature bytes _ e s = absurd (omega arith)

only_level : (bytes : List ℕ) (f : SuperFault) → super_fault_place f ≡ 7 → SuperFaultStands bytes f → number_at 4 72 bytes ≢ 1
only_level bytes Level e s = s
only_level bytes _ e s = absurd (omega arith)

only_raid_disks : (bytes : List ℕ) (f : SuperFault) → super_fault_place f ≡ 8 → SuperFaultStands bytes f → SuperFaultStands bytes RaidDisks
only_raid_disks bytes RaidDisks e s = s
only_raid_disks bytes _ e s = absurd (omega arith)

max_dev_decides : (bytes : List ℕ) → Decides (SuperFaultStands bytes) super_fault_place 3 (check (nat_le (number_at 4 220 bytes) 1920) MaxDev)
max_dev_decides bytes = record {
  placed = refl;
  sound = λ e. leb-false (number_at 4 220 bytes) 1920 e;
  complete = λ f at passes s. let many = only_max_dev bytes f at s in let few = leb-true (number_at 4 220 bytes) 1920 passes in omega arith;
}

-- which of two tests did not pass
one_fails : (a b : Bool) → (a && b) ≡ false → (a ≡ false) ⊎ (b ≡ false)
one_fails true b e = inr e
one_fails false b e = inl refl

raid_disks_decides : (bytes : List ℕ) → Decides (SuperFaultStands bytes) super_fault_place 8 (check (nat_lt 0 (number_at 4 92 bytes) && nat_le (number_at 4 92 bytes) 32) RaidDisks)
raid_disks_decides bytes = let disks = number_at 4 92 bytes in record {
  placed = refl;
  sound = λ e. elim (one_fails (nat_lt 0 disks) (nat_le disks 32) e) [
    | inl none ↦ let few = ltb-false 0 disks none in inl (omega arith)
    | inr many ↦ inr (leb-false disks 32 many)
  ];
  complete = λ f at passes s.
      let both = and_parts (nat_lt 0 disks) (nat_le disks 32) passes in
      let some = ltb-true 0 disks both.0 in
      let few = leb-true disks 32 both.1 in
      elim (only_raid_disks bytes f at s) [ inl none ↦ omega arith | inr many ↦ omega arith ];
}

all_decide : (bytes : List ℕ) → AllDecide (SuperFaultStands bytes) super_fault_place 1 (checks bytes)
all_decide bytes =
    decide_more _ _ 1 _ _ (by_equation bytes 1 _ _ Magic refl (λ n. n) (only_magic bytes))
    (decide_more _ _ 2 _ _ (by_equation bytes 2 _ _ Major refl (λ n. n) (only_major bytes))
    (decide_more _ _ 3 _ _ (max_dev_decides bytes)
    (decide_more _ _ 4 _ _ (by_equation bytes 4 _ _ Checksum refl (λ n. n) (only_checksum bytes))
    (decide_more _ _ 5 _ _ (by_equation bytes 5 _ _ SuperOffset refl (λ n. n) (only_super_offset bytes))
    (decide_more _ _ 6 _ _ (by_equation bytes 6 _ _ (Feature (unsupported_features (number_at 4 8 bytes))) refl (λ n. (refl, omega (arith, n))) (only_feature bytes))
    (decide_more _ _ 7 _ _ (by_equation bytes 7 _ _ Level refl (λ n. n) (only_level bytes))
    (decide_more _ _ 8 _ _ (raid_disks_decides bytes) (decide_none _ _ 9))))))))

pub fault_is_first : (bytes : List ℕ) (o : Option SuperFault) (f : SuperFault) → o ≡ super_fault_of bytes → o ≡ Some f → IsFirstSuperFault bytes f
unfolding super_fault_of
fault_is_first bytes o f = fault_found (SuperFaultStands bytes) super_fault_place (checks bytes) o f placed (all_decide bytes)

pub no_fault_found : (bytes : List ℕ) (o : Option SuperFault) → o ≡ super_fault_of bytes → o ≡ None → NoSuperFault bytes
unfolding super_fault_of
no_fault_found bytes o = none_found (SuperFaultStands bytes) super_fault_place (checks bytes) o placed (all_decide bytes)

pub memory_is_last : (bytes : List ℕ) (o : Option SuperFault) → o ≡ super_fault_of bytes → o ≡ None → IsFirstSuperFault bytes NoMemory
memory_is_last bytes o e none = record { stands = tt; first = no_fault_found bytes o e none }

not_above : (limit a : ℕ) → (limit < a → ⊥) → a ≤ limit
not_above limit a h = elim (cases_lt limit a) [ inl more ↦ absurd (h more) | inr few ↦ few ]

not_below : (limit a : ℕ) → (a ≤ limit → ⊥) → limit < a
not_below limit a h = elim (cases_lt limit a) [ inl more ↦ more | inr few ↦ absurd (h few) ]

-- bytes in which no fault stands can be read
pub sound_without_fault : (bytes : List ℕ) → NoSuperFault bytes → IsSoundSuper bytes
sound_without_fault bytes none = record {
  magic = same_unless_other _ _ (none Magic (omega arith));
  major_version = same_unless_other _ _ (none Major (omega arith));
  profile = record {
    features = same_unless_other _ _ (λ n. none (Feature (unsupported_features (number_at 4 8 bytes))) (omega arith) (refl, omega (arith, n)));
    level_is = same_unless_other _ _ (none Level (omega arith));
    some_disks = not_below 0 (number_at 4 92 bytes) (λ few. none RaidDisks (omega arith) (inl (omega arith)));
    few_disks = not_above 32 (number_at 4 92 bytes) (λ many. none RaidDisks (omega arith) (inr many));
    super_offset_is = same_unless_other _ _ (none SuperOffset (omega arith));
  };
  few_roles = not_above 1920 (number_at 4 220 bytes) (none MaxDev (omega arith));
}
