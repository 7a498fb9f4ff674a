-- A superblock that ends within its first sector is read by that sector.
use Rattle.std.proofs.Common.{◌≡◌, ℕ, zero, suc, ◌+◌, ◌-◌, ◌*◌, ◌%◌, ◌<◌, ◌≤◌, ◌⊎◌, inl, inr, ◌==◌, ◌&&◌, cond, not, bit_and, nat_le, nat_lt, slice_index_or, List, [], ◌∷◌, length, take, drop, map, sum, Some, None, refl, sym, ap, ap₂, ◌∙◌, subst, arith, take-take}
use Rattle.std.specs.Int.{w32, cast_signed}
use Rattle.std.specs.List.{range_with_len}
use Rattle.std.proofs.lemmas.List.{drop-take}
use Rattle.md_device.specs.Splice.{part}
use Rattle.md_device.proofs.Splices.{part-spliced}
use Rattle.md_format.specs.Fields.{bytes_at, number_at}
use Rattle.md_format.specs.FirstFault.{check, first_fault}
use Rattle.md_format.proofs.Places.{little_from-part}
use Rattle.md_model.proofs.Cases.{by_option}
use Rattle.md_members.specs.DeviceWrites.Writes.{IsCutShort}
use Rattle.md_members.proofs.DeviceWriteLemmas.Runs.{cut_one}
use Rattle.md_super.specs.declared.fault.SuperFault.{SuperFault}
use Rattle.md_super.specs.declared.fault.SuperFault.TheVariants.{Magic, Major, MaxDev, Checksum, SuperOffset, Feature, Level, RaidDisks, NoMemory}
use Rattle.md_super.specs.declared.superblock.Superblock.{Superblock}
use Rattle.md_super.specs.Checksum.{checksum_of, folded, word_at, word_count, word_sum}
use Rattle.md_super.specs.Faults.{NoSuperFault, SuperFaultStands, super_fault_of}
use Rattle.md_super.specs.Format.{IsSuper, roles_in}
use Rattle.md_super.specs.Profile.{unsupported_features}
use Rattle.md_array.specs.Worlds.{block_on, super_of_block, super_in}
use Rattle.md_laws.specs.ReadAfterCrashes.{EndsInFirstSector, ReadsAs}

pub reads_same : (one other : List ℕ) → one ≡ other → ReadsAs one other
reads_same one other same = record { decoded = ap super_in same; map = ap (number_at 4 8) same; read = λ v is sound. (subst (λ (b : List ℕ). IsSuper b v) same is, subst NoSuperFault same sound) }

first_part : (bytes : List ℕ) → part bytes (512 * 0) 512 ≡ take 512 bytes
unfolding part
first_part bytes = refl

first_sector : (content : List ℕ) → take 512 (block_on content) ≡ part content (512 * 8) 512
unfolding part
first_sector content = take-take 512 4096 (drop 4096 content) (omega arith)

-- functions that are the same over a range
same_over : {X : Type 0} (f g : ℕ → X) (a n : ℕ) → ((i : ℕ) → a ≤ i → i < a + n → f i ≡ g i) → map f (range_with_len a n) ≡ map g (range_with_len a n)
same_over f g a zero same = refl
same_over f g a (suc n) same =
    let first = same a (omega arith) (omega arith) in
    let rest = same_over f g (a + 1) n (λ i low high. same i (omega arith) (omega arith)) in
    λ i. first i ∷ rest i

-- a block without a fault, and one with a fault
decodes : (block : List ℕ) → super_fault_of block ≡ None → super_in block ≡ Some (super_of_block block)
unfolding super_in
decodes block none = rw none refl

refuses : (block : List ℕ) (f : SuperFault) → super_fault_of block ≡ Some f → super_in block ≡ None
unfolding super_in
refuses block f is = rw is refl

module _ (one other : List ℕ) (same : take 512 one ≡ take 512 other) where
  first_number : (n i : ℕ) → i + n ≤ 512 → (bytes : List ℕ) → number_at n i (take 512 bytes) ≡ number_at n i bytes
  unfolding number_at
  first_number n i within bytes =
      let there : 0 + i ≡ i = omega arith in
      subst (λ (j : ℕ). number_at n i (take 512 bytes) ≡ number_at n j bytes) there (little_from-part n 0 i 512 bytes within)

  number : (n i : ℕ) → i + n ≤ 512 → number_at n i one ≡ number_at n i other
  number n i within = sym (first_number n i within one) ∙ ap (number_at n i) same ∙ first_number n i within other

  first_bytes : (n i : ℕ) → i + n ≤ 512 → (bytes : List ℕ) → bytes_at n i (take (i + (512 - i)) bytes) ≡ bytes_at n i bytes
  unfolding bytes_at
  first_bytes n i within bytes = ap (take n) (drop-take i (512 - i) bytes) ∙ take-take n (512 - i) (drop i bytes) (omega arith)

  bytes : (n i : ℕ) → i + n ≤ 512 → bytes_at n i one ≡ bytes_at n i other
  bytes n i within =
      let whole : i + (512 - i) ≡ 512 = omega arith in
      sym (first_bytes n i within one) ∙ ap (λ (m : ℕ). bytes_at n i (take m one)) whole ∙ ap (bytes_at n i) same ∙ ap (λ (m : ℕ). bytes_at n i (take m other)) (sym whole) ∙ first_bytes n i within other

  module _ (ends : EndsInFirstSector other) where
    count : number_at 4 220 one ≡ number_at 4 220 other
    count = number 4 220 (omega arith)

    roles : roles_in (number_at 4 220 one) one ≡ roles_in (number_at 4 220 other) other
    unfolding roles_in
    roles = ap (λ (n : ℕ). map (λ i. number_at 2 (256 + 2 * i) one) (range_with_len 0 n)) count
        ∙ same_over (λ i. number_at 2 (256 + 2 * i) one) (λ i. number_at 2 (256 + 2 * i) other) 0 (number_at 4 220 other) (λ i low high. number 2 (256 + 2 * i) (omega arith))

    word : (k : ℕ) → 4 * k + 4 ≤ 512 → word_at one k ≡ word_at other k
    word k within = ap (λ (x : ℕ). cond (k == 54) 0 x) (number 4 (4 * k) within)

    checksum : checksum_of one (number_at 4 220 one) ≡ checksum_of other (number_at 4 220 other)
    unfolding checksum_of word_sum
    checksum =
        let n = number_at 4 220 other in
        ap (checksum_of one) count
        ∙ ap₂ (λ (x y : ℕ). folded (x + y))
        (ap sum (same_over (word_at one) (word_at other) 0 (word_count n) (λ k low high. word k (omega arith))))
        (ap (λ (x : ℕ). cond (n % 2 == 1) x 0) (number 2 (256 + 2 * (n - 1)) (omega arith)))

    fault : super_fault_of one ≡ super_fault_of other
    unfolding super_fault_of
    fault =
        let features = number 4 8 (omega arith) in
        let disks = number 4 92 (omega arith) in
        let magic = number 4 0 (omega arith) in
        let major = number 4 4 (omega arith) in
        let sum_there = number 4 216 (omega arith) in
        let place = number 8 144 (omega arith) in
        let level = number 4 72 (omega arith) in
        λ i. first_fault (check (magic i == 0xa92b4efc) Magic
        ∷ check (major i == 1) Major
        ∷ check (nat_le (count i) 1920) MaxDev
        ∷ check (sum_there i == checksum i) Checksum
        ∷ check (place i == 8) SuperOffset
        ∷ check (unsupported_features (features i) == 0) (Feature (unsupported_features (features i)))
        ∷ check (level i == 1) Level
        ∷ check (nat_lt 0 (disks i) && nat_le (disks i) 32) RaidDisks
        ∷ [])

    fields : super_of_block one ≡ super_of_block other
    fields =
        let own = number 4 160 (omega arith) in
        let events = number 8 200 (omega arith) in
        let map_there = number 4 8 (omega arith) in
        let offset = number 8 152 (omega arith) in
        λ i. record { number = own i; events = events i; role = λ d. slice_index_or (roles i) d 0xffff; recovering = not (bit_and (map_there i) 2 == 0); offset = offset i }

    decoded : super_in one ≡ super_in other
    decoded = by_option (super_fault_of other)
        (λ none. decodes one (fault ∙ none) ∙ ap Some fields ∙ sym (decodes other none))
        (λ f is. refuses one f (fault ∙ is) ∙ sym (refuses other f is))

    stands : (f : SuperFault) → SuperFaultStands other f → SuperFaultStands one f
    stands Magic h = λ e. h (sym (number 4 0 (omega arith)) ∙ e)
    stands Major h = λ e. h (sym (number 4 4 (omega arith)) ∙ e)
    stands MaxDev h = subst (λ (n : ℕ). 1920 < n) (sym count) h
    stands Checksum h = λ e. h (sym (number 4 216 (omega arith)) ∙ e ∙ checksum)
    stands SuperOffset h = λ e. h (sym (number 8 144 (omega arith)) ∙ e)
    stands (Feature bits) h = (h.0 ∙ ap unsupported_features (sym (number 4 8 (omega arith))), h.1)
    stands Level h = λ e. h (sym (number 4 72 (omega arith)) ∙ e)
    stands RaidDisks h = subst (λ (n : ℕ). (n ≡ 0) ⊎ (32 < n)) (sym (number 4 92 (omega arith))) h
    stands NoMemory h = h

    spelled : (v : Superblock) → IsSuper one v → IsSuper other v
    spelled v f = record {
      magic = sym (number 4 0 (omega arith)) ∙ f.magic;
      major_version = sym (number 4 4 (omega arith)) ∙ f.major_version;
      feature_map = f.feature_map ∙ number 4 8 (omega arith);
      set_uuid = f.set_uuid ∙ bytes 16 16 (omega arith);
      set_name = f.set_name ∙ bytes 32 32 (omega arith);
      ctime = f.ctime ∙ number 8 64 (omega arith);
      level = f.level ∙ number 4 72 (omega arith);
      layout = f.layout ∙ number 4 76 (omega arith);
      size = f.size ∙ number 8 80 (omega arith);
      chunksize = f.chunksize ∙ number 4 88 (omega arith);
      raid_disks = f.raid_disks ∙ number 4 92 (omega arith);
      bitmap_offset = f.bitmap_offset ∙ ap (cast_signed w32) (number 4 96 (omega arith));
      new_level = f.new_level ∙ number 4 100 (omega arith);
      reshape_position = f.reshape_position ∙ number 8 104 (omega arith);
      delta_disks = f.delta_disks ∙ number 4 112 (omega arith);
      new_layout = f.new_layout ∙ number 4 116 (omega arith);
      new_chunk = f.new_chunk ∙ number 4 120 (omega arith);
      new_offset = f.new_offset ∙ number 4 124 (omega arith);
      data_offset = f.data_offset ∙ number 8 128 (omega arith);
      data_size = f.data_size ∙ number 8 136 (omega arith);
      super_offset = f.super_offset ∙ number 8 144 (omega arith);
      recovery_offset = f.recovery_offset ∙ number 8 152 (omega arith);
      dev_number = f.dev_number ∙ number 4 160 (omega arith);
      cnt_corrected_read = f.cnt_corrected_read ∙ number 4 164 (omega arith);
      device_uuid = f.device_uuid ∙ bytes 16 168 (omega arith);
      devflags = f.devflags ∙ number 1 184 (omega arith);
      bblog_shift = f.bblog_shift ∙ number 1 185 (omega arith);
      bblog_size = f.bblog_size ∙ number 2 186 (omega arith);
      bblog_offset = f.bblog_offset ∙ ap (cast_signed w32) (number 4 188 (omega arith));
      utime = f.utime ∙ number 8 192 (omega arith);
      events = f.events ∙ number 8 200 (omega arith);
      resync_offset = f.resync_offset ∙ number 8 208 (omega arith);
      sb_csum = f.sb_csum ∙ number 4 216 (omega arith);
      roles = f.roles ∙ roles;
    }

    reads_first : ReadsAs one other
    reads_first = record { decoded = decoded; map = number 4 8 (omega arith); read = λ v is sound. (spelled v is, λ f low found. sound f low (stands f found)) }

-- where the write of one is cut short, it reads as before or as written
pub cut_reads : (was left bytes : List ℕ) → length bytes ≡ 4096 → 512 * 8 + 4096 ≤ length was → EndsInFirstSector (block_on was) → EndsInFirstSector bytes
    → IsCutShort was (record { sector = 8; bytes = bytes } ∷ []) left → ReadsAs (block_on left) (block_on was) ⊎ ReadsAs (block_on left) bytes
cut_reads was left bytes size room old_ends new_ends cut =
    elim (cut_one was left (record { sector = 8; bytes = bytes }) cut) [
      | inl done ↦ inr (reads_same (block_on left) bytes (ap block_on done ∙ part-spliced was (512 * 8) bytes 4096 (sym size) (omega arith)))
      | inr mixed ↦ elim (mixed.each 0 (omega arith)) [
        | inl old ↦ inl (reads_first (block_on left) (block_on was) (first_sector left ∙ old ∙ sym (first_sector was)) old_ends)
        | inr new ↦ inr (reads_first (block_on left) bytes (first_sector left ∙ new ∙ first_part bytes) new_ends)
      ]
    ]
