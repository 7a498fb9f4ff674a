-- A superblock that ends within its first sector is written over zeros: the write is done or is not.
use Rattle.std.proofs.Common.{◌≡◌, ◌⊎◌, ℕ, zero, suc, ◌+◌, ◌-◌, ◌*◌, ◌/◌, ◌%◌, ◌<◌, ◌≤◌, inl, inr, List, [], ◌∷◌, ◌++◌, append_assoc, drop, length, replicate, slice_index, take, ap, sym, ◌∙◌, subst, arith}
use Rattle.std.specs.Int.{bytes_low_first}
use Rattle.std.specs.List.{flat_map}
use Rattle.std.proofs.Math.Seq.{drop-append-add}
use Rattle.std.proofs.lemmas.List.{drop-replicate, ext_get_or, length-append, length-replicate, take-replicate}
use Rattle.md_device.specs.Splice.{SameOutside, part, spliced}
use Rattle.md_device.specs.Device.{held, written}
use Rattle.md_device.specs.Crashes.{IsMixed}
use Rattle.md_device.proofs.Leaving.{in_three, three_same}
use Rattle.md_device.proofs.Splices.{length-part, part-spliced, part_before, part_part, slice_index-part, spliced_outside}
use Rattle.md_super.specs.declared.superblock.Superblock.{Superblock}
use Rattle.md_super.specs.Checksum.{checksum_of}
use Rattle.md_super.specs.Encoding.{back_bytes, bytes_with, front_bytes, super_bytes}
use Rattle.md_create.specs.declared.params.NewMember.{NewMember}
use Rattle.md_create.specs.Layout.{KeepsOthers, empty_log, others_of, bitmap_sectors_of, super_write_of, wipe, writes_of}
use Rattle.md_create.proofs.Laid.{bitmap_keeps, few_sectors, keeps_then, log_keeps, super_keeps}
use Rattle.md_members.specs.DeviceWrites.Writes.{after}
use Rattle.md_members.proofs.DeviceWriteLemmas.Frames.{outside_around}
use Rattle.md_members.proofs.DeviceWriteLemmas.Runs.{after-append}
use Rattle.md_members.proofs.DeviceWriteLemmas.Stored.{stored_all}

-- lists of as many sectors, each of which is the same
same_sectors : (n : ℕ) (xs ys : List ℕ) → length xs ≡ 512 * n → length ys ≡ 512 * n → ((i : ℕ) → i < n → part xs (512 * i) 512 ≡ part ys (512 * i) 512) → xs ≡ ys
same_sectors n xs ys long other each =
    ext_get_or 0 xs ys (long ∙ sym other) (λ k below.
    let place : 512 * (k / 512) + k % 512 ≡ k = omega arith in
    ap (slice_index xs) (sym place)
    ∙ sym (slice_index-part xs (512 * (k / 512)) 512 (k % 512) (omega arith))
    ∙ ap (λ (b : List ℕ). slice_index b (k % 512)) (each (k / 512) (omega (arith, below, long)))
    ∙ slice_index-part ys (512 * (k / 512)) 512 (k % 512) (omega arith)
    ∙ ap (slice_index ys) place)

-- ---- a write that changes nothing behind its first sector is done or is not
module _ (sector n : ℕ) (bytes old left : List ℕ) (some : 0 < n) (long : length bytes ≡ 512 * n) (room : 512 * sector + 512 * n ≤ length old)
    (behind : (i : ℕ) → 0 < i → i < n → held bytes i 512 ≡ held old (sector + i) 512) (mixed : IsMixed sector bytes old left) where
  outside : SameOutside (512 * sector) (512 * n) old left
  outside = subst (λ (m : ℕ). SameOutside (512 * sector) m old left) long mixed.outside

  in_range : (xs : List ℕ) (i : ℕ) → i < n → part (held xs sector (512 * n)) (512 * i) 512 ≡ held xs (sector + i) 512
  in_range xs i below =
      let place : 512 * sector + 512 * i ≡ 512 * (sector + i) = omega arith in
      part_part xs (512 * sector) (512 * n) (512 * i) 512 (omega arith) ∙ ap (λ (p : ℕ). part xs p 512) place

  long_left : length (held left sector (512 * n)) ≡ 512 * n
  long_left = length-part left (512 * sector) (512 * n) (omega (arith, outside.size))

  later : (i : ℕ) → 0 < i → i < n → held left (sector + i) 512 ≡ held old (sector + i) 512
  later i above below = elim (mixed.each i (omega (arith, long))) [
    | inl same ↦ same
    | inr new ↦ new ∙ behind i above below
  ]

  undone : held left (sector + 0) 512 ≡ held old (sector + 0) 512 → left ≡ old
  undone first =
      three_same (512 * sector) (512 * n) old left outside (held old sector (512 * n))
      (same_sectors n (held left sector (512 * n)) (held old sector (512 * n)) long_left (length-part old (512 * sector) (512 * n) room)
      (λ i below. in_range left i below ∙ every i below ∙ sym (in_range old i below)))
      ∙ sym (in_three old (512 * sector) (512 * n))
    where
      every : (i : ℕ) → i < n → held left (sector + i) 512 ≡ held old (sector + i) 512
      every zero below = first
      every (suc i) below = later (suc i) (omega arith) below

  done : held left (sector + 0) 512 ≡ held bytes 0 512 → left ≡ written old sector bytes
  unfolding spliced
  done first =
      three_same (512 * sector) (512 * n) old left outside bytes
      (same_sectors n (held left sector (512 * n)) bytes long_left long (λ i below. in_range left i below ∙ every i below))
      ∙ ap (λ (m : ℕ). take (512 * sector) old ++ (bytes ++ drop (512 * sector + m) old)) (sym long)
    where
      every : (i : ℕ) → i < n → held left (sector + i) 512 ≡ held bytes i 512
      every zero below = first
      every (suc i) below = later (suc i) (omega arith) below ∙ sym (behind (suc i) (omega arith) below)

  mixed_first : (left ≡ old) ⊎ (left ≡ written old sector bytes)
  mixed_first = elim (mixed.each 0 (omega (arith, long, some))) [
    | inl same ↦ inl (undone same)
    | inr new ↦ inr (done new)
  ]

-- ---- zeros
zeros_part : (n at m : ℕ) → at + m ≤ n → part {X = ℕ} (replicate n 0) at m ≡ replicate m 0
unfolding part
zeros_part n at m inside = ap (take m) (drop-replicate at n 0) ∙ take-replicate m (n - at) 0 (omega arith)

regroup : (a b c d e z : List ℕ) → a ++ b ++ (c ++ d ++ e ++ z) ≡ (a ++ b ++ c ++ d ++ e) ++ z
regroup a b c d e z = simp append_assoc

-- behind the roles stand zeros
module _ (v : Superblock) (size : length (super_bytes v) ≡ 4096) (few : 256 + 2 * length v.roles ≤ 512) where
  abbrev sealed_sum : List ℕ
  sealed_sum = bytes_low_first 0 4 (checksum_of (bytes_with 0 v) (length v.roles))

  abbrev count : List ℕ
  count = bytes_low_first 0 4 (length v.roles)

  abbrev roles : List ℕ
  roles = flat_map (bytes_low_first 0 2) v.roles

  abbrev rest : ℕ
  rest = 3840 - 2 * length v.roles

  abbrev front : List ℕ
  front = front_bytes v ++ sealed_sum ++ count ++ replicate 32 0 ++ roles

  in_two : super_bytes v ≡ front ++ replicate rest 0
  unfolding super_bytes bytes_with back_bytes
  in_two = regroup (front_bytes v) sealed_sum count (replicate 32 0) roles (replicate rest 0)

  front_long : length front ≡ 256 + 2 * length v.roles
  front_long =
      let whole : 4096 ≡ length front + length (replicate {A = ℕ} rest 0) = sym size ∙ ap length in_two ∙ length-append front (replicate rest 0) in
      let zeros = length-replicate {A = ℕ} rest 0 in
      omega (arith, whole, zeros)

  behind_roles : (i : ℕ) → 0 < i → i < 8 → held (super_bytes v) i 512 ≡ replicate 512 0
  unfolding part
  behind_roles i above below =
      let place : length front + (512 * i - length front) ≡ 512 * i = omega (arith, front_long) in
      ap (λ (xs : List ℕ). take 512 (drop (512 * i) xs)) in_two
      ∙ ap (λ (p : ℕ). take 512 (drop p (front ++ replicate rest 0))) (sym place)
      ∙ ap (take 512) (drop-append-add front (replicate rest 0) (512 * i - length front))
      ∙ zeros_part rest (512 * i - length front) 512 (omega (arith, front_long))

-- ---- a member whose other parts are laid out
module _ (member : NewMember) (old : List ℕ) (room : 512 * 2048 ≤ length old) where
  abbrev n : ℕ
  n = bitmap_sectors_of member

  abbrev second : List ℕ
  second = written old 8 wipe.bytes

  abbrev third : List ℕ
  third = written second 2032 empty_log.bytes

  abbrev fourth : List ℕ
  fourth = after old (others_of member)

  zeros_long : length wipe.bytes ≡ 4096
  zeros_long = length-replicate {A = ℕ} 4096 0

  log_long : length empty_log.bytes ≡ 4096
  log_long = length-replicate {A = ℕ} 4096 0xff

  wiped : SameOutside (512 * 8) 4096 old second
  wiped = spliced_outside old (512 * 8) wipe.bytes 4096 (sym zeros_long) (omega arith)

  logged : SameOutside (512 * 2032) 4096 second third
  logged = spliced_outside second (512 * 2032) empty_log.bytes 4096 (sym log_long) (omega (arith, wiped.size))

  stored : SameOutside (512 * 16) (512 * n) third fourth
  stored =
      let all = stored_all 16 member.header member.marks n third (omega arith) (omega (arith, wiped.size, logged.size, few_sectors member)) in
      outside_around all.outside (512 * 16) (512 * n) (omega arith) (omega arith)

  zeros : held fourth 8 4096 ≡ replicate 4096 0
  zeros =
      part_before stored (512 * 8) 4096 (omega arith) ∙ part_before logged (512 * 8) 4096 (omega arith)
      ∙ part-spliced old (512 * 8) wipe.bytes 4096 (sym zeros_long) (omega arith)

  kept : KeepsOthers member old fourth
  kept =
      keeps_then member old third fourth (keeps_then member old second third (super_keeps member old second wiped) (log_keeps member second third logged)) (bitmap_keeps member third fourth stored)

  zero_sector : (i : ℕ) → i < 8 → held fourth (8 + i) 512 ≡ replicate 512 0
  zero_sector i below =
      let place : 512 * 8 + 512 * i ≡ 512 * (8 + i) = omega arith in
      ap (λ (p : ℕ). part fourth p 512) (sym place)
      ∙ sym (part_part fourth (512 * 8) 4096 (512 * i) 512 (omega arith))
      ∙ ap (λ (xs : List ℕ). part xs (512 * i) 512) zeros
      ∙ zeros_part 4096 (512 * i) 512 (omega arith)

  -- the superblock over them is there, or zeros still are
  pub over_zeros : (left : List ℕ) → length (super_bytes member.superblock) ≡ 4096 → 256 + 2 * length member.superblock.roles ≤ 512 → IsMixed 8 (super_bytes member.superblock) fourth left
      → ((held left 8 4096 ≡ replicate 4096 0) × KeepsOthers member old left) ⊎ (left ≡ after old (writes_of member))
  over_zeros left size few mixed =
      let bytes = super_bytes member.superblock in
      elim (mixed_first 8 8 bytes fourth left (omega arith) size (omega (arith, wiped.size, logged.size, stored.size)) (λ i above below. behind_roles member.superblock size few i above below ∙ sym (zero_sector i below)) mixed) [
        | inl same ↦ inl (ap (λ (xs : List ℕ). held xs 8 4096) same ∙ zeros, subst (KeepsOthers member old) (sym same) kept)
        | inr done ↦ inr (done ∙ sym (after-append old (others_of member) (super_write_of member.superblock ∷ [])))
      ]
