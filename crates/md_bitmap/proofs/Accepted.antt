-- Which fault stands in bytes, and what they are where none does.
use Rattle.std.proofs.Common.{◌≡◌, ℕ, ◌<◌, ◌≤◌, Bool, true, false, ◌&&◌, eqb, leb, List, Option, Some, None, refl, arith}
use Rattle.std.proofs.lemmas.Bool.{eqb-true, eqb-false, leb-true, leb-false, le-leb, and_parts, and_from}
use Rattle.std.specs.Int.{is_power_of_two}
use Rattle.md_format.specs.Fields.{number_at}
use Rattle.md_format.specs.FirstFault.{IsFirst, check}
use Rattle.md_format.proofs.Order.{Decides, decide_none, decide_more, fault_found, none_found, same_unless_other}
use Rattle.md_bitmap.specs.Sound.{IsChunkSize, IsSoundHeader, chunk_count}
use Rattle.md_bitmap.specs.declared.fault.BitmapFault.{BitmapFault}
use Rattle.md_bitmap.specs.declared.fault.BitmapFault.TheVariants.{Magic, Version, ChunkSize, TooManyChunks}
use Rattle.md_bitmap.specs.Faults.{BitmapFaultStands, bitmap_fault_place, NoneStands, bitmap_fault_of}

pub chunk_size_passes : (n : ℕ) → (is_power_of_two n && leb 512 n) ≡ true → IsChunkSize n
chunk_size_passes n e =
    let p = and_parts (is_power_of_two n) (leb 512 n) e in
    record { power = p.0; least = leb-true 512 n p.1 }

chunk_size_fails : (n : ℕ) → (is_power_of_two n && leb 512 n) ≡ false → IsChunkSize n → ⊥
chunk_size_fails n e size =
    let t = and_from (is_power_of_two n) (leb 512 n) size.power (le-leb 512 n size.least) in
    cc

only_magic : (bytes : List ℕ) (f : BitmapFault) → bitmap_fault_place f ≡ 1 → BitmapFaultStands bytes f → BitmapFaultStands bytes Magic
only_magic bytes Magic e s = s
only_magic bytes _ e s = absurd (omega arith)

only_version : (bytes : List ℕ) (f : BitmapFault) → bitmap_fault_place f ≡ 2 → BitmapFaultStands bytes f → BitmapFaultStands bytes Version
only_version bytes Version e s = s
only_version bytes _ e s = absurd (omega arith)

only_chunk_size : (bytes : List ℕ) (f : BitmapFault) → bitmap_fault_place f ≡ 3 → BitmapFaultStands bytes f → BitmapFaultStands bytes ChunkSize
only_chunk_size bytes ChunkSize e s = s
only_chunk_size bytes _ e s = absurd (omega arith)

only_too_many_chunks : (bytes : List ℕ) (f : BitmapFault) → bitmap_fault_place f ≡ 4 → BitmapFaultStands bytes f → BitmapFaultStands bytes TooManyChunks
only_too_many_chunks bytes TooManyChunks e s = s
only_too_many_chunks bytes _ e s = absurd (omega arith)

place_positive : (f : BitmapFault) → 0 < bitmap_fault_place f
place_positive Magic = omega arith
place_positive Version = omega arith
place_positive ChunkSize = omega arith
place_positive TooManyChunks = omega arith

decides_magic : (bytes : List ℕ) → Decides (BitmapFaultStands bytes) bitmap_fault_place 1 (check (eqb (number_at 4 0 bytes) 0x6d746962) Magic)
decides_magic bytes = record {
  placed = refl;
  sound = λ e. eqb-false (number_at 4 0 bytes) 0x6d746962 e;
  complete = λ f at passes s. only_magic bytes f at s (eqb-true (number_at 4 0 bytes) 0x6d746962 passes);
}

decides_version : (bytes : List ℕ) → Decides (BitmapFaultStands bytes) bitmap_fault_place 2 (check (eqb (number_at 4 4 bytes) 4) Version)
decides_version bytes = record {
  placed = refl;
  sound = λ e. eqb-false (number_at 4 4 bytes) 4 e;
  complete = λ f at passes s. only_version bytes f at s (eqb-true (number_at 4 4 bytes) 4 passes);
}

decides_chunk_size : (bytes : List ℕ) →
    Decides (BitmapFaultStands bytes) bitmap_fault_place 3 (check (is_power_of_two (number_at 4 52 bytes) && leb 512 (number_at 4 52 bytes)) ChunkSize)
decides_chunk_size bytes = record {
  placed = refl;
  sound = λ e. chunk_size_fails (number_at 4 52 bytes) e;
  complete = λ f at passes s. only_chunk_size bytes f at s (chunk_size_passes (number_at 4 52 bytes) passes);
}

decides_too_many_chunks : (bytes : List ℕ) →
    Decides (BitmapFaultStands bytes) bitmap_fault_place 4 (check (leb (chunk_count (number_at 8 40 bytes) (number_at 4 52 bytes)) 1048576) TooManyChunks)
decides_too_many_chunks bytes = record {
  placed = refl;
  sound = λ e. leb-false (chunk_count (number_at 8 40 bytes) (number_at 4 52 bytes)) 1048576 e;
  complete = λ f at passes s.
      let many = only_too_many_chunks bytes f at s in
      let few = leb-true (chunk_count (number_at 8 40 bytes) (number_at 4 52 bytes)) 1048576 passes in
      absurd (omega arith);
}

pub first_stands : (bytes : List ℕ) (o : Option BitmapFault) (f : BitmapFault) → o ≡ bitmap_fault_of bytes → o ≡ Some f → IsFirst (BitmapFaultStands bytes) bitmap_fault_place f
unfolding bitmap_fault_of
first_stands bytes o f e some =
    fault_found (BitmapFaultStands bytes) bitmap_fault_place _ o f place_positive
    (decide_more (BitmapFaultStands bytes) bitmap_fault_place 1 _ _ (decides_magic bytes)
    (decide_more (BitmapFaultStands bytes) bitmap_fault_place 2 _ _ (decides_version bytes)
    (decide_more (BitmapFaultStands bytes) bitmap_fault_place 3 _ _ (decides_chunk_size bytes)
    (decide_more (BitmapFaultStands bytes) bitmap_fault_place 4 _ _ (decides_too_many_chunks bytes)
    (decide_none (BitmapFaultStands bytes) bitmap_fault_place 5))))) e some

pub none_stands : (bytes : List ℕ) (o : Option BitmapFault) → o ≡ bitmap_fault_of bytes → o ≡ None → NoneStands bytes
unfolding bitmap_fault_of
none_stands bytes o e none =
    none_found (BitmapFaultStands bytes) bitmap_fault_place _ o place_positive
    (decide_more (BitmapFaultStands bytes) bitmap_fault_place 1 _ _ (decides_magic bytes)
    (decide_more (BitmapFaultStands bytes) bitmap_fault_place 2 _ _ (decides_version bytes)
    (decide_more (BitmapFaultStands bytes) bitmap_fault_place 3 _ _ (decides_chunk_size bytes)
    (decide_more (BitmapFaultStands bytes) bitmap_fault_place 4 _ _ (decides_too_many_chunks bytes)
    (decide_none (BitmapFaultStands bytes) bitmap_fault_place 5))))) e none

-- what bytes are where no fault stands
pub magic_is : (bytes : List ℕ) → NoneStands bytes → number_at 4 0 bytes ≡ 0x6d746962
magic_is bytes none = same_unless_other (number_at 4 0 bytes) 0x6d746962 (none Magic (omega arith))

pub version_is : (bytes : List ℕ) → NoneStands bytes → number_at 4 4 bytes ≡ 4
version_is bytes none = same_unless_other (number_at 4 4 bytes) 4 (none Version (omega arith))

chunk_size_is : (n : ℕ) → ((IsChunkSize n → ⊥) → ⊥) → IsChunkSize n
chunk_size_is n h =
    let P : Bool → Type 0 = λ t. (is_power_of_two n && leb 512 n) ≡ t → IsChunkSize n in
    let either : (t : Bool) → P t = λ t. elim t as P [
      | true ↦ λ e. chunk_size_passes n e
      | false ↦ λ e. absurd (h (chunk_size_fails n e))
    ] in
    either (is_power_of_two n && leb 512 n) refl

few_unless_many : (a b : ℕ) → (b < a → ⊥) → a ≤ b
few_unless_many a b h =
    let P : Bool → Type 0 = λ t. leb a b ≡ t → a ≤ b in
    let either : (t : Bool) → P t = λ t. elim t as P [
      | true ↦ λ e. leb-true a b e
      | false ↦ λ e. absurd (h (leb-false a b e))
    ] in
    either (leb a b) refl

pub sound_is : (bytes : List ℕ) → NoneStands bytes → IsSoundHeader (number_at 8 40 bytes) (number_at 4 52 bytes)
sound_is bytes none = record {
  chunk_size = chunk_size_is (number_at 4 52 bytes) (none ChunkSize (omega arith));
  few_chunks = few_unless_many (chunk_count (number_at 8 40 bytes) (number_at 4 52 bytes)) 1048576 (none TooManyChunks (omega arith));
}

not_standing : (bytes : List ℕ) → number_at 4 0 bytes ≡ 0x6d746962 → number_at 4 4 bytes ≡ 4 → IsSoundHeader (number_at 8 40 bytes) (number_at 4 52 bytes) → (f : BitmapFault) → BitmapFaultStands bytes f → ⊥
not_standing bytes magic version sound Magic s = s magic
not_standing bytes magic version sound Version s = s version
not_standing bytes magic version sound ChunkSize s = s sound.chunk_size
not_standing bytes magic version sound TooManyChunks s = let few = sound.few_chunks in absurd (omega arith)

-- bytes in which no fault stands
pub none_stands_in : (bytes : List ℕ) → number_at 4 0 bytes ≡ 0x6d746962 → number_at 4 4 bytes ≡ 4 → IsSoundHeader (number_at 8 40 bytes) (number_at 4 52 bytes) → NoneStands bytes
none_stands_in bytes magic version sound f lt s = not_standing bytes magic version sound f s
