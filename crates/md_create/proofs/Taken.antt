-- A device on which a member was laid out is taken as a member.
use Rattle.std.proofs.Common.{◌≡◌, ◌≢◌, ℕ, ◌+◌, ◌*◌, ◌<◌, ◌≤◌, true, List, length, refl, ap, sym, subst, ◌∙◌, arith, inl, inr}
use Rattle.std.specs.Prelude.{pos}
use Rattle.std.proofs.lemmas.Int.{ints}
use Rattle.md_super.specs.declared.superblock.Superblock.{Superblock}
use Rattle.md_super.specs.declared.fault.SuperFault.{SuperFault}
use Rattle.md_super.specs.declared.fault.SuperFault.TheVariants as super_fault
use Rattle.md_super.specs.Encoding.{super_bytes}
use Rattle.md_super.specs.Faults.{NoSuperFault, IsFirstSuperFault, super_fault_place}
use Rattle.md_super.specs.Format.{IsSuper}
use Rattle.md_format.specs.FirstFault.{IsFirst}
use Rattle.md_bitmap.specs.declared.fault.BitmapFault.{BitmapFault}
use Rattle.md_bitmap.specs.declared.fault.BitmapFault.TheVariants as bitmap_fault
use Rattle.md_bitmap.specs.Faults.{NoneStands, BitmapFaultStands, bitmap_fault_place as bitmap_place}
use Rattle.md_bitmap.specs.Header.{IsHeader, header_bytes}
use Rattle.md_members.specs.declared.area.Area.{Area}
use Rattle.md_members.specs.declared.fault.MemberFault.{MemberFault}
use Rattle.md_members.specs.declared.fault.MemberFault.TheVariants.{TooShort, ReadFault, Super, Region, Bitmap, Log, NoMemory}
use Rattle.md_members.specs.Areas.{AreApart, AreAreasPlaced, IsWithin, bitmap_area, bitmap_sectors, data_area, log_area, super_area}
use Rattle.md_members.specs.Members.{RefusesMember, RefusesRest, by_place, by_bitmap, by_log, sectors_of_device as sectors_in}
use Rattle.md_members.specs.Reading.{ReadsSuper, RefusesBitmap, RefusesSuper, chunks_of}
use Rattle.md_create.specs.declared.params.NewMember.{NewMember}
use Rattle.md_create.specs.Layout.{IsLaidOutAs}
use Rattle.md_create.specs.Places.{HasNewPlaces}
use Rattle.md_create.specs.ReadBack.{sealed}
use Rattle.md_create.proofs.Laid.{few_sectors}
use Rattle.md_create.proofs.Read.{chunks_read, front_read, header_read, no_log, super_read}

within : (sectors start n : ℕ) → start + n ≤ sectors → IsWithin sectors (record { start = pos start; sectors = n })
within sectors start n fits = record { from = omega (arith, ints); to = omega (arith, ints) }

apart : (a n b m : ℕ) → a + n ≤ b → AreApart (record { start = pos a; sectors = n }) (record { start = pos b; sectors = m })
apart a n b m before = inl (omega (arith, ints))

apart_behind : (a n b m : ℕ) → b + m ≤ a → AreApart (record { start = pos a; sectors = n }) (record { start = pos b; sectors = m })
apart_behind a n b m behind = inr (omega (arith, ints))

apart_as : (a b c d : Area) → a ≡ c → b ≡ d → AreApart c d → AreApart a b
apart_as a b c d e f h = subst (λ (x : Area). AreApart x b) (sym e) (subst (λ (y : Area). AreApart c y) (sym f) h)

-- a superblock that names the places of a new member
module _ (v : Superblock) (p : HasNewPlaces v) where
  log_is : log_area v ≡ record { start = pos 2032; sectors = 8 }
  log_is = rw (p.bblog_offset, p.bblog_size) refl

  data_is : data_area v ≡ record { start = pos 2048; sectors = v.data_size }
  data_is = rw p.data_offset refl

  bitmap_is : (width : ℕ) → bitmap_area v width ≡ record { start = pos 16; sectors = width }
  bitmap_is width = rw p.bitmap_offset refl

  -- its parts fit a device of its size, where the bitmap has room
  pub new_placed : (sectors width : ℕ) → width ≤ 2016 → 2048 + v.data_size ≤ sectors → AreAreasPlaced sectors v width
  new_placed sectors width few room = record {
    some_size = p.some_size;
    data_holds = p.data_holds;
    data_within = omega (arith, p.data_offset);
    data_apart = apart_as super_area (data_area v) _ _ refl data_is (apart 8 8 2048 v.data_size (omega arith));
    log = λ _. record {
      short = omega (arith, p.bblog_size);
      within = rw log_is (within sectors 2032 8 (omega arith));
      from_super = apart_as super_area (log_area v) _ _ refl log_is (apart 8 8 2032 8 (omega arith));
      from_data = apart_as (data_area v) (log_area v) _ _ data_is log_is (apart_behind 2048 v.data_size 2032 8 (omega arith));
    };
    bitmap = λ _. record {
      within = rw (bitmap_is width) (within sectors 16 width (omega arith));
      from_super = apart_as super_area (bitmap_area v width) _ _ refl (bitmap_is width) (apart 8 8 16 width (omega arith));
      from_data = apart_as (data_area v) (bitmap_area v width) _ _ data_is (bitmap_is width) (apart_behind 2048 v.data_size 16 width (omega arith));
      from_log = λ _. apart_as (log_area v) (bitmap_area v width) _ _ log_is (bitmap_is width) (apart_behind 2032 8 16 width (omega arith));
    };
  }

sealed_places : (member : NewMember) → HasNewPlaces (sealed member.superblock)
sealed_places member =
    let p = member.new.places in
    record {
      feature_map = p.feature_map;
      bitmap_offset = p.bitmap_offset;
      bblog_offset = p.bblog_offset;
      bblog_shift = p.bblog_shift;
      bblog_size = p.bblog_size;
      data_offset = p.data_offset;
      some_size = p.some_size;
      data_holds = p.data_holds;
    }

-- each fault but NoMemory comes before it
early : (f : SuperFault) → f ≢ super_fault.NoMemory → super_fault_place f < 9
early super_fault.Magic other = omega arith
early super_fault.Major other = omega arith
early super_fault.MaxDev other = omega arith
early super_fault.Checksum other = omega arith
early super_fault.SuperOffset other = omega arith
early (super_fault.Feature bits) other = omega arith
early super_fault.Level other = omega arith
early super_fault.RaidDisks other = omega arith
early super_fault.NoMemory other = absurd (other refl)

early_bitmap : (f : BitmapFault) → bitmap_place f < 5
early_bitmap bitmap_fault.Magic = omega arith
early_bitmap bitmap_fault.Version = omega arith
early_bitmap bitmap_fault.ChunkSize = omega arith
early_bitmap bitmap_fault.TooManyChunks = omega arith

module _ (member : NewMember) (old new : List ℕ) (spelled : IsSuper (super_bytes member.superblock) (sealed member.superblock)) (sound : NoSuperFault (super_bytes member.superblock))
    (header_is : IsHeader (header_bytes member.header) member.header) (header_sound : NoneStands (header_bytes member.header)) (long : length (header_bytes member.header) ≡ 256)
    (laid : IsLaidOutAs old member new) (room : 512 * (2048 + member.superblock.data_size) ≤ length new) where
  super_refused : (fault : MemberFault) → RefusesSuper new true (λ _. ⊥) fault → fault ≡ NoMemory
  super_refused TooShort refused = absurd (omega arith)
  super_refused ReadFault refused = absurd refused.1
  super_refused (Super f) refused =
      let bytes : refused.0.bytes ≡ super_bytes member.superblock = refused.0.read.from_device refl ∙ laid.superblock in
      let first = subst (λ (bs : List ℕ). IsFirstSuperFault bs f) bytes refused.0.first in
      absurd (sound f (early f refused.1) first.stands)
  super_refused NoMemory refused = refl
  super_refused Region refused = absurd refused
  super_refused (Bitmap f) refused = absurd refused
  super_refused (Log f) refused = absurd refused

  module _ (v : Superblock) (read : ReadsSuper new true v) where
    placed_in : (width : ℕ) → width ≤ 2016 → AreAreasPlaced (sectors_in new) v width
    placed_in width few = rw (super_read member old new spelled header_is long laid v read) (new_placed (sealed member.superblock) (sealed_places member) (sectors_in new) width few (omega arith))

    bitmap_refused : (fault : MemberFault) → RefusesBitmap new true (λ _. ⊥) (sectors_in new) v fault → fault ≡ NoMemory
    bitmap_refused ReadFault refused = elim refused.failed [
      | inl first ↦ absurd first
      | inr rest ↦ absurd rest.2
    ]
    bitmap_refused (Bitmap f) (inl spoiled) =
        let front = front_read member old new spelled header_is long laid v read spoiled.start spoiled.sector spoiled.at spoiled.read in
        let first = subst (λ (bytes : List ℕ). IsFirst (BitmapFaultStands bytes) bitmap_place f) front spoiled.first in
        absurd (header_sound f (early_bitmap f) first.stands)
    bitmap_refused (Bitmap f) (inr many) =
        let same = header_read member old new spelled header_is long laid v read many.1 many.2 in
        let chunks = chunks_read member old new spelled header_is long laid v read many.1 same in
        absurd (omega (arith, many.3, chunks, member.new.chunks, member.header.sound.few_chunks))
    bitmap_refused Region refused =
        let same = header_read member old new spelled header_is long laid v read refused.0 refused.1 in
        let chunks = ap bitmap_sectors (chunks_read member old new spelled header_is long laid v read refused.0 same) in
        absurd (refused.3 (placed_in (bitmap_sectors (chunks_of v refused.0)) (omega (arith, chunks, few_sectors member))))
    bitmap_refused NoMemory refused = refl
    bitmap_refused TooShort refused = absurd refused
    bitmap_refused (Super f) refused = absurd refused
    bitmap_refused (Log f) refused = absurd refused

  rest_refused : (v : Superblock) → ReadsSuper new true v → (fault : MemberFault) → RefusesRest new true (λ _. ⊥) v fault → fault ≡ NoMemory
  rest_refused v read fault (by_place is none) = absurd (none (placed_in v read 1 (omega arith)))
  rest_refused v read fault (by_bitmap placed has refused) = bitmap_refused v read fault refused
  rest_refused v read fault (by_log placed h m has listed refused) = let none = no_log member old new spelled header_is long laid v read in absurd cc

  pub only_memory : (fault : MemberFault) → RefusesMember new true (λ _. ⊥) fault → fault ≡ NoMemory
  only_memory fault (inl refused) = super_refused fault refused
  only_memory fault (inr rest) = rest_refused rest.0 rest.1 fault rest.2
