-- A superblock as it is stored next is the one that was read, but for bit 8 of the feature map, the log's shift, and the offset of a
-- recovering member that is too old for it to count.
use Rattle.std.proofs.Common.{◌≡◌, ◌∙◌, ℕ, Bool, true, false, not, ◌==◌, List, [], ◌∷◌, refl, ap}
use Rattle.std.specs.Int.Bits.{and_zero_r}
use Rattle.std.proofs.lemmas.Nat.{and_assoc, and_or_apart, and_or_self}
use Rattle.md_super.specs.declared.superblock.Superblock.{Superblock}
use Rattle.md_bitmap.specs.declared.header.BitmapHeader.{BitmapHeader}
use Rattle.md_bitmap.specs.Marks.{Bitmap}
use Rattle.md_badblocks.specs.declared.run.Run.{Run}
use Rattle.md_members.specs.Areas.{BitmapIsPlaced, AreAreasPlaced, LogIsPlaced, has_bad_blocks, has_bitmap}
use Rattle.md_members.specs.Reading.{ReadsBitmap}
use Rattle.md_assembly.specs.States.{has_recovery_offset, role_in, state_of}
use Rattle.md_kept_members.specs.OwnFields.{stored_next}
use Rattle.md_array.specs.Worlds.{super_of}

-- a superblock with this offset
abbrev pub at_offset : ℕ → Superblock → Superblock
at_offset offset v = record v { recovery_offset = offset }

pub bitmap_same : (bad : List Run) (v : Superblock) → has_bitmap (stored_next bad v) ≡ has_bitmap v
bitmap_same [] v = ap (λ n. not (n == 0)) (and_assoc 1 v.feature_map 0xffff_fff7)
bitmap_same (run ∷ runs) v = ap (λ n. not (n == 0)) (and_or_apart 1 v.feature_map 8 refl)

pub recovery_same : (bad : List Run) (v : Superblock) → has_recovery_offset (stored_next bad v) ≡ has_recovery_offset v
recovery_same [] v = ap (λ n. not (n == 0)) (and_assoc 2 v.feature_map 0xffff_fff7)
recovery_same (run ∷ runs) v = ap (λ n. not (n == 0)) (and_or_apart 2 v.feature_map 8 refl)

-- bit 8 tells whether the list is empty
pub none_listed : (v : Superblock) → has_bad_blocks (stored_next [] v) ≡ false
none_listed v = ap (λ n. not (n == 0)) (and_assoc 8 v.feature_map 0xffff_fff7 ∙ and_zero_r v.feature_map)

pub some_listed : (run : Run) (runs : List Run) (v : Superblock) → has_bad_blocks (stored_next (run ∷ runs) v) ≡ true
some_listed run runs v = ap (λ n. not (n == 0)) (and_or_self 8 v.feature_map)

pub super_same : (bad : List Run) (offset : ℕ) (v : Superblock) → super_of (at_offset offset (stored_next bad v)) ≡ record (super_of v) { offset = offset }
super_same bad offset v = λ i. record { number = v.dev_number; events = v.events; role = role_in v; recovering = recovery_same bad v i; offset = offset }

-- so the state of the member is the same
pub state_same : (bad : List Run) (offset : ℕ) (v first : Superblock) → state_of first (at_offset offset (stored_next bad v)) ≡ state_of first v
unfolding state_of
state_same bad offset v first = rw (recovery_same bad v) refl

module _ (bad : List Run) (offset : ℕ) (v : Superblock) where
  abbrev next : Superblock
  next = at_offset offset (stored_next bad v)

  log_placed : (sectors : ℕ) → LogIsPlaced sectors v → LogIsPlaced sectors next
  log_placed sectors p = record { short = p.short; within = p.within; from_super = p.from_super; from_data = p.from_data }

  bitmap_placed : (sectors width : ℕ) → BitmapIsPlaced sectors v width → BitmapIsPlaced sectors next width
  bitmap_placed sectors width p = record { within = p.within; from_super = p.from_super; from_data = p.from_data; from_log = p.from_log }

  pub placed_next : (sectors width : ℕ) → AreAreasPlaced sectors v width → AreAreasPlaced sectors next width
  placed_next sectors width p = record {
    some_size = p.some_size;
    data_holds = p.data_holds;
    data_within = p.data_within;
    data_apart = p.data_apart;
    log = λ has. log_placed sectors (p.log has);
    bitmap = λ has. bitmap_placed sectors width (p.bitmap (rw (bitmap_same bad v) at has));
  }

  pub reads_next : (content : List ℕ) (honest : Bool) (sectors : ℕ) (h : BitmapHeader) (m : Bitmap) → ReadsBitmap content honest sectors v h m → ReadsBitmap content honest sectors next h m
  reads_next content honest sectors h m r = record {
    header = record { start = r.header.start; at = r.header.at; sector = r.header.sector; read = r.header.read; fields = r.header.fields; sound = r.header.sound };
    few_chunks = r.few_chunks;
    placed = placed_next sectors _ r.placed;
    start = r.start;
    at = r.at;
    marks = r.marks;
  }
