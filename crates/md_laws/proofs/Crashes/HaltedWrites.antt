-- A write of marks or of a log that halts the mirror, and that a crash left done or not done: what was left stands on the devices after a step
-- that is done.
use Rattle.std.proofs.Common.{◌≡◌, ◌∙◌, inl, inr, ℕ, zero, suc, ◌+◌, ◌*◌, ◌/◌, ◌%◌, ◌<◌, ◌≤◌, Bool, true, false, cond, ◌&&◌, eqb, nat_lt, List, length, map, set, refl, sym, ap, subst, arith}
use Rattle.std.specs.Int.{bit_at}
use Rattle.std.specs.List.{range_with_len}
use Rattle.std.proofs.lemmas.Bool.{cases_lt}
use Rattle.std.proofs.lemmas.List.{get_or_past}
use Rattle.std.proofs.lemmas.List.FromFn.{get_or-map-range_with_len, length-map-range_with_len}
use Rattle.std.proofs.lemmas.Nat.Bits.{bit_at-zero}
use Rattle.md_bitmap.specs.Marks.{Bitmap, is_set}
use Rattle.md_model.proofs.Cases.{not_below-nat_lt}
use Rattle.md_model.specs.Sectors.{block_of}
use Rattle.md_members.specs.DeviceWrites.Writes.{Write}
use Rattle.md_kept_members.specs.StoredMarks.{HasStored}
use Rattle.md_state.specs.Steps.StoreLog.{logged}
use Rattle.md_state.specs.Steps.StoreMarks.{StoresMarkSector}
use Rattle.md_state.specs.View.{MirrorView}
use Rattle.md_array.specs.Steps.StoreLog.{AreWritten, StoresLog}
use Rattle.md_array.proofs.Rebuilding.StoreLog.{log_happens}
use Rattle.md_array.proofs.StepLemmas.StoreMarks.{store_marks_happens}
use Rattle.md_laws.specs.HaltedWrites.{CrashesAtHaltedLog, CrashesAtHaltedMarks}
use Rattle.md_laws.proofs.Crashes.AsFailed.{done_or_not}

-- ---- bytes of which the bits are known
abbrev one : Bool → ℕ
one b = cond b 1 0

at_most_one : (b : Bool) → one b < 2
at_most_one true = omega arith
at_most_one false = omega arith

is_one : (b : Bool) → eqb (one b) 1 ≡ b
is_one true = refl
is_one false = refl

abbrev byte_of : (ℕ → Bool) → ℕ → ℕ
byte_of f j =
    one (f (8 * j)) + 2 * one (f (8 * j + 1)) + 4 * one (f (8 * j + 2)) + 8 * one (f (8 * j + 3))
    + 16 * one (f (8 * j + 4)) + 32 * one (f (8 * j + 5)) + 64 * one (f (8 * j + 6)) + 128 * one (f (8 * j + 7))

module _ (a b c d e f g h : ℕ) where
  abbrev eight : ℕ
  eight = a + 2 * b + 4 * c + 8 * d + 16 * e + 32 * f + 64 * g + 128 * h

  abbrev pick : ℕ → ℕ
  pick zero = a
  pick (suc zero) = b
  pick (suc (suc zero)) = c
  pick (suc (suc (suc zero))) = d
  pick (suc (suc (suc (suc zero)))) = e
  pick (suc (suc (suc (suc (suc zero))))) = f
  pick (suc (suc (suc (suc (suc (suc zero)))))) = g
  pick (suc (suc (suc (suc (suc (suc (suc i))))))) = h

  module _ (a2 : a < 2) (b2 : b < 2) (c2 : c < 2) (d2 : d < 2) (e2 : e < 2) (f2 : f < 2) (g2 : g < 2) (h2 : h < 2) where
    bit_picked : (i : ℕ) → i < 8 → bit_at eight i ≡ pick i
    bit_picked zero low = omega (arith, a2, b2, c2, d2, e2, f2, g2, h2)
    bit_picked (suc zero) low = omega (arith, a2, b2, c2, d2, e2, f2, g2, h2)
    bit_picked (suc (suc zero)) low = omega (arith, a2, b2, c2, d2, e2, f2, g2, h2)
    bit_picked (suc (suc (suc zero))) low = omega (arith, a2, b2, c2, d2, e2, f2, g2, h2)
    bit_picked (suc (suc (suc (suc zero)))) low = omega (arith, a2, b2, c2, d2, e2, f2, g2, h2)
    bit_picked (suc (suc (suc (suc (suc zero))))) low = omega (arith, a2, b2, c2, d2, e2, f2, g2, h2)
    bit_picked (suc (suc (suc (suc (suc (suc zero)))))) low = omega (arith, a2, b2, c2, d2, e2, f2, g2, h2)
    bit_picked (suc (suc (suc (suc (suc (suc (suc zero))))))) low = omega (arith, a2, b2, c2, d2, e2, f2, g2, h2)
    bit_picked (suc (suc (suc (suc (suc (suc (suc (suc i)))))))) low = absurd (omega arith)

bit_of_byte : (f : ℕ → Bool) (j i : ℕ) → i < 8 → bit_at (byte_of f j) i ≡ one (f (8 * j + i))
bit_of_byte f j i low =
    bit_picked (one (f (8 * j))) (one (f (8 * j + 1))) (one (f (8 * j + 2))) (one (f (8 * j + 3))) (one (f (8 * j + 4))) (one (f (8 * j + 5))) (one (f (8 * j + 6))) (one (f (8 * j + 7)))
    (at_most_one (f (8 * j))) (at_most_one (f (8 * j + 1))) (at_most_one (f (8 * j + 2))) (at_most_one (f (8 * j + 3))) (at_most_one (f (8 * j + 4))) (at_most_one (f (8 * j + 5))) (at_most_one (f (8 * j + 6)))
    (at_most_one (f (8 * j + 7))) i low
    ∙ picked i low
  where
    first : 8 * j ≡ 8 * j + 0
    first = omega arith

    picked : (i : ℕ) → i < 8 → pick (one (f (8 * j))) (one (f (8 * j + 1))) (one (f (8 * j + 2))) (one (f (8 * j + 3))) (one (f (8 * j + 4))) (one (f (8 * j + 5))) (one (f (8 * j + 6))) (one (f (8 * j + 7))) i ≡ one (f (8 * j + i))
    picked zero low = ap (λ (n : ℕ). one (f n)) first
    picked (suc zero) low = refl
    picked (suc (suc zero)) low = refl
    picked (suc (suc (suc zero))) low = refl
    picked (suc (suc (suc (suc zero)))) low = refl
    picked (suc (suc (suc (suc (suc zero))))) low = refl
    picked (suc (suc (suc (suc (suc (suc zero)))))) low = refl
    picked (suc (suc (suc (suc (suc (suc (suc zero))))))) low = refl
    picked (suc (suc (suc (suc (suc (suc (suc (suc i)))))))) low = absurd (omega arith)

abbrev bytes_of : (ℕ → Bool) → ℕ → List ℕ
bytes_of f n = map (byte_of f) (range_with_len 0 n)

set_within : (f : ℕ → Bool) (n c : ℕ) → c / 8 < n → is_set (bytes_of f n) c ≡ f c
unfolding is_set
set_within f n c low =
    ap (λ (x : ℕ). eqb (bit_at x (c % 8)) 1) (get_or-map-range_with_len (byte_of f) 0 n (c / 8) (c / 8) 0 low (omega arith))
    ∙ ap (λ (x : ℕ). eqb x 1) (bit_of_byte f (c / 8) (c % 8) (omega arith))
    ∙ is_one (f (8 * (c / 8) + c % 8))
    ∙ ap f (omega arith)

past_end : (xs : List ℕ) (c : ℕ) → length xs ≤ c / 8 → is_set xs c ≡ false
unfolding is_set
past_end xs c past = ap (λ (x : ℕ). eqb (bit_at x (c % 8)) 1) (get_or_past xs (c / 8) 0 past) ∙ ap (λ (x : ℕ). eqb x 1) (bit_at-zero (c % 8))

-- ---- the marks that are kept once the sector is stored
module _ (marks old : Bitmap) (block : ℕ) where
  abbrev bit_then : ℕ → Bool
  bit_then c = cond (eqb (block_of c) block && nat_lt c old.chunks) (is_set marks.bytes c) (is_set old.bytes c)

  abbrev many : ℕ
  many = length old.bytes + old.chunks

  abbrev stored_then : Bitmap
  stored_then = record { chunks = old.chunks; bytes = bytes_of bit_then many }

  none_past : (c : ℕ) → many ≤ c / 8 → bit_then c ≡ false
  none_past c past =
      ap (λ (b : Bool). cond (eqb (block_of c) block && b) (is_set marks.bytes c) (is_set old.bytes c)) (not_below-nat_lt c old.chunks (omega arith))
      ∙ neither (eqb (block_of c) block) (is_set marks.bytes c) (is_set old.bytes c)
      ∙ past_end old.bytes c (omega arith)
    where
      neither : (b x y : Bool) → cond (b && false) x y ≡ y
      neither true x y = refl
      neither false x y = refl

  has_stored : HasStored marks old block stored_then
  has_stored = record {
    chunks = refl;
    bits = λ c. elim (cases_lt (c / 8) many) [
      | inl low ↦ set_within bit_then many c low
      | inr past ↦ past_end (bytes_of bit_then many) c (let long = length-map-range_with_len (byte_of bit_then) 0 many in omega arith) ∙ sym (none_past c past)
    ];
  }

-- ---- what a crash leaves
pub crashes_at_halted_marks : CrashesAtHaltedMarks
crashes_at_halted_marks k block old new left c honest low h may either = elim (done_or_not k h.write old.disks new.disks left honest h.halts.disks may either) [
  | inl before ↦ inl before
  | inr after ↦
      let m = h.member in
      let then : Bitmap = stored_then old.array.marks m.stored block in
      let other : MirrorView = record { disks = after.0; array = record old.array { members = set old.array.members k (record m { stored = then }) } } in
      let stores : StoresMarkSector k block old other = record { member = m; write = h.write; may = h.may; disks = after.1; stored = then; has_stored = has_stored old.array.marks m.stored block; array = refl } in
      inr (other, (stores, store_marks_happens k block old other c low stores), after.2)
]

pub crashes_at_halted_log : CrashesAtHaltedLog
crashes_at_halted_log k old new left c honest h canonical may either = elim (done_or_not k h.write old.disks new.disks left honest h.halts.disks may either) [
  | inl before ↦ inl before
  | inr after ↦
      let other : MirrorView = record { disks = after.0; array = record old.array { members = set old.array.members k (logged h.member) } } in
      let stores : StoresLog k old other =
      record {
        running = h.running;
        member = h.member;
        in_sync = h.in_sync;
        room = h.room;
        array = refl;
        disks = subst (λ (ws : List Write). AreWritten k ws old.disks after.0) (sym h.among) (refl, after.1);
      } in
      inr (other, (stores, log_happens k old other c stores canonical), after.2)
]
