-- A member of an array that was opened, by its device before and after.
use Rattle.std.proofs.Common.{◌≡◌, ℕ, ◌+◌, ◌⊎◌, inl, inr, Bool, true, false, true≢false, ◌&&◌, ◌||◌, eqb, List, Option, Some, refl, sym, ◌∙◌, arith, eq-eqb, eqb-true, bytes_eq}
use Rattle.std.proofs.lemmas.Bool.Decides.{nat_tests}
use Rattle.std.proofs.lemmas.Slice.Eq.{bytes_eq-Decides}
use Rattle.std.proofs.lemmas.Bool.{and_parts}
use Rattle.md_super.specs.declared.superblock.Superblock.{Superblock}
use Rattle.md_bitmap.specs.declared.header.BitmapHeader.{BitmapHeader}
use Rattle.md_bitmap.specs.Header.{IsHeader}
use Rattle.md_members.specs.Members.{IsAccepted}
use Rattle.md_assembly.specs.States.{is_in_sync}
use Rattle.md_model.specs.Devices.{Super, accepts, is_accepted}
use Rattle.md_kept_members.specs.View.{MemberView}
use Rattle.md_kept_members.specs.Members.{NeedsMarks}
use Rattle.md_kept_members.specs.OnDevices.Storing.{sector_from_super}
use Rattle.md_state.specs.View.{ArrayView}
use Rattle.md_array.specs.Worlds.{block_on, header_fits, header_on, stored_of, super_in, super_of}
use Rattle.md_model.proofs.Cases.{by_test}

-- ---- tests of numbers and bytes
by_bytes : {P : Type 0} (xs ys : List ℕ) → (xs ≡ ys → P) → ((xs ≡ ys → ⊥) → P) → P
by_bytes xs ys is isnt =
    let d = bytes_eq-Decides xs ys in
    by_test (bytes_eq xs ys) (λ e. is (d.0 e)) (λ other. isnt (λ e. true≢false (sym (d.1 e) ∙ other)))

by_numbers : {P : Type 0} (x y : ℕ) → (x ≡ y → P) → ((x ≡ y → ⊥) → P) → P
by_numbers x y is isnt = by_test (eqb x y) (λ e. is (eqb-true x y e)) (λ other. isnt (λ e. true≢false (sym (eq-eqb x y e) ∙ other)))

pub by_accepted : {P : Type 0} (v : Superblock) (h : BitmapHeader) → (IsAccepted v h → P) → ((IsAccepted v h → ⊥) → P) → P
by_accepted v h is isnt =
    by_bytes h.uuid v.set_uuid
    (λ uuid. by_numbers h.sync_size v.size
    (λ size. by_numbers h.state 0
    (λ state. by_numbers h.events v.events
    (λ same. is (record { uuid = uuid; size = size; state = state; events = inl same }))
    (λ not_same. by_numbers h.events (v.events + 1)
    (λ next. is (record { uuid = uuid; size = size; state = state; events = inr next }))
    (λ not_next. isnt (λ a. elim a.events [ inl same ↦ not_same same | inr next ↦ not_next next ]))))
    (λ other. isnt (λ a. other a.state)))
    (λ other. isnt (λ a. other a.size)))
    (λ other. isnt (λ a. other a.uuid))

-- whether a member's marks have to be stored
pub by_need : {P : Type 0} (m : MemberView) → (NeedsMarks m → P) → ((NeedsMarks m → ⊥) → P) → P
by_need m is isnt =
    by_test (is_in_sync m.state)
    (λ in_sync. by_accepted m.superblock m.header
    (λ accepted. isnt (λ n. n.refused accepted))
    (λ refused. is (record { in_sync = in_sync; refused = refused })))
    (λ out. isnt (λ n. true≢false (sym n.in_sync ∙ out)))

-- ---- acceptance
either : (events own : ℕ) → (events ≡ own) ⊎ (events ≡ own + 1) → (eqb events own || eqb events (own + 1)) ≡ true
either events own (inl e) = grind (arith, nat_tests)
either events own (inr e) = grind (arith, nat_tests)

all_three : (a b c : Bool) → a ≡ true → b ≡ true → c ≡ true → (a && b && c) ≡ true
all_three a b c x y z = rw (x, y, z) refl

accepts_when : (super : Option Super) (own : Super) (events : ℕ) (fits : Bool) → super ≡ Some own → fits ≡ true → (events ≡ own.events) ⊎ (events ≡ own.events + 1) → accepts super events fits ≡ true
accepts_when super own events fits is good near = rw (is, good) (either events own.events near)

-- a header that an array's superblock accepts
pub record Fits (a : ArrayView) (v : Superblock) (h : BitmapHeader) : Type 0 where
  pub uuid : h.uuid ≡ a.shared.set_uuid
  pub size : h.sync_size ≡ a.shared.size
  pub state : h.state ≡ 0
  pub events : (h.events ≡ v.events) ⊎ (h.events ≡ v.events + 1)

pub header_fits_there : (a : ArrayView) (h : BitmapHeader) (header : List ℕ) → IsHeader header h → h.uuid ≡ a.shared.set_uuid → h.sync_size ≡ a.shared.size → h.state ≡ 0 → header_fits a header ≡ true
header_fits_there a h header is uuid size state =
    all_three _ _ _
    ((bytes_eq-Decides _ _).1 (sym is.uuid ∙ uuid))
    (eq-eqb _ _ (sym is.sync_size ∙ size))
    (eq-eqb _ _ (sym is.state ∙ state))

nearby : (x y own : ℕ) → x ≡ y → (x ≡ own) ⊎ (x ≡ own + 1) → (y ≡ own) ⊎ (y ≡ own + 1)
nearby x y own e (inl h) = inl (sym e ∙ h)
nearby x y own e (inr h) = inr (sym e ∙ h)

-- a device whose bitmap has such a header is accepted
pub accepted_by : (a : ArrayView) (m : MemberView) (own : Super) (content : List ℕ) (h : BitmapHeader) → super_in (block_on content) ≡ Some own
    → IsHeader (header_on content (sector_from_super m.superblock.bitmap_offset)) h → h.uuid ≡ a.shared.set_uuid → h.sync_size ≡ a.shared.size → h.state ≡ 0
    → (h.events ≡ own.events) ⊎ (h.events ≡ own.events + 1) → is_accepted (stored_of a m content) ≡ true
accepted_by a m own content h super header uuid size state events =
    accepts_when (super_in (block_on content)) own _ _ super
    (header_fits_there a h (header_on content (sector_from_super m.superblock.bitmap_offset)) header uuid size state)
    (nearby h.events _ own.events header.events events)

-- so with the superblock that is kept, but for its offset
pub accepted_there : (a : ArrayView) (m : MemberView) (offset : ℕ) (content : List ℕ) (h : BitmapHeader) → super_in (block_on content) ≡ Some (record (super_of m.superblock) { offset = offset })
    → IsHeader (header_on content (sector_from_super m.superblock.bitmap_offset)) h → Fits a m.superblock h → is_accepted (stored_of a m content) ≡ true
accepted_there a m offset content h super header fits =
    accepts_when (super_in (block_on content)) (record (super_of m.superblock) { offset = offset }) _ _ super
    (header_fits_there a h (header_on content (sector_from_super m.superblock.bitmap_offset)) header fits.uuid fits.size fits.state)
    (nearby h.events _ m.superblock.events header.events fits.events)

-- ---- and what acceptance says
all_three_hold : (a b c : Bool) → (a && b && c) ≡ true → (a ≡ true) × (b ≡ true) × (c ≡ true)
all_three_hold true true true e = (refl, refl, refl)
all_three_hold true true false e = absurd cc
all_three_hold true false c e = absurd cc
all_three_hold false b c e = absurd cc

accepts_says : (super : Option Super) (own : Super) (events : ℕ) (fits : Bool) → super ≡ Some own → accepts super events fits ≡ true → (fits ≡ true) × ((events ≡ own.events) ⊎ (events ≡ own.events + 1))
accepts_says super own events fits is e =
    let t : (fits && (eqb events own.events || eqb events (own.events + 1))) ≡ true = rw is at e in
    let parts : (fits ≡ true) × ((eqb events own.events || eqb events (own.events + 1)) ≡ true) = and_parts _ _ t in
    (parts.0, one_of (eqb events own.events) (eqb events (own.events + 1)) (eqb-true events own.events) (eqb-true events (own.events + 1)) parts.1)
  where
    one_of : {P Q : Type 0} (a b : Bool) → (a ≡ true → P) → (b ≡ true → Q) → (a || b) ≡ true → P ⊎ Q
    one_of true b p q h = inl (p refl)
    one_of false b p q h = inr (q h)

-- the header of such a device fits
pub fits_there : (a : ArrayView) (m : MemberView) (offset : ℕ) (content : List ℕ) (h : BitmapHeader) → super_in (block_on content) ≡ Some (record (super_of m.superblock) { offset = offset })
    → IsHeader (header_on content (sector_from_super m.superblock.bitmap_offset)) h → is_accepted (stored_of a m content) ≡ true → Fits a m.superblock h
fits_there a m offset content h super is accepted =
    let says = accepts_says (super_in (block_on content)) (record (super_of m.superblock) { offset = offset }) _ _ super accepted in
    let parts = all_three_hold _ _ _ says.0 in
    record {
      uuid = is.uuid ∙ (bytes_eq-Decides _ _).0 parts.0;
      size = is.sync_size ∙ eqb-true _ _ parts.1;
      state = is.state ∙ eqb-true _ _ parts.2;
      events = nearby _ h.events m.superblock.events (sym is.events) says.1;
    }
