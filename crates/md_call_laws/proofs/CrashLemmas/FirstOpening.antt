-- A first opening that was interrupted: the devices, as they were before it, are as a whole opening leaves them, but for the marks of a bitmap
-- that was not accepted, which counts as all marks. So what was left of them is what an interrupted opening after a crash leaves.
use Rattle.std.proofs.Common.{◌≡◌, ◌∙◌, inl, inr, ℕ, ◌*◌, ◌<◌, ◌≤◌, Bool, true, false, true≢false, cond, nat_lt, List, [], length, slice_get, Option, Some, None, refl, sym, ap, subst, arith}
use Rattle.std.proofs.lemmas.List.{length-map}
use Rattle.std.proofs.lemmas.Option.{none-some, same_Some, slice_get_within}
use Rattle.md_device.specs.Splice.{SameOutside}
use Rattle.md_members.proofs.DeviceWriteLemmas.Frames.{outside_none}
use Rattle.md_assembly.proofs.Indices.{got_within}
use Rattle.md_kept_members.specs.Members.{NeedsMarks}
use Rattle.md_kept_members.specs.View.{MemberView}
use Rattle.md_members.specs.Areas.{bitmap_sectors}
use Rattle.md_model.specs.Devices.{is_accepted}
use Rattle.md_model.specs.Sectors.{chunk_of}
use Rattle.md_model.proofs.Cases.{below-nat_lt, by_test, is_below}
use Rattle.md_kept_members.specs.OnDevices.Storing.{sector_from_super}
use Rattle.md_state.specs.Members.{IsInSync, IsMember}
use Rattle.md_state.specs.View.{ArrayView, Disk, MirrorView, geometry_of}
use Rattle.md_array.specs.ReadAsKept.{chunk_size_on}
use Rattle.md_array.specs.Open.Marks.{StoresMarksOn}
use Rattle.md_array.specs.Worlds.{AreHonest, none_in_flight, stored_of}
use Rattle.md_array.proofs.General.Indices.{got_in_map}
use Rattle.md_array.proofs.Worlds.Device.{chunk_size_new}
use Rattle.md_array.proofs.Worlds.InSync.{in_sync_is}
use Rattle.md_array.proofs.Worlds.Member.{by_need}
use Rattle.md_array.proofs.Worlds.Outside.{starts_at}
use Rattle.md_array.proofs.Worlds.ReadMember as read
use Rattle.md_array.proofs.Worlds.Shown.{IsShown, shown}
use Rattle.md_laws.specs.HalfOpened.{IsHalfOpened}
use Rattle.md_laws.specs.Left.{contents_of}
use Rattle.md_laws.specs.Lives.{AreAllLeft, AreFoundAgain, IsAsLeft, IsFoundAgain}
use Rattle.md_laws.specs.Runs.{IsStart, Moment, opened_as}
use Rattle.md_laws.proofs.Openings.HalfOpened.{stays_as_left}
use Rattle.md_laws.proofs.Openings.Opened as opening
use Rattle.md_laws.proofs.Runs.Moments.{IsSoundAt, sound_when_opened}
use Rattle.md_laws.proofs.Runs.Rests.{at_rest}
use Rattle.md_call_laws.specs.Crashes.FirstOpening.{AreAsOpened, IsFoundAsOpened, LeavesAsOpened}

-- ---- each device in its place
abbrev in_place : ℕ → ℕ → Option ℕ
in_place n k = cond (nat_lt k n) (Some k) None

is_placed : (n j k : ℕ) → in_place n j ≡ Some k → (j ≡ k) × (j < n)
is_placed n j k e = by_test (nat_lt j n)
    (λ low. (same_Some j k (sym (ap (λ (b : Bool). cond b (Some j) None) low) ∙ e), is_below j n low))
    (λ past. absurd (none-some k (sym (ap (λ (b : Bool). cond b (Some j) None) past) ∙ e)))

placed : (n k : ℕ) → k < n → in_place n k ≡ Some k
placed n k low = ap (λ (b : Bool). cond b (Some k) None) (below-nat_lt k n low)

outside_back : (at n : ℕ) (xs ys : List ℕ) → SameOutside at n xs ys → SameOutside at n ys xs
outside_back at n xs ys o = record { size = sym o.size; before = sym o.before; after = sym o.after }

module _ (before : List Disk) (m : MirrorView) (start : IsStart before m) where
  abbrev a : ArrayView
  a = m.array

  abbrev t : Moment
  t = opened_as m

  sound : IsSoundAt t
  sound = sound_when_opened before m start.honest start.opened

  -- a member that is in sync
  record HasOne : Type 0 where
    one : ℕ
    member : MemberView
    in_sync : IsInSync a one member

  has_one : HasOne
  has_one =
      let some = (opening.opened before m start.honest start.opened).states.some in
      let is = in_sync_is m.disks a none_in_flight some.0 some.1 in
      record { one = some.0; member = is.0; in_sync = is.1 }

  -- ---- devices that are as it left them
  module _ (these : List Disk) (honest : AreHonest these) (many : length these ≡ length m.disks)
      (as_left : (k : ℕ) (n : MemberView) (d e : Disk) → IsMember a k n → slice_get m.disks k ≡ Some d → slice_get these k ≡ Some e → IsAsLeft a n d.content e.content) where
    members_many : length m.disks ≡ length a.members
    members_many = sound.sound.fits.as_many

    found_again : (k : ℕ) → k < length these → IsFoundAgain a m.disks these k k
    found_again k low =
        let all = members_many in
        let n = got_within a.members k (omega (arith, many, all, low)) in
        let d = got_within m.disks k (omega (arith, many, low)) in
        let e = got_within these k low in
        record { member = n.0; is_member = n.1; disk_left = d.0; at_left = d.1; disk_now = e.0; at_now = e.1; as_left = as_left k n.0 d.0 e.0 n.1 d.1 e.1 }

    abbrev all_again : AreFoundAgain t these
    all_again =
        let one = has_one in
        let inside = slice_get_within a.members one.one one.member one.in_sync.member in
        let all = members_many in
        let there = placed (length these) one.one (omega (arith, many, all, inside)) in
        record {
          left = m.disks;
          is_left = inl refl;
          honest = honest;
          from = in_place (length these);
          at = in_place (length these);
          found = λ j k e. let x = is_placed (length these) j k e in subst (λ (i : ℕ). in_place (length these) i ≡ Some j) x.0 (placed (length these) j x.1);
          again = λ k j e. let x = is_placed (length these) k j e in subst (IsFoundAgain a m.disks these k) x.0 (found_again k x.1);
          unspoiled = λ k j e. refl;
          readable = λ k j e. refl;
          recorded = record {
            device = one.one;
            place = one.one;
            there = there;
            recorded = λ d v at is. let least : 0 ≤ v.events = omega arith in least;
            wide = inr (inl (record { device = one.one; member = one.member; in_sync = one.in_sync; place = one.one; there = there }));
          };
        }

    are_all : AreAllLeft t these all_again
    are_all j low = (j, placed (length these) j low)

  -- ---- so they were before it
  module _ (k : ℕ) (n : MemberView) (s : IsShown before m start.opened.array.infos k n) where
    unmarked : (NeedsMarks n → ⊥) → IsAsLeft a n s.new.content s.old.content
    unmarked none =
        let same = s.opened.unchanged none in
        subst (λ (c : List ℕ). IsAsLeft a n c s.old.content) (sym same)
        (record { outside = outside_none (512 * sector_from_super n.superblock.bitmap_offset) (512 * bitmap_sectors n.stored.chunks) s.old.content; chunk_size = refl; marks = λ x low off. off })

    module _ (need : NeedsMarks n) where
      stores : StoresMarksOn a n s.old s.new
      stores = s.opened.stored need

      refused : is_accepted (stored_of a n s.old.content) ≡ false
      refused = by_test (is_accepted (stored_of a n s.old.content)) (λ e. absurd (need.refused (read.accepted_before a n s.info s.old.content s.opened.member e))) (λ e. e)

      outside : SameOutside (512 * sector_from_super n.superblock.bitmap_offset) (512 * bitmap_sectors n.stored.chunks) s.old.content s.new.content
      outside = subst (λ (x : ℕ). SameOutside (512 * x) (512 * bitmap_sectors n.stored.chunks) s.old.content s.new.content) (sym (starts_at n.superblock stores.start stores.are.at)) stores.outside

      size : chunk_size_on n.superblock s.old.content ≡ chunk_size_on n.superblock s.new.content
      size = read.chunk_size_old a n s.info s.old.content s.opened.member ∙ sym (chunk_size_new a n s.info s.old s.new s.opened need.in_sync)

      marked : IsAsLeft a n s.new.content s.old.content
      marked = record {
        outside = outside_back (512 * sector_from_super n.superblock.bitmap_offset) (512 * bitmap_sectors n.stored.chunks) s.old.content s.new.content outside;
        chunk_size = size;
        marks = λ x low off. absurd (true≢false (sym (ap (λ (b : Bool). cond b ((stored_of a n s.old.content).bits (chunk_of (geometry_of a) x)) true) refused) ∙ off));
      }

  was_as_left : (k : ℕ) (n : MemberView) (d e : Disk) → IsMember a k n → slice_get m.disks k ≡ Some d → slice_get before k ≡ Some e → IsAsLeft a n d.content e.content
  was_as_left k n d e is at_d at_e =
      let s = shown before m start.honest start.opened k n is in
      subst (λ (x : Disk). IsAsLeft a n x.content e.content) (same_Some s.new d (sym s.is ∙ at_d))
      (subst (λ (y : Disk). IsAsLeft a n s.new.content y.content) (same_Some s.old e (sym s.was ∙ at_e))
      (by_need n (λ need. marked k n s need) (λ none. unmarked k n s none)))

  many_before : length before ≡ length m.disks
  many_before = sym start.opened.marked.same.as_many

  -- ---- and so is what an interrupted opening leaves
  module _ (left : List (List ℕ)) (half : IsHalfOpened a before left) where
    many_left : length left ≡ length before
    many_left = elim half.when [
      | inl within ↦ within.as_many
      | inr whole ↦ ap length whole ∙ length-map half.after (λ (d : Disk). d.content) ∙ elim half.opens [ inl marked ↦ marked.same.as_many | inr fails ↦ fails.ends.same.as_many ]
    ]

    pub leaves_there : (k : ℕ) (n : MemberView) → IsMember a k n → (d : Disk) → slice_get m.disks k ≡ Some d → (c : List ℕ) → slice_get left k ≡ Some c → IsAsLeft a n d.content c
    leaves_there k n is d at c there =
        let r = all_again before start.honest many_before was_as_left in
        let inside = slice_get_within left k c there in
        let long = many_left in
        let low : k < length before = omega (arith, long, inside) in
        let again = r.again k k (placed (length before) k low) in
        let kept : IsAsLeft a again.member again.disk_left.content c =
        stays_as_left before m start [] [] m t (refl, at_rest t) before a r start.opened.array left half k k (placed (length before) k low) c there in
        subst (λ (x : Disk). IsAsLeft a n x.content c) (same_Some again.disk_left d (sym again.at_left ∙ at))
        (subst (λ (x : MemberView). IsAsLeft a x again.disk_left.content c) (same_Some again.member n (sym again.is_member ∙ is)) kept)

    pub as_opened : (found : List Disk) → AreHonest found → contents_of found ≡ left → AreAsOpened m found
    as_opened found honest same =
        let many : length found ≡ length m.disks = sym (length-map found (λ (d : Disk). d.content)) ∙ ap length same ∙ many_left ∙ many_before in
        let kept : (k : ℕ) (n : MemberView) (d e : Disk) → IsMember a k n → slice_get m.disks k ≡ Some d → slice_get found k ≡ Some e → IsAsLeft a n d.content e.content =
        λ k n d e is at_d at_e. leaves_there k n is d at_d e.content (ap (λ (cs : List (List ℕ)). slice_get cs k) (sym same) ∙ got_in_map (λ (x : Disk). x.content) found k e at_e) in
        record { devices = all_again found honest many kept; left = refl; all = are_all found honest many kept }

pub leaves_as_opened : LeavesAsOpened
leaves_as_opened before m start left half = leaves_there before m start left half

pub is_found_as_opened : IsFoundAsOpened
is_found_as_opened before m start left half = as_opened before m start left half
