-- What stands on the devices after a write that failed, a crash within a write that failed might have left: so what is said of that holds of a
-- crash after it.
use Rattle.std.proofs.Common.{◌≡◌, ◌∙◌, inl, inr, ℕ, zero, suc, ◌*◌, ◌<◌, true, List, [], ◌∷◌, ◌++◌, drop, length, set, slice_get, Some, refl, sym, ap, subst, arith, length-set}
use Rattle.std.specs.List.{All}
use Rattle.std.proofs.Math.Seq.{drop-append_seam}
use Rattle.std.proofs.lemmas.List.{length-map}
use Rattle.std.proofs.lemmas.Option.{same_Some, slice_get_within}
use Rattle.md_device.specs.Splice.{SameOutside}
use Rattle.md_device.specs.Crashes.{LeavesMore}
use Rattle.md_kept_members.specs.View.{MemberView}
use Rattle.md_model.specs.Events.{Event, MemberPart}
use Rattle.md_model.proofs.Puts.{by_same}
use Rattle.md_members.specs.DeviceWrites.Writes.{IsAnyIn, Write}
use Rattle.md_state.specs.Steps.CopyData.{run_write}
use Rattle.md_state.specs.DeviceChanges.{StaysHonest}
use Rattle.md_state.specs.DiskWrites.{HasThisFailed, IsFailed}
use Rattle.md_state.specs.Members.{IsMember}
use Rattle.md_state.specs.Trying.{HaltsWriting}
use Rattle.md_state.specs.View.{Disk, MirrorView}
use Rattle.md_state.specs.Steps.WriteMember.{data_write}
use Rattle.md_array.specs.Consistency.{IsConsistent}
use Rattle.md_array.specs.InTurn.{HaltsAt, Requests}
use Rattle.md_array.specs.Steps.Record.{super_write}
use Rattle.md_array.proofs.General.Indices.{at_set_same, got_in_map, got_other}
use Rattle.md_array.proofs.StepLemmas.FailedParts.{halting_write}
use Rattle.md_laws.specs.Left.{contents_of}
use Rattle.md_laws.specs.CrashesWithin.{MayAllBeLeft}
use Rattle.md_assembly.proofs.Indices.{got_within}
use Rattle.md_call_laws.specs.Crashes.HaltedCalls.{IsLeftByHalt}

all_one : (P : List ℕ → Type 0) (c : List ℕ) → P c → All P (c ∷ [])
all_one P c p zero d below = p
all_one P c p (suc k) d below = absurd (omega (arith, below))

-- device k tells of what stands there, as left by a crash
abbrev pub telling : (d e : Disk) → Disk
telling d e = record e { crashes = d.crashes ++ e.content ∷ [] }

abbrev pub told : (k : ℕ) (d e : Disk) → List Disk → List Disk
told k d e after = set after k (telling d e)

module _ (k : ℕ) (before after : List Disk) (d e : Disk) (was : slice_get before k ≡ Some d) (is : slice_get after k ≡ Some e) where
  long : k < length after
  long = slice_get_within after k e is

  at_k : (x : Disk) → slice_get (told k d e after) k ≡ Some x → x ≡ telling d e
  at_k x there = same_Some x (telling d e) (sym there ∙ at_set_same after k (telling d e) long)

  -- of device k before and after
  of_device : (P : Disk → Disk → Type 0) → P d (telling d e) → (b x : Disk) → slice_get before k ≡ Some b → slice_get (told k d e after) k ≡ Some x → P b x
  of_device P here b x at_b at_x = subst (P b) (sym (at_k x at_x)) (subst (λ (y : Disk). P y (telling d e)) (same_Some d b (sym was ∙ at_b)) here)

  module _ (w : Write) (f : IsFailed k w before after) where
    leaves : LeavesMore d.crashes (telling d e).crashes (IsAnyIn w d.content)
    leaves = record { more = e.content ∷ []; all = refl; each = all_one (IsAnyIn w d.content) e.content (f.tried.outside d e was is) }

    pub told_failed : IsFailed k w before (told k d e after)
    told_failed = record {
      tried = record {
        as_many = length-set after k (telling d e) ∙ f.tried.as_many;
        others = λ j apart. got_other after k j (telling d e) apart ∙ f.tried.others j apart;
        stays = of_device StaysHonest (let s = f.tried.stays d e was is in record { honest = s.honest; counted = s.counted; grown = s.grown });
        outside = of_device (λ b x. SameOutside (512 * w.sector) (length w.bytes) b.content x.content) (f.tried.outside d e was is);
      };
      failed = of_device (λ b x. b.honest ≡ true → b.failures < x.failures) (f.failed d e was is);
      there = of_device (HasThisFailed w) (f.there d e was is);
      within = of_device (λ b x. b.honest ≡ true → LeavesMore b.crashes x.crashes (IsAnyIn w b.content)) (λ _. leaves);
    }

    pub may_told : MayAllBeLeft before (told k d e after) (contents_of after)
    may_told = record {
      as_many = length-map after (λ (x : Disk). x.content) ∙ f.tried.as_many;
      each = λ j b x c at_b at_x at_c. by_same j k
          (λ same.
          let x_is : x ≡ telling d e = at_k x (sym (ap (slice_get (told k d e after)) same) ∙ at_x) in
          let c_is : e.content ≡ c = same_Some e.content c (sym (got_in_map (λ (y : Disk). y.content) after k e is) ∙ sym (ap (slice_get (contents_of after)) same) ∙ at_c) in
          let b_is : b ≡ d = same_Some b d (sym at_b ∙ ap (slice_get before) same ∙ was) in
          inr (
            0,
            (λ i. slice_get (drop (length (b_is i).crashes) (x_is i).crashes) 0) ∙ ap (λ (xs : List (List ℕ)). slice_get xs 0) (drop-append_seam d.crashes (e.content ∷ [])) ∙ ap Some c_is,
          ))
          (λ apart.
          let there : slice_get after j ≡ Some b = f.tried.others j apart ∙ at_b in
          inl (same_Some c b.content (sym at_c ∙ got_in_map (λ (y : Disk). y.content) after j b there)));
    }

-- ---- a write that halts the mirror
-- the member to which it was
abbrev pub member_of : Event → ℕ
member_of (Event.WriteFails k part) = k
member_of e = 0

-- the two devices of a member
pub record HasPair (k : ℕ) (before after : List Disk) : Type 0 where
  pub old : Disk
  pub was : slice_get before k ≡ Some old
  pub new : Disk
  pub is : slice_get after k ≡ Some new

module _ (old new : MirrorView) (many : length new.disks ≡ length old.disks) where
  pub pair_of : (k : ℕ) → k < length old.disks → HasPair k old.disks new.disks
  pair_of k low =
      let d = got_within old.disks k low in
      let e = got_within new.disks k (omega arith) in
      record { old = d.0; was = d.1; new = e.0; is = e.1 }

module _ (old new : MirrorView) (c : IsConsistent old) where
  of_member : (k : ℕ) (w : Write) (m : MemberView) → IsMember old.array k m → HaltsWriting k w old new → HasPair k old.disks new.disks
  of_member k w m at h =
      let low = slice_get_within old.array.members k m at in
      let as_many = c.fits.as_many in
      pair_of old new h.disks.tried.as_many k (omega arith)

  pub halting_pair : (failing : Event) (requests : Requests) → HaltsAt old requests failing new → HasPair (member_of failing) old.disks new.disks
  halting_pair (Event.WriteFails k part) requests h = let x = halting_write k old new requests part h in of_member k x.0 x.1 x.2 x.3
  halting_pair e requests h = absurd h

abbrev pub told_mirror : (k : ℕ) (old new : MirrorView) → HasPair k old.disks new.disks → MirrorView
told_mirror k old new p = record new { disks = told k p.old p.new new.disks }

told_halts : (k : ℕ) (w : Write) (old new : MirrorView) (p : HasPair k old.disks new.disks) → HaltsWriting k w old new → HaltsWriting k w old (told_mirror k old new p)
told_halts k w old new p h = record { disks = told_failed k old.disks new.disks p.old p.new p.was p.is w h.disks; array = h.array }

module _ (old new : MirrorView) where
  pub told_at : (failing : Event) (p : HasPair (member_of failing) old.disks new.disks) (requests : Requests) → HaltsAt old requests failing new
      → HaltsAt old requests failing (told_mirror (member_of failing) old new p)
  told_at (Event.WriteFails k MemberPart.Superblock) p requests h = record { member = h.member; may = h.may; halts = told_halts k (super_write old.array h.member) old new p h.halts }
  told_at (Event.WriteFails k (MemberPart.BitmapSector b)) p requests h = record { member = h.member; write = h.write; may = h.may; halts = told_halts k h.write old new p h.halts }
  told_at (Event.WriteFails k (MemberPart.RequestData n)) p requests h =
      (h.0, h.1, h.2, record { member = h.3.member; may = h.3.may; halts = told_halts k (data_write h.3.member h.0) old new p h.3.halts; pending = h.3.pending })
  told_at (Event.WriteFails k (MemberPart.CopiedSectors s n)) p requests h =
      record { bytes = h.bytes; copy = h.copy; many = h.many; halts = told_halts k (run_write h.copy.may.target s h.bytes) old new p h.halts }
  told_at (Event.WriteFails k MemberPart.Log) p requests h =
      record { running = h.running; member = h.member; in_sync = h.in_sync; canonical = h.canonical; room = h.room; write = h.write; among = h.among; halts = told_halts k h.write old new p h.halts }
  told_at e p requests h = absurd h

  pub told_asked : (failing : Event) (p : HasPair (member_of failing) old.disks new.disks) (requests : Requests) (h : HaltsAt old requests failing new) (left : List Disk)
      → IsLeftByHalt failing old new requests h left → IsLeftByHalt failing old (told_mirror (member_of failing) old new p) requests (told_at failing p requests h) left
  unfolding told_at
  told_asked (Event.WriteFails k MemberPart.Superblock) p requests h left asked = asked
  told_asked (Event.WriteFails k (MemberPart.BitmapSector b)) p requests h left asked = asked
  told_asked (Event.WriteFails k (MemberPart.RequestData n)) p requests h left asked = asked
  told_asked (Event.WriteFails k (MemberPart.CopiedSectors s n)) p requests h left asked = asked
  told_asked (Event.WriteFails k MemberPart.Log) p requests h left asked = asked
  told_asked e p requests h left asked = absurd h

  pub told_within : (failing : Event) (p : HasPair (member_of failing) old.disks new.disks) (requests : Requests) → HaltsAt old requests failing new
      → MayAllBeLeft old.disks (told_mirror (member_of failing) old new p).disks (contents_of new.disks)
  told_within (Event.WriteFails k part) p requests h =
      let x = halting_write k old new requests part h in may_told k old.disks new.disks p.old p.new p.was p.is x.0 x.3.disks
  told_within e p requests h = absurd h
