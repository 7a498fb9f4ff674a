-- Marks in memory, requests and resync_offset change, and no member does: what comes of the world, and that the mirror stays consistent.
use Rattle.std.proofs.Common.{◌≡◌, ℕ, ◌-◌, ◌^◌, ◌≤◌, false, ◌&&◌, ◌==◌, nat_lt, List, slice_get, Option, sym, ◌∙◌}
use Rattle.md_bitmap.specs.Marks.{Bitmap, is_set}
use Rattle.md_inflight.specs.Inflight.{InflightList}
use Rattle.md_model.specs.Worlds as worlds
use Rattle.md_inflight.specs.declared.requests.extent.Extent.{Extent}
use Rattle.md_state.specs.View.{Disk, ArrayView, MirrorView}
use Rattle.md_state.specs.InMemory.{HasMarksOfSize, HasRoles}
use Rattle.md_state.specs.Requests.{AreInside}
use Rattle.md_array.specs.Consistency.{IsConsistent}
use Rattle.md_array.specs.Fits.{Fits}
use Rattle.md_array.specs.Worlds.{at_member, stored_on, world_on}

module _ (a : ArrayView) (offset : ℕ) (marks : Bitmap) (requests : InflightList Extent) (same : marks.chunks ≡ a.marks.chunks) where
  abbrev pub remarked : ArrayView
  remarked = record a { shared = record a.shared { resync_offset = offset }; marks = marks; requests = requests }

  pub world_remarked : (disks : List Disk) (in_flight : ℕ → Option worlds.Request)
      → world_on disks remarked in_flight ≡ record (world_on disks a in_flight) { clean = offset == 2 ^ 64 - 1; marks = λ c. nat_lt c a.marks.chunks && is_set marks.bytes c }
  world_remarked disks in_flight = λ i.
      let by : ArrayView = record a { marks = record { chunks = same i; bytes = marks.bytes } } in
      record (world_on disks a in_flight) {
        stored = λ k. stored_on by (slice_get a.members k) (slice_get disks k);
        known = λ k c. at_member by k false (λ m. nat_lt c by.marks.chunks && is_set m.stored.bytes c);
        clean = offset == 2 ^ 64 - 1;
        marks = λ c. nat_lt c by.marks.chunks && is_set marks.bytes c;
      }

  roles_remarked : HasRoles a → HasRoles remarked
  roles_remarked r = record {
    few = r.few;
    numbers = r.numbers;
    shared = r.shared;
    below = r.below;
    one_each = r.one_each;
    serving = λ runs. let s = r.serving runs in (s.0, s.1, record { member = s.2.member; in_sync = s.2.in_sync });
  }

  chunks_remarked : ((c : ℕ) → marks.chunks ≤ c → is_set marks.bytes c ≡ false) → HasMarksOfSize a → HasMarksOfSize remarked
  chunks_remarked none c = record {
    size = c.size;
    count = same ∙ c.count;
    wide = c.wide;
    none_past = none;
    member_size = c.member_size;
    member_width = c.member_width;
    member_count = λ k m x. c.member_count k m x ∙ sym same;
  }

  fits_remarked : (disks : List Disk) → Fits disks a → Fits disks remarked
  fits_remarked disks f = record {
    as_many = f.as_many;
    each = λ k d m at x. let fit = f.each k d m at x in record { long = fit.long; short = fit.short; has = fit.has; placed = fit.placed; few_chunks = fit.few_chunks; sound = fit.sound; told = fit.told };
  }

  pub remarked_is_consistent : (disks : List Disk) → ((c : ℕ) → marks.chunks ≤ c → is_set marks.bytes c ≡ false) → AreInside remarked
      → IsConsistent (record { disks = disks; array = a }) → IsConsistent (record { disks = disks; array = remarked })
  remarked_is_consistent disks none inside c = record {
    fits = fits_remarked disks c.fits;
    roles = roles_remarked c.roles;
    chunks = chunks_remarked none c.chunks;
    inside = inside;
    supers = c.supers;
  }

-- a mirror by its parts
pub same_mirror : (v : MirrorView) (disks : List Disk) (array : ArrayView) → v.disks ≡ disks → v.array ≡ array → v ≡ record { disks = disks; array = array }
same_mirror v disks array d a = λ i. record { disks = d i; array = a i }
