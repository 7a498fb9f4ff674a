-- What stands on a device on which a member was laid out.
use Rattle.std.proofs.Common.{◌≡◌, ℕ, ◌+◌, ◌-◌, ◌*◌, ◌<◌, ◌≤◌, List, [], ◌∷◌, length, sym, ◌∙◌, arith, subst}
use Rattle.std.proofs.lemmas.List.{length-replicate}
use Rattle.md_device.specs.Splice.{SameOutside, part, spliced}
use Rattle.md_device.proofs.Splices.{part-spliced, part_before, part_after, spliced_outside}
use Rattle.md_super.specs.Encoding.{super_bytes}
use Rattle.md_bitmap.specs.Sectors.{bitmap_sector}
use Rattle.md_create.specs.Layout.{IsLaidOutAs, KeepsOthers, empty_log, bitmap_sectors_of, super_write_of, wipe, writes_of}
use Rattle.md_create.specs.declared.params.NewMember.{NewMember}
use Rattle.md_members.specs.DeviceWrites.Bitmaps.{bitmap_writes}
use Rattle.md_members.specs.DeviceWrites.Writes.{after}
use Rattle.md_members.proofs.DeviceWriteLemmas.Frames.{outside_around, outside_then}
use Rattle.md_members.proofs.DeviceWriteLemmas.Runs.{after-append}
use Rattle.md_members.proofs.DeviceWriteLemmas.Stored.{AreStored, stored_all}

pub few_sectors : (member : NewMember) → bitmap_sectors_of member ≤ 257
few_sectors member =
    let few : member.marks.chunks ≤ 1048576 = omega (arith, member.new.chunks, member.header.sound.few_chunks) in
    grind (arith, few)

-- ---- no other part changes
module _ (member : NewMember) where
  abbrev n : ℕ
  n = bitmap_sectors_of member

  abbrev few : n ≤ 257
  few = few_sectors member

  pub keeps_then : (old mid new : List ℕ) → KeepsOthers member old mid → KeepsOthers member mid new → KeepsOthers member old new
  keeps_then old mid new first second = record { behind_bitmap = second.behind_bitmap ∙ first.behind_bitmap; others = outside_then first.others second.others }

  pub super_keeps : (old new : List ℕ) → SameOutside (512 * 8) 4096 old new → KeepsOthers member old new
  super_keeps old new same = record {
    behind_bitmap = part_after same (512 * (16 + n)) (512 * (2016 - n)) (omega arith);
    others = outside_around same (512 * 8) (512 * 2032) (omega arith) (omega arith);
  }

  pub log_keeps : (old new : List ℕ) → SameOutside (512 * 2032) 4096 old new → KeepsOthers member old new
  log_keeps old new same = record {
    behind_bitmap = part_before same (512 * (16 + n)) (512 * (2016 - n)) (omega (arith, few));
    others = outside_around same (512 * 8) (512 * 2032) (omega arith) (omega arith);
  }

  pub bitmap_keeps : (old new : List ℕ) → SameOutside (512 * 16) (512 * n) old new → KeepsOthers member old new
  bitmap_keeps old new same = record {
    behind_bitmap = part_after same (512 * (16 + n)) (512 * (2016 - n)) (omega arith);
    others = outside_around same (512 * 8) (512 * 2032) (omega arith) (omega (arith, few));
  }

-- ---- what its parts hold
module _ (member : NewMember) (old zeros log super : List ℕ) (room : 512 * 2048 ≤ length old)
    (zeros_long : length zeros ≡ 4096) (log_long : length log ≡ 4096) (super_long : length super ≡ 4096) where
  abbrev width : ℕ
  width = bitmap_sectors_of member

  abbrev second : List ℕ
  second = spliced old (512 * 8) zeros

  abbrev third : List ℕ
  third = spliced second (512 * 2032) log

  abbrev fourth : List ℕ
  fourth = after third (bitmap_writes 16 member.header member.marks width)

  abbrev fifth : List ℕ
  fifth = spliced fourth (512 * 8) super

  wiped : SameOutside (512 * 8) 4096 old second
  wiped = spliced_outside old (512 * 8) zeros 4096 (sym zeros_long) (omega arith)

  logged : SameOutside (512 * 2032) 4096 second third
  logged = spliced_outside second (512 * 2032) log 4096 (sym log_long) (omega (arith, wiped.size))

  stored : AreStored 16 member.header member.marks 0 width third fourth
  stored = stored_all 16 member.header member.marks width third (omega arith) (omega (arith, wiped.size, logged.size, few_sectors member))

  bitmap_outside : SameOutside (512 * 16) (512 * width) third fourth
  bitmap_outside = outside_around stored.outside (512 * 16) (512 * width) (omega arith) (omega arith)

  named : SameOutside (512 * 8) 4096 fourth fifth
  named = spliced_outside fourth (512 * 8) super 4096 (sym super_long) (omega (arith, wiped.size, logged.size, stored.outside.size))

  pub record Stands : Type 0 where
    pub superblock : part fifth (512 * 8) 4096 ≡ super
    pub bitmap : (i : ℕ) → i < width → part fifth (512 * (16 + i)) 512 ≡ bitmap_sector member.header member.marks i
    pub log_is : part fifth (512 * 2032) 4096 ≡ log
    pub kept : KeepsOthers member old fifth

  pub stands : Stands
  stands = record {
    superblock = part-spliced fourth (512 * 8) super 4096 (sym super_long) (omega (arith, wiped.size, logged.size, stored.outside.size));
    bitmap = λ i below. part_after named (512 * (16 + i)) 512 (omega arith) ∙ stored.each i (omega arith) below;
    log_is =
        part_after named (512 * 2032) 4096 (omega arith) ∙ part_after bitmap_outside (512 * 2032) 4096 (omega (arith, few_sectors member))
        ∙ part-spliced second (512 * 2032) log 4096 (sym log_long) (omega (arith, wiped.size));
    kept =
        keeps_then member old second fifth (super_keeps member old second wiped)
        (keeps_then member second third fifth (log_keeps member second third logged)
        (keeps_then member third fourth fifth (bitmap_keeps member third fourth bitmap_outside) (super_keeps member fourth fifth named)));
  }

pub laid_out : (member : NewMember) (old : List ℕ) → 512 * 2048 ≤ length old → length (super_bytes member.superblock) ≡ 4096 → IsLaidOutAs old member (after old (writes_of member))
laid_out member old room long =
    let all = stands member old wipe.bytes empty_log.bytes (super_bytes member.superblock) room (length-replicate {A = ℕ} 4096 0) (length-replicate {A = ℕ} 4096 0xff) long in
    subst (IsLaidOutAs old member)
    (sym (after-append (spliced (spliced old (512 * 8) wipe.bytes) (512 * 2032) empty_log.bytes) (bitmap_writes 16 member.header member.marks (bitmap_sectors_of member)) (super_write_of member.superblock ∷ [])))
    (record {
      superblock = all.superblock;
      bitmap = all.bitmap;
      log = all.log_is;
      kept = all.kept;
    })
