-- What a crash leaves while a member is laid out.
use Rattle.std.proofs.Common.{◌≡◌, ◌⊎◌, ℕ, ◌+◌, ◌-◌, ◌*◌, ◌≤◌, inl, inr, List, [], ◌∷◌, ◌++◌, length, refl, ap, sym, ◌∙◌, arith, subst}
use Rattle.std.proofs.lemmas.List.{length-replicate}
use Rattle.md_device.specs.Splice.{SameOutside, part}
use Rattle.md_device.specs.Device.{written}
use Rattle.md_device.specs.Crashes.{IsMixed}
use Rattle.md_device.proofs.Splices.{length-spliced, part_before, part-spliced, spliced_outside}
use Rattle.md_super.specs.Encoding.{super_bytes}
use Rattle.md_create.specs.Layout.{IsHalfLaidOut, empty_log, others_of, bitmap_sectors_of, super_write_of, wipe, writes_of}
use Rattle.md_create.specs.declared.params.NewMember.{NewMember}
use Rattle.md_create.proofs.Laid.{bitmap_keeps, few_sectors, keeps_then, log_keeps, super_keeps}
use Rattle.md_members.specs.DeviceWrites.Bitmaps.{bitmap_writes}
use Rattle.md_members.specs.DeviceWrites.Writes.{IsCutShort, IsNextMixed, Write, after}
use Rattle.md_members.proofs.DeviceWriteLemmas.Frames.{outside_around}
use Rattle.md_members.proofs.DeviceWriteLemmas.Runs.{after-append, cut_last}
use Rattle.md_members.proofs.DeviceWriteLemmas.Stored.{part-part, stored_all, stored_cut}

-- the first of these writes was cut short, or it was done
cut_first : (old left : List ℕ) (w : Write) (ws : List Write) → IsCutShort old (w ∷ ws) left → IsMixed w.sector w.bytes old left ⊎ IsCutShort (written old w.sector w.bytes) ws left
cut_first old left w ws cut = by cut.done cut.rest cut.order cut.mixed
  where
    by : (done rest : List Write) → w ∷ ws ≡ done ++ rest → IsNextMixed rest (after old done) left → IsMixed w.sector w.bytes old left ⊎ IsCutShort (written old w.sector w.bytes) ws left
    by [] [] order mixed = absurd (let e : ◌≡◌ {A = List Write} (w ∷ ws) [] = order in cc)
    by [] (x ∷ rest) order mixed =
        let same : x ≡ w = let e : w ∷ ws ≡ x ∷ rest = order in cc in
        inl (subst (λ (y : Write). IsMixed y.sector y.bytes old left) same mixed)
    by (x ∷ done) rest order mixed =
        let same : x ≡ w = let e : w ∷ ws ≡ x ∷ (done ++ rest) = order in cc in
        let others : ws ≡ done ++ rest = let e : w ∷ ws ≡ x ∷ (done ++ rest) = order in cc in
        inr (record { done = done; rest = rest; order = others; mixed = subst (λ (y : Write). IsNextMixed rest (after (written old y.sector y.bytes) done) left) same mixed })

-- a write of eight sectors that was done
mixed_all : (sector : ℕ) (bytes old : List ℕ) → length bytes ≡ 4096 → 512 * sector + 4096 ≤ length old → IsMixed sector bytes old (written old sector bytes)
mixed_all sector bytes old long fits =
    let at = 512 * sector in
    let new = written old sector bytes in
    let size : length new ≡ length old = length-spliced old at bytes (omega (arith, long)) in
    let whole : part new at 4096 ≡ bytes = part-spliced old at bytes 4096 (sym long) (omega arith) in
    record {
      outside = spliced_outside old at bytes (length bytes) refl (omega (arith, long));
      each = λ i inside. inr
          (let place : 512 * (sector + i) ≡ at + 512 * i = omega arith in
          ap (λ (p : ℕ). part new p 512) place
          ∙ part-part new at 4096 (512 * i) 512 (omega (arith, size)) (omega (arith, long))
          ∙ ap (λ (xs : List ℕ). part xs (512 * i) 512) whole);
    }

module _ (member : NewMember) (old left : List ℕ) (room : 512 * 2048 ≤ length old) where
  abbrev n : ℕ
  n = bitmap_sectors_of member

  abbrev bitmap : List Write
  bitmap = bitmap_writes 16 member.header member.marks n

  abbrev second : List ℕ
  second = written old 8 wipe.bytes

  abbrev third : List ℕ
  third = written second 2032 empty_log.bytes

  zeros_long : length wipe.bytes ≡ 4096
  zeros_long = length-replicate {A = ℕ} 4096 0

  log_long : length empty_log.bytes ≡ 4096
  log_long = length-replicate {A = ℕ} 4096 0xff

  wiped : SameOutside (512 * 8) 4096 old second
  wiped = spliced_outside old (512 * 8) wipe.bytes 4096 (sym zeros_long) (omega arith)

  logged : SameOutside (512 * 2032) 4096 second third
  logged = spliced_outside second (512 * 2032) empty_log.bytes 4096 (sym log_long) (omega (arith, wiped.size))

  stored : SameOutside (512 * 16) (512 * n) third (after third bitmap)
  stored =
      let all = stored_all 16 member.header member.marks n third (omega arith) (omega (arith, wiped.size, logged.size, few_sectors member)) in
      outside_around all.outside (512 * 16) (512 * n) (omega arith) (omega arith)

  zeros : part second (512 * 8) 4096 ≡ wipe.bytes
  zeros = part-spliced old (512 * 8) wipe.bytes 4096 (sym zeros_long) (omega arith)

  -- in the log's write
  log_cut : IsMixed 2032 empty_log.bytes second left → IsHalfLaidOut old member left
  log_cut mixed =
      let outside : SameOutside (512 * 2032) 4096 second left = subst (λ (k : ℕ). SameOutside (512 * 2032) k second left) log_long mixed.outside in
      inr (inl (part_before outside (512 * 8) 4096 (omega arith) ∙ zeros, keeps_then member old second left (super_keeps member old second wiped) (log_keeps member second left outside)))

  -- in those of the bitmap
  bitmap_cut : IsCutShort third bitmap left → IsHalfLaidOut old member left
  bitmap_cut cut =
      let outside : SameOutside (512 * 16) (512 * n) third left = elim (stored_cut 16 member.header member.marks n third left (omega arith) (omega (arith, wiped.size, logged.size, few_sectors member)) cut) [
        | inl all ↦ subst (SameOutside (512 * 16) (512 * n) third) (sym all) stored
        | inr kept ↦ outside_around kept (512 * 16) (512 * n) (omega arith) (omega arith)
      ] in
      inr (inl (
        part_before outside (512 * 8) 4096 (omega arith) ∙ part_before logged (512 * 8) 4096 (omega arith) ∙ zeros,
        keeps_then member old third left (keeps_then member old second third (super_keeps member old second wiped) (log_keeps member second third logged)) (bitmap_keeps member third left outside),
      ))

  pub half_laid : length (super_bytes member.superblock) ≡ 4096 → IsCutShort old (writes_of member) left → IsHalfLaidOut old member left
  half_laid long cut =
      elim (cut_last old left (others_of member) (super_write_of member.superblock) cut) [
        | inl earlier ↦ elim (cut_first old left wipe (empty_log ∷ bitmap) earlier) [
          | inl mixed ↦ inl mixed
          | inr later ↦ elim (cut_first second left empty_log bitmap later) [
            | inl mixed ↦ log_cut mixed
            | inr last ↦ bitmap_cut last
          ]
        ]
        | inr (inl mixed) ↦ inr (inr mixed)
        | inr (inr all) ↦
            let size : length (after third bitmap) ≡ length old = stored.size ∙ logged.size ∙ wiped.size in
            let done : left ≡ written (after third bitmap) 8 (super_bytes member.superblock) = all ∙ after-append old (others_of member) (super_write_of member.superblock ∷ []) in
            inr (inr (subst (IsMixed 8 (super_bytes member.superblock) (after third bitmap)) (sym done)
            (mixed_all 8 (super_bytes member.superblock) (after third bitmap) long (omega (arith, size)))))
      ]
