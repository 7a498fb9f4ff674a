-- A plan that is given out by balanced counts is certified.
use Rattle.std.proofs.Common.{◌≡◌, ◌≢◌, ℕ, ◌-◌, ◌<◌, Bool, List, [], length, get_or, refl, sym, subst, arith, inl, inr}
use Rattle.md_cert.specs.declared.table.Row.{Row}
use Rattle.md_cert.specs.declared.slots.Slot.{Slot}
use Rattle.md_cert.specs.declared.plan.Plan.{Plan}
use Rattle.md_cert.specs.declared.plan.Certificate.{Certificate}
use Rattle.md_cert.specs.Tables.{mask_of_chunk}
use Rattle.md_cert.specs.Plans.{Certifies, ChunksRise, IsCertified}
use Rattle.md_cert.proofs.Bits.{has_below}
use Rattle.md_cert.proofs.Masks.{Rises}
use Rattle.md_plan.specs.declared.cell.Cell.{Cell}
use Rattle.md_plan.specs.declared.bound.Bound.{Bound}
use Rattle.md_plan.specs.Cells.{count_with}
use Rattle.md_plan.specs.Classes.{count_rows}
use Rattle.md_plan.specs.Bounds.{IsBalanced}
use Rattle.md_plan.specs.Certificates.{chunks_within}
use Rattle.md_plan.specs.Slots.{AreGivenOut}
use Rattle.md_plan.proofs.ShortSets.{certifies}
use Rattle.md_plan.proofs.SlotLists.{no_second}

none_rise : ChunksRise []
none_rise i j d less within = absurd (omega arith)

pub certified : (rows : List Row) → Rises rows → (placed cells : List Cell) (loads : List ℕ) (bound : Bound) (slots : List Slot) (orphans : List ℕ) (certificate : Certificate) → ((q : ℕ → Bool) → count_with q placed ≡ count_rows q rows)
    → IsBalanced placed cells loads bound → AreGivenOut rows cells slots orphans
    → certificate.rounds ≡ bound.rounds - 1 → (bound.rounds ≡ 0 → certificate.chunks ≡ []) → (bound.rounds ≢ 0 → certificate.chunks ≡ chunks_within bound.sources rows)
    → IsCertified rows (record { slots = slots; rounds = bound.rounds }) certificate
certified rows rises placed cells loads bound slots orphans certificate same balanced given rounds_is none_is chunks_is =
    let plan : Plan = record { slots = slots; rounds = bound.rounds } in
    let by : Certifies rows plan certificate = certifies rows rises placed bound plan certificate same balanced.shown refl rounds_is none_is chunks_is in
    record {
      rising = given.slotting.rise;
      certificate_rising = elim by [ inl nothing ↦ subst ChunksRise (sym nothing.2) none_rise | inr some ↦ some.1.rising ];
      allowed = given.slotting.allowed;
      covered = λ k r lt some. given.slotting.covered k r lt some;
      single = no_second rows (length rows) slots given.used bound.rounds given.slotting;
      in_time = λ k d lt.
          let s = (get_or slots k d).source in
          let below : s < 32 = has_below (mask_of_chunk rows (get_or slots k d).chunk) s (given.slotting.allowed k d lt) in
          let a = given.slotting.placed k d lt in
          let b = given.within s below in
          let e = balanced.are_loads.each s below in
          let w = balanced.within s below in
          omega (arith, a, b, e, w);
      certified = by;
    }
