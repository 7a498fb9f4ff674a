-- The chunks of a request's sectors.
use Rattle.std.proofs.Common.{◌≡◌, ℕ, ◌+◌, ◌-◌, ◌*◌, ◌/◌, ◌<◌, ◌≤◌, arith, subst, inl, inr}
use Rattle.std.proofs.Math.Nat.{div-mul-le_self, le-div_iff_mul-le, mul-div_left}
use Rattle.std.proofs.lemmas.Bool.{cases_lt}
use Rattle.md_inflight.specs.Requests.Pending.{PendingView, request_sectors}
use Rattle.md_state.specs.View.{ArrayView}
use Rattle.md_state.specs.Members.{AllInSync, IsFirstInSyncWithout}
use Rattle.md_state.specs.Steps.WriteMember.{HasMarksFrom, HasRequestMarks}

pub div_mono : (w a b : ℕ) → 0 < w → a ≤ b → a / w ≤ b / w
div_mono w a b wide le = let down = div-mul-le_self a w in (le-div_iff_mul-le {k = w} {x = a / w} {y = b} wide).1 (omega arith)

-- so many sectors from a sector on lie in the chunks from the first on and below the end
pub record AreChunksOf (w sector n first end : ℕ) : Type 0 where
  pub wide : 0 < w
  pub some : 0 < n
  pub first_is : first ≡ sector / w
  pub end_is : end ≡ ((sector + n) - 1) / w + 1

-- what holds of each chunk holds of each sector's
to_sectors : (w sector n first end : ℕ) (P : ℕ → Type 0) → AreChunksOf w sector n first end → ((c : ℕ) → first ≤ c → c < end → P c) → (s : ℕ) → sector ≤ s → s < sector + n → P (s / w)
to_sectors w sector n first end P are each s from below =
    let low : sector / w ≤ s / w = div_mono w sector s are.wide from in
    let high : s / w ≤ ((sector + n) - 1) / w = div_mono w s ((sector + n) - 1) are.wide (omega arith) in
    let first_is = are.first_is in
    let end_is = are.end_is in
    each (s / w) (omega arith) (omega arith)

-- and each chunk has one of the sectors
from_sectors : (w sector n first end : ℕ) (P : ℕ → Type 0) → AreChunksOf w sector n first end → ((s : ℕ) → sector ≤ s → s < sector + n → P (s / w)) → (c : ℕ) → first ≤ c → c < end → P c
from_sectors w sector n first end P are each c from below =
    let first_is = are.first_is in
    let end_is = are.end_is in
    let some = are.some in
    elim (cases_lt sector (c * w)) [
      | inl before ↦
          let last : c * w ≤ (sector + n) - 1 = (le-div_iff_mul-le {k = w} {x = c} {y = (sector + n) - 1} are.wide).0 (omega arith) in
          subst P (mul-div_left c {n = w} are.wide) (each (c * w) (omega arith) (omega arith))
      | inr inside ↦
          let up : c ≤ sector / w = (le-div_iff_mul-le {k = w} {x = c} {y = sector} are.wide).1 inside in
          let same : sector / w ≡ c = omega arith in
          subst P same (each sector (omega arith) (omega arith))
    ]

module _ (a : ArrayView) (p : PendingView) (first end : ℕ) (are : AreChunksOf a.chunks.sectors p.sector (request_sectors p) first end) where
  pub all_marked : AllInSync a (HasMarksFrom first end) → AllInSync a (HasRequestMarks a p)
  all_marked marked i m there = to_sectors _ p.sector _ first end _ are (marked i m there)

  pub first_unmarked : (j : ℕ) → IsFirstInSyncWithout a (HasMarksFrom first end) j → IsFirstInSyncWithout a (HasRequestMarks a p) j
  first_unmarked j found = record {
    member = found.member;
    in_sync = found.in_sync;
    lacks = λ has. found.lacks (from_sectors _ p.sector _ first end _ are has);
    earlier = λ i m early there. to_sectors _ p.sector _ first end _ are (found.earlier i m early there);
  }
