use Rattle.std.proofs.Common.{◌≡◌, ◌/◌, ◌*◌, ◌-◌, ℕ, length, refl, subst, arith}
use Rattle.md_members.specs.Reading.{CallFails}
use Rattle.md_raw_reports.specs.RawMembers.Elsewhere.{FindsAt}
use Rattle.md_raw_reports.proofs.RawMemberLemmas.Found.{IsLookedAt, found_among, looked_then, not_looked}
use Rattle.md_raw_reports.proofs.raw_members.elsewhere.find_elsewhere.Given as given
use Rattle.md_raw_reports.proofs.raw_members.elsewhere.find_elsewhere.Goals as goal
use Rattle.md_raw_reports.proofs.raw_members.elsewhere.find_elsewhere.Goals.{After-look_at-end}

-- one look after another
module _ (g : given.Over) (c : After-look_at-end g) where
  one : IsLookedAt g.D.Device c.args.device.now c.look_at-start.new.device
  one = let e = c.look_at-start.ensures in record { kept = e.kept; honest = e.honest; counted = e.counted; grown = e.grown }

  two : IsLookedAt g.D.Device c.look_at-start.new.device c.look_at-old_partition.new.device
  two = let e = c.look_at-old_partition.ensures in record { kept = e.kept; honest = e.honest; counted = e.counted; grown = e.grown }

  three : IsLookedAt g.D.Device c.look_at-old_partition.new.device c.look_at-partition.new.device
  three = let e = c.look_at-partition.ensures in record { kept = e.kept; honest = e.honest; counted = e.counted; grown = e.grown }

  four : IsLookedAt g.D.Device c.look_at-partition.new.device c.look_at-end.new.device
  four = let e = c.look_at-end.ensures in record { kept = e.kept; honest = e.honest; counted = e.counted; grown = e.grown }

  first_two : IsLookedAt g.D.Device c.args.device.now c.look_at-old_partition.new.device
  first_two = looked_then g.D.Device c.args.device.now c.look_at-start.new.device c.look_at-old_partition.new.device one two

  first_three : IsLookedAt g.D.Device c.args.device.now c.look_at-partition.new.device
  first_three = looked_then g.D.Device c.args.device.now c.look_at-old_partition.new.device c.look_at-partition.new.device first_two three

  last_two : IsLookedAt g.D.Device c.look_at-old_partition.new.device c.look_at-end.new.device
  last_two = looked_then g.D.Device c.look_at-old_partition.new.device c.look_at-partition.new.device c.look_at-end.new.device three four

  last_three : IsLookedAt g.D.Device c.look_at-start.new.device c.look_at-end.new.device
  last_three = looked_then g.D.Device c.look_at-start.new.device c.look_at-old_partition.new.device c.look_at-end.new.device two last_two

  place : c.saturating_sub.result ≡ length (g.D.Device.content c.args.device.now) / 512 - 16
  place =
      let size = c.sectors.ensures.size in
      let less = c.saturating_sub.ensures in
      omega (arith, size, less)

pub returns-clause-grown : goal.returns-clause-grown
returns-clause-grown g c =
    let at = (goal.at.returns-clause-grown g c).After-look_at-end in
    let all = looked_then g.D.Device c.args.device.now c.look_at-partition.new.device c.look_at-end.new.device (first_three g at) (four g at) in
    all.grown

pub returns-clause-finds : goal.returns-clause-finds
returns-clause-finds g c =
    let d = g.D.Device in
    let old = c.args.device.now in
    let new = c.look_at-end.new.device in
    let at = (goal.at.returns-clause-finds g c).After-look_at-end in
    record {
      start = c.look_at-start.result;
      old_partition = c.look_at-old_partition.result;
      partition = c.look_at-partition.result;
      end = c.look_at-end.result;
      all = refl;
      at_start = found_among d old old c.look_at-start.new.device new 0 c.look_at-start.result (not_looked d old) (last_three g at) c.look_at-start.ensures.finds;
      in_old_partition = found_among d old c.look_at-start.new.device c.look_at-old_partition.new.device new 71 c.look_at-old_partition.result (one g at) (last_two g at) c.look_at-old_partition.ensures.finds;
      in_partition = found_among d old c.look_at-old_partition.new.device c.look_at-partition.new.device new 2056 c.look_at-partition.result (first_two g at) (four g at) c.look_at-partition.ensures.finds;
      at_end = subst (λ (n : ℕ). FindsAt (d.content old) (d.honest old) (CallFails d old new) (n / 8 * 8) c.look_at-end.result) (place g at)
          (found_among d old c.look_at-partition.new.device new new (c.saturating_sub.result / 8 * 8) c.look_at-end.result (first_three g at) (not_looked d new) c.look_at-end.ensures.finds);
    }
