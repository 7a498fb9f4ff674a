use Rattle.std.proofs.Common.{◌≡◌, ◌∙◌, ℕ, ◌<◌, ◌≤◌, length, arith, rules, refl, ap, sym, take}
use Rattle.std.specs.List.{list_all}
use Rattle.std.proofs.lemmas.List.{take_all}
use Rattle.md_notices.specs.LostSectors.{lists_if_in_sync}
use Rattle.md_notices.proofs.lost_sectors.stretch_at.Goals as goal

pub loop-k-preserved : goal.loop-k-preserved
loop-k-preserved g c =
    let more = c.stretch_with-stretch.ensures in
    record {
      some = more.some;
      within = omega (arith, more.within, c.loop-k.invariant.within);
      alike = λ s low high. more.alike s low high (c.loop-k.invariant.alike s low (omega (arith, high, more.within)));
    }

pub returns-clause-alike : goal.returns-clause-alike
returns-clause-alike g c s low high =
    let members = c.args.mirror.now.array.members in
    sym (ap (list_all (lists_if_in_sync s)) (take_all c.loop-k.k members (search (rules, arith)))) ∙ c.loop-k.invariant.alike s low high
