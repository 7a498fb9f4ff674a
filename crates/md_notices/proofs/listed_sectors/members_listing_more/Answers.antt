use Rattle.std.proofs.Common.{◌≡◌, ℕ, ◌<◌, arith, Option, None, get_or, length, rules, subst, sym}
use Rattle.std.proofs.lemmas.List.Edits.{fill_by_more}
use Rattle.std.proofs.lemmas.List.FromFn.{fill_by_all}
use Rattle.std.proofs.Math.ListN.{set}
use Rattle.md_notices.specs.ListedSectors.{longer_list_at}
use Rattle.md_notices.proofs.listed_sectors.members_listing_more.Goals as goal

pub loop-k-preserved : goal.loop-k-preserved
loop-k-preserved g c =
    let f = longer_list_at c.args.was.now c.args.mirror.now.array.members c.args.asked in
    let inside : c.loop-k.k < length c.loop-k.more = omega (arith, c.loop-k.invariant.size) in
    let more = fill_by_more f c.loop-k.more c.loop-k.k None inside c.loop-k.invariant.so in
    record {
      size = search rules;
      so = λ i lt. subst (λ (x : Option ℕ). get_or (set c.loop-k.more c.loop-k.k x) i None ≡ f i) (sym c.longer_list_at.ensures) (more i lt);
    }

pub returns : goal.returns
returns g c =
    fill_by_all (longer_list_at c.args.was.now c.args.mirror.now.array.members c.args.asked) c.loop-k.more 64 None c.loop-k.invariant.size (search rules)
