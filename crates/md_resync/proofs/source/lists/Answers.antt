use Rattle.std.proofs.Common.{List, ◌+◌, arith, ap, sym, ◌∙◌, subst}
use Rattle.std.specs.Prelude.{option_map}
use Rattle.std.proofs.lemmas.Option.{same_Some}
use Rattle.md_badblocks.specs.declared.run.Run.{Run}
use Rattle.md_badblocks.specs.Runs.{IsBad}
use Rattle.md_badblocks.proofs.Rising.{bad_below}
use Rattle.md_kept_members.specs.View.{MemberView}
use Rattle.md_resync.proofs.source.lists.Goals as goal

pub returns-in_default : goal.returns-in_default
returns-in_default g c m at =
    let canonical = c.runs.ensures.canonical in
    let own = same_Some _ _ (sym (ap (option_map (λ (x : MemberView). x.superblock)) at) ∙ c.own.ensures) in
    let bad = same_Some _ _ (sym (ap (option_map (λ (x : MemberView). x.bad)) at) ∙ c.bad-bad.ensures) in (
      λ e. absurd cc,
      λ lists.
          let low = bad_below 0 _ _ canonical (subst (λ (runs : List Run). IsBad runs (m.superblock.data_offset + c.args.sector)) bad lists) in
          let same = ap (λ s. s.data_offset) own in
          absurd (c.in_default.ensures (omega arith)),
    )
