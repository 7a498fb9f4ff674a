use Rattle.std.proofs.Common.{ℕ, List, subst}
use Rattle.md_refusals.specs.Output.{ShowsText}
use Rattle.md_examine_commands.specs.Examining.{scan_shown}
use Rattle.md_examine_commands.specs.declared.scan.refused.Refused.{Refused}
use Rattle.md_examine_commands.specs.declared.scan.seen.Seen.{Seen}
use Rattle.md_examine_commands.proofs.NoArray.{nothing_shown}
use Rattle.md_examine_commands.proofs.reports.show_scan.Goals as goal

pub returns-clause-shows : goal.returns-clause-shows
returns-clause-shows g c =
    let Shows : List Seen → List Refused → Type 0 = λ seen refused. ShowsText g.S.Sink (scan_shown c.args.json c.args.is_named seen refused) c.args.out.now c.put_scan.new.out c.put_scan.result in
    subst (λ (all : List Seen). Shows all c.args.looked.now.refused.items) c.as_slice.ensures.value
    (subst (λ (all : List Refused). Shows c.as_slice.result.now all) c.as_slice-2.ensures.value c.put_scan.ensures)

pub returns-clause-nothing : goal.returns-clause-nothing
returns-clause-nothing g c = λ as_object none.
    subst (λ (t : List ℕ). ShowsText g.S.Sink t c.args.out.now c.put_scan.new.out c.put_scan.result)
    (nothing_shown c.args.json c.args.is_named c.args.looked.now.seen.items c.args.looked.now.refused.items as_object none)
    (returns-clause-shows g c)
