use Rattle.std.proofs.Common.{◌≡◌, MatchResult, refl, subst, sym}
use Rattle.md_bitmap.specs.declared.chunks.Chunks.{Chunks}
use Rattle.md_bitmap.specs.Marks.{count_set}
use Rattle.md_collect.specs.Found.{IsSized}
use Rattle.md_report.specs.AsText.CheckReport.{list_text}
use Rattle.md_state.specs.Requests.{IsPending}
use Rattle.md_state.specs.View.{ArrayView}
use Rattle.md_refusals.specs.Output.{FailsOutput}
use Rattle.md_streams.specs.Putting.{PutsOut}
use Rattle.md_commands.proofs.Checked.{refused_stays}
use Rattle.md_commands.proofs.Listed.{found_sized, listed_or_not}
use Rattle.md_refusals.proofs.Wrapped.{own_err, own_ok, own_on_ok}
use Rattle.md_commands.proofs.checking.list_mismatches.Goals as goal

pub put_listed-requires : goal.put_listed-requires
put_listed-requires g c =
    let compares = own_ok _ _ _ c.compare_members.result _ _ c.compare_members.ensures.gives c.in_ok-found.ensures.cases c.in_ok-found.ensures.variant refl in
    subst (λ (chunks : Chunks). IsSized chunks c.in_ok-found.found) (sym c.chunks-chunks.ensures)
    (found_sized c.args.mirror.now c.compare_members.new.mirror c.in_ok-found.found c.requires.sound compares)

pub returns-in_err-found-clause-pending : goal.returns-in_err-found-clause-pending
returns-in_err-found-clause-pending g c p is =
    let own = own_err _ _ _ c.compare_members.result _ _ c.compare_members.ensures.gives c.in_err-found.ensures.cases refl in
    subst (λ (a : ArrayView). IsPending a p) (sym (refused_stays own.0 c.args.mirror.now c.compare_members.new.mirror own.1)) is

pub returns-clause-gives : goal.returns-clause-gives
returns-clause-gives g c =
    let put = c.put_listed in
    let compares = own_ok _ _ _ c.compare_members.result _ _ c.compare_members.ensures.gives c.in_ok-found.ensures.cases c.in_ok-found.ensures.variant refl in
    let old = c.args.mirror.now in
    let shown = subst (λ (chunks : Chunks). MatchResult put.result (λ count. (count ≡ count_set c.in_ok-found.found.chunks.bytes c.in_ok-found.found.chunks.chunks) × PutsOut g.S.Sink c.args.out.now put.new.out (list_text chunks c.in_ok-found.found)) (FailsOutput g.S.Sink put.new.out)) c.chunks-chunks.ensures put.ensures in
    listed_or_not g.S.Sink old c.compare_members.new.mirror c.args.out.now put.new.out (list_text old.array.chunks) c.in_ok-found.found compares put.result shown

pub returns-clause-told_of_reads : goal.returns-clause-told_of_reads
returns-clause-told_of_reads g c =
    own_on_ok _ _ c.compare_members.result _ _ c.put_listed.result c.compare_members.ensures.told c.in_ok-found.ensures.cases c.in_ok-found.ensures.variant refl
