use Rattle.std.proofs.lemmas.List.{take_rest}
use Rattle.md_badblocks.proofs.Joins.{rises_behind, places_part}
use Rattle.md_badblocks.proofs.editing.places_between.Goals as goal

pub first_starting_at-requires : goal.first_starting_at-requires
first_starting_at-requires c =
    rw (take_rest c.args.runs.now c.first_ending_at-from.result) (rises_behind c.args.runs.now c.first_ending_at-from.result c.requires)

pub returns : goal.returns
returns c =
    let runs = c.args.runs.now in
    let from = c.first_ending_at-from in
    let count = c.first_starting_at in
    places_part c.args.low c.args.high runs _ from.result count.result from.ensures.bound (take_rest runs from.result) from.ensures.before from.ensures.after count.ensures.bound count.ensures.before count.ensures.after
