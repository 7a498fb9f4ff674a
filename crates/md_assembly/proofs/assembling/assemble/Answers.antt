use Rattle.std.proofs.Common.{◌∙◌, get_or}
use Rattle.std.proofs.lemmas.Option.{slice_get-get_or}
use Rattle.md_assembly.proofs.Freshness.{freshest_at}
use Rattle.md_assembly.proofs.Taken.{states_of_members}
use Rattle.md_assembly.proofs.assembling.assemble.Goals as goal

pub returns-clause-ok : goal.returns-clause-ok
returns-clause-ok c =
    let members = c.args.members.now in
    let i = c.freshest_of-freshest.result in
    let m = get_or members i c.index-members-freshest.result in
    let f = c.freshest_of-freshest.ensures in
    record {
      superblock = m.superblock;
      freshest = freshest_at members i m f.freshest.0 (slice_get-get_or members i c.index-members-freshest.result f.within) f.freshest.1;
      states = c.in_ok-states.ensures ∙ states_of_members m.superblock members;
    }
