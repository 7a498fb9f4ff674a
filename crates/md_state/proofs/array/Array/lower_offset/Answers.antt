use Rattle.md_assembly.proofs.Indices.{got_within}
use Rattle.md_state.proofs.array.Array.lower_offset.Goals as goal

pub returns : goal.returns
returns c =
    let m = got_within c.args.self.now.members c.args.k c.requires.within in
    record { member = m.0; at = m.1; recovering = c.requires.recovering m.0 m.1; array = c.lower_member.ensures m.0 m.1 }
