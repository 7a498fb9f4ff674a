use Rattle.std.proofs.Common.{◌≡◌, ◌<◌, ◌↔◌, IsTrue, length, subst, sym}
use Rattle.md_kept_members.specs.View.{MemberView}
use Rattle.md_kept_members.specs.Members.{NeedsMarks}
use Rattle.md_state.specs.Members.{IsMember}
use Rattle.md_state.specs.View.{MirrorView}
use Rattle.md_state.proofs.Members.At.{member_read}
use Rattle.md_array.proofs.mirror.Mirror.stored_marks_at_opening.Goals as goal
use Rattle.md_assembly.proofs.Indices.{got_same}

pub returns : goal.returns
returns g c m at =
    let is = c.index-member.result.now in
    let within : c.args.k < length c.self.inside.array.members = subst (λ (v : MirrorView). c.args.k < length v.array.members) (sym c.self.view_is) c.requires in
    let there : IsMember c.self.inside.array c.args.k is = member_read c.self.inside.array _ c.args.k is c.array.view_is within c.index-member.ensures in
    let given : IsMember c.self.inside.array c.args.k m = subst (λ (v : MirrorView). IsMember v.array c.args.k m) (sym c.self.view_is) at in
    let same : is ≡ m = got_same c.self.inside.array.members c.args.k is m there given in
    subst (λ (x : MemberView). IsTrue c.needs_marks.result ↔ NeedsMarks x) same c.needs_marks.ensures
