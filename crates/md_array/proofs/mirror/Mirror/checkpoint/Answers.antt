use Rattle.std.proofs.Common.{◌≡◌, ℕ, max, ap, ◌∙◌, subst}
use Rattle.md_assembly.proofs.Indices.{got_same}
use Rattle.md_kept_members.specs.View.{MemberView}
use Rattle.md_state.specs.Steps.Checkpoint.{IsFirstEnd}
use Rattle.md_state.specs.Members.{IsMember}
use Rattle.md_state.specs.View.{MirrorView, disk_of}
use Rattle.md_state.proofs.Members.At.{member_read}
use Rattle.md_array.specs.declared.mirror.Mirror.TheInside.{Inside}
use Rattle.md_array.specs.Steps.Checkpoint.{MovesOffsets}
use Rattle.md_array.proofs.Rebuilding.Checkpoint.{checkpoint_ends, checkpoint_refused, checkpointed, refusal_happens}
use Rattle.md_array.proofs.StepLemmas.OneWrite.{within_members}
use Rattle.md_array.proofs.mirror.Mirror.checkpoint.Given as given
use Rattle.md_array.proofs.mirror.Mirror.checkpoint.Goals as goal
use Rattle.md_array.proofs.mirror.Mirror.checkpoint.Goals.{After-set_offsets}

-- the member that is read is the one that may be recorded
its : (g : given.Over) (c : After-set_offsets g) → c.index-member.result.now ≡ c.requires.may.member
its g c =
    let there : IsMember c.self.inside.array c.args.k c.index-member.result.now =
    member_read c.self.inside.array _ c.args.k c.index-member.result.now (ap (λ (x : Inside g.row.D.Denot). x.array) c.self-inside.view_is)
    (within_members (disk_of g.D.Device) c.self.inside.devices.items c.self.inside.array c.args.self.now c.args.k c.self.view_is c.requires.sound c.requires.within)
    c.index-member.ensures in
    got_same c.args.self.now.array.members c.args.k c.index-member.result.now c.requires.may.member
    (subst (λ (v : MirrorView). IsMember v.array c.args.k c.index-member.result.now) c.self.view_is there)
    c.requires.may.at

offset_is : (g : given.Over) (c : After-set_offsets g) → c.member.inside.offset ≡ c.requires.may.member.offset
offset_is g c = ap (λ (x : MemberView). x.offset) (c.member.view_is ∙ its g c)

sure_is : (g : given.Over) (c : After-set_offsets g) → c.member.inside.superblock.recovery_offset ≡ c.requires.may.member.superblock.recovery_offset
sure_is g c = ap (λ (x : MemberView). x.superblock.recovery_offset) (c.member.view_is ∙ its g c)

first : (g : given.Over) (c : After-set_offsets g) → IsFirstEnd c.args.self.now.array c.requires.may.member c.args.copied.now c.checkpoint_end-end.result
first g c =
    subst (λ (v : MirrorView). (m : MemberView) → IsMember v.array c.args.k m → IsFirstEnd v.array m c.args.copied.now c.checkpoint_end-end.result) c.self.view_is c.checkpoint_end-end.ensures
    c.requires.may.member c.requires.may.at

moves : (g : given.Over) (c : After-set_offsets g)
    → MovesOffsets c.args.k (max c.requires.may.member.offset c.checkpoint_end-end.result) c.checkpoint_end-end.result c.args.self.now c.set_offsets.new.self
moves g c =
    subst (λ (o : ℕ). MovesOffsets c.args.k o c.checkpoint_end-end.result c.args.self.now c.set_offsets.new.self)
    (c.max.ensures ∙ ap (λ (o : ℕ). max o c.checkpoint_end-end.result) (offset_is g c))
    c.set_offsets.ensures.moves

pub returns-in-Err-clause-gives : goal.returns-in-Err-clause-gives
returns-in-Err-clause-gives g c =
    let at = (goal.at.returns-in-Err-clause-gives g c).After-set_offsets in
    let back : MovesOffsets c.args.k c.requires.may.member.offset c.requires.may.member.superblock.recovery_offset c.record_target.new.self c.set_offsets-in-Err.new.self =
    rw (← offset_is g at, ← sure_is g at) c.set_offsets-in-Err.ensures.moves in
    checkpoint_refused c.args.k c.args.copied.now c.args.self.now c.set_offsets.new.self c.requires.sound c.requires.may c.checkpoint_end-end.result (first g at) (moves g at)
    c.record_target.new.self c.set_offsets-in-Err.new.self back c.in-Err.fault c.in-Err.ensures.gives

pub returns-in-Err-clause-event : goal.returns-in-Err-clause-event
returns-in-Err-clause-event g c =
    let at = (goal.at.returns-in-Err-clause-event g c).After-set_offsets in
    let back : MovesOffsets c.args.k c.requires.may.member.offset c.requires.may.member.superblock.recovery_offset c.record_target.new.self c.set_offsets-in-Err.new.self =
    rw (← offset_is g at, ← sure_is g at) c.set_offsets-in-Err.ensures.moves in
    refusal_happens c.args.k c.args.copied.now c.args.self.now c.set_offsets.new.self c.requires.sound c.requires.may c.checkpoint_end-end.result (first g at) (moves g at)
    c.record_target.new.self c.set_offsets-in-Err.new.self back c.in-Err.fault c.in-Err.ensures.gives

pub returns-clause-gives : goal.returns-clause-gives
returns-clause-gives g c =
    let at = (goal.at.returns-clause-gives g c).After-set_offsets in
    checkpointed c.args.k c.args.copied.now c.args.self.now c.set_offsets.new.self c.requires.sound c.requires.may c.checkpoint_end-end.result (first g at) (moves g at)
    c.record_target.new.self c.in_default.ensures.gives c.in_default.ensures.sound c.in_default.ensures.event

pub returns-clause-event : goal.returns-clause-event
returns-clause-event g c =
    let at = (goal.at.returns-clause-event g c).After-set_offsets in
    checkpoint_ends c.args.k c.args.copied.now c.args.self.now c.set_offsets.new.self c.requires.sound c.requires.may c.checkpoint_end-end.result (first g at) (moves g at)
    c.record_target.new.self c.in_default.ensures.gives c.in_default.ensures.sound c.in_default.ensures.event
