use Rattle.std.proofs.Common.{◌≡◌, ◌∙◌, ◌≤◌, ℕ, inl, inr, refl, ap, arith, subst, sym}
use Rattle.md_assembly.proofs.Indices.{got_within}
use Rattle.md_badblocks.specs.Runs.{entries_needed}
use Rattle.md_kept_members.specs.Enrolling.{log_room}
use Rattle.md_metadata.specs.declared.fault.PartFault.TheVariants as part
use Rattle.md_state.proofs.Members.At.{told}
use Rattle.md_commands.proofs.SetAside.{members_then, running_then}
use Rattle.md_commands.proofs.setting_aside.store_if_fitting.Goals as goal

pub returns-then-entries_needed-log_room-clause-gives : goal.returns-then-entries_needed-log_room-clause-gives
returns-then-entries_needed-log_room-clause-gives g c = inr (
  λ fits.
      let a = c.args.mirror.now.array in
      let here = got_within a.members c.args.k c.requires.within in
      let bad = told (λ x. x.bad) a c.args.k here.0 c.bad.result.now c.bad.ensures here.1 in
      let own = told (λ x. x.superblock) a c.args.k here.0 c.own.result.now c.own.ensures here.1 in
      let needed : c.entries_needed.result ≡ entries_needed here.0.bad = c.entries_needed.ensures ∙ ap entries_needed (sym bad) in
      let room : c.log_room.result ≡ log_room here.0.superblock = c.log_room.ensures ∙ ap log_room (sym own) in
      let few : entries_needed here.0.bad ≤ log_room here.0.superblock = fits here.0 here.1 in
      let more = c.if-entries_needed-log_room.true in
      omega (arith, needed, room, few, more),
  refl,
)

pub store_with_due-requires-clause-room : goal.store_with_due-requires-clause-room
store_with_due-requires-clause-room g c m at =
    let a = c.args.mirror.now.array in
    let bad = told (λ x. x.bad) a c.args.k m c.bad.result.now c.bad.ensures at in
    let own = told (λ x. x.superblock) a c.args.k m c.own.result.now c.own.ensures at in
    subst (λ (n : ℕ). n ≤ log_room m.superblock) (c.entries_needed.ensures ∙ ap entries_needed (sym bad))
    (subst (λ (n : ℕ). c.entries_needed.result ≤ n) (c.log_room.ensures ∙ ap log_room (sym own)) c.if-entries_needed-log_room.false)
