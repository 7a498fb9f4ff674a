use Rattle.std.proofs.Common.{◌≡◌, ◌∙◌, ◌≤◌, ℕ, ap, arith, subst, sym, true≢false}
use Rattle.md_assembly.proofs.Indices.{got_within}
use Rattle.md_badblocks.specs.Runs.{entries_needed}
use Rattle.md_state.proofs.Members.At.{told}
use Rattle.md_cli.specs.Lacking.{usable_room}
use Rattle.md_cli.proofs.lists.storing_lists.may_store.Goals as goal

pub returns-then-halted-clause-may_not : goal.returns-then-halted-clause-may_not
returns-then-halted-clause-may_not g c = λ _ h. true≢false (sym c.if-halted.true ∙ c.halted.ensures ∙ h.running)

pub returns-then-not-is_lacking-clause-may_not : goal.returns-then-not-is_lacking-clause-may_not
returns-then-not-is_lacking-clause-may_not g c = λ _ h. true≢false (sym (c.is_lacking.ensures.1 h.lacks) ∙ (let no = c.if-not-is_lacking.true in cc))

pub returns-then-entries_needed-usable_room-clause-may_not : goal.returns-then-entries_needed-usable_room-clause-may_not
returns-then-entries_needed-usable_room-clause-may_not g c = λ _ h.
    let a = c.args.mirror.now.array in
    let here = got_within a.members c.args.k c.requires.within in
    let bad = told (λ x. x.bad) a c.args.k here.0 c.bad.result.now c.bad.ensures here.1 in
    let own = told (λ x. x.superblock) a c.args.k here.0 c.own.result.now c.own.ensures here.1 in
    let needed : c.entries_needed.result ≡ entries_needed here.0.bad = c.entries_needed.ensures ∙ ap entries_needed (sym bad) in
    let room : c.usable_room.result ≡ usable_room here.0.superblock = c.usable_room.ensures ∙ ap usable_room (sym own) in
    let fits : entries_needed here.0.bad ≤ usable_room here.0.superblock = h.room here.0 here.1 in
    let more = c.if-entries_needed-usable_room.true in
    omega (arith, needed, room, fits, more)

pub returns-clause-may : goal.returns-clause-may
returns-clause-may g c = λ yes. record {
  lacks = c.is_lacking.ensures.0 (let yes = c.if-not-is_lacking.false in cc);
  running = sym c.halted.ensures ∙ c.if-halted.false;
  room = λ m at. (
      let a = c.args.mirror.now.array in
      let bad = told (λ x. x.bad) a c.args.k m c.bad.result.now c.bad.ensures at in
      let own = told (λ x. x.superblock) a c.args.k m c.own.result.now c.own.ensures at in
      let needed = c.entries_needed.ensures in
      let room = c.usable_room.ensures in
      subst (λ (n : ℕ). n ≤ usable_room m.superblock) (needed ∙ ap entries_needed (sym bad)) (subst (λ (n : ℕ). c.entries_needed.result ≤ n) (room ∙ ap usable_room (sym own)) c.if-entries_needed-usable_room.false)
      );
  earlier = c.is_none_due.ensures.none yes;
}

pub returns-clause-may_not : goal.returns-clause-may_not
returns-clause-may_not g c = λ no h.
    let some = c.is_none_due.ensures.some no in
    true≢false (sym some.4 ∙ h.earlier some.0 some.1 some.2 some.3)
