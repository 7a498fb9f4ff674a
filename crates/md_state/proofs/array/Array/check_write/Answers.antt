use Rattle.std.proofs.Common.{◌≡◌, ◌∙◌, ◌<◌, ◌+◌, ◌-◌, ◌/◌, ℕ, true, sym, ap, refl, inl, inr, rules}
use Rattle.md_assembly.specs.States.{is_in_sync}
use Rattle.md_assembly.proofs.Indices.{got_same}
use Rattle.md_inflight.specs.Requests.Pending.{PendingView, has_written, request_sectors}
use Rattle.md_kept_members.specs.View.{MemberView}
use Rattle.md_state.specs.View.{ArrayView}
use Rattle.md_state.specs.Members.{IsInSync, IsMember}
use Rattle.md_state.specs.Steps.Begin.{first_sector}
use Rattle.md_state.proofs.Members.FirstLacking.{all_recorded, first_to_record, first_to_say, none_says}
use Rattle.md_state.proofs.Members.At.{member_read}
use Rattle.md_state.proofs.Changes.RequestChunks.{AreChunksOf, all_marked, first_unmarked}
use Rattle.md_state.proofs.array.Array.check_write.Goals as goal

-- a member that was read in a state of that kind
in_sync_at : (a : ArrayView) (k : ℕ) (m inside : MemberView) (answer : _) → IsMember a k m → inside ≡ m → answer ≡ is_in_sync inside.state → answer ≡ true → IsInSync a k m
in_sync_at a k m inside answer at same told is = record { member = at; in_sync = ap (λ (x : MemberView). is_in_sync x.state) (sym same) ∙ sym told ∙ is }

chunks_are : (a b : ArrayView) (p : PendingView) (sector n first end : ℕ) → a ≡ b → 0 < b.chunks.sectors → 0 < request_sectors p → sector ≡ p.sector → n ≡ request_sectors p → first ≡ sector / a.chunks.sectors
    → end ≡ ((sector + n) - 1) / a.chunks.sectors + 1 → AreChunksOf b.chunks.sectors p.sector (request_sectors p) first end
chunks_are a b p sector n first end same_array wide some start count first_is end_is = record {
  wide = wide;
  some = some;
  first_is = first_is ∙ rw (same_array, start) refl;
  end_is = end_is ∙ rw (same_array, start, count) refl;
}

-- where the request's first chunk begins
start_is : (a : ArrayView) (p : PendingView) (start sector : ℕ) → start ≡ first_sector a sector → sector ≡ p.sector → start ≡ first_sector a p.sector
start_is a p start sector is same = is ∙ ap (first_sector a) same

pub returns-then-not-is_in_sync : goal.returns-then-not-is_in_sync
returns-then-not-is_in_sync c disks =
    let m = c.index-member.result.now in
    let at = member_read c.args.self.now _ c.args.k m c.self.view_is c.requires.within c.index-member.ensures in
    let state : is_in_sync c.member.inside.state ≡ is_in_sync m.state = ap (λ (x : MemberView). is_in_sync x.state) c.member.view_is in
    let told = c.is_in_sync.ensures in
    let not_in = c.if-not-is_in_sync.true in
    (record { unchanged = refl; reason = record { running = search rules; member = m; at = at; out = cc } }, refl)

pub returns-in-Some : goal.returns-in-Some
returns-in-Some c disks =
    let m = c.index-member.result.now in
    let at = member_read c.args.self.now _ c.args.k m c.self.view_is c.requires.within c.index-member.ensures in
    let in_sync = in_sync_at c.args.self.now c.args.k m _ _ at c.member.view_is c.is_in_sync.ensures c.if-not-is_in_sync.false in
    let are = chunks_are _ c.args.self.now c.args.pending.now _ _ _ _ c.self.view_is c.requires.chunks.wide c.requires.range.some c.sector.ensures c.sectors.ensures c.chunks_of-first.ensures.first c.chunks_of-first.ensures.end in (
      record {
        unchanged = refl;
        reason = record { running = search rules; member = m; in_sync = in_sync; first = first_unmarked c.args.self.now c.args.pending.now _ _ are c.in-Some.j c.in-Some.ensures };
      },
      refl,
    )

pub returns-in-Some-first_due : goal.returns-in-Some-first_due
returns-in-Some-first_due c disks =
    let m = c.index-member.result.now in
    let at = member_read c.args.self.now _ c.args.k m c.self.view_is c.requires.within c.index-member.ensures in
    let in_sync = in_sync_at c.args.self.now c.args.k m _ _ at c.member.view_is c.is_in_sync.ensures c.if-not-is_in_sync.false in
    let are = chunks_are _ c.args.self.now c.args.pending.now _ _ _ _ c.self.view_is c.requires.chunks.wide c.requires.range.some c.sector.ensures c.sectors.ensures c.chunks_of-first.ensures.first c.chunks_of-first.ensures.end in (
      record {
        unchanged = refl;
        reason = record {
          running = search rules;
          member = m;
          in_sync = in_sync;
          marked = all_marked c.args.self.now c.args.pending.now _ _ are c.in_default.ensures;
          first = inl (first_to_record c.args.self.now c.in-Some-first_due.j (sym c.first_due.ensures ∙ c.in-Some-first_due.is));
        };
      },
      refl,
    )

pub returns-in-Some-first_to_say : goal.returns-in-Some-first_to_say
returns-in-Some-first_to_say c disks =
    let m = c.index-member.result.now in
    let at = member_read c.args.self.now _ c.args.k m c.self.view_is c.requires.within c.index-member.ensures in
    let in_sync = in_sync_at c.args.self.now c.args.k m _ _ at c.member.view_is c.is_in_sync.ensures c.if-not-is_in_sync.false in
    let are = chunks_are _ c.args.self.now c.args.pending.now _ _ _ _ c.self.view_is c.requires.chunks.wide c.requires.range.some c.sector.ensures c.sectors.ensures c.chunks_of-first.ensures.first c.chunks_of-first.ensures.end in (
      record {
        unchanged = refl;
        reason = record {
          running = search rules;
          member = m;
          in_sync = in_sync;
          marked = all_marked c.args.self.now c.args.pending.now _ _ are c.in_default.ensures;
          first = inr (
            all_recorded c.args.self.now (sym c.first_due.ensures ∙ c.in_default-first_due.is),
            first_to_say c.args.self.now c.args.pending.now _ (start_is c.args.self.now c.args.pending.now _ _ c.chunk_start.ensures c.sector-2.ensures) c.in-Some-first_to_say.j (sym c.first_to_say.ensures ∙ c.in-Some-first_to_say.is),
          );
        };
      },
      refl,
    )

pub returns-then-has_written : goal.returns-then-has_written
returns-then-has_written c disks =
    let m = c.index-member.result.now in
    let at = member_read c.args.self.now _ c.args.k m c.self.view_is c.requires.within c.index-member.ensures in
    let in_sync = in_sync_at c.args.self.now c.args.k m _ _ at c.member.view_is c.is_in_sync.ensures c.if-not-is_in_sync.false in
    let are = chunks_are _ c.args.self.now c.args.pending.now _ _ _ _ c.self.view_is c.requires.chunks.wide c.requires.range.some c.sector.ensures c.sectors.ensures c.chunks_of-first.ensures.first c.chunks_of-first.ensures.end in (
      record {
        unchanged = refl;
        reason = record {
          member = m;
          intent = record {
            running = search rules;
            in_sync = in_sync;
            marked = all_marked c.args.self.now c.args.pending.now _ _ are c.in_default.ensures;
            recorded = all_recorded c.args.self.now (sym c.first_due.ensures ∙ c.in_default-first_due.is);
            unsaid = none_says c.args.self.now c.args.pending.now _ (start_is c.args.self.now c.args.pending.now _ _ c.chunk_start.ensures c.sector-2.ensures) (sym c.first_to_say.ensures ∙ c.in_default-first_to_say.is);
          };
          written = ap (λ (x : MemberView). has_written c.args.pending.now x.superblock.dev_number) (sym c.member.view_is) ∙ sym c.has_written.ensures ∙ c.if-has_written.true;
        };
      },
      refl,
    )

pub returns : goal.returns
returns c disks n there =
    let m = c.index-member.result.now in
    let at = member_read c.args.self.now _ c.args.k m c.self.view_is c.requires.within c.index-member.ensures in
    let in_sync = in_sync_at c.args.self.now c.args.k m _ _ at c.member.view_is c.is_in_sync.ensures c.if-not-is_in_sync.false in
    let are = chunks_are _ c.args.self.now c.args.pending.now _ _ _ _ c.self.view_is c.requires.chunks.wide c.requires.range.some c.sector.ensures c.sectors.ensures c.chunks_of-first.ensures.first c.chunks_of-first.ensures.end in
    let same : n ≡ m = got_same c.args.self.now.members c.args.k n m there at in
    rw same (record {
      intent = record {
        running = search rules;
        in_sync = in_sync;
        marked = all_marked c.args.self.now c.args.pending.now _ _ are c.in_default.ensures;
        recorded = all_recorded c.args.self.now (sym c.first_due.ensures ∙ c.in_default-first_due.is);
        unsaid = none_says c.args.self.now c.args.pending.now _ (start_is c.args.self.now c.args.pending.now _ _ c.chunk_start.ensures c.sector-2.ensures) (sym c.first_to_say.ensures ∙ c.in_default-first_to_say.is);
      };
      unwritten = ap (λ (x : MemberView). has_written c.args.pending.now x.superblock.dev_number) (sym c.member.view_is) ∙ sym c.has_written.ensures ∙ c.if-has_written.false;
    })
