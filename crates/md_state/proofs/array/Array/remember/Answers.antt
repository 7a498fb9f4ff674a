use Rattle.std.proofs.Common.{◌∙◌, List, length, refl, sym, subst, arith}
use Rattle.std.proofs.lemmas.Option.{slice_get_read}
use Rattle.md_kept_members.specs.View.{MemberView}
use Rattle.md_kept_members.specs.Remembering.{AreKept, IsLastClearedOr}
use Rattle.md_kept_members.proofs.Kept.Offsets.{are_known, last_stays}
use Rattle.md_state.proofs.Kept.Geometry.{count_of, freshest_within}
use Rattle.md_state.proofs.Kept.Remembered.{marks_within, remembered}
use Rattle.md_state.proofs.array.Array.remember.Goals as goal

pub chunking_of-chunks-requires : goal.chunking_of-chunks-requires
chunking_of-chunks-requires c =
    let infos = c.args.infos.items in
    let within = freshest_within infos c.args.assembly c.requires.assembled in
    c.requires.whole c.args.assembly.freshest c.index-freshest.result.now (slice_get_read infos (length infos) c.args.assembly.freshest c.index-freshest.result.now refl within c.index-freshest.ensures)

pub united_marks-requires : goal.united_marks-requires
united_marks-requires c k m listed =
    let infos = c.args.infos.items in
    let fresh = c.index-freshest.result.now in
    let within = freshest_within infos c.args.assembly c.requires.assembled in
    let there = slice_get_read infos (length infos) c.args.assembly.freshest fresh refl within c.index-freshest.ensures in
    let cleared = c.last_cleared-events_cleared.result in
    let read = rw c.deref.ensures.value at c.in_ok-read.ensures in
    let kept = subst (λ (ms : List MemberView). AreKept c.in_ok-shared.shared.events cleared infos c.args.assembly.states.items ms) (sym c.with_known_offsets-members.ensures) (are_known c.in_ok-shared.shared.events cleared infos _ _ read) in
    let same = rw c.deref-3.ensures.value at listed in
    count_of c.in_ok-shared.shared.events cleared infos c.args.assembly c.with_known_offsets-members.result.items fresh c.chunking_of-chunks.result c.requires.whole c.requires.sound c.requires.assembled there c.chunking_of-chunks.ensures kept k m same ∙ sym c.count.ensures.count

pub is_resynced-resynced-requires : goal.is_resynced-resynced-requires
is_resynced-resynced-requires c k set =
    let infos = c.args.infos.items in
    let fresh = c.index-freshest.result.now in
    let within = freshest_within infos c.args.assembly c.requires.assembled in
    let there = slice_get_read infos (length infos) c.args.assembly.freshest fresh refl within c.index-freshest.ensures in
    let cleared = c.last_cleared-events_cleared.result in
    let read = rw c.deref.ensures.value at c.in_ok-read.ensures in
    let kept = subst (λ (ms : List MemberView). AreKept c.in_ok-shared.shared.events cleared infos c.args.assembly.states.items ms) (sym c.with_known_offsets-members.ensures) (are_known c.in_ok-shared.shared.events cleared infos _ _ read) in
    let counted = count_of c.in_ok-shared.shared.events cleared infos c.args.assembly c.with_known_offsets-members.result.items fresh c.chunking_of-chunks.result c.requires.whole c.requires.sound c.requires.assembled there c.chunking_of-chunks.ensures kept in
    let marked = rw c.deref-3.ensures.value at (c.in_ok-marks.ensures.bits k).0 set in
    let below = marks_within c.with_known_offsets-members.result.items _ _ k counted marked in
    let count = c.count.ensures.count in
    let chunks = c.in_ok-marks.ensures.chunks in
    omega arith

pub returns : goal.returns
returns c =
    let infos = c.args.infos.items in
    let fresh = c.index-freshest.result.now in
    let within = freshest_within infos c.args.assembly c.requires.assembled in
    let there = slice_get_read infos (length infos) c.args.assembly.freshest fresh refl within c.index-freshest.ensures in
    let cleared = c.last_cleared-events_cleared.result in
    let read = rw c.deref.ensures.value at c.in_ok-read.ensures in
    let kept = subst (λ (ms : List MemberView). AreKept c.in_ok-shared.shared.events cleared infos c.args.assembly.states.items ms) (sym c.with_known_offsets-members.ensures) (are_known c.in_ok-shared.shared.events cleared infos _ _ read) in
    let last = subst (λ (ms : List MemberView). IsLastClearedOr c.in_ok-shared.shared.events ms cleared) (sym c.with_known_offsets-members.ensures)
    (last_stays cleared c.in_ok-shared.shared.events c.in_ok-read.read.items cleared (rw c.deref-2.ensures.value at c.last_cleared-events_cleared.ensures)) in
    remembered infos c.args.assembly fresh _ c.requires.whole c.requires.sound c.requires.assembled there c.in_ok-shared.ensures c.chunking_of-chunks.ensures kept (record {
      count = c.in_ok-marks.ensures.chunks ∙ c.count.ensures.count;
      bits = λ k. rw c.deref-3.ensures.value at c.in_ok-marks.ensures.bits k;
      cleared = last;
      synced = rw c.deref-4.ensures.value at c.is_resynced-resynced.ensures;
      running = refl;
      idle = λ i. record c.no_requests.result { entries = c.no_requests.ensures.entries i; next = c.no_requests.ensures.next i };
    })
