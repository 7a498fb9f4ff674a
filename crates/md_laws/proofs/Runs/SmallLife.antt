-- A mirror of one member that is opened, has a run of two events and is opened again has a life.
use Rattle.std.proofs.Common.{◌≡◌, ℕ, ◌<◌, inl, inr, Bool, true, false, cond, eqb, nat_lt, ◌*◌, List, [], ◌∷◌, length, slice_get, Option, Some, None, refl, sym, ap, ◌∙◌, subst, arith, lt-ltb}
use Rattle.std.proofs.lemmas.Option.{none-some, same_Some, slice_get_within}
use Rattle.md_members.proofs.DeviceWriteLemmas.Frames.{outside_none}
use Rattle.md_members.specs.Areas.{bitmap_sectors}
use Rattle.md_model.specs.Devices.{AgreeAt, Stored}
use Rattle.md_model.specs.Events.{Event}
use Rattle.md_model.specs.Sectors.{put}
use Rattle.md_model.specs.Worlds.{World}
use Rattle.md_model.proofs.Cases.{by_test, is_below}
use Rattle.md_inflight.specs.Requests.Pending.{PendingView}
use Rattle.md_kept_members.specs.OnDevices.Storing.{sector_from_super}
use Rattle.md_state.specs.View.{ArrayView, Disk, MirrorView}
use Rattle.md_state.specs.Requests.{among, request_of}
use Rattle.md_array.specs.Consistency.{IsConsistent}
use Rattle.md_array.specs.Events.{BeginHappens, Happens}
use Rattle.md_array.specs.Open.Opened.{IsOpenedFrom}
use Rattle.md_array.specs.Worlds.{AreHonest, none_in_flight, world_on}
use Rattle.md_array.proofs.Worlds.InSync.{in_sync_is}
use Rattle.md_laws.specs.Lives.{IsFoundAgain, IsReopened}
use Rattle.md_laws.specs.Runs.{IsStart, Moment, opened_as}
use Rattle.md_laws.specs.SmallLife.{HasSmallLife, RunsTwice, begun_and_recorded}
use Rattle.md_laws.proofs.Runs.Moments.{run_keeps, sound_when_opened}
use Rattle.md_laws.proofs.Runs.Rests.{at_once, at_rest, rests_same}
use Rattle.md_assembly.proofs.Indices.{got_within}

pub runs_twice : (m began new : MirrorView) (p : PendingView) → BeginHappens m began p → Happens began (Event.Record 0) new → AreHonest m.disks → RunsTwice m new
runs_twice m began new p begins records honest =
    let first = begins honest none_in_flight (λ n q is. absurd (none-some q is)) in
    let requests = among p none_in_flight in
    let second = records first.honest requests first.in_flight in
    record {
      number = p.ticket.number;
      request = request_of p;
      requests = requests;
      run = (
        began,
        requests,
        at_once m began none_in_flight requests (Event.Begin p.ticket.number (request_of p)) first,
        (new, requests, at_once began new requests requests (Event.Record 0) second, record { rests = rests_same new; is = refl }),
      );
    }

-- one member agrees with itself
lone_start : (before : List Disk) (m : MirrorView) → AreHonest before → IsOpenedFrom before m → length m.array.members ≡ 1 → IsStart before m
lone_start before m honest opened one = record {
  honest = honest;
  opened = opened;
  covered = λ i j k s low in_i in_j in_k clear.
      let x = in_sync_is m.disks m.array none_in_flight j in_j in
      let y = in_sync_is m.disks m.array none_in_flight k in_k in
      let below_j = slice_get_within m.array.members j x.0 x.1.member in
      let below_k = slice_get_within m.array.members k y.0 y.1.member in
      let same : j ≡ k = omega arith in
      let stored : ℕ → Stored = (world_on before m.array none_in_flight).stored in
      subst (λ (n : ℕ). AgreeAt (stored j) (stored n) s) same (λ _ _. refl);
}

-- the superblock of member 0 was stored, and no member was spoiled before
none_spoiled : (k : ℕ) → put 0 false (λ _. false) k ≡ false
none_spoiled k = same_either (eqb k 0)
  where
    same_either : (b : Bool) → cond b false false ≡ false
    same_either true = refl
    same_either false = refl

-- where device k is found again: where it was
abbrev at : (disks : List Disk) → ℕ → Option ℕ
at disks k = cond (nat_lt k (length disks)) (Some k) None

at_itself : (disks : List Disk) (k : ℕ) → k < length disks → at disks k ≡ Some k
at_itself disks k low = ap (λ b. cond b (Some k) None) (lt-ltb k (length disks) low)

at_back : (disks : List Disk) (j k : ℕ) → at disks j ≡ Some k → at disks k ≡ Some j
at_back disks j k is = by_test (nat_lt j (length disks))
    (λ inside.
    let same : j ≡ k = same_Some j k (sym (ap (λ b. cond b (Some j) None) inside) ∙ is) in
    subst (λ (i : ℕ). at disks i ≡ Some j) same (at_itself disks j (is_below j (length disks) inside)))
    (λ past. absurd (none-some k (sym (ap (λ b. cond b (Some j) None) past) ∙ is)))

again : (v : MirrorView) → IsConsistent v → (k j : ℕ) → at v.disks k ≡ Some j → IsFoundAgain v.array v.disks v.disks k j
again v sound k j is =
    by_test (nat_lt k (length v.disks))
    (λ inside.
    let same : k ≡ j = same_Some k j (sym (ap (λ b. cond b (Some k) None) inside) ∙ is) in
    let low = is_below k (length v.disks) inside in
    let many = sound.fits.as_many in
    let d = got_within v.disks k (omega arith) in
    let m = got_within v.array.members k (omega arith) in
    record {
      member = m.0;
      is_member = m.1;
      disk_left = d.0;
      at_left = d.1;
      disk_now = d.0;
      at_now = sym (ap (slice_get v.disks) same) ∙ d.1;
      as_left = record { outside = outside_none (512 * sector_from_super m.0.superblock.bitmap_offset) (512 * bitmap_sectors m.0.stored.chunks) d.0.content; chunk_size = refl; marks = λ s small clear. clear };
    })
    (λ past. absurd (none-some j (sym (ap (λ b. cond b (Some k) None) past) ∙ is)))

pub small_life : (before : List Disk) (m mid next : MirrorView) → IsOpenedFrom before m → length m.array.members ≡ 1 → RunsTwice m mid → IsOpenedFrom mid.disks next
    → m.array.shared.events < next.array.shared.events → AreHonest before → HasSmallLife before next
small_life before m mid next opened one r opens late honest =
    let t : Moment = begun_and_recorded m mid r.requests in
    let at_t = run_keeps (Event.Begin r.number r.request ∷ Event.Record 0 ∷ []) (opened_as m) t r.run (sound_when_opened before m honest opened) in
    let members_many = opens.array.remembered.as_many in
    let read_many = opens.array.read.as_many in
    let serving = (sound_when_opened mid.disks next at_t.honest opens).sound.roles.serving opens.array.remembered.running in
    let some = slice_get_within next.array.members serving.0 serving.1 serving.2.member in
    let recording = r.run.3.2.does.step in
    let running : mid.array.halted ≡ false = ap (λ (a : ArrayView). a.halted) r.run.3.3.rests.array ∙ ap (λ (w : World). w.halted) recording.1.3 ∙ recording.0 in
    let in_sync = at_t.sound.roles.serving running in
    let there = slice_get_within mid.array.members in_sync.0 in_sync.1 in_sync.2.member in
    let as_many = at_t.sound.fits.as_many in
    let reopened : IsReopened m t next = record {
      before = mid.disks;
      devices = record {
        left = mid.disks;
        is_left = inl refl;
        honest = at_t.honest;
        from = at mid.disks;
        at = at mid.disks;
        found = at_back mid.disks;
        again = again mid at_t.sound;
        unspoiled = λ k _ _. none_spoiled k;
        readable = λ k _ _. none_spoiled k;
        recorded = record {
          device = 0;
          place = 0;
          there = at_itself mid.disks 0 (omega arith);
          recorded = λ d v there on. omega arith;
          wide = inr (inl (record { device = in_sync.0; member = in_sync.1; in_sync = in_sync.2; place = in_sync.0; there = at_itself mid.disks in_sync.0 (omega arith) }));
        };
      };
      others = λ j n member none. let low = slice_get_within next.array.members j n member in absurd (none-some j (sym none ∙ at_itself mid.disks j (omega arith)));
      opens = opens;
      fit = record { recorded = omega arith; newer = inl late };
      out = λ j n member none. let low = slice_get_within next.array.members j n member in absurd (none-some j (sym none ∙ at_itself mid.disks j (omega arith)));
    } in
    record { first = m; start = lone_start before m honest opened one; number = r.number; request = r.request; life = (t, next, r.run, reopened, (refl, at_rest (opened_as next))) }
