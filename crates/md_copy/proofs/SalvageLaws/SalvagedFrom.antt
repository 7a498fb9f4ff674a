-- What is salvaged from the mirror that a salvage starts from is salvaged from the one before it.
use Rattle.std.proofs.Common.{◌≡◌, ◌≢◌, ◌∙◌, ◌⊎◌, ◌↔◌, ℕ, ◌+◌, ◌*◌, ◌/◌, ◌<◌, true, List, sym, ap, subst, arith, inl, inr}
use Rattle.md_badblocks.specs.declared.run.Run.{Run}
use Rattle.md_badblocks.specs.Runs.{IsBad}
use Rattle.md_bitmap.specs.Marks.{Bitmap}
use Rattle.md_bitmap.specs.declared.chunks.Chunks.{Chunks}
use Rattle.md_bitmap.proofs.Limits.{div-lt-div_ceil}
use Rattle.md_device.specs.Failing.{SomeNewFault, failed_read}
use Rattle.md_device.specs.Splice.{part}
use Rattle.md_device.specs.declared.fault_list.Fault.{Fault}
use Rattle.md_device.proofs.Failing.{fails_since}
use Rattle.md_kept_members.specs.View.{MemberView}
use Rattle.md_read.specs.Reading.{IsReadOfMember, NoneGives}
use Rattle.md_state.specs.Members.{IsInSync, IsMember}
use Rattle.md_state.specs.Missing.{is_missing}
use Rattle.md_state.specs.View.{MirrorView}
use Rattle.md_array.specs.Consistency.{IsConsistent}
use Rattle.md_copy.specs.Salvaging.Salvaged.{IsBesideWritten, IsSalvaged, IsSectorServedThen}
use Rattle.md_copy.specs.Salvaging.Sectors.{IsLacked}
use Rattle.md_copy.proofs.Ready.StartedAs.{IsAs, StartsAs, starts_honest}
use Rattle.md_copy.proofs.SalvageLemmas.SameRoom.{HasSameRoom, HaveSameRoom, any_same, fits_before}

-- what no member in sync gives from then on none gives in all
pub none_started : (target s : ℕ) (old v w : MirrorView) → StartsAs target old v → NoneGives s v w → NoneGives s old w
none_started target s old v w st none k m is =
    let n = st.then k m is.member in
    let on : IsInSync v.array k n.0 = record { member = n.1; in_sync = n.2.in_sync ∙ is.in_sync } in
    elim (none k n.0 on) [
      | inl lists ↦ inl (subst (λ (o : ℕ). IsBad m.bad (o + s)) n.2.offset (subst (λ (runs : List Run). IsBad runs (n.0.superblock.data_offset + s)) n.2.bad lists))
      | inr failed ↦ inr (λ d f was now.
          let x = st.disk_then k d was in
          let after = failed x.0 f x.1 now in
          let counted = st.counted k d x.0 was x.1 in (
            λ honest. let less = after.0 (st.honest k d x.0 was x.1 ∙ honest) in omega (arith, less, counted),
            λ y there.
                let z = st.then k y there in
                let read : SomeNewFault x.0.faults f.faults (IsReadOfMember y s 1) =
                subst (λ (o : ℕ). SomeNewFault x.0.faults f.faults (λ (g : Fault). g ≡ failed_read (o + s) (512 * 1))) z.2.offset (after.1 z.0 z.1) in
                fails_since d.faults x.0.faults f.faults (IsReadOfMember y s 1) _ (st.grown k d x.0 was x.1) read,
          ))
    ]

module _ (target : ℕ) (old v : MirrorView) (sound : IsConsistent old) (st : StartsAs target old v) (lost listed : List Run) (y : MirrorView) (r : IsSalvaged target lost listed v y) where
  was : (l : MemberView) × IsMember old.array target l × IsAs l r.member
  was = st.before target r.member r.at

  abbrev l : MemberView
  l = was.0

  alike : IsAs l r.member
  alike = was.2

  -- ---- what it lacks
  low_of : (s : ℕ) → s < old.array.chunks.size → s / old.array.chunks.sectors < old.array.marks.chunks
  low_of s low = subst (λ (z : ℕ). s / old.array.chunks.sectors < z) (sym sound.chunks.count) (div-lt-div_ceil old.array.chunks.size old.array.chunks.sectors s sound.chunks.wide low)

  missing_same : (s : ℕ) → s < old.array.chunks.size → is_missing v.array r.member (s / old.array.chunks.sectors) ≡ is_missing old.array l (s / old.array.chunks.sectors)
  missing_same s low = st.missing l r.member was.1 r.at (s / old.array.chunks.sectors) (low_of s low)

  lacked_then : (s : ℕ) → IsLacked old.array l s → IsLacked v.array r.member s
  lacked_then s lacks = record {
    inside = subst (λ (q : Chunks). s < q.size) (sym st.chunks) lacks.inside;
    missing = subst (λ (q : Chunks). is_missing v.array r.member (s / q.sectors) ≡ true) (sym st.chunks) (missing_same s lacks.inside ∙ lacks.missing);
  }

  lacked_before : (s : ℕ) → IsLacked v.array r.member s → IsLacked old.array l s
  lacked_before s lacks =
      let inside = subst (λ (q : Chunks). s < q.size) st.chunks lacks.inside in
      record { inside = inside; missing = sym (missing_same s inside) ∙ subst (λ (q : Chunks). is_missing v.array r.member (s / q.sectors) ≡ true) st.chunks lacks.missing }

  room_of : (a n : MemberView) → IsAs a n → HasSameRoom a n
  room_of a n x = record { in_sync = x.in_sync; bad = x.bad; offset = x.offset; room = x.room }

  same_room : HaveSameRoom old.array v.array
  same_room = record {
    chunks = st.chunks;
    then = λ k a at_a. (let x = st.then k a at_a in (x.0, x.1, room_of a x.0 x.2));
    before = λ k n at_n. (let x = st.before k n at_n in (x.0, x.1, room_of x.0 n x.2));
  }

  -- ---- who serves a sector did so
  served_before : (s : ℕ) → IsSectorServedThen target v.array y.array s → IsSectorServedThen target old.array y.array s
  served_before s h =
      let a = h.1 in
      let b = st.before h.0 a.before a.in_sync.member in
      (h.0, record { other = a.other; before = b.0; in_sync = record { member = b.1; in_sync = sym b.2.in_sync ∙ a.in_sync.in_sync }; after = a.after; at = a.at; unlisted = a.unlisted })

  served_then : (s : ℕ) → IsSectorServedThen target old.array y.array s → IsSectorServedThen target v.array y.array s
  served_then s h =
      let a = h.1 in
      let b = st.then h.0 a.before a.in_sync.member in
      (h.0, record { other = a.other; before = b.0; in_sync = record { member = b.1; in_sync = b.2.in_sync ∙ a.in_sync.in_sync }; after = a.after; at = a.at; unlisted = a.unlisted })

  -- ---- its list
  own_before : (sector : ℕ) → IsBad r.now.bad sector
      ↔ ((IsBad l.bad sector × ((s : ℕ) → IsLacked old.array l s → sector ≡ l.superblock.data_offset + s → ⊥)) ⊎ ((s : ℕ) × IsBad listed s × (sector ≡ l.superblock.data_offset + s)))
  own_before sector = (
    λ bad. elim ((r.own sector).0 bad) [
      | inl both ↦
          inl (
            subst (λ (runs : List Run). IsBad runs sector) alike.bad both.0,
            λ s lacks is. both.1 s (lacked_then s lacks) (is ∙ ap (λ o. o + s) (sym alike.offset)),
          )
      | inr here ↦ inr (here.0, here.1, here.2 ∙ ap (λ o. o + here.0) alike.offset)
    ],
    λ either. (r.own sector).1 (elim either [
      | inl both ↦
          inl (
            subst (λ (runs : List Run). IsBad runs sector) (sym alike.bad) both.0,
            λ s lacks is. both.1 s (lacked_before s lacks) (is ∙ ap (λ o. o + s) alike.offset),
          )
      | inr here ↦ inr (here.0, here.1, here.2 ∙ ap (λ o. o + here.0) (sym alike.offset))
    ]),
  )

  -- ---- the lists of the others
  sources_before : (k : ℕ) (a w : MemberView) → k ≢ target → IsInSync old.array k a → IsMember y.array k w → (sector : ℕ) → IsBad w.bad sector ↔ (IsBad a.bad sector ⊎ ((s : ℕ) × IsBad listed s × (sector ≡ a.superblock.data_offset + s)))
  sources_before k a w other on at_w sector =
      let n = st.then k a on.member in
      let on_v : IsInSync v.array k n.0 = record { member = n.1; in_sync = n.2.in_sync ∙ on.in_sync } in
      subst (λ (o : ℕ). IsBad w.bad sector ↔ (IsBad a.bad sector ⊎ ((s : ℕ) × IsBad listed s × (sector ≡ o + s)))) n.2.offset
      (subst (λ (runs : List Run). IsBad w.bad sector ↔ (IsBad runs sector ⊎ ((s : ℕ) × IsBad listed s × (sector ≡ n.0.superblock.data_offset + s)))) n.2.bad
      (r.sources k n.0 w other on_v at_w sector))

  out_before : (k : ℕ) (a w : MemberView) → k ≢ target → IsMember old.array k a → (IsInSync old.array k a → ⊥) → IsMember y.array k w → w.bad ≡ a.bad
  out_before k a w other at_a isnt at_w =
      let n = st.then k a at_a in
      r.out k n.0 w other n.1 (λ on. isnt (record { member = at_a; in_sync = sym n.2.in_sync ∙ on.in_sync })) at_w ∙ n.2.bad

  -- ---- what lies beside
  beside_as : (i n : ℕ) → IsBesideWritten old.array l lost i n → IsBesideWritten v.array r.member lost i n
  beside_as i n b =
      let offset = alike.offset in
      let size = alike.size in
      let low = b.from in
      let high = b.to in
      record {
        from = omega (arith, offset, low);
        to = omega (arith, offset, size, high);
        beside = λ s lacks free. elim (b.beside s (lacked_before s lacks) free) [ inl before ↦ inl (omega (arith, offset, before)) | inr after ↦ inr (omega (arith, offset, after)) ];
      }

  pub salvaged_from : IsSalvaged target lost listed old y
  salvaged_from = record {
    member = l;
    at = was.1;
    now = r.now;
    there = r.there;
    state = elim r.state [
      | inl in_sync ↦ inl in_sync
      | inr failed ↦
          inr (
            failed.0,
            λ d e at_d at_e honest.
                (let on = st.disk_then target d at_d in
                let counted = st.counted target d on.0 at_d on.1 in
                let less = failed.1 on.0 e on.1 at_e (st.honest target d on.0 at_d on.1 ∙ honest) in
                omega (arith, counted, less)),
          )
    ];
    holds = λ honest content has e at_e s lacks free.
        ap (λ (o : ℕ). part e.content (512 * (o + s)) 512) (sym alike.offset)
        ∙ r.holds (starts_honest target old v st honest) content (st.content honest content has) e at_e s (lacked_then s lacks) free;
    listed_are = λ s lacks.
        (let are = r.listed_are s (lacked_then s lacks) in (λ bad served. are.0 bad (served_then s served), λ unserved. are.1 (λ served. unserved (served_before s served))));
    lost_are = λ s bad. (let are = r.lost_are s bad in (lacked_before s are.0, none_started target s old v y st are.1));
    more = λ s bad. elim (r.more s bad) [ inl lost_one ↦ inl lost_one | inr gap ↦ inr (lacked_before s gap.0, gap.1) ];
    all = r.all;
    missing = r.missing;
    missing_are = record {
      chunks = r.missing_are.chunks ∙ ap (λ (q : Bitmap). q.chunks) st.marks;
      lacked = λ c low set. sym (st.missing l r.member was.1 r.at c low) ∙ r.missing_are.lacked c (subst (λ (q : Bitmap). c < q.chunks) (sym st.marks) low) set;
      listed = λ c low lacks lists.
          r.missing_are.listed c (subst (λ (q : Bitmap). c < q.chunks) (sym st.marks) low) (st.missing l r.member was.1 r.at c low ∙ lacks)
          (any_same old.array.chunks v.array.chunks c l r.member st.chunks alike.bad alike.offset lists);
    };
    fits = fits_before target r.missing lost old.array v.array listed same_room r.fits;
    own = own_before;
    sources = sources_before;
    out = out_before;
    beside = λ d e at_d at_e i n b.
        (let on = st.disk_then target d at_d in
        r.beside on.0 e on.1 at_e i n (beside_as i n b) ∙ st.kept target d on.0 l at_d on.1 was.1 i n b.from b.to);
    others = λ j d e a other at_d at_e at_a i n from to.
        (let on = st.disk_then j d at_d in
        let z = st.then j a at_a in
        let offset = z.2.offset in
        let size = z.2.size in
        r.others j on.0 e z.0 other on.1 at_e z.1 i n (omega (arith, offset, from)) (omega (arith, offset, size, to)) ∙ st.kept j d on.0 a at_d on.1 at_a i n from to);
  }
