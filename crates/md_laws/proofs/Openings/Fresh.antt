-- The first opening of the devices of a new array, all of whose chunks are marked, begins a life.
use Rattle.std.proofs.Common.{◌≡◌, ℕ, ◌<◌, inl, inr, true, true≢false, not, nat_lt, List, length, map, slice_get, Some, sym, ap, ◌∙◌, subst, arith, lt-ltb}
use Rattle.std.proofs.lemmas.List.{length-map}
use Rattle.std.proofs.lemmas.Option.{same_Some, slice_get_within}
use Rattle.std.proofs.lemmas.Bool.{and_from}
use Rattle.std.specs.Prelude.{IfSome, Option}
use Rattle.md_bitmap.specs.declared.header.BitmapHeader.{BitmapHeader}
use Rattle.md_bitmap.specs.Marks.{Bitmap, is_set}
use Rattle.md_super.specs.declared.superblock.Superblock.{Superblock}
use Rattle.md_members.specs.Members.{IsAccepted}
use Rattle.md_create.specs.ReadBack.{HasSameMarks}
use Rattle.md_model.specs.Devices.{Stored, is_marked}
use Rattle.md_model.specs.Sectors.{chunk_of}
use Rattle.md_model.specs.Worlds as worlds
use Rattle.md_kept_members.specs.View.{MemberView}
use Rattle.md_state.specs.View.{ArrayView, Disk, MirrorView, geometry_of}
use Rattle.md_state.specs.DeviceChanges.{IsLeftAlone}
use Rattle.md_state.specs.Members.{IsMember}
use Rattle.md_array.specs.Open.Opened.{IsArrayOf, IsOpenedFrom}
use Rattle.md_array.specs.Open.Marks.{AreMarksOnDisks}
use Rattle.md_array.specs.Worlds.{AreHonest, none_in_flight, world_of, world_on}
use Rattle.md_array.proofs.Worlds.Device.{bits_new}
use Rattle.md_array.proofs.Worlds.Member.{by_need}
use Rattle.md_array.proofs.Worlds.ReadMember.{chunk_of_sector}
use Rattle.md_array.proofs.General.Indices.{got_in_map}
use Rattle.md_array.proofs.Worlds.Shown.{IsShown, in_sync_is, read_at, shown, stored_at}
use Rattle.md_assembly.proofs.Indices.{got_within}
use Rattle.md_laws.specs.Fresh.{AreFresh, StartsFresh, StaysFresh}
use Rattle.md_laws.specs.HalfOpened.{IsHalfOpened}
use Rattle.md_laws.proofs.Openings.OpenedFrom.{same_marks}
use Rattle.md_laws.proofs.Crashes.AtSteps.{new_has, same_lists}

module _ (before : List Disk) (m : MirrorView) (honest : AreHonest before) (o : IsOpenedFrom before m) (fresh : AreFresh before) where
  abbrev a : ArrayView
  a = m.array

  abbrev w : worlds.World
  w = world_of m none_in_flight

  abbrev was : worlds.World
  was = world_on before a none_in_flight

  abbrev seen : (k : ℕ) (mv : MemberView) → IsMember a k mv → IsShown before m o.array.infos k mv
  seen = shown before m honest o

  -- each chunk is marked, as it was read, or as it counts where the bitmap was not accepted
  all_set : (k : ℕ) (mv : MemberView) → IsMember a k mv → (c : ℕ) → c < a.marks.chunks → is_set mv.stored.bytes c ≡ true
  all_set k mv is c low =
      let t = seen k mv is in
      let read = t.opened.member in
      let below : c < mv.stored.chunks = subst (λ (n : ℕ). c < n) read.count low in
      by_need mv
      (λ need. read.kept.all_marks need c ∙ lt-ltb c mv.stored.chunks below)
      (λ none.
      let f = fresh k t.old t.was in
      let same : HasSameMarks f.member.marks mv.stored = subst (λ (x : Option Bitmap). IfSome x (HasSameMarks f.member.marks)) (read.kept.its_marks none) (f.reads t.info read.read).marks in
      let made = f.made.marks in
      let there : c < f.member.marks.chunks = subst (λ (n : ℕ). c < n) same.chunks below in
      same.bits c there ∙ made.bits c
      ∙ and_from (not f.params.assume_clean) _ (ap not f.unclean) (lt-ltb c _ (subst (λ (n : ℕ). c < n) made.chunks_are there)))

  marked_before : (k s : ℕ) → s < a.chunks.size → worlds.IsInSync w k → is_marked (was.stored k) (chunk_of (geometry_of a) s) ≡ true
  marked_before k s low on =
      let c = chunk_of (geometry_of a) s in
      let x = in_sync_is before m honest o k on in
      let t = seen k x.0 x.1 in
      let below : c < a.marks.chunks = chunk_of_sector a x.0 t.info t.old.content t.opened.member s low in
      sym (same_marks before m honest o k s low on)
      ∙ ap (λ (d : Stored). d.bits c) (stored_at before m honest o k x.0 x.1)
      ∙ and_from (nat_lt c a.marks.chunks) _ (lt-ltb c a.marks.chunks below) (bits_new a x.0 t.info t.old t.new t.opened x.2 c below ∙ all_set k x.0 x.1 c below)

pub starts_fresh : StartsFresh
starts_fresh before m honest o fresh = record {
  honest = honest;
  opened = o;
  covered = λ i j k s low x y z off. absurd (true≢false (sym (marked_before before m honest o fresh i s low x) ∙ off));
}

-- ---- an interrupted opening of them
module _ (before : List Disk) (a : ArrayView) (honest : AreHonest before) (o : IsArrayOf before a) (fresh : AreFresh before) where
  -- the bitmap of each is accepted
  accepted : (k : ℕ) (mv : MemberView) → IsMember a k mv → IsAccepted mv.superblock mv.header
  accepted k mv is =
      let s = read_at before a o k mv (honest k) is in
      let f = fresh k s.disk s.at in
      let back = f.reads s.info s.member.read in
      let own = s.member.kept.superblock in
      let header : mv.header ≡ f.member.header = same_Some mv.header f.member.header (sym s.member.kept.header ∙ back.header) in
      record {
        uuid = ap (λ (h : BitmapHeader). h.uuid) header ∙ f.made.header.uuid
            ∙ sym (ap (λ (v : Superblock). v.set_uuid) own ∙ ap (λ (v : Superblock). v.set_uuid) back.superblock ∙ f.made.superblock.set_uuid);
        size = ap (λ (h : BitmapHeader). h.sync_size) header ∙ f.made.header.sync_size
            ∙ sym (ap (λ (v : Superblock). v.size) own ∙ ap (λ (v : Superblock). v.size) back.superblock ∙ f.made.superblock.size_is);
        state = ap (λ (h : BitmapHeader). h.state) header ∙ f.made.header.state;
        events = inl (ap (λ (h : BitmapHeader). h.events) header ∙ f.made.header.events
            ∙ sym (ap (λ (v : Superblock). v.events) own ∙ ap (λ (v : Superblock). v.events) back.superblock ∙ f.made.superblock.events));
      }

  module _ (left : List (List ℕ)) (half : IsHalfOpened a before left) where
    marked : AreMarksOnDisks before half.after a
    marked = elim half.opens [
      | inl done ↦ done
      | inr fails ↦ absurd (fails.ends.needs.refused (accepted fails.on fails.ends.member fails.ends.at))
    ]

    as_many : length left ≡ length before
    as_many = elim half.when [
      | inl within ↦ within.as_many
      | inr last ↦ ap length last ∙ length-map half.after (λ (d : Disk). d.content) ∙ marked.same.as_many
    ]

    -- so each device is left alone
    alone : (k : ℕ) (d e : Disk) → slice_get before k ≡ Some d → slice_get half.after k ≡ Some e → IsLeftAlone d e
    alone k d e was is =
        let low = slice_get_within before k d was in
        let read_many = o.read.as_many in
        let members_many = o.remembered.as_many in
        let mv = got_within a.members k (omega arith) in
        (marked.each k d e was is mv.0 mv.1).1 (λ need. need.refused (accepted k mv.0 mv.1))

    as_before : (k : ℕ) (d : Disk) (c : List ℕ) → slice_get before k ≡ Some d → slice_get left k ≡ Some c → c ≡ d.content
    as_before k d c was is =
        let low = slice_get_within before k d was in
        let many = marked.same.as_many in
        let e = got_within half.after k (omega arith) in
        let stays = alone k d e.0 was e.1 in
        elim half.when [
          | inl within ↦
              elim (within.each k d e.0 c was e.1 is) [
                | inl same ↦ same
                | inr new ↦ new_has d.crashes e.0.crashes (λ x. x ≡ d.content) (stays.1 (honest k d was)) new.0 c new.1
              ]
          | inr last ↦ same_Some c e.0.content (sym is ∙ ap (λ (cs : List (List ℕ)). slice_get cs k) last ∙ got_in_map (λ (x : Disk). x.content) half.after k e.0 e.1) ∙ stays.0
        ]

    untouched : left ≡ map (λ (d : Disk). d.content) before
    untouched =
        same_lists (map (λ (d : Disk). d.content) before) left (as_many ∙ sym (length-map before (λ (d : Disk). d.content)))
        (λ k x c at is.
        let low = slice_get_within left k c is in
        let many = as_many in
        let d = got_within before k (omega arith) in
        as_before k d.0 c d.1 is ∙ sym (same_Some x d.0.content (sym at ∙ got_in_map (λ (y : Disk). y.content) before k d.0 d.1)))

pub stays_fresh : StaysFresh
stays_fresh before a honest o fresh left half = untouched before a honest o fresh left half
