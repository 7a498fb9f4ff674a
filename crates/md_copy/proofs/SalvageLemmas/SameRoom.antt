-- Which sectors are listed goes by the lists of the members, by who is in sync, by where data begin, and by the room in the logs: where these are as before,
-- it is so.
use Rattle.std.proofs.Common.{◌≡◌, ◌∙◌, ◌⊎◌, ◌↔◌, ℕ, ◌+◌, ◌^◌, ◌<◌, ◌≤◌, Bool, List, sym, subst, inl, inr}
use Rattle.md_assembly.specs.States.{is_in_sync}
use Rattle.md_badblocks.specs.declared.run.Run.{Run}
use Rattle.md_badblocks.specs.Runs.{IsBad, entries_needed}
use Rattle.md_bitmap.specs.declared.chunks.Chunks.{Chunks}
use Rattle.md_bitmap.specs.Chunks.{InChunk}
use Rattle.md_bitmap.specs.Marks.{Bitmap}
use Rattle.md_kept_members.specs.Enrolling.{log_room}
use Rattle.md_kept_members.specs.Permitting.{ListsAny}
use Rattle.md_kept_members.specs.SectorLists.{IsListMore, IsListOf, IsPlaced, in_chunks_but, in_runs}
use Rattle.md_kept_members.specs.View.{MemberView}
use Rattle.md_state.specs.Members.{IsInSync, IsMember}
use Rattle.md_state.specs.View.{ArrayView}
use Rattle.md_copy.specs.Salvaging.Fitting.{HaveRoomFor, IsFitting, LacksRoomWith}
use Rattle.md_copy.specs.Salvaging.Widened.{TakesFewest}

-- ---- a member
pub record HasSameRoom (l n : MemberView) : Type 0 where
  pub in_sync : is_in_sync n.state ≡ is_in_sync l.state
  pub bad : n.bad ≡ l.bad
  pub offset : n.superblock.data_offset ≡ l.superblock.data_offset
  pub room : log_room n.superblock ≡ log_room l.superblock

same_back : (l n : MemberView) → HasSameRoom l n → HasSameRoom n l
same_back l n same = record { in_sync = sym same.in_sync; bad = sym same.bad; offset = sym same.offset; room = sym same.room }

list_of : (copied lost : ℕ → Bool) (l n : MemberView) (list : List Run) → HasSameRoom l n → IsListOf copied lost n list → IsListOf copied lost l list
list_of copied lost l n list same is = record {
  canonical = is.canonical;
  bad = λ sector.
      subst (λ (runs : List Run). IsBad list sector
      ↔ ((IsBad runs sector × (IsPlaced copied l.superblock.data_offset sector → ⊥)) ⊎ (IsPlaced lost l.superblock.data_offset sector × (sector < 2 ^ 54)))) same.bad
      (subst (λ (o : ℕ). IsBad list sector ↔ ((IsBad n.bad sector × (IsPlaced copied o sector → ⊥)) ⊎ (IsPlaced lost o sector × (sector < 2 ^ 54)))) same.offset (is.bad sector));
}

list_more : (more : ℕ → Bool) (l n : MemberView) (list : List Run) → HasSameRoom l n → IsListMore more n list → IsListMore more l list
list_more more l n list same is = record {
  canonical = is.canonical;
  bad = λ sector.
      subst (λ (runs : List Run). IsBad list sector ↔ (IsBad runs sector ⊎ (IsPlaced more l.superblock.data_offset sector × (sector < 2 ^ 54)))) same.bad
      (subst (λ (o : ℕ). IsBad list sector ↔ (IsBad n.bad sector ⊎ (IsPlaced more o sector × (sector < 2 ^ 54)))) same.offset (is.bad sector));
}

-- ---- all members
pub record HaveSameRoom (a b : ArrayView) : Type 0 where
  pub chunks : b.chunks ≡ a.chunks
  pub then : (k : ℕ) (l : MemberView) → IsMember a k l → (n : MemberView) × IsMember b k n × HasSameRoom l n
  pub before : (k : ℕ) (n : MemberView) → IsMember b k n → (l : MemberView) × IsMember a k l × HasSameRoom l n

same_before : (a b : ArrayView) → HaveSameRoom a b → HaveSameRoom b a
same_before a b h = record {
  chunks = sym h.chunks;
  then = λ k n at. (let x = h.before k n at in (x.0, x.1, same_back x.0 n x.2));
  before = λ k l at. (let x = h.then k l at in (x.0, x.1, same_back l x.0 x.2));
}

room_then : (target : ℕ) (missing : Bitmap) (a b : ArrayView) (listed : List Run) → HaveSameRoom a b → HaveRoomFor target missing a listed → HaveRoomFor target missing b listed
room_then target missing a b listed h room = record {
  own = λ n list at is.
      (let x = h.before target n at in
      let was = subst (λ (q : Chunks). IsListOf (in_chunks_but q missing listed) (in_runs listed) n list) h.chunks is in
      subst (λ (r : ℕ). entries_needed list ≤ r) (sym x.2.room) (room.own x.0 list x.1 (list_of (in_chunks_but a.chunks missing listed) (in_runs listed) x.0 n list x.2 was)));
  in_sync = λ k some n list on is.
      (let x = h.before k n on.member in
      let was : IsInSync a k x.0 = record { member = x.1; in_sync = sym x.2.in_sync ∙ on.in_sync } in
      subst (λ (r : ℕ). entries_needed list ≤ r) (sym x.2.room) (room.in_sync k some x.0 list was (list_more (in_runs listed) x.0 n list x.2 is)));
}

lacks_before : (gap to target : ℕ) (missing : Bitmap) (lost : List Run) (a b : ArrayView) → HaveSameRoom a b → LacksRoomWith gap to target missing lost b → LacksRoomWith gap to target missing lost a
lacks_before gap to target missing lost a b h lacks = record {
  listed = lacks.listed;
  fewest = subst (λ (q : Chunks). TakesFewest gap to q missing lost lacks.listed) h.chunks lacks.fewest;
  none = λ room. lacks.none (room_then target missing a b lacks.listed h room);
}

pub fits_before : (target : ℕ) (missing : Bitmap) (lost : List Run) (a b : ArrayView) (listed : List Run) → HaveSameRoom a b → IsFitting target missing lost b listed → IsFitting target missing lost a listed
fits_before target missing lost a b listed h fits = record {
  gap = fits.gap;
  to = fits.to;
  widest = fits.widest;
  fewest = subst (λ (q : Chunks). TakesFewest fits.gap fits.to q missing lost listed) h.chunks fits.fewest;
  least = λ less low. lacks_before less (2 ^ 54) target missing lost a b h (fits.least less low);
  fits = elim fits.fits [
    | inl widest ↦ inl (widest.0, widest.1, lacks_before 510 (2 ^ 54) target missing lost a b h widest.2)
    | inr just ↦
        inr (record {
          room = room_then target missing b a listed (same_before a b h) just.room;
          few = λ some. (let is = just.few some in (is.0, is.1, lacks_before fits.gap is.0 target missing lost a b h is.2));
        })
  ];
}

-- a member that lists as another one does lists a sector of the same chunks
pub any_same : (chunks other : Chunks) (c : ℕ) (m n : MemberView) → other ≡ chunks → n.bad ≡ m.bad → n.superblock.data_offset ≡ m.superblock.data_offset → ListsAny chunks c m → ListsAny other c n
any_same chunks other c m n same bad offset lists = record {
  sector = lists.sector;
  inside = subst (λ (q : Chunks). InChunk q.sectors q.size c lists.sector) (sym same) lists.inside;
  bad = subst (λ (o : ℕ). IsBad n.bad (o + lists.sector)) (sym offset) (subst (λ (runs : List Run). IsBad runs (m.superblock.data_offset + lists.sector)) (sym bad) lists.bad);
}
