-- Lists that are made on trial: each is the only one of its sectors.
use Rattle.std.proofs.Common.{◌≡◌, ◌≢◌, ◌∙◌, ◌↔◌, ℕ, ◌+◌, ◌-◌, ◌^◌, ◌<◌, ◌≤◌, Bool, true, false, leb, leb-true, le-leb, List, [], length, IfOk, MatchResult, Ok, Err, Result, sym, ap, subst, arith, inl, inr}
use Rattle.std.proofs.lemmas.Bool.{both_ways, cases_eq}
use Rattle.std.proofs.lemmas.Option.{same_Some, slice_get_within}
use Rattle.md_assembly.specs.States.{is_in_sync}
use Rattle.md_badblocks.specs.declared.run.Run.{Run}
use Rattle.md_badblocks.specs.Runs.{entries_needed}
use Rattle.md_badblocks.proofs.Unique.{same_runs}
use Rattle.md_bitmap.specs.Marks.{Bitmap}
use Rattle.md_kept_members.specs.Enrolling.{HasRoomFor, log_room}
use Rattle.md_kept_members.specs.SectorLists.{IsListMore, IsListOf, in_chunks_but, in_runs}
use Rattle.md_kept_members.specs.View.{MemberView}
use Rattle.md_state.specs.Members.{IsMember}
use Rattle.md_state.specs.View.{ArrayView}
use Rattle.md_state.specs.Steps.Enrol.{HasFullLog}
use Rattle.md_copy.specs.Salvaging.Fitting.{FailsLook, FailsLookInSync, HasOwnRoom, HasRoomIfInSync, HaveRoomFor, LacksRoomForMore, LacksRoomWith}
use Rattle.md_copy.specs.Salvaging.Widened.{TakesFewest}
use Rattle.md_copy.specs.declared.beginning.fault.RebuildFault.{RebuildFault}
use Rattle.md_copy.specs.declared.beginning.fault.RebuildFault.TheVariants.{LogFull, NoMemory}
use Rattle.md_copy.proofs.SalvageLemmas.LostWidened.{none_more}

pub one_more : (more : ℕ → Bool) (m : MemberView) (a b : List Run) → IsListMore more m a → IsListMore more m b → a ≡ b
one_more more m a b p q = same_runs 0 0 a b p.canonical q.canonical (λ s bad. (q.bad s).1 ((p.bad s).0 bad)) (λ s bad. (p.bad s).1 ((q.bad s).0 bad))

pub one_of : (copied lost : ℕ → Bool) (m : MemberView) (a b : List Run) → IsListOf copied lost m a → IsListOf copied lost m b → a ≡ b
one_of copied lost m a b p q = same_runs 0 0 a b p.canonical q.canonical (λ s bad. (q.bad s).1 ((p.bad s).0 bad)) (λ s bad. (p.bad s).1 ((q.bad s).0 bad))

-- ---- one log
module _ (a : ArrayView) (listed : List Run) (k : ℕ) (m : MemberView) (at : IsMember a k m) where
  same_member : (n : MemberView) → IsMember a k n → n ≡ m
  same_member n there = same_Some n m (sym there ∙ at)

  -- the member is not in sync
  pub room_out : is_in_sync m.state ≡ false → HasRoomIfInSync a listed k
  room_out out some n list is more = absurd (both_ways (is_in_sync n.state) (ap (λ (x : MemberView). is_in_sync x.state) (same_member n is.member) ∙ out) is.in_sync)

  pub room_more : listed ≢ [] → is_in_sync m.state ≡ true → (list : List Run) → IsListMore (in_runs listed) m list → leb (entries_needed list) (log_room m.superblock) ≡ true ↔ HasRoomIfInSync a listed k
  room_more some in_sync list made = (
    λ yes there_are n other is more.
        let fits : HasRoomFor m.superblock list = leb-true (entries_needed list) (log_room m.superblock) yes in
        let same = same_member n is.member in
        subst (λ (x : MemberView). HasRoomFor x.superblock other) (sym same)
        (subst (HasRoomFor m.superblock) (one_more (in_runs listed) m list other made (subst (λ (x : MemberView). IsListMore (in_runs listed) x other) same more)) fits),
    λ has. le-leb (entries_needed list) (log_room m.superblock) (has some m list (record { member = at; in_sync = in_sync }) made),
  )

  pub full_more : listed ≢ [] → is_in_sync m.state ≡ true → (list : List Run) → IsListMore (in_runs listed) m list → leb (entries_needed list) (log_room m.superblock) ≡ false → LacksRoomForMore k a listed
  full_more some in_sync list made short = record {
    some = some;
    member = m;
    in_sync = record { member = at; in_sync = in_sync };
    list = list;
    list_is = made;
    full = λ fits. both_ways (leb (entries_needed list) (log_room m.superblock)) short (le-leb (entries_needed list) (log_room m.superblock) fits);
  }

  pub room_own : (missing : Bitmap) (list : List Run) → IsListOf (in_chunks_but a.chunks missing listed) (in_runs listed) m list
      → leb (entries_needed list) (log_room m.superblock) ≡ true ↔ HasOwnRoom k missing a listed
  room_own missing list made = (
    λ yes n other there is.
        let fits : HasRoomFor m.superblock list = leb-true (entries_needed list) (log_room m.superblock) yes in
        let same = same_member n there in
        subst (λ (x : MemberView). HasRoomFor x.superblock other) (sym same)
        (subst (HasRoomFor m.superblock)
        (one_of (in_chunks_but a.chunks missing listed) (in_runs listed) m list other made (subst (λ (x : MemberView). IsListOf (in_chunks_but a.chunks missing listed) (in_runs listed) x other) same is)) fits),
    λ has. le-leb (entries_needed list) (log_room m.superblock) (has m list at made),
  )

  pub room_full : (missing : Bitmap) (list : List Run) → IsListOf (in_chunks_but a.chunks missing listed) (in_runs listed) m list
      → leb (entries_needed list) (log_room m.superblock) ≡ false → HasFullLog k (in_chunks_but a.chunks missing listed) (in_runs listed) a
  room_full missing list made short = record {
    member = m;
    at = at;
    list = list;
    list_is = made;
    full = λ fits. both_ways (leb (entries_needed list) (log_room m.superblock)) short (le-leb (entries_needed list) (log_room m.superblock) fits);
  }

-- ---- all logs
abbrev pub HaveRoomBelow : ℕ → ArrayView → List Run → Type 0
HaveRoomBelow n a listed = (k : ℕ) → k < n → HasRoomIfInSync a listed k

pub rooms_more : (n : ℕ) (a : ArrayView) (listed : List Run) → HaveRoomBelow n a listed → HasRoomIfInSync a listed n → HaveRoomBelow (n + 1) a listed
rooms_more n a listed before this k low = elim (cases_eq k n) [ inl here ↦ subst (HasRoomIfInSync a listed) (sym here) this | inr other ↦ before k (omega (arith, low, other)) ]

pub rooms_all : (n : ℕ) (a : ArrayView) (listed : List Run) → length a.members ≤ n → HaveRoomBelow n a listed → (k : ℕ) → HasRoomIfInSync a listed k
rooms_all n a listed all before k some m list is more = let low = slice_get_within a.members k m is.member in before k (omega (arith, low, all)) some m list is more

-- the target's log has room, and those of the members in sync are looked at
pub looked : (target : ℕ) (missing : Bitmap) (listed : List Run) (a : ArrayView) → HasOwnRoom target missing a listed → {T : Type 0} (r : Result T RebuildFault)
    → MatchResult r (λ _. (k : ℕ) → HasRoomIfInSync a listed k) (FailsLookInSync listed a) → MatchResult r (λ _. HaveRoomFor target missing a listed) (FailsLook target missing listed a)
looked target missing listed a own (Ok x) rooms = record { own = own; in_sync = rooms }
looked target missing listed a own (Err (LogFull k)) h = inr h
looked target missing listed a own (Err NoMemory) h = tt
looked target missing listed a own (Err fault) h = absurd h

-- ---- the gap
abbrev pub AreTooSmall : ℕ → ℕ → Bitmap → List Run → ArrayView → Type 0
AreTooSmall gap target missing lost a = (less : ℕ) → less < gap → LacksRoomWith less (2 ^ 54) target missing lost a

pub small_more : (gap target : ℕ) (missing : Bitmap) (lost : List Run) (a : ArrayView) (listed : List Run) → AreTooSmall gap target missing lost a
    → TakesFewest gap (2 ^ 54) a.chunks missing lost listed → (HaveRoomFor target missing a listed → ⊥) → AreTooSmall (gap + 1) target missing lost a
small_more gap target missing lost a listed before fewest none less low = elim (cases_eq less gap) [
  | inl here ↦ subst (λ n. LacksRoomWith n (2 ^ 54) target missing lost a) (sym here) (record { listed = listed; fewest = fewest; none = none })
  | inr more ↦ before less (omega (arith, low, more))
]

-- with all gaps of a width some log has no room: with none of the next one it is so too
pub small_none : (gap target : ℕ) (missing : Bitmap) (lost : List Run) (a : ArrayView) → AreTooSmall gap target missing lost a → 0 < gap → LacksRoomWith gap 0 target missing lost a
small_none gap target missing lost a small some =
    let lacks = small (gap - 1) (omega (arith, some)) in
    subst (λ n. LacksRoomWith n 0 target missing lost a) (omega (arith, some))
    (record { listed = lacks.listed; fewest = none_more (gap - 1) a.chunks missing lost lacks.listed lacks.fewest; none = lacks.none })

-- what holds on Ok, by what holds then
pub if_ok : {T E : Type 0} {P Q : T → Type 0} (r : Result T E) → ((x : T) → P x → Q x) → IfOk r P → IfOk r Q
if_ok (Ok x) f p = f x p
if_ok (Err e) f p = p
