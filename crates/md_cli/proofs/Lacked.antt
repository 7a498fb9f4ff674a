-- Lists grow by what images lack, member by member.
use Rattle.std.proofs.Common.{◌≡◌, ◌∙◌, ◌⊎◌, ◌↔◌, ℕ, ◌+◌, ◌-◌, ◌^◌, ◌<◌, ◌≤◌, min, Bool, true, false, List, [], ◌∷◌, get_or, leb, leb-true, le-leb, length, length-set, set, slice_get, Option, Some, None, inl, inr, refl, sym, ap, ap₂, subst, arith, true≢false}
use Rattle.std.proofs.lemmas.Bool.{both_ways, cases_lt}
use Rattle.std.specs.Prelude.{unwrap_or}
use Rattle.md_assembly.proofs.Indices.{got_same}
use Rattle.std.proofs.lemmas.Option.{same_Some, slice_get-get_or, slice_get_past, slice_get_within}
use Rattle.md_assembly.specs.States.{is_in_sync, is_recovering}
use Rattle.md_badblocks.specs.Runs.{IsBad, IsCanonical, entries_needed}
use Rattle.md_kept_members.specs.Enrolling.{HasRoomFor}
use Rattle.md_kept_members.specs.SectorLists.{IsListMore, in_chunks, in_runs}
use Rattle.md_badblocks.specs.declared.run.Run.{Run}
use Rattle.md_bitmap.specs.declared.chunks.Chunks.{Chunks}
use Rattle.md_kept_members.specs.View.{MemberView}
use Rattle.md_kept_members.proofs.Members.Indices.{cases_more}
use Rattle.md_kept_members.proofs.Members.Roles.{bad_below}
use Rattle.md_kept_members.proofs.SectorSets.{bad_in}
use Rattle.md_state.specs.Members.{IsAlone, IsMember}
use Rattle.md_state.specs.View.{ArrayView, MirrorView}
use Rattle.md_super.specs.declared.superblock.Superblock.{Superblock}
use Rattle.md_array.proofs.General.Indices.{at_set_same, got_other}
use Rattle.md_array.specs.Steps.NoteBad.{RegardsSectors}
use Rattle.md_cli.specs.declared.lists.holes.BeforeResync.{BeforeResync}
use Rattle.md_cli.specs.declared.lists.holes.BeforeResync.TheVariants.{All, Given, Nothing}
use Rattle.md_cli.specs.declared.lists.holes.Growth.{Growth}
use Rattle.md_cli.specs.Lacking.{AreCountedAsListed, AreHoles, CountsAsListed, CountsBefore, FitsMore, GivesSector, HasRoomToSpare, IsLacking, IsRegarded, LacksSome, Maps, OverfillsLog, Regards, RegardsOne, missing_at, usable_room}
use Rattle.md_cli.specs.MapOfTarget.{LacksInPart}

-- ---- the sectors of the array among those of an image, run by run
abbrev pub AreHolesTo : List Run → ℕ → ℕ → List Run → List Run → Type 0
AreHolesTo missing offset size rest list =
    (s : ℕ) → ((s < size) × IsBad missing (offset + s)) ↔ (IsBad list s ⊎ ((s < size) × IsBad rest (offset + s)))

pub lacked_none : (missing : List Run) (offset size : ℕ) (list : List Run) → list ≡ [] → AreHolesTo missing offset size missing list
lacked_none missing offset size list none s = (
  λ h. inr h,
  λ e. elim e [ inl made ↦ absurd (subst (λ (xs : List Run). IsBad xs s) none made) | inr h ↦ h ],
)

pub lacked_more : (missing rest : List Run) (offset size : ℕ) (old new : List Run) (run : Run) (first end past last len : ℕ) → IsCanonical missing
    → AreHolesTo missing offset size (run ∷ rest) old
    → first ≡ run.start - offset → end ≡ min (run.start + run.len) (2 ^ 64 - 1) → past ≡ end - offset → last ≡ min past size → len ≡ last - first
    → ((s : ℕ) → IsBad new s ↔ (IsBad old s ⊎ ((first ≤ s) × (s < first + len) × (s < 2 ^ 54))))
    → AreHolesTo missing offset size rest new
lacked_more missing rest offset size old new run first end past last len canonical before first_is end_is past_is last_is len_is added s = (
  λ h. elim ((before s).0 h) [
    | inl made ↦ inl ((added s).1 (inl made))
    | inr left ↦ elim left.1 [
      | inl here ↦
          let from = here.0 in
          let below = here.1 in
          let inside = left.0 in
          let low = bad_below 0 (offset + s) missing canonical h.1 in
          inl ((added s).1 (inr (omega arith, omega arith, omega arith)))
      | inr later ↦ inr (left.0, later)
    ]
  ],
  λ e. elim e [
    | inl bad ↦ elim ((added s).0 bad) [
      | inl was ↦ (before s).1 (inl was)
      | inr here ↦
          let from = here.0 in
          let below = here.1 in
          (before s).1 (inr (omega arith, inl (omega arith, omega arith)))
    ]
    | inr later ↦ (before s).1 (inr (later.0, inr later.1))
  ],
)

pub lacked_all : (missing rest : List Run) (offset size : ℕ) (list : List Run) → rest ≡ [] → AreHolesTo missing offset size rest list → AreHoles missing offset size list
lacked_all missing rest offset size list none made s = (
  λ bad. (made s).1 (inl bad),
  λ h. elim ((made s).0 h) [ inl is ↦ is | inr left ↦ absurd (subst (λ (xs : List Run). IsBad xs (offset + s)) none left.1) ],
)

-- ---- room in a log
pub has_room : (own : Superblock) (list : List Run) → HasRoomToSpare own list → HasRoomFor own list
has_room own list fits = omega (arith, fits)

module _ (m : MemberView) (sectors list : List Run) (entries places : ℕ) (made : IsListMore (in_runs sectors) m list) (needed : entries ≡ entries_needed list) (room : places ≡ usable_room m.superblock) where
  pub fits_more : leb entries places ≡ true → FitsMore m sectors
  fits_more fits = (list, made, leb-true (entries_needed list) (usable_room m.superblock) (ap₂ leb (sym needed) (sym room) ∙ fits))

  pub lacks_room : leb entries places ≡ false → OverfillsLog m sectors
  lacks_room short = (list, made, λ fits. both_ways (leb entries places) short (ap₂ leb needed room ∙ le-leb (entries_needed list) (usable_room m.superblock) fits))

-- ---- what an image lacks
pub lacking_if : (lacking : Maps) (a : ArrayView) (k : ℕ) (m : MemberView) (missing : List Run) (b : Bool) → IsMember a k m → is_in_sync m.state ≡ true → slice_get lacking k ≡ Some missing
    → (b ≡ true) ↔ LacksSome missing a m → (b ≡ true) ↔ IsLacking lacking a k
lacking_if lacking a k m missing b at in_sync given some =
    let is : missing_at lacking k ≡ missing = ap (λ (o : Option (List Run)). unwrap_or o []) given in (
      λ yes. (m, record { member = at; in_sync = in_sync }, subst (λ (l : List Run). LacksSome l a m) (sym is) (some.0 yes)),
      λ h.
          let same : h.0 ≡ m = got_same a.members k h.0 m h.1.member at in
          some.1 (subst (λ (x : MemberView). LacksSome missing a x) same (subst (λ (l : List Run). LacksSome l a h.0) is h.2)),
    )

-- so of one that is recovering
pub part_if : (lacking : Maps) (a : ArrayView) (k : ℕ) (m : MemberView) (missing : List Run) (b : Bool) → IsMember a k m → is_recovering m.state ≡ true → slice_get lacking k ≡ Some missing
    → (b ≡ true) ↔ LacksSome missing a m → (b ≡ true) ↔ LacksInPart lacking a k
part_if lacking a k m missing b at recovering given some =
    let is : missing_at lacking k ≡ missing = ap (λ (o : Option (List Run)). unwrap_or o []) given in (
      λ yes. record { member = m; at = at; recovering = recovering; lacks = subst (λ (l : List Run). LacksSome l a m) (sym is) (some.0 yes) },
      λ h.
          let same : h.member ≡ m = got_same a.members k h.member m h.at at in
          some.1 (subst (λ (x : MemberView). LacksSome missing a x) same (subst (λ (l : List Run). LacksSome l a h.member) is h.lacks)),
    )

-- one that is not recovering
pub whole_if : (lacking : Maps) (a : ArrayView) (k : ℕ) (m : MemberView) → IsMember a k m → is_recovering m.state ≡ false → LacksInPart lacking a k → ⊥
whole_if lacking a k m at other h =
    true≢false (sym h.recovering ∙ ap (λ (x : MemberView). is_recovering x.state) (got_same a.members k h.member m h.at at) ∙ other)

-- where it is in no list of what images lack, it lacks nothing of part
pub unlisted_lacks_no_part : (lacking : Maps) (a : ArrayView) (k : ℕ) → slice_get lacking k ≡ None → LacksInPart lacking a k → ⊥
unlisted_lacks_no_part lacking a k none h =
    let is : missing_at lacking k ≡ [] = ap (λ (o : Option (List Run)). unwrap_or o []) none in
    let some = h.lacks in
    subst (λ (l : List Run). IsBad l some.0) is some.1

-- where it is in no list of what images lack, it lacks nothing
pub unlisted_lacks_none : (lacking : Maps) (a : ArrayView) (k : ℕ) → slice_get lacking k ≡ None → IsLacking lacking a k → ⊥
unlisted_lacks_none lacking a k none h =
    let is : missing_at lacking k ≡ [] = ap (λ (o : Option (List Run)). unwrap_or o []) none in
    let some = h.2 in
    subst (λ (l : List Run). IsBad l some.0) is some.1

-- a member whose image lacks something is in sync
pub in_sync_at : (lacking : Maps) (a : ArrayView) (k : ℕ) → IsLacking lacking a k → (m : MemberView) → IsMember a k m → is_in_sync m.state ≡ true
in_sync_at lacking a k h m at = subst (λ (x : MemberView). is_in_sync x.state ≡ true) (got_same a.members k h.0 m h.1.member at) h.1.in_sync

-- ---- one member
-- what was made of its own fields
pub lacked_at : (lacking : Maps) (a : ArrayView) (k : ℕ) (m : MemberView) (missing sectors : List Run) (v : Superblock) (chunks : Chunks) → slice_get lacking k ≡ Some missing → m.superblock ≡ v → chunks ≡ a.chunks → AreHoles missing v.data_offset chunks.size sectors
    → AreHoles (missing_at lacking k) m.superblock.data_offset a.chunks.size sectors
lacked_at lacking a k m missing sectors v chunks given own same are =
    let is : missing_at lacking k ≡ missing = ap (λ (o : Option (List Run)). unwrap_or o []) given in
    subst (λ (q : Chunks). AreHoles (missing_at lacking k) m.superblock.data_offset q.size sectors) same
    (subst (λ (w : Superblock). AreHoles (missing_at lacking k) w.data_offset chunks.size sectors) (sym own) (subst (λ (l : List Run). AreHoles l v.data_offset chunks.size sectors) (sym is) are))

module _ (how : Growth) (lacking : Maps) (k : ℕ) where
  pub one_same : (v : MirrorView) → ((m : MemberView) → IsMember v.array k m → IsRegarded how lacking v.array k m m) → RegardsOne how lacking k v v
  one_same v so = record {
    disks = refl;
    others = refl;
    as_many = refl;
    member = λ m n at now. subst (IsRegarded how lacking v.array k m) (got_same v.array.members k m n at now) (so m at);
    beside = λ j other. refl;
  }

  pub one_grown : (old new : MirrorView) (sectors : List Run) → k < length old.array.members → RegardsSectors k (in_runs sectors) old new
      → ((m : MemberView) → IsMember old.array k m → (list : List Run) → IsListMore (in_runs sectors) m list → IsRegarded how lacking old.array k m (record m { bad = list }))
      → RegardsOne how lacking k old new
  one_grown old new sectors within h so =
      let m0 = h.lists.member in
      let n0 = record m0 { bad = h.lists.list } in
      let members : new.array.members ≡ set old.array.members k n0 = ap (λ (a : ArrayView). a.members) h.lists.array in
      record {
        disks = h.disks;
        others = h.lists.array ∙ ap (λ (xs : List MemberView). record old.array { members = xs }) (sym members);
        as_many = ap length members ∙ length-set old.array.members k n0;
        member = λ m n at now. (
            let was : m0 ≡ m = got_same old.array.members k m0 m h.lists.at at in
            let is : n ≡ n0 = got_same new.array.members k n n0 now (ap (λ (xs : List MemberView). slice_get xs k) members ∙ at_set_same old.array.members k n0 within) in
            subst (IsRegarded how lacking old.array k m) (sym (is ∙ ap (λ (x : MemberView). record x { bad = h.lists.list }) was))
            (so m at h.lists.list (subst (λ (x : MemberView). IsListMore (in_runs sectors) x h.lists.list) was h.lists.list_is))
            );
        beside = λ j other. ap (λ (xs : List MemberView). slice_get xs j) members ∙ got_other old.array.members k j n0 other;
      }

-- so it is in the list of what images lack
pub lacking_within : (lacking : Maps) (a : ArrayView) (k : ℕ) → IsLacking lacking a k → k < length lacking
lacking_within lacking a k h = elim (cases_lt k (length lacking)) [ inl low ↦ low | inr past ↦ absurd (unlisted_lacks_none lacking a k (slice_get_past lacking k past) h) ]

-- ---- members of which lists alone grow
abbrev Alike : MemberView → MemberView → Type 0
Alike m n = (n.state ≡ m.state) × (n.superblock ≡ m.superblock)

pub alike : (how : Growth) (lacking : Maps) (a : ArrayView) (k : ℕ) (m n : MemberView) → IsRegarded how lacking a k m n → Alike m n
alike how lacking a k m n (inl grows) = (ap (λ (x : MemberView). x.state) grows.member, ap (λ (x : MemberView). x.superblock) grows.member)
alike how lacking a k m n (inr (inl grows)) = (ap (λ (x : MemberView). x.state) grows.member, ap (λ (x : MemberView). x.superblock) grows.member)
alike how lacking a k m n (inr (inr (inl rests))) = (ap (λ (x : MemberView). x.state) rests.member, ap (λ (x : MemberView). x.superblock) rests.member)
alike how lacking a k m n (inr (inr (inr same))) = (ap (λ (x : MemberView). x.state) same.1, ap (λ (x : MemberView). x.superblock) same.1)

-- what a list has it keeps
listed_still : (more : ℕ → Bool) (m n : MemberView) (list : List Run) → IsListMore more m list → n ≡ record m { bad = list } → (x : ℕ) → IsBad m.bad x → IsBad n.bad x
listed_still more m n list is same x bad = subst (λ (v : MemberView). IsBad v.bad x) (sym same) ((is.bad x).1 (inl bad))

pub kept_listed : (how : Growth) (lacking : Maps) (a : ArrayView) (k : ℕ) (m n : MemberView) → IsRegarded how lacking a k m n → (x : ℕ) → IsBad m.bad x → IsBad n.bad x
kept_listed how lacking a k m n (inl grows) = listed_still (in_runs grows.sectors) m n grows.list grows.list_is grows.member
kept_listed how lacking a k m n (inr (inl grows)) = listed_still (in_runs grows.sectors) m n grows.list grows.list_is grows.member
kept_listed how lacking a k m n (inr (inr (inl rests))) = λ x bad. subst (λ (v : MemberView). IsBad v.bad x) (sym rests.member) bad
kept_listed how lacking a k m n (inr (inr (inr same))) = λ x bad. subst (λ (v : MemberView). IsBad v.bad x) (sym same.1) bad

-- and what it gets the image lacks
listed_more : (missing sectors : List Run) (m n : MemberView) (list : List Run) → ((s : ℕ) → IsBad sectors s → IsBad missing (m.superblock.data_offset + s)) → IsListMore (in_runs sectors) m list → n ≡ record m { bad = list }
    → (s : ℕ) → IsBad n.bad (m.superblock.data_offset + s) → IsBad m.bad (m.superblock.data_offset + s) ⊎ IsBad missing (m.superblock.data_offset + s)
listed_more missing sectors m n list lacked is same s bad =
    elim ((is.bad (m.superblock.data_offset + s)).0 (subst (λ (v : MemberView). IsBad v.bad (m.superblock.data_offset + s)) same bad)) [
      | inl was ↦ inl was
      | inr placed ↦
          let at : placed.0.at ≡ s = let where_is = placed.0.is in omega arith in
          inr (subst (λ (x : ℕ). IsBad missing (m.superblock.data_offset + x)) at (lacked placed.0.at (bad_in sectors placed.0.at placed.0.in_set)))
    ]

pub grown_lacked : (how : Growth) (lacking : Maps) (a : ArrayView) (k : ℕ) (m n : MemberView) → IsRegarded how lacking a k m n
    → (s : ℕ) → IsBad n.bad (m.superblock.data_offset + s) → IsBad m.bad (m.superblock.data_offset + s) ⊎ IsBad (missing_at lacking k) (m.superblock.data_offset + s)
grown_lacked how lacking a k m n (inl grows) = listed_more (missing_at lacking k) grows.sectors m n grows.list (λ s bad. ((grows.are s).0 bad).1) grows.list_is grows.member
grown_lacked how lacking a k m n (inr (inl grows)) = listed_more (missing_at lacking k) grows.sectors m n grows.list (λ s bad. ((grows.are s).0 ((grows.marked s).0 bad).0).1) grows.list_is grows.member
grown_lacked how lacking a k m n (inr (inr (inl rests))) = λ s bad. inl (subst (λ (v : MemberView). IsBad v.bad (m.superblock.data_offset + s)) rests.member bad)
grown_lacked how lacking a k m n (inr (inr (inr same))) = λ s bad. inl (subst (λ (v : MemberView). IsBad v.bad (m.superblock.data_offset + s)) same.1 bad)

module _ (how : Growth) (lacking : Maps) where
  -- the first n members so, and the others as before
  pub record RegardsTo (n : ℕ) (old new : MirrorView) : Type 0 where
    pub disks : new.disks ≡ old.disks
    pub others : new.array ≡ record old.array { members = new.array.members }
    pub as_many : length new.array.members ≡ length old.array.members
    pub each : (k : ℕ) (m n' : MemberView) → k < n → IsMember old.array k m → IsMember new.array k n' → IsRegarded how lacking old.array k m n'
    pub rest : (j : ℕ) → n ≤ j → slice_get new.array.members j ≡ slice_get old.array.members j

  pub regards_none : (v : MirrorView) → RegardsTo 0 v v
  regards_none v = record { disks = refl; others = refl; as_many = refl; each = λ k m n' low. absurd (omega (arith, low)); rest = λ j from. refl }

  pub regards_all : (n : ℕ) (old new : MirrorView) → length old.array.members ≤ n → RegardsTo n old new → Regards how lacking old new
  regards_all n old new all to = record {
    disks = to.disks;
    others = to.others;
    as_many = to.as_many;
    each = λ k m n' at now. (let within = slice_get_within old.array.members k m at in to.each k m n' (omega (arith, within, all)) at now);
  }

  -- what an image lacks does not depend on lists
  module _ (n : ℕ) (old mid : MirrorView) (to : RegardsTo n old mid) where
    chunks_same : mid.array.chunks ≡ old.array.chunks
    chunks_same = ap (λ (v : ArrayView). v.chunks) to.others

    alike_at : (j : ℕ) (m n' : MemberView) → IsMember old.array j m → IsMember mid.array j n' → Alike m n'
    alike_at j m n' at now = elim (cases_lt j n) [
      | inl low ↦ alike how lacking old.array j m n' (to.each j m n' low at now)
      | inr from ↦ let same : n' ≡ m = same_Some n' m (sym now ∙ to.rest j from ∙ at) in (ap (λ (x : MemberView). x.state) same, ap (λ (x : MemberView). x.superblock) same)
    ]

    some_same : (missing : List Run) (m n' : MemberView) → Alike m n' → LacksSome missing mid.array n' → LacksSome missing old.array m
    some_same missing m n' like h = (
      h.0,
      h.1,
      subst (λ (v : Superblock). v.data_offset ≤ h.0) like.1 h.2,
      subst (λ (q : Chunks). h.0 < m.superblock.data_offset + q.size) chunks_same (subst (λ (v : Superblock). h.0 < v.data_offset + mid.array.chunks.size) like.1 h.3),
    )

    some_back : (missing : List Run) (m n' : MemberView) → Alike m n' → LacksSome missing old.array m → LacksSome missing mid.array n'
    some_back missing m n' like h = (
      h.0,
      h.1,
      subst (λ (v : Superblock). v.data_offset ≤ h.0) (sym like.1) h.2,
      subst (λ (q : Chunks). h.0 < n'.superblock.data_offset + q.size) (sym chunks_same) (subst (λ (v : Superblock). h.0 < v.data_offset + old.array.chunks.size) (sym like.1) h.3),
    )

    pub lacking_was : (j : ℕ) → IsLacking lacking mid.array j → IsLacking lacking old.array j
    lacking_was j h =
        let within : j < length old.array.members = subst (λ (q : ℕ). j < q) to.as_many (slice_get_within mid.array.members j h.0 h.1.member) in
        let m = get_or old.array.members j h.0 in
        let at : IsMember old.array j m = slice_get-get_or old.array.members j h.0 within in
        let like = alike_at j m h.0 at h.1.member in
        (m, record { member = at; in_sync = ap is_in_sync (sym like.0) ∙ h.1.in_sync }, some_same (missing_at lacking j) m h.0 like h.2)

    pub lacking_is : (j : ℕ) → IsLacking lacking old.array j → IsLacking lacking mid.array j
    lacking_is j h =
        let within : j < length mid.array.members = subst (λ (q : ℕ). j < q) (sym to.as_many) (slice_get_within old.array.members j h.0 h.1.member) in
        let n' = get_or mid.array.members j h.0 in
        let now : IsMember mid.array j n' = slice_get-get_or mid.array.members j h.0 within in
        let like = alike_at j h.0 n' h.1.member now in
        (n', record { member = now; in_sync = ap is_in_sync like.0 ∙ h.1.in_sync }, some_back (missing_at lacking j) h.0 n' like h.2)

    resynced_same : mid.array.resynced ≡ old.array.resynced
    resynced_same = ap (λ (v : ArrayView). v.resynced) to.others

    -- nor do states, and which sectors members give
    got_was : (j : ℕ) (n' : MemberView) → IsMember mid.array j n' → (m : MemberView) × IsMember old.array j m × Alike m n'
    got_was j n' now =
        let within : j < length old.array.members = subst (λ (q : ℕ). j < q) to.as_many (slice_get_within mid.array.members j n' now) in
        let m = get_or old.array.members j n' in
        let at : IsMember old.array j m = slice_get-get_or old.array.members j n' within in
        (m, at, alike_at j m n' at now)

    got_is : (j : ℕ) (m : MemberView) → IsMember old.array j m → (n' : MemberView) × IsMember mid.array j n' × Alike m n'
    got_is j m at =
        let within : j < length mid.array.members = subst (λ (q : ℕ). j < q) (sym to.as_many) (slice_get_within old.array.members j m at) in
        let n' = get_or mid.array.members j m in
        let now : IsMember mid.array j n' = slice_get-get_or mid.array.members j m within in
        (n', now, alike_at j m n' at now)

    kept_at : (j : ℕ) (m n' : MemberView) → IsMember old.array j m → IsMember mid.array j n' → (x : ℕ) → IsBad m.bad x → IsBad n'.bad x
    kept_at j m n' at now = elim (cases_lt j n) [
      | inl low ↦ kept_listed how lacking old.array j m n' (to.each j m n' low at now)
      | inr from ↦ let same : n' ≡ m = same_Some n' m (sym now ∙ to.rest j from ∙ at) in λ x bad. subst (λ (v : MemberView). IsBad v.bad x) (sym same) bad
    ]

    grown_at : (j : ℕ) (m n' : MemberView) → IsMember old.array j m → IsMember mid.array j n'
        → (s : ℕ) → IsBad n'.bad (m.superblock.data_offset + s) → IsBad m.bad (m.superblock.data_offset + s) ⊎ IsBad (missing_at lacking j) (m.superblock.data_offset + s)
    grown_at j m n' at now = elim (cases_lt j n) [
      | inl low ↦ grown_lacked how lacking old.array j m n' (to.each j m n' low at now)
      | inr from ↦ let same : n' ≡ m = same_Some n' m (sym now ∙ to.rest j from ∙ at) in λ s bad. inl (subst (λ (v : MemberView). IsBad v.bad (m.superblock.data_offset + s)) same bad)
    ]

    gives_was : (s j : ℕ) → GivesSector lacking mid.array s j → GivesSector lacking old.array s j
    gives_was s j h =
        let was = got_was j h.member h.in_sync.member in
        let like = was.2 in
        record {
          member = was.0;
          in_sync = record { member = was.1; in_sync = ap is_in_sync (sym like.0) ∙ h.in_sync.in_sync };
          unlisted = λ bad. h.unlisted (subst (λ (v : Superblock). IsBad h.member.bad (v.data_offset + s)) (sym like.1) (kept_at j was.0 h.member was.1 h.in_sync.member (was.0.superblock.data_offset + s) bad));
          there = λ bad. h.there (subst (λ (v : Superblock). IsBad (missing_at lacking j) (v.data_offset + s)) (sym like.1) bad);
        }

    gives_is : (s j : ℕ) → GivesSector lacking old.array s j → GivesSector lacking mid.array s j
    gives_is s j h =
        let is = got_is j h.member h.in_sync.member in
        let like = is.2 in
        record {
          member = is.0;
          in_sync = record { member = is.1; in_sync = ap is_in_sync like.0 ∙ h.in_sync.in_sync };
          unlisted = λ bad. elim (grown_at j h.member is.0 h.in_sync.member is.1 s (subst (λ (v : Superblock). IsBad is.0.bad (v.data_offset + s)) like.1 bad)) [ inl was ↦ h.unlisted was | inr lacks ↦ h.there lacks ];
          there = λ bad. h.there (subst (λ (v : Superblock). IsBad (missing_at lacking j) (v.data_offset + s)) like.1 bad);
        }

    alone_was : IsAlone mid.array → IsAlone old.array
    alone_was alone j k m m' one other =
        let first = got_is j m one.member in
        let second = got_is k m' other.member in
        alone j k first.0 second.0 (record { member = first.1; in_sync = ap is_in_sync first.2.0 ∙ one.in_sync }) (record { member = second.1; in_sync = ap is_in_sync second.2.0 ∙ other.in_sync })

    alone_is : IsAlone old.array → IsAlone mid.array
    alone_is alone j k m m' one other =
        let first = got_was j m one.member in
        let second = got_was k m' other.member in
        alone j k first.0 second.0 (record { member = first.1; in_sync = ap is_in_sync (sym first.2.0) ∙ one.in_sync }) (record { member = second.1; in_sync = ap is_in_sync (sym second.2.0) ∙ other.in_sync })

    marked_same : (s : ℕ) → in_chunks mid.array.chunks mid.array.marks s ≡ in_chunks old.array.chunks old.array.marks s
    marked_same s = ap (λ (v : ArrayView). in_chunks v.chunks v.marks s) to.others

    before_was : (which : BeforeResync) (s : ℕ) → CountsBefore which lacking mid.array s → CountsBefore which lacking old.array s
    before_was All s h = h
    before_was Nothing s h = h
    before_was Given s (inl unmarked) = inl (sym (marked_same s) ∙ unmarked)
    before_was Given s (inr (inl given)) = inr (inl (given.0, gives_was s given.0 given.1))
    before_was Given s (inr (inr alone)) = inr (inr (alone_was alone))

    before_is : (which : BeforeResync) (s : ℕ) → CountsBefore which lacking old.array s → CountsBefore which lacking mid.array s
    before_is All s h = h
    before_is Nothing s h = h
    before_is Given s (inl unmarked) = inl (marked_same s ∙ unmarked)
    before_is Given s (inr (inl given)) = inr (inl (given.0, gives_is s given.0 given.1))
    before_is Given s (inr (inr alone)) = inr (inr (alone_is alone))

    counts_was : (which : BeforeResync) (s : ℕ) → CountsAsListed which lacking mid.array s → CountsAsListed which lacking old.array s
    counts_was which s (inl resynced) = inl (sym resynced_same ∙ resynced)
    counts_was which s (inr h) = inr (before_was which s h)

    counts_is : (which : BeforeResync) (s : ℕ) → CountsAsListed which lacking old.array s → CountsAsListed which lacking mid.array s
    counts_is which s (inl resynced) = inl (resynced_same ∙ resynced)
    counts_is which s (inr h) = inr (before_is which s h)

    counted_was : (which : BeforeResync) (k : ℕ) (m : MemberView) (sectors : List Run) → AreCountedAsListed which lacking mid.array k m sectors → AreCountedAsListed which lacking old.array k m sectors
    counted_was which k m sectors are s = (
      λ bad. (let h = (are s).0 bad in (subst (λ (q : Chunks). s < q.size) chunks_same h.0, h.1, counts_was which s h.2)),
      λ h. (are s).1 (subst (λ (q : Chunks). s < q.size) (sym chunks_same) h.0, h.1, counts_is which s h.2),
    )

    regarded_was : (k : ℕ) (m n' : MemberView) → IsRegarded how lacking mid.array k m n' → IsRegarded how lacking old.array k m n'
    regarded_was k m n' (inl h) = inl (record {
      lacks = lacking_was k h.lacks;
      sectors = h.sectors;
      are = counted_was how.before_resync k m h.sectors h.are;
      room = h.room;
      list = h.list;
      list_is = h.list_is;
      member = h.member;
    })
    regarded_was k m n' (inr (inl h)) = inr (inl (record {
      lacks = lacking_was k h.lacks;
      must_fit = h.must_fit;
      unresynced = sym resynced_same ∙ h.unresynced;
      all = h.all;
      are = counted_was how.before_resync k m h.all h.are;
      full = h.full;
      sectors = h.sectors;
      marked = λ s. (
        λ bad. (let both = (h.marked s).0 bad in (both.0, sym (marked_same s) ∙ both.1)),
        λ both. (h.marked s).1 (both.0, marked_same s ∙ both.1),
      );
      list = h.list;
      list_is = h.list_is;
      member = h.member;
    }))
    regarded_was k m n' (inr (inr (inl h))) = inr (inr (inl (record {
      lacks = lacking_was k h.lacks;
      must_fit = h.must_fit;
      resynced = sym resynced_same ∙ h.resynced;
      sectors = h.sectors;
      are = counted_was how.before_resync k m h.sectors h.are;
      full = h.full;
      member = h.member;
    })))
    regarded_was k m n' (inr (inr (inr h))) = inr (inr (inr (λ l. h.0 (lacking_is k l), h.1)))

    pub regards_more : (new : MirrorView) → RegardsOne how lacking n mid new → RegardsTo (n + 1) old new
    regards_more new one = record {
      disks = one.disks ∙ to.disks;
      others = one.others ∙ ap (λ (v : ArrayView). record v { members = new.array.members }) to.others;
      as_many = one.as_many ∙ to.as_many;
      each = λ k m n' low at now. elim (cases_more k n low) [
        | inl early ↦ to.each k m n' early at (sym (one.beside k (λ is. absurd (omega (arith, early, is)))) ∙ now)
        | inr here ↦
            let at_mid : IsMember mid.array k m = to.rest k (omega (arith, here)) ∙ at in
            regarded_was k m n' (subst (λ (j : ℕ). (x y : MemberView) → IsMember mid.array j x → IsMember new.array j y → IsRegarded how lacking mid.array j x y) (sym here) one.member m n' at_mid now)
      ];
      rest = λ j from. one.beside j (λ is. absurd (omega (arith, from, is))) ∙ to.rest j (omega (arith, from));
    }
