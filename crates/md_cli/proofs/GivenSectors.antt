-- Which sectors of the array members give, and which lie in marked chunks.
use Rattle.std.proofs.Common.{◌≡◌, ◌∙◌, ◌⊎◌, ◌↔◌, ℕ, ◌+◌, ◌-◌, ◌^◌, ◌<◌, ◌≤◌, min, true, false, true≢false, List, [], ◌∷◌, length, Result, Ok, Err, inl, inr, sym, ap, subst, arith}
use Rattle.std.specs.Prelude.{IfOk}
use Rattle.std.proofs.lemmas.Bool.{cases_lt}
use Rattle.std.proofs.lemmas.Option.{slice_get_within}
use Rattle.md_badblocks.specs.Runs.{IsBad, IsCanonical, LiesIn}
use Rattle.md_badblocks.specs.declared.run.Run.{Run}
use Rattle.md_bitmap.specs.declared.chunks.Chunks.{Chunks}
use Rattle.md_bitmap.specs.Marks.{Bitmap}
use Rattle.md_kept_members.specs.Enrolling.{AreRemoved}
use Rattle.md_kept_members.specs.SectorLists.{IsPlaced, in_chunks, in_runs}
use Rattle.md_kept_members.proofs.Members.Indices.{cases_more}
use Rattle.md_kept_members.proofs.Members.Roles.{bad_below}
use Rattle.md_kept_members.proofs.SectorSets.{bad_in, in_bad, placed_chunks}
use Rattle.md_model.proofs.Cases.{by_test}
use Rattle.md_assembly.proofs.Indices.{got_same}
use Rattle.md_assembly.specs.States.{is_in_sync}
use Rattle.md_kept_members.specs.View.{MemberView}
use Rattle.md_state.specs.Members.{IsAlone, IsInSync, IsMember}
use Rattle.md_state.specs.View.{ArrayView}
use Rattle.md_cli.specs.declared.lists.holes.BeforeResync.{BeforeResync}
use Rattle.md_cli.specs.declared.lists.holes.BeforeResync.TheVariants.{Given}
use Rattle.md_cli.specs.Lacking.{AreCountedAsListed, AreHoles, CountsBefore, GivesSector, IsGivenBySome, Maps, missing_at}

-- ---- runs are taken away, one by one: what is left then is there, and goes not with the rest
pub record LeavesTo (runs : List Run) (offset : ℕ) (old rest list : List Run) : Type 0 where
  pub left : (s : ℕ) → (IsBad old s × (IsBad runs (offset + s) → ⊥)) ↔ (IsBad list s × (IsBad rest (offset + s) → ⊥))
  pub part : (x : ℕ) → IsBad rest x → IsBad runs x

pub leaves_none : (runs : List Run) (offset : ℕ) (old : List Run) → LeavesTo runs offset old runs old
leaves_none runs offset old = record { left = λ s. (λ h. h, λ h. h); part = λ x h. h }

module _ (run : Run) (offset first end past len : ℕ) (first_is : first ≡ run.start - offset) (end_is : end ≡ min (run.start + run.len) (2 ^ 64 - 1)) (past_is : past ≡ end - offset) (len_is : len ≡ past - first) where
  beside_run : (s : ℕ) → (LiesIn (offset + s) run → ⊥) → (s < first) ⊎ (first + len ≤ s)
  beside_run s out = elim (cases_lt s first) [
    | inl low ↦ inl low
    | inr from ↦ elim (cases_lt s (first + len)) [
      | inl below ↦ absurd (out (omega arith, omega arith))
      | inr behind ↦ inr behind
    ]
  ]

  not_in_run : (s : ℕ) → offset + s < 2 ^ 54 → LiesIn (offset + s) run → (s < first) ⊎ (first + len ≤ s) → ⊥
  not_in_run s low here (inl early) = let from = here.0 in absurd (omega arith)
  not_in_run s low here (inr behind) = let from = here.0 in let below = here.1 in absurd (omega arith)

  pub leaves_more : (runs rest old list new : List Run) → IsCanonical runs → LeavesTo runs offset old (run ∷ rest) list
      → ((s : ℕ) → IsBad new s ↔ (IsBad list s × ((s < first) ⊎ (first + len ≤ s)))) → LeavesTo runs offset old rest new
  leaves_more runs rest old list new canonical before removed = record {
    left = λ s. (
      λ h.
          let was = (before.left s).0 h in
          ((removed s).1 (was.0, beside_run s (λ here. was.1 (inl here))), λ later. was.1 (inr later)),
      λ h.
          let was = (removed s).0 h.0 in
          (before.left s).1 (
            was.0,
            λ e. elim e [
              | inl here ↦ not_in_run s (bad_below 0 (offset + s) runs canonical (before.part (offset + s) (inl here))) here was.1
              | inr later ↦ h.1 later
            ],
          ),
    );
    part = λ x h. before.part x (inr h);
  }

pub leaves_all : (runs rest : List Run) (offset : ℕ) (old list : List Run) → rest ≡ [] → LeavesTo runs offset old rest list
    → (s : ℕ) → IsBad list s ↔ (IsBad old s × (IsBad runs (offset + s) → ⊥))
leaves_all runs rest offset old list none made s = (
  λ bad. (made.left s).1 (bad, λ e. subst (λ (xs : List Run). IsBad xs (offset + s)) none e),
  λ h. ((made.left s).0 h).0,
)

-- ---- an offset of nothing
pub zero_plus : (s : ℕ) → 0 + s ≡ s
zero_plus s = omega arith

pub placed_same : (runs : List Run) (s : ℕ) → IsCanonical runs → (IsPlaced (in_runs runs) 0 s × (s < 2 ^ 54)) ↔ IsBad runs s
placed_same runs s canonical = (
  λ p.
      let at : p.0.at ≡ s = let is = p.0.is in omega arith in
      subst (λ (x : ℕ). IsBad runs x) at (bad_in runs p.0.at p.0.in_set),
  λ bad. (record { at = s; in_set = in_bad runs s bad; is = sym (zero_plus s) }, bad_below 0 s runs canonical bad),
)

-- ---- member by member those are added that it gives
module _ (lacking : Maps) (a : ArrayView) (sectors : List Run) where
  abbrev pub IsGivenTo : ℕ → ℕ → Type 0
  IsGivenTo n s = (j : ℕ) × (j < n) × GivesSector lacking a s j

  abbrev pub AreGivenTo : ℕ → List Run → Type 0
  AreGivenTo n list = (s : ℕ) → IsBad list s ↔ (IsBad sectors s × IsGivenTo n s)

  pub given_none : (list : List Run) → list ≡ [] → AreGivenTo 0 list
  given_none list none s = (
    λ bad. absurd (subst (λ (xs : List Run). IsBad xs s) none bad),
    λ h. (let low = h.1.1 in absurd (omega (arith, low))),
  )

  pub given_more : (n : ℕ) (old new : List Run) → AreGivenTo n old → ((s : ℕ) → IsBad new s ↔ (IsBad old s ⊎ (IsBad sectors s × GivesSector lacking a s n))) → AreGivenTo (n + 1) new
  given_more n old new before one s = (
    λ bad. elim ((one s).0 bad) [
      | inl was ↦ let h = (before s).0 was in let low = h.1.1 in (h.0, (h.1.0, omega (arith, low), h.1.2))
      | inr here ↦ (here.0, (n, omega arith, here.1))
    ],
    λ h. elim (cases_more h.1.0 n h.1.1) [
      | inl early ↦ (one s).1 (inl ((before s).1 (h.0, (h.1.0, early, h.1.2))))
      | inr is ↦ (one s).1 (inr (h.0, subst (λ (j : ℕ). GivesSector lacking a s j) is h.1.2))
    ],
  )

  pub given_all : (n : ℕ) (list : List Run) → length a.members ≤ n → AreGivenTo n list → (s : ℕ) → IsBad list s ↔ (IsBad sectors s × IsGivenBySome lacking a s)
  given_all n list all to s = (
    λ bad. (let h = (to s).0 bad in (h.0, (h.1.0, h.1.2))),
    λ h. (to s).1 (
      h.0,
      (h.1.0, (let within = slice_get_within a.members h.1.0 h.1.1.member h.1.1.in_sync.member in omega (arith, within, all)), h.1.1),
    ),
  )

-- ---- marked chunks
module _ (chunks : Chunks) (set : Bitmap) (sectors same : List Run) (alike : (s : ℕ) → IsBad same s ↔ IsBad sectors s) where
  pub unmarked_of : (list : List Run) → AreRemoved chunks 0 set same list → (s : ℕ) → IsBad list s ↔ (IsBad sectors s × (in_chunks chunks set s ≡ false))
  unmarked_of list removed s = (
    λ bad.
        let h = (removed.bad s).0 bad in (
          (alike s).0 h.0,
          by_test (in_chunks chunks set s) (λ is. absurd (h.1 ((placed_chunks chunks set 0 s).0 (record { at = s; in_set = is; is = sym (zero_plus s) })))) (λ isnt. isnt),
        ),
    λ h. (removed.bad s).1 (
      (alike s).1 h.0,
      λ o.
          let p = (placed_chunks chunks set 0 s).1 o in
          let at : p.at ≡ s = let is = p.is in omega arith in
          true≢false (sym p.in_set ∙ ap (in_chunks chunks set) at ∙ h.1),
    ),
  )

  pub marked_of : (rest list : List Run) → ((s : ℕ) → IsBad rest s ↔ (IsBad sectors s × (in_chunks chunks set s ≡ false))) → ((s : ℕ) → IsBad list s ↔ (IsBad same s × (IsBad rest (0 + s) → ⊥)))
      → (s : ℕ) → IsBad list s ↔ (IsBad sectors s × (in_chunks chunks set s ≡ true))
  marked_of rest list unmarked left s = (
    λ bad.
        let h = (left s).0 bad in
        let was = (alike s).0 h.0 in
        (was, by_test (in_chunks chunks set s) (λ is. is) (λ isnt. absurd (h.1 (subst (λ (x : ℕ). IsBad rest x) (sym (zero_plus s)) ((unmarked s).1 (was, isnt)))))),
    λ h. (left s).1 (
      (alike s).1 h.0,
      λ bad. true≢false (sym h.1 ∙ ((unmarked s).0 (subst (λ (x : ℕ). IsBad rest x) (zero_plus s) bad)).1),
    ),
  )

-- ---- what one member has
pub there_of : (lacked missing sectors same less list bads : List Run) (m : MemberView) (offset : ℕ) → lacked ≡ missing → m.bad ≡ bads → m.superblock.data_offset ≡ offset
    → ((s : ℕ) → IsBad same s ↔ IsBad sectors s)
    → ((s : ℕ) → IsBad less s ↔ (IsBad same s × (IsBad bads (offset + s) → ⊥)))
    → ((s : ℕ) → IsBad list s ↔ (IsBad less s × (IsBad missing (offset + s) → ⊥)))
    → (s : ℕ) → IsBad list s ↔ (IsBad sectors s × (IsBad m.bad (m.superblock.data_offset + s) → ⊥) × (IsBad lacked (m.superblock.data_offset + s) → ⊥))
there_of lacked missing sectors same less list bads m offset missing_is bad_is offset_is alike first second s = (
  λ bad.
      let h = (second s).0 bad in
      let was = (first s).0 h.0 in (
        (alike s).0 was.0,
        λ b. was.1 (subst (λ (xs : List Run). IsBad xs (offset + s)) bad_is (subst (λ (o : ℕ). IsBad m.bad (o + s)) offset_is b)),
        λ b. h.1 (subst (λ (xs : List Run). IsBad xs (offset + s)) missing_is (subst (λ (o : ℕ). IsBad lacked (o + s)) offset_is b)),
      ),
  λ h. (second s).1 (
    (first s).1 ((alike s).1 h.0, λ b. h.1 (subst (λ (o : ℕ). IsBad m.bad (o + s)) (sym offset_is) (subst (λ (xs : List Run). IsBad xs (offset + s)) (sym bad_is) b))),
    λ b. h.2 (subst (λ (o : ℕ). IsBad lacked (o + s)) (sym offset_is) (subst (λ (xs : List Run). IsBad xs (offset + s)) (sym missing_is) b)),
  ),
)

-- where nothing is lacked
pub less_alone : (list : List Run) (offset s : ℕ) → IsBad list s ↔ (IsBad list s × (IsBad [] (offset + s) → ⊥))
less_alone list offset s = (λ bad. (bad, λ none. none), λ h. h.0)

-- what is added of one member
pub added_of : (lacking : Maps) (a : ArrayView) (sectors old new part : List Run) (j : ℕ) (m : MemberView) → IsInSync a j m → IsCanonical part
    → ((s : ℕ) → IsBad new s ↔ (IsBad old s ⊎ (IsPlaced (in_runs part) 0 s × (s < 2 ^ 54))))
    → ((s : ℕ) → IsBad part s ↔ (IsBad sectors s × (IsBad m.bad (m.superblock.data_offset + s) → ⊥) × (IsBad (missing_at lacking j) (m.superblock.data_offset + s) → ⊥)))
    → (s : ℕ) → IsBad new s ↔ (IsBad old s ⊎ (IsBad sectors s × GivesSector lacking a s j))
added_of lacking a sectors old new part j m in_sync canonical added there s = (
  λ bad. elim ((added s).0 bad) [
    | inl was ↦ inl was
    | inr placed ↦ let h = (there s).0 ((placed_same part s canonical).0 placed) in inr (h.0, record { member = m; in_sync = in_sync; unlisted = h.1; there = h.2 })
  ],
  λ e. elim e [
    | inl was ↦ (added s).1 (inl was)
    | inr h ↦
        let gives = h.1 in
        let same : gives.member ≡ m = got_same a.members j gives.member m gives.in_sync.member in_sync.member in
        (added s).1 (inr ((placed_same part s canonical).1 ((there s).1 (
          h.0,
          subst (λ (x : MemberView). IsBad x.bad (x.superblock.data_offset + s) → ⊥) same gives.unlisted,
          subst (λ (x : MemberView). IsBad (missing_at lacking j) (x.superblock.data_offset + s) → ⊥) same gives.there,
        ))))
  ],
)

-- a member that is not in sync gives none
pub gives_none : (lacking : Maps) (a : ArrayView) (sectors old : List Run) (j : ℕ) (m : MemberView) → IsMember a j m → is_in_sync m.state ≡ false
    → (s : ℕ) → IsBad old s ↔ (IsBad old s ⊎ (IsBad sectors s × GivesSector lacking a s j))
gives_none lacking a sectors old j m at out s = (
  λ bad. inl bad,
  λ e. elim e [
    | inl was ↦ was
    | inr h ↦
        let gives = h.1 in
        absurd (true≢false (sym gives.in_sync.in_sync ∙ ap (λ (x : MemberView). is_in_sync x.state) (got_same a.members j gives.member m gives.in_sync.member at) ∙ out))
  ],
)

-- ---- those of unmarked chunks and those that are given
pub unmarked_or_given_are : (lacking : Maps) (a : ArrayView) (holes unmarked given list : List Run) → IsCanonical given → (IsAlone a → ⊥)
    → ((s : ℕ) → IsBad unmarked s ↔ (IsBad holes s × (in_chunks a.chunks a.marks s ≡ false)))
    → ((s : ℕ) → IsBad given s ↔ (IsBad holes s × IsGivenBySome lacking a s))
    → ((s : ℕ) → IsBad list s ↔ (IsBad unmarked s ⊎ (IsPlaced (in_runs given) 0 s × (s < 2 ^ 54))))
    → (s : ℕ) → IsBad list s ↔ (IsBad holes s × CountsBefore Given lacking a s)
unmarked_or_given_are lacking a holes unmarked given list canonical two first second both s = (
  λ bad. elim ((both s).0 bad) [
    | inl is ↦ let h = (first s).0 is in (h.0, inl h.1)
    | inr placed ↦ let h = (second s).0 ((placed_same given s canonical).0 placed) in (h.0, inr (inl h.1))
  ],
  λ h. elim h.1 [
    | inl is ↦ (both s).1 (inl ((first s).1 (h.0, is)))
    | inr other ↦ elim other [
      | inl is ↦ (both s).1 (inr ((placed_same given s canonical).1 ((second s).1 (h.0, is))))
      | inr alone ↦ absurd (two alone)
    ]
  ],
)

pub alone_are : (lacking : Maps) (a : ArrayView) (holes list : List Run) → IsAlone a → ((s : ℕ) → IsBad list s ↔ IsBad holes s)
    → (s : ℕ) → IsBad list s ↔ (IsBad holes s × CountsBefore Given lacking a s)
alone_are lacking a holes list alone same s = (λ bad. ((same s).0 bad, inr (inr alone)), λ h. (same s).1 h.0)

-- ---- what counts
pub counted_resynced : (which : BeforeResync) (lacking : Maps) (a : ArrayView) (k : ℕ) (m : MemberView) (holes : List Run) → a.resynced ≡ true
    → AreHoles (missing_at lacking k) m.superblock.data_offset a.chunks.size holes → AreCountedAsListed which lacking a k m holes
counted_resynced which lacking a k m holes resynced are s = (
  λ bad. (let h = (are s).0 bad in (h.0, h.1, inl resynced)),
  λ h. (are s).1 (h.0, h.1),
)

pub counted_unresynced : (which : BeforeResync) (lacking : Maps) (a : ArrayView) (k : ℕ) (m : MemberView) (holes list : List Run) → a.resynced ≡ false
    → AreHoles (missing_at lacking k) m.superblock.data_offset a.chunks.size holes → ((s : ℕ) → IsBad list s ↔ (IsBad holes s × CountsBefore which lacking a s))
    → AreCountedAsListed which lacking a k m list
counted_unresynced which lacking a k m holes list unresynced are counted s = (
  λ bad.
      let h = (counted s).0 bad in
      let hole = (are s).0 h.0 in
      (hole.0, hole.1, inr h.1),
  λ h. elim h.2 [
    | inl resynced ↦ absurd (true≢false (sym resynced ∙ unresynced))
    | inr before ↦ (counted s).1 ((are s).1 (h.0, h.1), before)
  ],
)

-- ---- answers
pub if_ok : {T E : Type 0} {P Q : T → Type 0} (r : Result T E) → ((x : T) → P x → Q x) → IfOk r P → IfOk r Q
if_ok (Ok x) f p = f x p
if_ok (Err e) f p = p

pub all_ok : {T E : Type 0} {Q : T → Type 0} (r : Result T E) → ((x : T) → Q x) → IfOk r Q
all_ok (Ok x) f = f x
all_ok (Err e) f = tt
