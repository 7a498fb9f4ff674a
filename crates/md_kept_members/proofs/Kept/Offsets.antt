-- Which offsets count, once it is known when marks were last cleared.
use Rattle.std.proofs.Common.{◌≡◌, ◌∙◌, ℕ, false, List, length, map, Some, None, Option, cond, ap, refl, sym, subst, arith, inl, inr}
use Rattle.std.specs.Prelude.{nat_lt}
use Rattle.std.specs.List.{slice_get}
use Rattle.std.specs.Option.{option_map}
use Rattle.std.proofs.lemmas.List.{length-map}
use Rattle.std.proofs.lemmas.Option.{slice_get-map}
use Rattle.std.proofs.lemmas.Bool.Decides.{nat_tests}
use Rattle.md_super.specs.declared.superblock.Superblock.{Superblock}
use Rattle.md_members.specs.declared.info.MemberInfo.{MemberInfo}
use Rattle.md_members.specs.Members.{IsAccepted}
use Rattle.md_assembly.specs.declared.state.MemberState.{MemberState}
use Rattle.md_assembly.specs.declared.state.MemberState.TheVariants.{InSync, Recovering, Stale, Spare, Faulty}
use Rattle.md_kept_members.specs.View.{MemberView}
use Rattle.md_kept_members.specs.OwnFields.{kept_superblock}
use Rattle.md_kept_members.specs.Kept.{IsKept, known_offset, with_known_offset}
use Rattle.md_kept_members.specs.Members.{NeedsMarks}
use Rattle.md_kept_members.specs.Remembering.{AreKept, ClearedIn, HasAccepted, IsLastClearedOr}

-- no superblock is older than 0 events
none_below : (n : ℕ) → nat_lt n 0 ≡ false
none_below n = grind (arith, nat_tests)

pub none_older : (s : MemberState) (v : Superblock) → known_offset 0 s v ≡ v.recovery_offset
none_older (InSync role) v = refl
none_older (Recovering role) v = ap (λ b. cond b 0 v.recovery_offset) (none_below v.events)
none_older (Stale role) v = refl
none_older Spare v = refl
none_older Faulty v = refl

-- an element of a list to which a function was applied
pub record IsMapped {A : Type 0} (f : A → A) (xs : List A) (k : ℕ) (y : A) : Type 0 where
  pub from : A
  pub at : slice_get xs k ≡ Some from
  pub is : f from ≡ y

pub mapped_from : {A : Type 0} (f : A → A) (xs : List A) (k : ℕ) (y : A) → slice_get (map f xs) k ≡ Some y → IsMapped f xs k y
mapped_from {A} f xs k y e = of (slice_get xs k) refl (sym (slice_get-map f xs k) ∙ e)
  where
    of : (o : Option A) → slice_get xs k ≡ o → option_map f o ≡ Some y → IsMapped f xs k y
    of None at is = absurd cc
    of (Some x) at is = let same : f x ≡ y = cc in record { from = x; at = at; is = same }

pub mapped_there : {A : Type 0} (f : A → A) (xs : List A) (k : ℕ) (x : A) → slice_get xs k ≡ Some x → slice_get (map f xs) k ≡ Some (f x)
mapped_there f xs k x at = slice_get-map f xs k ∙ ap (option_map f) at

-- ---- what is kept of each member then
needs_marks : (cleared : ℕ) (m : MemberView) → NeedsMarks (with_known_offset cleared m) → NeedsMarks m
needs_marks cleared m n = record {
  in_sync = n.in_sync;
  refused = λ (a : IsAccepted m.superblock m.header). n.refused (record { uuid = a.uuid; size = a.size; state = a.state; events = a.events });
}

still_needs : (cleared : ℕ) (m : MemberView) → NeedsMarks m → NeedsMarks (with_known_offset cleared m)
still_needs cleared m n = record {
  in_sync = n.in_sync;
  refused = λ (a : IsAccepted (with_known_offset cleared m).superblock m.header). n.refused (record { uuid = a.uuid; size = a.size; state = a.state; events = a.events });
}

known : (events cleared : ℕ) (info : MemberInfo) (state : MemberState) (m : MemberView) → IsKept events 0 info state m → IsKept events cleared info state (with_known_offset cleared m)
known events cleared info state m kept = record {
  superblock =
      ap (λ (v : Superblock). record v { recovery_offset = known_offset cleared m.state v }) before
      ∙ ap (λ s. record (kept_superblock info) { recovery_offset = known_offset cleared s (kept_superblock info) }) kept.state_is;
  header = kept.header;
  bad = kept.bad;
  state_is = kept.state_is;
  due = kept.due;
  offset = ap (λ s. known_offset cleared s m.superblock) kept.state_is ∙ ap (known_offset cleared state) before;
  stored_offset = kept.stored_offset;
  chunks = kept.chunks;
  all_marks = λ n. kept.all_marks (needs_marks cleared m n);
  its_marks = λ no. kept.its_marks (λ n. no (still_needs cleared m n));
}
  where
    before : m.superblock ≡ kept_superblock info
    before = kept.superblock ∙ ap (λ o. record (kept_superblock info) { recovery_offset = o }) (none_older state info.superblock)

pub are_known : (events cleared : ℕ) (infos : List MemberInfo) (states : List MemberState) (members : List MemberView) → AreKept events 0 infos states members
    → AreKept events cleared infos states (map (with_known_offset cleared) members)
are_known events cleared infos states members kept = record {
  as_many = length-map members (with_known_offset cleared) ∙ kept.as_many;
  each = λ k info state m at_i at_s at_m.
      (let x = mapped_from (with_known_offset cleared) members k m at_m in
      subst (IsKept events cleared info state) x.is (known events cleared info state x.from (kept.each k info state x.from at_i at_s x.at)));
}

-- ---- when marks were last cleared stays
accepted : (cleared : ℕ) (m : MemberView) → HasAccepted m → HasAccepted (with_known_offset cleared m)
accepted cleared m h = record { in_sync = h.in_sync; accepted = record { uuid = h.accepted.uuid; size = h.accepted.size; state = h.accepted.state; events = h.accepted.events } }

was_accepted : (cleared : ℕ) (m : MemberView) → HasAccepted (with_known_offset cleared m) → HasAccepted m
was_accepted cleared m h = record { in_sync = h.in_sync; accepted = record { uuid = h.accepted.uuid; size = h.accepted.size; state = h.accepted.state; events = h.accepted.events } }

cleared_then : (cleared : ℕ) (members : List MemberView) (n e : ℕ) → ClearedIn members n e → ClearedIn (map (with_known_offset cleared) members) n e
cleared_then cleared members n e h = record {
  at = h.at;
  member = with_known_offset cleared h.member;
  early = h.early;
  listed = mapped_there (with_known_offset cleared) members h.at h.member h.listed;
  accepted = accepted cleared h.member h.accepted;
  is = h.is;
}

cleared_before : (cleared : ℕ) (members : List MemberView) (n e : ℕ) → ClearedIn (map (with_known_offset cleared) members) n e → ClearedIn members n e
cleared_before cleared members n e h =
    let x = mapped_from (with_known_offset cleared) members h.at h.member h.listed in
    record {
      at = h.at;
      member = x.from;
      early = h.early;
      listed = x.at;
      accepted = was_accepted cleared x.from (subst HasAccepted (sym x.is) h.accepted);
      is = h.is ∙ ap (λ (m : MemberView). m.header.events_cleared) (sym x.is);
    }

pub last_stays : (cleared default : ℕ) (members : List MemberView) (events : ℕ) → IsLastClearedOr default members events → IsLastClearedOr default (map (with_known_offset cleared) members) events
last_stays cleared default members events last =
    let as_many = length-map members (with_known_offset cleared) in
    let news = map (with_known_offset cleared) members in
    elim last [
      | inl most ↦ inl (
        subst (λ n. ClearedIn news n events) (sym as_many) (cleared_then cleared members (length members) events most.0),
        λ other h. most.1 other (cleared_before cleared members (length members) other (subst (λ n. ClearedIn news n other) as_many h)),
      )
      | inr none ↦ inr (λ other h. none.0 other (cleared_before cleared members (length members) other (subst (λ n. ClearedIn news n other) as_many h)), none.1)
    ]
