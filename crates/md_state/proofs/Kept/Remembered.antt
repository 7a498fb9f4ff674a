-- What is found in the list of the members is what an array of them keeps.
use Rattle.std.proofs.Common.{◌≡◌, ◌∙◌, ◌↔◌, ◌⊎◌, ℕ, ◌<◌, true, false, List, [], length, Some, ap, sym, arith, inl, inr}
use Rattle.std.specs.Int.{div_ceil}
use Rattle.std.specs.List.{slice_get}
use Rattle.std.specs.Option.{option_map}
use Rattle.std.proofs.lemmas.Option.{slice_get-map, slice_get_within}
use Rattle.md_super.specs.declared.superblock.Superblock.{Superblock}
use Rattle.md_bitmap.specs.Marks.{Bitmap, IsMarked, is_set}
use Rattle.md_members.specs.declared.info.MemberInfo.{MemberInfo}
use Rattle.md_assembly.specs.declared.assembling.Assembly.{Assembly}
use Rattle.md_assembly.specs.Assembled.{IsAssembled}
use Rattle.md_assembly.specs.Faults.{NoAssembleFault}
use Rattle.md_kept_members.specs.View.{MemberView}
use Rattle.md_kept_members.specs.Remembering.{AreKept, AreWhole, ClearedIn, HaveChunks, IsAloneIn, IsChunkingOf, IsLastClearedOr, IsMarkedIn}
use Rattle.md_state.specs.View.{ArrayView}
use Rattle.md_state.specs.Remembered.{ClearedAt, IsLastCleared, IsRemembered}
use Rattle.md_state.specs.Members.{IsAlone, IsInSync}
use Rattle.md_state.proofs.Kept.Geometry.{count_of, width_of}

at_from_in : (a : ArrayView) (n e : ℕ) → ClearedIn a.members n e → ClearedAt a e
at_from_in a n e h = record { at = h.at; member = h.member; in_sync = record { member = h.listed; in_sync = h.accepted.in_sync }; accepted = h.accepted.accepted; is = h.is }

in_from_at : (a : ArrayView) (e : ℕ) → ClearedAt a e → ClearedIn a.members (length a.members) e
in_from_at a e h = record {
  at = h.at;
  member = h.member;
  early = slice_get_within a.members h.at h.member h.in_sync.member;
  listed = h.in_sync.member;
  accepted = record { in_sync = h.in_sync.in_sync; accepted = h.accepted };
  is = h.is;
}

last_cleared : (a : ArrayView) → IsLastClearedOr a.shared.events a.members a.events_cleared → IsLastCleared a a.events_cleared
last_cleared a found = elim found [
  | inl most ↦ inl (at_from_in a _ _ most.0, λ other h. most.1 other (in_from_at a other h))
  | inr none ↦ inr (λ other h. none.0 other (in_from_at a other h), none.1)
]

abbrev pub MarkedBySome : ArrayView → ℕ → Type 0
MarkedBySome a c = (k : ℕ) × (m : MemberView) × IsInSync a k m × IsMarked m.stored c

marked_by_some : (a : ArrayView) (c : ℕ) → ((is_set a.marks.bytes c ≡ true) ↔ IsMarkedIn a.members (length a.members) c) → (is_set a.marks.bytes c ≡ true) ↔ MarkedBySome a c
marked_by_some a c found = (
  λ set. let h = found.0 set in (h.at, h.member, record { member = h.listed; in_sync = h.in_sync }, h.marked),
  λ h. found.1 (record { at = h.0; member = h.1; early = slice_get_within a.members h.0 h.1 h.2.member; listed = h.2.member; in_sync = h.2.in_sync; marked = h.3 }),
)

alone : (a : ArrayView) → IsAloneIn a.members → IsAlone a
alone a one j k m n at_j at_k = one j k m n at_j.member at_j.in_sync at_k.member at_k.in_sync

alone_in : (a : ArrayView) → IsAlone a → IsAloneIn a.members
alone_in a one j k m n at_j in_j at_k in_k = one j k m n (record { member = at_j; in_sync = in_j }) (record { member = at_k; in_sync = in_k })

abbrev pub NoneSetIn : Bitmap → Type 0
NoneSetIn marks = (c : ℕ) → is_set marks.bytes c ≡ false

resynced : (a : ArrayView) → ((a.resynced ≡ true) ↔ (NoneSetIn a.marks ⊎ IsAloneIn a.members)) → (a.resynced ≡ true) ↔ (NoneSetIn a.marks ⊎ IsAlone a)
resynced a found = (
  λ yes. elim (found.0 yes) [ inl none ↦ inl none | inr one ↦ inr (alone a one) ],
  λ why. found.1 (elim why [ inl none ↦ inl none | inr one ↦ inr (alone_in a one) ]),
)

-- marks of members that have no more chunks than these are
pub marks_within : (members : List MemberView) (n count c : ℕ) → HaveChunks members count → IsMarkedIn members n c → c < count
marks_within members n count c alike h = let same = alike h.at h.member h.listed in let below = h.marked.0 in omega arith

-- what was found of the array
pub record IsFound (a : ArrayView) : Type 0 where
  pub count : a.marks.chunks ≡ div_ceil a.chunks.size a.chunks.sectors
  pub bits : (c : ℕ) → (is_set a.marks.bytes c ≡ true) ↔ IsMarkedIn a.members (length a.members) c
  pub cleared : IsLastClearedOr a.shared.events a.members a.events_cleared
  pub synced : (a.resynced ≡ true) ↔ (NoneSetIn a.marks ⊎ IsAloneIn a.members)
  pub running : a.halted ≡ false
  pub idle : a.requests ≡ record a.requests { entries = []; next = 0 }

pub remembered : (infos : List MemberInfo) (assembly : Assembly) (fresh : MemberInfo) (a : ArrayView) → AreWhole infos → NoAssembleFault infos → IsAssembled infos assembly → slice_get infos assembly.freshest ≡ Some fresh → a.shared ≡ fresh.superblock → IsChunkingOf fresh a.chunks → AreKept a.shared.events a.events_cleared infos assembly.states.items a.members → IsFound a → IsRemembered infos assembly a
remembered infos assembly fresh a whole sound assembled at_fresh shared chunking kept found =
    let count = count_of a.shared.events a.events_cleared infos assembly a.members fresh a.chunks whole sound assembled at_fresh chunking kept in
    record {
      shared = slice_get-map (λ (m : MemberInfo). m.superblock) infos assembly.freshest ∙ ap (option_map (λ (m : MemberInfo). m.superblock)) at_fresh ∙ ap Some (sym shared);
      as_many = kept.as_many;
      each = kept.each;
      size = chunking.size ∙ ap (λ (v : Superblock). v.size) (sym shared);
      width = width_of a.shared.events a.events_cleared infos assembly a.members fresh a.chunks whole sound assembled at_fresh chunking kept;
      events_cleared = last_cleared a found.cleared;
      marks = λ c. marked_by_some a c (found.bits c);
      mark_count = λ k m listed. found.count ∙ sym (count k m listed);
      resynced = resynced a found.synced;
      running = found.running;
      idle = found.idle;
    }
