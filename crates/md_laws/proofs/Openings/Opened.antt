-- A mirror that was opened is an opened world.
use Rattle.std.proofs.Common.{ℕ, ◌*◌, ◌≤◌, List, refl, sym, subst}
use Rattle.std.proofs.lemmas.List.{get_or_past}
use Rattle.md_model.specs.Devices.{Super, EndsWithArray}
use Rattle.md_model.specs.Openings.{IsOpened}
use Rattle.md_model.specs.Worlds as worlds
use Rattle.md_model.proofs.Cases.{not_below-nat_lt}
use Rattle.md_kept_members.specs.View.{MemberView}
use Rattle.md_state.specs.View.{Disk, ArrayView, MirrorView, geometry_of}
use Rattle.md_state.specs.Members.{IsMember}
use Rattle.md_array.specs.Open.Opened.{IsOpenedFrom}
use Rattle.md_array.specs.Worlds.{AreHonest, nothing_stored, stored_of, super_of, world_of, none_in_flight}
use Rattle.md_array.proofs.Worlds.ReadMember.{none_past}
use Rattle.md_array.proofs.Worlds.Shown.{IsShown, by_member, shown, stored_at, stored_past}
use Rattle.md_laws.proofs.Openings.Present as present
use Rattle.md_laws.proofs.Openings.Found as found
use Rattle.md_laws.proofs.Openings.Marked as marked

-- nothing is shown of a device past the array's end
stored_ends : (a : ArrayView) (mv : MemberView) (content : List ℕ) → ((c : ℕ) → a.chunks.size ≤ c * a.chunks.sectors → a.marks.chunks ≤ c) → EndsWithArray (geometry_of a) (stored_of a mv content)
stored_ends a mv content none = record {
  content = λ s past. rw (not_below-nat_lt s a.chunks.size past) refl;
  listed = λ s past. rw (not_below-nat_lt s a.chunks.size past) refl;
  bits = λ c past. rw (not_below-nat_lt c a.marks.chunks (none c past)) refl;
}

nothing_ends : (a : ArrayView) → EndsWithArray (geometry_of a) nothing_stored
nothing_ends a = record { content = λ s past. refl; listed = λ s past. refl; bits = λ c past. refl }

module _ (before : List Disk) (m : MirrorView) (honest : AreHonest before) (o : IsOpenedFrom before m) where
  abbrev a : ArrayView
  a = m.array

  abbrev w : worlds.World
  w = world_of m none_in_flight

  abbrev first : Super
  first = super_of a.shared

  abbrev seen : (k : ℕ) (mv : MemberView) → IsMember a k mv → IsShown before m o.array.infos k mv
  seen = shown before m honest o

  ends : (k : ℕ) → EndsWithArray (geometry_of a) (w.stored k)
  ends k = by_member a k
      (λ mv is. let s = seen k mv is in
      subst (EndsWithArray (geometry_of a)) (sym (stored_at before m honest o k mv is)) (stored_ends a mv s.new.content (none_past a mv s.info s.old.content s.opened.member)))
      (λ past. subst (EndsWithArray (geometry_of a)) (sym (stored_past before m honest o k past)) (nothing_ends a))

  pub opened : IsOpened (geometry_of a) first w
  opened = record {
    freshest = present.freshest before m honest o;
    events = refl;
    role = refl;
    entries = λ d past. get_or_past a.shared.roles d 0xffff past;
    members = present.has_members before m honest o;
    states = found.has_states before m honest o;
    marks = marked.has_marks before m honest o;
    ends = ends;
    none_in_flight = λ _. refl;
    running = o.array.remembered.running;
  }
