-- A write leaves the array cut into chunks as it is.
use Rattle.std.proofs.Common.{◌≡◌, ◌∙◌, ℕ, ◌+◌, ◌≤◌, Bool, true, false, List, [], ◌∷◌, Option, Some, None, refl, ap, subst, sym}
use Rattle.std.specs.Prelude.{cond}
use Rattle.md_bitmap.specs.declared.chunks.Chunks.{Chunks}
use Rattle.md_model.specs.Events.{Event, MemberPart}
use Rattle.md_state.specs.Steps.Begin.{IsInRange, has_to_rise}
use Rattle.md_state.specs.Steps.Rise.{risen}
use Rattle.md_state.specs.View.{ArrayView, MirrorView}
use Rattle.md_array.specs.InTurn.{AllOf, Did, Leads, Requests}
use Rattle.md_array.proofs.StepLemmas.Turns.{all_on, all_such}
use Rattle.md_write.specs.Progress.{IsEventOf, IsOfRequest}
use Rattle.md_write.specs.Writing.{Writes, events_of_write}
use Rattle.md_commands.proofs.DeviceCounts.{none_in_flight, nothing}

-- the events of a write
abbrev IsOfWrite : Event → Type 0
IsOfWrite (Event.Begin n p) = Unit {0}
IsOfWrite (Event.Finish n) = Unit {0}
IsOfWrite (Event.LowerOffset k s) = Unit {0}
IsOfWrite (Event.Record k) = Unit {0}
IsOfWrite (Event.StoreMarks k b) = Unit {0}
IsOfWrite (Event.WriteMember n k) = Unit {0}
IsOfWrite (Event.WriteFails k MemberPart.Superblock) = Unit {0}
IsOfWrite (Event.WriteFails k (MemberPart.BitmapSector b)) = Unit {0}
IsOfWrite (Event.WriteFails k (MemberPart.RequestData n)) = Unit {0}
IsOfWrite e = ⊥

of_request : (n first end : ℕ) (e : Event) → IsEventOf n first end e → IsOfWrite e
of_request n first end (Event.LowerOffset k s) of = tt
of_request n first end (Event.Record k) of = tt
of_request n first end (Event.StoreMarks k b) of = tt
of_request n first end (Event.WriteMember m k) of = tt
of_request n first end (Event.WriteFails k MemberPart.Superblock) of = tt
of_request n first end (Event.WriteFails k (MemberPart.BitmapSector b)) of = tt
of_request n first end (Event.WriteFails k (MemberPart.RequestData m)) of = tt
of_request n first end e of = absurd of

chunks_if : (a : ArrayView) (full rises : Bool) → (cond rises (risen a full) a).chunks ≡ a.chunks
chunks_if a full true = refl
chunks_if a full false = refl

did : (e : Event) (old new : MirrorView) (before after : Requests) → IsOfWrite e → Did old before e new after → new.array.chunks ≡ old.array.chunks
did (Event.Begin n p) old new before after of h = ap (λ (a : ArrayView). a.chunks) h.5.array ∙ chunks_if old.array _ (has_to_rise old.array)
did (Event.Finish n) old new before after of h = ap (λ (a : ArrayView). a.chunks) h.3.array
did (Event.LowerOffset k s) old new before after of h = ap (λ (a : ArrayView). a.chunks) h.1.lowers.array
did (Event.Record k) old new before after of h = ap (λ (a : ArrayView). a.chunks) h.1.array
did (Event.StoreMarks k b) old new before after of h = ap (λ (a : ArrayView). a.chunks) h.1.array
did (Event.WriteMember n k) old new before after of h = ap (λ (a : ArrayView). a.chunks) h.5.array
did (Event.WriteFails k MemberPart.Superblock) old new before after of h = ap (λ (a : ArrayView). a.chunks) h.1.fails.array.array
did (Event.WriteFails k (MemberPart.BitmapSector b)) old new before after of h = ap (λ (a : ArrayView). a.chunks) h.1.fails.array.array
did (Event.WriteFails k (MemberPart.RequestData n)) old new before after of h = ap (λ (a : ArrayView). a.chunks) h.5.fails.array.array
did e old new before after of h = absurd of

led : (es : List Event) (previous : Option Event) (old new : MirrorView) (before after : Requests) → AllOf IsOfWrite es → Leads previous old before es new after
    → new.array.chunks ≡ old.array.chunks
led [] previous old new before after all t = ap (λ (v : MirrorView). v.array.chunks) (sym t.0)
led (e ∷ es) previous old new before after all t = led es (Some e) t.0 new t.1 after all.1 t.5 ∙ did e old t.0 before t.1 all.0 t.3

pub writes_keep_chunks : (sector : ℕ) (bytes : List ℕ) (old new : MirrorView) → Writes sector bytes old new → new.array.chunks ≡ old.array.chunks
writes_keep_chunks sector bytes old new w =
    let each = all_such (IsOfRequest old.array.chunks w.request) IsOfWrite (λ e of. of_request _ _ _ e of) w.events w.steps in
    led (events_of_write w.request w.events) None old new nothing nothing
    (tt, all_on IsOfWrite w.events (Event.Finish w.request.ticket.number ∷ []) each (tt, tt))
    (w.happens None nothing (none_in_flight old.array)).done

pub range_stays : (a b : ArrayView) (sector count : ℕ) → b.chunks ≡ a.chunks → IsInRange a sector count → IsInRange b sector count
range_stays a b sector count same range = record {
  some = range.some;
  inside = subst (λ (c : Chunks). sector + count ≤ c.size) (sym same) range.inside;
}
