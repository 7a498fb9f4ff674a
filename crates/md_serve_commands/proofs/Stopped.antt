-- A stopped array is clean, where it is resynced.
use Rattle.std.proofs.Common.{◌≡◌, ◌∙◌, Bool, true, false, cond, not, ◌&&◌, ◌==◌, refl, sym, ap, subst}
use Rattle.std.proofs.lemmas.Bool.{eqb-true}
use Rattle.md_model.proofs.Cases.{by_test}
use Rattle.md_state.specs.Members.{clean_offset}
use Rattle.md_state.specs.Steps.MakeClean.{made_clean}
use Rattle.md_state.specs.View.{ArrayView, MirrorView}
use Rattle.md_metadata.specs.Stopping.{StopsMirror, makes_clean}
use Rattle.md_serve_commands.specs.WholeSessions.{IsStopped}

abbrev cleaned : ArrayView → Bool → ArrayView
cleaned a b = cond b (made_clean a) a

same_resynced : (a : ArrayView) (b : Bool) → (cleaned a b).resynced ≡ a.resynced
same_resynced a true = refl
same_resynced a false = refl

abbrev IsClean : ArrayView → Type 0
IsClean a = a.shared.resync_offset ≡ clean_offset

clean_then : (a : ArrayView) → a.resynced ≡ true → IsClean (cleaned a (makes_clean a))
clean_then a was = by_test (a.shared.resync_offset == clean_offset)
    (λ is.
    let stays : makes_clean a ≡ false = ap (λ (b : Bool). a.resynced && not b) is ∙ ap (λ (r : Bool). r && false) was in
    subst (λ (b : Bool). IsClean (cleaned a b)) (sym stays) (eqb-true a.shared.resync_offset clean_offset is))
    (λ off.
    let makes : makes_clean a ≡ true = ap (λ (b : Bool). a.resynced && not b) off ∙ ap (λ (r : Bool). r && true) was in
    subst (λ (b : Bool). IsClean (cleaned a b)) (sym makes) refl)

pub is_stopped : (old new : MirrorView) → StopsMirror old new → IsStopped new
is_stopped old new h =
    let memory : h.cleaned.array ≡ record (cleaned old.array (makes_clean old.array)) { marks = h.cleaned.array.marks } = h.cleans.array.array in
    let offset = ap (λ (a : ArrayView). a.shared.resync_offset) h.stores.ready.others ∙ ap (λ (a : ArrayView). a.shared.resync_offset) memory in
    let resynced =
    ap (λ (a : ArrayView). a.resynced) h.stores.ready.others ∙ ap (λ (a : ArrayView). a.resynced) memory ∙ same_resynced old.array (makes_clean old.array) in
    record { clean = λ is. offset ∙ clean_then old.array (sym resynced ∙ is); recorded = h.recorded }
