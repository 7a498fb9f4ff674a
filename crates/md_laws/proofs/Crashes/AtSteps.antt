-- What a crash within a step leaves.
use Rattle.std.proofs.Common.{◌≡◌, ◌∙◌, ⊎_elim, inr, ℕ, zero, suc, ◌<◌, List, [], ◌∷◌, ◌++◌, drop, length, get_or, Some, sym, ap, refl, subst, arith}
use Rattle.std.specs.Prelude.{map, option_map, slice_get}
use Rattle.std.specs.List.{insert, remove}
use Rattle.std.proofs.lemmas.List.{drop_at, length-drop, length-map}
use Rattle.std.proofs.lemmas.Option.{get_or_from_slice_get, none-some, same_Some, slice_get-get_or, slice_get-map, slice_get_past, slice_get_within}
use Rattle.md_device.specs.Crashes.{LeavesMore}
use Rattle.md_device.proofs.Leaving.{mixed_none, mixed_one}
use Rattle.md_members.specs.DeviceWrites.Writes.{IsAnyIn, IsCutShort, Write}
use Rattle.md_members.proofs.DeviceWriteLemmas.Runs.{cut_one}
use Rattle.md_state.specs.View.{Disk}
use Rattle.md_state.specs.DiskWrites.{IsTried, IsWritten}
use Rattle.md_array.specs.Steps.Record.{super_write}
use Rattle.md_array.proofs.StepLemmas.WrittenLast.{honest_last, written_last}
use Rattle.md_laws.specs.CrashesWithin.{IsLeftBut, MayAllBeLeft, MayBeLeft, CrashesAtFailure, CrashesAtReAdd, CrashesAtRemoval, CrashesAtSector, CrashesAtWrite, CrashesInMemory}
use Rattle.md_assembly.proofs.Indices.{got_within}

-- what is listed since, has what is said of all that is new
pub new_has : (past now : List (List ℕ)) (P : List ℕ → Type 0) → LeavesMore past now P → (i : ℕ) (c : List ℕ) → slice_get (drop (length past) now) i ≡ Some c → P c
new_has past now P leaves i c is =
    let same : drop (length past) now ≡ leaves.more = ap (drop (length past)) leaves.all ∙ drop_at past leaves.more (length past) refl in
    let at : slice_get leaves.more i ≡ Some c = subst (λ xs. slice_get xs i ≡ Some c) same is in
    subst P (get_or_from_slice_get leaves.more i c c at) (leaves.each i c (slice_get_within leaves.more i c at))

-- of a device that was not used, nothing is
pub none_new : (past : List (List ℕ)) (i : ℕ) (c : List ℕ) → slice_get (drop (length past) past) i ≡ Some c → ⊥
none_new past i c is =
    let within = slice_get_within (drop (length past) past) i c is in
    omega (arith, within, length-drop (length past) past)

left_but : (k : ℕ) (w : Write) (before after : List Disk) (left : List (List ℕ)) (P : List ℕ → List ℕ → Type 0) → IsTried k w before after → MayAllBeLeft before after left
    → ((d e : Disk) (c : List ℕ) → slice_get before k ≡ Some d → slice_get after k ≡ Some e → MayBeLeft d e c → P d.content c) → IsLeftBut k P before left
left_but k w before after left P tried may this = record {
  as_many = may.as_many;
  others = λ j other d c was is. ⊎_elim (λ same. same) (λ new. absurd (none_new d.crashes new.0 c new.1)) (may.each j d d c was (tried.others j other ∙ was) is);
  this = λ d c was is.
      let within = slice_get_within before k d was in
      let at : slice_get after k ≡ Some (get_or after k d) = slice_get-get_or after k d (let many = tried.as_many in omega (arith, within, many)) in
      this d (get_or after k d) c was at (may.each k d (get_or after k d) c was at is);
}

pub crashes_at_write : CrashesAtWrite
crashes_at_write k w before after left honest written may =
    left_but k w before after left (λ old c. IsCutShort old (w ∷ []) c) written.tried may
    (λ d e c was is. ⊎_elim (λ same. record { done = []; rest = w ∷ []; order = refl; mixed = rw same (mixed_none w.sector w.bytes d.content) })
    (λ new. new_has d.crashes e.crashes (λ x. IsCutShort d.content (w ∷ []) x) (written.within d e was is (honest k d was)) new.0 c new.1))

pub crashes_at_sector : CrashesAtSector
crashes_at_sector k w before after left one honest written may =
    let at = crashes_at_write k w before after left honest written may in
    record {
      as_many = at.as_many;
      others = at.others;
      this = λ d c was is. ⊎_elim (λ done. inr done) (λ mixed. mixed_one w.sector w.bytes d.content c one mixed) (cut_one d.content c w (at.this d c was is));
    }

pub crashes_at_failure : CrashesAtFailure
crashes_at_failure k w before after left honest failed may =
    left_but k w before after left (IsAnyIn w) failed.tried may
    (λ d e c was is. ⊎_elim (λ same. rw same (record { size = refl; before = refl; after = refl }))
    (λ new. new_has d.crashes e.crashes (IsAnyIn w d.content) (failed.within d e was is (honest k d was)) new.0 c new.1))

pub crashes_at_re_add : CrashesAtReAdd
crashes_at_re_add k device old new left honest own r may =
    let w : Write = super_write new.array r.recorded.takes.member in
    let written : IsWritten (length old.disks) w (old.disks ++ device ∷ []) new.disks =
    subst (λ (disks : List Disk). IsWritten (length old.disks) w (old.disks ++ device ∷ []) disks) (sym r.recorded.disks)
    (written_last old.disks device r.after_reading r.recorded.now w r.only_read r.recorded.written) in
    crashes_at_write (length old.disks) w (old.disks ++ device ∷ []) new.disks left (honest_last old.disks device honest own) written may

-- lists with the same elements at each place
pub same_lists : {X : Type 0} (xs ys : List X) → length ys ≡ length xs → ((k : ℕ) (x y : X) → slice_get xs k ≡ Some x → slice_get ys k ≡ Some y → y ≡ x) → ys ≡ xs
same_lists [] [] long same = refl
same_lists [] (y ∷ ys) long same = absurd (omega arith)
same_lists (x ∷ xs) [] long same = absurd (omega arith)
same_lists (x ∷ xs) (y ∷ ys) long same =
    let first : y ≡ x = same 0 x y refl refl in
    let rest : ys ≡ xs = same_lists xs ys (omega arith) (λ k a b at is. same (suc k) a b at is) in
    cc

pub crashes_in_memory : CrashesInMemory
crashes_in_memory disks left may =
    same_lists (map (λ d. d.content) disks) left (may.as_many ∙ sym (length-map disks (λ d. d.content)))
    (λ k x c at is.
    let within : k < length disks = omega (arith, slice_get_within (map (λ (d : Disk). d.content) disks) k x at, length-map disks (λ (d : Disk). d.content)) in
    let d = got_within disks k within in
    let there : slice_get (map (λ (e : Disk). e.content) disks) k ≡ Some d.0.content = slice_get-map (λ (e : Disk). e.content) disks k ∙ ap (option_map (λ (e : Disk). e.content)) d.1 in
    let value : x ≡ d.0.content = same_Some x d.0.content (sym at ∙ there) in
    ⊎_elim (λ (same : c ≡ d.0.content). same ∙ sym value) (λ (new : (i : ℕ) × (slice_get (drop (length d.0.crashes) d.0.crashes) i ≡ Some c)). absurd (none_new d.0.crashes new.0 c new.1)) (may.each k d.0 d.0 c d.1 d.1 is))

-- a list's element, taken out and put back
pub put_back : {X : Type 0} (xs : List X) (k : ℕ) (x : X) → slice_get xs k ≡ Some x → insert (remove xs k) k x ≡ xs
put_back [] k x at = absurd (none-some x (sym (slice_get_past [] k (omega arith)) ∙ at))
put_back (y ∷ xs) zero x at = ap (λ z. z ∷ xs) (sym (same_Some y x at))
put_back (y ∷ xs) (suc k) x at = ap (λ zs. y ∷ zs) (put_back xs k x at)

pub crashes_at_removal : CrashesAtRemoval
crashes_at_removal k disk old new left leaves may =
    let same : insert new.disks k disk ≡ old.disks = ap (λ (x : List Disk). insert x k disk) leaves.disks ∙ put_back old.disks k disk leaves.device in
    crashes_in_memory old.disks left (subst (λ (x : List Disk). MayAllBeLeft old.disks x left) same may)
