-- What is read of the members one by one, and what it makes of all of them.
use Rattle.std.proofs.Common.{◌≡◌, ℕ, zero, suc, ◌+◌, ◌<◌, Bool, true, false, List, [], ◌∷◌, ◌++◌, length, get_or, take, Some, refl, ap, sym, ◌∙◌, append_assoc, append-nil, arith}
use Rattle.std.specs.List.{slice_get}
use Rattle.std.specs.Option.{option_map}
use Rattle.std.proofs.lemmas.Option.{get_or_from_slice_get, same_Some}
use Rattle.md_super.specs.declared.superblock.Superblock.{Superblock}
use Rattle.md_assembly.specs.declared.state.MemberState.{MemberState}
use Rattle.md_kept_members.specs.OwnFields.{is_write_mostly}
use Rattle.md_kept_members.specs.View.{MemberView}
use Rattle.md_state.specs.Missing.{is_re_added}
use Rattle.md_state.specs.View.{ArrayView}
use Rattle.md_report.specs.AsText.WholeArray.DetailReport.{member_lines, member_text}

pub there : (ms : List MemberView) (k : ℕ) → k < length ms → (m : MemberView) × (slice_get ms k ≡ Some m)
there [] k lt = absurd (omega arith)
there (m ∷ ms) zero lt = (m, refl)
there (m ∷ ms) (suc k) lt = there ms k (omega arith)

-- the state that was read is that of the member
pub state_there : (ms : List MemberView) (k : ℕ) (m : MemberView) (state : MemberState) → slice_get ms k ≡ Some m → option_map (λ m. m.state) (slice_get ms k) ≡ Some state → (get_or ms k m).state ≡ state
state_there ms k m state at e =
    ap (λ x. x.state) (get_or_from_slice_get ms k m m at) ∙ same_Some m.state state (sym (ap (option_map (λ x. x.state)) at) ∙ e)

-- the line of one more member, whose index is n
pub line_more : (a : ArrayView) (index : ℕ) (ms : List MemberView) (k n : ℕ) (v : Superblock) (state : MemberState) (re_added mostly : Bool) → n ≡ index + k → k < length ms → option_map (λ m. m.superblock) (slice_get ms k) ≡ Some v → option_map (λ m. m.state) (slice_get ms k) ≡ Some state → ((m : MemberView) → slice_get ms k ≡ Some m → re_added ≡ is_re_added a m) → mostly ≡ is_write_mostly v → member_lines a index (take k ms) ++ member_text n v.dev_number state re_added mostly ≡ member_lines a index (take (k + 1) ms)
unfolding member_lines
line_more a index [] k n v state re_added mostly place lt own its was flag = absurd (omega arith)
line_more a index (m ∷ ms) zero n v state re_added mostly place lt own its was flag =
    let here : n ≡ index = omega arith in
    rw (flag, here, ← same_Some m.superblock v own, ← same_Some m.state state its, was m refl) (sym (append-nil _))
line_more a index (m ∷ ms) (suc k) n v state re_added mostly place lt own its was flag =
    let after : suc k + 1 ≡ suc (k + 1) = omega arith in
    let rest = line_more a (index + 1) ms k n v state re_added mostly (omega arith) (omega arith) own its was flag in
    let first = member_text index m.superblock.dev_number m.state (is_re_added a m) (is_write_mostly m.superblock) in
    rw after (append_assoc first (member_lines a (index + 1) (take k ms)) (member_text n v.dev_number state re_added mostly) ∙ ap (λ (t : List ℕ). first ++ t) rest)
