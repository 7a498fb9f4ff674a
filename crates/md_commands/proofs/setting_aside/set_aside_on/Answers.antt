use Rattle.std.proofs.Common.{◌≡◌, ◌∙◌, ◌<◌, ℕ, true, length, inl, refl, sym, ap, subst, arith}
use Rattle.md_array.proofs.General.Answered.{err_of, ok_of}
use Rattle.md_assembly.specs.States.{is_in_sync}
use Rattle.md_kept_members.specs.View.{MemberView}
use Rattle.md_state.specs.Members.{IsMember}
use Rattle.md_state.specs.Rests.{Rests}
use Rattle.md_state.specs.View.{ArrayView, MirrorView}
use Rattle.md_commands.proofs.SetAside.{all_ungiven, listed_or_not, on_ok_then, regarded_in_sync, regarded_members, regarded_running}
use Rattle.md_commands.proofs.setting_aside.set_aside_on.Goals as goal

pub returns-then-is_err-clause-gives : goal.returns-then-is_err-clause-gives
returns-then-is_err-clause-gives g c = inl (refl, c.ask_marked.ensures.rests)

pub returns-then-is_empty-clause-gives : goal.returns-then-is_empty-clause-gives
returns-then-is_empty-clause-gives g c = inl c.ask_marked.ensures.rests

pub returns-then-is_empty-clause-running : goal.returns-then-is_empty-clause-running
returns-then-is_empty-clause-running g c = ap (λ (a : ArrayView). a.halted) c.ask_marked.ensures.rests.array ∙ c.requires.running

pub returns-then-is_empty-clause-members : goal.returns-then-is_empty-clause-members
returns-then-is_empty-clause-members g c = ap (λ (a : ArrayView). length a.members) c.ask_marked.ensures.rests.array

pub regard_as_bad-requires-clause-within : goal.regard_as_bad-requires-clause-within
regard_as_bad-requires-clause-within g c = subst (λ (a : ArrayView). c.args.k < length a.members) (sym c.ask_marked.ensures.rests.array) c.requires.within

pub regard_as_bad-requires-clause-in_sync : goal.regard_as_bad-requires-clause-in_sync
regard_as_bad-requires-clause-in_sync g c =
    subst (λ (a : ArrayView). (m : MemberView) → IsMember a c.args.k m → is_in_sync m.state ≡ true) (sym c.ask_marked.ensures.rests.array) c.requires.in_sync

pub returns-then-is_err-2-clause-gives : goal.returns-then-is_err-2-clause-gives
returns-then-is_err-2-clause-gives g c =
    let same = err_of c.regard_as_bad.result _ _ (sym c.if-is_err-2.true ∙ c.is_err-2.ensures.value) c.regard_as_bad.ensures.gives in
    inl (refl, subst (λ (v : MirrorView). Rests c.args.mirror.now v) (sym same) c.ask_marked.ensures.rests)

pub store_if_fitting-requires-clause-within : goal.store_if_fitting-requires-clause-within
store_if_fitting-requires-clause-within g c =
    let regards = ok_of c.regard_as_bad.result _ _ (sym c.if-is_err-2.false ∙ c.is_err-2.ensures.value) c.regard_as_bad.ensures.gives in
    let many = regarded_members c.args.k _ c.ask_marked.new.mirror c.regard_as_bad.new.self regards in
    let before = ap (λ (a : ArrayView). length a.members) c.ask_marked.ensures.rests.array in
    let within = c.requires.within in
    omega arith

pub store_if_fitting-requires-clause-in_sync : goal.store_if_fitting-requires-clause-in_sync
store_if_fitting-requires-clause-in_sync g c =
    let regards = ok_of c.regard_as_bad.result _ _ (sym c.if-is_err-2.false ∙ c.is_err-2.ensures.value) c.regard_as_bad.ensures.gives in
    regarded_in_sync c.args.k _ c.ask_marked.new.mirror c.regard_as_bad.new.self regards
    (subst (λ (a : ArrayView). (m : MemberView) → IsMember a c.args.k m → is_in_sync m.state ≡ true) (sym c.ask_marked.ensures.rests.array) c.requires.in_sync)

pub store_if_fitting-requires-clause-running : goal.store_if_fitting-requires-clause-running
store_if_fitting-requires-clause-running g c =
    let regards = ok_of c.regard_as_bad.result _ _ (sym c.if-is_err-2.false ∙ c.is_err-2.ensures.value) c.regard_as_bad.ensures.gives in
    regarded_running c.args.k _ c.ask_marked.new.mirror c.regard_as_bad.new.self regards
    (ap (λ (a : ArrayView). a.halted) c.ask_marked.ensures.rests.array ∙ c.requires.running)

pub returns-clause-gives : goal.returns-clause-gives
returns-clause-gives g c =
    let regards = ok_of c.regard_as_bad.result _ _ (sym c.if-is_err-2.false ∙ c.is_err-2.ensures.value) c.regard_as_bad.ensures.gives in
    listed_or_not c.args.k c.args.mirror.now c.regard_as_bad.new.self c.store_if_fitting.new.mirror
    (record {
      asked = c.ask_marked.new.mirror;
      rests = c.ask_marked.ensures.rests;
      sectors = c.ask_marked.new.not_given;
      not_given = all_ungiven c.args.k c.new-not_given.result c.ask_marked.new.not_given c.args.mirror.now c.ask_marked.new.mirror c.new-not_given.ensures c.ask_marked.ensures.found;
      regards = regards;
    })
    c.store_if_fitting.result c.store_if_fitting.ensures.gives

pub returns-clause-members : goal.returns-clause-members
returns-clause-members g c =
    let regards = ok_of c.regard_as_bad.result _ _ (sym c.if-is_err-2.false ∙ c.is_err-2.ensures.value) c.regard_as_bad.ensures.gives in
    on_ok_then c.store_if_fitting.result (length c.args.mirror.now.array.members) (length c.regard_as_bad.new.self.array.members) (length c.store_if_fitting.new.mirror.array.members)
    (regarded_members c.args.k _ c.ask_marked.new.mirror c.regard_as_bad.new.self regards ∙ ap (λ (a : ArrayView). length a.members) c.ask_marked.ensures.rests.array)
    c.store_if_fitting.ensures.members
