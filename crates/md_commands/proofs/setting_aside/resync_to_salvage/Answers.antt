use Rattle.std.proofs.Common.{◌≡◌, ◌∙◌, inl, inr, true, false, sym}
use Rattle.std.proofs.lemmas.Result.{err_from_is_err_and}
use Rattle.md_commands.specs.SettingAside.{is_read_fault}
use Rattle.md_commands.proofs.SetAside.{anew_or_not, unread_idle, unread_running}
use Rattle.md_commands.proofs.setting_aside.resync_to_salvage.Goals as goal

pub returns-in_default-clause-gives : goal.returns-in_default-clause-gives
returns-in_default-clause-gives g c = inl c.in_default.ensures.gives

pub returns-then-not-is_read_fault-clause-gives : goal.returns-then-not-is_read_fault-clause-gives
returns-then-not-is_read_fault-clause-gives g c =
    let no : is_read_fault c.in-Err.fault ≡ false = sym c.is_read_fault.ensures ∙ (let test = c.if-not-is_read_fault.true in cc) in
    inl (no, c.in-Err.ensures.gives)

pub set_aside-requires-clause-running : goal.set_aside-requires-clause-running
set_aside-requires-clause-running g c =
    let yes : is_read_fault c.in-Err.fault ≡ true = sym c.is_read_fault.ensures ∙ (let test = c.if-not-is_read_fault.false in cc) in
    unread_running c.in-Err.fault c.args.mirror.now c.resync_if_needed.new.mirror yes c.in-Err.ensures.gives

pub returns-in_err-set_aside-clause-gives : goal.returns-in_err-set_aside-clause-gives
returns-in_err-set_aside-clause-gives g c =
    let yes : is_read_fault c.in-Err.fault ≡ true = sym c.is_read_fault.ensures ∙ (let test = c.if-not-is_read_fault.false in cc) in
    let p = err_from_is_err_and c.from_residual.result c.from_residual.ensures.1 in
    rw (p.1, p.2)
    (inr (inl (c.resync_if_needed.new.mirror, record { fault = c.in-Err.fault; is = yes; refused = c.in-Err.ensures.gives }, c.in_err-set_aside.ensures.gives)))

pub returns-in_err-set_aside-clause-pending : goal.returns-in_err-set_aside-clause-pending
returns-in_err-set_aside-clause-pending g c p there =
    let yes : is_read_fault c.in-Err.fault ≡ true = sym c.is_read_fault.ensures ∙ (let test = c.if-not-is_read_fault.false in cc) in
    absurd (unread_idle c.in-Err.fault c.args.mirror.now c.resync_if_needed.new.mirror yes c.in-Err.ensures.gives p there)

pub returns-clause-gives : goal.returns-clause-gives
returns-clause-gives g c =
    let yes : is_read_fault c.in-Err.fault ≡ true = sym c.is_read_fault.ensures ∙ (let test = c.if-not-is_read_fault.false in cc) in
    let sets = c.in_ok-set_aside.ensures.gives in
    anew_or_not c.args.mirror.now c.set_aside.new.mirror c.resync_if_needed-2.new.mirror
    (record {
      ended = c.resync_if_needed.new.mirror;
      unread = record { fault = c.in-Err.fault; is = yes; refused = c.in-Err.ensures.gives };
      members = sets.0;
      sets = sets.1;
    })
    c.resync_if_needed-2.result c.resync_if_needed-2.ensures.gives

pub returns-clause-pending : goal.returns-clause-pending
returns-clause-pending g c p there =
    let yes : is_read_fault c.in-Err.fault ≡ true = sym c.is_read_fault.ensures ∙ (let test = c.if-not-is_read_fault.false in cc) in
    absurd (unread_idle c.in-Err.fault c.args.mirror.now c.resync_if_needed.new.mirror yes c.in-Err.ensures.gives p there)
