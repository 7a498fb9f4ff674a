use Rattle.std.proofs.Common.{◌≡◌, ◌∙◌, ◌≤◌, List, MatchResult, Result, ap, arith, if◌then◌else◌, insert, is_ok, length, not, remove, slice_index_or, subst, sym, true}
use Rattle.std.proofs.lemmas.List.{get_or_default}
use Rattle.std.proofs.lemmas.List.Edits.{get_or-insert_at}
use Rattle.md_bitmap.specs.Marks.{Bitmap}
use Rattle.md_collect.specs.Reports.{Copying}
use Rattle.md_device.specs.declared.device.Device.{Ghosts}
use Rattle.md_pass.specs.Copied.{BreaksOff, EndsPass, PassState, pass_state}
use Rattle.md_collect.specs.Workers.Queues.{AreOnlyRead}
use Rattle.md_pass.specs.Sources.{copy_of}
use Rattle.md_pass.specs.declared.fault.PassFault.{PassFault}
use Rattle.md_pass.specs.declared.pass.BoardCounts.{BoardCounts}
use Rattle.md_pass.specs.declared.source.Source.{Source}
use Rattle.md_copy.proofs.Fills.Returned.{removed_again}
use Rattle.md_copy.proofs.passes.one_pass.copy_beside.Goals as goal

-- what a pass answers, between states that are the same
between : {D : Type 0} (g : Ghosts D) (copy : Copying) (sources : List Source) (old now new next : PassState D) (result : Result BoardCounts PassFault) → old ≡ now → new ≡ next
    → MatchResult result (EndsPass g copy sources old new) (BreaksOff g old new) → MatchResult result (EndsPass g copy sources now next) (BreaksOff g now next)
between g copy sources old now new next result before after is =
    subst (λ s. MatchResult result (EndsPass g copy sources now s) (BreaksOff g now s)) after
    (subst (λ s. MatchResult result (EndsPass g copy sources s new) (BreaksOff g s new)) before is)

same_state : {D : Type 0} (xs ys : List D) (x y : D) (copied : Bitmap) → xs ≡ ys → x ≡ y → pass_state xs x copied ≡ pass_state ys y copied
same_state xs ys x y copied e f = ap (λ zs. pass_state zs x copied) e ∙ ap (λ z. pass_state ys z copied) f

-- the target's device is back among the others
items_are : (g : _) (c : goal.Else-is_err g) → c.insert.new.self.items ≡ insert c.copy_pass-result.new.devices.items c.args.target c.copy_pass-result.new.target
items_are g c =
    let rest = c.copy_pass-result.new.devices.items in
    let ok : is_ok c.insert.result ≡ true = c.is_err.ensures.negation ∙ ap not c.if-is_err.false in
    c.insert.ensures.items ∙ ap (λ b. if b then insert rest c.args.target c.copy_pass-result.new.target else rest) ok

room_for : (g : _) (c : goal.Else-is_err g) → c.args.target ≤ length c.copy_pass-result.new.devices.items
room_for g c = let many = c.copy_pass-result.ensures.writes.sources.as_many in omega (arith, many, c.remove-device.ensures.len, c.requires.within)

others_are : (g : _) (c : goal.Else-is_err g) → remove c.insert.new.self.items c.args.target ≡ c.copy_pass-result.new.devices.items
others_are g c =
    ap (λ xs. remove xs c.args.target) (items_are g c) ∙ removed_again c.copy_pass-result.new.devices.items c.args.target c.copy_pass-result.new.target (room_for g c)

pub returns-clause-others : goal.returns-clause-others
returns-clause-others g c =
    subst (AreOnlyRead g.D.Device (remove c.args.devices.now.items c.args.target)) (sym (others_are g c))
    (subst (λ xs. AreOnlyRead g.D.Device xs c.copy_pass-result.new.devices.items) c.remove-device.ensures.items c.copy_pass-result.ensures.writes.sources)

pub returns-clause-gives : goal.returns-clause-gives
returns-clause-gives g c d =
    let target = c.args.target in
    let olds = c.args.devices.now.items in
    let rest = c.copy_pass-result.new.devices.items in
    let there = c.remove-device.ensures.value ∙ get_or_default olds target c.remove-device.result d c.requires.within in
    let back = sym (ap (λ xs. slice_index_or xs target d) (items_are g c) ∙ get_or-insert_at rest target c.copy_pass-result.new.target d (room_for g c)) in
    between g.D.Device (copy_of c.args.pass.now.plan.now.slots c.args.pass.now.chunks c.args.pass.now.offset) c.args.pass.now.sources.now
    (pass_state c.remove-device.new.self.items c.remove-device.result c.args.copied.now)
    (pass_state (remove olds target) (slice_index_or olds target d) c.args.copied.now)
    (pass_state rest c.copy_pass-result.new.target c.copy_pass-result.new.copied)
    (pass_state (remove c.insert.new.self.items target) (slice_index_or c.insert.new.self.items target d) c.copy_pass-result.new.copied)
    c.copy_pass-result.result
    (same_state c.remove-device.new.self.items (remove olds target) c.remove-device.result (slice_index_or olds target d) c.args.copied.now c.remove-device.ensures.items there)
    (same_state rest (remove c.insert.new.self.items target) c.copy_pass-result.new.target (slice_index_or c.insert.new.self.items target d) c.copy_pass-result.new.copied (sym (others_are g c)) back)
    c.copy_pass-result.ensures.gives
