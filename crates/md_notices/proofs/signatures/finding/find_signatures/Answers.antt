use Rattle.std.proofs.Common.{◌≡◌, ◌<◌, ◌≤◌, ◌∙◌, ◌+◌, ℕ, Bool, List, ◌∷◌, ◌++◌, [], true, cond, length, length-append, get_or, ap, sym, subst, arith, Vec, Global, vec_capacity}
use Rattle.std.proofs.lemmas.List.{get_or_default}
use Rattle.std.specs.List.{All}
use Rattle.md_notices.specs.declared.signatures.signature.Signature.{Signature}
use Rattle.md_notices.specs.declared.signatures.signature.Signature.TheVariants.{Md090}
use Rattle.md_notices.specs.Signatures.Bearing.{bears_signature}
use Rattle.md_notices.specs.Signatures.Finding.{signatures}
use Rattle.md_notices.proofs.SignatureLemmas.Devices.{heeds_then, read_then}
use Rattle.md_notices.proofs.SignatureLemmas.Founds.{found_no_more, found_one, found_sound, missed_more}
use Rattle.md_notices.proofs.signatures.finding.find_signatures.Goals as goal
use Rattle.md_notices.proofs.signatures.finding.find_signatures.Goals.{then-bears, else-bears}

pub loop-signature-preserved : goal.loop-signature-preserved
loop-signature-preserved g c =
    let inv = c.loop-signature.invariant in
    let i = c.loop-signature.signature-index in
    let found = c.loop-signature.found.items in
    let inside : i < length signatures = c.loop-signature-test.true in
    let s = get_or signatures i Md090 in
    let here = get_or_default signatures i s Md090 inside in
    let count : Bool → ℕ = λ b. cond b 1 0 in
    let P : List Signature → Type 0 = λ xs. All (λ x. bears_signature (g.D.Device.content c.args.device.now) x ≡ true) xs in
    elim c.if-bears.branch [
      | then-bears w ↦
          let more : c.if-bears.found.items ≡ w.push_reserved.new.self.items = ap (λ (v : Vec Signature Global). v.items) w.found-is in
          let e = more ∙ w.push_reserved.ensures.items in
          let longer : length (found ++ s ∷ []) ≡ length found + 1 = length-append found (s ∷ []) in
          let as_long : length c.if-bears.found.items ≡ length (found ++ s ∷ []) = ap (λ (xs : List Signature). length xs) e in
          let one = ap count w.if-bears.true in
          let many : length c.if-bears.found.items ≡ length found + cond c.bears.result 1 0 = omega (arith, longer, as_long, one) in
          record {
            few = omega (arith, many, inv.few, one);
            room = subst (λ (n : ℕ). length signatures ≤ n) (sym (ap (λ (v : Vec Signature Global). vec_capacity v) w.found-is ∙ w.push_reserved.ensures.capacity)) inv.room;
            only_read = read_then inv.only_read c.bears.ensures.only_read;
            heeds = heeds_then inv.only_read c.bears.ensures.only_read inv.heeds c.bears.ensures.heeds;
            sound = λ h. subst P (sym e) (found_sound s c.bears.result found inv.only_read c.bears.ensures.tells w.if-bears.true inv.sound h);
            whole = λ h same. e ∙ found_one s c.bears.result found i inside here inv.only_read c.bears.ensures.only_read c.bears.ensures.tells w.if-bears.true inv.whole h same;
            missed = missed_more s c.bears.result found c.if-bears.found.items i inside here inv.only_read c.bears.ensures.only_read c.bears.ensures.tells many inv.missed;
          }
      | else-bears w ↦
          let e : c.if-bears.found.items ≡ found = ap (λ (v : Vec Signature Global). v.items) w.found-is in
          let as_long : length c.if-bears.found.items ≡ length found = ap (λ (xs : List Signature). length xs) e in
          let none = ap count w.if-bears.false in
          let many : length c.if-bears.found.items ≡ length found + cond c.bears.result 1 0 = omega (arith, as_long, none) in
          record {
            few = omega (arith, many, inv.few, none);
            room = subst (λ (n : ℕ). length signatures ≤ n) (sym (ap (λ (v : Vec Signature Global). vec_capacity v) w.found-is)) inv.room;
            only_read = read_then inv.only_read c.bears.ensures.only_read;
            heeds = heeds_then inv.only_read c.bears.ensures.only_read inv.heeds c.bears.ensures.heeds;
            sound = λ h. subst P (sym e) (inv.sound h);
            whole = λ h same. e ∙ found_no_more s c.bears.result found i inside here inv.only_read c.bears.ensures.only_read c.bears.ensures.tells w.if-bears.false inv.whole h same;
            missed = missed_more s c.bears.result found c.if-bears.found.items i inside here inv.only_read c.bears.ensures.only_read c.bears.ensures.tells many inv.missed;
          }
    ]
