use Rattle.std.proofs.Common.{◌∙◌, ap, arith, length, subst, sym}
use Rattle.std.proofs.lemmas.List.{length-map}
use Rattle.md_kept_members.specs.Members.{made_due}
use Rattle.md_state.specs.View.{ArrayView}
use Rattle.md_state.specs.Members.{IsMember}
use Rattle.md_state.specs.Steps.Rise.{without}
use Rattle.md_state.proofs.Changes.Raised.{failed_so, still_member}
use Rattle.md_state.proofs.array.Array.fail.Goals as goal

pub make_faulty-requires : goal.make_faulty-requires
make_faulty-requires c =
    let count = ap (λ (a : ArrayView). length a.members) c.raise_count.ensures ∙ length-map c.args.self.now.members made_due in
    let within = c.requires.within in
    omega arith

pub returns : goal.returns
returns c m at =
    let a = c.args.self.now in
    let there = subst (λ (x : ArrayView). IsMember x c.args.k (made_due m)) (sym c.raise_count.ensures) (still_member a c.args.k m at) in
    c.note_full.ensures ∙ failed_so a c.args.k m c.make_faulty.new.self (c.make_faulty.ensures (made_due m) there ∙ ap (λ (x : ArrayView). without x c.args.k (made_due m)) c.raise_count.ensures)
