use Rattle.std.proofs.Common.{◌≡◌, ◌∙◌, ℕ, sym, ap, set, subst}
use Rattle.md_bitmap.specs.Marks.{Bitmap}
use Rattle.md_kept_members.specs.View.{MemberView}
use Rattle.md_kept_members.specs.StoredMarks.{HasStored}
use Rattle.md_state.specs.View.{ArrayView}
use Rattle.md_state.proofs.Members.At.{member_read, read_member}
use Rattle.md_state.proofs.array.Array.note_stored.Goals as goal

kept : (a b : ArrayView) (k : ℕ) (m x : MemberView) (stored : Bitmap) → b ≡ a → x ≡ m → record b { members = set b.members k (record x { stored = stored }) } ≡ record a { members = set a.members k (record m { stored = stored }) }
kept a b k m x stored is same =
    ap (λ (n : MemberView). record b { members = set b.members k (record n { stored = stored }) }) same
    ∙ ap (λ (y : ArrayView). record y { members = set y.members k (record m { stored = stored }) }) is

pub copy_block-requires : goal.copy_block-requires
copy_block-requires c =
    let m = c.index_mut-member.result.now in
    let at = member_read c.args.self.now _ c.args.k m c.self.view_is c.requires.within c.index_mut-member.ensures.value in
    record {
      few = c.requires.few;
      alike = ap (λ (x : MemberView). x.stored.chunks) c.member.view_is ∙ c.requires.alike m at ∙ sym (ap (λ (b : ArrayView). b.marks.chunks) c.self.view_is);
    }

pub returns : goal.returns
returns c m at =
    let a = c.args.self.now in
    let is = c.member.view_is ∙ read_member a _ c.args.k m c.index_mut-member.result.now c.self.view_is c.requires.within at c.index_mut-member.ensures.value in
    let marks : c.self.inside.marks ≡ a.marks = ap (λ (b : ArrayView). b.marks) c.self.view_is in
    let stored : c.member.inside.stored ≡ m.stored = ap (λ (x : MemberView). x.stored) is in
    record {
      stored = c.copy_block.new.stored;
      has_stored = subst (λ (b : Bitmap). HasStored b m.stored c.args.block c.copy_block.new.stored) marks
          (subst (λ (b : Bitmap). HasStored c.self.inside.marks b c.args.block c.copy_block.new.stored) stored c.copy_block.ensures);
      array = kept a _ c.args.k m _ c.copy_block.new.stored c.self.view_is is;
    }
