use Rattle.std.proofs.Common.{◌≡◌, ◌∙◌, ℕ, IfOk, List, Result, Ok, Err, ap, sym, subst}
use Rattle.md_super.specs.declared.superblock.Superblock.{Superblock}
use Rattle.md_bitmap.specs.declared.header.BitmapHeader.{BitmapHeader}
use Rattle.md_create.specs.declared.params.NewMember.{NewMember}
use Rattle.md_create.specs.Spares.{IsNewSpare}
use Rattle.md_kept_members.specs.Spares.{IsOfFreshest}
use Rattle.md_kept_members.specs.View.{MemberView}
use Rattle.md_kept_members.specs.Membership.Joining.{joined_shared}
use Rattle.md_kept_members.specs.Membership.Numbers.{spare_role}
use Rattle.md_state.specs.Steps.Add.{IsSpareHeader, IsSpareOf}
use Rattle.md_state.specs.View.{ArrayView}
use Rattle.md_state.proofs.array.Array.new_spare.Goals as goal

made : {E : Type 0} (a : ArrayView) (settings header : BitmapHeader) (v : Superblock) (number sectors : ℕ) (r : Result NewMember E)
    → IsOfFreshest a.members settings → IsSpareHeader a settings header → v ≡ joined_shared a.shared a.members number spare_role → IfOk r (IsNewSpare v header number sectors) → IfOk r (IsSpareOf a number sectors)
made a settings header v number sectors (Ok m) of_freshest is shared spare = record {
  settings = settings;
  of_freshest = of_freshest;
  header = subst (IsSpareHeader a settings) (sym spare.header) is;
  spare = subst (λ (h : BitmapHeader). IsNewSpare (joined_shared a.shared a.members number spare_role) h number sectors m) (sym spare.header) (subst (λ (x : Superblock). IsNewSpare x header number sectors m) shared spare);
}
made a settings header v number sectors (Err e) of_freshest is shared spare = tt

pub returns : goal.returns
returns c =
    let a = c.args.self.now in
    let members = c.deref.ensures.value ∙ ap (λ (x : ArrayView). x.members) c.self.view_is in
    made a c.freshest_header-settings.result c.spare_header-header.result c.args.shared.now c.args.number c.args.sectors c.new_spare.result
    (subst (λ (xs : List MemberView). IsOfFreshest xs c.freshest_header-settings.result) members c.freshest_header-settings.ensures) c.spare_header-header.ensures c.requires.shared c.new_spare.ensures
