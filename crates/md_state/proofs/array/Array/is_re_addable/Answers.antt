use Rattle.std.proofs.Common.{List, refl, subst}
use Rattle.md_kept_members.specs.View.{MemberView}
use Rattle.md_kept_members.specs.Membership.FormerMember.{IsOfArray, LeftItsRole}
use Rattle.md_state.specs.View.{ArrayView}
use Rattle.md_state.proofs.array.Array.is_re_addable.Goals as goal

pub returns-then-left_its_role : goal.returns-then-left_its_role
returns-then-left_its_role c = (
  (λ in_time. record {
    header = c.in-Some.header;
    has_header = c.in-Some.is;
    of_array = subst (λ (a : ArrayView). IsOfArray a.shared a.chunks.sectors c.args.info.now.superblock c.in-Some.header) c.self.view_is (c.if-not-is_of_array.ensures.0 refl);
    role = subst (λ (a : ArrayView). LeftItsRole a.shared a.members c.args.info.now.superblock) c.self.view_is
        (subst (λ (ms : List MemberView). LeftItsRole c.self.inside.shared ms c.args.info.now.superblock) c.deref.ensures.value (c.if-left_its_role.ensures.0 refl));
    in_time = c.left_in_time.ensures.0 in_time;
  }),
  (λ fits. c.left_in_time.ensures.1 fits.in_time),
)
