-- The roles of absent devices are gone through in their order.
use Rattle.std.proofs.Common.{◌≡◌, ◌∙◌, ℕ, ◌+◌, ◌<◌, ◌≤◌, true, false, not, ◌&&◌, cond, nat_lt, List, length, get_or, get_or-set_same, get_or-set_other, length-set, set, ap, sym, refl, arith, inl, inr}
use Rattle.std.proofs.lemmas.List.FromFn.{fill_by_all}
use Rattle.md_assembly.specs.States.{role_in}
use Rattle.md_super.specs.declared.superblock.Superblock.{Superblock}
use Rattle.md_kept_members.proofs.Members.Indices.{cases_more}
use Rattle.md_kept_members.specs.View.{MemberView}
use Rattle.md_kept_members.specs.Membership.Numbers.{has_number, is_absent, roles_at_rise}

abbrev pub with_roles : Superblock → List ℕ → Superblock
with_roles v roles = record v { roles = roles }

-- the first n numbers were gone through
pub record AreSettledTo (v : Superblock) (members : List MemberView) (n : ℕ) (now : Superblock) : Type 0 where
  pub rest : now ≡ with_roles v now.roles
  pub count : length now.roles ≡ length v.roles
  pub done : (d : ℕ) → d < n → get_or now.roles d 0xffff ≡ cond (is_absent v members d) 0xfffe (role_in v d)
  pub ahead : (d : ℕ) → n ≤ d → get_or now.roles d 0xffff ≡ get_or v.roles d 0xffff

pub settled_none : (v : Superblock) (members : List MemberView) → AreSettledTo v members 0 v
settled_none v members = record { rest = refl; count = refl; done = λ d below. absurd (omega arith); ahead = λ d from. refl }

module _ (v now : Superblock) (members : List MemberView) (n : ℕ) (to : AreSettledTo v members n now) where
  absent_still : is_absent now members n ≡ is_absent v members n
  absent_still = ap (λ (x : Superblock). is_absent x members n) to.rest ∙ ap (λ role. nat_lt role v.raid_disks && not (has_number members n)) (to.ahead n (omega arith))

  pub settled_absent : n < length now.roles → is_absent now members n ≡ true → AreSettledTo v members (n + 1) (with_roles now (set now.roles n 0xfffe))
  settled_absent within absent = record {
    rest = ap (λ (x : Superblock). with_roles x (set now.roles n 0xfffe)) to.rest;
    count = length-set now.roles n 0xfffe ∙ to.count;
    done = λ d below. elim (cases_more d n below) [
      | inl earlier ↦ get_or-set_other now.roles n d 0xfffe 0xffff (λ same. absurd (omega arith)) ∙ to.done d earlier
      | inr here ↦ rw here (get_or-set_same now.roles n 0xfffe 0xffff within ∙ sym (ap (λ b. cond b 0xfffe (role_in v n)) (sym absent_still ∙ absent)))
    ];
    ahead = λ d from. get_or-set_other now.roles n d 0xfffe 0xffff (λ same. absurd (omega arith)) ∙ to.ahead d (omega arith);
  }

  pub settled_present : is_absent now members n ≡ false → AreSettledTo v members (n + 1) now
  settled_present present = record {
    rest = to.rest;
    count = to.count;
    done = λ d below. elim (cases_more d n below) [
      | inl earlier ↦ to.done d earlier
      | inr here ↦ rw here (to.ahead n (omega arith) ∙ sym (ap (λ b. cond b 0xfffe (role_in v n)) (sym absent_still ∙ present)))
    ];
    ahead = λ d from. to.ahead d (omega arith);
  }

  pub settled_all : length v.roles ≤ n → now ≡ with_roles v (roles_at_rise v members)
  settled_all end = to.rest ∙ ap (with_roles v) (fill_by_all (λ d. cond (is_absent v members d) 0xfffe (role_in v d)) now.roles (length v.roles) 0xffff to.count (λ d below. to.done d (omega arith)))
