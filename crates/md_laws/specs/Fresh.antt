-- Devices of a new array, all of whose chunks are marked: the first opening of them begins a life.
use Rattle.std.specs.Prelude.{◌≡◌, ℕ, false, true, List, map, Option, slice_get, Some}
use Rattle.md_create.specs.declared.params.CreateParams.{CreateParams}
use Rattle.md_create.specs.declared.params.NewMember.{NewMember}
use Rattle.md_create.specs.ReadBack.{ReadsBack}
use Rattle.md_create.specs.Values.{IsNewMember}
use Rattle.md_members.specs.declared.info.MemberInfo.{MemberInfo}
use Rattle.md_members.specs.Members.{IsReadMember}
use Rattle.md_state.specs.View.{ArrayView, Disk, MirrorView}
use Rattle.md_array.specs.Open.Opened.{IsArrayOf, IsOpenedFrom}
use Rattle.md_array.specs.Worlds.{AreHonest}
use Rattle.md_laws.specs.HalfOpened.{IsHalfOpened}
use Rattle.md_laws.specs.Runs.{IsStart}

-- A device reads back as a member that `create` made without assume_clean. So it does where `lay_out` laid that member out on it: that is
-- what `md_create::reads_back` says.
pub record IsFreshDevice (content : List ℕ) : Type 0 where
  pub params : CreateParams
  pub sizes : List (Option ℕ)
  pub size : ℕ
  pub member : NewMember
  pub made : IsNewMember params sizes size member
  pub unclean : params.assume_clean ≡ false
  pub reads : (info : MemberInfo) → IsReadMember content true info → ReadsBack member info

abbrev pub AreFresh : List Disk → Type 0
AreFresh disks = (k : ℕ) (d : Disk) → slice_get disks k ≡ Some d → IsFreshDevice d.content

-- Whatever stands in their data, the stored marks cover what the members in sync differ in.
abbrev pub StartsFresh : Type 0
StartsFresh = (before : List Disk) (m : MirrorView) → AreHonest before → IsOpenedFrom before m → AreFresh before → IsStart before m

-- An interrupted first opening of them writes nothing, as each bitmap is accepted: so the next opening is a first one again.
abbrev pub StaysFresh : Type 0
StaysFresh =
    (before : List Disk) (a : ArrayView) → AreHonest before → IsArrayOf before a → AreFresh before
    → (left : List (List ℕ)) → IsHalfOpened a before left → left ≡ map (λ d. d.content) before
