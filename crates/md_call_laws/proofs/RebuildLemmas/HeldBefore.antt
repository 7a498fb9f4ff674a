-- What a member held of the content before it is rebuilt.
use Rattle.std.proofs.Common.{◌≡◌, ◌∙◌, ◌⊎◌, ℕ, ◌+◌, ◌*◌, ◌/◌, ◌<◌, Bool, true, false, true≢false, cond, ◌&&◌, ◌||◌, nat_lt, leb, [], slice_get, Some, refl, sym, ap, subst, inl, inr}
use Rattle.std.proofs.lemmas.Bool.{and_parts}
use Rattle.std.proofs.lemmas.Option.{same_Some}
use Rattle.md_assembly.specs.declared.state.MemberState.{MemberState}
use Rattle.md_assembly.specs.declared.state.MemberState.TheVariants.{InSync, Recovering, Stale, Spare, Faulty}
use Rattle.md_assembly.specs.States.{is_in_sync, is_recovering, is_spare}
use Rattle.md_badblocks.specs.Runs.{IsBad}
use Rattle.md_bitmap.specs.Marks.{is_set}
use Rattle.md_device.specs.Splice.{part}
use Rattle.md_kept_members.specs.View.{MemberView}
use Rattle.md_model.specs.Devices.{Stored}
use Rattle.md_model.specs.Rebuilding as model
use Rattle.md_model.specs.Rebuilding.{lacks}
use Rattle.md_model.specs.Recovering.{RecoveringHolds}
use Rattle.md_model.specs.Sectors.{is_passed}
use Rattle.md_model.specs.States as states
use Rattle.md_model.specs.Worlds.{World}
use Rattle.md_model.proofs.Content.RecoveringSteps.{differs_in_missing}
use Rattle.md_model.proofs.Content.RebuiltWhole.{none_passed}
use Rattle.md_model.proofs.Cases.{below-nat_lt, by_test}
use Rattle.md_state.specs.Members.{IsMember}
use Rattle.md_state.specs.Missing.{has_passed, is_missing, is_re_added}
use Rattle.md_state.specs.View.{ArrayView, Disk, geometry_of}
use Rattle.md_array.specs.Worlds.{kind_of, lies_in, lists_of, stored_of, world_of}
use Rattle.md_array.proofs.StepLemmas.OneMember.{member_there, stored_there}
use Rattle.md_array.proofs.Worlds.Bad.{bad_from_test}
use Rattle.md_array.proofs.Worlds.States.{same_in_sync, same_recovering}
use Rattle.md_laws.specs.Runs.{Moment}
use Rattle.md_laws.proofs.Runs.MirrorContents.{life_held_at}
use Rattle.md_laws.proofs.Runs.Recovering.{keeps_recovering}
use Rattle.md_copy.proofs.Fills.LentBack.{rebuilt_out}
use Rattle.md_copy.proofs.Stored.TargetStates.{target_rebuilt}
use Rattle.md_call_laws.specs.Rebuilds.RebuiltInLife.{HasNothing, HeldInLives, NewHadNothing, RebuildsResumed, RecoveringHeldIt, TakenBackHeldIt}
use Rattle.md_call_laws.proofs.RebuildLemmas.RebuiltHolds.{holds_there}

-- ---- one of which nothing is rebuilt
lacks_all : (in_sync recovering marked passed : Bool) → in_sync ≡ false → (recovering ≡ false) ⊎ (passed ≡ false) → lacks in_sync recovering marked passed ≡ true
lacks_all true recovering marked passed out none = absurd (true≢false out)
lacks_all false false marked passed out none = refl
lacks_all false true true passed out none = refl
lacks_all false true false false out none = refl
lacks_all false true false true out (inl is) = absurd (true≢false is)
lacks_all false true false true out (inr is) = absurd (true≢false is)

spare_out : (s : MemberState) → is_spare s ≡ true → (is_in_sync s ≡ false) × (is_recovering s ≡ false)
spare_out (InSync role) is = absurd cc
spare_out (Recovering role) is = absurd cc
spare_out (Stale role) is = (refl, refl)
spare_out Spare is = (refl, refl)
spare_out Faulty is = (refl, refl)

recovering_out : (s : MemberState) → is_recovering s ≡ true → is_in_sync s ≡ false
recovering_out (InSync role) is = absurd cc
recovering_out (Recovering role) is = refl
recovering_out (Stale role) is = refl
recovering_out Spare is = refl
recovering_out Faulty is = refl

nothing_missing : (a : ArrayView) (m : MemberView) (s : ℕ) → 0 < a.chunks.sectors → s < a.chunks.size → HasNothing m → is_missing a m (s / a.chunks.sectors) ≡ true
nothing_missing a m s wide low (inl spare) =
    lacks_all (is_in_sync m.state) (is_recovering m.state) (is_set a.marks.bytes (s / a.chunks.sectors)) (has_passed a m (s / a.chunks.sectors)) (spare_out m.state spare).0 (inl (spare_out m.state spare).1)
nothing_missing a m s wide low (inr new) =
    lacks_all (is_in_sync m.state) (is_recovering m.state) (is_set a.marks.bytes (s / a.chunks.sectors)) (has_passed a m (s / a.chunks.sectors)) (recovering_out m.state new.0)
    (inr (ap (λ (o : ℕ). is_passed (geometry_of a) o (s / a.chunks.sectors)) new.1 ∙ none_passed (geometry_of a) s wide low))

pub new_had_nothing : NewHadNothing
new_had_nothing target content old m sound at new d n at_d at_n s low present unlisted =
    let same : n ≡ m = same_Some n m (sym at_n ∙ at) in
    let missing = nothing_missing old.array m s sound.chunks.wide low new in
    absurd (true≢false (sym missing ∙ ap (λ (x : MemberView). is_missing old.array x (s / old.array.chunks.sectors)) (sym same) ∙ present))

-- ---- one that was taken back
-- it lacks what is marked
lacks_marked : (in_sync recovering marked passed : Bool) → in_sync ≡ false → recovering ≡ true → passed ≡ true → lacks in_sync recovering marked passed ≡ marked
lacks_marked true recovering marked passed out on past = absurd (true≢false out)
lacks_marked false false marked passed out on past = absurd (true≢false (sym on))
lacks_marked false true marked false out on past = absurd (true≢false (sym past))
lacks_marked false true true true out on past = refl
lacks_marked false true false true out on past = refl

-- and no more where less is marked
lacks_less : (in_sync recovering marked less passed : Bool) → (marked ≡ false → less ≡ false) → lacks in_sync recovering marked passed ≡ false → lacks in_sync recovering less passed ≡ false
lacks_less true recovering marked less passed f none = refl
lacks_less false false marked less passed f none = absurd (true≢false none)
lacks_less false true true less passed f none = absurd (true≢false none)
lacks_less false true false less false f none = absurd (true≢false none)
lacks_less false true false less true f none = ap (λ b. lacks false true b true) (f refl)

or_first : (a b : Bool) → a ≡ true → a || b ≡ true
or_first true b is = refl
or_first false b is = absurd (true≢false (sym is))

unmarked : (b : Bool) (is : Bool) → is ≡ false → (b && is) ≡ false
unmarked b is none = by_test (b && is) (λ both. absurd (true≢false (sym (and_parts b is both).1 ∙ none))) (λ off. off)

-- ---- a sector of a member's device, in the model
module _ (t : Moment) (target : ℕ) (d : Disk) (m : MemberView) (at_d : slice_get t.mirror.disks target ≡ Some d) (at : IsMember t.mirror.array target m) where
  abbrev a : ArrayView
  a = t.mirror.array

  abbrev w : World
  w = world_of t.mirror t.requests

  abbrev sector : ℕ → ℕ
  sector s = m.superblock.data_offset + s

  in_world : (s : ℕ) → s < a.chunks.size → part d.content (512 * sector s) 512 ≡ (w.stored target).content s
  in_world s low =
      let stored : w.stored target ≡ stored_of a m d.content = stored_there t.mirror.disks a target m d at at_d in
      sym (ap (λ b. cond b (part d.content (512 * sector s) 512) []) (below-nat_lt s a.chunks.size low)) ∙ sym (ap (λ (x : Stored). x.content s) stored)

  not_listed : (s : ℕ) → (IsBad m.bad (sector s) → ⊥) → lists_of a m s ≡ false
  not_listed s clear = unmarked (nat_lt s a.chunks.size) (lies_in m.bad (sector s)) (by_test (lies_in m.bad (sector s)) (λ lies. absurd (clear (bad_from_test m.bad (sector s) lies))) (λ none. none))

  no_mark : (c : ℕ) → is_set a.marks.bytes c ≡ false → w.marks c ≡ false
  no_mark c = unmarked (nat_lt c a.marks.chunks) (is_set a.marks.bytes c)

  -- what it lacks is no more in the model
  state_is : w.state target ≡ kind_of m.state
  state_is = member_there a target m states.State.Faulty (λ x. kind_of x.state) at

  recovers : is_recovering m.state ≡ true → states.is_recovering (w.state target) ≡ true
  recovers on = ap states.is_recovering state_is ∙ same_recovering m.state ∙ on

  present : (c : ℕ) → is_missing a m c ≡ false → model.is_missing (geometry_of a) w target c ≡ false
  present c is =
      let in_sync_is : states.is_in_sync (w.state target) ≡ is_in_sync m.state = ap states.is_in_sync state_is ∙ same_in_sync m.state in
      let recovering_is : states.is_recovering (w.state target) ≡ is_recovering m.state = ap states.is_recovering state_is ∙ same_recovering m.state in
      let offset_is : w.offset target ≡ m.offset = member_there a target m 0 (λ x. x.offset) at in
      let same : model.is_missing (geometry_of a) w target c ≡ lacks (is_in_sync m.state) (is_recovering m.state) (w.marks c) (has_passed a m c) =
      λ i. lacks (in_sync_is i) (recovering_is i) (w.marks c) (is_passed (geometry_of a) (offset_is i) c) in
      same ∙ lacks_less (is_in_sync m.state) (is_recovering m.state) (is_set a.marks.bytes c) (w.marks c) (has_passed a m c) (no_mark c) is

pub taken_back_held_it : TakenBackHeldIt
taken_back_held_it t target content m at back device behind from d n at_d at_n s low present unlisted =
    let a : ArrayView = t.mirror.array in
    let same : m ≡ n = same_Some m n (sym at ∙ at_n) in
    let c = s / a.chunks.sectors in
    let taken : is_re_added a n ≡ true = ap (is_re_added a) (sym same) ∙ back in
    let is = and_parts (is_recovering n.state) (leb a.chunks.size n.offset) taken in
    let missing : is_missing a n c ≡ is_set a.marks.bytes c =
    lacks_marked (is_in_sync n.state) (is_recovering n.state) (is_set a.marks.bytes c) (has_passed a n c) (recovering_out n.state is.0) is.0
    (or_first (leb a.chunks.size n.offset) (leb ((c + 1) * a.chunks.sectors) n.offset) is.1) in
    let unset = no_mark t target d n at_d at_n c (sym missing ∙ present) in
    let off : lists_of a m s ≡ false = ap (λ (x : MemberView). lists_of a x s) same ∙ not_listed t target d n at_d at_n s unlisted in
    in_world t target d n at_d at_n s low ∙ from.content s low unset ∙ behind.in_memory s low (from.listed_still s low unset off) unset

-- ---- any that is out of sync
pub recovering_held_it : RecoveringHeldIt
recovering_held_it t target content m at out holds d n at_d at_n s low has unlisted =
    let a : ArrayView = t.mirror.array in
    let c = s / a.chunks.sectors in
    let out_n : is_in_sync n.state ≡ false = ap (λ (x : MemberView). is_in_sync x.state) (same_Some n m (sym at_n ∙ at)) ∙ out in
    by_test (is_recovering n.state)
    (λ on.
    let bad_is = member_there a target n false (λ x. lists_of a x s) at_n in
    in_world t target d n at_d at_n s low
    ∙ differs_in_missing (geometry_of a) content (world_of t.mirror t.requests) holds target s low (recovers t target d n at_d at_n on) (bad_is ∙ not_listed t target d n at_d at_n s unlisted) (present t target d n at_d at_n c has))
    (λ off. absurd (true≢false (sym (lacks_all (is_in_sync n.state) (is_recovering n.state) (is_set a.marks.bytes c) (has_passed a n c) out_n (inl off)) ∙ has)))

pub held_in_lives : HeldInLives
held_in_lives before m a start holds recovering es rest final last b life told target n at out =
    let kept = keeps_recovering before m a start holds recovering es rest final last b life told in
    let stays = (life_held_at before m a start holds es rest final last b life).geometry in
    recovering_held_it last target b n at out (subst (λ g. RecoveringHolds g b (world_of last.mirror last.requests)) (sym stays) kept)

pub rebuilds_resumed : RebuildsResumed
rebuilds_resumed before m a start holds recovering es rest final last b life joins target told new h =
    let x = holds_there before m a start holds es rest final last b life target told new h in
    let begins = h.begins in
    let out = rebuilt_out begins.member.state (target_rebuilt last.mirror.array begins.member begins.may.resynced_target.has_target.target) in
    (x.0, x.1 (held_in_lives before m a start holds recovering es rest final last b life joins target begins.member begins.at out))
