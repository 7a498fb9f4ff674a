use Rattle.std.proofs.Common.{◌≡◌, ◌∙◌, ◌+◌, ◌/◌, ◌<◌, ◌≤◌, ℕ, length, arith, sym, ap, subst, true≢false}
use Rattle.md_super.specs.declared.superblock.Superblock.{Superblock}
use Rattle.md_array.proofs.General.Resting.{rests_sound}
use Rattle.md_laws.proofs.Runs.Rests.{rests_then}
use Rattle.md_read.specs.Reading.{IsListedInPart, NotGivenIn}
use Rattle.md_state.specs.Rests.{Rests}
use Rattle.md_read.proofs.RunsRead.{NoneBelow, given_first, in_part_earlier, listed_in_any, listed_more, listed_not_given, none_in_any, none_more}
use Rattle.md_read.proofs.runs.read_group.Goals as goal
use Rattle.md_read.proofs.runs.read_group.Goals.{in-Failed, in-Nothing}

pub returns-in-All : goal.returns-in-All
returns-in-All g c =
    let old = c.args.mirror.now in
    let mid = c.loop-role.mirror in
    let new = c.read_in.new.mirror in
    let bytes = c.read_in.new.buf in
    let so_far = c.loop-role.invariant.none in
    let same : length bytes ≡ length c.args.buf.now = c.read_in.auto.buf ∙ c.loop-role.invariant.long in (
      rests_then old mid new so_far.rests c.in-All.ensures.0,
      given_first c.args.mostly c.loop-role.role c.args.sector old mid new bytes (subst (λ (n : ℕ). NoneBelow c.args.mostly c.loop-role.role c.args.sector (n / 512) old mid) (sym same) so_far) c.in-All.ensures.0 c.in-All.ensures.1,
    )

pub returns-in-Perhaps : goal.returns-in-Perhaps
returns-in-Perhaps g c =
    let so_far = c.loop-role.invariant.none in
    let long = c.loop-role.invariant.long in
    let many = c.in-Perhaps.ensures.1 in
    let some = c.in-Perhaps.ensures.2 in (
      rests_then c.args.mirror.now c.loop-role.mirror c.read_in.new.mirror so_far.rests c.in-Perhaps.ensures.0,
      subst (λ (n : ℕ). 1 < n / 512) long many,
      in_part_earlier c.args.mirror.now c.loop-role.mirror so_far.rests c.args.sector (length c.args.buf.now / 512) (subst (λ (n : ℕ). IsListedInPart c.args.sector (n / 512) c.loop-role.mirror.array) long some),
    )

pub loop-role-preserved : goal.loop-role-preserved
loop-role-preserved g c =
    let old = c.args.mirror.now in
    let mid = c.loop-role.mirror in
    let new = c.read_in.new.mirror in
    let role = c.loop-role.role in
    let sectors : ℕ = length c.args.buf.now / 512 in
    let long = c.loop-role.invariant.long in
    let same : length c.loop-role.buf / 512 ≡ sectors = ap (λ n. n / 512) long in
    let gave_none : Rests mid new × ((s : ℕ) → c.args.sector ≤ s → s < c.args.sector + sectors → NotGivenIn c.args.mostly role s c.args.sector sectors mid new) = elim c.match-read_in.branch [
      | in-Failed w ↦ (w.in-Failed.ensures.0, λ s from below. subst (λ (n : ℕ). NotGivenIn c.args.mostly role s c.args.sector n mid new) same (w.in-Failed.ensures.1 s from (omega arith)))
      | in-Nothing w ↦ (w.in-Nothing.ensures.0, λ s from below. listed_not_given c.args.mostly role s c.args.sector sectors mid new (w.in-Nothing.ensures.1 s from (omega arith)))
    ] in
    record {
      none = none_more c.args.mostly role c.args.sector old mid new sectors c.loop-role.invariant.none gave_none.0 gave_none.1;
      listed = λ clear. elim c.match-read_in.branch [
        | in-Failed w ↦ absurd (true≢false (sym w.has_failed-is ∙ clear))
        | in-Nothing w ↦
            listed_more c.args.mostly role c.args.sector sectors old mid c.loop-role.invariant.none.rests (c.loop-role.invariant.listed (sym w.has_failed-is ∙ clear))
            (λ s from below. w.in-Nothing.ensures.1 s from (omega arith))
      ];
      sound = rests_sound mid new gave_none.0 c.loop-role.invariant.sound;
      long = c.read_in.auto.buf ∙ long;
    }

pub returns-then-has_failed : goal.returns-then-has_failed
returns-then-has_failed g c =
    let so_far = c.loop-role.invariant.none in
    let past = c.loop-role-test.false in
    let disks = ap (λ (v : Superblock). v.raid_disks) c.shared.ensures in (
      so_far.rests,
      none_in_any c.args.mostly c.args.mirror.now c.loop-role.mirror c.requires.sound c.loop-role.role c.args.sector (length c.args.buf.now / 512) (omega arith) so_far,
    )

pub returns : goal.returns
returns g c =
    let so_far = c.loop-role.invariant.none in
    let past = c.loop-role-test.false in
    let disks = ap (λ (v : Superblock). v.raid_disks) c.shared.ensures in (
      so_far.rests,
      listed_in_any c.args.mostly c.args.mirror.now c.requires.sound c.loop-role.role c.args.sector (length c.args.buf.now / 512) (omega arith) (c.loop-role.invariant.listed c.if-has_failed.false),
    )
