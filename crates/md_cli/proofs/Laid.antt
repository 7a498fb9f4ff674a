-- Members that are laid out on their devices one by one.
use Rattle.md_device.specs.declared.device.Device.{Ghosts}
use Rattle.std.proofs.Common.{◌≡◌, ◌∙◌, ◌+◌, ◌<◌, ◌≤◌, ℕ, Bool, List, length, map, set, Some, refl, sym, ap, subst, inl, inr, arith, length-set, option_map, Result, Ok, Err, MatchResult, is_err, true, false, true≢false}
use Rattle.std.specs.Prelude.{slice_get, slice_index_or}
use Rattle.std.proofs.lemmas.Option.{same_Some, slice_get-get_or, slice_get-map, slice_get_within}
use Rattle.std.proofs.lemmas.List.{map-set}
use Rattle.md_create.specs.declared.params.NewMember.{NewMember}
use Rattle.md_create.specs.Layout.{writes_of}
use Rattle.md_create.specs.Writes.{DoesWrites, FailsInWrites}
use Rattle.md_state.specs.View.{Disk, disk_of}
use Rattle.md_cli.specs.Creating.{AreLaidOut, At, FailsInLayout, LaysOut}
use Rattle.md_array.proofs.General.Indices.{got_other, at_set_same}
use Rattle.md_kept_members.proofs.Members.Indices.{cases_more}

-- the first n members are laid out, and the other devices are as before
pub record IsLaidTo (before now : List Disk) (members : List NewMember) (n : ℕ) : Type 0 where
  pub as_many : length now ≡ length before
  pub each : (k : ℕ) → k < n → At LaysOut before now members k
  pub rest : (k : ℕ) → n ≤ k → slice_get now k ≡ slice_get before k

pub none_laid : (disks : List Disk) (members : List NewMember) → IsLaidTo disks disks members 0
none_laid disks members = record { as_many = refl; each = λ k lt. absurd (omega (arith, lt)); rest = λ k le. refl }

-- the relation of one member's device before and after, at its place
at_place : (Related : Disk → Disk → NewMember → Type 0) (before after : List Disk) (members : List NewMember) (n k : ℕ) (d e : Disk) (m : NewMember) → k ≡ n → slice_get before n ≡ Some d → slice_get after n ≡ Some e → slice_get members n ≡ Some m → Related d e m → At Related before after members k
at_place Related before after members n k d e m is old new member related a b x ea eb ex =
    let first : d ≡ a = same_Some d a (sym old ∙ ap (slice_get before) (sym is) ∙ ea) in
    let second : e ≡ b = same_Some e b (sym new ∙ ap (slice_get after) (sym is) ∙ eb) in
    let third : m ≡ x = same_Some m x (sym member ∙ ap (slice_get members) (sym is) ∙ ex) in
    subst (λ y. Related a b y) third (subst (λ y. Related a y m) second (subst (λ y. Related y e m) first related))

module _ (before now : List Disk) (members : List NewMember) (n : ℕ) (d e : Disk) (m : NewMember) (so : IsLaidTo before now members n) (there : slice_get now n ≡ Some d) (member : slice_get members n ≡ Some m) where
  inside : n < length now
  inside = slice_get_within now n d there

  was : slice_get before n ≡ Some d
  was = sym (so.rest n (omega arith)) ∙ there

  is_now : slice_get (set now n e) n ≡ Some e
  is_now = at_set_same now n e inside

  earlier : (k : ℕ) → k < n → At LaysOut before (set now n e) members k
  earlier k lt a b x ea eb ex = so.each k lt a b x ea (sym (got_other now n k e (λ same. omega (arith, same, lt))) ∙ eb) ex

  pub one_laid : LaysOut d e m → IsLaidTo before (set now n e) members (n + 1)
  one_laid related = record {
    as_many = length-set now n e ∙ so.as_many;
    each = λ k lt. elim (cases_more k n lt) [
      | inl less ↦ earlier k less
      | inr is ↦ at_place LaysOut before (set now n e) members n k d e m is was is_now member related
    ];
    rest = λ k le. got_other now n k e (λ same. omega (arith, same, le)) ∙ so.rest k (omega (arith, le));
  }

  pub laid_up_to : AreLaidOut before (set now n e) members n
  laid_up_to = record {
    as_many = length-set now n e ∙ so.as_many;
    each = earlier;
    later = λ k lt. got_other now n k e (λ same. omega (arith, same, lt)) ∙ so.rest k (omega (arith, lt));
  }

  pub stopped_here : FailsInLayout d e m → At FailsInLayout before (set now n e) members n
  stopped_here related = at_place FailsInLayout before (set now n e) members n n d e m refl was is_now member related

pub all_laid : (before now : List Disk) (members : List NewMember) (n : ℕ) → IsLaidTo before now members n → AreLaidOut before now members n
all_laid before now members n so = record { as_many = so.as_many; each = so.each; later = λ k lt. so.rest k (omega (arith, lt)) }

-- what a call says of a device it says of the device as contracts see it
module _ {D : Type 0} (g : Ghosts D) (d e : D) (m : NewMember) where
  pub does_on_disk : DoesWrites g (writes_of m) d e → LaysOut (disk_of g d) (disk_of g e) m
  does_on_disk h = record { kept = record { size = h.kept.size; honest_kept = h.kept.honest_kept; counted = h.kept.counted; grown = h.kept.grown }; unfailing = h.unfailing; none_failed = h.none_failed; all_done = h.all_done; within = h.within }

  pub stops_on_disk : FailsInWrites g (writes_of m) d e → FailsInLayout (disk_of g d) (disk_of g e) m
  stops_on_disk h = record { kept = record { size = h.kept.size; honest_kept = h.kept.honest_kept; counted = h.kept.counted; grown = h.kept.grown }; failed = h.failed; done = h.done; tried = h.tried; rest = h.rest; order = h.order; tried_alone_failed = h.tried_alone_failed; outside = h.outside; within = h.within }

-- the first list of devices with one that was written to
pub with_disk : {D : Type 0} (g : Ghosts D) (devices : List D) (n : ℕ) (e : D) → map (disk_of g) (set devices n e) ≡ set (map (disk_of g) devices) n (disk_of g e)
with_disk g devices n e = map-set (disk_of g) devices n e

pub disk_at : {D : Type 0} (g : Ghosts D) (devices : List D) (n : ℕ) (d : D) → n < length devices → slice_get (map (disk_of g) devices) n ≡ Some (disk_of g (slice_index_or devices n d))
disk_at g devices n d lt = slice_get-map (disk_of g) devices n ∙ ap (option_map (disk_of g)) (slice_get-get_or devices n d lt)

-- what a call that did not fail says, and one that did
pub did : {T E : Type 0} (r : Result T E) (b : Bool) (P Q : Type 0) → b ≡ is_err r → b ≡ false → MatchResult r (λ _. P) (λ _. Q) → P
did (Ok x) b P Q is fine h = h
did (Err e) b P Q is fine h = absurd (true≢false (sym is ∙ fine))

pub did_not : {T E : Type 0} (r : Result T E) (b : Bool) (P Q : Type 0) → b ≡ is_err r → b ≡ true → MatchResult r (λ _. P) (λ _. Q) → Q
did_not (Ok x) b P Q is wrong h = absurd (true≢false (sym wrong ∙ is))
did_not (Err e) b P Q is wrong h = h
