-- An array in which a member takes a role: what holds of it in memory.
use Rattle.std.proofs.Common.{◌≡◌, ◌≢◌, ℕ, ◌/◌, ◌<◌, ◌≤◌, true, false, not, List, length, length-set, slice_get, Some, refl, sym, ap, ◌∙◌, subst, arith, set}
use Rattle.std.proofs.lemmas.List.{length-map}
use Rattle.std.proofs.lemmas.Option.{slice_get_within}
use Rattle.md_array.proofs.StepLemmas.OneMember.{HasPlacesOf, fits_places}
use Rattle.md_array.specs.Consistency.{IsConsistent}
use Rattle.md_array.specs.Fits.{Fits, FitsMember}
use Rattle.md_array.proofs.General.Indices.{at_map, at_set_same, got_in_map}
use Rattle.md_array.proofs.General.Replaced.{of_set}
use Rattle.md_array.proofs.Worlds.Joined.{role_joined}
use Rattle.md_array.proofs.Worlds.Risen.{risen_is_consistent}
use Rattle.md_bitmap.specs.declared.header.BitmapHeader.{BitmapHeader}
use Rattle.md_model.specs.Sectors.{put}
use Rattle.md_model.proofs.Puts.{put-hit, put-miss}
use Rattle.md_assembly.specs.States.{is_in_sync, role_in, takes_role}
use Rattle.md_assembly.proofs.Indices.{got_within}
use Rattle.md_kept_members.specs.Members.{made_due}
use Rattle.md_kept_members.specs.View.{MemberView}
use Rattle.md_kept_members.specs.Membership.Joining.{joined_shared}
use Rattle.md_state.specs.InMemory.{HasMarksOfSize, HasRoles}
use Rattle.md_state.specs.Members.{IsMember, is_degraded, IsInSync}
use Rattle.md_state.specs.Steps.Rise.{risen}
use Rattle.md_state.specs.View.{ArrayView, Disk}

-- Role is one of the array's, and no other member has it; and its number has an entry.
pub record TakesRole (a : ArrayView) (k : ℕ) (m : MemberView) (role : ℕ) : Type 0 where
  pub below : role < a.shared.raid_disks
  pub small : m.superblock.dev_number < 1920
  pub alone : (j : ℕ) (x : MemberView) → IsMember a j x → takes_role role x.state ≡ true → j ≡ k
  pub out : is_in_sync m.state ≡ false

-- ---- the array with it
module _ (disks now : List Disk) (a : ArrayView) (c : IsConsistent (record { disks = disks; array = a })) (k role : ℕ) (m n : MemberView) (is : IsMember a k m)
    (t : TakesRole a k m role) (places : HasPlacesOf m n) (own : (wanted : ℕ) → takes_role wanted n.state ≡ true → role ≡ wanted) (cleared : ℕ) where
  abbrev up : ArrayView
  up = risen a (not (is_degraded a))

  abbrev b : ArrayView
  b = record a { shared = joined_shared a.shared a.members n.superblock.dev_number role; members = set up.members k n; events_cleared = cleared }

  abbrev number : ℕ
  number = n.superblock.dev_number

  u : IsConsistent (record { disks = disks; array = up })
  u = risen_is_consistent (record { disks = disks; array = a }) (not (is_degraded a)) c

  same_number : number ≡ m.superblock.dev_number
  same_number = places.number

  small : number < 1920
  small = subst (λ (x : ℕ). x < 1920) (sym same_number) t.small

  there : IsMember up k (made_due m)
  there = got_in_map made_due a.members k m is

  low : k < length up.members
  low = slice_get_within up.members k (made_due m) there

  at : IsMember b k n
  at = at_set_same up.members k n low

  -- each of its members
  each : {P : Type 0} (j : ℕ) (x : MemberView) → IsMember b j x → (j ≡ k → x ≡ n → P) → (j ≢ k → IsMember up j x → P) → P
  each j x found = of_set up.members k j n x found

  other_number : (j : ℕ) (x : MemberView) → j ≢ k → IsMember up j x → x.superblock.dev_number ≢ number
  other_number j x apart found same = apart (u.roles.numbers j k x (made_due m) found there (same ∙ same_number))

  role_now : (d : ℕ) → role_in b.shared d ≡ put number role (role_in up.shared) d
  role_now = role_joined a n role small

  its_role : (wanted : ℕ) (x : MemberView) → x ≡ n → takes_role wanted x.state ≡ true → role ≡ wanted
  its_role wanted x same takes = own wanted (sym (ap (λ (y : MemberView). takes_role wanted y.state) same) ∙ takes)

  others_role : {P : Type 0} (j wanted : ℕ) (x y : MemberView) → x ≡ n → takes_role wanted x.state ≡ true → j ≢ k → IsMember up j y → takes_role wanted y.state ≡ true → P
  others_role j wanted x y same takes apart found too =
      let z = at_map made_due a.members j y found in
      let taken : takes_role role z.0.state ≡ true = ap (λ (i : ℕ). takes_role i z.0.state) (its_role wanted x same takes) ∙ sym (ap (λ (o : MemberView). takes_role wanted o.state) z.2) ∙ too in
      absurd (apart (t.alone j z.0 z.1 taken))

  pub roles_taken : (j : ℕ) × (y : MemberView) × IsInSync b j y → HasRoles b
  roles_taken serves = record {
    few = subst (λ (x : ℕ). x ≤ 64) (sym (length-set up.members k n)) u.roles.few;
    numbers = λ i j x y p q same. each i x p
        (λ here x_is. each j y q
        (λ too _. here ∙ sym too)
        (λ apart found. absurd (other_number j y apart found (sym same ∙ ap (λ (z : MemberView). z.superblock.dev_number) x_is))))
        (λ apart found. each j y q
        (λ here y_is. absurd (other_number i x apart found (same ∙ ap (λ (z : MemberView). z.superblock.dev_number) y_is)))
        (λ _ found_too. u.roles.numbers i j x y found found_too same));
    shared = λ j wanted x found takes. each j x found
        (λ _ x_is. ap (λ (z : MemberView). role_in b.shared z.superblock.dev_number) x_is ∙ role_now number ∙ put-hit number role (role_in up.shared) ∙ its_role wanted x x_is takes)
        (λ apart here. role_now x.superblock.dev_number ∙ put-miss number role (role_in up.shared) x.superblock.dev_number (other_number j x apart here) ∙ u.roles.shared j wanted x here takes);
    below = λ j wanted x found takes. each j x found
        (λ _ x_is. subst (λ (i : ℕ). i < a.shared.raid_disks) (its_role wanted x x_is takes) t.below)
        (λ _ here. u.roles.below j wanted x here takes);
    one_each = λ i j wanted x y p q e f. each i x p
        (λ here x_is. each j y q
        (λ too _. here ∙ sym too)
        (λ apart found. others_role j wanted x y x_is e apart found f))
        (λ apart found. each j y q
        (λ _ y_is. others_role i wanted y x y_is f apart found e)
        (λ _ found_too. u.roles.one_each i j wanted x y found found_too e f));
    serving = λ _. serves;
  }

  pub chunks_taken : HasMarksOfSize b
  chunks_taken = record {
    size = u.chunks.size;
    count = u.chunks.count;
    wide = u.chunks.wide;
    none_past = u.chunks.none_past;
    member_size = λ j x found. each j x found
        (λ _ x_is. ap (λ (z : MemberView). z.superblock.size) x_is ∙ places.size ∙ c.chunks.member_size k m is)
        (λ _ here. u.chunks.member_size j x here);
    member_width = λ j x found. each j x found
        (λ _ x_is. ap (λ (z : MemberView). z.header.chunksize / 512) x_is ∙ ap (λ (h : BitmapHeader). h.chunksize / 512) places.header ∙ c.chunks.member_width k m is)
        (λ _ here. u.chunks.member_width j x here);
    member_count = λ j x found. each j x found
        (λ _ x_is. ap (λ (z : MemberView). z.stored.chunks) x_is ∙ places.chunks ∙ c.chunks.member_count k m is)
        (λ _ here. u.chunks.member_count j x here);
  }

  pub fits_taken : length now ≡ length disks → ((j : ℕ) → j ≢ k → slice_get now j ≡ slice_get disks j)
      → ((d e : Disk) → slice_get disks k ≡ Some d → slice_get now k ≡ Some e → length e.content ≡ length d.content) → Fits now b
  fits_taken many others long = record {
    as_many = let count = c.fits.as_many in let same = length-set up.members k n in let mapped = length-map a.members made_due in omega arith;
    each = λ j e x found member. each j x member
        (λ here x_is.
        let at_now : slice_get now k ≡ Some e = sym (ap (slice_get now) here) ∙ found in
        let inside = slice_get_within now k e at_now in
        let d = got_within disks k (omega arith) in
        subst (λ (z : MemberView). FitsMember b z e) (sym x_is) (fits_places a b m n d.0 e refl places (long d.0 e d.1 at_now) (c.fits.each k d.0 m d.1 is)))
        (λ apart here.
        let fit = u.fits.each j e x (sym (others j apart) ∙ found) here in
        record { long = fit.long; short = fit.short; has = fit.has; placed = fit.placed; few_chunks = fit.few_chunks; sound = fit.sound; told = fit.told });
  }
