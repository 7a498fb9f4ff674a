-- Devices that are looked at one by one.
use Rattle.md_device.specs.declared.device.Device.{Ghosts}
use Rattle.std.proofs.Common.{◌≡◌, ◌≢◌, ◌∙◌, ◌+◌, ◌<◌, ◌≤◌, ◌++◌, ◌∷◌, [], ℕ, zero, suc, List, length, map, set, Some, refl, sym, ap, subst, inl, inr, arith, length-set, length-append, option_map}
use Rattle.std.specs.Prelude.{slice_get, slice_index_or}
use Rattle.std.proofs.lemmas.Option.{same_Some, slice_get-get_or, slice_get-map, slice_get_within}
use Rattle.std.proofs.lemmas.List.{map-set}
use Rattle.md_state.specs.View.{Disk, disk_of}
use Rattle.md_notices.specs.declared.held.held.Held.{Held}
use Rattle.md_notices.specs.Held.Holding.{LooksAtEach, LooksAtOne, LooksAtPlace}
use Rattle.md_kept_members.proofs.Members.Indices.{cases_more}

-- the first n devices are looked at, and the others are as before
pub record AreLookedAt (before now : List Disk) (held : List Held) (n : ℕ) : Type 0 where
  pub as_many : length now ≡ length before
  pub many : length held ≡ n
  pub each : (k : ℕ) → k < n → LooksAtPlace before now held k
  pub rest : (k : ℕ) → n ≤ k → slice_get now k ≡ slice_get before k

pub none_looked : (disks : List Disk) → AreLookedAt disks disks [] 0
none_looked disks = record { as_many = refl; many = refl; each = λ k lt. absurd (omega (arith, lt)); rest = λ k le. refl }

-- ---- lists that are changed in one place, and that grow
got_other : {X : Type 0} (xs : List X) (k j : ℕ) (y : X) → j ≢ k → slice_get (set xs k y) j ≡ slice_get xs j
got_other [] k j y apart = refl
got_other (x ∷ xs) zero zero y apart = absurd (apart refl)
got_other (x ∷ xs) zero (suc j) y apart = refl
got_other (x ∷ xs) (suc k) zero y apart = refl
got_other (x ∷ xs) (suc k) (suc j) y apart = got_other xs k j y (λ e. apart (ap suc e))

got_there : {X : Type 0} (xs : List X) (k : ℕ) (y : X) → k < length xs → slice_get (set xs k y) k ≡ Some y
got_there [] k y lt = absurd (omega (arith, lt))
got_there (x ∷ xs) zero y lt = refl
got_there (x ∷ xs) (suc k) y lt = got_there xs k y (omega (arith, lt))

got_before : {X : Type 0} (xs : List X) (y : X) (k : ℕ) → k < length xs → slice_get (xs ++ y ∷ []) k ≡ slice_get xs k
got_before [] y k lt = absurd (omega (arith, lt))
got_before (x ∷ xs) y zero lt = refl
got_before (x ∷ xs) y (suc k) lt = got_before xs y k (omega (arith, lt))

got_last : {X : Type 0} (xs : List X) (y : X) → slice_get (xs ++ y ∷ []) (length xs) ≡ Some y
got_last [] y = refl
got_last (x ∷ xs) y = got_last xs y

-- ---- one more
module _ (before now : List Disk) (held : List Held) (n : ℕ) (d e : Disk) (h : Held) (so : AreLookedAt before now held n) (there : slice_get now n ≡ Some d) (looked : LooksAtOne d e h) where
  was : slice_get before n ≡ Some d
  was = sym (so.rest n (omega arith)) ∙ there

  is_now : slice_get (set now n e) n ≡ Some e
  is_now = got_there now n e (slice_get_within now n d there)

  is_held : slice_get (held ++ h ∷ []) n ≡ Some h
  is_held = subst (λ k. slice_get (held ++ h ∷ []) k ≡ Some h) so.many (got_last held h)

  earlier : (k : ℕ) → k < n → LooksAtPlace before (set now n e) (held ++ h ∷ []) k
  earlier k lt a b x ea eb ex =
      so.each k lt a b x ea
      (sym (got_other now n k e (λ same. omega (arith, same, lt))) ∙ eb)
      (sym (got_before held h k (omega (arith, lt, so.many))) ∙ ex)

  here : (k : ℕ) → k ≡ n → LooksAtPlace before (set now n e) (held ++ h ∷ []) k
  here k is a b x ea eb ex =
      let first : d ≡ a = same_Some d a (sym was ∙ ap (slice_get before) (sym is) ∙ ea) in
      let second : e ≡ b = same_Some e b (sym is_now ∙ ap (slice_get (set now n e)) (sym is) ∙ eb) in
      let third : h ≡ x = same_Some h x (sym is_held ∙ ap (slice_get (held ++ h ∷ [])) (sym is) ∙ ex) in
      subst (λ y. LooksAtOne a b y) third (subst (λ y. LooksAtOne a y h) second (subst (λ y. LooksAtOne y e h) first looked))

  pub one_looked : AreLookedAt before (set now n e) (held ++ h ∷ []) (n + 1)
  one_looked = record {
    as_many = length-set now n e ∙ so.as_many;
    many = length-append held (h ∷ []) ∙ ap (λ k. k + 1) so.many;
    each = λ k lt. elim (cases_more k n lt) [
      | inl less ↦ earlier k less
      | inr is ↦ here k is
    ];
    rest = λ k le. got_other now n k e (λ same. omega (arith, same, le)) ∙ so.rest k (omega (arith, le));
  }

pub all_looked : (before now : List Disk) (held : List Held) (n : ℕ) → n ≡ length before → AreLookedAt before now held n → LooksAtEach before now held
all_looked before now held n all so = record {
  as_many = so.as_many;
  all = so.many ∙ all;
  each = λ k lt. so.each k (omega (arith, lt, all));
}

-- ---- devices as contracts see them
pub with_disk : {D : Type 0} (g : Ghosts D) (devices : List D) (n : ℕ) (e : D) → map (disk_of g) (set devices n e) ≡ set (map (disk_of g) devices) n (disk_of g e)
with_disk g devices n e = map-set (disk_of g) devices n e

pub disk_at : {D : Type 0} (g : Ghosts D) (devices : List D) (n : ℕ) (d : D) → n < length devices → slice_get (map (disk_of g) devices) n ≡ Some (disk_of g (slice_index_or devices n d))
disk_at g devices n d lt = slice_get-map (disk_of g) devices n ∙ ap (option_map (disk_of g)) (slice_get-get_or devices n d lt)
