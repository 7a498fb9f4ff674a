-- Reads of a device, one after another, and what they tell.
use Rattle.std.proofs.Common.{◌≡◌, ℕ, ◌≤◌, ◌<◌, ◌*◌, ◌⊎◌, inl, inr, length, Bool, true, false, refl, ◌∙◌, sym, arith, subst}
use Rattle.md_device.specs.declared.device.Device.{Ghosts}
use Rattle.md_device.specs.Crashes.{LeavesMore}
use Rattle.md_device.proofs.Failing.{fails_none, fails_then}
use Rattle.md_device.proofs.Leaving.{leaves_none, leaves_then}
use Rattle.md_notices.specs.Signatures.Reading.{Heeds, IsOnlySearched, TellsWhetherThere}

module _ {D : Type 0} {g : Ghosts D} where
  pub not_read : (d : D) → IsOnlySearched g d d
  not_read d = record { kept = refl; honest = refl; counted = omega arith; grown = fails_none (g.faults d) (λ f. f.writes ≡ false); within = λ h. leaves_none (g.crashes d) (λ left. left ≡ g.content d) }

  pub read_then : {a b c : D} → IsOnlySearched g a b → IsOnlySearched g b c → IsOnlySearched g a c
  read_then {a = a} {b = b} {c = c} first second = record {
    kept = second.kept ∙ first.kept;
    honest = second.honest ∙ first.honest;
    counted = let m = first.counted in let n = second.counted in omega arith;
    grown = fails_then (g.faults a) (g.faults b) (g.faults c) (λ f. f.writes ≡ false) first.grown second.grown;
    within = λ h. leaves_then (g.crashes a) (g.crashes b) (g.crashes c) (λ left. left ≡ g.content a) (first.within h)
        (subst (λ x. LeavesMore (g.crashes b) (g.crashes c) (λ left. left ≡ x)) first.kept (second.within (first.honest ∙ h)));
  }

  -- what is noted of failures
  pub heeds_none : (d : D) (noted : Bool) → Heeds g d d noted noted
  heeds_none d noted = record { none = λ e. (e, refl); some = λ e. inl e }

  pub heeds_then : {a b c : D} {x y z : Bool} → IsOnlySearched g a b → IsOnlySearched g b c → Heeds g a b x y → Heeds g b c y z → Heeds g a c x z
  heeds_then {a = a} {b = b} {c = c} {x = x} {y = y} one two first second = record {
    none = λ e. let later = second.none e in let early = first.none later.0 in (early.0, later.1 ∙ early.1);
    some = λ e. by (second.some e);
  }
    where
      m : g.failures a ≤ g.failures b
      m = one.counted

      n : g.failures b ≤ g.failures c
      n = two.counted

      at_first : (x ≡ true) ⊎ (g.honest a ≡ true → g.failures a < g.failures b) → (x ≡ true) ⊎ (g.honest a ≡ true → g.failures a < g.failures c)
      at_first (inl e) = inl e
      at_first (inr more) = inr (λ h. let failed = more h in omega (arith, failed, n))

      by : (y ≡ true) ⊎ (g.honest b ≡ true → g.failures b < g.failures c) → (x ≡ true) ⊎ (g.honest a ≡ true → g.failures a < g.failures c)
      by (inl e) = at_first (first.some e)
      by (inr more) = inr (λ h. let failed = more (one.honest ∙ h) in omega (arith, failed, m))

  -- nothing was found, and nothing is there
  pub tells_none : (old new : D) (there : Bool) → (g.honest old ≡ true → g.failures new ≡ g.failures old → there ≡ false) → TellsWhetherThere g old new there false
  tells_none old new there none = record { sound = λ h e. cc; whole = λ h same. sym (none h same) }

  -- what is there, said otherwise
  pub tells_as : {old new : D} {there same found : Bool} → there ≡ same → TellsWhetherThere g old new there found → TellsWhetherThere g old new same found
  tells_as {old = old} {new = new} {found = found} e tells = subst (λ b. TellsWhetherThere g old new b found) e tells

  -- what was found is what is there
  pub tells_same : {old new : D} {there found : Bool} → (g.honest old ≡ true → found ≡ there) → TellsWhetherThere g old new there found
  tells_same same = record { sound = λ h e. sym (same h) ∙ e; whole = λ h _. same h }

  -- a sector that was not given
  pub missed : {old new : D} (sector : ℕ) {there : Bool} → (length (g.content old) ≤ 512 * sector) ⊎ (g.honest old ≡ true → g.failures old < g.failures new) → (length (g.content old) ≤ 512 * sector → there ≡ false) → TellsWhetherThere g old new there false
  missed {old = old} {new = new} sector {there = there} (inl past) none = tells_none old new there (λ h same. none past)
  missed {old = old} {new = new} sector {there = there} (inr failed) none = tells_none old new there (λ h same. let more = failed h in absurd (omega (arith, more, same)))
