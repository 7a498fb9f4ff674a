use Rattle.std.proofs.Common.{◌≡◌, ◌∙◌, List, ℕ, true, inl, inr, refl, sym, ap}
use Rattle.md_images.proofs.Taken.{same_text}
use Rattle.md_files.proofs.masks.images.masked_images.size_of.Goals as goal

pub returns-clause-kept : goal.returns-clause-kept
returns-clause-kept g c =
    let got = c.in_ok-device.ensures in
    let mid : g.I.Images.known c.args.images.now ≡ true → g.I.Images.known c.get.new.self ≡ true = λ k. got.known ∙ k in
    record {
      known = c.put.ensures.known ∙ got.known;
      holds = λ k n. c.put.ensures.places (mid k) n ∙ got.places k n;
      devices = λ k n. elim (same_text n c.args.name.now) [
        | inl same ↦ ap (λ (t : List ℕ). g.I.Images.device_at c.put.new.self t) same ∙ c.put.ensures.back (mid k) ∙ sym ((got.gives k).1) ∙ ap (λ (t : List ℕ). g.I.Images.device_at c.args.images.now t) (sym same)
        | inr other ↦ c.put.ensures.others (mid k) n other ∙ got.others k n other
      ];
      rights = λ k n. c.put.ensures.rights (mid k) n ∙ got.rights k n;
      asked = λ k n. c.put.ensures.asked (mid k) n ∙ got.looks k refl n;
    }
