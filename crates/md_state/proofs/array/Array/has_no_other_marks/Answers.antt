use Rattle.std.proofs.Common.{◌≡◌, ◌<◌, ℕ, true, refl, subst, sym}
use Rattle.md_bitmap.specs.Marks.{Bitmap, is_set}
use Rattle.md_state.specs.View.{ArrayView}
use Rattle.md_state.proofs.array.Array.has_no_other_marks.Goals as goal

abbrev AreAmong : ArrayView → Bitmap → Type 0
AreAmong a b = (i : ℕ) → i < a.marks.chunks → is_set b.bytes i ≡ true → is_set a.marks.bytes i ≡ true

pub returns-then-accepted : goal.returns-then-accepted
returns-then-accepted c = (
  (λ all. record {
    header = c.in-Some.header;
    has_header = c.in-Some.is;
    accepted = c.if-accepted.ensures.0 refl;
    cleared = c.if-not-has_no_other_clearing.ensures.0 refl;
    marks = c.in-Some-marks.marks;
    has_marks = c.in-Some-marks.is;
    among = subst (λ (a : ArrayView). AreAmong a c.in-Some-marks.marks) c.self.view_is (c.has_all_of.ensures.0 all);
  }),
  (λ h.
      let same : h.marks ≡ c.in-Some-marks.marks = cc in
      c.has_all_of.ensures.1 (subst (λ (a : ArrayView). AreAmong a c.in-Some-marks.marks) (sym c.self.view_is) (subst (AreAmong c.args.self.now) same h.among))),
)
