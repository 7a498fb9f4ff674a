-- Lost sectors are listed with those between them, and nothing of a chunk that is not missing.
use Rattle.std.proofs.Common.{◌≡◌, ◌⊎◌, ◌↔◌, ℕ, ◌+◌, ◌^◌, ◌<◌, ◌≤◌, true, false, List, [], sym, subst, arith, inl, inr}
use Rattle.std.proofs.lemmas.Bool.{both_ways, cases_eq}
use Rattle.md_badblocks.specs.declared.run.Run.{Run}
use Rattle.md_badblocks.specs.Runs.{IsBad, IsCanonical}
use Rattle.md_badblocks.proofs.Rising.{bad_below}
use Rattle.md_bitmap.specs.declared.chunks.Chunks.{Chunks}
use Rattle.md_bitmap.specs.Chunks.{InChunk}
use Rattle.md_bitmap.specs.Marks.{Bitmap, is_set}
use Rattle.md_copy.specs.Salvaging.United.{HasSet, IsUnited, LiesInGap, LiesInGapTo}
use Rattle.md_copy.specs.Salvaging.Widened.{AreKeptTo, AreOthersTo, IsLostThere, ListsAllLost, TakesFewest}

-- ---- sectors of chunks that are not in a set
pub others_none : (chunks : Chunks) (set : Bitmap) (list : List Run) → list ≡ [] → AreOthersTo 0 chunks set list
others_none chunks set list none = record {
  canonical = subst IsCanonical (sym none) tt;
  bad = λ s. (λ bad. absurd (subst (λ (runs : List Run). IsBad runs s) none bad), λ is. absurd (let low = is.0.low in omega (arith, low)));
}

pub others_same : (n : ℕ) (chunks : Chunks) (set : Bitmap) (list : List Run) → AreOthersTo n chunks set list → is_set set.bytes n ≡ true → AreOthersTo (n + 1) chunks set list
others_same n chunks set list before here = record {
  canonical = before.canonical;
  bad = λ s. (
    λ bad. (let is = (before.bad s).0 bad in let low = is.0.low in (record { chunk = is.0.chunk; low = omega (arith, low); unset = is.0.unset; inside = is.0.inside }, is.1)),
    λ is.
        (let low = is.0.low in
        (before.bad s).1 (
          record {
            chunk = is.0.chunk;
            low = elim (cases_eq is.0.chunk n) [
              | inl same ↦ absurd (both_ways (is_set set.bytes n) (subst (λ (c : ℕ). is_set set.bytes c ≡ false) same is.0.unset) here)
              | inr other ↦ omega (arith, low, other)
            ];
            unset = is.0.unset;
            inside = is.0.inside;
          },
          is.1,
        )),
  );
}

pub others_more : (n : ℕ) (chunks : Chunks) (set : Bitmap) (list new : List Run) (start sectors : ℕ) → AreOthersTo n chunks set list → is_set set.bytes n ≡ false
    → ((s : ℕ) → InChunk chunks.sectors chunks.size n s ↔ ((start ≤ s) × (s < start + sectors))) → IsCanonical new
    → ((s : ℕ) → IsBad new s ↔ (IsBad list s ⊎ ((start ≤ s) × (s < start + sectors) × (s < 2 ^ 54)))) → AreOthersTo (n + 1) chunks set new
others_more n chunks set list new start sectors before here range canonical added = record {
  canonical = canonical;
  bad = λ s. (
    λ bad. elim ((added s).0 bad) [
      | inl was ↦ (let is = (before.bad s).0 was in let low = is.0.low in (record { chunk = is.0.chunk; low = omega (arith, low); unset = is.0.unset; inside = is.0.inside }, is.1))
      | inr in_it ↦ (record { chunk = n; low = omega arith; unset = here; inside = (range s).1 (in_it.0, in_it.1) }, in_it.2)
    ],
    λ is. (added s).1 (elim (cases_eq is.0.chunk n) [
      | inl same ↦ (let at = (range s).0 (subst (λ (c : ℕ). InChunk chunks.sectors chunks.size c s) same is.0.inside) in inr (at.0, at.1, is.1))
      | inr other ↦ (let low = is.0.low in inl ((before.bad s).1 (record { chunk = is.0.chunk; low = omega (arith, low, other); unset = is.0.unset; inside = is.0.inside }, is.1)))
    ]),
  );
}

-- ---- gaps
-- between two of these, and so between two of those
gap_of : {gap to s : ℕ} (P Q : ℕ → Type 0) → ((x : ℕ) → P x → Q x) → LiesInGapTo gap to P s → LiesInGapTo gap to Q s
gap_of P Q f g = record { before = g.before; after = g.after; before_is = f g.before g.before_is; after_is = f g.after g.after_is; above = g.above; below = g.below; close = g.close }

pub in_gap : (gap to : ℕ) (chunks : Chunks) (missing : Bitmap) (lost : List Run) (s : ℕ) → LiesInGapTo gap to (IsLostThere chunks missing lost) s → LiesInGap gap lost s
in_gap gap to chunks missing lost s g = record {
  before = g.before;
  after = g.after;
  before_is = g.before_is.0;
  after_is = g.after_is.0;
  above = g.above;
  below = g.below;
  close = elim g.close [ inl near ↦ omega (arith, near) | inr just ↦ just.0 ];
}

-- ---- the lost sectors of missing chunks are united
module _ (chunks : Chunks) (missing : Bitmap) (lost same kept others : List Run) (alike : (s : ℕ) → IsBad same s ↔ IsBad lost s) (keeps : AreKeptTo missing.chunks chunks missing same kept)
    (are : AreOthersTo missing.chunks chunks missing others) where
  kept_there : (s : ℕ) → IsBad kept s → IsLostThere chunks missing lost s
  kept_there s bad = let is = (keeps.bad s).0 bad in ((alike s).0 is.0, is.1)

  there_kept : (s : ℕ) → IsLostThere chunks missing lost s → IsBad kept s
  there_kept s there = (keeps.bad s).1 ((alike s).1 there.0, there.1)

  pub kept_apart : (s : ℕ) → IsBad kept s → IsBad others s → ⊥
  kept_apart s bad other = let is = ((are.bad s).0 other).0 in ((keeps.bad s).0 bad).1 is.chunk is.low is.unset is.inside

  has_of : (list : List Run) → ListsAllLost chunks missing lost list → HasSet kept others list
  has_of list l = record {
    canonical = l.canonical;
    all = λ s bad. l.all s (kept_there s bad);
    beside = λ s bad other. (let is = ((are.bad s).0 other).0 in l.beside s bad is.chunk is.low is.unset is.inside);
  }

  pub widened_so : (gap to : ℕ) (listed : List Run) → IsUnited gap to kept others listed → TakesFewest gap to chunks missing lost listed
  widened_so gap to listed u = record {
    widened = record {
      lists = record {
        canonical = u.has.canonical;
        all = λ s there. u.has.all s (there_kept s there);
        beside = λ s bad c low unset inside.
            u.has.beside s bad ((are.bad s).1 (record { chunk = c; low = low; unset = unset; inside = inside }, bad_below 0 listed s u.has.canonical bad));
      };
      more = λ s bad. elim (u.more s bad) [ inl is ↦ inl (kept_there s is) | inr g ↦ inr (gap_of (IsBad kept) (IsLostThere chunks missing lost) kept_there g) ];
    };
    fewest = λ other w.
        u.fewest other (has_of other w.lists)
        (inl (λ s bad. elim (w.more s bad) [ inl there ↦ inl (there_kept s there) | inr g ↦ inr (gap_of (IsLostThere chunks missing lost) (IsBad kept) there_kept g) ]));
    ever = λ wide all other l. u.fewest other (has_of other l) (inr (wide, all));
  }

-- With none of one width more it is as with all of the width before.
pub none_more : (gap : ℕ) (chunks : Chunks) (missing : Bitmap) (lost listed : List Run) → TakesFewest gap (2 ^ 54) chunks missing lost listed → TakesFewest (gap + 1) 0 chunks missing lost listed
none_more gap chunks missing lost listed t = record {
  widened = record {
    lists = t.widened.lists;
    more = λ s bad. elim (t.widened.more s bad) [
      | inl there ↦ inl there
      | inr g ↦
          inr (record {
            before = g.before;
            after = g.after;
            before_is = g.before_is;
            after_is = g.after_is;
            above = g.above;
            below = g.below;
            close = inl (elim g.close [ inl near ↦ omega (arith, near) | inr just ↦ (let near = just.0 in omega (arith, near)) ]);
          })
    ];
  };
  fewest = λ other w.
      t.fewest other (record {
        lists = w.lists;
        more = λ s bad. elim (w.more s bad) [
          | inl there ↦ inl there
          | inr g ↦
              inr (record {
                before = g.before;
                after = g.after;
                before_is = g.before_is;
                after_is = g.after_is;
                above = g.above;
                below = g.below;
                close = elim g.close [
                  | inl near ↦ inr (omega (arith, near), bad_below 0 listed g.after t.widened.lists.canonical (t.widened.lists.all g.after g.after_is))
                  | inr just ↦ absurd (let low = just.1 in omega (arith, low))
                ];
              })
        ];
      });
  ever = λ wide none. absurd (omega (arith, none));
}
