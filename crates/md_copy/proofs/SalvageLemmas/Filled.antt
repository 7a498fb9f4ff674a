-- Sectors of the target are filled, run by run, and those that no member in sync gave are lost.
use Rattle.std.proofs.Common.{◌≡◌, ◌∙◌, ◌⊎◌, ◌↔◌, ℕ, ◌+◌, ◌*◌, ◌^◌, ◌<◌, ◌≤◌, false, List, slice_get, Some, sym, ap, subst, arith, inl, inr}
use Rattle.std.proofs.lemmas.Bool.{cases_lt}
use Rattle.std.proofs.lemmas.Option.{same_Some}
use Rattle.md_assembly.specs.States.{is_in_sync}
use Rattle.md_badblocks.specs.declared.run.Run.{Run}
use Rattle.md_badblocks.specs.Runs.{IsBad, IsCanonical}
use Rattle.md_kept_members.specs.View.{MemberView}
use Rattle.md_laws.proofs.Runs.Rests.{rests_same}
use Rattle.md_read.specs.Reading.{NoneGives}
use Rattle.md_state.specs.Members.{IsMember}
use Rattle.md_state.specs.View.{ArrayView, Disk, MirrorView}
use Rattle.md_copy.specs.Salvaging.Filling.{BreaksFilling, BreaksWithin, FillsFront, FillsSectors, FillsWithin}
use Rattle.md_copy.specs.Salvaging.Sectors.{bytes_of_sector}
use Rattle.md_copy.specs.declared.beginning.fault.RebuildFault.{RebuildFault}
use Rattle.md_copy.specs.declared.beginning.fault.RebuildFault.TheVariants.{Halted, NotSpare, Dirty, InFlight, LogFull, NoMemory, TargetFault, MetadataFault, EventsFull}
use Rattle.md_copy.proofs.SalvageLemmas.Within.{between, held_still, none_since, none_still, rests_within, within_then, within_wider}

-- none of these sectors is in a list
abbrev pub AreFresh : ℕ → ℕ → List Run → Type 0
AreFresh from to lost = (s : ℕ) → from ≤ s → s < to → IsBad lost s → ⊥

-- ---- no sector
pub fills_nothing : (target at : ℕ) (lost : List Run) (v : MirrorView) (m : MemberView) → IsMember v.array target m → IsCanonical lost → FillsSectors target at at lost lost v v
fills_nothing target at lost v m there canonical = record {
  within = rests_within target at at m v v there (rests_same v);
  canonical = canonical;
  kept = λ s bad. bad;
  none = λ s bad. inl bad;
  held = λ s low high. absurd (omega (arith, low, high));
  as_was = λ s low high. absurd (omega (arith, low, high));
}

-- ---- the front of a run
module _ (target sector sectors given : ℕ) (before : List Run) (old new : MirrorView) (front : FillsFront target sector sectors old new given) (canonical : IsCanonical before) (fresh : AreFresh sector (sector + sectors) before) where
  few : given ≤ sectors
  few = front.few

  pub fills_all : FillsSectors target sector (sector + given) before before old new
  fills_all = record {
    within = front.within;
    canonical = canonical;
    kept = λ s bad. bad;
    none = λ s bad. inl bad;
    held = λ s low high isnt. front.held s low high;
    as_was = λ s low high bad. absurd (fresh s low (omega (arith, high, few)) bad);
  }

  wide : FillsWithin target sector (sector + (given + 1)) old new
  wide = within_wider target sector (sector + given) sector (sector + (given + 1)) old new (omega arith) (omega arith) front.within

  wide_member : front.within.member ≡ wide.member
  wide_member = same_Some front.within.member wide.member (sym front.within.at ∙ wide.at)

  -- the next one is lost
  pub fills_but_one : (lost : List Run) → IsCanonical lost → given < sectors → sector + given < 2 ^ 54
      → ((s : ℕ) → IsBad lost s ↔ (IsBad before s ⊎ ((sector + given ≤ s) × (s < sector + given + 1) × (s < 2 ^ 54))))
      → FillsSectors target sector (sector + (given + 1)) before lost old new
  fills_but_one lost is_canonical less short added = record {
    within = wide;
    canonical = is_canonical;
    kept = λ s bad. (added s).1 (inl bad);
    none = λ s bad. elim ((added s).0 bad) [
      | inl was ↦ inl was
      | inr here ↦
          let from = here.0 in
          let below = here.1 in
          let is : sector + given ≡ s = omega (arith, from, below) in
          inr (omega (arith, from), omega (arith, below), subst (λ (x : ℕ). NoneGives x old new) is (front.next less))
    ];
    held = λ s low high isnt. elim (cases_lt s (sector + given)) [
      | inl below ↦ front.held s low below
      | inr from ↦ absurd (isnt ((added s).1 (inr (from, omega (arith, high), omega (arith, from, high, short)))))
    ];
    as_was = λ s low high bad. elim (cases_lt s (sector + given)) [
      | inl below ↦ absurd (elim ((added s).0 bad) [ inl was ↦ fresh s low (omega (arith, below, few)) was | inr here ↦ let from = here.0 in absurd (omega (arith, from, below)) ])
      | inr from ↦ λ d e was is. subst (λ (m : MemberView). bytes_of_sector m e.content s ≡ bytes_of_sector m d.content s) wide_member
          (front.within.beside d e was is (512 * (front.within.member.superblock.data_offset + s)) 512 (inr (omega (arith, from))))
    ];
  }

-- ---- some sectors, and those after them
module _ (target from at to : ℕ) (before more lost : List Run) (old mid new : MirrorView) (out : (m : MemberView) → IsMember old.array target m → is_in_sync m.state ≡ false) (low : from ≤ at) (high : at ≤ to)
    (first : FillsSectors target from at before more old mid) (second : FillsSectors target at to more lost mid new) where
  first_wide : FillsWithin target from to old mid
  first_wide = within_wider target from at from to old mid (omega arith) high first.within

  second_wide : FillsWithin target from to mid new
  second_wide = within_wider target at to from to mid new low (omega arith) second.within

  same_member : second.within.member ≡ first.within.member
  same_member = same_Some second.within.member first.within.member (sym second.within.at ∙ ap (λ (a : ArrayView). slice_get a.members target) first.within.array ∙ first.within.at)

  both : FillsWithin target from to old new
  both = within_then target from to old mid new first_wide second_wide

  both_member : first.within.member ≡ both.member
  both_member = same_Some first.within.member both.member (sym first.within.at ∙ both.at)

  was_lost : (s : ℕ) → s < at → IsBad lost s → IsBad more s
  was_lost s below bad = elim (second.none s bad) [ inl was ↦ was | inr here ↦ let later = here.0 in absurd (omega (arith, later, below)) ]

  pub fills_then : FillsSectors target from to before lost old new
  fills_then = record {
    within = both;
    canonical = second.canonical;
    kept = λ s bad. second.kept s (first.kept s bad);
    none = λ s bad. elim (second.none s bad) [
      | inl was ↦ elim (first.none s was) [
        | inl begun ↦ inl begun
        | inr here ↦
            let below = here.1 in
            inr (here.0, omega (arith, below, high), none_still target from to old mid new out s first.within.as_many second_wide here.2)
      ]
      | inr here ↦
          let later = here.0 in
          inr (omega (arith, later, low), here.1, none_since target from to old mid new out s first_wide here.2)
    ];
    held = λ s from_is below isnt. elim (cases_lt s at) [
      | inl early ↦ held_still target at to mid new second.within s (inl early) (first.held s from_is early (λ bad. isnt (second.kept s bad)))
      | inr late ↦ second.held s late below isnt
    ];
    as_was = λ s from_is below bad d e was is. subst (λ (m : MemberView). bytes_of_sector m e.content s ≡ bytes_of_sector m d.content s) both_member (was_so s from_is below bad d e was is);
  }
    where
      was_so : (s : ℕ) → from ≤ s → s < to → IsBad lost s → (d e : Disk) → slice_get old.disks target ≡ Some d → slice_get new.disks target ≡ Some e → bytes_of_sector first.within.member e.content s ≡ bytes_of_sector first.within.member d.content s
      was_so s from_is below bad d e was is = elim (cases_lt s at) [
        | inl early ↦
            let x = between target from to old mid new first_wide second_wide target d was in
            second.within.beside x.0 e x.1 is (512 * (first.within.member.superblock.data_offset + s)) 512
            (subst (λ (m : MemberView). (512 * (first.within.member.superblock.data_offset + s) + 512 ≤ 512 * (m.superblock.data_offset + at)) ⊎ (512 * (m.superblock.data_offset + to) ≤ 512 * (first.within.member.superblock.data_offset + s))) (sym same_member)
            (inl (omega (arith, early))))
            ∙ first.as_was s from_is early (was_lost s early bad) d x.0 was x.1
        | inr late ↦
            let x = between target from to old mid new first_wide second_wide target d was in
            subst (λ (m : MemberView). bytes_of_sector m e.content s ≡ bytes_of_sector m x.0.content s) same_member (second.as_was s late below bad x.0 e x.1 is)
            ∙ first.within.beside d x.0 was x.1 (512 * (first.within.member.superblock.data_offset + s)) 512 (inr (omega (arith, late)))
      ]

-- ---- where it breaks off
pub breaks_wider : (target from to low high : ℕ) (old new : MirrorView) → low ≤ from → to ≤ high → BreaksWithin target from to old new → BreaksWithin target low high old new
breaks_wider target from to low high old new lower upper h =
    let under = h.low in
    let over = h.high in
    record {
      last = h.last;
      within = within_wider target from to low high old h.last lower upper h.within;
      sector = h.sector;
      bytes = h.bytes;
      low = omega (arith, lower, under);
      high = omega (arith, upper, over);
      whole = h.whole;
      fails = h.fails;
    }

pub breaks_then : (target from to : ℕ) (old mid new : MirrorView) → FillsWithin target from to old mid → BreaksWithin target from to mid new → BreaksWithin target from to old new
breaks_then target from to old mid new first h = record {
  last = h.last;
  within = within_then target from to old mid h.last first h.within;
  sector = h.sector;
  bytes = h.bytes;
  low = h.low;
  high = h.high;
  whole = h.whole;
  fails = h.fails;
}

-- some were filled, and it breaks off among those after them
module _ (target from at high to : ℕ) (old mid new : MirrorView) (low : from ≤ at) (before : at ≤ to) (within : high ≤ to) (first : FillsWithin target from at old mid) where
  first_of_all : FillsWithin target from to old mid
  first_of_all = within_wider target from at from to old mid (omega arith) before first

  pub breaks_on : (fault : RebuildFault) → BreaksFilling target at high mid new fault → BreaksFilling target from to old new fault
  breaks_on Halted h = absurd h
  breaks_on NotSpare h = absurd h
  breaks_on Dirty h = absurd h
  breaks_on (InFlight number) h = absurd h
  breaks_on (LogFull k) h = absurd h
  breaks_on NoMemory h = within_then target from to old mid new first_of_all (within_wider target at high from to mid new low within h)
  breaks_on TargetFault h = breaks_then target from to old mid new first_of_all (breaks_wider target at high from to mid new low within h)
  breaks_on (MetadataFault k) h = absurd h
  breaks_on EventsFull h = absurd h

-- none of those after them is lost yet
pub fresh_still : (target from at to : ℕ) (before lost : List Run) (old new : MirrorView) → from ≤ at → FillsSectors target from at before lost old new → AreFresh from to before → AreFresh at to lost
fresh_still target from at to before lost old new low fills fresh = λ s later below bad. elim (fills.none s bad) [
  | inl was ↦ fresh s (omega (arith, low, later)) below was
  | inr here ↦ let early = here.1 in absurd (omega (arith, early, later))
]
