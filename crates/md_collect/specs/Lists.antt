-- A list of reports, taken one after another by a collector whose target is honest.
use Rattle.std.specs.Prelude.{◌≡◌, ℕ, ◌+◌, ◌*◌, ◌⊎◌, true, false, List, [], ◌∷◌, ◌++◌, length, Option, Some, None}
use Rattle.md_device.specs.Splice.{SameOutside}
use Rattle.md_bitmap.specs.Marks.{is_set}
use Rattle.md_collect.specs.declared.refusal.Refusal.{Refusal}
use Rattle.md_collect.specs.declared.refusal.Refusal.TheVariants.{TargetFault}
use Rattle.md_collect.specs.Places.{start_of, bytes_of_chunk}
use Rattle.md_collect.specs.Reports.{ReportView, Copying, is_among, counts, counted_reports, with_report, with_all}
use Rattle.md_collect.specs.Collecting.{CollectorView, copying, report_refusal, reports_of, IsCounted, IsUnreported}

-- a collector, and what its target holds
pub record Copied : Type 0 where
  pub collector : CollectorView
  pub target : List ℕ

-- the report counts
pub record IsTaken (old : Copied) (r : ReportView) (new : Copied) : Type 0 where
  pub first : report_refusal old.collector r ≡ None
  pub counted : IsCounted r.chunk old.collector new.collector
  pub target : new.target ≡ with_report (copying old.collector) old.target r

-- A report would be copied, but the target was not written.
pub record IsTargetSpoilt (old : Copied) (r : ReportView) (new : Copied) : Type 0 where
  pub first : report_refusal old.collector r ≡ None
  pub spoilt : new.collector ≡ record old.collector { spoiled = true }
  pub outside : SameOutside (512 * (old.collector.offset + start_of old.collector.chunks r.chunk)) (bytes_of_chunk old.collector.chunks r.chunk) old.target new.target

-- what `take` answers to a report, none where it counts, and what it leaves
abbrev pub Takes : Copied → ReportView → Option Refusal → Copied → Type 0
Takes old r None new = IsTaken old r new
Takes old r (Some TargetFault) new = IsTargetSpoilt old r new
Takes old r (Some why) new = (report_refusal old.collector r ≡ Some why) × (new ≡ old)

-- Reports are taken one after another.
abbrev pub TakesAll : Copied → List ReportView → Copied → Type 0
TakesAll s [] last = last ≡ s
TakesAll s (r ∷ rs) last = (answer : Option Refusal) × (mid : Copied) × Takes s r answer mid × TakesAll mid rs last

-- Those reports of the list that count were taken, and the target holds them over what it held.
pub record HoldsCounted (copy : Copying) (target : List ℕ) (reports : List ReportView) (s : Copied) : Type 0 where
  pub same_copy : copying s.collector ≡ copy
  pub reported : (c : ℕ) → is_set s.collector.reported.bytes c ≡ is_among (counted_reports copy reports) c
  pub number : reports_of s.collector ≡ length (counted_reports copy reports)
  pub holds : s.target ≡ with_all copy target (counted_reports copy reports)
  pub whole : s.collector.spoiled ≡ false

-- A write of the target failed: the reports before it are counted, and its own chunk may hold any bytes.
pub record HoldsUpTo (copy : Copying) (target : List ℕ) (front : List ReportView) (r : ReportView) (s : Copied) : Type 0 where
  pub counts : counts copy (counted_reports copy front) r ≡ true
  pub reported : (c : ℕ) → is_set s.collector.reported.bytes c ≡ is_among (counted_reports copy front) c
  pub number : reports_of s.collector ≡ length (counted_reports copy front)
  pub outside : SameOutside (512 * (copy.offset + start_of copy.chunks r.chunk)) (bytes_of_chunk copy.chunks r.chunk) (with_all copy target (counted_reports copy front)) s.target
  pub spoiled : s.collector.spoiled ≡ true

abbrev pub HoldsReports : Copying → List ℕ → List ReportView → Copied → Type 0
HoldsReports copy target reports s =
    HoldsCounted copy target reports s
    ⊎ ((front back : List ReportView) × (r : ReportView) × (reports ≡ front ++ (r ∷ back)) × HoldsUpTo copy target front r s)

-- What a target holds after a list of reports, from a fresh collector, whatever the list, its repeats and
-- strangers and their order.
abbrev pub EveryList : Type 0
EveryList =
    (v : CollectorView) (target : List ℕ) (reports : List ReportView) (last : Copied)
    → IsUnreported v → TakesAll (record { collector = v; target = target }) reports last
    → HoldsReports (copying v) target reports last
