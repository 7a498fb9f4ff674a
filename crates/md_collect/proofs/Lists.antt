-- A list of reports is taken.
use Rattle.std.proofs.Common.{◌≡◌, ℕ, length, ◌+◌, ◌*◌, ◌==◌, ◌&&◌, ◌||◌, not, cond, Bool, true, false, List, [], ◌∷◌, ◌++◌, inl, inr, Option, Some, None, refl, ap, sym, ◌∙◌, arith, append_assoc, append-nil, subst}
use Rattle.std.proofs.Math.Bool.{or_comm, or-false}
use Rattle.std.proofs.lemmas.List.{length_push}
use Rattle.md_device.specs.Splice.{SameOutside}
use Rattle.md_collect.specs.Places.{start_of, bytes_of_chunk}
use Rattle.std.proofs.lemmas.List.Folds.{list_any-append}
use Rattle.std.proofs.lemmas.Bool.Decides.{nat_tests}
use Rattle.md_bitmap.specs.Marks.{is_set, count_set}
use Rattle.md_collect.specs.declared.refusal.Refusal.{Refusal}
use Rattle.md_collect.specs.declared.refusal.Refusal.TheVariants.{Spoiled, Stranger, Double, Length, TargetFault}
use Rattle.md_collect.specs.Reports.{ReportView, Copying, is_among, is_planned, has_length, counts, counted_reports, counted_after, with_report, with_all}
use Rattle.md_collect.specs.Collecting.{CollectorView, copying, report_refusal, reports_of}
use Rattle.md_collect.proofs.Counts.{count_set-none, count_set-more}
use Rattle.md_collect.specs.Lists.{Copied, IsTaken, IsTargetSpoilt, Takes, TakesAll, HoldsCounted, HoldsUpTo, HoldsReports, EveryList}

counted_more_after : (copy : Copying) (earlier reports : List ReportView) (r : ReportView)
    → counted_after copy earlier (reports ++ (r ∷ [])) ≡ cond (counts copy (counted_after copy earlier reports) r) (counted_after copy earlier reports ++ (r ∷ [])) (counted_after copy earlier reports)
unfolding counted_after
counted_more_after copy earlier [] r = refl
counted_more_after copy earlier (x ∷ xs) r = counted_more_after copy (cond (counts copy earlier x) (earlier ++ (x ∷ [])) earlier) xs r

counted_more : (copy : Copying) (reports : List ReportView) (r : ReportView)
    → counted_reports copy (reports ++ (r ∷ [])) ≡ cond (counts copy (counted_reports copy reports) r) (counted_reports copy reports ++ (r ∷ [])) (counted_reports copy reports)
counted_more copy reports r = counted_more_after copy [] reports r

with_more : (copy : Copying) (target : List ℕ) (reports : List ReportView) (r : ReportView) → with_all copy target (reports ++ (r ∷ [])) ≡ with_report copy (with_all copy target reports) r
unfolding with_all
with_more copy target [] r = refl
with_more copy target (x ∷ xs) r = with_more copy (with_report copy target x) xs r

same_test : (m n : ℕ) → (m == n) ≡ (n == m)
same_test m n = grind (arith, nat_tests)

among_more : (reports : List ReportView) (r : ReportView) (c : ℕ) → is_among (reports ++ (r ∷ [])) c ≡ (c == r.chunk || is_among reports c)
among_more reports r c =
    list_any-append (λ (x : ReportView). x.chunk == c) reports (r ∷ [])
    ∙ or_comm (is_among reports c) ((r.chunk == c) || false)
    ∙ ap (λ b. b || is_among reports c) (or-false (r.chunk == c) ∙ same_test r.chunk c)

-- the first reason, of four tests
first_of : Bool → Bool → Bool → Bool → Option Refusal
first_of spoiled planned double long = cond spoiled (Some Spoiled) (cond (not planned) (Some Stranger) (cond double (Some Double) (cond (not long) (Some Length) None)))

none_stands : (spoiled planned double long : Bool) → first_of spoiled planned double long ≡ None → (planned && (not double && long)) ≡ true
unfolding first_of
none_stands true planned double long e = cc
none_stands false false double long e = cc
none_stands false true true long e = cc
none_stands false true false false e = cc
none_stands false true false true e = refl

not_double : (spoiled planned double long : Bool) → first_of spoiled planned double long ≡ None → double ≡ false
unfolding first_of
not_double true planned double long e = cc
not_double false false double long e = cc
not_double false true true long e = cc
not_double false true false long e = refl

one_stands : (why : Refusal) (planned double long : Bool) → first_of false planned double long ≡ Some why → (planned && (not double && long)) ≡ false
unfolding first_of
one_stands why false double long e = refl
one_stands why true true long e = refl
one_stands why true false false e = refl
one_stands why true false true e = cc

-- a spoilt collector changes no more
still_spoilt : (s mid : Copied) (r : ReportView) (answer : Option Refusal) → s.collector.spoiled ≡ true → Takes s r answer mid → mid ≡ s
still_spoilt s mid r None spoiled is = absurd (impossible s.collector.spoiled spoiled is.first)
  where
    impossible : (b : Bool) → b ≡ true → cond b (Some Spoiled) (cond (not (is_planned s.collector.slots r.chunk r.source)) (Some Stranger) (cond (is_set s.collector.reported.bytes r.chunk) (Some Double) (cond (not (has_length s.collector.chunks r)) (Some Length) None))) ≡ None → ⊥
    impossible true e none = cc
    impossible false e none = cc
still_spoilt s mid r (Some TargetFault) spoiled is = absurd (impossible s.collector.spoiled spoiled is.first)
  where
    impossible : (b : Bool) → b ≡ true → cond b (Some Spoiled) (cond (not (is_planned s.collector.slots r.chunk r.source)) (Some Stranger) (cond (is_set s.collector.reported.bytes r.chunk) (Some Double) (cond (not (has_length s.collector.chunks r)) (Some Length) None))) ≡ None → ⊥
    impossible true e none = cc
    impossible false e none = cc
still_spoilt s mid r (Some Spoiled) spoiled is = is.1
still_spoilt s mid r (Some Stranger) spoiled is = is.1
still_spoilt s mid r (Some Double) spoiled is = is.1
still_spoilt s mid r (Some Length) spoiled is = is.1

all_spoilt : (s last : Copied) (rest : List ReportView) → s.collector.spoiled ≡ true → TakesAll s rest last → last ≡ s
all_spoilt s last [] spoiled is = is
all_spoilt s last (r ∷ rs) spoiled (answer, mid, takes, all) =
    let same = still_spoilt s mid r answer spoiled takes in
    all_spoilt mid last rs (ap (λ (x : Copied). x.collector.spoiled) same ∙ spoiled) all ∙ same

module _ {copy : Copying} {target : List ℕ} where
  -- what the collector asks is what counts
  asked : (done : List ReportView) (s : Copied) (r : ReportView) → HoldsCounted copy target done s
      → report_refusal s.collector r ≡ first_of s.collector.spoiled (is_planned copy.slots r.chunk r.source) (is_among (counted_reports copy done) r.chunk) (has_length copy.chunks r)
  unfolding first_of
  asked done s r at =
      let slots : s.collector.slots ≡ copy.slots = ap (λ (c : Copying). c.slots) at.same_copy in
      let chunks : s.collector.chunks ≡ copy.chunks = ap (λ (c : Copying). c.chunks) at.same_copy in
      rw (slots, chunks, at.reported r.chunk) refl

  does_count : (done : List ReportView) (s : Copied) (r : ReportView) → HoldsCounted copy target done s → report_refusal s.collector r ≡ None → counts copy (counted_reports copy done) r ≡ true
  does_count done s r at none = none_stands s.collector.spoiled _ _ _ (sym (asked done s r at) ∙ none)

  does_not : (done : List ReportView) (s : Copied) (r : ReportView) (why : Refusal) → HoldsCounted copy target done s → report_refusal s.collector r ≡ Some why → counts copy (counted_reports copy done) r ≡ false
  does_not done s r why at some = one_stands why _ _ _ (ap (λ b. first_of b (is_planned copy.slots r.chunk r.source) (is_among (counted_reports copy done) r.chunk) (has_length copy.chunks r)) (sym at.whole) ∙ sym (asked done s r at) ∙ some)

  unset : (done : List ReportView) (s : Copied) (r : ReportView) → HoldsCounted copy target done s → report_refusal s.collector r ≡ None → is_set s.collector.reported.bytes r.chunk ≡ false
  unset done s r at none = at.reported r.chunk ∙ not_double s.collector.spoiled _ _ _ (sym (asked done s r at) ∙ none)

  one_more : (done : List ReportView) (s mid : Copied) (r : ReportView) → HoldsCounted copy target done s → IsTaken s r mid → reports_of mid.collector ≡ length (counted_reports copy done) + 1
  one_more done s mid r at is =
      let more = count_set-more s.collector.reported.bytes mid.collector.reported.bytes r.chunk s.collector.reported.chunks is.counted.within (unset done s r at is.first) is.counted.reported in
      let before = at.number in
      let e : reports_of mid.collector ≡ count_set mid.collector.reported.bytes s.collector.reported.chunks = ap (count_set mid.collector.reported.bytes) is.counted.chunks in
      e ∙ omega (arith, more, before)

  taken : (done : List ReportView) (s mid : Copied) (r : ReportView) → HoldsCounted copy target done s → IsTaken s r mid → HoldsCounted copy target (done ++ (r ∷ [])) mid
  taken done s mid r at is =
      let longer : counted_reports copy (done ++ (r ∷ [])) ≡ counted_reports copy done ++ (r ∷ []) = counted_more copy done r ∙ ap (λ b. cond b (counted_reports copy done ++ (r ∷ [])) (counted_reports copy done)) (does_count done s r at is.first) in
      record {
        same_copy = ap copying is.counted.kept ∙ at.same_copy;
        reported = λ c. is.counted.reported c ∙ ap (λ b. c == r.chunk || b) (at.reported c) ∙ sym (among_more (counted_reports copy done) r c) ∙ ap (λ xs. is_among xs c) (sym longer);
        number = one_more done s mid r at is ∙ sym (length_push (counted_reports copy done) r) ∙ sym (ap (λ (xs : List ReportView). length xs) longer);
        holds = is.target ∙ ap (λ c. with_report c s.target r) at.same_copy ∙ ap (λ t. with_report copy t r) at.holds ∙ sym (with_more copy target (counted_reports copy done) r) ∙ ap (with_all copy target) (sym longer);
        whole = ap (λ (v : CollectorView). v.spoiled) is.counted.kept ∙ at.whole;
      }

  refused : (done : List ReportView) (s mid : Copied) (r : ReportView) (why : Refusal) → HoldsCounted copy target done s → report_refusal s.collector r ≡ Some why → mid ≡ s → HoldsCounted copy target (done ++ (r ∷ [])) mid
  refused done s mid r why at some same =
      let shorter : counted_reports copy (done ++ (r ∷ [])) ≡ counted_reports copy done = counted_more copy done r ∙ ap (λ b. cond b (counted_reports copy done ++ (r ∷ [])) (counted_reports copy done)) (does_not done s r why at some) in
      record {
        same_copy = ap (λ (x : Copied). copying x.collector) same ∙ at.same_copy;
        reported = λ c. ap (λ (x : Copied). is_set x.collector.reported.bytes c) same ∙ at.reported c ∙ ap (λ xs. is_among xs c) (sym shorter);
        number = ap (λ (x : Copied). reports_of x.collector) same ∙ at.number ∙ sym (ap (λ (xs : List ReportView). length xs) shorter);
        holds = ap (λ (x : Copied). x.target) same ∙ at.holds ∙ ap (with_all copy target) (sym shorter);
        whole = ap (λ (x : Copied). x.collector.spoiled) same ∙ at.whole;
      }

  spoilt : (done : List ReportView) (s mid : Copied) (r : ReportView) → HoldsCounted copy target done s → IsTargetSpoilt s r mid → HoldsUpTo copy target done r mid
  spoilt done s mid r at is =
      let Outside : Copying → List ℕ → Type 0 = λ c t. SameOutside (512 * (c.offset + start_of c.chunks r.chunk)) (bytes_of_chunk c.chunks r.chunk) t mid.target in
      record {
        counts = does_count done s r at is.first;
        reported = λ c. ap (λ (v : CollectorView). is_set v.reported.bytes c) is.spoilt ∙ at.reported c;
        number = ap reports_of is.spoilt ∙ at.number;
        outside = subst (λ c. Outside c (with_all copy target (counted_reports copy done))) at.same_copy (subst (λ t. Outside (copying s.collector) t) at.holds is.outside);
        spoiled = ap (λ (v : CollectorView). v.spoiled) is.spoilt;
      }

  onward : (done rs : List ReportView) (r : ReportView) (s mid last : Copied) → HoldsCounted copy target done s → TakesAll mid rs last
      → (HoldsCounted copy target (done ++ (r ∷ [])) mid → HoldsReports copy target ((done ++ (r ∷ [])) ++ rs) last)
      → (answer : Option Refusal) → Takes s r answer mid → HoldsReports copy target (done ++ (r ∷ rs)) last
  onward done rs r s mid last at all on answer takes = by answer takes
    where
      next : HoldsCounted copy target (done ++ (r ∷ [])) mid → HoldsReports copy target (done ++ (r ∷ rs)) last
      next h = let e : (done ++ (r ∷ [])) ++ rs ≡ done ++ (r ∷ rs) = rw append_assoc refl in subst (λ xs. HoldsReports copy target xs last) e (on h)

      by : (answer : Option Refusal) → Takes s r answer mid → HoldsReports copy target (done ++ (r ∷ rs)) last
      by None is = next (taken done s mid r at is)
      by (Some TargetFault) is =
          let failed = spoilt done s mid r at is in
          inr (done, rs, r, refl, rw (all_spoilt mid last rs failed.spoiled all) failed)
      by (Some Spoiled) is = next (refused done s mid r Spoiled at is.0 is.1)
      by (Some Stranger) is = next (refused done s mid r Stranger at is.0 is.1)
      by (Some Double) is = next (refused done s mid r Double at is.0 is.1)
      by (Some Length) is = next (refused done s mid r Length at is.0 is.1)

  from : (done rest : List ReportView) (s last : Copied) → HoldsCounted copy target done s → TakesAll s rest last → HoldsReports copy target (done ++ rest) last
  from done [] s last at is = inl (rw (append-nil, is) at)
  from done (r ∷ rs) s last at (answer, mid, takes, all) = onward done rs r s mid last at all (λ next. from (done ++ (r ∷ [])) rs mid last next all) answer takes

pub every_list : EveryList
unfolding with_all counted_after
every_list v target reports last fresh all =
    from {copy = copying v} {target = target} [] reports (record { collector = v; target = target }) last (record { same_copy = refl; reported = λ c. fresh.none c; number = count_set-none v.reported.bytes v.reported.chunks fresh.none; holds = refl; whole = fresh.whole }) all
