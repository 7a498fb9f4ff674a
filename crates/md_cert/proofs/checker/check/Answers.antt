use Rattle.std.proofs.Common.{refl, subst}
use Rattle.md_cert.specs.Plans.{ChunksRise}
use Rattle.md_cert.proofs.Order.{certified_of, none_of, passed_3, passed_4, passed_5, passed_6, single_in, sources_within, verdict_of}
use Rattle.md_cert.proofs.Law.{certified_least}
use Rattle.md_cert.proofs.checker.check.Goals as goal

pub returns-in-Some-first_uncovered-clause-verdict : goal.returns-in-Some-first_uncovered-clause-verdict
returns-in-Some-first_uncovered-clause-verdict c =
    let chunks_rise = subst ChunksRise c.as_slice.ensures c.if-not-chunks_rise.ensures in
    verdict_of _ _ _ _ _ _ c.rows-rows.ensures.rows c.as_slice-slots.ensures refl _ record {
      stands = c.in-Some-first_uncovered.ensures;
      first = passed_3 _ _ _ (c.if-not-slots_rise.ensures, chunks_rise) c.in_default.ensures;
    }

pub first_double-requires : goal.first_double-requires
first_double-requires c = sources_within _ _ c.in_default.ensures

pub returns-in-Some-first_double-clause-verdict : goal.returns-in-Some-first_double-clause-verdict
returns-in-Some-first_double-clause-verdict c =
    let chunks_rise = subst ChunksRise c.as_slice.ensures c.if-not-chunks_rise.ensures in
    verdict_of _ _ _ _ _ _ c.rows-rows.ensures.rows c.as_slice-slots.ensures c.requires _ record {
      stands = c.in-Some-first_double.ensures;
      first = passed_4 _ _ _ (c.if-not-slots_rise.ensures, chunks_rise) c.in_default.ensures c.in_default-first_uncovered.ensures;
    }

pub returns-in-Some-first_late-clause-verdict : goal.returns-in-Some-first_late-clause-verdict
returns-in-Some-first_late-clause-verdict c =
    let chunks_rise = subst ChunksRise c.as_slice.ensures c.if-not-chunks_rise.ensures in
    let single = single_in _ _ _ c.requires c.in_default-first_double.ensures in
    verdict_of _ _ _ _ _ _ c.rows-rows.ensures.rows c.as_slice-slots.ensures refl _ record {
      stands = c.in-Some-first_late.ensures;
      first = passed_5 _ _ _ (c.if-not-slots_rise.ensures, chunks_rise) c.in_default.ensures c.in_default-first_uncovered.ensures single;
    }

pub returns-then-not-certifies-clause-verdict : goal.returns-then-not-certifies-clause-verdict
returns-then-not-certifies-clause-verdict c =
    let chunks_rise = subst ChunksRise c.as_slice.ensures c.if-not-chunks_rise.ensures in
    let single = single_in _ _ _ c.requires c.in_default-first_double.ensures in
    verdict_of _ _ _ _ _ _ c.rows-rows.ensures.rows c.as_slice-slots.ensures refl _ record {
      stands = c.if-not-certifies.ensures;
      first = passed_6 _ _ _ (c.if-not-slots_rise.ensures, chunks_rise) c.in_default.ensures c.in_default-first_uncovered.ensures single c.in_default-first_late.ensures;
    }

pub returns : goal.returns
returns c =
    let certified = certified_of _ _ _ _ _ _ c.rows-rows.ensures.rows c.as_slice-slots.ensures refl record {
      rising = c.if-not-slots_rise.ensures;
      certificate_rising = subst ChunksRise c.as_slice.ensures c.if-not-chunks_rise.ensures;
      allowed = c.in_default.ensures;
      covered = c.in_default-first_uncovered.ensures;
      single = single_in _ _ _ c.requires c.in_default-first_double.ensures;
      in_time = c.in_default-first_late.ensures;
      certified = c.if-not-certifies.ensures;
    } in
    record {
      verdict = record { stands = tt; first = none_of _ _ _ certified };
      certified = λ same. certified;
      least = λ same. certified_least _ _ _ c.rows-rows.ensures.rising certified;
    }
