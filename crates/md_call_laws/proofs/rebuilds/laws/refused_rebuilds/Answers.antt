use Rattle.md_call_laws.proofs.RebuildLemmas.RefusedRebuilds.{lost_is_a_run, refused_is_a_run, crashes_leaving, crashes_leaving_anyhow, crashes_leaving_lost, crashes_leaving_lost_anyhow, crashes_unleft, crashes_unleft_lost}
use Rattle.md_call_laws.proofs.rebuilds.laws.refused_rebuilds.Goals as goal

pub returns : goal.returns
returns c = record {
  runs = refused_is_a_run;
  leaving = crashes_leaving;
  unleft = crashes_unleft;
  lost = lost_is_a_run;
  leaving_lost = crashes_leaving_lost;
  unleft_lost = crashes_unleft_lost;
  leaving_anyhow = crashes_leaving_anyhow;
  leaving_lost_anyhow = crashes_leaving_lost_anyhow;
}
