use Rattle.md_laws.proofs.Openings.HalfOpened.{read_as_kept}
use Rattle.md_laws.proofs.Runs.Misread.{reads_recorded}
use Rattle.md_laws.proofs.Runs.MirrorContents as contents
use Rattle.md_laws.proofs.Runs.MirrorLives as lives
use Rattle.md_laws.proofs.Runs.Recovering.{content_along}
use Rattle.md_laws.proofs.laws.every_run.Goals as goal

pub returns : goal.returns
returns c = record {
  covered = lives.life_covered;
  at_crash = lives.life_safe;
  sound = lives.life_sound;
  agrees_unstored = lives.life_unstored;
  finds_in_sync = lives.finds_in_sync;
  finds_all = lives.finds_all;
  finds_out = lives.finds_out;
  keeps_out = lives.life_keeps_out;
  stays_out = lives.life_stays_out;
  has_content = contents.content_at_first;
  content_along = content_along;
  content_told = contents.content_told;
  keeps_content = contents.content_kept;
  read_as_kept = read_as_kept;
  reads_recorded = reads_recorded;
  keeps_geometry = lives.keeps_geometry;
}
