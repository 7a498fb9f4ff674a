use Rattle.md_call_laws.proofs.CrashLemmas.Departed.{finds_out_since, leaves_out, stale_is_out, starts_since, stays_away, stays_out_next, stays_out_since}
use Rattle.md_call_laws.proofs.crashes.laws.departed_devices.Goals as goal

pub returns : goal.returns
returns c = record { leaves = leaves_out; stale = stale_is_out; stays = stays_out_since; away = stays_away; finds_out = finds_out_since; out_next = stays_out_next; starts = starts_since }
