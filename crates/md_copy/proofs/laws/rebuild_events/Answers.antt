use Rattle.md_copy.proofs.Leads.RebuildLeads.{rebuild_leads}
use Rattle.md_copy.proofs.Leads.RefusedLeads.{refused_leads, unadmitted_leads, unrecorded_leads}
use Rattle.md_copy.proofs.laws.rebuild_events.Goals as goal

pub returns : goal.returns
returns c = record {
  done = rebuild_leads;
  refused = refused_leads;
  unadmitted = unadmitted_leads;
  unrecorded = unrecorded_leads;
}
