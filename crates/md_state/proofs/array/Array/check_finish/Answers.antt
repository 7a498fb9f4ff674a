use Rattle.std.proofs.Common.{◌∙◌, refl, sym, rules}
use Rattle.md_state.proofs.Members.FirstLacking.{all_recorded, all_reached, first_to_record, first_to_reach}
use Rattle.md_state.proofs.array.Array.check_finish.Goals as goal

pub returns-in-Some : goal.returns-in-Some
returns-in-Some c disks = record {
  unchanged = refl;
  reason = record { running = search rules; first = first_to_reach c.args.self.now c.args.pending.now c.in-Some.k (sym c.first_unwritten.ensures ∙ c.in-Some.is) };
}

pub returns-in-Some-first_due : goal.returns-in-Some-first_due
returns-in-Some-first_due c disks = record {
  unchanged = refl;
  reason = record {
    running = search rules;
    written = all_reached c.args.self.now c.args.pending.now (sym c.first_unwritten.ensures ∙ c.in_default.is);
    first = first_to_record c.args.self.now c.in-Some-first_due.k (sym c.first_due.ensures ∙ c.in-Some-first_due.is);
  };
}

pub returns : goal.returns
returns c disks = record {
  running = search rules;
  written = all_reached c.args.self.now c.args.pending.now (sym c.first_unwritten.ensures ∙ c.in_default.is);
  recorded = all_recorded c.args.self.now (sym c.first_due.ensures ∙ c.in_default-first_due.is);
}
