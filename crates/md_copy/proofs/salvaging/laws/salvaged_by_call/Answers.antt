use Rattle.md_copy.proofs.SalvageLaws.NotSalvaged.{not_salvaged_by}
use Rattle.md_copy.proofs.SalvageLaws.SalvagedByCall.{has_salvaged}
use Rattle.md_copy.proofs.salvaging.laws.salvaged_by_call.Goals as goal

pub returns-clause-done : goal.returns-clause-done
returns-clause-done c = has_salvaged

pub returns-clause-refused : goal.returns-clause-refused
returns-clause-refused c = not_salvaged_by
