use Rattle.std.proofs.lemmas.Result.{err_from_is_err_and}
use Rattle.md_super.proofs.Order.{fault_is_first, no_fault_found, memory_is_last, sound_without_fault}
use Rattle.md_super.proofs.decoding.decode.Goals as goal

pub read_fields-requires : goal.read_fields-requires
read_fields-requires c = sound_without_fault c.args.bytes.now (no_fault_found c.args.bytes.now c.first_fault.result c.first_fault.ensures c.in-None.is)

pub returns-in_err-read_fields-in-None-clause-refused :
    goal.returns-in_err-read_fields-in-None-clause-refused
returns-in_err-read_fields-in-None-clause-refused c =
    let p = err_from_is_err_and c.from_residual.result c.from_residual.ensures.1 in
    rw (p.1, p.2) (memory_is_last c.args.bytes.now c.first_fault.result c.first_fault.ensures c.in-None.is)

pub returns-in-Some-clause-refused : goal.returns-in-Some-clause-refused
returns-in-Some-clause-refused c = fault_is_first c.args.bytes.now c.first_fault.result c.in-Some.fault c.first_fault.ensures c.in-Some.is

pub returns-in_ok-read_fields-in-None-clause-sound :
    goal.returns-in_ok-read_fields-in-None-clause-sound
returns-in_ok-read_fields-in-None-clause-sound c = no_fault_found c.args.bytes.now c.first_fault.result c.first_fault.ensures c.in-None.is
