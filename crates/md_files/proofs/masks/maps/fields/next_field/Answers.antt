use Rattle.std.proofs.Common.{arith}
use Rattle.md_files.proofs.MaskLemmas.MapLemmas.Words.{no_field, comment_at, field_at, rest_whole}
use Rattle.md_files.proofs.masks.maps.fields.next_field.Goals as goal

pub returns-in_default-clause-fields : goal.returns-in_default-clause-fields
returns-in_default-clause-fields c = no_field c.args.line.now (cc)

pub returns-then-line-eq35-clause-fields : goal.returns-then-line-eq35-clause-fields
returns-then-line-eq35-clause-fields c =
    comment_at c.args.line.now c.in-Some.start _ (cc) (rest_whole c.args.line.now c.in-Some.start) c.if-line-eq35.true

pub returns-clause-fields : goal.returns-clause-fields
returns-clause-fields c =
    (field_at c.args.line.now c.in-Some.start _ c.unwrap_or.result c.split_at.result.0.now c.split_at.result.1.now (cc) (rest_whole c.args.line.now c.in-Some.start) (cc) c.if-line-eq35.false c.split_at.ensures.front c.split_at.ensures.back).1

pub returns-clause-end : goal.returns-clause-end
returns-clause-end c =
    let some = (field_at c.args.line.now c.in-Some.start _ c.unwrap_or.result c.split_at.result.0.now c.split_at.result.1.now (cc) (rest_whole c.args.line.now c.in-Some.start) (cc) c.if-line-eq35.false c.split_at.ensures.front c.split_at.ensures.back).0 in
    λ empty. absurd (omega (arith, some, empty))
