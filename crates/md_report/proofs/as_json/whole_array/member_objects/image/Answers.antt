use Rattle.std.proofs.Common.{ℕ, List, subst}
use Rattle.md_streams.specs.Sink.{PutsOrFails}
use Rattle.md_report.proofs.JsonLemmas.Members.{image_is}
use Rattle.md_report.proofs.as_json.whole_array.member_objects.image.Goals as goal

pub returns : goal.returns
returns g c =
    let P : List ℕ → Type 0 = λ t. PutsOrFails g.S.Sink.contents g.S.Sink.failed c.args.out.now c.word_or_null.new.out t c.word_or_null.result in
    subst P (image_is c.args.images.now c.args.index c.image_at.result c.image_at.ensures) c.word_or_null.ensures
