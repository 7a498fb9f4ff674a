use Rattle.std.proofs.Common.{ℕ, List, ◌∷◌, ◌++◌, codes, subst}
use Rattle.md_streams.specs.Sink.{Puts}
use Rattle.md_report.specs.AsJson.WholeArray.MemberObjects.{texts_of}
use Rattle.md_streams.proofs.Puts.{puts_then}
use Rattle.md_report.specs.AsJson.WholeArray.ArrayObjects.{members_fields}
use Rattle.md_report.specs.AsJson.Objects.{key_text, later_text, next_text}
use Rattle.md_report.proofs.JsonLemmas.Members.{members_are}
use Rattle.md_report.proofs.JsonLemmas.Texts.{puts_last}
use Rattle.md_report.proofs.as_json.whole_array.member_objects.members.Goals as goal

pub returns : goal.returns
unfolding later_text members_fields next_text
returns g c =
    let a = c.args.mirror.now.array in
    let P : List ℕ → Type 0 = λ t. Puts g.S.Sink.contents g.S.Sink.failed c.args.out.now c.put-2.new.self ((44 ∷ key_text (codes "members")) ++ (91 ∷ t)) in
    puts_last g.S.Sink.contents g.S.Sink.failed (subst P (members_are a (texts_of c.args.images.now) 0 a.members)
    (puts_then g.S.Sink.contents g.S.Sink.failed c.in_ok-next_key.ensures (puts_then g.S.Sink.contents g.S.Sink.failed c.in_ok-put.ensures (puts_then g.S.Sink.contents g.S.Sink.failed c.in_ok-member_items.ensures c.in_ok-put-2.ensures))))
