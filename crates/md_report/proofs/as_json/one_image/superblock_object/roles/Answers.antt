use Rattle.std.proofs.Common.{ℕ, List, subst, codes}
use Rattle.json.specs.Print.{quoted}
use Rattle.md_streams.specs.Sink.{PutsOrFails}
use Rattle.md_examine.proofs.Texts.{state_is}
use Rattle.md_report.specs.AsJson.Objects.{next_text}
use Rattle.md_report.proofs.as_json.one_image.superblock_object.roles.Goals as goal

pub returns : goal.returns
returns g c =
    let P : List ℕ → Type 0 = λ t. PutsOrFails g.S.Sink.contents g.S.Sink.failed c.args.out.now c.next_text.new.out (next_text (codes "array_state") (quoted t)) c.next_text.result in
    subst P (state_is c.args.v.now.roles c.state_letters-letters.result c.args.v.now.raid_disks c.args.v.now.in_profile.few_disks (c.state_letters-letters.ensures)) c.next_text.ensures
