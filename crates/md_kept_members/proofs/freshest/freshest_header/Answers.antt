use Rattle.std.proofs.Common.{length, refl, ap, sym, subst}
use Rattle.std.proofs.lemmas.Option.{slice_get_read}
use Rattle.md_kept_members.specs.Spares.{IsOfFreshest}
use Rattle.md_kept_members.specs.View.{MemberView}
use Rattle.md_kept_members.proofs.Members.Freshest.{header_of_freshest}
use Rattle.md_kept_members.proofs.freshest.freshest_header.Goals as goal

pub returns : goal.returns
returns c =
    let members = c.args.members.now in
    let m = c.index-members-freshest_of.result in
    let i = c.freshest_of.result in
    let there = slice_get_read members (length members) i m refl c.freshest_of.ensures.within c.index-members-freshest_of.is in
    let f = c.freshest_of.ensures.freshest in
    subst (IsOfFreshest members) (sym (ap (λ (x : MemberView). x.header) c.freshest.view_is)) (header_of_freshest members i m f.0 there f.1)
