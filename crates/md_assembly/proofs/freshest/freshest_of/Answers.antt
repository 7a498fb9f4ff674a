use Rattle.std.proofs.Common.{◌≡◌, ◌∙◌, false, get_or, subst, sym}
use Rattle.std.proofs.lemmas.List.Quantifiers.{position-Some}
use Rattle.std.proofs.lemmas.Option.{get_or_from_slice_get, slice_get-get_or, slice_get_within}
use Rattle.md_super.specs.declared.superblock.Superblock.{Superblock}
use Rattle.md_members.specs.declared.info.MemberInfo.{MemberInfo}
use Rattle.md_assembly.specs.Assembled.{IsFirstFreshest, superblocks}
use Rattle.md_assembly.proofs.Freshness.{all_disputed, first_freshest_at, first_undisputed, fits}
use Rattle.md_assembly.proofs.Places.{missed}
use Rattle.md_assembly.proofs.freshest.freshest_of.Goals as goal

pub returns-in-Some-clause-freshest : goal.returns-in-Some-clause-freshest
returns-in-Some-clause-freshest c =
    let members = c.args.members.now in
    let i = c.first_with_most-first.result in
    let most = c.first_with_most-first.ensures in
    let m = get_or members i c.index-members-first.result in
    let f = first_freshest_at members i m most.freshest.0 (slice_get-get_or members i c.index-members-first.result most.within) most.freshest.1 in
    let k = c.in-Some.k in
    let at = position-Some (fits members m.superblock) members k m (sym c.first_undisputed.ensures ∙ c.in-Some.is) in
    let chosen = get_or members k m in (
      chosen.superblock,
      first_undisputed members i m.superblock f k chosen (slice_get-get_or members k m at.0) at.1
          (λ j other less there. subst (λ (x : MemberInfo). fits members m.superblock x ≡ false) (get_or_from_slice_get members j other m there) (at.2 j less)),
    )

pub returns-in-None-clause-freshest : goal.returns-in-None-clause-freshest
returns-in-None-clause-freshest c =
    let members = c.args.members.now in
    let i = c.first_with_most-first.result in
    let most = c.first_with_most-first.ensures in
    let m = get_or members i c.index-members-first.result in
    let f = first_freshest_at members i m most.freshest.0 (slice_get-get_or members i c.index-members-first.result most.within) most.freshest.1 in
    let none = missed (fits members m.superblock) members c.first_undisputed.result c.first_undisputed.ensures c.in-None.is in (
      m.superblock,
      all_disputed members i m.superblock f
          (λ j other there. subst (λ (x : MemberInfo). fits members m.superblock x ≡ false) (get_or_from_slice_get members j other m there) (none j m (slice_get_within members j other there))),
    )
