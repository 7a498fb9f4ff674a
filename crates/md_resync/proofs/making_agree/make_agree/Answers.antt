use Rattle.std.proofs.Common.{◌≡◌, false, true}
use Rattle.std.proofs.lemmas.Result.{MatchResult-weaker}
use Rattle.md_resync.proofs.Agreeing.{agrees_alone, agrees_copied}
use Rattle.md_resync.proofs.making_agree.make_agree.Goals as goal

pub returns-then-not-has_two_in_sync : goal.returns-then-not-has_two_in_sync
returns-then-not-has_two_in_sync g c =
    let out = c.if-not-has_two_in_sync.true in
    let none : c.has_two_in_sync.result ≡ false = cc in
    agrees_alone c.args.mirror.now c.requires.may.idle c.requires.sound (c.has_two_in_sync.ensures.one none)

pub returns : goal.returns
returns g c =
    let yes = c.if-not-has_two_in_sync.false in
    let both : c.has_two_in_sync.result ≡ true = cc in
    let two = c.has_two_in_sync.ensures.two both in
    MatchResult-weaker c.copy_marked.result c.copy_marked.ensures (λ _. agrees_copied c.args.mirror.now c.copy_marked.new.mirror c.requires.may.idle two)
    (λ _ fails. record { two = two; copying = fails })
