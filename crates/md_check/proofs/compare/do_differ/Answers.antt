use Rattle.std.proofs.Common.{◌≡◌, true}
use Rattle.md_check.proofs.WindowCompared.{not_so}
use Rattle.md_check.proofs.compare.do_differ.Goals as goal

pub returns-then-not-shows : goal.returns-then-not-shows
returns-then-not-shows g c = (λ e. absurd cc, λ d. absurd (let yes = c.shows.ensures.1 d.0 in let no = c.if-not-shows.true in cc))

pub returns-then-not-shows-2 : goal.returns-then-not-shows-2
returns-then-not-shows-2 g c = (λ e. absurd cc, λ d. absurd (let yes = c.shows-2.ensures.1 d.1 in let no = c.if-not-shows-2.true in cc))

pub returns : goal.returns
returns g c =
    let first : c.shows.result ≡ true = let no = c.if-not-shows.false in cc in
    let second : c.shows-2.result ≡ true = let no = c.if-not-shows-2.false in cc in (
      λ e. (c.shows.ensures.0 first, c.shows-2.ensures.0 second, λ same. (let yes = c.is_same.ensures.1 same in absurd cc)),
      λ d. not_so c.is_same.result (λ yes. d.2 (c.is_same.ensures.0 yes)),
    )
