use Rattle.std.proofs.Common.{◌≡◌, ◌+◌, ◌<◌, ℕ, List, [], length, get_or, None, Some, refl, subst, arith}
use Rattle.std.specs.List.{All}
use Rattle.md_check.specs.declared.reader.Reader.{Reader}
use Rattle.md_check.specs.Differences.{AddsCompared, AreCompared}
use Rattle.md_check.specs.Readers.{ReaderShows, in_window, on_device}
use Rattle.md_check.proofs.Compared.{compared_after, compared_keeps, compared_none, pairs_stay}
use Rattle.md_check.proofs.WindowsRead.{from_device, from_window, misses_in, none_read}
use Rattle.md_check.proofs.lent.check_first.Goals as goal

pub returns-in-Some-clause-missed : goal.returns-in-Some-clause-missed
returns-in-Some-clause-missed g c =
    let firsts = c.args.readers.now.items in
    let news = c.first_turn.new.readers.items in
    let missed = c.in-Some.missed in
    let noted = subst (λ (xs : List (Reader _)). (missed.member < length xs) × ((d : Reader _) → (get_or xs missed.member d).missed ≡ Some missed.chunk) × ((k : ℕ) (d : Reader _) → k < missed.member → (get_or xs k d).missed ≡ None)) c.as_slice.ensures.value c.in-Some.ensures in
    misses_in firsts firsts news missed (none_read firsts) (λ k d below. refl) c.first_turn.ensures.len c.first_turn.ensures.turned noted.0 noted.1 noted.2

pub compare_window-requires-clause-size : goal.compare_window-requires-clause-size
compare_window-requires-clause-size g c = rw c.as_slice-2.ensures.value (λ k d below. (c.first_turn.ensures.turned k d (let len = c.first_turn.ensures.len in omega arith)).size)

pub returns-in-Some-clause-kept : goal.returns-in-Some-clause-kept
returns-in-Some-clause-kept g c = pairs_stay c.args.found.now

pub returns-clause-kept : goal.returns-clause-kept
returns-clause-kept g c = compared_keeps (ReaderShows (in_window [] 0) c.as_slice-2.result.now) c.args.chunks 0 (0 + c.args.sectors) c.args.found.now c.compare_window.new.found c.compare_window.ensures

pub returns-clause-compared : goal.returns-clause-compared
returns-clause-compared g c = λ honest.
    let firsts = c.args.readers.now.items in
    let news = c.first_turn.new.readers.items in
    let sectors = c.args.sectors in
    let old = c.args.found.now in
    let new = c.compare_window.new.found in
    let adds : AddsCompared (ReaderShows (in_window [] 0) news) c.args.chunks 0 (0 + sectors) old new
    = subst (λ (xs : List (Reader _)). AddsCompared (ReaderShows (in_window [] 0) xs) c.args.chunks 0 (0 + sectors) old new) c.as_slice-2.ensures.value c.compare_window.ensures in
    let none : All (λ (s : Reader _). s.missed ≡ None) news = subst (λ (xs : List (Reader _)). All (λ (s : Reader _). s.missed ≡ None) xs) c.as_slice.ensures.value c.in_default.ensures in
    let end : 0 + sectors ≡ sectors = omega arith in
    subst (λ n. AreCompared (ReaderShows (on_device g.D.Device) firsts) c.args.chunks n new) end
    (compared_after (ReaderShows (on_device g.D.Device) firsts) (ReaderShows (in_window [] 0) news) c.args.chunks 0 (0 + sectors) old new (omega arith)
    (compared_none (ReaderShows (on_device g.D.Device) firsts) c.args.chunks old c.requires.none) adds
    (λ s up below k bytes. from_device [] 0 sectors firsts firsts news (none_read firsts) c.first_turn.ensures.len c.first_turn.ensures.turned none honest s up below k bytes)
    (λ s up below k bytes. from_window [] 0 sectors firsts firsts news (none_read firsts) c.first_turn.ensures.len c.first_turn.ensures.turned none honest s up below k bytes))

pub returns-clause-told : goal.returns-clause-told
returns-clause-told g c =
    let none : All (λ (s : Reader _). s.missed ≡ None) c.first_turn.new.readers.items = subst (λ (xs : List (Reader _)). All (λ (s : Reader _). s.missed ≡ None) xs) c.as_slice.ensures.value c.in_default.ensures in
    λ k d below. c.first_turn.ensures.told k d below (none k d (let len = c.first_turn.ensures.len in omega arith))
