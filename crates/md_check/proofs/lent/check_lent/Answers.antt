use Rattle.std.proofs.Common.{◌≡◌, ◌∙◌, ◌+◌, ◌*◌, ◌/◌, ◌<◌, ◌≤◌, ℕ, List, length, take, get_or, min, None, Some, inl, inr, refl, ap, sym, subst, arith, vec_len}
use Rattle.std.proofs.lemmas.List.{length-take-le}
use Rattle.std.specs.List.{All}
use Rattle.md_check.specs.declared.reader.Reader.{Reader}
use Rattle.md_check.specs.Differences.{AddsCompared, AreCompared}
use Rattle.md_check.specs.Readings.{HasLed, HasTurned, IsLead}
use Rattle.md_check.specs.Readers.{AreReadersRead, HaveNotFailed, ReaderShows, in_window, on_device}
use Rattle.md_check.specs.Told.{IsToldOfReader}
use Rattle.md_check.proofs.Compared.{compared_after, compared_keeps, pairs_stay_then, same_or_other, still_sized}
use Rattle.md_check.proofs.LedAhead.{lead_room_after, next_lead, read_exchanged, rooms_exchanged, same_but_bytes, unfailing_exchanged}
use Rattle.md_check.proofs.LentSlices.{comes_back}
use Rattle.md_check.proofs.SectorsTold.{reader_told_then, told_before}
use Rattle.md_check.proofs.WindowsRead.{from_device, from_window, misses_in, read_here_still, turn_read, turn_unfailing}
use Rattle.md_check.proofs.lent.check_lent.Goals as goal

pub loop-from-init : goal.loop-from-init
loop-from-init g c =
    let least = c.min-from.ensures in
    let read = c.check_first.ensures.read in
    let many = read.as_many in
    record {
      few = omega arith;
      short = omega arith;
      read = read;
      unfailing = c.in_ok-check_first.ensures.unfailing;
      room = λ k d below. let long = c.check_first.ensures.long k d (omega arith) in let r = c.requires.room k d (omega arith) in omega arith;
      lead_room = c.requires.lead;
      lead = λ k d below same reads honest i low unlisted. absurd (let none : length (take (512 * 0) c.args.lead.now.items) ≡ 512 * 0 = length-take-le (512 * 0) c.args.lead.now.items (omega arith) in omega arith);
      kept = c.check_first.ensures.kept;
      compared = c.in_ok-check_first.ensures.compared;
      told = c.in_ok-check_first.ensures.told;
      told_ahead = λ k d below first.
          let same : c.min-from.result ≡ c.min-from.result + 0 = omega arith in
          subst (λ n. IsToldOfReader g.G.Gate c.args.gate.now c.args.chunks 0 n (get_or c.args.readers.now.items k d)) same (c.in_ok-check_first.ensures.told k d below);
    }

pub turn-requires-clause-lead : goal.turn-requires-clause-lead
turn-requires-clause-lead g c κs within = λ k d below same.
    subst (λ (xs : List ℕ). IsLead g.D.Device c.loop-from.from (take (512 * c.loop-from.sectors) xs) (get_or c.loop-from.readers.items k d)) (sym c.as_slice-in-loop-from.ensures.value)
    (c.loop-from.invariant.lead k d below same)

pub turn-requires-clause-read_here : goal.turn-requires-clause-read_here
turn-requires-clause-read_here g c κs within = read_here_still c.args.chunks c.args.readers.now.items c.loop-from.readers.items c.loop-from.invariant.read c.requires.read_here

pub turn-requires-clause-room : goal.turn-requires-clause-room
turn-requires-clause-room g c κs within = λ k d below.
    let inv = c.loop-from.invariant in
    let few = inv.few in
    let short = inv.short in
    let lead_room = inv.lead_room in
    let sectors = c.loop-from.sectors in
    let whole = c.as_slice-in-loop-from.result.now in
    let same = ap length c.as_slice-in-loop-from.ensures.value in
    let many : length (take (512 * sectors) whole) ≡ 512 * sectors = length-take-le (512 * sectors) whole (omega arith) in
    let room = inv.room k d below in
    omega arith

pub turn-requires-clause-ahead : goal.turn-requires-clause-ahead
turn-requires-clause-ahead g c κs within = λ k d below.
    let room = c.loop-from.invariant.room k d below in
    let few = c.loop-from.invariant.few in
    let least = c.min-ahead.ensures in
    omega arith

pub compare_window-requires-clause-size : goal.compare_window-requires-clause-size
compare_window-requires-clause-size g c =
    let inv = c.loop-from.invariant in
    let few = inv.few in
    let short = inv.short in
    let lead_room = inv.lead_room in
    let sectors = c.loop-from.sectors in
    let whole = c.as_slice-in-loop-from.result.now in
    let same = ap length c.as_slice-in-loop-from.ensures.value in
    let bytes = take (512 * sectors) whole in
    let many : length bytes ≡ 512 * sectors = length-take-le (512 * sectors) whole (omega arith) in
    rw c.as_slice-in-loop-from-3.ensures.value (λ k d below. let size = (c.turn.ensures.turned k d (let len = c.turn.ensures.len in omega arith)).size in omega arith)

pub compare_window-requires-clause-sized : goal.compare_window-requires-clause-sized
compare_window-requires-clause-sized g c = still_sized c.args.chunks c.args.found.now c.loop-from.found c.loop-from.invariant.kept c.requires.sized

pub returns-in-Some : goal.returns-in-Some
returns-in-Some g c =
    let inv = c.loop-from.invariant in
    let firsts = c.args.readers.now.items in
    let olds = c.loop-from.readers.items in
    let news = c.turn.new.readers.items in
    let missed = c.in-Some.missed in
    let noted = subst (λ (xs : List (Reader _)). (missed.member < length xs) × ((d : Reader _) → (get_or xs missed.member d).missed ≡ Some missed.chunk) × ((k : ℕ) (d : Reader _) → k < missed.member → (get_or xs k d).missed ≡ None)) c.as_slice-in-loop-from-2.ensures.value c.in-Some.ensures in
    record {
      kept = inv.kept;
      compared = tt;
      unfailing = tt;
      missed = misses_in firsts olds news missed inv.read inv.unfailing c.turn.ensures.len c.turn.ensures.turned noted.0 noted.1 noted.2;
      read = turn_read firsts olds news inv.read c.turn.ensures.len c.turn.ensures.turned;
      told = tt;
    }

pub loop-from-preserved : goal.loop-from-preserved
loop-from-preserved g c =
    let inv = c.loop-from.invariant in
    let firsts = c.args.readers.now.items in
    let olds = c.loop-from.readers.items in
    let mids = c.turn.new.readers.items in
    let news = c.exchange.new.readers in
    let from = c.loop-from.from in
    let sectors = c.loop-from.sectors in
    let ahead = c.min-ahead.result in
    let least = c.min-ahead.ensures in
    let test = c.loop-from-test.true in
    let few = inv.few in
    let short = inv.short in
    let lead = c.loop-from.lead.items in
    let lead_room = inv.lead_room in
    let whole = c.as_slice-in-loop-from.result.now in
    let bytes = take (512 * sectors) whole in
    let same_len = ap length c.as_slice-in-loop-from.ensures.value in
    let many : length bytes ≡ 512 * sectors = length-take-le (512 * sectors) whole (omega arith) in
    let n : length bytes / 512 ≡ sectors = omega arith in
    let lent = c.as_mut_slice.ensures in
    let len = c.turn.ensures.len in
    let turned : (k : ℕ) (d : Reader _) → k < length olds → HasTurned g.D.Device c.args.chunks from (length bytes / 512) (length bytes / 512 + ahead) bytes (get_or olds k d) (get_or mids k d) = c.turn.ensures.turned in
    let as_many = inv.read.as_many in
    let news_len : length news ≡ length mids = c.exchange.ensures.len ∙ ap length lent.value in
    let back = comes_back (vec_len c.turn.new.readers) mids news (sym lent.len ∙ ap length lent.value) news_len in
    let none : All (λ (s : Reader _). s.missed ≡ None) mids = subst (λ (xs : List (Reader _)). All (λ (s : Reader _). s.missed ≡ None) xs) c.as_slice-in-loop-from-2.ensures.value c.in_default.ensures in
    let first = c.unwrap_or-first.result in
    let here = subst (λ (xs : List (Reader _)). (k : ℕ) (d : Reader _) → k < length xs → k ≡ first → (get_or news k d ≡ record (get_or xs k d) { bytes = c.loop-from.lead }) × (c.exchange.new.lead ≡ (get_or xs k d).bytes)) lent.value c.exchange.ensures.first in
    let others = subst (λ (xs : List (Reader _)). (k : ℕ) (d : Reader _) → k < length xs → (k ≡ first → ⊥) → get_or news k d ≡ get_or xs k d) lent.value c.exchange.ensures.others in
    let same = same_but_bytes mids news first (λ k d below is. let e = (here k d below is).0 in e ∙ ap (λ (s : Reader _). record (get_or mids k d) { bytes = s.bytes }) (sym e)) others in
    let read = turn_read firsts olds mids inv.read len turned in
    let adds : AddsCompared (ReaderShows (in_window bytes from) mids) c.args.chunks from (from + sectors) c.loop-from.found c.compare_window.new.found
    = subst (λ (xs : List (Reader _)). AddsCompared (ReaderShows (in_window bytes from) xs) c.args.chunks from (from + sectors) c.loop-from.found c.compare_window.new.found) c.as_slice-in-loop-from-3.ensures.value c.compare_window.ensures in
    let rooms : (k : ℕ) (d : Reader _) → k < length mids → 512 * min 4096 c.args.chunks.size ≤ length (get_or mids k d).bytes.items
    = λ k d below. let long = (turned k d (omega arith)).long in let r = inv.room k d (omega arith) in omega arith in
    record {
      few = omega arith;
      short = omega arith;
      read = subst (λ (xs : List (Reader _)). AreReadersRead g.D.Device firsts xs) (sym back) (read_exchanged firsts mids news read news_len same);
      unfailing = subst (λ (xs : List (Reader _)). HaveNotFailed g.D.Device (length firsts) firsts xs) (sym back)
          (unfailing_exchanged g.D.Device (length firsts) firsts mids news (omega arith) (turn_unfailing (length firsts) firsts olds mids (omega arith) turned (λ k d below. none k d (omega arith)) inv.unfailing) same);
      room = subst (λ (xs : List (Reader _)). All (λ (s : Reader _). 512 * min 4096 c.args.chunks.size ≤ length s.bytes.items) xs) (sym back)
          (rooms_exchanged (512 * min 4096 c.args.chunks.size) mids news first lead news_len lead_room rooms
          (λ k d below is. ap (λ (s : Reader _). s.bytes.items) (here k d below is).0) others);
      lead_room = lead_room_after (512 * min 4096 c.args.chunks.size) mids first lead c.exchange.new.lead.items lead_room rooms (λ k d below is. ap (λ v. v.items) (here k d below is).1)
          (λ past. ap (λ v. v.items) (c.exchange.ensures.none (let l = ap length lent.value in omega arith)));
      lead = subst (λ (xs : List (Reader _)). (k : ℕ) (d : Reader _) → k < length xs → k ≡ first → IsLead g.D.Device (from + sectors) (take (512 * ahead) c.exchange.new.lead.items) (get_or xs k d)) (sym back)
          (λ k d below is.
          let low : k < length mids = omega arith in
          let at : k < length olds = omega arith in
          let h = here k d low is in
          let r = rooms k d low in
          next_lead (get_or olds k d) (get_or mids k d) (get_or news k d) (from + sectors) ahead (turned k d at).read
          (subst (λ m. HasLed g.D.Device (from + m) ahead (get_or olds k d) (get_or mids k d)) n (c.turn.ensures.led k d at is))
          (none k d low) c.exchange.new.lead.items (ap (λ v. v.items) h.1) (let e = ap (λ v. length v.items) h.1 in omega arith)
          (ap (λ (s : Reader _). s.device) h.0) (ap (λ (s : Reader _). s.role) h.0) (ap (λ (s : Reader _). s.offset) h.0) (ap (λ (s : Reader _). s.listed) h.0));
      kept = pairs_stay_then c.args.found.now c.loop-from.found c.compare_window.new.found inv.kept (compared_keeps (ReaderShows (in_window bytes from) mids) c.args.chunks from (from + sectors) c.loop-from.found c.compare_window.new.found adds);
      compared = λ honest. compared_after (ReaderShows (on_device g.D.Device) firsts) (ReaderShows (in_window bytes from) mids) c.args.chunks from (from + sectors) c.loop-from.found c.compare_window.new.found (omega arith) (inv.compared honest) adds
          (λ s up below k shown. from_device bytes from (length bytes / 512) firsts olds mids inv.read len turned none honest s up (omega arith) k shown)
          (λ s up below k shown. from_window bytes from (length bytes / 512) firsts olds mids inv.read len turned none honest s up (omega arith) k shown);
      told = λ k d below.
          elim (same_or_other k first) [
            | inl same ↦ inv.told_ahead k d below same
            | inr other ↦
                let at : k < length olds = omega arith in
                reader_told_then g.G.Gate c.args.gate.now c.args.chunks 0 from from (length bytes / 512) (from + sectors) (get_or firsts k d) (omega arith) (omega arith) (inv.told k d below)
                (told_before g.G.Gate c.args.gate.now c.args.chunks from (length bytes / 512) (get_or firsts k d) (get_or olds k d) (inv.read.each k d below) (c.turn.ensures.told k d at other (none k d (omega arith))))
          ];
      told_ahead = λ k d below same.
          let at : k < length olds = omega arith in
          let next : ℕ = from + length bytes / 512 in
          reader_told_then g.G.Gate c.args.gate.now c.args.chunks 0 (from + sectors) next ahead (from + sectors + ahead) (get_or firsts k d) (omega arith) refl (inv.told_ahead k d below same)
          (told_before g.G.Gate c.args.gate.now c.args.chunks next ahead (get_or firsts k d) (get_or olds k d) (inv.read.each k d below) (c.turn.ensures.told_ahead k d at same (none k d (omega arith))));
    }

pub returns : goal.returns
returns g c =
    let inv = c.loop-from.invariant in
    let few = inv.few in
    let past = c.loop-from-test.false in
    let end : c.loop-from.from ≡ c.args.chunks.size = omega arith in
    record {
      kept = inv.kept;
      compared = λ honest. subst (λ n. AreCompared (ReaderShows (on_device g.D.Device) c.args.readers.now.items) c.args.chunks n c.loop-from.found) end (inv.compared honest);
      unfailing = inv.unfailing;
      missed = tt;
      read = inv.read;
      told = subst (λ n. All (λ (s : Reader _). IsToldOfReader g.G.Gate c.args.gate.now c.args.chunks 0 n s) c.args.readers.now.items) end inv.told;
    }
