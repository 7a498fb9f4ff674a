-- Options that are taken, or not.
use Rattle.std.proofs.Common.{◌≡◌, ◌≢◌, ℕ, ◌<◌, ◌≤◌, List, ◌++◌, length, take, refl, sym, ap, ◌∙◌, arith, inl, inr}
use Rattle.std.proofs.lemmas.List.{length-take-le}
use Rattle.md_nbd.specs.Options.{longest_body, option_bytes, option_head}
use Rattle.md_streams.specs.declared.source.Source.{Ghosts as Sources}
use Rattle.md_streams.specs.Source.{Gives}
use Rattle.md_streams.specs.FrontFilled.{FillsFrontOf}
use Rattle.md_nbd.specs.Server.OptionsTaken.{EndsWithinOption, GivesNoOption, GivesTooLongOption, TakesOption}
use Rattle.md_streams.proofs.Fronts.{gives_both}
use Rattle.md_nbd.proofs.ServerLemmas.RequestsEnded.{head_given}

pub ends_in_option_head : {I : Type 0} (i : Sources I) (old new : I) (buf : List ℕ) (n : ℕ) → n ≢ 0 → n < 16 → length buf ≡ 16 → FillsFrontOf i old new buf n → EndsWithinOption i old new
ends_in_option_head i old new buf n some few whole f =
    let len : length (take n buf) ≡ n = length-take-le n buf f.few in
    record { bytes = take n buf; part = inl (omega (arith, len, some), omega (arith, len)); gives = f.gives; end = f.end (omega arith) }

pub no_option : {I : Type 0} (i : Sources I) (old new : I) (buf : List ℕ) (n : ℕ) → 16 ≤ n → length buf ≡ 16 → FillsFrontOf i old new buf n
    → ((option size : ℕ) → buf ≡ option_head option size → ⊥) → GivesNoOption i old new
no_option i old new buf n all whole f none = record { bytes = buf; whole = whole; none = none; gives = head_given i old new buf n 16 all whole f }

pub option_given : {I : Type 0} (i : Sources I) (old new : I) (buf : List ℕ) (n option size : ℕ) → 16 ≤ n → length buf ≡ 16 → FillsFrontOf i old new buf n → buf ≡ option_head option size
    → Gives i.remaining i.failed old new (option_head option size)
option_given i old new buf n option size all whole f is = rw (← is) (head_given i old new buf n 16 all whole f)

pub too_long_option : {I : Type 0} (i : Sources I) (old new : I) (buf : List ℕ) (n option size : ℕ) → 16 ≤ n → length buf ≡ 16 → FillsFrontOf i old new buf n → buf ≡ option_head option size → longest_body < size → GivesTooLongOption i old new
too_long_option i old new buf n option size all whole f is long = record { option = option; size = size; long = long; gives = option_given i old new buf n option size all whole f is }

pub ends_in_body : {I : Type 0} (i : Sources I) (old mid new : I) (buf body : List ℕ) (n k option size : ℕ) → 16 ≤ n → length buf ≡ 16 → FillsFrontOf i old mid buf n → buf ≡ option_head option size
    → FillsFrontOf i mid new body k → length body ≡ size → k < size → EndsWithinOption i old new
ends_in_body i old mid new buf body n k option size all whole f is g length_is few =
    let len : length (take k body) ≡ k = length-take-le k body g.few in
    record {
      bytes = option_head option size ++ take k body;
      part = inr (option, size, take k body, refl, omega (arith, len));
      gives = gives_both i.remaining i.failed old mid new (option_head option size) (take k body) (option_given i old mid buf n option size all whole f is) g.gives;
      end = g.end (omega arith);
    }

pub takes_option : {I : Type 0} (i : Sources I) (old mid new : I) (buf body room : List ℕ) (n k option size : ℕ) → 16 ≤ n → length buf ≡ 16 → FillsFrontOf i old mid buf n → buf ≡ option_head option size
    → FillsFrontOf i mid new body k → length body ≡ size → size ≤ k → body ≡ take size room → size ≤ length room → TakesOption i old new room (option, size)
takes_option i old mid new buf body room n k option size all whole f is g length_is full front fits =
    let both = gives_both i.remaining i.failed old mid new (option_head option size) body (option_given i old mid buf n option size all whole f is) (head_given i mid new body k size full length_is g) in
    let e : option_head option size ++ body ≡ option_bytes option (take size room) = ap (λ (t : List ℕ). option_head option size ++ t) front ∙ ap (λ (m : ℕ). option_head option m ++ take size room) (sym (length-take-le size room fits)) in
    record { room = fits; gives = rw (← e) both }
