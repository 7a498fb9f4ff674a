-- Options, as they are taken and answered one after another.
use Rattle.std.proofs.Common.{◌≡◌, ℕ, ◌+◌, ◌-◌, ◌^◌, Bool, List, [], ◌∷◌, ◌++◌, length, length-append, take, refl, sym, ap, ◌∙◌, append_assoc, arith, true}
use Rattle.std.specs.List.{flat_map, AllByRecursion}
use Rattle.std.proofs.lemmas.List.{append-nil}
use Rattle.md_nbd.specs.declared.export.Export.{Export}
use Rattle.md_nbd.specs.declared.haggling.Next.{Next}
use Rattle.md_nbd.specs.declared.haggling.Next.TheVariants as after
use Rattle.md_nbd.specs.Haggling.{Asked, answer_to_asked, asked_bytes, next_after_asked}
use Rattle.md_streams.specs.declared.source.Source.{Ghosts as Sources}
use Rattle.md_streams.specs.declared.sink.Sink.{Ghosts as Sinks}
use Rattle.md_nbd.specs.declared.server.agreement.Haggled.{Haggled}
use Rattle.md_nbd.specs.declared.server.agreement.Haggled.TheVariants as haggled
use Rattle.md_nbd.specs.declared.server.session_fault.SessionFault.{SessionFault}
use Rattle.md_nbd.specs.declared.server.session_fault.SessionFault.TheVariants as fault
use Rattle.md_nbd.specs.Server.OptionsTaken.{GivesOptionNone, TakesOption}
use Rattle.md_nbd.specs.Server.OptionsAnswered.{AnswersLast, BreaksHaggling, EndsHaggling, FailsHaggling, FailsToAnswer, Haggles, HasHaggled, PutsAnswer}
use Rattle.md_streams.proofs.Fronts.{gives_both}
use Rattle.md_nbd.proofs.ServerLemmas.Pieces.{gives_nothing}
use Rattle.md_nbd.proofs.ServerLemmas.ToldReplies.{puts_both, puts_nothing}

one_more : (f : Asked → List ℕ) (xs : List Asked) (x : Asked) → flat_map f (xs ++ x ∷ []) ≡ flat_map f xs ++ f x
one_more f [] x = append-nil (f x)
one_more f (y ∷ xs) x = ap (λ (t : List ℕ). f y ++ t) (one_more f xs x) ∙ sym (append_assoc (f y) (flat_map f xs) (f x))

also : (P : Asked → Type 0) (xs : List Asked) (x : Asked) → AllByRecursion P xs → P x → AllByRecursion P (xs ++ x ∷ [])
also P [] x h p = (p, tt)
also P (y ∷ xs) x h p = (h.0, also P xs x h.1 p)

pub record SoManyOptions {I O : Type 0} (i : Sources I) (o : Sinks O) (e : Export) (z : Bool) (count : ℕ) (from to : I) (was now : O) : Type 0 where
  pub asked : List Asked
  pub count_is : length asked ≡ count
  pub answered : HasHaggled i o e z asked from to was now

pub no_options : {I O : Type 0} (i : Sources I) (o : Sinks O) (e : Export) (z : Bool) (from : I) (was : O) → SoManyOptions i o e z 0 from from was was
no_options i o e z from was = record {
  asked = [];
  count_is = refl;
  answered = record { gives = gives_nothing i.remaining i.failed from; puts = puts_nothing o.contents o.failed was; flushed = λ some. absurd (omega arith); goes_on = tt };
}

abbrev pub asked_as : ℕ → ℕ → List ℕ → Asked
asked_as option size buf = record { option = option; body = take size buf }

pub one_more_option : {I O : Type 0} (i : Sources I) (o : Sinks O) (e : Export) (z : Bool) (count : ℕ) (from at to : I) (was then now : O) (option size : ℕ) (buf : List ℕ) (next : Next)
    → SoManyOptions i o e z count from at was then → TakesOption i at to buf (option, size) → PutsAnswer o e z option (take size buf) then now next → next ≡ after.Haggling
    → SoManyOptions i o e z (count + 1) from to was now
one_more_option i o e z count from at to was then now option size buf next h t put is =
    let a = asked_as option size buf in
    record {
      asked = h.asked ++ a ∷ [];
      count_is = omega (arith, h.count_is, length-append h.asked (a ∷ []));
      answered = record {
        gives = rw (one_more asked_bytes h.asked a) (gives_both i.remaining i.failed from at to (flat_map asked_bytes h.asked) (asked_bytes a) h.answered.gives t.gives);
        puts = rw (one_more (answer_to_asked e z) h.asked a) (puts_both o.contents o.failed was then now (flat_map (answer_to_asked e z) h.asked) (answer_to_asked e z a) h.answered.puts put.puts.puts);
        flushed = λ some. put.puts.flushed;
        goes_on = also (λ (x : Asked). next_after_asked x ≡ after.Haggling) h.asked a h.answered.goes_on (sym put.comes ∙ is);
      };
    }

last_answered : {I O : Type 0} (i : Sources I) (o : Sinks O) (e : Export) (z : Bool) (at to : I) (then now : O) (option size : ℕ) (buf : List ℕ) (next comes : Next)
    → TakesOption i at to buf (option, size) → PutsAnswer o e z option (take size buf) then now next → next ≡ comes → AnswersLast i o e z comes at to then now
last_answered i o e z at to then now option size buf next comes t put is = record { last = asked_as option size buf; gives = t.gives; puts = put.puts; comes = sym put.comes ∙ is }

pub agreed : {I O : Type 0} (i : Sources I) (o : Sinks O) (e : Export) (z : Bool) (count : ℕ) (from at to : I) (was then now : O) (option size : ℕ) (buf : List ℕ) (next : Next)
    → SoManyOptions i o e z count from at was then → TakesOption i at to buf (option, size) → PutsAnswer o e z option (take size buf) then now next → next ≡ after.Transmission
    → Haggles i o e z from to was now haggled.Agreed
agreed i o e z count from at to was then now option size buf next h t put is =
    record { asked = h.asked; at = at; before = then; answered = h.answered; ends = last_answered i o e z at to then now option size buf next after.Transmission t put is }

pub closed : {I O : Type 0} (i : Sources I) (o : Sinks O) (e : Export) (z : Bool) (count : ℕ) (from at to : I) (was then now : O) (option size : ℕ) (buf : List ℕ) (next : Next)
    → SoManyOptions i o e z count from at was then → TakesOption i at to buf (option, size) → PutsAnswer o e z option (take size buf) then now next → next ≡ after.Closed
    → Haggles i o e z from to was now haggled.Closed
closed i o e z count from at to was then now option size buf next h t put is =
    record { asked = h.asked; at = at; before = then; answered = h.answered; ends = last_answered i o e z at to then now option size buf next after.Closed t put is }

ends_for : {I O : Type 0} (i : Sources I) (o : Sinks O) (e : Export) (z : Bool) (count : ℕ) (at to : I) (then : O) (why : Haggled) → GivesOptionNone i at to why → EndsHaggling i o e z count at to then then why
ends_for i o e z count at to then haggled.Agreed h = absurd h
ends_for i o e z count at to then haggled.Closed h = absurd h
ends_for i o e z count at to then haggled.Ended h = (h, refl)
ends_for i o e z count at to then haggled.Cut h = (h, refl)
ends_for i o e z count at to then haggled.NoOption h = (h, refl)
ends_for i o e z count at to then haggled.TooLong h = (h, refl)
ends_for i o e z count at to then haggled.Exhausted h = absurd h

pub no_option_comes : {I O : Type 0} (i : Sources I) (o : Sinks O) (e : Export) (z : Bool) (count : ℕ) (from at to : I) (was then : O) (why : Haggled)
    → SoManyOptions i o e z count from at was then → GivesOptionNone i at to why → Haggles i o e z from to was then why
no_option_comes i o e z count from at to was then why h t =
    record { asked = h.asked; at = at; before = then; answered = h.answered; ends = ends_for i o e z (length h.asked) at to then why t }

pub all_options : {I O : Type 0} (i : Sources I) (o : Sinks O) (e : Export) (z : Bool) (from at : I) (was then : O)
    → SoManyOptions i o e z (2 ^ 64 - 1) from at was then → Haggles i o e z from at was then haggled.Exhausted
all_options i o e z from at was then h = record { asked = h.asked; at = at; before = then; answered = h.answered; ends = (h.count_is, refl, refl) }

pub no_source : {I O : Type 0} (i : Sources I) (o : Sinks O) (e : Export) (z : Bool) (count : ℕ) (from at to : I) (was then : O)
    → SoManyOptions i o e z count from at was then → i.failed to ≡ true → BreaksHaggling i o e z from to was then fault.Source
no_source i o e z count from at to was then h failed = record { asked = h.asked; at = at; before = then; answered = h.answered; fails = (failed, refl) }

not_answered : {I O : Type 0} (i : Sources I) (o : Sinks O) (at to : I) (then now : O) (option size : ℕ) (buf : List ℕ) (why : SessionFault) → TakesOption i at to buf (option, size) → FailsToAnswer o then now why → FailsHaggling i o at to then now why
not_answered i o at to then now option size buf fault.Source t f = absurd f
not_answered i o at to then now option size buf fault.Sink t f = record { last = asked_as option size buf; gives = t.gives; fails = f }
not_answered i o at to then now option size buf fault.NoMemory t f = record { last = asked_as option size buf; gives = t.gives; fails = f }

pub no_answer : {I O : Type 0} (i : Sources I) (o : Sinks O) (e : Export) (z : Bool) (count : ℕ) (from at to : I) (was then now : O) (option size : ℕ) (buf : List ℕ) (why : SessionFault)
    → SoManyOptions i o e z count from at was then → TakesOption i at to buf (option, size) → FailsToAnswer o then now why → BreaksHaggling i o e z from to was now why
no_answer i o e z count from at to was then now option size buf why h t f =
    record { asked = h.asked; at = at; before = then; answered = h.answered; fails = not_answered i o at to then now option size buf why t f }
