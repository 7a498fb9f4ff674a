-- Which calls failed over several calls.
use Rattle.std.proofs.Common.{◌≡◌, ℕ, List, [], ◌++◌, ◌∷◌, append_assoc, length, refl, sym, ap, ◌∙◌, arith, Result, Ok, Err}
use Rattle.std.proofs.lemmas.List.{append-nil}
use Rattle.std.proofs.lemmas.List.Elements.{All-append, All-cons, All-nil}
use Rattle.md_device.specs.declared.fault_list.Fault.{Fault}
use Rattle.md_device.specs.Failing.{AddsItself, EachNewFault, SomeNewFault}

-- no call
pub fails_none : (past : List Fault) (P : Fault → Type 0) → EachNewFault past past P
fails_none past P = record { more = []; all = sym (append-nil past); each = All-nil P }

-- the call that was added
pub fails_now : (past now : List Fault) (call : Fault) (P : Fault → Type 0) → now ≡ past ++ call ∷ [] → P call → EachNewFault past now P
fails_now past now call P all is = record { more = call ∷ []; all = all; each = All-cons P call [] is (All-nil P) }

pub fails_just : (past now : List Fault) (call : Fault) (P : Fault → Type 0) → now ≡ past ++ call ∷ [] → P call → SomeNewFault past now P
fails_just past now call P all is = record { earlier = []; fault = call; later = []; all = all; is = is }

-- what is said of each is weakened
pub fails_weaker : (past now : List Fault) (P Q : Fault → Type 0) → ((f : Fault) → P f → Q f) → EachNewFault past now P → EachNewFault past now Q
fails_weaker past now P Q weaker fails = record { more = fails.more; all = fails.all; each = λ k d below. weaker _ (fails.each k d below) }

-- one call after another
pub fails_then : (past mid now : List Fault) (P : Fault → Type 0) → EachNewFault past mid P → EachNewFault mid now P → EachNewFault past now P
fails_then past mid now P first second = record {
  more = first.more ++ second.more;
  all = second.all ∙ ap (λ xs. xs ++ second.more) first.all ∙ append_assoc past first.more second.more;
  each = All-append P first.more second.more first.each second.each;
}

-- one that failed, and further calls
pub fails_still : (past mid now : List Fault) (P Q : Fault → Type 0) → SomeNewFault past mid P → EachNewFault mid now Q → SomeNewFault past now P
fails_still past mid now P Q one more = record {
  earlier = one.earlier;
  fault = one.fault;
  later = one.later ++ more.more;
  all = more.all ∙ ap (λ xs. xs ++ more.more) one.all ∙ append_assoc past (one.earlier ++ one.fault ∷ one.later) more.more
      ∙ ap (λ xs. past ++ xs) (append_assoc one.earlier (one.fault ∷ one.later) more.more);
  is = one.is;
}

-- earlier calls, and then one that failed
pub fails_since : (past mid now : List Fault) (P Q : Fault → Type 0) → EachNewFault past mid Q → SomeNewFault mid now P → SomeNewFault past now P
fails_since past mid now P Q more one = record {
  earlier = more.more ++ one.earlier;
  fault = one.fault;
  later = one.later;
  all = one.all ∙ ap (λ xs. xs ++ (one.earlier ++ one.fault ∷ one.later)) more.all ∙ append_assoc past more.more (one.earlier ++ one.fault ∷ one.later)
      ∙ ap (λ xs. past ++ xs) (sym (append_assoc more.more one.earlier (one.fault ∷ one.later)));
  is = one.is;
}

-- what a call adds, whatever it answers
pub fails_call : {T E : Type 0} (result : Result T E) (call : Fault) (past now : List Fault) (P : Fault → Type 0) → AddsItself result call past now → P call → EachNewFault past now P
fails_call (Ok x) call past now P adds is = rw adds (fails_none past P)
fails_call (Err e) call past now P adds is = fails_now past now call P adds is
