-- Lists of events of a call, joined and carried along.
use Rattle.std.proofs.Common.{List, [], ◌∷◌, ◌++◌, Option, Some}
use Rattle.md_model.specs.Events.{Event}
use Rattle.md_state.specs.View.{MirrorView}
use Rattle.md_array.specs.Events.{Does}
use Rattle.md_array.specs.InTurn.{AllLeftWhole, AllOf, InTurn, Requests}
use Rattle.md_array.specs.Worlds.{AreHonest}

-- what holds at the end, weaker
pub turn_then : (es : List Event) (previous : Option Event) (old : MirrorView) (before : Requests) (P Q : MirrorView → Requests → Type 0)
    → ((m : MirrorView) (r : Requests) → P m r → Q m r) → InTurn previous old before es P → InTurn previous old before es Q
turn_then [] previous old before P Q f t = f old before t
turn_then (e ∷ es) previous old before P Q f t = (t.0, t.1, t.2, t.3, t.4, turn_then es (Some e) t.0 t.1 P Q f t.5)

-- one list after another
abbrev pub turn_on : (es fs : List Event) (previous : Option Event) (old : MirrorView) (before : Requests) (P : MirrorView → Requests → Type 0)
    → InTurn previous old before es (λ m r. (last : Option Event) → InTurn last m r fs P) → InTurn previous old before (es ++ fs) P
turn_on [] fs previous old before P t = t previous
turn_on (e ∷ es) fs previous old before P t = (t.0, t.1, t.2, t.3, t.4, turn_on es fs (Some e) t.0 t.1 P t.5)

pub all_on : (Of : Event → Type 0) (es fs : List Event) → AllOf Of es → AllOf Of fs → AllOf Of (es ++ fs)
all_on Of [] fs a b = b
all_on Of (e ∷ es) fs a b = (a.0, all_on Of es fs a.1 b)

pub all_such : (Of Such : Event → Type 0) → ((e : Event) → Of e → Such e) → (es : List Event) → AllOf Of es → AllOf Such es
all_such Of Such f [] a = tt
all_such Of Such f (e ∷ es) a = (f e a.0, all_such Of Such f es a.1)

-- where a list leads before another, with what each event of it keeps
pub record IsThrough (fs : List Event) (P Kept : MirrorView → Requests → Type 0) : Type 0 where
  pub mirror : MirrorView
  pub requests : Requests
  pub last : Option Event
  pub rest : InTurn last mirror requests fs P
  pub honest : AreHonest mirror.disks
  pub kept : Kept mirror requests
  pub whole : AllLeftWhole fs last mirror requests P rest

pub turn_through : (Kept : MirrorView → Requests → Type 0) (Of : Event → Type 0)
    → ((old : MirrorView) (before : Requests) (e : Event) (new : MirrorView) (after : Requests) → Of e → Does old before e new after → Kept old before → Kept new after)
    → (es fs : List Event) (previous : Option Event) (old : MirrorView) (before : Requests) (P : MirrorView → Requests → Type 0)
    → (t : InTurn previous old before es (λ m r. (last : Option Event) → InTurn last m r fs P))
    → AllOf Of es → AreHonest old.disks → Kept old before → AllLeftWhole (es ++ fs) previous old before P (turn_on es fs previous old before P t) → IsThrough fs P Kept
turn_through Kept Of keeps [] fs previous old before P t all honest is whole =
    record { mirror = old; requests = before; last = previous; rest = t previous; honest = honest; kept = is; whole = whole }
turn_through Kept Of keeps (e ∷ es) fs previous old before P t all honest is whole =
    let does = t.4 honest whole.0 in
    turn_through Kept Of keeps es fs (Some e) t.0 t.1 P t.5 all.1 does.honest (keeps old before e t.0 t.1 all.0 does is) whole.1
