-- Writes in their order, some of them made.
use Rattle.std.proofs.Common.{◌≡◌, ◌⊎◌, ⊎_elim, inl, inr, subst, ℕ, ◌*◌, ◌<◌, ◌≤◌, true, false, List, [], ◌∷◌, ◌++◌, length, append_assoc, OnOk, OnErr, IsErr, refl, ap, sym, ◌∙◌, arith, Result, Ok, Err}
use Rattle.std.proofs.lemmas.List.{append-nil}
use Rattle.std.proofs.lemmas.List.Sums.{fold-append}
use Rattle.md_device.specs.declared.device.Device.{Ghosts}
use Rattle.md_device.specs.Splice.{SameOutside}
use Rattle.md_device.specs.Device.{written}
use Rattle.md_device.specs.Crashes.{IsMixed, WithinWrite}
use Rattle.md_device.specs.declared.fault_list.Fault.{Fault}
use Rattle.md_device.specs.Failing.{AddsItself, failed_write}
use Rattle.md_device.proofs.Failing.{fails_none, fails_now, fails_then}
use Rattle.md_device.proofs.Leaving as leaving
use Rattle.md_device.proofs.Leaving.{leaves_less, leaves_none, mixed_none}
use Rattle.md_members.specs.DeviceWrites.Writes.{Write, IsKeptByWrites, IsCutShort, IsNextMixed, IsAnyIn, DoesWrites, FailsInWrites, MakesWrites, LeavesOnly, after}

pub after-append : (old : List ℕ) (writes more : List Write) → after old (writes ++ more) ≡ after (after old writes) more
after-append old writes more = fold-append (λ before (w : Write). written before w.sector w.bytes) old writes more

-- what a crash leaves of the first writes, it leaves of more of them
cut_front : (old left : List ℕ) (writes more : List Write) → IsCutShort old writes left → IsCutShort old (writes ++ more) left
cut_front old left writes more cut = by cut.rest cut.order cut.mixed
  where
    by : (rest : List Write) → writes ≡ cut.done ++ rest → IsNextMixed rest (after old cut.done) left → IsCutShort old (writes ++ more) left
    by [] order same = next more refl
      where
        all : after old cut.done ≡ after old writes
        all = ap (after old) (sym (append-nil cut.done) ∙ sym order)

        next : (ws : List Write) → more ≡ ws → IsCutShort old (writes ++ more) left
        next [] none = record { done = writes ++ more; rest = []; order = sym (append-nil (writes ++ more)); mixed = same ∙ all ∙ ap (after old) (sym (append-nil writes) ∙ ap (λ xs. writes ++ xs) (sym none)) }
        next (w ∷ ws) some = record { done = writes; rest = w ∷ ws; order = ap (λ xs. writes ++ xs) some; mixed = subst (λ xs. IsMixed w.sector w.bytes xs left) all (subst (λ xs. IsMixed w.sector w.bytes (after old cut.done) xs) (sym same) (mixed_none w.sector w.bytes (after old cut.done))) }
    by (w ∷ rest) order mixed = record {
      done = cut.done;
      rest = w ∷ (rest ++ more);
      order = ap (λ ws. ws ++ more) order ∙ append_assoc cut.done (w ∷ rest) more;
      mixed = mixed;
    }

-- what it leaves of later ones
cut_back : (old mid left : List ℕ) (writes more : List Write) → mid ≡ after old writes → IsCutShort mid more left → IsCutShort old (writes ++ more) left
cut_back old mid left writes more is cut = record {
  done = writes ++ cut.done;
  rest = cut.rest;
  order = ap (λ ws. writes ++ ws) cut.order ∙ sym (append_assoc writes cut.done cut.rest);
  mixed = subst (λ xs. IsNextMixed cut.rest xs left) (ap (λ xs. after xs cut.done) is ∙ sym (after-append old writes cut.done)) cut.mixed;
}

-- of no writes a crash leaves what was there
cut_none : (old left : List ℕ) → IsCutShort old [] left → left ≡ old
cut_none old left cut = by cut.done cut.rest cut.order cut.mixed
  where
    by : (done rest : List Write) → [] ≡ done ++ rest → IsNextMixed rest (after old done) left → left ≡ old
    by [] [] order mixed = mixed
    by [] (w ∷ rest) order mixed = absurd (let e : ◌≡◌ {A = List Write} [] (w ∷ rest) = order in cc)
    by (w ∷ done) rest order mixed = absurd (let e : ◌≡◌ {A = List Write} [] (w ∷ (done ++ rest)) = order in cc)

-- of a single write it leaves the content after it, or it cuts it short
pub cut_one : (old left : List ℕ) (w : Write) → IsCutShort old (w ∷ []) left → (left ≡ written old w.sector w.bytes) ⊎ IsMixed w.sector w.bytes old left
cut_one old left w cut = by cut.done cut.rest cut.order cut.mixed
  where
    by : (done rest : List Write) → w ∷ [] ≡ done ++ rest → IsNextMixed rest (after old done) left → (left ≡ written old w.sector w.bytes) ⊎ IsMixed w.sector w.bytes old left
    by [] [] order mixed = absurd (let e : ◌≡◌ {A = List Write} (w ∷ []) [] = order in cc)
    by [] (x ∷ rest) order mixed =
        let same : x ≡ w = let e : w ∷ [] ≡ x ∷ rest = order in cc in
        inr (subst (λ (y : Write). IsMixed y.sector y.bytes old left) same mixed)
    by (x ∷ []) [] order mixed =
        let same : x ≡ w = let e : w ∷ [] ≡ x ∷ [] = order in cc in
        inl (subst (λ (y : Write). left ≡ written old y.sector y.bytes) same mixed)
    by (x ∷ []) (y ∷ rest) order mixed = absurd (let e : w ∷ [] ≡ x ∷ (y ∷ rest) = order in cc)
    by (x ∷ y ∷ done) rest order mixed = absurd (let e : w ∷ [] ≡ x ∷ (y ∷ (done ++ rest)) = order in cc)

none_behind : {X : Type 0} (front rest : List X) → [] ≡ front ++ rest → rest ≡ []
none_behind [] rest e = sym e
none_behind (x ∷ front) rest e = cc

-- the first of a list with one more at its end are all of it, or the first of the list
before_last : (ws : List Write) (w : Write) (done rest : List Write) → ws ++ w ∷ [] ≡ done ++ rest → (rest ≡ []) ⊎ ((more : List Write) × (ws ≡ done ++ more) × (rest ≡ more ++ w ∷ []))
before_last ws w [] rest order = inr (ws, refl, sym order)
before_last [] w (x ∷ done) rest order =
    let none : [] ≡ done ++ rest = let e : ◌≡◌ {A = List Write} (w ∷ []) (x ∷ (done ++ rest)) = order in cc in
    inl (none_behind done rest none)
before_last (y ∷ ws) w (x ∷ done) rest order =
    let same : y ≡ x = let e : ◌≡◌ {A = List Write} (y ∷ (ws ++ w ∷ [])) (x ∷ (done ++ rest)) = order in cc in
    let others : ws ++ w ∷ [] ≡ done ++ rest = let e : ◌≡◌ {A = List Write} (y ∷ (ws ++ w ∷ [])) (x ∷ (done ++ rest)) = order in cc in
    elim (before_last ws w done rest others) [
      | inl none ↦ inl none
      | inr more ↦ inr (more.0, ap (λ (xs : List Write). y ∷ xs) more.1 ∙ ap (λ (z : Write). z ∷ (done ++ more.0)) same, more.2)
    ]

-- what a crash leaves of writes and one more: what it leaves of the writes, or the last one cut short, or all of them done
pub cut_last : (old left : List ℕ) (ws : List Write) (w : Write) → IsCutShort old (ws ++ w ∷ []) left → IsCutShort old ws left ⊎ (IsMixed w.sector w.bytes (after old ws) left ⊎ (left ≡ after old (ws ++ w ∷ [])))
cut_last old left ws w cut =
    elim (before_last ws w cut.done cut.rest cut.order) [
      | inl none ↦
          let whole : ws ++ w ∷ [] ≡ cut.done = cut.order ∙ ap (λ (xs : List Write). cut.done ++ xs) none ∙ append-nil cut.done in
          inr (inr (subst (λ (rest : List Write). IsNextMixed rest (after old cut.done) left) none cut.mixed ∙ ap (after old) (sym whole)))
      | inr more ↦ by more.0 more.1 (subst (λ (rest : List Write). IsNextMixed rest (after old cut.done) left) more.2 cut.mixed)
    ]
  where
    by : (more : List Write) → ws ≡ cut.done ++ more → IsNextMixed (more ++ w ∷ []) (after old cut.done) left → IsCutShort old ws left ⊎ (IsMixed w.sector w.bytes (after old ws) left ⊎ (left ≡ after old (ws ++ w ∷ [])))
    by [] order mixed =
        let whole : cut.done ≡ ws = sym (append-nil cut.done) ∙ sym order in
        inr (inl (subst (λ (xs : List Write). IsMixed w.sector w.bytes (after old xs) left) whole mixed))
    by (x ∷ more) order mixed = inl (record { done = cut.done; rest = x ∷ more; order = order; mixed = mixed })

any_of_none : (old left : List ℕ) (w : Write) → IsCutShort old [] left → IsAnyIn w old left
any_of_none old left w cut = subst (λ xs. IsAnyIn w old xs) (sym (cut_none old left cut)) (record { size = refl; before = refl; after = refl })

any_back : (old mid new : List ℕ) (writes done : List Write) (w : Write) → mid ≡ after old writes → IsAnyIn w (after mid done) new → IsAnyIn w (after old (writes ++ done)) new
any_back old mid new writes done w is any = subst (λ xs. IsAnyIn w xs new) (ap (λ xs. after xs done) is ∙ sym (after-append old writes done)) any

abbrev IsWrite : Fault → Type 0
IsWrite f = f.writes ≡ true

module _ {D : Type 0} (g : Ghosts D) where
  kept_none : (old : D) → IsKeptByWrites g old old
  kept_none old = record { size = refl; honest_kept = refl; counted = omega arith; grown = fails_none (g.faults old) IsWrite }

  kept_then : (old mid new : D) → IsKeptByWrites g old mid → IsKeptByWrites g mid new → IsKeptByWrites g old new
  kept_then old mid new first second = record {
    size = second.size ∙ first.size;
    honest_kept = second.honest_kept ∙ first.honest_kept;
    counted = omega (arith, first.counted, second.counted);
    grown = fails_then (g.faults old) (g.faults mid) (g.faults new) IsWrite first.grown second.grown;
  }

  -- more calls, each of which leaves less
  leaves_then : (old mid new : D) (P Q R : List ℕ → Type 0) → ((left : List ℕ) → P left → R left) → ((left : List ℕ) → Q left → R left) → LeavesOnly g old mid P → LeavesOnly g mid new Q → LeavesOnly g old new R
  leaves_then old mid new P Q R p q first second =
      leaving.leaves_then (g.crashes old) (g.crashes mid) (g.crashes new) R (leaves_less (g.crashes old) (g.crashes mid) P R p first) (leaves_less (g.crashes mid) (g.crashes new) Q R q second)

  pub does_none : (old : D) → DoesWrites g [] old old
  does_none old = record { kept = kept_none old; unfailing = refl; none_failed = refl; all_done = λ _. refl; within = λ _. leaves_none (g.crashes old) (IsCutShort (g.content old) []) }

  pub does_then : (writes more : List Write) (old mid new : D) → DoesWrites g writes old mid → DoesWrites g more mid new → DoesWrites g (writes ++ more) old new
  does_then writes more old mid new first second = record {
    kept = kept_then old mid new first.kept second.kept;
    unfailing = second.unfailing ∙ first.unfailing;
    none_failed = second.none_failed ∙ first.none_failed;
    all_done = λ h. second.all_done (first.kept.honest_kept ∙ h) ∙ ap (λ xs. after xs more) (first.all_done h) ∙ sym (after-append (g.content old) writes more);
    within = λ h. leaves_then old mid new (IsCutShort (g.content old) writes) (IsCutShort (g.content mid) more) (IsCutShort (g.content old) (writes ++ more))
        (λ c cut. cut_front (g.content old) c writes more cut) (λ c cut. cut_back (g.content old) (g.content mid) c writes more (first.all_done h) cut)
        (first.within h) (second.within (first.kept.honest_kept ∙ h));
  }

  pub stops_then : (writes more : List Write) (old mid new : D) → DoesWrites g writes old mid → FailsInWrites g more mid new → FailsInWrites g (writes ++ more) old new
  stops_then writes more old mid new first second = record {
    kept = kept_then old mid new first.kept second.kept;
    failed = λ h. omega (arith, first.kept.counted, second.failed (first.kept.honest_kept ∙ h));
    done = writes ++ second.done;
    tried = second.tried;
    rest = second.rest;
    order = ap (λ ws. writes ++ ws) second.order ∙ sym (append_assoc writes second.done (second.tried ∷ second.rest));
    tried_alone_failed = second.tried_alone_failed ∙ ap (λ (past : List Fault). past ++ failed_write second.tried.sector (length second.tried.bytes) ∷ []) first.none_failed;
    outside = λ h. any_back (g.content old) (g.content mid) (g.content new) writes second.done second.tried (first.all_done h) (second.outside (first.kept.honest_kept ∙ h));
    within = λ h. leaves_then old mid new (IsCutShort (g.content old) writes) (λ left. IsCutShort (g.content mid) second.done left ⊎ IsAnyIn second.tried (after (g.content mid) second.done) left)
        (λ left. IsCutShort (g.content old) (writes ++ second.done) left ⊎ IsAnyIn second.tried (after (g.content old) (writes ++ second.done)) left)
        (λ c cut. inl (cut_front (g.content old) c writes second.done cut))
        (λ c left. ⊎_elim (λ cut. inl (cut_back (g.content old) (g.content mid) c writes second.done (first.all_done h) cut))
        (λ any. inr (any_back (g.content old) (g.content mid) c writes second.done second.tried (first.all_done h) any)) left)
        (first.within h) (second.within (first.kept.honest_kept ∙ h));
  }

  pub stops_front : (writes more : List Write) (old new : D) → FailsInWrites g writes old new → FailsInWrites g (writes ++ more) old new
  stops_front writes more old new stop = record {
    kept = stop.kept;
    failed = stop.failed;
    done = stop.done;
    tried = stop.tried;
    rest = stop.rest ++ more;
    order = ap (λ ws. ws ++ more) stop.order ∙ append_assoc stop.done (stop.tried ∷ stop.rest) more;
    tried_alone_failed = stop.tried_alone_failed;
    outside = stop.outside;
    within = stop.within;
  }

  -- the first of the writes were made, and these are left
  pub record AreLeft (writes left : List Write) (old new : D) : Type 0 where
    pub made : List Write
    pub order : writes ≡ made ++ left
    pub does : DoesWrites g made old new

  pub all_left : (writes : List Write) (old : D) → AreLeft writes writes old old
  all_left writes old = record { made = []; order = refl; does = does_none old }

  pub fewer_left : (writes more left : List Write) (old mid new : D) → AreLeft writes (more ++ left) old mid → DoesWrites g more mid new → AreLeft writes left old new
  fewer_left writes more left old mid new before does = record {
    made = before.made ++ more;
    order = before.order ∙ sym (append_assoc before.made more left);
    does = does_then before.made more old mid new before.does does;
  }

  pub none_left : (writes : List Write) (old new : D) → AreLeft writes [] old new → DoesWrites g writes old new
  none_left writes old new before = rw (before.order ∙ append-nil before.made) before.does

  pub stops_in_left : (writes more left : List Write) (old mid new : D) → AreLeft writes (more ++ left) old mid → FailsInWrites g more mid new → FailsInWrites g writes old new
  stops_in_left writes more left old mid new before stop =
      rw before.order (stops_then before.made (more ++ left) old mid new before.does (stops_front more left mid new stop))

  -- one write
  pub one_write : {T E : Type 0} (w : Write) (old new : D) (result : Result T E) → SameOutside (512 * w.sector) (length w.bytes) (g.content old) (g.content new) → g.honest new ≡ g.honest old → OnOk result (g.honest old ≡ true → g.content new ≡ written (g.content old) w.sector w.bytes) → OnErr result (g.honest old ≡ true → g.failures old < g.failures new) → g.failures old ≤ g.failures new
      → AddsItself result (failed_write w.sector (length w.bytes)) (g.faults old) (g.faults new)
      → OnOk result (g.failures new ≡ g.failures old) → (g.honest old ≡ true → LeavesOnly g old new (WithinWrite result w.sector w.bytes (g.content old))) → MakesWrites g (w ∷ []) old new result
  one_write w old new (Ok x) outside kept ok err counted adds unfailing within = record {
    kept = record { size = outside.size; honest_kept = kept; counted = counted; grown = rw adds (fails_none (g.faults old) IsWrite) };
    unfailing = unfailing;
    none_failed = adds;
    all_done = ok;
    within = λ h. leaves_less (g.crashes old) (g.crashes new) (IsMixed w.sector w.bytes (g.content old)) (IsCutShort (g.content old) (w ∷ []))
        (λ c mixed. record { done = []; rest = w ∷ []; order = refl; mixed = mixed }) (within h);
  }
  one_write w old new (Err e) outside kept ok err counted adds unfailing within = record {
    kept = record { size = outside.size; honest_kept = kept; counted = counted; grown = fails_now (g.faults old) (g.faults new) (failed_write w.sector (length w.bytes)) IsWrite adds refl };
    failed = err;
    done = [];
    tried = w;
    rest = [];
    order = refl;
    tried_alone_failed = adds;
    outside = λ _. outside;
    within = λ h. leaves_less (g.crashes old) (g.crashes new) (IsAnyIn w (g.content old)) (λ left. IsCutShort (g.content old) [] left ⊎ IsAnyIn w (g.content old) left)
        (λ c any. inr any) (within h);
  }

  -- a single write that failed: any bytes in its range at each moment
  pub stops_in_one : (w : Write) (old new : D) → FailsInWrites g (w ∷ []) old new → g.honest old ≡ true → LeavesOnly g old new (IsAnyIn w (g.content old))
  stops_in_one w old new stop h = by stop.done stop.tried stop.rest stop.order (stop.within h)
    where
      by : (done : List Write) (tried : Write) (rest : List Write) → w ∷ [] ≡ done ++ tried ∷ rest
          → LeavesOnly g old new (λ left. IsCutShort (g.content old) done left ⊎ IsAnyIn tried (after (g.content old) done) left) → LeavesOnly g old new (IsAnyIn w (g.content old))
      by [] tried rest order leaves =
          let same : tried ≡ w = cc in
          leaves_less (g.crashes old) (g.crashes new) (λ left. IsCutShort (g.content old) [] left ⊎ IsAnyIn tried (g.content old) left) (IsAnyIn w (g.content old))
          (λ c left. ⊎_elim (λ cut. any_of_none (g.content old) c w cut) (λ any. subst (λ x. IsAnyIn x (g.content old) c) same any) left) leaves
      by (x ∷ []) tried rest order leaves = absurd (let e : w ∷ [] ≡ x ∷ (tried ∷ rest) = order in cc)
      by (x ∷ y ∷ done) tried rest order leaves = absurd (let e : w ∷ [] ≡ x ∷ (y ∷ (done ++ tried ∷ rest)) = order in cc)

  -- and it is that write
  pub failed_in_one : (w : Write) (old new : D) → FailsInWrites g (w ∷ []) old new → g.faults new ≡ g.faults old ++ failed_write w.sector (length w.bytes) ∷ []
  failed_in_one w old new stop = by stop.done stop.tried stop.rest stop.order stop.tried_alone_failed
    where
      by : (done : List Write) (tried : Write) (rest : List Write) → w ∷ [] ≡ done ++ tried ∷ rest
          → g.faults new ≡ g.faults old ++ failed_write tried.sector (length tried.bytes) ∷ [] → g.faults new ≡ g.faults old ++ failed_write w.sector (length w.bytes) ∷ []
      by [] tried rest order adds =
          let same : tried ≡ w = let e : w ∷ [] ≡ tried ∷ rest = order in cc in
          subst (λ (x : Write). g.faults new ≡ g.faults old ++ failed_write x.sector (length x.bytes) ∷ []) same adds
      by (x ∷ []) tried rest order adds = absurd (let e : w ∷ [] ≡ x ∷ (tried ∷ rest) = order in cc)
      by (x ∷ y ∷ done) tried rest order adds = absurd (let e : w ∷ [] ≡ x ∷ (y ∷ (done ++ tried ∷ rest)) = order in cc)

  pub stops_any : {T E : Type 0} (writes : List Write) (old new : D) (result : Result T E) → FailsInWrites g writes old new → IsErr result → MakesWrites g writes old new result
  stops_any writes old new (Ok x) stop err = absurd (let e : false ≡ true = err in cc)
  stops_any writes old new (Err e) stop err = stop

  pub does_any : {T E : Type 0} (writes more : List Write) (old mid new : D) (result : Result T E) → DoesWrites g writes old mid → MakesWrites g more mid new result → MakesWrites g (writes ++ more) old new result
  does_any writes more old mid new (Ok x) first then = does_then writes more old mid new first then
  does_any writes more old mid new (Err e) first then = stops_then writes more old mid new first then

  pub all_done_of : {T E : Type 0} (writes : List Write) (old new : D) (result : Result T E) {P : Type 0} → MakesWrites g writes old new result → (DoesWrites g writes old new → P) → OnOk result P
  all_done_of writes old new (Ok x) does then = then does
  all_done_of writes old new (Err e) stop then = tt
