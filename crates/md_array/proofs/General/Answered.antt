-- What a call says where it is known whether it failed.
use Rattle.std.proofs.Common.{◌≡◌, Result, Ok, Err, true, false, OnOk, OnErr}
use Rattle.std.specs.Prelude.{MatchResult}
use Rattle.std.specs.Result.{is_err}

pub ok_gives : {T E : Type 0} (r : Result T E) (P : Type 0) → false ≡ is_err r → OnOk r P → P
ok_gives (Ok x) P e h = h
ok_gives (Err x) P e h = absurd cc

pub err_gives : {T E : Type 0} (r : Result T E) (P : Type 0) → true ≡ is_err r → OnErr r P → P
err_gives (Ok x) P e h = absurd cc
err_gives (Err x) P e h = h

pub ok_of : {T E : Type 0} (r : Result T E) (P Q : Type 0) → false ≡ is_err r → MatchResult r (λ _. P) (λ _. Q) → P
ok_of (Ok x) P Q e h = h
ok_of (Err x) P Q e h = absurd cc

pub err_of : {T E : Type 0} (r : Result T E) (P Q : Type 0) → true ≡ is_err r → MatchResult r (λ _. P) (λ _. Q) → Q
err_of (Ok x) P Q e h = absurd cc
err_of (Err x) P Q e h = h
