-- Requests that are taken, or not.
use Rattle.std.proofs.Common.{◌≡◌, ◌≢◌, ℕ, ◌<◌, ◌≤◌, List, [], ◌++◌, length, take, refl, ap, arith, inl, inr}
use Rattle.std.proofs.lemmas.List.{length-take-le}
use Rattle.md_nbd.specs.declared.request.Request.{Request}
use Rattle.md_nbd.specs.Export.{most_bytes}
use Rattle.md_nbd.specs.NbdRequests.{payload_of, request_bytes}
use Rattle.md_streams.specs.declared.source.Source.{Ghosts as Sources}
use Rattle.md_streams.specs.Source.{Gives}
use Rattle.md_streams.specs.FrontFilled.{FillsFrontOf}
use Rattle.md_nbd.specs.Server.RequestsTaken.{EndsThere, EndsWithin, GivesNoRequest, GivesTooLong, TakesRequest}
use Rattle.md_streams.proofs.Fronts.{gives_both}
use Rattle.md_nbd.proofs.ServerLemmas.Pieces.{gives_whole}

pub ends_there : {I : Type 0} (i : Sources I) (old new : I) (buf : List ℕ) (n : ℕ) → n ≡ 0 → 0 < length buf → FillsFrontOf i old new buf n → EndsThere i old new
ends_there i old new buf n none room f =
    let e : take n buf ≡ [] = ap (λ (m : ℕ). take m buf) none in
    record { gives = rw (← e) f.gives; end = f.end (omega arith) }

pub ends_in_head : {I : Type 0} (i : Sources I) (old new : I) (buf : List ℕ) (n : ℕ) → n ≢ 0 → n < 28 → length buf ≡ 28 → FillsFrontOf i old new buf n → EndsWithin i old new
ends_in_head i old new buf n some few whole f =
    let len : length (take n buf) ≡ n = length-take-le n buf f.few in
    record { bytes = take n buf; part = inl (omega (arith, len, some), omega (arith, len)); gives = f.gives; end = f.end (omega arith) }

pub head_given : {I : Type 0} (i : Sources I) (old new : I) (buf : List ℕ) (n size : ℕ) → size ≤ n → length buf ≡ size → FillsFrontOf i old new buf n → Gives i.remaining i.failed old new buf
head_given i old new buf n size all whole f = gives_whole i.remaining i.failed old new buf n (omega arith) f.gives

pub no_request : {I : Type 0} (i : Sources I) (old new : I) (buf : List ℕ) (n : ℕ) → 28 ≤ n → length buf ≡ 28 → FillsFrontOf i old new buf n
    → ((r : Request) → buf ≡ request_bytes r → ⊥) → GivesNoRequest i old new
no_request i old new buf n all whole f none = record { bytes = buf; whole = whole; none = none; gives = head_given i old new buf n 28 all whole f }

pub request_given : {I : Type 0} (i : Sources I) (old new : I) (buf : List ℕ) (n : ℕ) (r : Request) → 28 ≤ n → length buf ≡ 28 → FillsFrontOf i old new buf n → buf ≡ request_bytes r → Gives i.remaining i.failed old new (request_bytes r)
request_given i old new buf n r all whole f is = rw (← is) (head_given i old new buf n 28 all whole f)

pub too_long : {I : Type 0} (i : Sources I) (old new : I) (buf : List ℕ) (n : ℕ) (r : Request) → 28 ≤ n → length buf ≡ 28 → FillsFrontOf i old new buf n → buf ≡ request_bytes r → most_bytes < payload_of r → GivesTooLong i old new
too_long i old new buf n r all whole f is long = record { request = r; long = long; gives = request_given i old new buf n r all whole f is }

pub ends_in_payload : {I : Type 0} (i : Sources I) (old mid new : I) (buf payload : List ℕ) (n k : ℕ) (r : Request) → 28 ≤ n → length buf ≡ 28 → FillsFrontOf i old mid buf n → buf ≡ request_bytes r
    → FillsFrontOf i mid new payload k → length payload ≡ payload_of r → k < payload_of r → EndsWithin i old new
ends_in_payload i old mid new buf payload n k r all whole f is g size few =
    let len : length (take k payload) ≡ k = length-take-le k payload g.few in
    record {
      bytes = request_bytes r ++ take k payload;
      part = inr (r, take k payload, refl, omega (arith, len));
      gives = gives_both i.remaining i.failed old mid new (request_bytes r) (take k payload) (request_given i old mid buf n r all whole f is) g.gives;
      end = g.end (omega arith);
    }

pub takes_request : {I : Type 0} (i : Sources I) (old mid new : I) (buf payload room : List ℕ) (n k : ℕ) (r : Request) → 28 ≤ n → length buf ≡ 28 → FillsFrontOf i old mid buf n → buf ≡ request_bytes r
    → FillsFrontOf i mid new payload k → length payload ≡ payload_of r → payload_of r ≤ k → payload ≡ take (payload_of r) room → payload_of r ≤ length room → TakesRequest i old new room r
takes_request i old mid new buf payload room n k r all whole f is g size full front fits =
    record {
      room = fits;
      gives = rw (← front) (gives_both i.remaining i.failed old mid new (request_bytes r) payload (request_given i old mid buf n r all whole f is) (head_given i mid new payload k (payload_of r) full size g));
    }
