-- A request is taken from the source, or none comes any more.
use Rattle.std.specs.Prelude.{◌≡◌, ◌⊎◌, ℕ, ◌<◌, ◌≤◌, true, List, [], ◌++◌, length, take, Result, MatchResult}
use Rattle.std.specs.Io.KnownBytes.{IsAtEnd}
use Rattle.md_nbd.specs.declared.request.Request.{Request}
use Rattle.md_nbd.specs.Export.{most_bytes}
use Rattle.md_nbd.specs.NbdRequests.{payload_of, request_bytes}
use Rattle.md_streams.specs.declared.source.Source.{Ghosts as Sources}
use Rattle.md_nbd.specs.declared.server.transmission.Gone.{Gone}
use Rattle.md_nbd.specs.declared.server.transmission.Gone.TheVariants as gone
use Rattle.md_nbd.specs.declared.server.session_fault.SessionFault.{SessionFault}
use Rattle.md_nbd.specs.declared.server.session_fault.SessionFault.TheVariants as fault
use Rattle.md_streams.specs.Source.{Gives}

-- A request came, and the bytes that it writes stand at the front of the buffer.
pub record TakesRequest {I : Type 0} (i : Sources I) (old new : I) (buf : List ℕ) (r : Request) : Type 0 where
  pub room : payload_of r ≤ length buf
  pub gives : Gives i.remaining i.failed old new (request_bytes r ++ take (payload_of r) buf)

-- The source ended before any further byte.
pub record EndsThere {I : Type 0} (i : Sources I) (old new : I) : Type 0 where
  pub gives : Gives i.remaining i.failed old new []
  pub end : IsAtEnd (i.remaining new)

-- A part of the head of a request, or a head and a part of what is to be written.
abbrev pub IsPartOfRequest : List ℕ → Type 0
IsPartOfRequest bytes =
    ((0 < length bytes) × (length bytes < 28))
    ⊎ ((r : Request) × (part : List ℕ) × (bytes ≡ request_bytes r ++ part) × (length part < payload_of r))

-- The source ended within a request.
pub record EndsWithin {I : Type 0} (i : Sources I) (old new : I) : Type 0 where
  pub bytes : List ℕ
  pub part : IsPartOfRequest bytes
  pub gives : Gives i.remaining i.failed old new bytes
  pub end : IsAtEnd (i.remaining new)

-- As many bytes came as a request's head has, and they are none.
pub record GivesNoRequest {I : Type 0} (i : Sources I) (old new : I) : Type 0 where
  pub bytes : List ℕ
  pub whole : length bytes ≡ 28
  pub none : (r : Request) → bytes ≡ request_bytes r → ⊥
  pub gives : Gives i.remaining i.failed old new bytes

-- The head of a request came that writes more than the server keeps room for.
pub record GivesTooLong {I : Type 0} (i : Sources I) (old new : I) : Type 0 where
  pub request : Request
  pub long : most_bytes < payload_of request
  pub gives : Gives i.remaining i.failed old new (request_bytes request)

-- Why the source gave no request.
abbrev pub GivesNone : {I : Type 0} → Sources I → I → I → Gone → Type 0
GivesNone i old new gone.Ended = EndsThere i old new
GivesNone i old new gone.Cut = EndsWithin i old new
GivesNone i old new gone.NoRequest = GivesNoRequest i old new
GivesNone i old new gone.TooLong = GivesTooLong i old new
GivesNone i old new gone.Disconnected = ⊥
GivesNone i old new gone.Exhausted = ⊥

-- The source has failed, or there was no memory for what the request reads or writes.
abbrev pub FailsToTake : {I : Type 0} → Sources I → I → SessionFault → Type 0
FailsToTake i new fault.Source = i.failed new ≡ true
FailsToTake i new fault.NoMemory = Unit {0}
FailsToTake i new fault.Sink = ⊥

abbrev pub TakesRequestOrNone : {I : Type 0} → Sources I → I → I → List ℕ → Result Request Gone → Type 0
TakesRequestOrNone i old new buf result = MatchResult result (TakesRequest i old new buf) (GivesNone i old new)
