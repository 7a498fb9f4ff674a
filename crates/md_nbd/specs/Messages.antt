-- What a stream of messages says, it says in one way.
use Rattle.std.specs.Prelude.{◌≡◌, ℕ, ◌<◌, ◌^◌, List, ◌++◌, length, slice_index, Some}
use Rattle.md_nbd.specs.declared.request.Request.{Request}
use Rattle.md_nbd.specs.NbdRequests.{IsRequest, request_bytes}
use Rattle.md_nbd.specs.Options.{AsksForName, asked_name_of, option_bytes}

-- A stream that begins with a request begins with no other.
abbrev pub BeginsWithOneRequest : Type 0
BeginsWithOneRequest = (a b : Request) (x y : List ℕ) → IsRequest a → IsRequest b → request_bytes a ++ x ≡ request_bytes b ++ y → (a ≡ b) × (x ≡ y)

-- A stream that begins with an option begins with no other.
abbrev pub BeginsWithOneOption : Type 0
BeginsWithOneOption = (a b : ℕ) (c d x y : List ℕ) → a < 2 ^ 32 → b < 2 ^ 32 → length c < 2 ^ 32 → length d < 2 ^ 32
    → option_bytes a c ++ x ≡ option_bytes b d ++ y → (a ≡ b) × (c ≡ d) × (x ≡ y)

-- A name that is asked for is found.
abbrev pub FindsAskedNames : Type 0
FindsAskedNames = (name body : List ℕ) → length name < 2 ^ 32 → AsksForName name body → asked_name_of body ≡ Some name

-- What is found in a list of bytes was asked for.
abbrev pub AskedNamesFound : Type 0
AskedNamesFound = (name body : List ℕ) → ((i : ℕ) → slice_index body i < 256) → asked_name_of body ≡ Some name → AsksForName name body
