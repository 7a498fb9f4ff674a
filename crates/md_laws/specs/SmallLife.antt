-- A life of a mirror of one member: what the laws on lives ask can be met.
use Rattle.std.specs.Prelude.{ℕ, false, List, [], ◌∷◌, Option}
use Rattle.md_model.specs.Events.{Event}
use Rattle.md_model.specs.Sectors.{put}
use Rattle.md_model.specs.Worlds.{Request}
use Rattle.md_state.specs.View.{Disk, MirrorView}
use Rattle.md_laws.specs.Lives.{MirrorLife}
use Rattle.md_laws.specs.Runs.{IsStart, MirrorRun, Moment, opened_as}

-- the moment after a request has begun and the superblock of member 0 is stored
abbrev pub begun_and_recorded : (old new : MirrorView) → (ℕ → Option Request) → Moment
begun_and_recorded old new requests =
    record (opened_as old) {
      mirror = new;
      requests = requests;
      spoiled = put 0 false (opened_as old).spoiled;
      misread = put 0 false (opened_as old).misread;
      offset_unknown = put 0 false (opened_as old).offset_unknown;
    }

-- A request begins and the superblock of member 0 is stored: a run of two events, from the opening on.
pub record RunsTwice (old new : MirrorView) : Type 0 where
  pub number : ℕ
  pub request : Request
  pub requests : ℕ → Option Request
  pub run : MirrorRun (opened_as old) (Event.Begin number request ∷ Event.Record 0 ∷ []) (begun_and_recorded old new requests)

-- These devices were opened, with stored marks that cover what differs. There was such a run, and then the devices were opened
-- again as this mirror.
pub record HasSmallLife (before : List Disk) (next : MirrorView) : Type 0 where
  pub first : MirrorView
  pub start : IsStart before first
  pub number : ℕ
  pub request : Request
  pub life : MirrorLife first (Event.Begin number request ∷ Event.Record 0 ∷ []) ([] ∷ []) next (opened_as next)
