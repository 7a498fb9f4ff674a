-- Lists of events of a mirror, from its opening on: each is done by a call, as the calls' contracts say (`Does`). Between them
-- devices may be read, and reads may fail: that is no event, and the world stays.
use Rattle.std.specs.Prelude.{◌≡◌, ℕ, Bool, true, false, not, nat_lt, List, [], ◌∷◌, Option}
use Rattle.md_model.specs.Sectors.{put}
use Rattle.md_model.specs.Devices.{Covered, offset_of}
use Rattle.md_model.specs.Membership.{skip}
use Rattle.md_model.specs.Worlds.{Request, World, IsInSync}
use Rattle.md_model.specs.Content.{Content, Becomes, Holds, TellsAtEnrolment}
use Rattle.md_model.specs.Events.{Event}
use Rattle.md_model.specs.Runs.{History, away_after, failed_after, spoiled_after, tried_after}
use Rattle.md_kept_members.specs.Membership.Numbers.{has_number}
use Rattle.md_state.specs.View.{Disk, MirrorView, geometry_of}
use Rattle.md_state.specs.Rests.{Rests}
use Rattle.md_array.specs.Open.Opened.{IsOpenedFrom}
use Rattle.md_array.specs.Events.{Does}
use Rattle.md_array.specs.ReadAsKept.{misread_after}
use Rattle.md_array.specs.Worlds.{AreHonest, none_in_flight, world_of, world_on}

-- a mirror with the requests in flight, and what of its past the laws speak of
pub record Moment : Type 0 where
  pub mirror : MirrorView
  pub requests : ℕ → Option Request
  pub failed_at : ℕ  -- the count after the last failure, or 0
  pub tried : Bool  -- data was written to a member, or a write of it failed
  pub away : ℕ → Bool  -- no member had this number at any moment since the opening
  pub spoiled : ℕ → Bool  -- of this member a write of its superblock failed and may have left any, and none was stored since
  pub misread : ℕ → Bool  -- of this member an opening may read something else than is kept: it is spoiled, or its log, which had a shift, was stored, and its superblock not since
  pub offset_unknown : ℕ → Bool  -- this member's superblock may tell of a greater offset than is kept: the opening took it as 0, or it is spoiled
  pub log_unknown : ℕ → Bool  -- of this member an `enrol`, an `admit` or a `checkpoint` failed: its log may be any, or a superblock not tell of it

-- An `enrol` that failed may have left any log. A superblock that may be any may not tell of the log, and a record after it doesn't make
-- that known. An `enrol` that is done stores the log, and a device that comes in has its own.
abbrev pub log_unknown_after : Event → World → (ℕ → Bool) → ℕ → Bool
log_unknown_after (Event.Prepare k) w before = put k true before
log_unknown_after (Event.SpoilTarget k) w before = put k true before
log_unknown_after (Event.Enrol k role listed) w before = put k false before
log_unknown_after (Event.Remove k) w before = λ j. before (skip k j)
log_unknown_after (Event.Add number left) w before = put w.members false before
log_unknown_after (Event.ReAdd own offset device left) w before = put w.members false before
log_unknown_after e w before = before

-- What the model's laws speak of at a moment: the mirror's world and its past.
abbrev pub history_of : Moment → History
history_of t = record { now = world_of t.mirror t.requests; failed_at = t.failed_at; tried = t.tried; away = t.away; spoiled = t.spoiled }

-- An opening took the member's offset as 0, or as less than its device tells of. It does so until the superblock is stored.
abbrev pub is_lessened : World → ℕ → Bool
is_lessened w k = nat_lt (w.offset k) (offset_of (w.stored k))

abbrev pub opened_as : MirrorView → Moment
opened_as m =
    record {
      mirror = m;
      requests = none_in_flight;
      failed_at = 0;
      tried = false;
      away = λ d. not (has_number m.array.members d);
      spoiled = λ _. false;
      misread = λ _. false;
      offset_unknown = is_lessened (world_of m none_in_flight);
      log_unknown = λ _. false;
    }

abbrev pub then_as : Moment → Event → MirrorView → (ℕ → Option Request) → Moment
then_as t e m requests =
    record {
      mirror = m;
      requests = requests;
      failed_at = failed_after e (world_of m requests) t.failed_at;
      tried = tried_after e t.tried;
      away = away_after e t.away;
      spoiled = spoiled_after e (world_of t.mirror t.requests) t.spoiled;
      misread = misread_after e t.mirror.array (world_of t.mirror t.requests) t.misread;
      offset_unknown = spoiled_after e (world_of t.mirror t.requests) t.offset_unknown;
      log_unknown = log_unknown_after e (world_of t.mirror t.requests) t.log_unknown;
    }

-- since the one moment devices were only read
pub record HasRested (t last : Moment) : Type 0 where
  pub rests : Rests t.mirror last.mirror
  pub is : last ≡ record t { mirror = last.mirror }

-- devices were only read, and then the event was done
pub record RestsThenDoes (old : MirrorView) (before : ℕ → Option Request) (e : Event) (new : MirrorView) (after : ℕ → Option Request) : Type 0 where
  pub mid : MirrorView
  pub rests : Rests old mid
  pub does : Does mid before e new after

-- These events, one after another, lead from the one moment to the other.
abbrev pub MirrorRun : Moment → List Event → Moment → Type 0
MirrorRun t [] last = HasRested t last
MirrorRun t (e ∷ es) last =
    (m : MirrorView) × (requests : ℕ → Option Request) × RestsThenDoes t.mirror t.requests e m requests × MirrorRun (then_as t e m requests) es last

-- A run with the array's content, before its events and after them.
abbrev pub MirrorRunWith : Moment → Content → List Event → Moment → Content → Type 0
MirrorRunWith t a [] last b = HasRested t last × (b ≡ a)
MirrorRunWith t a (e ∷ es) last b =
    (m : MirrorView) × (requests : ℕ → Option Request) × (c : Content) × RestsThenDoes t.mirror t.requests e m requests
    × Becomes (geometry_of t.mirror.array) e (world_of t.mirror t.requests) a c × MirrorRunWith (then_as t e m requests) c es last b

-- At each enrolment of a run it is told of the content, whatever that has become by then, that the new member holds it in the chunks that it
-- did not lack.
abbrev pub MirrorRunTellsEnrolments : (t : Moment) (a : Content) (es : List Event) (last : Moment) → MirrorRun t es last → Type 0
MirrorRunTellsEnrolments t a [] last run = Unit {0}
MirrorRunTellsEnrolments t a (e ∷ es) last run =
    TellsAtEnrolment (geometry_of t.mirror.array) e (world_of t.mirror t.requests) a
    × ((b : Content) → Becomes (geometry_of t.mirror.array) e (world_of t.mirror t.requests) a b → MirrorRunTellsEnrolments (then_as t e run.0 run.1) b es last run.3)

-- Devices that do what they answer were opened as this mirror, and their stored marks covered what the members in sync differ in.
pub record IsStart (before : List Disk) (m : MirrorView) : Type 0 where
  pub honest : AreHonest before
  pub opened : IsOpenedFrom before m
  pub covered : Covered (geometry_of m.array) (world_on before m.array none_in_flight).stored (IsInSync (world_of m none_in_flight))

-- There is a content that the members in sync hold at the opening.
abbrev pub HasContent : Type 0
HasContent =
    (before : List Disk) (m : MirrorView) → IsStart before m → (a : Content) × Holds (geometry_of m.array) a (world_of m none_in_flight)
