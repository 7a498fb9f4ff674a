-- A checkpoint is an event of the array's model, and one that fails spoils its member.
use Rattle.std.proofs.Common.{◌∙◌, ℕ, List, max, refl, sym, ap}
use Rattle.std.proofs.lemmas.Option.{slice_get_within}
use Rattle.md_bitmap.specs.Marks.{Bitmap}
use Rattle.md_kept_members.specs.Members.{recorded_member}
use Rattle.md_kept_members.specs.View.{MemberView}
use Rattle.md_model.specs.Content.{Content}
use Rattle.md_state.specs.Steps.Checkpoint.{checked, with_member_at}
use Rattle.md_state.specs.View.{MirrorView}
use Rattle.md_array.specs.Steps.Checkpoint.{Checkpoints, checkpoint_event}
use Rattle.md_array.specs.Consistency.{IsConsistent}
use Rattle.md_array.specs.Steps.Enrol.{HoldsContent}
use Rattle.md_array.specs.Events.{Happens}
use Rattle.md_array.specs.Steps.Record.{Records}
use Rattle.md_array.proofs.General.Indices.{at_set_same}
use Rattle.md_array.proofs.Rebuilding.CheckpointEvent as event
use Rattle.md_array.proofs.Rebuilding.InBetween.{recovers_rebuilt}
use Rattle.md_array.proofs.Rebuilding.OffsetMoved.{moved_is_consistent, set_again}
use Rattle.md_array.proofs.StepLemmas.Record.{record_happens}
use Rattle.md_array.proofs.StepLemmas.RecordTarget.{rebuilt_recorded}

module _ (k : ℕ) (copied : Bitmap) (old new : MirrorView) (c : IsConsistent old) (r : Checkpoints k copied old new) (sound : IsConsistent new) where
  abbrev m : MemberView
  m = r.may.member

  abbrev n : MemberView
  n = checked r.sure m

  -- in memory alone it has the offsets
  abbrev mid : MirrorView
  mid = record old { array = with_member_at old.array k n }

  mid_sound : IsConsistent mid
  mid_sound = moved_is_consistent k (max m.offset r.sure) r.sure m.due old mid c m r.may.at refl r.may.recovering

  records : Records k mid new
  records = record {
    member = n;
    may = record {
      running = r.may.idle.running;
      at = at_set_same old.array.members k n (slice_get_within old.array.members k m r.may.at);
      active = rebuilt_recorded m.state (recovers_rebuilt m.state r.may.recovering);
      readable = r.readable;
    };
    disks = r.disks;
    array = r.array ∙ ap (λ (xs : List MemberView). record old.array { members = xs }) (sym (set_again old.array.members k n (recorded_member n)));
  }

  pub checkpoint_done : (content : Content) → HoldsContent old.disks old.array content → Happens old (checkpoint_event r) new
  checkpoint_done content has = event.checkpoint_happens k copied old mid new c r.may r.sure r.first refl records sound (record_happens k mid new mid_sound records) content has
