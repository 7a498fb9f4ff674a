-- What stands once a command is done that stores lists before, and what an opening is that regards what images lack.
use Rattle.std.proofs.Common.{◌≡◌, ◌∙◌, ◌+◌, ◌≤◌, ℕ, List, length, Option, Result, inl, inr, ap, ap₂, refl, subst, sym}
use Rattle.std.specs.Prelude.{is_some}
use Rattle.md_array.specs.declared.fault.OpenFault.{OpenFault}
use Rattle.md_refusals.specs.declared.fault.CommandFault.{CommandFault}
use Rattle.md_streams.specs.declared.source.Source.{Ghosts as SourceGhosts}
use Rattle.md_streams.specs.declared.sink.Sink.{Ghosts as SinkGhosts}
use Rattle.md_images.specs.Taking.{Text}
use Rattle.md_state.specs.View.{Disk, MirrorView}
use Rattle.md_words.specs.Asks.{Ask, device_to_add}
use Rattle.md_cli.specs.Asking.{PerformsAndStores, StoresAndPerforms}
use Rattle.md_cli.specs.declared.lists.holes.Growth.{Growth}
use Rattle.md_cli.specs.Lacking.{Maps, OpensLacking, RefusesLackingImages}
use Rattle.md_cli.specs.Opened.{OpenedView, beside_place, count}
use Rattle.md_cli.specs.Streams.{Streams}
use Rattle.md_cli.proofs.Performed.{AllBack, all_kept, performs_asked, refused_back}
use Rattle.md_cli.proofs.Worked.{refused_as_many}

-- ---- lists that are stored before a command is done
-- where a part of it is done, no device came or went
stored_back : (ask : Ask) (before after : OpenedView) → is_some before.beside ≡ is_some (device_to_add ask) → after.beside ≡ before.beside → length after.mirror.disks ≡ length before.mirror.disks
    → AllBack ask before.mirror.disks after.mirror.disks before.beside after.beside
stored_back ask before after brings beside many =
    let back = refused_back ask before.mirror.disks before.mirror.disks before.beside brings refl in
    record {
      as_many = ap₂ (λ (n : ℕ) (o : Option Disk). n + count o) many beside ∙ back.as_many;
      within = λ there. subst (λ (n : ℕ). beside_place ask n ≤ n) (sym many) (back.within (sym (ap is_some beside) ∙ there));
      moves = λ there. back.moves (sym (ap is_some beside) ∙ there);
    }

-- what is stored first wins or loses no device
begun_back : (ask : Ask) (before ready after : OpenedView) → ready.beside ≡ before.beside → length ready.mirror.disks ≡ length before.mirror.disks → AllBack ask ready.mirror.disks after.mirror.disks ready.beside after.beside
    → AllBack ask before.mirror.disks after.mirror.disks before.beside after.beside
begun_back ask before ready after beside many back = record {
  as_many = back.as_many ∙ ap₂ (λ (n : ℕ) (o : Option Disk). n + count o) many beside;
  within = back.within;
  moves = back.moves;
}

module _ {R S A : Type 0} (r : SourceGhosts R) (s : SinkGhosts S) (names : List Text) (lacking : Maps) (before after : OpenedView) (old new : Streams R S A) where
  kept_stored : (ask : Ask) (result : Result (Unit {0}) CommandFault) → is_some before.beside ≡ is_some (device_to_add ask) → StoresAndPerforms r s names lacking ask before after old new result → AllBack ask before.mirror.disks after.mirror.disks before.beside after.beside
  kept_stored ask result brings (inl h) =
      begun_back ask before h.ready after h.stores.beside h.stores.as_many (all_kept r s names h.ready after old new ask result (ap is_some h.stores.beside ∙ brings) h.performs)
  kept_stored ask result brings (inr (inl h)) = stored_back ask before after brings h.fails.beside h.fails.as_many
  kept_stored ask result brings (inr (inr h)) = all_kept r s names before after old new ask result brings h.1

  stored_asked : (asker : A) (result : Result (Unit {0}) CommandFault) (ask : Ask) → StoresAndPerforms r s names lacking ask before after (record old { asker = asker }) new result → StoresAndPerforms r s names lacking ask before after old new result
  stored_asked asker result ask (inl h) = inl (record { early = h.early; ready = h.ready; stores = h.stores; performs = performs_asked r s names h.ready after old new asker result ask h.performs })
  stored_asked asker result ask (inr (inl h)) = inr (inl (record { early = h.early; fault = h.fault; is = h.is; fails = h.fails; unused = h.unused }))
  stored_asked asker result ask (inr (inr h)) = inr (inr (h.0, performs_asked r s names before after old new asker result ask h.1))

module _ {R S A : Type 0} (r : SourceGhosts R) (s : SinkGhosts S) (names : List Text) (lacking : Maps) (before after : OpenedView) (old new : Streams R S A) where
  -- no command wins or loses a device, whatever is stored
  pub all_kept_then : (ask : Ask) (result : Result (Unit {0}) CommandFault) → is_some before.beside ≡ is_some (device_to_add ask) → PerformsAndStores r s names lacking ask before after old new result → AllBack ask before.mirror.disks after.mirror.disks before.beside after.beside
  all_kept_then ask result brings (inl h) =
      begun_back ask before h.ready after h.beside h.as_many (kept_stored r s names lacking h.ready after old new ask result (ap is_some h.beside ∙ brings) h.goes)
  all_kept_then ask result brings (inr h) = stored_back ask before after brings h.beside h.as_many

  -- what is done after a question is done as without it
  pub performs_then_asked : (asker : A) (result : Result (Unit {0}) CommandFault) (ask : Ask) → PerformsAndStores r s names lacking ask before after (record old { asker = asker }) new result → PerformsAndStores r s names lacking ask before after old new result
  performs_then_asked asker result ask (inl h) = inl (record { ready = h.ready; beside = h.beside; as_many = h.as_many; readies = h.readies; goes = stored_asked r s names lacking h.ready after old new asker result ask h.goes })
  performs_then_asked asker result ask (inr h) = inr (record { beside = h.beside; as_many = h.as_many; to_ready = h.to_ready; fault = h.fault; is = h.is; fails = h.fails; unused = h.unused })

-- ---- openings
pub opened_as_many : (how : Growth) (lacking : Maps) (before : List Disk) (m : MirrorView) → OpensLacking how lacking before m → length m.disks ≡ length before
opened_as_many how lacking before m h = ap length h.regards.disks ∙ h.opens.marked.same.as_many

pub lacking_as_many : (lacking : Maps) (before after : List Disk) (fault : OpenFault) → RefusesLackingImages lacking before after fault → length after ≡ length before
lacking_as_many lacking before after fault (inl h) = refused_as_many before after fault h
lacking_as_many lacking before after fault (inr h) = ap length h.devices ∙ h.opens.marked.same.as_many
