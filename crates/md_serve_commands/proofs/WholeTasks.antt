-- What a request writes is whole sectors.
use Rattle.std.proofs.Common.{◌≡◌, ◌∙◌, ◌/◌, ◌%◌, ℕ, Bool, true, false, ◌&&◌, ◌==◌, List, length, if◌then◌else◌, nat_lt, refl, sym, ap, true≢false}
use Rattle.std.proofs.lemmas.Bool.{and_parts, eqb-true}
use Rattle.md_model.proofs.Cases.{by_test}
use Rattle.md_nbd.specs.declared.export.Export.{Export}
use Rattle.md_nbd.specs.declared.reply.ErrorCode.TheVariants.{Invalid, NoSpace, NotPermitted, TooLarge}
use Rattle.md_nbd.specs.declared.request.Request.{Request}
use Rattle.md_nbd.specs.declared.task.Task.{Task}
use Rattle.md_nbd.specs.declared.task.Task.TheVariants as task
use Rattle.md_nbd.specs.Export.{most_bytes, sector_bytes}
use Rattle.md_nbd.specs.NbdRequests.{CMD_DISC, CMD_FLUSH, CMD_READ, CMD_WRITE, FLAG_FUA, payload_of}
use Rattle.md_nbd.specs.NbdTasks.{has_known_flags, has_whole_sectors, is_past_end, read_task_of, task_of, write_task_of}
use Rattle.md_serve_commands.proofs.SessionContents.{IsWholeTask}

abbrev is_write : Task → Bool
is_write (task.Read sector sectors) = false
is_write (task.Write sector sectors through) = true
is_write task.Flush = false
is_write task.Disconnect = false
is_write (task.Refuse error) = false

no_write : (b : Bool) (t u : Task) → is_write t ≡ false → is_write u ≡ false → is_write (if b then t else u) ≡ false
no_write true t u off off_too = off
no_write false t u off off_too = off_too

chosen : (b : Bool) (t u : Task) → b ≡ false → is_write u ≡ false → is_write (if b then t else u) ≡ false
chosen b t u is off = ap (λ (x : Bool). is_write (if x then t else u)) is ∙ off

-- the tasks that a request may come to, in the order in which it is looked at
abbrev invalid : Task
invalid = task.Refuse Invalid

abbrev written : Request → Task
written r = if has_whole_sectors r then task.Write (r.offset / sector_bytes) (r.length / sector_bytes) (r.flags == FLAG_FUA) else invalid

abbrev written_inside : Export → Request → Task
written_inside e r = if is_past_end e r then task.Refuse NoSpace else written r

abbrev read : Request → Task
read r = if has_whole_sectors r then task.Read (r.offset / sector_bytes) (r.length / sector_bytes) else invalid

abbrev read_inside : Export → Request → Task
read_inside e r = if is_past_end e r then invalid else read r

abbrev flushed : Request → Task
flushed r = if r.kind == CMD_FLUSH then task.Flush else invalid

abbrev not_read : Export → Request → Task
not_read e r = if r.kind == CMD_WRITE then write_task_of e r else flushed r

abbrev known : Export → Request → Task
known e r = if r.kind == CMD_READ then read_task_of e r else not_read e r

abbrev permitted : Export → Request → Task
permitted e r = if has_known_flags e r then known e r else invalid

abbrev staying : Export → Request → Task
staying e r = if (r.kind == CMD_WRITE) && e.readonly then task.Refuse NotPermitted else permitted e r

no_part : (e : Export) (r : Request) → has_whole_sectors r ≡ false → is_write (write_task_of e r) ≡ false
no_part e r part =
    no_write (nat_lt most_bytes r.length) (task.Refuse TooLarge) (written_inside e r) refl
    (no_write (is_past_end e r) (task.Refuse NoSpace) (written r) refl
    (chosen (has_whole_sectors r) (task.Write (r.offset / sector_bytes) (r.length / sector_bytes) (r.flags == FLAG_FUA)) invalid part refl))

no_read : (e : Export) (r : Request) → is_write (read_task_of e r) ≡ false
no_read e r =
    no_write (nat_lt most_bytes r.length) (task.Refuse TooLarge) (read_inside e r) refl
    (no_write (is_past_end e r) invalid (read r) refl
    (no_write (has_whole_sectors r) (task.Read (r.offset / sector_bytes) (r.length / sector_bytes)) invalid refl refl))

none_in_part : (e : Export) (r : Request) → has_whole_sectors r ≡ false → is_write (task_of e r) ≡ false
none_in_part e r part =
    no_write (r.kind == CMD_DISC) task.Disconnect (staying e r) refl
    (no_write ((r.kind == CMD_WRITE) && e.readonly) (task.Refuse NotPermitted) (permitted e r) refl
    (no_write (has_known_flags e r) (known e r) invalid
    (no_write (r.kind == CMD_READ) (read_task_of e r) (not_read e r) (no_read e r)
    (no_write (r.kind == CMD_WRITE) (write_task_of e r) (flushed r) (no_part e r part)
    (no_write (r.kind == CMD_FLUSH) task.Flush invalid refl refl)))
    refl))

whole_length : (r : Request) → has_whole_sectors r ≡ true → r.length % 512 ≡ 0
whole_length r whole = same_from_test (r.length % 512) (and_parts _ _ (and_parts _ _ whole).0).1
  where
    same_from_test : (n : ℕ) → (n == 0) ≡ true → n ≡ 0
    same_from_test n is = eqb-true n 0 is

whole_payload : (r : Request) → r.length % 512 ≡ 0 → payload_of r % 512 ≡ 0
whole_payload r whole = by_test (r.kind == CMD_WRITE)
    (λ is. ap (λ (b : Bool). (if b then r.length else 0) % 512) is ∙ whole)
    (λ off. ap (λ (b : Bool). (if b then r.length else 0) % 512) off)

pub whole_task : (e : Export) (r : Request) (payload : List ℕ) → length payload ≡ payload_of r → (t : Task) → task_of e r ≡ t → IsWholeTask t payload
whole_task e r payload long (task.Read sector sectors) is = tt
whole_task e r payload long (task.Write sector sectors through) is = by_test (has_whole_sectors r)
    (λ whole. ap (λ (n : ℕ). n % 512) long ∙ whole_payload r (whole_length r whole))
    (λ part. absurd (true≢false (sym (ap is_write is) ∙ none_in_part e r part)))
whole_task e r payload long task.Flush is = tt
whole_task e r payload long task.Disconnect is = tt
whole_task e r payload long (task.Refuse error) is = tt
