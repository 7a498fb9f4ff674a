-- What reads leave of a device, one after another.
use Rattle.std.proofs.Common.{◌≡◌, ℕ, true, false, List, length, Option, Some, None, is_none, IsSome, Result, Ok, IfSome, refl, sym, ◌∙◌, arith, subst}
use Rattle.md_device.specs.declared.device.Device.{Ghosts}
use Rattle.md_device.specs.Crashes.{LeavesMore}
use Rattle.md_device.specs.Failing.{EachNewFault}
use Rattle.md_device.specs.declared.fault_list.Fault.{Fault}
use Rattle.md_device.proofs.Leaving.{leaves_none, leaves_then}
use Rattle.md_device.proofs.Failing.{fails_none, fails_then, fails_weaker}
use Rattle.md_bitmap.specs.declared.chunks.Chunks.{Chunks}
use Rattle.md_collect.specs.Reports.{ReportView}
use Rattle.md_collect.specs.Places.{bytes_of_chunk}
use Rattle.md_collect.specs.Reading.{ReadsChunk, IsChunkOf, IsReadOfChunk}
use Rattle.md_collect.specs.Workers.Queues.{OnlyRead, IsReport, is_failed}

if_some : {X : Type 0} (P : X → Type 0) (o : Option X) (x : X) → IfSome o P → o ≡ Some x → P x
if_some P o x h e = subst (λ p. IfSome p P) e h

-- where bytes came no call failed
only_where_none : (past now : List Fault) (P : Fault → Type 0) (o : Option (List ℕ)) → (IsSome o → now ≡ past) → EachNewFault past now P → EachNewFault past now (λ f. (is_none o ≡ true) × P f)
only_where_none past now P None same fails = fails_weaker past now P (λ f. (true ≡ true) × P f) (λ f is. (refl, is)) fails
only_where_none past now P (Some bytes) same fails = subst (λ xs. EachNewFault past xs (λ f. (false ≡ true) × P f)) (sym (same refl)) (fails_none past (λ f. (false ≡ true) × P f))

-- a call that was to read
abbrev pub Reads : Fault → Type 0
Reads f = f.writes ≡ false

module _ {D : Type 0} {g : Ghosts D} where
  pub not_read : (d : D) → OnlyRead g d d
  not_read d = record { content_kept = refl; honest_kept = refl; counted = omega arith; reads_alone = fails_none (g.faults d) Reads; crashes = λ h. leaves_none (g.crashes d) (λ left. left ≡ g.content d) }

  pub read_then : {a b c : D} → OnlyRead g a b → OnlyRead g b c → OnlyRead g a c
  read_then {a = a} {b = b} {c = c} first second = record {
    content_kept = second.content_kept ∙ first.content_kept;
    honest_kept = second.honest_kept ∙ first.honest_kept;
    counted = let m = first.counted in let n = second.counted in omega arith;
    reads_alone = fails_then (g.faults a) (g.faults b) (g.faults c) Reads first.reads_alone second.reads_alone;
    crashes = λ h. leaves_then (g.crashes a) (g.crashes b) (g.crashes c) (λ left. left ≡ g.content a) (first.crashes h)
        (subst (λ x. LeavesMore (g.crashes b) (g.crashes c) (λ left. left ≡ x)) first.content_kept (second.crashes (first.honest_kept ∙ h)));
  }

  -- what `read_chunk` leaves of the source, whatever it answers
  pub reads_only : {E : Type 0} {old new : D} {role offset : ℕ} {chunks : Chunks} {chunk : ℕ} {result : Result ReportView E} → ReadsChunk g old new role offset chunks chunk result → OnlyRead g old new
  reads_only {old = old} {new = new} {offset = offset} {chunks = chunks} {chunk = chunk} reads = record {
    content_kept = reads.kept;
    honest_kept = reads.honest;
    counted = reads.counted;
    reads_alone = fails_weaker (g.faults old) (g.faults new) (IsReadOfChunk offset chunks chunk) Reads (λ f within. within.reads) reads.no_other_failed;
    crashes = reads.within;
  }

  pub reads_report : {old new : D} {role offset : ℕ} {chunks : Chunks} {chunk : ℕ} {E : Type 0} (result : Result ReportView E) (r : ReportView) → result ≡ Ok r → ReadsChunk g old new role offset chunks chunk result → IsReport g old new offset chunks chunk role r
  reads_report {old = old} {new = new} {role = role} {offset = offset} {chunks = chunks} {chunk = chunk} result r is all =
      let reads = subst (λ x. ReadsChunk g old new role offset chunks chunk x) is all in
      record {
        chunk_is = reads.named.0;
        role_is = reads.named.1;
        whole = λ bytes e. if_some (λ b. length b ≡ bytes_of_chunk chunks chunk) r.bytes bytes reads.whole e;
        delivered = λ bytes e. if_some (IsChunkOf g old offset chunks chunk) r.bytes bytes reads.delivered e;
        failed = reads.failed;
        failed_there = reads.failed_there;
      }

  pub reads_failed : {old new : D} {role offset : ℕ} {chunks : Chunks} {chunk : ℕ} {E : Type 0} (result : Result ReportView E) (r : ReportView) → result ≡ Ok r → ReadsChunk g old new role offset chunks chunk result
      → EachNewFault (g.faults old) (g.faults new) (λ f. (is_failed r ≡ true) × IsReadOfChunk offset chunks chunk f)
  reads_failed {old = old} {new = new} {role = role} {offset = offset} {chunks = chunks} {chunk = chunk} result r is all =
      let reads = subst (λ x. ReadsChunk g old new role offset chunks chunk x) is all in
      only_where_none (g.faults old) (g.faults new) (IsReadOfChunk offset chunks chunk) r.bytes reads.none_failed reads.no_other_failed
