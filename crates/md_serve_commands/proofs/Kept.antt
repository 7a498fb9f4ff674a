-- What a client is told of is written or waits.
use Rattle.std.proofs.Common.{◌≡◌, ◌∙◌, inl, inr, ⊎_elim, ℕ, ◌+◌, ◌*◌, Bool, true, false, List, [], ◌∷◌, ◌++◌, length, refl, sym, ap, subst, arith, append_assoc, true≢false}
use Rattle.std.specs.List.{flat_map}
use Rattle.std.proofs.lemmas.List.{append-nil}
use Rattle.md_state.specs.View.{MirrorView}
use Rattle.md_write.specs.Writing.{Writes}
use Rattle.md_nbd.specs.declared.export.Export.{Export}
use Rattle.md_nbd.specs.declared.reply.ErrorCode.{ErrorCode}
use Rattle.md_nbd.specs.declared.reply.ErrorCode.TheVariants.{Io}
use Rattle.md_nbd.specs.declared.task.Task.{Task}
use Rattle.md_nbd.specs.declared.task.Task.TheVariants as task
use Rattle.md_nbd.specs.Export.{sector_bytes}
use Rattle.md_nbd.specs.NbdTasks.{task_of}
use Rattle.md_nbd.specs.SimpleReplies.{error_reply, success_reply}
use Rattle.md_nbd.specs.Server.Exchanges.{AnswersRequest, DoesTask, Exchange}
use Rattle.md_serve_commands.specs.declared.writer.ArrayWriter.{ArrayWriter}
use Rattle.md_serve_commands.specs.Waiting.{FailsToFlush, FailsToRead, FailsToTake, FailsWaiting, FlushesAll, JoinsWaiting, WritesWaiting, StillWaits, TakesWrite, WaitsAnew, WritesThrough, writer_store}
use Rattle.md_serve_commands.specs.Told.{AddsTold, ArrayWrite, DropsNothing, IsFlushTold, IsWriteTold, KeepsBytes, WritesInTurn, WritesNothing, cells, cells_of, waiting_cells}
use Rattle.md_serve_commands.proofs.Halted.{not_both}
use Rattle.md_serve_commands.proofs.Running.{flushed_runs, through_runs}

cells_join : (at : ℕ) (xs ys : List ℕ) → cells at (xs ++ ys) ≡ cells at xs ++ cells (at + length xs) ys
cells_join at [] ys = ap (λ (n : ℕ). cells n ys) (omega arith)
cells_join at (x ∷ xs) ys =
    let next : (at + 1) + length xs ≡ at + length (x ∷ xs) = omega arith in
    ap (λ (t : List (ℕ × ℕ)). (at, x) ∷ t) (cells_join (at + 1) xs ys ∙ ap (λ (n : ℕ). cells (at + 1) xs ++ cells n ys) next)

waits_none : (w : ArrayWriter) → w.run.items ≡ [] → waiting_cells w ≡ []
waits_none w none = ap (λ (t : List ℕ). cells (sector_bytes * w.start) t) none

waits_still : (old new : ArrayWriter) → StillWaits old new → waiting_cells new ≡ waiting_cells old
waits_still old new h =
    ap (λ (t : List ℕ). cells (sector_bytes * new.start) t) h.run ∙ ap (λ (s : ℕ). cells (sector_bytes * s) old.run.items) h.start

-- what waited, as writes
abbrev run_of : (w : ArrayWriter) (old mid : MirrorView) → WritesWaiting w old mid → List ArrayWrite
run_of w old mid (inl h) = []
run_of w old mid (inr h) = (w.start, w.run.items) ∷ []

run_done : (w : ArrayWriter) (old mid new : MirrorView) (h : WritesWaiting w old mid) (ws : List ArrayWrite) → WritesInTurn mid ws new → WritesInTurn old (run_of w old mid h ++ ws) new
run_done w old mid new (inl h) ws on = subst (λ (v : MirrorView). WritesInTurn v ws new) h.1 on
run_done w old mid new (inr h) ws on = (mid, h.0, on)

run_cells : (w : ArrayWriter) (old mid : MirrorView) (h : WritesWaiting w old mid) (ws : List ArrayWrite) → flat_map cells_of (run_of w old mid h ++ ws) ≡ waiting_cells w ++ flat_map cells_of ws
run_cells w old mid (inl h) ws = sym (ap (λ (t : List (ℕ × ℕ)). t ++ flat_map cells_of ws) (waits_none w h.0))
run_cells w old mid (inr h) ws = refl

-- what waited is done, then these writes, and what waits then is the rest of what was told of
kept_behind : (p q : ArrayWriter × MirrorView) (mid new : MirrorView) (h : WritesWaiting p.0 p.1 mid) (ws : List ArrayWrite) (told : List (ℕ × ℕ)) → WritesInTurn mid ws new
    → told ≡ flat_map cells_of ws ++ waiting_cells q.0 → KeepsBytes told p q new
kept_behind p q mid new h ws told done is = record {
  writes = run_of p.0 p.1 mid h ++ ws;
  done = run_done p.0 p.1 mid new h ws done;
  bytes = ap (λ (t : List (ℕ × ℕ)). waiting_cells p.0 ++ t) is
      ∙ sym (append_assoc (waiting_cells p.0) (flat_map cells_of ws) (waiting_cells q.0))
      ∙ ap (λ (t : List (ℕ × ℕ)). t ++ waiting_cells q.0) (sym (run_cells p.0 p.1 mid h ws));
}

waiting_kept : (p q : ArrayWriter × MirrorView) (mid : MirrorView) → WritesWaiting p.0 p.1 mid → q.0.run.items ≡ [] → KeepsBytes [] p q mid
waiting_kept p q mid h none = kept_behind p q mid mid h [] [] refl (sym (waits_none q.0 none))

still_kept : (p q : ArrayWriter × MirrorView) → StillWaits p.0 q.0 → KeepsBytes [] p q p.1
still_kept p q h = record { writes = []; done = refl; bytes = append-nil (waiting_cells p.0) ∙ sym (waits_still p.0 q.0 h) }

-- ---- writes that are told of
one_write : (old new : MirrorView) (w : ArrayWrite) → Writes w.0 w.1 old new → WritesInTurn old (w ∷ []) new
one_write old new w h = (new, h, refl)

through_told : (p q : ArrayWriter × MirrorView) (sector : ℕ) (bytes : List ℕ) (through : Bool) → WritesThrough p q sector bytes → IsWriteTold sector bytes through p q
through_told p q sector bytes through h = record {
  keeps = kept_behind p q h.mid q.1 h.waited ((sector, bytes) ∷ []) (cells_of (sector, bytes)) (one_write h.mid q.1 (sector, bytes) h.written.0)
      (sym (ap (λ (t : List (ℕ × ℕ)). flat_map cells_of ((sector, bytes) ∷ []) ++ t) (waits_none q.0 h.none)
      ∙ append-nil (flat_map cells_of ((sector, bytes) ∷ [])) ∙ append-nil (cells_of (sector, bytes))));
  stands = λ _. h.none;
  running = λ _. through_runs p q sector bytes h;
}

joined_told : (p q : ArrayWriter × MirrorView) (sector : ℕ) (bytes : List ℕ) → JoinsWaiting p q sector bytes → IsWriteTold sector bytes false p q
joined_told p q sector bytes h =
    let place : cells (sector_bytes * sector) bytes ≡ cells (sector_bytes * p.0.start + length p.0.run.items) bytes = ap (λ (n : ℕ). cells n bytes) h.behind in
    let all : waiting_cells q.0 ≡ cells (sector_bytes * p.0.start) (p.0.run.items ++ bytes) =
    ap (λ (t : List ℕ). cells (sector_bytes * q.0.start) t) h.joined.run ∙ ap (λ (s : ℕ). cells (sector_bytes * s) (p.0.run.items ++ bytes)) h.joined.start in
    record {
      keeps = record {
        writes = [];
        done = h.mirror;
        bytes = ap (λ (t : List (ℕ × ℕ)). waiting_cells p.0 ++ t) place ∙ sym (cells_join (sector_bytes * p.0.start) p.0.run.items bytes) ∙ sym all;
      };
      stands = λ no. absurd (true≢false (sym no));
      running = λ no. absurd (true≢false (sym no));
    }

anew_told : (p q : ArrayWriter × MirrorView) (sector : ℕ) (bytes : List ℕ) → WaitsAnew p q sector bytes → IsWriteTold sector bytes false p q
anew_told p q sector bytes h =
    let all : waiting_cells q.0 ≡ cells (sector_bytes * sector) bytes =
    ap (λ (t : List ℕ). cells (sector_bytes * q.0.start) t) h.run ∙ ap (λ (s : ℕ). cells (sector_bytes * s) bytes) h.start in
    record {
      keeps = kept_behind p q q.1 q.1 h.waited [] (cells_of (sector, bytes)) refl (sym all);
      stands = λ no. absurd (true≢false (sym no));
      running = λ no. absurd (true≢false (sym no));
    }

taken_told : (p q : ArrayWriter × MirrorView) (sector : ℕ) (bytes : List ℕ) (through : Bool) → TakesWrite p q sector bytes through → IsWriteTold sector bytes through p q
taken_told p q sector bytes true h = through_told p q sector bytes true h
taken_told p q sector bytes false (inl h) = joined_told p q sector bytes h
taken_told p q sector bytes false (inr (inl h)) = anew_told p q sector bytes h
taken_told p q sector bytes false (inr (inr h)) = through_told p q sector bytes false h

module _ (e : Export) (old new : ArrayWriter × MirrorView) (x : Exchange) (answers : AnswersRequest writer_store e old new x) where
  pub write_told : (sector sectors : ℕ) (through : Bool) → task_of e x.request ≡ task.Write sector sectors through → x.reply ≡ success_reply x.request.cookie
      → IsWriteTold sector x.payload through old new
  write_told sector sectors through is told = by (subst (λ (u : Task). DoesTask writer_store u x.request.cookie x.payload old new x.reply) is answers.does)
    where
      by : DoesTask writer_store (task.Write sector sectors through) x.request.cookie x.payload old new x.reply → IsWriteTold sector x.payload through old new
      by (inl h) = taken_told old new sector x.payload through h.0
      by (inr h) = absurd (not_both x.request.cookie (sym told ∙ h.1))

  pub flush_told : task_of e x.request ≡ task.Flush → x.reply ≡ success_reply x.request.cookie → IsFlushTold old new
  flush_told is told = by (subst (λ (u : Task). DoesTask writer_store u x.request.cookie x.payload old new x.reply) is answers.does)
    where
      by : DoesTask writer_store task.Flush x.request.cookie x.payload old new x.reply → IsFlushTold old new
      by (inl h) = record { mid = h.0.mid; keeps = waiting_kept old new h.0.mid h.0.waited h.0.none; none = h.0.none; marks = h.0.marks; running = flushed_runs old new h.0 }
      by (inr h) = absurd (not_both x.request.cookie (sym told ∙ h.1))

-- ---- no request drops what waits
module _ (t : Task) (p q : ArrayWriter × MirrorView) (x : Exchange) (untold : AddsTold t x.request.cookie x.payload x.reply []) where
  still : StillWaits p.0 q.0 → WritesNothing p.1 q.1 t x.payload p.0 → DropsNothing t p q x
  still h ends = record { told = []; adds = untold; mid = p.1; keeps = still_kept p q h; ends = ends }

  waited : (mid : MirrorView) → WritesWaiting p.0 p.1 mid → q.0.run.items ≡ [] → WritesNothing mid q.1 t x.payload p.0 → DropsNothing t p q x
  waited mid h none ends = record { told = []; adds = untold; mid = mid; keeps = waiting_kept p q mid h none; ends = ends }

  refused : FailsWaiting p q → DropsNothing t p q x
  refused h = still h.still (inl (record { fault = h.fault; refused = h.refused.refused; pending = h.refused.pending }))

module _ (p q : ArrayWriter × MirrorView) (x : Exchange) where
  unread : (sector sectors : ℕ) → FailsToRead p q sector sectors → DropsNothing (task.Read sector sectors) p q x
  unread sector sectors (inl h) = refused (task.Read sector sectors) p q x refl h
  unread sector sectors (inr h) = waited (task.Read sector sectors) p q x refl h.mid h.waited h.none (inr (inr h.refused))

  untaken : (sector sectors : ℕ) (through : Bool) → x.reply ≡ error_reply Io x.request.cookie → FailsToTake p q sector x.payload
      → DropsNothing (task.Write sector sectors through) p q x
  untaken sector sectors through told (inl h) = still (task.Write sector sectors through) p q x (inr (told, refl)) h.still (inr (inl h.mirror))
  untaken sector sectors through told (inr (inl h)) = refused (task.Write sector sectors through) p q x (inr (told, refl)) h
  untaken sector sectors through told (inr (inr (inl h))) = waited (task.Write sector sectors through) p q x (inr (told, refl)) q.1 h.waited h.none (inr (inl refl))
  untaken sector sectors through told (inr (inr (inr h))) = waited (task.Write sector sectors through) p q x (inr (told, refl)) h.mid h.waited h.none (inr (inr h.refused))

  taken : (sector sectors : ℕ) (through : Bool) → x.reply ≡ success_reply x.request.cookie → TakesWrite p q sector x.payload through
      → DropsNothing (task.Write sector sectors through) p q x
  taken sector sectors through told h = record {
    told = cells_of (sector, x.payload);
    adds = inl (told, refl);
    mid = q.1;
    keeps = (taken_told p q sector x.payload through h).keeps;
    ends = inr (inl refl);
  }

  unflushed : FailsToFlush p q → DropsNothing task.Flush p q x
  unflushed (inl h) = still task.Flush p q x refl h.still (inr (inl h.mirror))
  unflushed (inr (inl h)) = refused task.Flush p q x refl h
  unflushed (inr (inr h)) = waited task.Flush p q x refl h.mid h.waited h.none (inr (inr (inr h.refused)))

  flushed : FlushesAll p q → DropsNothing task.Flush p q x
  flushed h = waited task.Flush p q x refl h.mid h.waited h.none (inr (⊎_elim (λ same. inl same) (λ cleared. inr (inl cleared)) h.marks))

  unchanged : (error : ErrorCode) → q ≡ p → DropsNothing (task.Refuse error) p q x
  unchanged error same =
      still (task.Refuse error) p q x refl
      (record { start = ap (λ (r : ArrayWriter × MirrorView). r.0.start) same; run = ap (λ (r : ArrayWriter × MirrorView). r.0.run.items) same })
      (inr (ap (λ (r : ArrayWriter × MirrorView). r.1) same))

task_drops : (t : Task) (p q : ArrayWriter × MirrorView) (x : Exchange) → DoesTask writer_store t x.request.cookie x.payload p q x.reply → DropsNothing t p q x
task_drops (task.Read sector sectors) p q x (inl h) =
    waited (task.Read sector sectors) p q x refl h.read.mid h.read.waited h.read.none (inr (inl (h.bytes, h.read.given)))
task_drops (task.Read sector sectors) p q x (inr h) = unread p q x sector sectors h.0
task_drops (task.Write sector sectors through) p q x (inl h) = taken p q x sector sectors through h.1 h.0
task_drops (task.Write sector sectors through) p q x (inr h) = untaken p q x sector sectors through h.1 h.0
task_drops task.Flush p q x (inl h) = flushed p q x h.0
task_drops task.Flush p q x (inr h) = unflushed p q x h.0
task_drops task.Disconnect p q x h = absurd h
task_drops (task.Refuse error) p q x h = unchanged p q x error h.0

pub nothing_dropped : (e : Export) (old new : ArrayWriter × MirrorView) (x : Exchange) → AnswersRequest writer_store e old new x → DropsNothing (task_of e x.request) old new x
nothing_dropped e old new x answers = task_drops (task_of e x.request) old new x answers.does
