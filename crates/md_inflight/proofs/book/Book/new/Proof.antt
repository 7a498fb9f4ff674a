-- `new` begins a list of addresses: as many as there are numbers before the next. Assumes `Logic`.
use Rattle.md_inflight.proofs.Steps.{◌≡◌, ℕ, List, [], ◌∷◌, ◌++◌, refl, sym, subst, SProp, ent, emp, id⊢, ftrue, Val, vint, WpFn, fact, fact_i, tables, ‵, raw, ◌⊛◌, some, later, ◌$◌, ◌∵◌, !, qed, by, move, keep, use0, split, pick, await, fsplit, fjoin, feq_l, flt_l, suffices, agg, no_more, and_then, returns, enter, alloc_all, pass_all, free_all, look_at, get, sets, u64, yes, owns, types_at, Ptr, null_ptr, plain, nothing, Stays, stay_dropped, walk_of, Goes-dropped, proved_at, leaves}
use lib.ListN.{length, replicate}
use mir.Syntax.{w64}
use Rattle.std.proofs.lemmas.List.{length-replicate}
use Rattle.md_inflight.specs.Addresses.{book_owns}
use Rattle.md_inflight.proofs.Books.{Bk, BkFields, no_bytes, fields_made, book_begins}
use Rattle.md_inflight.specs.contracts.book.Book.new as f
use Rattle.md_inflight.proofs.book.Book.new.Statement.{statement}
use Rattle.md_inflight.proofs.book.Book.new.Code as code

pub new_spec : {M : Type 1} → statement M
new_spec 𝓤 𝓛 𝓜 𝓡 wired =
    let H = 𝓛.H in let 𝓣 = tables 𝓤 H 𝓜 𝓡 𝓡.env in let c = f.clauses 𝓛 𝓜.mem 𝓡.returns in
    let hs : Stays f.ended.signature.params f.ended.kept = (stay_dropped (plain (λ _. u64)) yes, tt) in
    proved_at 𝓛 f.ended hs c 𝓜 𝓡 (Goes-dropped 𝓛 0 (plain (λ _. u64)) yes (λ κs x w. refl), tt) f.Key.name code.function (code.unfolded 𝓤 H 𝓜 𝓡 wired) (λ z are.
    let next = z.0.3.0 in let ws : List Val = vint w64 next ∷ [] in let Run : List Val → SProp 𝓤 = λ us. WpFn 𝓤 H 𝓣.C 𝓣.Λ code.function us ((walk_of 𝓛 f.ended hs c).post z) in
    -- nobody asks where the nodes of these numbers lie
    let gone : List Ptr = replicate next null_ptr in
    qed 𝓛 ((‵ ftrue ⊛ ‵ (owns (types_at f.ended.signature.params z.0.0) z.0.3 z.0.4)) ∷ raw ((c z.0.0 z.0.3).requires z.1) ∷ []) ∵
    split ! $ move ! (1 ∷ []) $ fsplit ! $ fsplit ! $ feq_l ! (λ e. flt_l ! (λ small. keep ! [] $
    suffices ! (Run ws) (subst (λ (us : List Val). ent 𝓤 (Run ws) (Run us)) (sym (λ i. e i ++ [])) (id⊢ 𝓤 (Run ws))) $
    enter ! 𝓣.C 𝓣.Λ code.function ws _ $ alloc_all ! (λ l. pass_all ! refl ((tt, record { fits = small }), tt) $
    use0 𝓛 (later (some (λ (name : ℕ). ‵ (book_owns name gone)))) (book_begins 𝓛 gone) $ await ! tt $ pick ! (λ name.
    let out : Bk.Denot = record { mark = record {}; name = name; addresses = gone } in
    sets ! (agg ! (no_more !)) refl (tt, tt) $ sets ! (agg ! (and_then ! (get ! refl) (no_more !))) refl (tt, (tt, tt)) $
    use0 𝓛 (‵ (BkFields.own_val (tt, tt) (no_bytes ∷ []))) (fields_made 𝓛) $ fjoin ! $ returns ! (look_at ! 0 refl) $ free_all ! refl $
    use0 𝓛 (raw (fact 𝓤 (length out.addresses ≡ next))) (fact_i 𝓤 (length out.addresses ≡ next) (emp 𝓤) (length-replicate next null_ptr)) $
    nothing ! $ nothing ! $ fjoin ! $ nothing ! $ keep ! (0 ∷ 1 ∷ 3 ∷ 2 ∷ []) $ by ! (leaves 𝓛 f.ended hs c z no_bytes out (tt, tt) (tt, tt)))))))
