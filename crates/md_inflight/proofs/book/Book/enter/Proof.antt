-- `enter` lets the list of addresses grow. Assumes `Logic`.
use Rattle.md_inflight.proofs.Steps.{◌≡◌, List, [], ◌∷◌, ◌++◌, refl, sym, subst, SProp, ent, emp, id⊢, ftrue, flft, Val, vptr, WpFn, fact, fact_i, tables, ‵, raw, ◌⊛◌, later, ◌$◌, ◌∵◌, !, qed, by, move, keep, use0, use1, split, join, await, fsplit, fsplit3, fjoin, fjoin3, feq_i, feq_l, suffices, agg, no_more, and_then, returns, enter, alloc_all, pass_all, free_all, look_at, get, sets, yes, owns, types_at, Ptr, plain, nothing, opens, closes, Stays, stay_dropped, stay_ref, walk_of, Goes-dropped, Goes-ref, proved_at, leaves, word, word-Good}
use Rattle.md_inflight.specs.Addresses.{page_owns, book_owns}
use Rattle.md_inflight.specs.contracts.place.Place as P-type
use Rattle.md_inflight.proofs.Nodes.{Pl, place_had}
use Rattle.md_inflight.proofs.Books.{Bk, Pg, PgFields, no_bytes, fields_made, book_grows}
use Rattle.md_inflight.specs.contracts.book.Book.enter as f
use Rattle.md_inflight.proofs.book.Book.enter.Statement.{statement}
use Rattle.md_inflight.proofs.book.Book.enter.Code as code

pub enter_spec : {M : Type 1} → statement M
enter_spec 𝓤 𝓛 𝓜 𝓡 wired =
    let H = 𝓛.H in let 𝓣 = tables 𝓤 H 𝓜 𝓡 𝓡.env in let c = f.clauses 𝓛 𝓜.mem 𝓡.returns in
    let hs : Stays f.ended.signature.params f.ended.kept = (stay_ref (0 ∷ []) tt (plain (λ _. Bk)), (stay_dropped (plain (λ _. Pl)) yes, tt)) in
    proved_at 𝓛 f.ended hs c 𝓜 𝓡 (Goes-ref 𝓛 1 0 tt (plain (λ _. Bk)), (Goes-dropped 𝓛 1 (plain (λ _. Pl)) yes (λ κs x w. refl), tt)) f.Key.name code.function (code.unfolded 𝓤 H 𝓜 𝓡 wired) (λ z are.
    let κ = z.0.0.0 in let q = z.0.1.0 in let self = z.0.3.0 in let d = self.now in let place = z.0.3.1.0 in let rb = self.ref_ptr.0 in let ro = self.ref_ptr.1 in
    let Run : List Val → SProp 𝓤 = λ ws. WpFn 𝓤 H 𝓣.C 𝓣.Λ code.function ws ((walk_of 𝓛 f.ended hs c).post z) in let ws : List Val = vptr rb ro ∷ word place.ptr ∷ [] in
    let more : List Ptr = d.addresses ++ place.ptr ∷ [] in let new : Bk.Denot = record { mark = d.mark; name = d.name; addresses = more } in let out : Pg.Denot = record { mark = record {}; name = d.name; addresses = more } in
    let Gives : Type 0 = (new.name ≡ d.name) × (new.addresses ≡ more) × (out.name ≡ d.name) × (out.addresses ≡ more) in
    qed 𝓛 (((‵ (flft κ q) ⊛ ‵ ftrue) ⊛ ‵ (owns (types_at f.ended.signature.params z.0.0) z.0.3 z.0.4)) ∷ raw ((c z.0.0 z.0.3).requires z.1) ∷ []) ∵
    split ! $ split ! $ move ! (2 ∷ []) $ fsplit ! $ fsplit3 ! $ feq_l ! (λ e. move ! (2 ∷ []) $ fsplit ! $ place_had ! place z.0.4.1.0 (λ e'. keep ! (1 ∷ 2 ∷ 3 ∷ 4 ∷ []) $
    suffices ! (Run ws) (subst (λ (us : List Val). ent 𝓤 (Run ws) (Run us)) (sym (λ i. e i ++ (e' i ++ []))) (id⊢ 𝓤 (Run ws))) $
    enter ! 𝓣.C 𝓣.Λ code.function ws _ $ alloc_all ! (λ l. pass_all ! refl ((tt, tt), (word-Good P-type.the_type.name place.ptr, tt)) $
    opens ! tt Bk {h = d} rb ro (λ us. move ! (1 ∷ []) $ fsplit ! $ move ! (1 ∷ []) $
    use1 𝓛 (later (‵ (book_owns d.name more) ⊛ ‵ (page_owns d.name more))) (book_grows 𝓛 d.name d.addresses place.ptr) $ await ! tt $ split ! $
    -- [the book; the page; the book's fields; its cell; the open borrow; obs; auth; the rest of the tokens]
    move ! (2 ∷ 0 ∷ []) $ fjoin ! $ move ! (2 ∷ 0 ∷ 3 ∷ 4 ∷ 5 ∷ []) $ closes ! tt Bk new us rb ro $
    sets ! (agg ! (no_more !)) refl (tt, tt) $ sets ! (agg ! (and_then ! (get ! refl) (no_more !))) refl (tt, (tt, tt)) $
    use0 𝓛 (‵ (PgFields.own_val (tt, tt) (no_bytes ∷ []))) (fields_made 𝓛) $ move ! (0 ∷ 4 ∷ []) $ fjoin ! $ returns ! (look_at ! 0 refl) $ free_all ! refl $
    -- [the page; obs; the borrow; the tokens]
    move ! (3 ∷ 4 ∷ []) $ join ! $ move ! (2 ∷ 3 ∷ []) $ feq_i ! (List Val) z.0.4.0 (vptr rb ro ∷ []) e $ fjoin3 ! $ nothing ! $ nothing ! $ fjoin ! $ move ! (1 ∷ 0 ∷ []) $ fjoin ! $
    use0 𝓛 (raw (fact 𝓤 Gives)) (fact_i 𝓤 Gives (emp 𝓤) (refl, refl, refl, refl)) $ keep ! (2 ∷ 1 ∷ 3 ∷ 0 ∷ []) $ by ! (leaves 𝓛 f.ended hs c z no_bytes out (new, (tt, tt)) (tt, (tt, tt))))))))
