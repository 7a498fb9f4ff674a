-- `agrees` reads what both know. Assumes `Logic`.
use Rattle.md_inflight.proofs.Steps.{◌≡◌, ℕ, List, [], ◌∷◌, ◌++◌, refl, sym, subst, SProp, ent, emp, id⊢, ftrue, flft, Val, vptr, WpFn, fact, fact_i, tables, ‵, raw, ◌⊛◌, ◌$◌, ◌∵◌, !, qed, by, move, keep, drop, use0, use2, split, rewrite, fsplit, fjoin, feq_i, feq_l, suffices, of_opd, returns, enter, alloc_all, pass_all, free_all, look_at, sets, RefOf, yes, owns, types_at, unhide, plain, nothing, heard, Stays, stay_dropped, walk_of, Goes-dropped, proved_at, leaves}
use mir.Val.{vunit}
use types.Run.{unit_lit}
use Rattle.md_inflight.specs.Addresses.{page_owns}
use Rattle.md_inflight.proofs.Books.{Bk, Pg, Agree, pages_agree}
use Rattle.md_inflight.specs.contracts.book.Book.agrees as f
use Rattle.md_inflight.proofs.book.Book.agrees.Statement.{statement}
use Rattle.md_inflight.proofs.book.Book.agrees.Code as code

pub agrees_spec : {M : Type 1} → statement M
agrees_spec 𝓤 𝓛 𝓜 𝓡 wired =
    let H = 𝓛.H in let 𝓣 = tables 𝓤 H 𝓜 𝓡 𝓡.env in let c = f.clauses 𝓛 𝓜.mem 𝓡.returns in
    let hs : Stays f.ended.signature.params f.ended.kept = (stay_dropped (RefOf (0 ∷ []) tt (plain (λ _. Bk)) (λ _. tt)) yes, (stay_dropped (RefOf (1 ∷ []) tt (plain (λ _. Pg)) (λ _. tt)) yes, tt)) in
    proved_at 𝓛 f.ended hs c 𝓜 𝓡 (Goes-dropped 𝓛 2 (RefOf (0 ∷ []) tt (plain (λ _. Bk)) (λ _. tt)) yes (λ κs x w. refl), (Goes-dropped 𝓛 2 (RefOf (1 ∷ []) tt (plain (λ _. Pg)) (λ _. tt)) yes (λ κs x w. refl), tt))
    f.Key.name code.function (code.unfolded 𝓤 H 𝓜 𝓡 wired) (λ z are.
    let κs = z.0.0 in let qs = z.0.1 in let self = z.0.3.0 in let d = self.now in let page = z.0.3.1.0 in let p = page.now in let ws : List Val = vptr self.ref_ptr.0 self.ref_ptr.1 ∷ vptr page.ref_ptr.0 page.ref_ptr.1 ∷ [] in
    let Run : List Val → SProp 𝓤 = λ us. WpFn 𝓤 H 𝓣.C 𝓣.Λ code.function us ((walk_of 𝓛 f.ended hs c).post z) in let Says : Type 0 = Agree d.addresses p.addresses in
    qed 𝓛 (((‵ (flft κs.0 qs.0) ⊛ ‵ (flft κs.1.0 qs.1.0) ⊛ ‵ ftrue) ⊛ ‵ (owns (types_at f.ended.signature.params κs) z.0.3 z.0.4)) ∷ raw (fact 𝓤 (p.name ≡ d.name)) ∷ []) ∵
    split ! $ move ! (2 ∷ []) $ heard ! _ (λ asked. move ! (1 ∷ []) $ fsplit ! $ fsplit ! $ feq_l ! (λ e. move ! (1 ∷ []) $ fsplit ! $ fsplit ! $ feq_l ! (λ e'. keep ! (2 ∷ 0 ∷ 3 ∷ []) $
    suffices ! (Run ws) (subst (λ (us : List Val). ent 𝓤 (Run ws) (Run us)) (sym (λ i. e i ++ (e' i ++ []))) (id⊢ 𝓤 (Run ws))) $
    enter ! 𝓣.C 𝓣.Λ code.function ws _ $ alloc_all ! (λ l. pass_all ! refl ((tt, tt), ((tt, tt), tt)) $
    unhide ! $ fsplit ! $ drop ! $ move ! (1 ∷ []) $ unhide ! $ fsplit ! $ drop ! $ rewrite ! 0 (λ (n : ℕ). ‵ (page_owns n p.addresses)) asked refl $ move ! (1 ∷ 0 ∷ []) $
    use2 𝓛 (raw (fact 𝓤 Says)) (pages_agree 𝓛 d.name d.addresses p.addresses) $ heard ! _ (λ agree.
    sets ! (of_opd ! (unit_lit !)) refl (tt, tt) $ returns ! (look_at ! 0 refl) $ free_all ! refl $ feq_i ! (List Val) (vunit ∷ []) (vunit ∷ []) refl $
    use0 𝓛 (raw (fact 𝓤 Says)) (fact_i 𝓤 Says (emp 𝓤) agree) $ nothing ! $ nothing ! $ fjoin ! $ nothing ! $ fjoin ! $ keep ! (3 ∷ 0 ∷ 2 ∷ 1 ∷ []) $ by ! (leaves 𝓛 f.ended hs c z vunit tt (tt, (tt, tt)) (tt, (tt, tt)))))))))
