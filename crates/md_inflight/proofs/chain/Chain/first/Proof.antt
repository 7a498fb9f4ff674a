-- `first` reads one of the two ends. Assumes `Logic`.
use Rattle.md_inflight.proofs.Steps.{◌≡◌, ◌+◌, List, [], ◌∷◌, ◌++◌, refl, sym, subst, SProp, ent, emp, id⊢, ftrue, flft, inst_fn, Val, vptr, WpFn, fact, fact_i, tables, ‵, raw, ◌⊛◌, ◌$◌, ◌∵◌, !, qed, by, move, keep, use0, split, join, fsplit, fjoin, feq_l, suffices, stop, fld, of_opd, load, look, returns, enter, alloc_all, pass_all, free_all, look_at, through, sets, RefOf, yes, owns, types_at, hide, unhide, plain, nothing, Stays, stay_dropped, walk_of, Goes-dropped, proved_at, leaves}
use Rattle.md_inflight.proofs.Nodes.{args, Cr, link, link-Good, link_made, link_read, link_shut}
use Rattle.md_inflight.specs.contracts.chain.Chain.first as f
use Rattle.md_inflight.proofs.chain.Chain.first.Statement.{statement}
use Rattle.md_inflight.proofs.chain.Chain.first.Code as code

pub first_spec : {M : Type 1} → statement M
first_spec 𝓤 𝓛 𝓜 𝓡 wired Y L =
    let H = 𝓛.H in let 𝓣 = tables 𝓤 H 𝓜 𝓡 𝓡.env in let En = f.ended Y in let c = f.clauses Y 𝓛 𝓜.mem 𝓡.returns in let fn = inst_fn (args Y) code.function in
    let hs : Stays En.signature.params En.kept = (stay_dropped (RefOf (0 ∷ []) tt (plain (λ _. Cr Y)) (λ _. tt)) yes, tt) in
    proved_at 𝓛 En hs c 𝓜 𝓡 (Goes-dropped 𝓛 2 (RefOf (0 ∷ []) tt (plain (λ _. Cr Y)) (λ _. tt)) yes (λ κs x w. refl), tt)
    (f.Key.name (args Y)) fn (code.unfolded 𝓤 H 𝓜 𝓡 wired (Y, tt)) (λ z are.
    let κs = z.0.0 in let qs = z.0.1 in let self = z.0.3.0 in let d = self.now in let rb = self.ref_ptr.0 in let ro = self.ref_ptr.1 in
    let Post : Val → SProp 𝓤 = (walk_of 𝓛 En hs c).post z in let Run : List Val → SProp 𝓤 = λ ws. WpFn 𝓤 H 𝓣.C 𝓣.Λ fn ws Post in let ws : List Val = vptr rb ro ∷ [] in
    qed 𝓛 (((‵ (flft κs.0 qs.0) ⊛ (‵ (flft κs.1.0 qs.1.0) ⊛ ‵ ftrue)) ⊛ ‵ (owns (types_at En.signature.params κs) z.0.3 z.0.4)) ∷ raw ((c κs z.0.3).requires z.1) ∷ []) ∵
    split ! $ split ! $ move ! (2 ∷ []) $ fsplit ! $ fsplit ! $ feq_l ! (λ e. keep ! (0 ∷ 2 ∷ 3 ∷ []) $
    suffices ! (Run ws) (subst (λ (us : List Val). ent 𝓤 (Run ws) (Run us)) (sym (λ i. e i ++ [])) (id⊢ 𝓤 (Run ws))) $
    enter ! 𝓣.C 𝓣.Λ fn ws Post $ alloc_all ! (λ l. pass_all ! refl ((tt, tt), tt) $ unhide ! $ fsplit ! $ fsplit ! $ fsplit ! $ hide ! $
    -- [the first end; the rest; what else the fields lend; the nodes; the token; the other tokens]
    move ! (0 ∷ 4 ∷ []) $ link_read ! tt d.first rb (ro + 0) (λ s.
    sets ! (of_opd ! (load ! (through ! refl (fld ! refl (stop !))) (look ! 0 refl))) refl (link-Good d.first) $ link_shut ! tt d.first rb (ro + 0) $
    returns ! (look_at ! 0 refl) $ free_all ! refl $ keep ! (0 ∷ 4 ∷ []) $ join ! $ link_made ! d.first $
    use0 𝓛 (raw (fact 𝓤 (d.first ≡ d.first))) (fact_i 𝓤 (d.first ≡ d.first) (emp 𝓤) refl) $ nothing ! $ nothing ! $ fjoin ! $ keep ! (3 ∷ 0 ∷ 2 ∷ 1 ∷ []) $
    by ! (leaves 𝓛 En hs c z (link d.first) d.first (tt, tt) (tt, tt))))))
