-- `next` reads the node's link to the one after it. Assumes `Logic`.
use Rattle.md_inflight.proofs.Steps.{◌≡◌, List, [], ◌∷◌, ◌++◌, refl, sym, ap, subst, SProp, ent, emp, never, id⊢, fst∗, ftrue, flft, inst_fn, Val, vptr, Env, WpFn, sem, fact, fact_i, tables, ◌⊑◌, ‵, raw, ◌⊛◌, at_ret, ◌$◌, ◌∵◌, !, qed, by, move, keep, drop, use0, use1, split, join, rewrite, fsplit, fjoin, feq_l, suffices, whole, sub, stop, fld, of_opd, load, look, first, blocks, exec, returns, enter, alloc_all, pass_all, free_all, look_at, get, get_in, through, sets, sets_last, is, env, RefOf, yes, owns, types_at, hide, unhide, ptr_val, in_a_block, plain, nothing, heard, lent_at, Stays, stay_dropped, walk_of, Goes-dropped, after, proved_at, leaves, word, word-Good}
use denote.Memory.{shared_of}
use Rattle.md_inflight.specs.Placed.{IsAt, AtPlace}
use Rattle.md_inflight.specs.Ownership.{held_lent}
use Rattle.md_inflight.specs.contracts.place.Place as P-type
use Rattle.md_inflight.proofs.Places.{at_place}
use Rattle.md_inflight.proofs.Nodes.{args, R, Cr, Nr, Entry, Pl, link, link-Good, place_had, row_seen, link_made, link_read, link_shut}
use Rattle.md_inflight.specs.contracts.chain.Chain.next as f
use Rattle.md_inflight.proofs.chain.Chain.next.Statement.{statement}
use Rattle.md_inflight.proofs.chain.Chain.next.Code as code

pub next_spec : {M : Type 1} → statement M
next_spec 𝓤 𝓛 𝓜 𝓡 wired Y L =
    let H = 𝓛.H in let 𝓣 = tables 𝓤 H 𝓜 𝓡 𝓡.env in let En = f.ended Y in let c = f.clauses Y 𝓛 𝓜.mem 𝓡.returns in let fn = inst_fn (args Y) code.function in
    let hs : Stays En.signature.params En.kept = (stay_dropped (RefOf (0 ∷ []) tt (plain (λ _. Cr Y)) (λ _. tt)) yes, (stay_dropped (plain (λ _. Pl)) yes, tt)) in
    proved_at 𝓛 En hs c 𝓜 𝓡 (Goes-dropped 𝓛 2 (RefOf (0 ∷ []) tt (plain (λ _. Cr Y)) (λ _. tt)) yes (λ κs x w. refl), (Goes-dropped 𝓛 2 (plain (λ _. Pl)) yes (λ κs x w. refl), tt))
    (f.Key.name (args Y)) fn (code.unfolded 𝓤 H 𝓜 𝓡 wired (Y, tt)) (λ z are.
    let κs = z.0.0 in let qs = z.0.1 in let self = z.0.3.0 in let d = self.now in let place = z.0.3.1.0 in let rb = self.ref_ptr.0 in let ro = self.ref_ptr.1 in
    let Post : Val → SProp 𝓤 = (walk_of 𝓛 En hs c).post z in let Run : List Val → SProp 𝓤 = λ ws. WpFn 𝓤 H 𝓣.C 𝓣.Λ fn ws Post in
    qed 𝓛 (((‵ (flft κs.0 qs.0) ⊛ (‵ (flft κs.1.0 qs.1.0) ⊛ ‵ ftrue)) ⊛ ‵ (owns (types_at En.signature.params κs) z.0.3 z.0.4)) ∷ (raw (fact 𝓤 (κs.1.0 ⊑ Y.lives)) ⊛ raw (fact 𝓤 (IsAt d.nodes place.ptr))) ∷ []) ∵
    split ! $ split ! $ move ! (3 ∷ []) $ split ! $ drop ! $ heard ! _ (λ at. move ! (2 ∷ []) $ fsplit ! $ fsplit ! $ feq_l ! (λ e. move ! (1 ∷ []) $ fsplit ! $ place_had ! place z.0.4.1.0 (λ f. keep ! (1 ∷ 2 ∷ 3 ∷ []) $
    let x = at.value in let ws : List Val = vptr rb ro ∷ word place.ptr ∷ [] in
    suffices ! (Run ws) (subst (λ (us : List Val). ent 𝓤 (Run ws) (Run us)) (sym (λ i. e i ++ (f i ++ []))) (id⊢ 𝓤 (Run ws))) $
    enter ! 𝓣.C 𝓣.Λ fn ws Post $ alloc_all ! (λ l. pass_all ! refl ((tt, tt), (word-Good P-type.the_type.name place.ptr, tt)) $ let Ev : Env 𝓤 H = env fn.locals l in
    unhide ! $ fsplit ! $ drop ! $ rewrite ! 0 (λ (us : List (Entry Y)). ‵ (held_lent (R Y) us κs.0)) at.cut refl $ use1 𝓛 (‵ (lent_at (Nr Y) place.ptr x κs.0)) (row_seen 𝓛 Y κs.0 at.before (place.ptr, x) at.after) $
    in_a_block ! place.ptr (λ p. lent_at (Nr Y) p x κs.0) (fst∗ 𝓤 (never 𝓤) (sem 𝓛 (shared_of (Nr Y) x 0 0 κs.0))) (λ pb po there. fsplit ! $ drop ! $ fsplit ! $
    fsplit ! $ move ! (1 ∷ []) $ fsplit ! $ move ! (1 ∷ []) $ fsplit ! $ move ! (1 ∷ []) $ fsplit ! $ hide ! $
    -- [its link; nothing; its three other fields; what else it lends; the token; the other tokens]
    move ! (0 ∷ 6 ∷ []) $ link_read ! tt x.next pb _ (λ s.
    first ! $ blocks ! $ sets ! (is ! (of_opd ! (get_in ! (fld ! refl (stop !)) (sub ! 0 refl (whole !)))) (ap ptr_val there)) refl (tt, tt) $
    sets_last ! (of_opd ! (load ! (through ! refl (fld ! refl (stop !))) (look ! 0 refl))) refl (link-Good x.next) $ exec ! 𝓣.C 𝓣.Λ Ev (after 1 fn.body) (at_ret Ev Post) $ sets ! (of_opd ! (get ! refl)) refl (link-Good x.next) $
    link_shut ! tt x.next pb _ $ returns ! (look_at ! 0 refl) $ free_all ! refl $ keep ! (0 ∷ 6 ∷ []) $ join ! $ link_made ! x.next $
    use0 𝓛 (raw (fact 𝓤 (AtPlace d.nodes place.ptr (λ _ n _. x.next ≡ n.next)))) (fact_i 𝓤 _ (emp 𝓤) (at_place at d.apart (λ _ n _. x.next ≡ n.next) refl)) $
    nothing ! $ nothing ! $ fjoin ! $ nothing ! $ fjoin ! $ keep ! (3 ∷ 0 ∷ 2 ∷ 1 ∷ []) $ by ! (leaves 𝓛 En hs c z (link x.next) x.next (tt, (tt, tt)) (tt, (tt, tt))))))))))
