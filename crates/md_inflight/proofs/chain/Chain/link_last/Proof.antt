-- `link_last` fills the room, and writes the link of the node that was last. Assumes `Logic`.
use Rattle.md_inflight.proofs.Steps.{◌≡◌, List, [], ◌∷◌, ◌++◌, Option, Some, None, refl, sym, ap, ◌∙◌, subst, append-nil, full_share, SProp, ent, emp, id⊢, ftrue, fat, froom, flft, fobs, fbor, inst_fn, bare, Val, vptr, vint, Env, WpFn, fact, fact_i, tables, ◌⊑◌, Item, ⋆, ‵, raw, ◌⊛◌, at_ret, ◌$◌, ◌∵◌, !, qed, by, move, keep, drop, use0, use2, split, join, rewrite, fsplit, fsplit3, fjoin, fjoin3, feq_i, feq_l, flt_l, suffices, vrt, in_variant, whole, sub, agg, look_in, store_in, stop, fld, lit, of_opd, load, init, no_more, and_then, assigns, assigns_last, first, blocks, switches_on, exec, returns, enter, alloc_all, pass_all, free_all, look_at, get, get_in, get_tag, through, sets, is, env, Borrowed, u64, yes, no, owns, types_at, lone, mem, Ptr, block_ptr, ptr_val, plain, nothing, heard, Stays, stay_dropped, stay_ref, walk_of, Goes-dropped, Goes-ref, Goes-blank, after, head, arm_body, proved_at, leaves, word, word-Good}
use mir.Syntax.{w64}
use Rattle.std_alloc.proofs.OfVacant.{vacant_val, vacant_typed, Vacant-had}
use Rattle.std_alloc.proofs.RawLayout.{as_written}
use Rattle.std_alloc.specs.contracts.room.vacant.Vacant as V
use Rattle.std.specs.contracts.impls.GlobalAllocator.TheImpl.{ghosts}
use Rattle.std.specs.contracts.alloc.Global as heap_row
use Rattle.md_inflight.specs.Placed.{LieElsewhere, IsAt}
use Rattle.md_inflight.specs.Linked.{IsChain, entries, back}
use Rattle.md_inflight.specs.Ownership.{held_owns}
use Rattle.md_inflight.specs.declared.node.Node.{Node}
use Rattle.md_inflight.specs.declared.place.Place.{Place}
use Rattle.md_inflight.specs.contracts.place.Place as P-type
use Rattle.md_inflight.proofs.Places.{changed, changed_apart, apart_more}
use Rattle.md_inflight.proofs.Linked.{end_beside, before_node, last_stands, last_leads, none_leads, chain_grown}
use Rattle.md_inflight.proofs.Nodes.{args, heap, R, Cr, Nr, Entry, frees_at, ends, link-Good, node-Good, place_made, item_had, knows, held_in, row_in, row_out, row_glue, row_fresh, chain_opens, chain_closes, then_runs}
use Rattle.md_inflight.specs.contracts.chain.Chain.link_last as f
use Rattle.md_inflight.proofs.chain.Chain.link_last.Statement.{statement}
use Rattle.md_inflight.proofs.chain.Chain.link_last.Code as code

pub link_last_spec : {M : Type 1} → statement M
link_last_spec 𝓤 𝓛 𝓜 𝓡 wired Y L =
    let H = 𝓛.H in let 𝓣 = tables 𝓤 H 𝓜 𝓡 𝓡.env in let En = f.ended Y in let c = f.clauses Y 𝓛 𝓜.mem 𝓡.returns in let fn = inst_fn (args Y) code.function in let τ = lone (Nr Y).mir in
    let hs : Stays En.signature.params En.kept = (stay_ref (0 ∷ []) tt (plain (λ _. Cr Y)), (stay_dropped (plain (λ _. V.the_row (Nr Y) heap_row.the_row ghosts)) no, (stay_dropped (plain (λ _. u64)) yes, (stay_dropped (plain (λ _. R Y)) no, tt)))) in
    proved_at 𝓛 En hs c 𝓜 𝓡
    (Goes-ref 𝓛 2 0 tt (plain (λ _. Cr Y)), (Goes-blank 𝓛 2 (plain (λ _. V.the_row (Nr Y) heap_row.the_row ghosts)) no (λ κs x w. tt), (Goes-dropped 𝓛 2 (plain (λ _. u64)) yes (λ κs x w. refl), (Goes-dropped 𝓛 2 (plain (λ _. R Y)) no (λ κs x w. refl), tt))))
    (f.Key.name (args Y)) fn (code.unfolded 𝓤 H 𝓜 𝓡 wired (Y, tt)) (λ z are.
    let κs = z.0.0 in let qs = z.0.1 in let self = z.0.3.0 in let d = self.now in let γ = self.ghost_name in let room = z.0.3.1.0 in let n = z.0.3.1.1.0 in let x = z.0.3.1.1.1.0 in let rb = self.ref_ptr.0 in let ro = self.ref_ptr.1 in
    let Post : Val → SProp 𝓤 = (walk_of 𝓛 En hs c).post z in let Run : List Val → SProp 𝓤 = λ ws. WpFn 𝓤 H 𝓣.C 𝓣.Λ fn ws Post in
    let Gives : Place → (Cr Y).Denot → Type 0 = λ r new. IsChain new.first new.last new.nodes × (entries new.nodes ≡ entries d.nodes ++ (r.ptr, (n, x)) ∷ []) in
    let others = ‵ (flft κs.1.0 qs.1.0) ⊛ ‵ ftrue in
    qed 𝓛 (((‵ (flft κs.0 qs.0) ⊛ others) ⊛ ‵ (owns (types_at En.signature.params κs) z.0.3 z.0.4)) ∷ (raw (fact 𝓤 (κs.1.0 ⊑ Y.lives)) ⊛ raw (fact 𝓤 (IsChain d.first d.last d.nodes))) ∷ []) ∵
    split ! $ split ! $ move ! (3 ∷ []) $ split ! $ drop ! $ heard ! _ (λ chain. move ! (2 ∷ []) $ fsplit ! $ fsplit3 ! $ feq_l ! (λ e₀. move ! (2 ∷ []) $ fsplit ! $ Vacant-had heap (Nr Y) ! room z.0.4.1.0 (λ b o hv at_b e₁ fits.
    move ! (3 ∷ []) $ fsplit ! $ fsplit ! $ feq_l ! (λ e₂. flt_l ! (λ small. fsplit ! $ item_had Y L ! x z.0.4.1.1.1.0 (λ v e₃ good. keep ! (5 ∷ 6 ∷ 7 ∷ 8 ∷ 2 ∷ 3 ∷ 0 ∷ []) $
    let ws : List Val = vptr rb ro ∷ vacant_val hv b o ∷ vint w64 n ∷ v ∷ [] in
    let p : Ptr = block_ptr b o in let place : Place = record { ptr = p } in let w = word p in
    let Had : List (Item 𝓤) = ‵ (fobs γ ((Cr Y).coded.code d)) ∷ ‵ (fbor κs.0 (Borrowed (mem (Cr Y)) rb ro γ)) ∷ ‵ (flft κs.0 qs.0) ∷ others ∷ ‵ (froom (bare τ) b o) ∷ ‵ (frees_at Y p) ∷ ‵ (Y.own_val x (v ∷ [])) ∷ [] in
    let node : Option Place → Node Y.Denot = λ prev. record { number = n; item = x; prev = prev; next = None } in
    let whole_node = λ (prev : Option Place). node-Good Y n v prev None small good in
    let linked = link-Good (Some place) in
    let leave : (new : (Cr Y).Denot) → Gives place new → ent 𝓤 (⋆ 𝓛 (‵ (fobs γ ((Cr Y).coded.code new)) ∷ ‵ (fbor κs.0 (Borrowed (mem (Cr Y)) rb ro γ)) ∷ ‵ (flft κs.0 qs.0) ∷ others ∷ [])) (Post w) = λ new gives.
    qed 𝓛 (‵ (fobs γ ((Cr Y).coded.code new)) ∷ ‵ (fbor κs.0 (Borrowed (mem (Cr Y)) rb ro γ)) ∷ ‵ (flft κs.0 qs.0) ∷ others ∷ []) ∵
    move ! (2 ∷ 3 ∷ []) $ join ! $ move ! (1 ∷ 2 ∷ []) $ feq_i ! (List Val) z.0.4.0 (vptr rb ro ∷ []) e₀ $ fjoin3 ! $ nothing ! $ nothing ! $ fjoin ! $ nothing ! $ fjoin ! $ nothing ! $ fjoin ! $ move ! (1 ∷ 0 ∷ []) $ fjoin ! $
    place_made ! place $ use0 𝓛 (raw (fact 𝓤 (Gives place new))) (fact_i 𝓤 _ (emp 𝓤) gives) $ keep ! (3 ∷ 2 ∷ 1 ∷ 0 ∷ []) $ by ! (leaves 𝓛 En hs c z w place (new, (tt, (tt, (tt, tt)))) (tt, (tt, (tt, (tt, tt))))) in
    suffices ! (Run ws) (subst (λ (us : List Val). ent 𝓤 (Run ws) (Run us)) (sym (λ i. e₀ i ++ (e₁ i ++ (e₂ i ++ (e₃ i ++ []))))) (id⊢ 𝓤 (Run ws))) $
    by ! ((elim d.last as (λ (q : Option Place). q ≡ d.last → ent 𝓤 (⋆ 𝓛 Had) (Run ws)) [
      | None ↦ λ el.
          qed 𝓛 Had ∵ enter ! 𝓣.C 𝓣.Λ fn ws Post $ alloc_all ! (λ l. pass_all ! refl ((tt, tt), (vacant_typed heap (Nr Y) hv b o fits, ((tt, record { fits = small }), (good, tt)))) $ let Ev : Env 𝓤 H = env fn.locals l in
          chain_opens Y ! tt d rb ro $ rewrite ! 1 (λ (q : Option Place). ‵ (fat full_share (lone (Cr Y).mir) rb ro (ends d.first q))) (sym el) refl $ move ! (6 ∷ []) $ as_written ! τ b o $
          -- [the room; the nodes; the ends; the open borrow; obs; auth; the other tokens; the right to free it; the item]
          sets ! (of_opd ! (get_in ! (fld ! refl (stop !)) (sub ! 0 refl (whole !)))) refl (tt, tt) $ sets ! (of_opd ! (get ! refl)) refl (tt, tt) $ sets ! (agg ! (and_then ! (get ! refl) (no_more !))) refl (word-Good P-type.the_type.name p) $
          sets ! (of_opd ! (load ! (through ! refl (fld ! refl (stop !))) (look_in ! 2 (sub ! 1 refl (whole !))))) refl (link-Good None) $ sets ! (of_opd ! (get ! refl)) refl good $ sets ! (agg ! (and_then ! (lit ! tt) (no_more !))) refl (link-Good None) $
          sets ! (agg ! (and_then ! (get ! refl) (and_then ! (get ! refl) (and_then ! (get ! refl) (and_then ! (get ! refl) (no_more !)))))) refl (whole_node None) $
          first ! $ blocks ! $ sets ! (of_opd ! (get ! refl)) refl (whole_node None) $ assigns_last ! (of_opd ! (get ! refl)) (through ! refl (stop !)) (init ! 0 refl (whole_node None)) $ exec ! 𝓣.C 𝓣.Λ Ev (after 8 fn.body) (at_ret Ev Post) $
          first ! $ switches_on ! (get_tag ! (vrt ! refl (fld ! refl (stop !))) (whole !)) $ exec ! 𝓣.C 𝓣.Λ Ev (arm_body 0 (head (after 8 fn.body))) (then_runs 𝓛 𝓣.C 𝓣.Λ Ev (after 9 fn.body) (at_ret Ev Post)) $
          sets ! (agg ! (and_then ! (lit ! tt) (and_then ! (get ! refl) (no_more !)))) refl linked $ assigns_last ! (of_opd ! (get ! refl)) (through ! refl (fld ! refl (stop !))) (store_in ! 2 (sub ! 0 refl (whole !)) linked) $
          exec ! 𝓣.C 𝓣.Λ Ev (after 9 fn.body) (at_ret Ev Post) $
          sets ! (agg ! (and_then ! (lit ! tt) (and_then ! (get ! refl) (no_more !)))) refl linked $ assigns ! (of_opd ! (get ! refl)) (through ! refl (fld ! refl (stop !))) (store_in ! 2 (sub ! 1 refl (whole !)) linked) $
          sets ! (of_opd ! (get ! refl)) refl (word-Good P-type.the_type.name p) $
          let added : Entry Y = (p, node None) in
          move ! (0 ∷ 7 ∷ 8 ∷ []) $ held_in Y ! b o (node None) v small $ knows ! (LieElsewhere p d.nodes) (row_fresh 𝓛 Y 𝓜 added d.nodes) (λ fresh.
          let new : (Cr Y).Denot = record { first = Some place; last = Some place; mark = d.mark; nodes = d.nodes ++ added ∷ []; apart = apart_more d.nodes added fresh d.apart } in
          rewrite ! 1 (λ (us : List (Entry Y)). ‵ (held_owns (R Y) us)) (sym (append-nil d.nodes)) refl $ use2 𝓛 (‵ (held_owns (R Y) new.nodes)) (row_glue 𝓛 Y d.nodes added []) $
          chain_closes Y ! tt new rb ro $ returns ! (look_at ! 0 refl) $ free_all ! refl $ keep ! (0 ∷ 1 ∷ 2 ∷ 3 ∷ []) $
          by ! (leave new (chain_grown d.first d.last d.nodes added new.first new.nodes chain el refl (ap (λ q. end_beside q (Some place) d.first) el)
          (ap (λ us. us ++ added ∷ []) (sym (none_leads d.nodes (sym (el ∙ chain.last)) (Some place))))))))
      | Some q ↦ λ el.
          let ends_there : back None d.nodes ≡ Some q = sym (el ∙ chain.last) in let at : IsAt d.nodes q.ptr = last_stands d.nodes d.nodes [] (sym (append-nil d.nodes)) q ends_there in
          let mid : List (Entry Y) = changed at (before_node (Some place)) in
          qed 𝓛 Had ∵ enter ! 𝓣.C 𝓣.Λ fn ws Post $ alloc_all ! (λ l. pass_all ! refl ((tt, tt), (vacant_typed heap (Nr Y) hv b o fits, ((tt, record { fits = small }), (good, tt)))) $ let Ev : Env 𝓤 H = env fn.locals l in
          chain_opens Y ! tt d rb ro $ rewrite ! 1 (λ (r : Option Place). ‵ (fat full_share (lone (Cr Y).mir) rb ro (ends d.first r))) (sym el) refl $ move ! (6 ∷ []) $ as_written ! τ b o $ move ! (1 ∷ []) $
          row_out Y L ! at (λ qb qo u there ugood usmall.
          -- [the last node, in three; the others; the room; the ends; the open borrow; obs; auth; the other tokens; the right to free it; the item]
          sets ! (of_opd ! (get_in ! (fld ! refl (stop !)) (sub ! 0 refl (whole !)))) refl (tt, tt) $ sets ! (of_opd ! (get ! refl)) refl (tt, tt) $ sets ! (agg ! (and_then ! (get ! refl) (no_more !))) refl (word-Good P-type.the_type.name p) $
          sets ! (of_opd ! (load ! (through ! refl (fld ! refl (stop !))) (look_in ! 5 (sub ! 1 refl (whole !))))) refl (link-Good (Some q)) $ sets ! (of_opd ! (get ! refl)) refl good $ sets ! (agg ! (and_then ! (lit ! tt) (no_more !))) refl (link-Good None) $
          sets ! (agg ! (and_then ! (get ! refl) (and_then ! (get ! refl) (and_then ! (get ! refl) (and_then ! (get ! refl) (no_more !)))))) refl (whole_node (Some q)) $
          first ! $ blocks ! $ sets ! (of_opd ! (get ! refl)) refl (whole_node (Some q)) $ assigns_last ! (of_opd ! (get ! refl)) (through ! refl (stop !)) (init ! 4 refl (whole_node (Some q))) $ exec ! 𝓣.C 𝓣.Λ Ev (after 8 fn.body) (at_ret Ev Post) $
          first ! $ switches_on ! (get_tag ! (vrt ! refl (fld ! refl (stop !))) (whole !)) $ exec ! 𝓣.C 𝓣.Λ Ev (arm_body 1 (head (after 8 fn.body))) (then_runs 𝓛 𝓣.C 𝓣.Λ Ev (after 9 fn.body) (at_ret Ev Post)) $
          sets ! (of_opd ! (get_in ! (vrt ! refl (fld ! refl (stop !))) (in_variant ! 1 0 refl refl (whole !)))) refl (word-Good P-type.the_type.name q.ptr) $
          sets ! (agg ! (and_then ! (lit ! tt) (and_then ! (get ! refl) (no_more !)))) refl linked $
          sets ! (is ! (of_opd ! (get_in ! (fld ! refl (stop !)) (sub ! 0 refl (whole !)))) (ap ptr_val there)) refl (tt, tt) $
          assigns_last ! (of_opd ! (get ! refl)) (through ! refl (fld ! refl (stop !))) (store_in ! 0 (sub ! 3 refl (whole !)) linked) $ exec ! 𝓣.C 𝓣.Λ Ev (after 9 fn.body) (at_ret Ev Post) $
          sets ! (agg ! (and_then ! (lit ! tt) (and_then ! (get ! refl) (no_more !)))) refl linked $ assigns ! (of_opd ! (get ! refl)) (through ! refl (fld ! refl (stop !))) (store_in ! 5 (sub ! 1 refl (whole !)) linked) $
          sets ! (of_opd ! (get ! refl)) refl (word-Good P-type.the_type.name p) $
          row_in Y ! at.before q.ptr (before_node (Some place) at.value) at.after qb qo there u usmall $
          let added : Entry Y = (p, node (Some q)) in
          move ! (1 ∷ 7 ∷ 8 ∷ []) $ held_in Y ! b o (node (Some q)) v small $ knows ! (LieElsewhere p mid) (row_fresh 𝓛 Y 𝓜 added mid) (λ fresh.
          let new : (Cr Y).Denot = record { first = d.first; last = Some place; mark = d.mark; nodes = mid ++ added ∷ []; apart = apart_more mid added fresh (changed_apart at d.apart (before_node (Some place))) } in
          rewrite ! 1 (λ (us : List (Entry Y)). ‵ (held_owns (R Y) us)) (sym (append-nil mid)) refl $ use2 𝓛 (‵ (held_owns (R Y) new.nodes)) (row_glue 𝓛 Y mid added []) $
          chain_closes Y ! tt new rb ro $ returns ! (look_at ! 0 refl) $ free_all ! refl $ keep ! (0 ∷ 1 ∷ 2 ∷ 3 ∷ []) $
          by ! (leave new (chain_grown d.first d.last d.nodes added new.first new.nodes chain el refl (ap (λ r. end_beside r (Some place) d.first) el)
          (ap (λ us. us ++ added ∷ []) (last_leads d.nodes d.nodes [] (sym (append-nil d.nodes)) q ends_there d.apart at (Some place) ∙ append-nil _)))))))
    ]) refl))))))))
