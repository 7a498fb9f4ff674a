-- `unlink` reads the node out, and links its two neighbours to one another. Assumes `Logic`.
use Rattle.md_inflight.proofs.Steps.{◌≡◌, List, [], ◌∷◌, ◌++◌, Option, Some, None, refl, sym, ap, ◌∙◌, subst, full_share, SProp, ent, emp, id⊢, ftrue, fat, froom, flft, fobs, fbor, inst_fn, Val, vptr, Env, WpFn, fact, fact_i, tables, ◌⊑◌, Item, ⋆, ‵, raw, ◌⊛◌, at_ret, ◌$◌, ◌∵◌, !, qed, by, move, keep, drop, use0, use1, use2, split, join, rewrite, fsplit, fsplit3, fjoin, fjoin3, feq_i, feq_l, suffices, vrt, in_variant, whole, sub, agg, store_in, stop, fld, of_opd, load, look, no_more, and_then, assigns_last, first, blocks, switches_on, exec, returns, enter, alloc_all, pass_all, free_all, look_at, get, get_in, get_tag, through, sets, sets_last, is, env, Borrowed, yes, RattleType, owns, types_at, lone, mem, block_ptr, ptr_val, plain, nothing, heard, Stays, stay_dropped, stay_ref, walk_of, Goes-dropped, Goes-ref, Goes-blank, handle_tells, after, head, arm_body, proved_at, leaves, word, word-Good}
use denote.Param.{layout}
use denote.Struct.Tuple.{Tuple}
use Rattle.std_alloc.proofs.OfVacant.{vacant_val, vacant_ty, vacant_typed, Vacant-made}
use Rattle.std_alloc.proofs.Pairs.{pair_val, pair_Typed, pair_of}
use Rattle.std_alloc.proofs.RawLayout.{as_raw}
use Rattle.std_alloc.specs.contracts.room.vacant.Vacant as V
use Rattle.std.specs.contracts.impls.GlobalAllocator.TheImpl.{ghosts}
use Rattle.std.specs.contracts.alloc.Global as heap_row
use Rattle.md_inflight.specs.Placed.{LieApart, IsAt, AtPlace}
use Rattle.md_inflight.specs.Linked.{IsChain, entries, front, back}
use Rattle.md_inflight.specs.declared.place.Place.{Place}
use Rattle.md_inflight.specs.contracts.place.Place as P-type
use Rattle.md_inflight.proofs.Places.{changed, changed_apart, left_apart, at_place}
use Rattle.md_inflight.proofs.Linked.{end_beside, before_node, after_node, leading_to, coming_from, neighbours, last_stands, last_leads, first_stands, first_comes, none_leads, none_comes, chain_shrunk}
use Rattle.md_inflight.proofs.Nodes.{args, heap, R, Cr, Nr, Entry, Pl, link-Good, node-Good, node_val, place_had, row_in, row_out, chain_opens, chain_closes, then_runs}
use Rattle.md_inflight.specs.contracts.chain.Chain.unlink as f
use Rattle.md_inflight.proofs.chain.Chain.unlink.Statement.{statement}
use Rattle.md_inflight.proofs.chain.Chain.unlink.Code as code

pub unlink_spec : {M : Type 1} → statement M
unlink_spec 𝓤 𝓛 𝓜 𝓡 wired Y L =
    let H = 𝓛.H in let 𝓣 = tables 𝓤 H 𝓜 𝓡 𝓡.env in let En = f.ended Y in let c = f.clauses Y 𝓛 𝓜.mem 𝓡.returns in let fn = inst_fn (args Y) code.function in let τ = lone (Nr Y).mir in
    let Vr : RattleType = V.the_row (Nr Y) heap_row.the_row ghosts in let Out : RattleType = Tuple (R Y ∷ Vr ∷ []) in
    let hs : Stays En.signature.params En.kept = (stay_ref (0 ∷ []) tt (plain (λ _. Cr Y)), (stay_dropped (plain (λ _. Pl)) yes, (stay_dropped (plain (λ _. heap_row.the_row)) yes, tt))) in
    proved_at 𝓛 En hs c 𝓜 𝓡
    (Goes-ref 𝓛 2 0 tt (plain (λ _. Cr Y)), (Goes-dropped 𝓛 2 (plain (λ _. Pl)) yes (λ κs x w. refl), (Goes-blank 𝓛 2 (plain (λ _. heap_row.the_row)) yes (λ κs x w. tt), tt)))
    (f.Key.name (args Y)) fn (code.unfolded 𝓤 H 𝓜 𝓡 wired (Y, tt)) (λ z are.
    let κs = z.0.0 in let qs = z.0.1 in let self = z.0.3.0 in let d = self.now in let γ = self.ghost_name in let place = z.0.3.1.0 in let alloc = z.0.3.1.1.0 in let rb = self.ref_ptr.0 in let ro = self.ref_ptr.1 in
    let Post : Val → SProp 𝓤 = (walk_of 𝓛 En hs c).post z in let Run : List Val → SProp 𝓤 = λ ws. WpFn 𝓤 H 𝓣.C 𝓣.Λ fn ws Post in
    let others = ‵ (flft κs.1.0 qs.1.0) ⊛ ‵ ftrue in
    qed 𝓛 (((‵ (flft κs.0 qs.0) ⊛ others) ⊛ ‵ (owns (types_at En.signature.params κs) z.0.3 z.0.4)) ∷ (raw (fact 𝓤 (κs.1.0 ⊑ Y.lives)) ⊛ raw (fact 𝓤 (IsAt d.nodes place.ptr × IsChain d.first d.last d.nodes))) ∷ []) ∵
    split ! $ split ! $ move ! (3 ∷ []) $ split ! $ drop ! $ heard ! _ (λ asked. move ! (2 ∷ []) $ fsplit ! $ fsplit3 ! $ feq_l ! (λ e₀. move ! (2 ∷ []) $ fsplit ! $ place_had ! place z.0.4.1.0 (λ e₁.
    fsplit ! $ handle_tells heap ! alloc z.0.4.1.1.0 (λ h e₂ fits. keep ! (2 ∷ 3 ∷ 4 ∷ 5 ∷ 0 ∷ []) $
    let at = asked.0 in let xs = at.before in let x = at.value in let ys = at.after in let v : Entry Y = (place.ptr, x) in
    let chain : IsChain d.first d.last (xs ++ v ∷ ys) = subst (IsChain d.first d.last) at.cut asked.1 in
    let beside = neighbours d.first d.last xs v ys chain in let apart : LieApart (xs ++ ys) = left_apart at d.apart in
    let ws : List Val = vptr rb ro ∷ word place.ptr ∷ h ∷ [] in
    let Had : List (Item 𝓤) = ‵ (fobs γ ((Cr Y).coded.code d)) ∷ ‵ (fbor κs.0 (Borrowed (mem (Cr Y)) rb ro γ)) ∷ ‵ (flft κs.0 qs.0) ∷ others ∷ ‵ (heap_row.the_row.own_val alloc (h ∷ [])) ∷ [] in
    let Gives : Y.Denot → (Cr Y).Denot → Type 0 = λ item new. IsChain new.first new.last new.nodes × AtPlace d.nodes place.ptr (λ us m zs. (entries new.nodes ≡ entries (us ++ zs)) × (item ≡ m.item)) in
    let leave : (r : Out.Denot) (w : Val) (new : (Cr Y).Denot) → Gives r.0 new → ent 𝓤 (⋆ 𝓛 (‵ (fobs γ ((Cr Y).coded.code new)) ∷ ‵ (fbor κs.0 (Borrowed (mem (Cr Y)) rb ro γ)) ∷ ‵ (flft κs.0 qs.0) ∷ others ∷ ‵ (Out.own_val r (w ∷ [])) ∷ [])) (Post w) = λ r w new g.
    qed 𝓛 (‵ (fobs γ ((Cr Y).coded.code new)) ∷ ‵ (fbor κs.0 (Borrowed (mem (Cr Y)) rb ro γ)) ∷ ‵ (flft κs.0 qs.0) ∷ others ∷ ‵ (Out.own_val r (w ∷ [])) ∷ []) ∵
    move ! (2 ∷ 3 ∷ []) $ join ! $ move ! (1 ∷ 2 ∷ []) $ feq_i ! (List Val) z.0.4.0 (vptr rb ro ∷ []) e₀ $ fjoin3 ! $ nothing ! $ nothing ! $ fjoin ! $ nothing ! $ fjoin ! $ move ! (1 ∷ 0 ∷ []) $ fjoin ! $
    use0 𝓛 (raw (fact 𝓤 (Gives r.0 new))) (fact_i 𝓤 _ (emp 𝓤) g) $ keep ! (2 ∷ 1 ∷ 3 ∷ 0 ∷ []) $ by ! (leaves 𝓛 En hs c z w r (new, (tt, (tt, tt))) (tt, (tt, (tt, tt)))) in
    suffices ! (Run ws) (subst (λ (us : List Val). ent 𝓤 (Run ws) (Run us)) (sym (λ i. e₀ i ++ (e₁ i ++ (e₂ i ++ [])))) (id⊢ 𝓤 (Run ws))) $
    by ! ((elim x.prev as (λ (a : Option Place). a ≡ x.prev → ent 𝓤 (⋆ 𝓛 Had) (Run ws)) [
      | None ↦ λ ea. (elim x.next as (λ (b : Option Place). b ≡ x.next → ent 𝓤 (⋆ 𝓛 Had) (Run ws)) [
        | None ↦ λ eb.
            let mid : List (Entry Y) = xs ++ ys in let mids : mid ≡ leading_to x.next xs ++ ys = ap (λ us. us ++ ys) (sym (none_leads xs (sym (ea ∙ beside.0)) x.next)) in let mid_apart = apart in
            let left : List (Entry Y) = mid in let lefts : left ≡ leading_to x.next xs ++ coming_from x.prev ys = mids ∙ ap (λ us. leading_to x.next xs ++ us) (sym (none_comes ys (sym (eb ∙ beside.1)) x.prev)) in
            let left_apart : LieApart left = mid_apart in
            let new : (Cr Y).Denot = record { first = None; last = None; mark = d.mark; nodes = left; apart = left_apart } in
            let both = chain_shrunk d.first d.last xs v ys new.first new.last left chain (λ i. end_beside (ea i) (eb i) d.first) (λ i. end_beside (eb i) (ea i) d.last) lefts in
            let gives : Gives x.item new = (both.0, at_place at d.apart (λ us m zs. (entries left ≡ entries (us ++ zs)) × (x.item ≡ m.item)) (both.1, refl)) in
            qed 𝓛 Had ∵ enter ! 𝓣.C 𝓣.Λ fn ws Post $ alloc_all ! (λ l. pass_all ! refl ((tt, tt), (word-Good P-type.the_type.name place.ptr, (fits, tt))) $ let Ev : Env 𝓤 H = env fn.locals l in
            chain_opens Y ! tt d rb ro $ row_out Y L ! at (λ pb po u there ugood usmall.
            let typed = node-Good Y x.number u None None usmall ugood in let room = vacant_typed heap (Nr Y) h pb po fits in let made : Vr.Denot = record { ptr = block_ptr pb po; alloc = alloc } in
            let pair = pair_val u (vacant_val h pb po) in let pair_typed = pair_Typed (layout Y) (vacant_ty heap (Nr Y)) u (vacant_val h pb po) ugood room in
            rewrite ! 0 (λ (s : Option Place × Option Place). ‵ (fat full_share τ pb po (node_val x.number u s.0 s.1))) (λ i. (sym ea i, sym eb i)) refl $
            -- [the node, in three; the others; the ends; the open borrow; obs; auth; the other tokens; the handle]
            sets ! (is ! (of_opd ! (get_in ! (fld ! refl (stop !)) (sub ! 0 refl (whole !)))) (ap ptr_val there)) refl (tt, tt) $
            first ! $ blocks ! $ sets_last ! (of_opd ! (load ! (through ! refl (stop !)) (look ! 0 refl))) refl typed $ exec ! 𝓣.C 𝓣.Λ Ev (after 2 fn.body) (at_ret Ev Post) $ sets ! (of_opd ! (get ! refl)) refl typed $
            sets ! (of_opd ! (get_in ! (fld ! refl (stop !)) (sub ! 1 refl (whole !)))) refl ugood $ sets ! (of_opd ! (get_in ! (fld ! refl (stop !)) (sub ! 2 refl (whole !)))) refl (link-Good None) $ sets ! (of_opd ! (get_in ! (fld ! refl (stop !)) (sub ! 3 refl (whole !)))) refl (link-Good None) $
            first ! $ switches_on ! (get_tag ! (vrt ! refl (fld ! refl (stop !))) (whole !)) $ exec ! 𝓣.C 𝓣.Λ Ev (arm_body 0 (head (after 6 fn.body))) (then_runs 𝓛 𝓣.C 𝓣.Λ Ev (after 7 fn.body) (at_ret Ev Post)) $
            assigns_last ! (of_opd ! (get ! refl)) (through ! refl (fld ! refl (stop !))) (store_in ! 4 (sub ! 0 refl (whole !)) (link-Good None)) $ exec ! 𝓣.C 𝓣.Λ Ev (after 7 fn.body) (at_ret Ev Post) $
            first ! $ switches_on ! (get_tag ! (vrt ! refl (fld ! refl (stop !))) (whole !)) $ exec ! 𝓣.C 𝓣.Λ Ev (arm_body 0 (head (after 7 fn.body))) (then_runs 𝓛 𝓣.C 𝓣.Λ Ev (after 8 fn.body) (at_ret Ev Post)) $
            assigns_last ! (of_opd ! (get ! refl)) (through ! refl (fld ! refl (stop !))) (store_in ! 4 (sub ! 1 refl (whole !)) (link-Good None)) $ exec ! 𝓣.C 𝓣.Λ Ev (after 8 fn.body) (at_ret Ev Post) $
            sets ! (of_opd ! (get ! refl)) refl ugood $ sets ! (agg ! (and_then ! (get ! refl) (and_then ! (get ! refl) (no_more !)))) refl room $ sets ! (agg ! (and_then ! (get ! refl) (and_then ! (get ! refl) (no_more !)))) refl pair_typed $
            use1 𝓛 (‵ (froom τ pb po)) (𝓛.laws.at_room τ pb po (node_val x.number u None None)) $ as_raw ! τ pb po $ move ! (0 ∷ 1 ∷ 9 ∷ []) $ Vacant-made heap (Nr Y) ! alloc pb po $ move ! (1 ∷ 0 ∷ []) $
            use2 𝓛 (‵ (Out.own_val (x.item, made) (pair ∷ []))) (pair_of 𝓛 (R Y) Vr x.item made u (vacant_val h pb po)) $ move ! (1 ∷ 2 ∷ 3 ∷ 4 ∷ 5 ∷ []) $ chain_closes Y ! tt new rb ro $
            returns ! (look_at ! 0 refl) $ free_all ! refl $ keep ! (0 ∷ 1 ∷ 2 ∷ 4 ∷ 3 ∷ []) $ by ! (leave (x.item, made) pair new gives)))
        | Some r ↦ λ eb.
            let mid : List (Entry Y) = xs ++ ys in let mids : mid ≡ leading_to x.next xs ++ ys = ap (λ us. us ++ ys) (sym (none_leads xs (sym (ea ∙ beside.0)) x.next)) in let mid_apart = apart in
            let ends₂ : front ys None ≡ Some r = sym (eb ∙ beside.1) in let at₂ : IsAt mid r.ptr = first_stands mid (leading_to x.next xs) ys mids r ends₂ in let left : List (Entry Y) = changed at₂ (after_node None) in
            let lefts : left ≡ leading_to x.next xs ++ coming_from x.prev ys = first_comes mid (leading_to x.next xs) ys mids r ends₂ mid_apart at₂ None ∙ (λ i. leading_to x.next xs ++ coming_from (ea i) ys) in
            let left_apart : LieApart left = changed_apart at₂ mid_apart (after_node None) in
            let new : (Cr Y).Denot = record { first = Some r; last = d.last; mark = d.mark; nodes = left; apart = left_apart } in
            let both = chain_shrunk d.first d.last xs v ys new.first new.last left chain (λ i. end_beside (ea i) (eb i) d.first) (λ i. end_beside (eb i) (ea i) d.last) lefts in
            let gives : Gives x.item new = (both.0, at_place at d.apart (λ us m zs. (entries left ≡ entries (us ++ zs)) × (x.item ≡ m.item)) (both.1, refl)) in
            qed 𝓛 Had ∵ enter ! 𝓣.C 𝓣.Λ fn ws Post $ alloc_all ! (λ l. pass_all ! refl ((tt, tt), (word-Good P-type.the_type.name place.ptr, (fits, tt))) $ let Ev : Env 𝓤 H = env fn.locals l in
            chain_opens Y ! tt d rb ro $ row_out Y L ! at (λ pb po u there ugood usmall.
            let typed = node-Good Y x.number u None (Some r) usmall ugood in let room = vacant_typed heap (Nr Y) h pb po fits in let made : Vr.Denot = record { ptr = block_ptr pb po; alloc = alloc } in
            let pair = pair_val u (vacant_val h pb po) in let pair_typed = pair_Typed (layout Y) (vacant_ty heap (Nr Y)) u (vacant_val h pb po) ugood room in
            rewrite ! 0 (λ (s : Option Place × Option Place). ‵ (fat full_share τ pb po (node_val x.number u s.0 s.1))) (λ i. (sym ea i, sym eb i)) refl $
            -- [the node, in three; the others; the ends; the open borrow; obs; auth; the other tokens; the handle]
            sets ! (is ! (of_opd ! (get_in ! (fld ! refl (stop !)) (sub ! 0 refl (whole !)))) (ap ptr_val there)) refl (tt, tt) $
            first ! $ blocks ! $ sets_last ! (of_opd ! (load ! (through ! refl (stop !)) (look ! 0 refl))) refl typed $ exec ! 𝓣.C 𝓣.Λ Ev (after 2 fn.body) (at_ret Ev Post) $ sets ! (of_opd ! (get ! refl)) refl typed $
            sets ! (of_opd ! (get_in ! (fld ! refl (stop !)) (sub ! 1 refl (whole !)))) refl ugood $ sets ! (of_opd ! (get_in ! (fld ! refl (stop !)) (sub ! 2 refl (whole !)))) refl (link-Good None) $ sets ! (of_opd ! (get_in ! (fld ! refl (stop !)) (sub ! 3 refl (whole !)))) refl (link-Good (Some r)) $
            first ! $ switches_on ! (get_tag ! (vrt ! refl (fld ! refl (stop !))) (whole !)) $ exec ! 𝓣.C 𝓣.Λ Ev (arm_body 0 (head (after 6 fn.body))) (then_runs 𝓛 𝓣.C 𝓣.Λ Ev (after 7 fn.body) (at_ret Ev Post)) $
            assigns_last ! (of_opd ! (get ! refl)) (through ! refl (fld ! refl (stop !))) (store_in ! 4 (sub ! 0 refl (whole !)) (link-Good (Some r))) $ exec ! 𝓣.C 𝓣.Λ Ev (after 7 fn.body) (at_ret Ev Post) $
            move ! (3 ∷ []) $ row_out Y L ! at₂ (λ sb so w₂ there₂ good₂ small₂.
            first ! $ switches_on ! (get_tag ! (vrt ! refl (fld ! refl (stop !))) (whole !)) $ exec ! 𝓣.C 𝓣.Λ Ev (arm_body 1 (head (after 7 fn.body))) (then_runs 𝓛 𝓣.C 𝓣.Λ Ev (after 8 fn.body) (at_ret Ev Post)) $
            sets ! (of_opd ! (get_in ! (vrt ! refl (fld ! refl (stop !))) (in_variant ! 1 0 refl refl (whole !)))) refl (word-Good P-type.the_type.name r.ptr) $ sets ! (is ! (of_opd ! (get_in ! (fld ! refl (stop !)) (sub ! 0 refl (whole !)))) (ap ptr_val there₂)) refl (tt, tt) $
            assigns_last ! (of_opd ! (get ! refl)) (through ! refl (fld ! refl (stop !))) (store_in ! 0 (sub ! 2 refl (whole !)) (link-Good None)) $ exec ! 𝓣.C 𝓣.Λ Ev (after 8 fn.body) (at_ret Ev Post) $
            row_in Y ! at₂.before r.ptr (after_node None at₂.value) at₂.after sb so there₂ w₂ small₂ $ move ! (1 ∷ 2 ∷ 3 ∷ 0 ∷ []) $
            sets ! (of_opd ! (get ! refl)) refl ugood $ sets ! (agg ! (and_then ! (get ! refl) (and_then ! (get ! refl) (no_more !)))) refl room $ sets ! (agg ! (and_then ! (get ! refl) (and_then ! (get ! refl) (no_more !)))) refl pair_typed $
            use1 𝓛 (‵ (froom τ pb po)) (𝓛.laws.at_room τ pb po (node_val x.number u None (Some r))) $ as_raw ! τ pb po $ move ! (0 ∷ 1 ∷ 9 ∷ []) $ Vacant-made heap (Nr Y) ! alloc pb po $ move ! (1 ∷ 0 ∷ []) $
            use2 𝓛 (‵ (Out.own_val (x.item, made) (pair ∷ []))) (pair_of 𝓛 (R Y) Vr x.item made u (vacant_val h pb po)) $ move ! (1 ∷ 2 ∷ 3 ∷ 4 ∷ 5 ∷ []) $ chain_closes Y ! tt new rb ro $
            returns ! (look_at ! 0 refl) $ free_all ! refl $ keep ! (0 ∷ 1 ∷ 2 ∷ 4 ∷ 3 ∷ []) $ by ! (leave (x.item, made) pair new gives))))
      ]) refl
      | Some q ↦ λ ea. (elim x.next as (λ (b : Option Place). b ≡ x.next → ent 𝓤 (⋆ 𝓛 Had) (Run ws)) [
        | None ↦ λ eb.
            let ends₁ : back None xs ≡ Some q = sym (ea ∙ beside.0) in let at₁ : IsAt (xs ++ ys) q.ptr = last_stands (xs ++ ys) xs ys refl q ends₁ in let mid : List (Entry Y) = changed at₁ (before_node None) in
            let mids : mid ≡ leading_to x.next xs ++ ys = last_leads (xs ++ ys) xs ys refl q ends₁ apart at₁ None ∙ (λ i. leading_to (eb i) xs ++ ys) in let mid_apart : LieApart mid = changed_apart at₁ apart (before_node None) in
            let left : List (Entry Y) = mid in let lefts : left ≡ leading_to x.next xs ++ coming_from x.prev ys = mids ∙ ap (λ us. leading_to x.next xs ++ us) (sym (none_comes ys (sym (eb ∙ beside.1)) x.prev)) in
            let left_apart : LieApart left = mid_apart in
            let new : (Cr Y).Denot = record { first = d.first; last = Some q; mark = d.mark; nodes = left; apart = left_apart } in
            let both = chain_shrunk d.first d.last xs v ys new.first new.last left chain (λ i. end_beside (ea i) (eb i) d.first) (λ i. end_beside (eb i) (ea i) d.last) lefts in
            let gives : Gives x.item new = (both.0, at_place at d.apart (λ us m zs. (entries left ≡ entries (us ++ zs)) × (x.item ≡ m.item)) (both.1, refl)) in
            qed 𝓛 Had ∵ enter ! 𝓣.C 𝓣.Λ fn ws Post $ alloc_all ! (λ l. pass_all ! refl ((tt, tt), (word-Good P-type.the_type.name place.ptr, (fits, tt))) $ let Ev : Env 𝓤 H = env fn.locals l in
            chain_opens Y ! tt d rb ro $ row_out Y L ! at (λ pb po u there ugood usmall.
            let typed = node-Good Y x.number u (Some q) None usmall ugood in let room = vacant_typed heap (Nr Y) h pb po fits in let made : Vr.Denot = record { ptr = block_ptr pb po; alloc = alloc } in
            let pair = pair_val u (vacant_val h pb po) in let pair_typed = pair_Typed (layout Y) (vacant_ty heap (Nr Y)) u (vacant_val h pb po) ugood room in
            rewrite ! 0 (λ (s : Option Place × Option Place). ‵ (fat full_share τ pb po (node_val x.number u s.0 s.1))) (λ i. (sym ea i, sym eb i)) refl $
            -- [the node, in three; the others; the ends; the open borrow; obs; auth; the other tokens; the handle]
            sets ! (is ! (of_opd ! (get_in ! (fld ! refl (stop !)) (sub ! 0 refl (whole !)))) (ap ptr_val there)) refl (tt, tt) $
            first ! $ blocks ! $ sets_last ! (of_opd ! (load ! (through ! refl (stop !)) (look ! 0 refl))) refl typed $ exec ! 𝓣.C 𝓣.Λ Ev (after 2 fn.body) (at_ret Ev Post) $ sets ! (of_opd ! (get ! refl)) refl typed $
            sets ! (of_opd ! (get_in ! (fld ! refl (stop !)) (sub ! 1 refl (whole !)))) refl ugood $ sets ! (of_opd ! (get_in ! (fld ! refl (stop !)) (sub ! 2 refl (whole !)))) refl (link-Good (Some q)) $ sets ! (of_opd ! (get_in ! (fld ! refl (stop !)) (sub ! 3 refl (whole !)))) refl (link-Good None) $
            move ! (3 ∷ []) $ row_out Y L ! at₁ (λ qb qo w₁ there₁ good₁ small₁.
            first ! $ switches_on ! (get_tag ! (vrt ! refl (fld ! refl (stop !))) (whole !)) $ exec ! 𝓣.C 𝓣.Λ Ev (arm_body 1 (head (after 6 fn.body))) (then_runs 𝓛 𝓣.C 𝓣.Λ Ev (after 7 fn.body) (at_ret Ev Post)) $
            sets ! (of_opd ! (get_in ! (vrt ! refl (fld ! refl (stop !))) (in_variant ! 1 0 refl refl (whole !)))) refl (word-Good P-type.the_type.name q.ptr) $ sets ! (is ! (of_opd ! (get_in ! (fld ! refl (stop !)) (sub ! 0 refl (whole !)))) (ap ptr_val there₁)) refl (tt, tt) $
            assigns_last ! (of_opd ! (get ! refl)) (through ! refl (fld ! refl (stop !))) (store_in ! 0 (sub ! 3 refl (whole !)) (link-Good None)) $ exec ! 𝓣.C 𝓣.Λ Ev (after 7 fn.body) (at_ret Ev Post) $
            row_in Y ! at₁.before q.ptr (before_node None at₁.value) at₁.after qb qo there₁ w₁ small₁ $ move ! (1 ∷ 2 ∷ 3 ∷ 0 ∷ []) $
            first ! $ switches_on ! (get_tag ! (vrt ! refl (fld ! refl (stop !))) (whole !)) $ exec ! 𝓣.C 𝓣.Λ Ev (arm_body 0 (head (after 7 fn.body))) (then_runs 𝓛 𝓣.C 𝓣.Λ Ev (after 8 fn.body) (at_ret Ev Post)) $
            assigns_last ! (of_opd ! (get ! refl)) (through ! refl (fld ! refl (stop !))) (store_in ! 4 (sub ! 1 refl (whole !)) (link-Good (Some q))) $ exec ! 𝓣.C 𝓣.Λ Ev (after 8 fn.body) (at_ret Ev Post) $
            sets ! (of_opd ! (get ! refl)) refl ugood $ sets ! (agg ! (and_then ! (get ! refl) (and_then ! (get ! refl) (no_more !)))) refl room $ sets ! (agg ! (and_then ! (get ! refl) (and_then ! (get ! refl) (no_more !)))) refl pair_typed $
            use1 𝓛 (‵ (froom τ pb po)) (𝓛.laws.at_room τ pb po (node_val x.number u (Some q) None)) $ as_raw ! τ pb po $ move ! (0 ∷ 1 ∷ 9 ∷ []) $ Vacant-made heap (Nr Y) ! alloc pb po $ move ! (1 ∷ 0 ∷ []) $
            use2 𝓛 (‵ (Out.own_val (x.item, made) (pair ∷ []))) (pair_of 𝓛 (R Y) Vr x.item made u (vacant_val h pb po)) $ move ! (1 ∷ 2 ∷ 3 ∷ 4 ∷ 5 ∷ []) $ chain_closes Y ! tt new rb ro $
            returns ! (look_at ! 0 refl) $ free_all ! refl $ keep ! (0 ∷ 1 ∷ 2 ∷ 4 ∷ 3 ∷ []) $ by ! (leave (x.item, made) pair new gives))))
        | Some r ↦ λ eb.
            let ends₁ : back None xs ≡ Some q = sym (ea ∙ beside.0) in let at₁ : IsAt (xs ++ ys) q.ptr = last_stands (xs ++ ys) xs ys refl q ends₁ in let mid : List (Entry Y) = changed at₁ (before_node (Some r)) in
            let mids : mid ≡ leading_to x.next xs ++ ys = last_leads (xs ++ ys) xs ys refl q ends₁ apart at₁ (Some r) ∙ (λ i. leading_to (eb i) xs ++ ys) in let mid_apart : LieApart mid = changed_apart at₁ apart (before_node (Some r)) in
            let ends₂ : front ys None ≡ Some r = sym (eb ∙ beside.1) in let at₂ : IsAt mid r.ptr = first_stands mid (leading_to x.next xs) ys mids r ends₂ in let left : List (Entry Y) = changed at₂ (after_node (Some q)) in
            let lefts : left ≡ leading_to x.next xs ++ coming_from x.prev ys = first_comes mid (leading_to x.next xs) ys mids r ends₂ mid_apart at₂ (Some q) ∙ (λ i. leading_to x.next xs ++ coming_from (ea i) ys) in
            let left_apart : LieApart left = changed_apart at₂ mid_apart (after_node (Some q)) in
            let new : (Cr Y).Denot = record { first = d.first; last = d.last; mark = d.mark; nodes = left; apart = left_apart } in
            let both = chain_shrunk d.first d.last xs v ys new.first new.last left chain (λ i. end_beside (ea i) (eb i) d.first) (λ i. end_beside (eb i) (ea i) d.last) lefts in
            let gives : Gives x.item new = (both.0, at_place at d.apart (λ us m zs. (entries left ≡ entries (us ++ zs)) × (x.item ≡ m.item)) (both.1, refl)) in
            qed 𝓛 Had ∵ enter ! 𝓣.C 𝓣.Λ fn ws Post $ alloc_all ! (λ l. pass_all ! refl ((tt, tt), (word-Good P-type.the_type.name place.ptr, (fits, tt))) $ let Ev : Env 𝓤 H = env fn.locals l in
            chain_opens Y ! tt d rb ro $ row_out Y L ! at (λ pb po u there ugood usmall.
            let typed = node-Good Y x.number u (Some q) (Some r) usmall ugood in let room = vacant_typed heap (Nr Y) h pb po fits in let made : Vr.Denot = record { ptr = block_ptr pb po; alloc = alloc } in
            let pair = pair_val u (vacant_val h pb po) in let pair_typed = pair_Typed (layout Y) (vacant_ty heap (Nr Y)) u (vacant_val h pb po) ugood room in
            rewrite ! 0 (λ (s : Option Place × Option Place). ‵ (fat full_share τ pb po (node_val x.number u s.0 s.1))) (λ i. (sym ea i, sym eb i)) refl $
            -- [the node, in three; the others; the ends; the open borrow; obs; auth; the other tokens; the handle]
            sets ! (is ! (of_opd ! (get_in ! (fld ! refl (stop !)) (sub ! 0 refl (whole !)))) (ap ptr_val there)) refl (tt, tt) $
            first ! $ blocks ! $ sets_last ! (of_opd ! (load ! (through ! refl (stop !)) (look ! 0 refl))) refl typed $ exec ! 𝓣.C 𝓣.Λ Ev (after 2 fn.body) (at_ret Ev Post) $ sets ! (of_opd ! (get ! refl)) refl typed $
            sets ! (of_opd ! (get_in ! (fld ! refl (stop !)) (sub ! 1 refl (whole !)))) refl ugood $ sets ! (of_opd ! (get_in ! (fld ! refl (stop !)) (sub ! 2 refl (whole !)))) refl (link-Good (Some q)) $ sets ! (of_opd ! (get_in ! (fld ! refl (stop !)) (sub ! 3 refl (whole !)))) refl (link-Good (Some r)) $
            move ! (3 ∷ []) $ row_out Y L ! at₁ (λ qb qo w₁ there₁ good₁ small₁.
            first ! $ switches_on ! (get_tag ! (vrt ! refl (fld ! refl (stop !))) (whole !)) $ exec ! 𝓣.C 𝓣.Λ Ev (arm_body 1 (head (after 6 fn.body))) (then_runs 𝓛 𝓣.C 𝓣.Λ Ev (after 7 fn.body) (at_ret Ev Post)) $
            sets ! (of_opd ! (get_in ! (vrt ! refl (fld ! refl (stop !))) (in_variant ! 1 0 refl refl (whole !)))) refl (word-Good P-type.the_type.name q.ptr) $ sets ! (is ! (of_opd ! (get_in ! (fld ! refl (stop !)) (sub ! 0 refl (whole !)))) (ap ptr_val there₁)) refl (tt, tt) $
            assigns_last ! (of_opd ! (get ! refl)) (through ! refl (fld ! refl (stop !))) (store_in ! 0 (sub ! 3 refl (whole !)) (link-Good (Some r))) $ exec ! 𝓣.C 𝓣.Λ Ev (after 7 fn.body) (at_ret Ev Post) $
            row_in Y ! at₁.before q.ptr (before_node (Some r) at₁.value) at₁.after qb qo there₁ w₁ small₁ $ move ! (1 ∷ 2 ∷ 3 ∷ 0 ∷ []) $
            move ! (3 ∷ []) $ row_out Y L ! at₂ (λ sb so w₂ there₂ good₂ small₂.
            first ! $ switches_on ! (get_tag ! (vrt ! refl (fld ! refl (stop !))) (whole !)) $ exec ! 𝓣.C 𝓣.Λ Ev (arm_body 1 (head (after 7 fn.body))) (then_runs 𝓛 𝓣.C 𝓣.Λ Ev (after 8 fn.body) (at_ret Ev Post)) $
            sets ! (of_opd ! (get_in ! (vrt ! refl (fld ! refl (stop !))) (in_variant ! 1 0 refl refl (whole !)))) refl (word-Good P-type.the_type.name r.ptr) $ sets ! (is ! (of_opd ! (get_in ! (fld ! refl (stop !)) (sub ! 0 refl (whole !)))) (ap ptr_val there₂)) refl (tt, tt) $
            assigns_last ! (of_opd ! (get ! refl)) (through ! refl (fld ! refl (stop !))) (store_in ! 0 (sub ! 2 refl (whole !)) (link-Good (Some q))) $ exec ! 𝓣.C 𝓣.Λ Ev (after 8 fn.body) (at_ret Ev Post) $
            row_in Y ! at₂.before r.ptr (after_node (Some q) at₂.value) at₂.after sb so there₂ w₂ small₂ $ move ! (1 ∷ 2 ∷ 3 ∷ 0 ∷ []) $
            sets ! (of_opd ! (get ! refl)) refl ugood $ sets ! (agg ! (and_then ! (get ! refl) (and_then ! (get ! refl) (no_more !)))) refl room $ sets ! (agg ! (and_then ! (get ! refl) (and_then ! (get ! refl) (no_more !)))) refl pair_typed $
            use1 𝓛 (‵ (froom τ pb po)) (𝓛.laws.at_room τ pb po (node_val x.number u (Some q) (Some r))) $ as_raw ! τ pb po $ move ! (0 ∷ 1 ∷ 9 ∷ []) $ Vacant-made heap (Nr Y) ! alloc pb po $ move ! (1 ∷ 0 ∷ []) $
            use2 𝓛 (‵ (Out.own_val (x.item, made) (pair ∷ []))) (pair_of 𝓛 (R Y) Vr x.item made u (vacant_val h pb po)) $ move ! (1 ∷ 2 ∷ 3 ∷ 4 ∷ 5 ∷ []) $ chain_closes Y ! tt new rb ro $
            returns ! (look_at ! 0 refl) $ free_all ! refl $ keep ! (0 ∷ 1 ∷ 2 ∷ 4 ∷ 3 ∷ []) $ by ! (leave (x.item, made) pair new gives)))))
      ]) refl
    ]) refl))))))
