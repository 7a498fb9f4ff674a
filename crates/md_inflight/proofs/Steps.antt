-- What the walks of the chain share.
pub use Rattle.std.proofs.Common.{◌≡◌, ℕ, ◌+◌, ◌<◌, ◌^◌, List, [], ◌∷◌, ◌++◌, Option, Some, None, refl, sym, ap, ◌∙◌, subst, append-nil, lit<}
pub use base.Fraction.{full_share}
pub use base.Logic.{SProp, ent, sep, emp, never, id⊢, fst∗}
pub use base.Fml.{Fml, Lft, Share, GName, ftrue, fsep, fat, froom, flft, fobs, fauth, fbor, fobor}
pub use mir.Syntax.{named, ty_ptr}
pub use mir.MapTy.{inst_fn}
pub use mir.Raw.{raw as bare}
pub use mir.Val.{Val, vptr, vint, vstruct, vcons, vnil}
pub use prog.Wp.{Env, WpFn}
pub use prog.Model.{Model}
pub use types.Logic.{Logic, sem}
pub use contract.Monad.{fact, fact_i}
pub use contract.Running.{tables}
pub use contract.BorrowLft.{◌⊑◌}
pub use types.Kit.{Item, ⋆, ‵, raw, ◌⊛◌, some, later, at_ret, ◌$◌, ◌∵◌, !, qed, by, move, keep, drop, use0, use1, use2, split, split3, join, group, pick, await, rewrite, fsplit, fsplit3, fjoin, fjoin3, fpack, feq_i, feq_l, flt_l, suffices, frame, done}
pub use types.Match.{live, vrt, in_variant}
pub use types.Part.{whole, sub, agg, look_in, store_in}
pub use types.Run.{stop, fld, lit, of_opd, addr, load, look, init, store, no_more, and_then, assigns, assigns_last, first, blocks, switches_on, exec, returns, enter}
pub use types.ByLocal.{alloc_all, pass_all, free_all, look_at, get, get_in, get_tag, through, sets, sets_last, is, env}
pub use types.SemTy.{Body as Borrowed}
pub use denote.Builtin.{RefOf, RefMutOf, u64}
pub use denote.Exit.{yes, no}
pub use denote.RattleType.{RattleType, owns}
pub use denote.Memory.{lone, mem, cell_at, part_at, part_of, hidden_shr}
pub use denote.Opens.{hide, unhide}
pub use denote.Param.{param, layout}
pub use denote.RawPtr.{Ptr, block_ptr, null_ptr, ptr_val, lies_at, in_a_block}
pub use denote.Ref.{Bor, MutBor, MutRef, ShrRef}
pub use denote.Signature.{plain, types_at}
pub use denote.Steps.{nothing, heard, opens, closes, only}
pub use denote.Struct.Lending.{lent_at}
pub use denote.Struct.Struct.{as_fields}
pub use denote.Triple.Walked.{Stays, stay_dropped, stay_ref, walk_of, Goes-dropped, Goes-ref, Goes-spent_ref}
pub use Rattle.core.proofs.alloc.Calls.{Goes-blank, handle_tells}
pub use Rattle.core.proofs.alloc.Shapes.{after, head, arm_body}
pub use Rattle.std.proofs.raw_atomic.Walks.{proved_at, leaves}
pub use Rattle.std_alloc.proofs.RcSteps.{Good, word, word-Good}
