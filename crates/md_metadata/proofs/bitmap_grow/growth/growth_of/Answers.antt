use Rattle.std.proofs.Common.{◌≡◌, ◌∙◌, Bool, List, inl, inr, ap, sym, subst}
use Rattle.std.specs.Prelude.{slice_get, Some}
use Rattle.std.specs.List.{list_any}
use Rattle.std.proofs.lemmas.Result.{err_from_is_err_and}
use Rattle.md_members.specs.declared.info.MemberInfo.{MemberInfo}
use Rattle.md_assembly.specs.Assembled.{superblocks}
use Rattle.md_metadata.specs.Grow.Growth.{AreInSync, HasChunks, IsMade, RefusesInSync, RefusesBitmapPlace, has_header, lacks_header}
use Rattle.md_metadata.specs.Grow.Places.{IsFirstPlace, reserved_for}
use Rattle.md_metadata.proofs.GrowLemmas.Room.{freshest_within, sound_first, sound_size}
use Rattle.md_metadata.proofs.bitmap_grow.growth.growth_of.Goals as goal

pub returns-in_err-chunks : goal.returns-in_err-chunks
returns-in_err-chunks c =
    let p = err_from_is_err_and c.from_residual.result c.from_residual.ensures.1 in
    rw (p.1, p.2) (inl (subst (λ (infos : List MemberInfo). RefusesBitmapPlace infos c.args.chunk_bytes c.in_err-chunks.field-0.0) c.deref.ensures.value c.in_err-chunks.ensures))

pub new_header-header-requires : goal.new_header-header-requires
new_header-header-requires c =
    let has = subst (λ (infos : List MemberInfo). HasChunks infos c.args.chunk_bytes c.in_ok-chunks.chunks) c.deref.ensures.value c.in_ok-chunks.ensures.0 in
    sound_first c.args.infos.items c.args.chunk_bytes c.in_ok-chunks.chunks has c.superblock_at.result.now
    (subst (λ (infos : List MemberInfo). slice_get (superblocks infos) 0 ≡ Some c.superblock_at.result.now) c.deref-4.ensures.value c.superblock_at.ensures)

pub returns-in_err-members : goal.returns-in_err-members
returns-in_err-members c =
    let p = err_from_is_err_and c.from_residual-in_err-members.result c.from_residual-in_err-members.ensures.1 in
    rw (p.1, p.2) (inr (c.new_header-header.result, c.in_ok-chunks.start, c.new_header-header.ensures.chunksize, tt))

pub returns-in_err-freshest : goal.returns-in_err-freshest
returns-in_err-freshest c =
    let p = err_from_is_err_and c.from_residual-in_err-freshest.result c.from_residual-in_err-freshest.ensures.1 in
    let fault = c.in_err-freshest.field-0.0 in
    let lack = c.lacks_any_header-lack.ensures ∙ ap (list_any lacks_header) c.deref-3.ensures.value in
    rw (p.1, p.2) (inr (
      c.new_header-header.result,
      c.in_ok-chunks.start,
      c.new_header-header.ensures.chunksize,
      subst (λ (members : List MemberInfo). RefusesInSync members (list_any lacks_header c.args.infos.items) fault) (c.deref-5.ensures.value ∙ c.in_ok-members.ensures)
          (subst (λ (b : Bool). RefusesInSync c.deref-5.result.now b fault) lack c.in_err-freshest.ensures),
    ))

pub parts_of-requires-clause-within : goal.parts_of-requires-clause-within
parts_of-requires-clause-within c =
    let has = subst (λ (infos : List MemberInfo). HasChunks infos c.args.chunk_bytes c.in_ok-chunks.chunks) c.deref.ensures.value c.in_ok-chunks.ensures.0 in
    let v = c.in_ok-freshest.ensures.0 in
    let array = subst (λ (ms : List MemberInfo). AreInSync ms c.lacks_any_header-lack.result c.in_ok-freshest.freshest v) (c.deref-5.ensures.value ∙ sym c.deref-6.ensures.value) c.in_ok-freshest.ensures.1 in
    freshest_within c.args.infos.items c.args.chunk_bytes c.in_ok-chunks.chunks has c.deref-6.result.now c.new_header-header.result c.in_ok-chunks.start
    (c.deref-6.ensures.value ∙ c.in_ok-members.ensures) c.in_ok-freshest.freshest v array.array.freshest

pub parts_of-requires-clause-sound : goal.parts_of-requires-clause-sound
parts_of-requires-clause-sound c w at =
    let has = subst (λ (infos : List MemberInfo). HasChunks infos c.args.chunk_bytes c.in_ok-chunks.chunks) c.deref.ensures.value c.in_ok-chunks.ensures.0 in
    let v = c.in_ok-freshest.ensures.0 in
    let array = subst (λ (ms : List MemberInfo). AreInSync ms c.lacks_any_header-lack.result c.in_ok-freshest.freshest v) (c.deref-5.ensures.value ∙ sym c.deref-6.ensures.value) c.in_ok-freshest.ensures.1 in
    sound_size c.args.infos.items c.args.chunk_bytes c.in_ok-chunks.chunks has c.deref-6.result.now c.new_header-header.result c.in_ok-chunks.start
    (c.deref-6.ensures.value ∙ c.in_ok-members.ensures) array.array.sound c.in_ok-freshest.freshest w at

pub returns-in_err-shared : goal.returns-in_err-shared
returns-in_err-shared c =
    let p = err_from_is_err_and c.from_residual-in_err-shared.result c.from_residual-in_err-shared.ensures.1 in
    rw (p.1, p.2) (inr (c.new_header-header.result, c.in_ok-chunks.start, c.new_header-header.ensures.chunksize, tt))

pub returns : goal.returns
returns c =
    let infos = c.args.infos.items in
    let members = c.in_ok-members.members.items in
    let v = c.in_ok-freshest.ensures.0 in
    let freshest = c.in_ok-freshest.freshest in
    let lack : c.lacks_any_header-lack.result ≡ list_any lacks_header infos = c.lacks_any_header-lack.ensures ∙ ap (list_any lacks_header) c.deref-3.ensures.value in
    let had : c.has_any_header-had.result ≡ list_any has_header infos = c.has_any_header-had.ensures ∙ ap (list_any has_header) c.deref-2.ensures.value in
    let array : AreInSync members (list_any lacks_header infos) freshest v =
    subst (λ (b : Bool). AreInSync members b freshest v) lack (subst (λ (ms : List MemberInfo). AreInSync ms c.lacks_any_header-lack.result freshest v) c.deref-5.ensures.value c.in_ok-freshest.ensures.1) in
    let at = subst (λ (ms : List MemberInfo). slice_get (superblocks ms) freshest ≡ Some v) (sym c.deref-6.ensures.value) array.array.freshest.listed in
    record {
      chunks = c.in_ok-chunks.chunks;
      has_chunks = subst (λ (is : List MemberInfo). HasChunks is c.args.chunk_bytes c.in_ok-chunks.chunks) c.deref.ensures.value c.in_ok-chunks.ensures.0;
      place = subst (λ (is : List MemberInfo). IsFirstPlace (reserved_for c.in_ok-chunks.chunks) is c.in_ok-chunks.start) c.deref.ensures.value c.in_ok-chunks.ensures.1;
      first_header = c.new_header-header.result;
      are = c.in_ok-members.ensures;
      index = freshest;
      freshest = v;
      array = array;
      made =
          subst (λ (b : Bool). IsMade b members c.args.chunk_bytes c.in_ok-chunks.chunks v c.in_ok-shared.shared c.in_ok-shared.header c.in_ok-shared.marks) had
          (subst (λ (ms : List MemberInfo). IsMade c.has_any_header-had.result ms c.args.chunk_bytes c.in_ok-chunks.chunks v c.in_ok-shared.shared c.in_ok-shared.header c.in_ok-shared.marks) c.deref-6.ensures.value
          (c.in_ok-shared.ensures v at));
    }
