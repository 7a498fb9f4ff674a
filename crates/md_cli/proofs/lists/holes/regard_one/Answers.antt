use Rattle.std.proofs.Common.{◌≡◌, ◌∙◌, false, inl, inr, refl, sym, true≢false}
use Rattle.std.proofs.lemmas.Result.{err_from_is_err_and}
use Rattle.md_cli.proofs.Lacked.{lacking_within, one_grown, one_same}
use Rattle.md_cli.proofs.lists.holes.regard_one.Goals as goal

pub returns-then-not-is_lacking-clause-gives : goal.returns-then-not-is_lacking-clause-gives
returns-then-not-is_lacking-clause-gives g c =
    let no : c.is_lacking.result ≡ false = (let test = c.if-not-is_lacking.true in cc) in
    one_same c.args.how c.args.lacking.now c.args.k c.args.mirror.now (λ m at. inr (inr (inr (λ l. true≢false (sym (c.is_lacking.ensures.1 l) ∙ no), refl))))

pub counted_sectors-requires-clause-listed : goal.counted_sectors-requires-clause-listed
counted_sectors-requires-clause-listed g c = lacking_within c.args.lacking.now c.args.mirror.now.array c.args.k (c.is_lacking.ensures.0 (let test = c.if-not-is_lacking.false in cc))

pub returns-in_err-sectors-clause-gives : goal.returns-in_err-sectors-clause-gives
returns-in_err-sectors-clause-gives g c =
    let p = err_from_is_err_and c.from_residual.result c.from_residual.ensures.1 in
    let lacks = c.is_lacking.ensures.0 (let test = c.if-not-is_lacking.false in cc) in
    rw p.1 (refl, lacks)

pub returns-in_err-fits-clause-gives : goal.returns-in_err-fits-clause-gives
returns-in_err-fits-clause-gives g c =
    let p = err_from_is_err_and c.from_residual-in_err-fits.result c.from_residual-in_err-fits.ensures.1 in
    let lacks = c.is_lacking.ensures.0 (let test = c.if-not-is_lacking.false in cc) in
    rw p.1 (refl, lacks)

pub returns-then-resynced-clause-gives : goal.returns-then-resynced-clause-gives
returns-then-resynced-clause-gives g c =
    let lacks = c.is_lacking.ensures.0 (let test = c.if-not-is_lacking.false in cc) in
    let no : c.in_ok-fits.fits ≡ false = c.if-fits.false in
    one_same c.args.how c.args.lacking.now c.args.k c.args.mirror.now (λ m at. inr (inr (inl (record {
      lacks = lacks;
      must_fit = c.in_ok-fits.ensures.must_fit no;
      resynced = sym c.resynced.ensures ∙ c.if-resynced.true;
      sectors = c.in_ok-sectors.sectors;
      are = c.in_ok-sectors.ensures m at;
      full = c.in_ok-fits.ensures.full no m at;
      member = refl;
    }))))

pub returns-then-fits-clause-gives : goal.returns-then-fits-clause-gives
returns-then-fits-clause-gives g c =
    let lacks = c.is_lacking.ensures.0 (let test = c.if-not-is_lacking.false in cc) in
    one_grown c.args.how c.args.lacking.now c.args.k c.args.mirror.now c.regard_as_bad.new.self c.in_ok-sectors.sectors c.requires.within c.in_ok-regard_as_bad.ensures.gives
    (λ m at list list_is. inl (record {
      lacks = lacks;
      sectors = c.in_ok-sectors.sectors;
      are = c.in_ok-sectors.ensures m at;
      room = λ must. c.in_ok-fits.ensures.room c.if-fits.true must m at;
      list = list;
      list_is = list_is;
      member = refl;
    }))

pub returns-clause-gives : goal.returns-clause-gives
returns-clause-gives g c =
    let lacks = c.is_lacking.ensures.0 (let test = c.if-not-is_lacking.false in cc) in
    one_grown c.args.how c.args.lacking.now c.args.k c.args.mirror.now c.regard_as_bad-2.new.self c.in_ok-marked.marked c.requires.within c.in_ok-regard_as_bad-2.ensures.gives
    (λ m at list list_is. inr (inl (record {
      lacks = lacks;
      must_fit = c.in_ok-fits.ensures.must_fit c.if-fits.false;
      unresynced = sym c.resynced.ensures ∙ c.if-resynced.false;
      all = c.in_ok-sectors.sectors;
      are = c.in_ok-sectors.ensures m at;
      full = c.in_ok-fits.ensures.full c.if-fits.false m at;
      sectors = c.in_ok-marked.marked;
      marked = c.in_ok-marked.ensures;
      list = list;
      list_is = list_is;
      member = refl;
    })))
