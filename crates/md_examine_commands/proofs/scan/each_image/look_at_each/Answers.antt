use Rattle.std.proofs.Common.{◌≡◌, ◌≢◌, ◌∙◌, ◌+◌, ◌∷◌, ◌++◌, [], refl, sym, subst, arith, length, get_or}
use Rattle.std.proofs.lemmas.List.Elements.{All-nil}
use Rattle.std.proofs.lemmas.Option.{get_or_from_slice_get}
use Rattle.md_members.specs.declared.fault.MemberFault.TheVariants.{NoMemory}
use Rattle.md_examine_commands.specs.declared.scan.refused.Refused.{Refused}
use Rattle.md_examine_commands.specs.declared.scan.refused.ScanFault.TheVariants.{Member}
use Rattle.md_examine_commands.specs.EachImage.{AreKnownWhy, refused_of, seen_of}
use Rattle.md_examine_commands.proofs.ImagesLooked.{all_looked, first_more, one_more}
use Rattle.md_examine_commands.proofs.scan.each_image.look_at_each.Goals as goal

pub loop-place-init : goal.loop-place-init
unfolding seen_of refused_of
loop-place-init g c = record {
  looking = record { shown = []; first = record { many = refl; each = refl }; seen = c.new-seen.ensures.items; refused = c.new-refused.ensures.items; memory = subst AreKnownWhy (sym c.new-refused.ensures.items) (All-nil (λ (one : Refused). one.fault ≢ Member NoMemory)) };
  known = refl;
  asked = λ k n. refl;
}

pub loop-place-preserved : goal.loop-place-preserved
loop-place-preserved g c =
    let names = c.args.names.now in
    let place = c.loop-place.place in
    let name = c.name_at-name.result in
    let inv = c.loop-place.invariant in
    let here : get_or names place name ≡ name = get_or_from_slice_get names place name name c.name_at-name.ensures in
    record {
      looking = one_more g.I.Images g.I.Dev.Device names place c.args.images.now c.loop-place.images c.look_at-shown.new.images c.loop-place.looked c.add.new.self name c.look_at-shown.result c.loop-place-test.true inv.looking here c.look_at-shown.ensures.looks c.in-Ok.ensures.seen c.in-Ok.ensures.refused c.in-Ok.ensures.memory;
      known = c.look_at-shown.ensures.known ∙ inv.known;
      asked = λ k n. c.look_at-shown.ensures.asked (inv.known ∙ k) n ∙ inv.asked k n;
    }

pub returns-in-Err-clause-looks : goal.returns-in-Err-clause-looks
returns-in-Err-clause-looks g c =
    let names = c.args.names.now in
    let place = c.loop-place.place in
    let name = c.name_at-name.result in
    let inv = c.loop-place.invariant in
    let here : get_or names place name ≡ name = get_or_from_slice_get names place name name c.name_at-name.ensures in
    record {
      count = place + 1;
      shown = inv.looking.shown ++ c.look_at-shown.result ∷ [];
      first = first_more g.I.Images g.I.Dev.Device names place c.args.images.now c.loop-place.images c.look_at-shown.new.images inv.looking.shown name c.look_at-shown.result c.loop-place-test.true inv.looking.first here c.look_at-shown.ensures.looks;
    }

pub returns-in-Err-clause-asked : goal.returns-in-Err-clause-asked
returns-in-Err-clause-asked g c = λ k n. c.look_at-shown.ensures.asked (c.loop-place.invariant.known ∙ k) n ∙ c.loop-place.invariant.asked k n

pub returns-clause-looks : goal.returns-clause-looks
returns-clause-looks g c =
    let all : c.loop-place.place ≡ length c.args.names.now = omega arith in
    all_looked g.I.Images g.I.Dev.Device c.args.names.now c.loop-place.place c.args.images.now c.loop-place.images c.loop-place.looked all c.loop-place.invariant.looking
