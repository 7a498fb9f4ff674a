use Rattle.std.proofs.Common.{◌≡◌, ◌∙◌, List, [], ◌∷◌, ℕ, map, refl, subst, inl}
use Rattle.md_members.specs.Reading.{CallFails}
use Rattle.std.specs.Borrow.{Bor}
use Rattle.std.specs.Prelude.{slice_index_or}
use Rattle.md_words.specs.Asks.{image_ask}
use Rattle.md_examine_commands.specs.Examining.{ExaminesOne, RefusedBy, ShownBy}
use Rattle.md_examine_commands.proofs.Reported.{flushed}
use Rattle.md_examine_commands.proofs.examining.examine_images.Goals as goal

abbrev no_name : Bor (List ℕ)
no_name = record { ref_ptr = (0, 0); now = [] }

only_name : (names : List (Bor (List ℕ))) (name : List ℕ) → map (λ s. s.now) names ≡ name ∷ [] → (slice_index_or names 0 no_name).now ≡ name
only_name [] name e = absurd cc
only_name (n ∷ ns) name e = cc

pub returns-clause-one : goal.returns-clause-one
returns-clause-one g c = λ name is.
    let at = g.I.Images.device_at in
    let known = g.I.Images.known c.args.images.now in
    subst (λ (n : List ℕ). ExaminesOne (image_ask c.args.command) g.I.Dev.Device g.S.Sink known (at c.args.images.now) (at c.put.new.self) n c.args.out.now c.show-result.new.out c.show-result.result) (only_name c.args.names.now name is)
    (inl (record {
      taken = c.in-Ok.device;
      given = c.show-result.new.device;
      was = λ k. (c.in-Ok.ensures.gives k).1;
      back = λ k. c.put.ensures.back (c.get.ensures.known ∙ k);
      others = λ k other h. c.put.ensures.others (c.get.ensures.known ∙ k) other h ∙ c.get.ensures.others k other h;
      kept = c.show-result.ensures.kept;
      stays_honest = c.show-result.ensures.honest;
      gives = c.show-result.ensures.gives;
    }))

pub returns-clause-flushed : goal.returns-clause-flushed
returns-clause-flushed g c =
    let d = g.I.Dev.Device in
    let ask = image_ask c.args.command in
    let was = c.in-Ok.device in
    let call = c.show-result in
    let Failed = CallFails d was call.new.device in
    flushed g.S.Sink (ShownBy ask (d.content was) (d.honest was) Failed) (RefusedBy ask (d.content was) (d.honest was) Failed) c.args.out.now call.new.out call.result call.ensures.gives

pub returns-clause-looked : goal.returns-clause-looked
returns-clause-looked g c = λ k n. c.put.ensures.asked (c.get.ensures.known ∙ k) n ∙ c.get.ensures.looks k refl n
