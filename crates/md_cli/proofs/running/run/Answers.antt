use Rattle.std.proofs.Common.{◌≡◌, ap, ◌∙◌, Bool, inl, inr, IfOk, is_err, List, Option, None, Some, option_map, refl, subst, sym}
use Rattle.std.proofs.lemmas.List.{length-map}
use Rattle.clap.specs.Words.{FailsBy, Text}
use Rattle.md_words.specs.Parsing.{asked, bitmap_word, image_words, words_fault}
use Rattle.md_words.specs.Asks.{Ask, ask_of, is_json, scan_form, tells_by_status}
use Rattle.md_words.specs.declared.command.Command.{Command}
use Rattle.md_words.specs.declared.command.Command.TheVariants as command
use Rattle.md_messages.specs.Noticed.{nothing}
use Rattle.md_messages.specs.Telling.{TellsNoticed, texts}
use Rattle.md_messages.specs.declared.notices.Notices.{Notices}
use Rattle.md_cli.specs.Refusing.{ShowsIfRefused}
use Rattle.md_cli.specs.Running.{DoesScan, Obeys, status_of}
use Rattle.md_cli.specs.Streams.{streams_of, told_of}
use Rattle.md_cli.proofs.Done.{array_no_scan, does_by, image_no_scan, shows_by, stands_so}
use Rattle.md_cli.proofs.Flushed.{still_flushed, when_done}
use Rattle.md_cli.proofs.Scanned.{never_three}
use Rattle.md_cli.proofs.running.run.Goals as goal
use Rattle.md_cli.proofs.running.run.Goals.{in-Array, in-Create, in-Grow, in-Image}

pub returns-clause-refused : goal.returns-clause-refused
returns-clause-refused g c = λ other. absurd (other (subst (λ parsed. FailsBy (words_fault (texts c.args.words.now)) parsed) c.in-Ok.is c.requires.fails))

-- the words are not parsed
pub returns-in-Err-clause-taken : goal.returns-in-Err-clause-taken
returns-in-Err-clause-taken g c = λ taken other. inl (ap is_err c.in-Err.is, (refl, (refl, refl)))

pub returns-in-Err-clause-scans : goal.returns-in-Err-clause-scans
returns-in-Err-clause-scans g c = λ taken json is. inl (ap is_err c.in-Err.is, (refl, (refl, refl)))

one_form : {X : Type 0} (o : Option X) (x : X) → o ≡ Some x → o ≡ None → ⊥
one_form None x some none = cc
one_form (Some y) x some none = cc

same_form : {X : Type 0} (o : Option X) (x y : X) → o ≡ Some x → o ≡ Some y → x ≡ y
same_form o x y a b = cc

-- a scan
pub returns-in-Scan-clause-refused : goal.returns-in-Scan-clause-refused
returns-in-Scan-clause-refused g c = λ other. absurd (other (subst (λ parsed. FailsBy (words_fault (texts c.args.words.now)) parsed) c.in-Ok.is c.requires.fails))

pub returns-in-Scan-clause-taken : goal.returns-in-Scan-clause-taken
returns-in-Scan-clause-taken g c = λ taken other.
    let words = texts c.args.words.now in
    let asks : ask_of c.in-Ok.request.command ≡ asked words = subst (λ parsed. IfOk parsed (λ r. ask_of r.command ≡ asked words)) c.in-Ok.is c.requires.asks in
    absurd (one_form (scan_form (asked words)) c.in-Scan.json (ap scan_form (sym asks) ∙ ap (λ (k : Command). scan_form (ask_of k)) c.in-Scan.is) other)

pub returns-in-Scan-clause-scans : goal.returns-in-Scan-clause-scans
returns-in-Scan-clause-scans g c = λ taken json is.
    let words = texts c.args.words.now in
    let asks : ask_of c.in-Ok.request.command ≡ asked words = subst (λ parsed. IfOk parsed (λ r. ask_of r.command ≡ asked words)) c.in-Ok.is c.requires.asks in
    let images : texts c.in-Ok.request.images.items ≡ image_words words = subst (λ parsed. IfOk parsed (λ r. texts r.images.items ≡ image_words words)) c.in-Ok.is c.requires.images in
    let own : scan_form (asked words) ≡ Some c.in-Scan.json = ap scan_form (sym asks) ∙ ap (λ (k : Command). scan_form (ask_of k)) c.in-Scan.is in
    let same : c.in-Scan.json ≡ json = same_form (scan_form (asked words)) c.in-Scan.json json own is in
    let Scanning : Bool → Type 0 = λ j. DoesScan g.I.Images g.I.Dev.Device g.S.Sink g.E.Sink j c.args.messages (image_words words) c.args.images.now c.scan.new.images (streams_of c.args.session.now) (streams_of (record c.args.session.now { out = c.scan.new.out })) c.args.err.now c.scan.new.err c.scan.result in
    inr (subst Scanning same (record {
      names = c.as_slice-names.result.now;
      named = ap texts c.as_slice-names.ensures.value ∙ images;
      scans = c.scan.ensures.scans;
      looked = c.scan.ensures.looked;
      only = refl;
    }))

pub returns-in-Scan-clause-flushed_differing : goal.returns-in-Scan-clause-flushed_differing
returns-in-Scan-clause-flushed_differing g c is = absurd (never_three g.I.Images g.I.Dev.Device g.S.Sink g.E.Sink _ _ _ _ _ _ _ _ c.scan.result c.scan.ensures.scans is)

-- any other command
pub returns-clause-scans : goal.returns-clause-scans
returns-clause-scans g c = λ taken json is.
    let words = texts c.args.words.now in
    let asks : ask_of c.in-Ok.request.command ≡ asked words = subst (λ parsed. IfOk parsed (λ r. ask_of r.command ≡ asked words)) c.in-Ok.is c.requires.asks in
    let none : scan_form (ask_of c.in-Ok.request.command) ≡ None = elim c.match-command.branch [
      | in-Image w ↦ ap (λ (k : Command). scan_form (ask_of k)) w.in-Image.is ∙ image_no_scan w.in-Image.command
      | in-Create w ↦ ap (λ (k : Command). scan_form (ask_of k)) w.in-Create.is
      | in-Grow w ↦ ap (λ (k : Command). scan_form (ask_of k)) w.in-Grow.is
      | in-Array w ↦ ap (λ (k : Command). scan_form (ask_of k)) w.in-Array.is ∙ array_no_scan w.in-Array.command
    ] in
    absurd (one_form (scan_form (asked words)) json is (ap scan_form (sym asks) ∙ none))

pub returns-clause-taken : goal.returns-clause-taken
returns-clause-taken g c taken other =
    let i = g.I.Images in
    let d = g.I.Dev.Device in
    let words = texts c.args.words.now in
    let asks : ask_of c.in-Ok.request.command ≡ asked words = subst (λ parsed. IfOk parsed (λ r. ask_of r.command ≡ asked words)) c.in-Ok.is c.requires.asks in
    let images : texts c.in-Ok.request.images.items ≡ image_words words = subst (λ parsed. IfOk parsed (λ r. texts r.images.items ≡ image_words words)) c.in-Ok.is c.requires.images in
    let names = texts c.as_slice-names.result.now in
    let names_are : names ≡ image_words words = ap texts c.as_slice-names.ensures.value ∙ images in
    let acted = c.match-command in
    let own = c.in-Ok.request.command in
    let bitmap : option_map (λ s. s.now) c.in-Ok.request.bitmap ≡ bitmap_word words = subst (λ parsed. IfOk parsed (λ r. option_map (λ s. s.now) r.bitmap ≡ bitmap_word words)) c.in-Ok.is c.requires.bitmap in
    let kind = option_map (λ s. s.now) c.in-Ok.request.bitmap in
    let random = c.args.session.now.random_bytes in
    let lacking = c.args.session.now.lacking.now in
    let first = c.none-notices.result in
    let none : first ≡ nothing = c.none-notices.ensures in
    let old = told_of c.args.session.now first in
    let does : Obeys i d g.R.Source g.S.Sink g.A.Asker random lacking kind (ask_of own) names c.args.images.now acted.images old (told_of acted.session acted.notices) acted.outcome = elim c.match-command.branch [
      | in-Image w ↦
          let call = w.examine_images-outcome in
          let session = record c.args.session.now { out = call.new.out } in
          stands_so i d g.R.Source g.S.Sink g.A.Asker random lacking kind names c.args.images.now old own (command.Image w.in-Image.command) call.new.images acted.images session acted.session first acted.notices call.result acted.outcome w.in-Image.is w.images-is w.session-is w.notices-is w.outcome-is
          (shows_by i d g.R.Source g.S.Sink g.A.Asker random lacking kind names c.args.images.now call.new.images old (told_of session first) call.result w.in-Image.command (
            refl,
            record {
              count = λ more. (let none = call.ensures.count (λ is. more (length-map c.as_slice-names.result.now (λ s. s.now) ∙ is)) in (none.0, (none.1, none.2)));
              one = call.ensures.one;
              looked = call.ensures.looked;
            },
          ))
      | in-Create w ↦
          let call = w.create_array-outcome in
          stands_so i d g.R.Source g.S.Sink g.A.Asker random lacking kind names c.args.images.now old own (command.Create w.in-Create.options) call.new.images acted.images call.new.session acted.session call.new.notices acted.notices call.result acted.outcome w.in-Create.is w.images-is w.session-is w.notices-is w.outcome-is
          call.ensures.gives
      | in-Grow w ↦
          let call = w.grow_array-outcome in
          stands_so i d g.R.Source g.S.Sink g.A.Asker random lacking kind names c.args.images.now old own (command.Grow w.in-Grow.bitmap w.in-Grow.chunk) call.new.images acted.images call.new.session acted.session call.new.notices acted.notices call.result acted.outcome w.in-Grow.is w.images-is w.session-is w.notices-is w.outcome-is
          call.ensures.gives
      | in-Array w ↦
          let call = w.with_array-outcome in
          stands_so i d g.R.Source g.S.Sink g.A.Asker random lacking kind names c.args.images.now old own (command.Array w.in-Array.command) call.new.images acted.images call.new.session acted.session call.new.notices acted.notices call.result acted.outcome w.in-Array.is w.images-is w.session-is w.notices-is w.outcome-is
          (does_by i d g.R.Source g.S.Sink g.A.Asker random lacking kind names c.args.images.now call.new.images old (told_of call.new.session call.new.notices) call.result w.in-Array.command call.ensures.gives)
    ] in
    let Doing : Notices → Option Text → Ask → List Text → Type 0 =
    λ noticed kind ask names. Obeys i d g.R.Source g.S.Sink g.A.Asker random lacking kind ask names c.args.images.now acted.images (told_of c.args.session.now noticed) (told_of acted.session acted.notices) acted.outcome in
    let Telling : Bool → Ask → List Text → Type 0 =
    λ shown ask names. TellsNoticed g.E.Sink (record { messages = c.args.messages; was_shown = shown }) ask names (streams_of acted.session).gaps c.args.err.now c.tell_outcome.new.err acted.outcome acted.notices in
    let told = subst (λ shown. Telling shown (ask_of own) names) c.is_told_first.ensures c.tell_outcome.ensures in
    let asker = g.A.Asker.told_first c.args.session.now.asker in
    inr (record {
      result = acted.outcome;
      status_is = subst (λ ask. c.outcome_status.result ≡ status_of (tells_by_status ask) acted.session.mismatched acted.outcome) asks c.outcome_status.ensures;
      noticed = acted.notices;
      left = acted.session.out;
      does = subst (Doing nothing (bitmap_word words) (asked words)) names_are
          (subst (λ ask. Doing nothing (bitmap_word words) ask names) asks
          (subst (λ noticed. Doing noticed (bitmap_word words) (ask_of own) names) none
          (subst (λ kind. Doing first kind (ask_of own) names) bitmap does)));
      shown = subst (λ ask. ShowsIfRefused g.S.Sink (is_json ask) acted.session.out c.show_if_refused.new.out acted.outcome) asks c.show_if_refused.ensures.shows;
      told = subst (Telling asker (asked words)) names_are (subst (λ ask. Telling asker ask names) asks told);
    })

pub returns-clause-flushed : goal.returns-clause-flushed
returns-clause-flushed g c is =
    let acted = c.match-command in
    let passed : IfOk acted.outcome (λ _. g.S.Sink.is_flushed acted.session.out) = elim c.match-command.branch [
      | in-Image w ↦ rw (w.outcome-is, w.session-is) w.examine_images-outcome.ensures.flushed
      | in-Create w ↦ rw (w.outcome-is, w.session-is) w.create_array-outcome.ensures.flushed
      | in-Grow w ↦ rw (w.outcome-is, w.session-is) w.grow_array-outcome.ensures.flushed
      | in-Array w ↦ rw (w.outcome-is, w.session-is) w.with_array-outcome.ensures.flushed
    ] in
    let flushed = still_flushed g.S.Sink (is_json (ask_of c.in-Ok.request.command)) acted.session.out c.show_if_refused.new.out acted.outcome c.show_if_refused.ensures.shows passed in
    when_done (tells_by_status (ask_of c.in-Ok.request.command)) acted.session.mismatched acted.outcome c.outcome_status.result c.outcome_status.ensures (λ one. cc) flushed

pub returns-clause-flushed_differing : goal.returns-clause-flushed_differing
returns-clause-flushed_differing g c is =
    let acted = c.match-command in
    let passed : IfOk acted.outcome (λ _. g.S.Sink.is_flushed acted.session.out) = elim c.match-command.branch [
      | in-Image w ↦ rw (w.outcome-is, w.session-is) w.examine_images-outcome.ensures.flushed
      | in-Create w ↦ rw (w.outcome-is, w.session-is) w.create_array-outcome.ensures.flushed
      | in-Grow w ↦ rw (w.outcome-is, w.session-is) w.grow_array-outcome.ensures.flushed
      | in-Array w ↦ rw (w.outcome-is, w.session-is) w.with_array-outcome.ensures.flushed
    ] in
    let flushed = still_flushed g.S.Sink (is_json (ask_of c.in-Ok.request.command)) acted.session.out c.show_if_refused.new.out acted.outcome c.show_if_refused.ensures.shows passed in
    when_done (tells_by_status (ask_of c.in-Ok.request.command)) acted.session.mismatched acted.outcome c.outcome_status.result c.outcome_status.ensures (λ one. cc) flushed
