use Rattle.std.proofs.Common.{◌∙◌, ap}
use Rattle.md_members.specs.Reading.{CallFails}
use Rattle.md_words.specs.Asks.{image_ask, examines, examines_badblocks, examines_bitmap}
use Rattle.md_words.specs.declared.form.ImageForm.{ImageForm}
use Rattle.md_examine_commands.proofs.Reported.{as_asked}
use Rattle.md_examine_commands.proofs.examining.show.Goals as goal

pub returns-in-Raw-clause-gives : goal.returns-in-Raw-clause-gives
returns-in-Raw-clause-gives g c =
    let d = g.D.Device in
    let was = c.args.device.now in
    let call = c.show_raw_superblock in
    as_asked g.S.Sink (d.content was) (d.honest was) (CallFails d was call.new.device) c.args.out.now call.new.out call.result (ap image_ask c.in-Examine.is ∙ ap (λ (f : ImageForm). examines f) c.in-Raw.is) call.ensures.gives

pub returns-in-Text-clause-gives : goal.returns-in-Text-clause-gives
returns-in-Text-clause-gives g c =
    let d = g.D.Device in
    let was = c.args.device.now in
    let call = c.show_superblock in
    as_asked g.S.Sink (d.content was) (d.honest was) (CallFails d was call.new.device) c.args.out.now call.new.out call.result (ap image_ask c.in-Examine.is ∙ ap (λ (f : ImageForm). examines f) c.in-Text.is) call.ensures.gives

pub returns-in-Json-clause-gives : goal.returns-in-Json-clause-gives
returns-in-Json-clause-gives g c =
    let d = g.D.Device in
    let was = c.args.device.now in
    let call = c.show_superblock-in-Json in
    as_asked g.S.Sink (d.content was) (d.honest was) (CallFails d was call.new.device) c.args.out.now call.new.out call.result (ap image_ask c.in-Examine.is ∙ ap (λ (f : ImageForm). examines f) c.in-Json.is) call.ensures.gives

pub returns-in-Raw-form-clause-gives : goal.returns-in-Raw-form-clause-gives
returns-in-Raw-form-clause-gives g c =
    let d = g.D.Device in
    let was = c.args.device.now in
    let call = c.show_raw_bitmap in
    as_asked g.S.Sink (d.content was) (d.honest was) (CallFails d was call.new.device) c.args.out.now call.new.out call.result (ap image_ask c.in-ExamineBitmap.is ∙ ap (λ (f : ImageForm). examines_bitmap f) c.in-Raw-form.is) call.ensures.gives

pub returns-in-Text-form-clause-gives : goal.returns-in-Text-form-clause-gives
returns-in-Text-form-clause-gives g c =
    let d = g.D.Device in
    let was = c.args.device.now in
    let call = c.show_bitmap in
    as_asked g.S.Sink (d.content was) (d.honest was) (CallFails d was call.new.device) c.args.out.now call.new.out call.result (ap image_ask c.in-ExamineBitmap.is ∙ ap (λ (f : ImageForm). examines_bitmap f) c.in-Text-form.is) call.ensures.gives

pub returns-in-Json-form-clause-gives : goal.returns-in-Json-form-clause-gives
returns-in-Json-form-clause-gives g c =
    let d = g.D.Device in
    let was = c.args.device.now in
    let call = c.show_bitmap-in-Json-form in
    as_asked g.S.Sink (d.content was) (d.honest was) (CallFails d was call.new.device) c.args.out.now call.new.out call.result (ap image_ask c.in-ExamineBitmap.is ∙ ap (λ (f : ImageForm). examines_bitmap f) c.in-Json-form.is) call.ensures.gives

pub returns-in-Raw-form-2-clause-gives : goal.returns-in-Raw-form-2-clause-gives
returns-in-Raw-form-2-clause-gives g c =
    let d = g.D.Device in
    let was = c.args.device.now in
    let call = c.show_raw_badblocks in
    as_asked g.S.Sink (d.content was) (d.honest was) (CallFails d was call.new.device) c.args.out.now call.new.out call.result (ap image_ask c.in-ExamineBadblocks.is ∙ ap (λ (f : ImageForm). examines_badblocks f) c.in-Raw-form-2.is) call.ensures.gives

pub returns-in-Text-form-2-clause-gives : goal.returns-in-Text-form-2-clause-gives
returns-in-Text-form-2-clause-gives g c =
    let d = g.D.Device in
    let was = c.args.device.now in
    let call = c.show_badblocks in
    as_asked g.S.Sink (d.content was) (d.honest was) (CallFails d was call.new.device) c.args.out.now call.new.out call.result (ap image_ask c.in-ExamineBadblocks.is ∙ ap (λ (f : ImageForm). examines_badblocks f) c.in-Text-form-2.is) call.ensures.gives

pub returns-in-Json-form-2-clause-gives : goal.returns-in-Json-form-2-clause-gives
returns-in-Json-form-2-clause-gives g c =
    let d = g.D.Device in
    let was = c.args.device.now in
    let call = c.show_badblocks-in-Json-form-2 in
    as_asked g.S.Sink (d.content was) (d.honest was) (CallFails d was call.new.device) c.args.out.now call.new.out call.result (ap image_ask c.in-ExamineBadblocks.is ∙ ap (λ (f : ImageForm). examines_badblocks f) c.in-Json-form-2.is) call.ensures.gives

pub returns-in-RawJson-clause-gives : goal.returns-in-RawJson-clause-gives
returns-in-RawJson-clause-gives g c =
    let d = g.D.Device in
    let was = c.args.device.now in
    let call = c.show_raw_superblock-in-RawJson in
    as_asked g.S.Sink (d.content was) (d.honest was) (CallFails d was call.new.device) c.args.out.now call.new.out call.result (ap image_ask c.in-Examine.is ∙ ap (λ (f : ImageForm). examines f) c.in-RawJson.is) call.ensures.gives

pub returns-in-RawJson-form-clause-gives : goal.returns-in-RawJson-form-clause-gives
returns-in-RawJson-form-clause-gives g c =
    let d = g.D.Device in
    let was = c.args.device.now in
    let call = c.show_raw_bitmap-in-RawJson-form in
    as_asked g.S.Sink (d.content was) (d.honest was) (CallFails d was call.new.device) c.args.out.now call.new.out call.result (ap image_ask c.in-ExamineBitmap.is ∙ ap (λ (f : ImageForm). examines_bitmap f) c.in-RawJson-form.is) call.ensures.gives

pub returns-in-RawJson-form-2-clause-gives : goal.returns-in-RawJson-form-2-clause-gives
returns-in-RawJson-form-2-clause-gives g c =
    let d = g.D.Device in
    let was = c.args.device.now in
    let call = c.show_raw_badblocks-in-RawJson-form-2 in
    as_asked g.S.Sink (d.content was) (d.honest was) (CallFails d was call.new.device) c.args.out.now call.new.out call.result (ap image_ask c.in-ExamineBadblocks.is ∙ ap (λ (f : ImageForm). examines_badblocks f) c.in-RawJson-form-2.is) call.ensures.gives
