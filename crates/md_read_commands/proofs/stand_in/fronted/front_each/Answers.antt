use Rattle.std.proofs.Common.{◌∙◌, ◌++◌, ◌∷◌, [], ap, map, sym}
use Rattle.std.proofs.lemmas.List.{map_push}
use Rattle.md_state.specs.View.{disk_of}
use Rattle.md_read_commands.specs.Fronted.{fronted_disk, in_memory}
use Rattle.md_read_commands.proofs.StandIns.{fronted_as}
use Rattle.md_read_commands.proofs.stand_in.fronted.front_each.Goals as goal

pub loop-device-preserved : goal.loop-device-preserved
loop-device-preserved g c =
    ap (map (fronted_disk g.D.Device)) c.in_ok-push.ensures.items
    ∙ map_push (fronted_disk g.D.Device) c.loop-device.all.items c.new.result
    ∙ ap (λ xs. xs ++ fronted_disk g.D.Device c.new.result ∷ []) c.loop-device.invariant
    ∙ ap (λ d. map (λ d. in_memory (disk_of g.D.Device d)) c.loop-device.yielded ++ d ∷ []) (fronted_as g.D.Device c.in-Some.device c.new.result c.new.ensures.inner c.new.ensures.front)
    ∙ sym (map_push (λ d. in_memory (disk_of g.D.Device d)) c.loop-device.yielded c.in-Some.device)
