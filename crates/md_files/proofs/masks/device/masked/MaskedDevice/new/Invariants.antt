-- The hidden bytes are those that the caller has in mind.
use Rattle.md_files.proofs.masks.device.masked.MaskedDevice.new.Given as goal

abbrev pub ghost-any : goal.ghost-any
ghost-any g a = g.disk
