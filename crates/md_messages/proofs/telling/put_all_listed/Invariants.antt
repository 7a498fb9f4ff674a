use Rattle.std.specs.List.{flat_map, range_with_len}
use Rattle.md_streams.specs.Sink.{Puts}
use Rattle.md_words.specs.Asks.{ask_of}
use Rattle.md_messages.specs.Telling.{listed_text_at, texts}
use Rattle.md_messages.proofs.telling.put_all_listed.Given as goal

abbrev pub invariant-loop-k : goal.invariant-loop-k
invariant-loop-k g l = Puts g.S.Sink.contents g.S.Sink.failed l.fn.out l.out (flat_map (listed_text_at (ask_of l.command) l.notices (texts l.names)) (range_with_len 0 l.k))
