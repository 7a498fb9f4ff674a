use Rattle.md_serve_commands.proofs.SessionExchanges.{sessions_exchange}
use Rattle.md_serve_commands.proofs.laws.session_exchanges.Goals as goal

pub returns : goal.returns
returns g c = sessions_exchange g.I.Source g.S.Sink
