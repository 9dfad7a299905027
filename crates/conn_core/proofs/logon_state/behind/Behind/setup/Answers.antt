use Rattle.std.proofs.Common.{sym, subst}
use Rattle.spec_world.specs.Logon.{greeting_transcript}
use Rattle.conn_core.specs.declared.conn.Progress.{Progress}
use Rattle.conn_core.specs.reply_sealing.Saying.{MovesAs}
use Rattle.conn_core.specs.logon_state.Behind.{IsHashed}
use Rattle.conn_core.proofs.logon_state.Hashed.{known_by}
use Rattle.conn_core.proofs.logon_state.Moved.{moved_stays, moved_interim, moved_final}
use Rattle.conn_core.proofs.logon_state.behind.Behind.setup.Goals as goal

pub returns-in-Stays : goal.returns-in-Stays
returns-in-Stays c = λ nonces f s shows moves settles raw.
    moved_stays nonces c.args.self.now f s c.args.response.now shows (subst (λ (p : Progress). MovesAs p s) c.in-Stays.is moves)

pub returns-in-Refused : goal.returns-in-Refused
returns-in-Refused c = λ nonces f s shows moves settles raw.
    moved_stays nonces c.args.self.now f s c.args.response.now shows (subst (λ (p : Progress). MovesAs p s) c.in-Refused.is moves)

pub returns-in-Interim : goal.returns-in-Interim
returns-in-Interim c = λ nonces f s shows moves settles raw.
    let heard = subst (λ (p : Progress). IsHashed p s c.args.request.now) c.in-Interim.is raw in
    moved_interim nonces c.args.self.now f s c.args.request.now c.args.response.now c.taken.result shows
    (subst (λ (p : Progress). MovesAs p s) c.in-Interim.is moves) heard
    (c.taken.ensures (greeting_transcript f.greeting) (sym (c.greeted.ensures f.greeting shows.logon.greeting)))

pub returns-in-Final : goal.returns-in-Final
returns-in-Final c = λ nonces f s shows moves settles raw.
    let final = subst (λ (p : Progress). MovesAs p s) c.in-Final.is moves in
    moved_final nonces c.args.self.now f s c.args.response.now c.in-Final.keys c.in-Final.channel c.in-Final.encrypts shows final
    (known_by s c.in-Final.keys c.in-Final.channel c.in-Final.encrypts final settles)
