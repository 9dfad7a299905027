use Rattle.std.specs.Prelude.{is_some}
use Rattle.client_ends.specs.ends.Shown.{settings_of}
use Rattle.client_ends.proofs.response_faults.Setups.{interim_unread}
use Rattle.client_ends.proofs.response_faults.setup.judge_interim_body.Goals as goal

pub returns-in-Some : goal.returns-in-Some
returns-in-Some c = λ n s has is status fits. let t = c.in-Some.ensures in c.judge_token.ensures n s has is status fits t.0 t.1

pub returns-in-None : goal.returns-in-None
returns-in-None c = λ n s has is status fits.
    interim_unread (settings_of c.args.d.now.config) n (is_some c.args.d.now.bound) c.args.header c.args.m.now has is status fits
    c.in-None.ensures
