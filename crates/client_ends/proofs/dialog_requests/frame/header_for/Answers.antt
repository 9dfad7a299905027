use Rattle.client_ends.proofs.dialog_requests.Headers.{header_is}
use Rattle.client_ends.proofs.dialog_requests.frame.header_for.Goals as goal

pub returns : goal.returns
returns c = λ m d. header_is m c.args.id c.args.session c.args.command c.sign_flag.result c.args.signs d c.sign_flag.ensures
