use Rattle.client_ends.proofs.dialog_requests.Setups.{in_binding, alone}
use Rattle.client_ends.proofs.dialog_requests.setup.setup_frame.Goals as goal

pub returns-then-bound : goal.returns-then-bound
returns-then-bound c = λ n m k d.
    in_binding n c.args.setup.now c.args.signer.now m _ _ c.if-bound.true (k c.if-bound.true)
    (c.in_ok-text.ensures.text m d) c.signed_text.ensures

pub returns : goal.returns
returns c = λ n m k d. alone n c.args.setup.now m _ _ c.if-bound.false (c.in_ok-text.ensures.text m d) c.from_vec.ensures
