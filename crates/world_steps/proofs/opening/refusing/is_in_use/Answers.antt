use Rattle.world_steps.proofs.opening.Refused.{or_first, or_second}
use Rattle.world_steps.proofs.opening.refusing.is_in_use.Goals as goal

pub returns-then-is_client_open : goal.returns-then-is_client_open
returns-then-is_client_open c = or_first _ _ c.is_client_open.result c.is_client_open.ensures c.if-is_client_open.true

pub returns : goal.returns
returns c =
    or_second _ _ c.is_client_open.result c.is_server_open.result c.is_client_open.ensures c.if-is_client_open.false
    c.is_server_open.ensures
