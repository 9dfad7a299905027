use Rattle.client_book.proofs.Offered.{offers}
use Rattle.client_book.proofs.configuring.client_config.Goals as goal

pub returns-clause-offers : goal.returns-clause-offers
returns-clause-offers c = offers c.args.settings.now.cipher c.args.settings.now.signing _ c.in_ok-ciphers.ensures c.in_ok-signings.ensures
