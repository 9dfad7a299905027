use Rattle.client_book.proofs.asking.request_for.Goals as goal

pub request_under-requires : goal.request_under-requires
request_under-requires c = c.in-Ok.ensures
