use Rattle.client_channels.proofs.channel_threads.running.run_new.Goals as goal

pub run_book-requires-clause-first : goal.run_book-requires-clause-first
run_book-requires-clause-first g c = λ lifetimes bounds. (c.first_book-first.result, c.first_book-first.ensures, c.in-Ok.ensures.1)
