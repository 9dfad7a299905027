use Rattle.std.proofs.Common.{◌∙◌, List, ℕ, length, reverse, sym, ap}
use Rattle.std.proofs.lemmas.List.{length-map}
use Rattle.serve_turns.specs.shared_book.Numbers.{numbers_in}
use Rattle.serve_turns.specs.shared_book.Words.{view_of}
use Rattle.client_channels.specs.channel_threads.Nonces.{HasWorked}
use Rattle.client_channels.specs.channel_threads.Seating.{seat_told}
use Rattle.client_channels.proofs.channel_threads.Ending.{on_ok_map}
use Rattle.client_channels.proofs.channel_threads.Seated.{all_ended, of_seats}
use Rattle.client_channels.proofs.channel_threads.running.run_all.Goals as goal

pub rejoin_all-requires-clause-none : goal.rejoin_all-requires-clause-none
rejoin_all-requires-clause-none g c = c.in_ok-jobs.ensures.kept.1 ∙ c.requires.alone.0

pub returns-clause-kept : goal.returns-clause-kept
returns-clause-kept g c =
    let first = c.in_ok-jobs.ensures.kept.0 in
    let more = c.rejoin_all.ensures.kept.0 in
    (more.0 ∙ first.0, more.1 ∙ first.1, more.2 ∙ first.2)

pub returns-clause-channels : goal.returns-clause-channels
returns-clause-channels g c =
    on_ok_map c.rejoin_all.result (λ is.
    of_seats (λ w. seat_told (view_of w.seat))
    (λ k x. HasWorked g.N.L.Link.told g.N.L.Link.given g.N.L.Link.left g.N.L.Link.written g.N.L.Link.faults g.N.L.Link.ended
    (g.G.Gate.bars c.args.gate.now) c.args.config.now
    c.args.outside.now.seed g.N.Net.faults k x.1) c.in_ok-worked.worked.items c.args.channels (view_of c.rejoin_all.new.seat).ended
    (sym (length-map c.in_ok-worked.worked.items (λ w. (view_of w.seat).number)) ∙ ap
    (λ (l : List ℕ). length l) c.in_ok-worked.ensures.numbers
    ∙ length-map c.in_ok-jobs.jobs.items (λ j. (view_of j.seat).number) ∙ c.in_ok-jobs.ensures.count) is c.in_ok-worked.ensures.works)
    c.rejoin_all.ensures.ended

pub returns-clause-whole : goal.returns-clause-whole
returns-clause-whole g c =
    on_ok_map c.rejoin_all.result (λ is.
    c.rejoin_all.ensures.kept.1 ∙ c.in_ok-jobs.ensures.made ∙ sym (ap (λ (l : List ℕ). reverse l) c.in_ok-worked.ensures.numbers)
    ∙ sym (ap (λ l. numbers_in l) is ∙ all_ended (λ w. view_of w.seat) c.in_ok-worked.worked.items))
    c.rejoin_all.ensures.ended
