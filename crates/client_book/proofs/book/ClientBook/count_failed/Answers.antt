use Rattle.std.proofs.Common.{ℕ, refl, ap, ◌∙◌}
use Rattle.client_book.specs.Steps.{opened_by, shared_of}
use Rattle.client_book.proofs.Turned.{leaves, leaves_on}
use Rattle.client_book.proofs.book.ClientBook.count_failed.Goals as goal

pub returns-clause-client : goal.returns-clause-client
returns-clause-client c =
    let old = c.args.self.now in
    let mid = record old { failed = c.saturating_add-self.result } in
    leaves_on old mid c.open.new.self (leaves old mid refl refl refl) c.open.ensures.client

pub returns-clause-shared : goal.returns-clause-shared
returns-clause-shared c =
    c.open.ensures.shared
    ∙ ap (λ (n : ℕ). opened_by c.args.channel (record (shared_of c.args.self.now) { failed = n })) c.saturating_add-self.ensures
