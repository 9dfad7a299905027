use Rattle.std.proofs.Common.{◌≡◌, ℕ, true, ap, subst, sym, Some, None, ◌&&◌, if◌then◌else◌, ◌∙◌}
use Rattle.spec_exchange.specs.Files.{exists, info_of}
use Rattle.server_effects.proofs.Told.{created_same}
use Rattle.server_effects.specs.declared.creates.Asks.{Asks}
use Rattle.server_effects.proofs.creates.create_reply.Goals as goal

pub returns : goal.returns
returns c = λ s r x h st e.
    let k = c.file_of.ensures.shown s h st in
    created_same c.args.id c.args.action _ _ _ _ _ _ _ _
    (c.info.ensures s h (subst (λ (z : ℕ). exists s z ≡ true) (sym k) x) ∙ ap (info_of s) k)
    (c.timeout_of.ensures s h st
    ∙ ap (λ (z : Asks). if (s.opened c.args.id).persistent && z.durable then Some (s.opened c.args.id).timeout else None) e)
    (ap (λ (z : Asks). z.maximal) e) (ap (λ (z : Asks). z.disk_id) e)
