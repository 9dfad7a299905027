use Rattle.std.proofs.Common.{Bool, ◌&&◌, nat_le, length, refl, sym, ap, ◌∙◌}
use Rattle.spec_crypto.specs.sessions.Signing.{verifies}
use Rattle.server_checks.proofs.event_heard.Made.{if_ok_by}
use Rattle.server_checks.proofs.event_heard.asked.is_verified.Goals as goal

pub returns-then-not-setup : goal.returns-then-not-setup
returns-then-not-setup c = λ s L t l. rw c.if-not-setup.true refl

pub returns : goal.returns
returns c =
    let h = c.args.setup.now in
    if_ok_by c.verifies.result c.verifies.ensures
    (λ b e s L t l. e s L t l ∙ ap (λ (x : Bool). x && (s.present h.session_id
    && (nat_le 64 (length h.bytes.now) && verifies (L.keys h.session_id).signing h.bytes.now))) (sym c.if-not-setup.false))
