use Rattle.std.proofs.Common.{◌≡◌, ◌∙◌, ◌==◌, ℕ, true, sym, ap}
use Rattle.std.specs.Prelude.{slice_get}
use Rattle.spec_wire.specs.declared.messages.header.Header.{Header}
use Rattle.spec_world.specs.Hearing as hearing
use Rattle.spec_world.specs.Answering as answering
use Rattle.conn_core.specs.declared.frame_messages.checked.Checked.{Checked}
use Rattle.conn_core.proofs.message_replies.Parts.{inside, same_message}
use Rattle.conn_core.proofs.logon_state.Hashed.{greeting_raw, hashed_by}
use Rattle.conn_core.proofs.logon_state.Moved.{both_moved, is_it, not_greeted}
use Rattle.conn_core.proofs.logon_state.behind.Behind.go_on.Goals as goal

pub checked-requires : goal.checked-requires
checked-requires c = inside c.args.answers.now.asked.now.messages.items c.args.said.now.at c.requires.0 c.requires.1

pub returns-then-checked-eq-NEGOTIATE : goal.returns-then-checked-eq-NEGOTIATE
returns-then-checked-eq-NEGOTIATE c = λ nonces guid salt f m s shows said sound e going hello.
    let asked = c.args.answers.now.asked.now in
    let response = c.args.response.now in
    let request = c.message-request.result.now in
    let same = same_message (slice_get asked.messages.items c.args.said.now.at) m c.checked.result.now e c.checked.ensures in
    let command : m.header.command ≡ 0 = ap (λ (k : Checked). k.header.command) (sym same) ∙ c.if-checked-eq-NEGOTIATE.true in
    let greets : hearing.is_negotiate s.request.header ≡ true =
    ap (λ (h : Header). h.command == 0) going.header ∙ ap (λ (n : ℕ). n == 0) command in
    let moved = answering.server_end_moved f s response s.progress in
    let first = c.setup.ensures nonces f s shows said.progress sound.settles
    (hashed_by c.args.said.now.progress asked.bytes.items m s request said.progress sound.settles going (c.message-request.ensures m e)) in
    both_moved nonces c.greet_by.new.self f s response
    (c.greet_by.ensures nonces guid salt asked.moment moved s first said hello sound.greets greets
    (greeting_raw asked.bytes.items m s request command going (c.message-request.ensures m e)))

pub returns-else-checked-eq-NEGOTIATE : goal.returns-else-checked-eq-NEGOTIATE
returns-else-checked-eq-NEGOTIATE c = λ nonces guid salt f m s shows said sound e going hello.
    let asked = c.args.answers.now.asked.now in
    let response = c.args.response.now in
    let request = c.message-request.result.now in
    let same = same_message (slice_get asked.messages.items c.args.said.now.at) m c.checked.result.now e c.checked.ensures in
    let moved = answering.server_end_moved f s response s.progress in
    let first = c.setup.ensures nonces f s shows said.progress sound.settles
    (hashed_by c.args.said.now.progress asked.bytes.items m s request said.progress sound.settles going (c.message-request.ensures m e)) in
    both_moved nonces c.setup.new.self f s response
    (not_greeted nonces c.setup.new.self moved s response first (λ greeted status.
    c.if-checked-eq-NEGOTIATE.false (ap (λ (k : Checked). k.header.command) same
    ∙ is_it m.header.command 0 (ap (λ (h : Header). h.command == 0) (sym going.header) ∙ greeted))))
