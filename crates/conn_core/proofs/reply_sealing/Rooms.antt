-- Whether the next reply has room behind one.
use Rattle.std.proofs.Common.{◌≡◌, ℕ, ◌+◌, ◌≤◌, nat_le, Bool, true, List, length, Option, Some, None, ap, sym, ◌∙◌, arith}
use Rattle.std.proofs.lemmas.Bool.Decides.{nat_tests}
use Rattle.spec_wire.specs.messages.Places.{gap_to_8}
use Rattle.spec_world.specs.Answering as answering
use Rattle.conn_core.specs.declared.reply_sealing.said.Said.{Said}
use Rattle.conn_core.specs.reply_sealing.Saying.{IsReplySaid}
use Rattle.conn_core.specs.reply_sealing.Joining.{HasNext, ReplyJoins}

-- in a frame whose text has so many bytes before
pub has_room : (limit before whole next : ℕ) (s n : Said) (r m : answering.SaidReply) (result : Bool) → IsReplySaid s r → IsReplySaid n m
    → whole ≡ 64 + length s.body.now + gap_to_8 (64 + length s.body.now) → next ≡ 64 + length n.body.now
    → result ≡ nat_le (before + whole + next) limit
    → result ≡ nat_le (before + answering.whole_size r + answering.said_size m) limit
has_room limit before whole next s n r m result said follows w x is =
    let one : whole ≡ answering.whole_size r = w ∙ ap (λ (b : List ℕ). 64 + length b + gap_to_8 (64 + length b)) (sym said.body) in
    let two : next ≡ answering.said_size m = x ∙ ap (λ (b : List ℕ). 64 + length b) (sym follows.body) in
    is ∙ (ap (λ (k : ℕ). nat_le (before + k + next) limit) one
    ∙ ap (λ (k : ℕ). nat_le (before + answering.whole_size r + k) limit) two)

pub joins_next : (size limit : ℕ) (s : Said) (r : answering.SaidReply) (n : Option answering.SaidReply) (result : Bool)
    → ((m : answering.SaidReply) → IsReplySaid s m → result ≡ nat_le (size + answering.whole_size r + answering.said_size m) limit)
    → ReplyJoins size limit r (Some s) n result
joins_next size limit s r None result h = tt
joins_next size limit s r (Some m) result h = h m

-- the test tells that both fit
pub fits_by : (limit before whole next : ℕ) (s n : Said) (result : Bool)
    → whole ≡ 64 + length s.body.now + gap_to_8 (64 + length s.body.now) → next ≡ 64 + length n.body.now
    → result ≡ nat_le (before + whole + next) limit → result ≡ true → HasNext before limit s (Some n)
fits_by limit before whole next s n result w x is holds =
    let fits : nat_le (before + whole + next) limit ≡ true = sym is ∙ holds in
    let all : before + whole + next ≤ limit = grind (arith, nat_tests) in
    omega (arith, w, x, all)
