use Rattle.std.proofs.Common.{◌≡◌, ℕ, ◌+◌, ◌≤◌, Bool, List, ◌++◌, length, map, sym, ap, ◌∙◌, arith}
use Rattle.std.specs.Prelude.{nat_lt}
use Rattle.std.proofs.lemmas.List.{length-map, append-nil}
use Rattle.std.proofs.Math.ListN.{drop_of_length-le}
use Rattle.wire_commands.specs.writing.Joining.{JoinedMessage, message_of, joined_if, joined_spelling, AreSmall}
use Rattle.wire_commands.proofs.writing.Joined.{messages_go_on, small_at, small_on, small_end, is_below}
use Rattle.wire_commands.proofs.writing.Refused.{refused}
use Rattle.wire_commands.proofs.writing.joining.join_messages.Goals as goal

pub returns-in-Err : goal.returns-in-Err
returns-in-Err c =
    let ms : List JoinedMessage = map message_of c.args.messages.now in
    let more : c.has_more-more.result ≡ nat_lt (c.loop-at.at + 1) (length ms) = c.has_more-more.ensures
    ∙ ap (λ (k : ℕ). nat_lt (c.loop-at.at + 1) k) (sym (length-map c.args.messages.now message_of)) in
    refused (AreSmall ms) _ c.in-Err.error (λ are e. small_at ms c.loop-at.at (message_of c.message_at-message.result) are
    c.message_at-message.ensures (is_below (c.loop-at.at + 1) (length ms) (sym more ∙ e))) c.in-Err.ensures

pub loop-at-preserved : goal.loop-at-preserved
loop-at-preserved c =
    let ms : List JoinedMessage = map message_of c.args.messages.now in
    let m : JoinedMessage = message_of c.message_at-message.result in
    let more : c.has_more-more.result ≡ nat_lt (c.loop-at.at + 1) (length ms) = c.has_more-more.ensures
    ∙ ap (λ (k : ℕ). nat_lt (c.loop-at.at + 1) k) (sym (length-map c.args.messages.now message_of)) in
    let put : c.put_one.new.out ≡ c.loop-at.out ++ joined_if (nat_lt (c.loop-at.at + 1) (length ms)) m =
    c.in-Ok.ensures.1 ∙ ap (λ (b : Bool). c.loop-at.out ++ joined_if b m) more in (
      rw put (messages_go_on ms m c.loop-at.at c.loop-at.out c.message_at-message.ensures c.loop-at.invariant.0),
      small_on ms c.loop-at.at m c.message_at-message.ensures (λ e. c.in-Ok.ensures.0 (more ∙ e)) c.loop-at.invariant.1,
    )

pub returns : goal.returns
returns c =
    let ms : List JoinedMessage = map message_of c.args.messages.now in
    let past : length ms ≤ c.loop-at.at = omega (arith, length-map c.args.messages.now message_of, c.loop-at-test.false) in (
      small_end ms c.loop-at.at past c.loop-at.invariant.1,
      c.finish.ensures ∙ sym (c.loop-at.invariant.0 ∙ ap (λ (ns : List JoinedMessage). c.loop-at.out ++ joined_spelling ns)
          (drop_of_length-le ms past) ∙ append-nil c.loop-at.out),
    )
