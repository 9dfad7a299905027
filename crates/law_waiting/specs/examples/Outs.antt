-- An end of a connection that counts what it says, and writes the AsyncId and the status of a later response.
use Rattle.std.specs.Prelude.{ℕ, ◌+◌, true, List, [], ◌∷◌, Some, None, Ok}
use Rattle.spec_exchange.specs.State.{Empty}
use Rattle.law_waiting.specs.wait_steps.WaitStep.{Response}
use Rattle.law_waiting.specs.out_steps.OutStep.{Speaks, OutPiece, OutState, OutEvent, OutReply, out_step}
use Rattle.law_waiting.specs.out_steps.OutRuns.{OutTurn, opened, out_behind}

abbrev pub counting_end : Speaks ℕ ℕ ℕ ℕ
counting_end = record {
  checked = λ c bytes now. Ok (c, now);
  answered = λ c asked replies. Ok (c + 1, replies ∷ []);
  said_later = λ c asked l. Ok (c + 1, l.async_id ∷ l.reply.status ∷ []);
  may_answer = λ c asked replies. true;
  may_say = λ c asked l. true;
}

abbrev pub response_later : ℕ → ℕ → Response
response_later id status = record {
  connection = 1;
  message = 8;
  async_id = id;
  reply = record { status = status; session_id = 1; tree_id = 1; body = Empty };
}

abbrev pub lucky : OutEvent ℕ ℕ → OutTurn ℕ ℕ ℕ
lucky e = record { event = e; fault = None }

-- ended as 4, behind so many pieces
abbrev pub unlucky_out : ℕ → OutEvent ℕ ℕ → OutTurn ℕ ℕ ℕ
unlucky_out pieces e = record { event = e; fault = Some (record { pieces = pieces; why = 4 }) }

abbrev pub state_after : List (OutTurn ℕ ℕ ℕ) → OutState ℕ ℕ ℕ
state_after ts = out_behind counting_end (opened 0) ts

abbrev pub written_after : List (OutTurn ℕ ℕ ℕ) → List OutPiece
written_after ts = (state_after ts).written

abbrev pub replied_after : List (OutTurn ℕ ℕ ℕ) → OutTurn ℕ ℕ ℕ → OutReply ℕ ℕ
replied_after before t = (out_step counting_end (state_after before) t.event t.fault).reply

unfoldable pub computed_out : ℕ
unfolding out_behind
computed_out = 0
