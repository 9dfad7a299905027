-- Replies joined in frames up to one that waits for the next one.
use Rattle.std.specs.Prelude.{◌≡◌, ◌+◌, ◌≤◌, nat_le, ℕ, Bool, true, false, List, [], ◌∷◌, ◌++◌, drop, length, Option, Some, None}
use Rattle.std.specs.Prelude.{Result, Ok, Err, ⊤}
use Rattle.spec_crypto.specs.declared.sessions.material.Keys.{Keys}
use Rattle.spec_crypto.specs.sessions.Nonces.{NonceState, last_counter}
use Rattle.spec_world.specs.Ends.{ServerEnd}
use Rattle.spec_world.specs.Answering as answering
use Rattle.conn_core.specs.declared.end.ConnEnd.{ConnEnd}
use Rattle.conn_core.specs.declared.end.ConnEnd.TheVariants.{Memory, Spent, Unsealable}
use Rattle.conn_core.specs.Shown.{MaySeal}
use Rattle.conn_core.specs.declared.reply_sealing.frames.Frames.{Frames}
use Rattle.conn_core.specs.reply_sealing.Joining.{IsWritten, reply_rows}
use Rattle.conn_core.specs.declared.logon_state.behind.Behind.{Behind}
use Rattle.conn_core.specs.logon_state.Behind.{ShowsBehind}

abbrev pub with_waiting : Option answering.SaidReply → List answering.SaidReply → List answering.SaidReply
with_waiting None rest = rest
with_waiting (Some r) rest = r ∷ rest

abbrev pub next_of : List answering.SaidReply → Option answering.SaidReply
next_of [] = None
next_of (n ∷ rs) = Some n

-- where no reply waits no frame is open
abbrev pub IsAnswerIdle : Option answering.SaidReply → List (List ℕ) → Type 0
IsAnswerIdle None front = front ≡ []
IsAnswerIdle (Some r) front = ⊤

-- what no reply moves
pub record IsSameEnd (f g : ServerEnd) : Type 0 where
  pub salt : g.salt ≡ f.salt
  pub window : g.window ≡ f.window
  pub asked : g.asked ≡ f.asked

-- texts that fit a frame
unfoldable pub AreAtMost : ℕ → List (List ℕ) → Type 0
AreAtMost limit [] = ⊤
AreAtMost limit (t ∷ ts) = (length t ≤ limit) × AreAtMost limit ts

-- the connection behind these replies, each with its text
abbrev pub end_behind : Bool → ServerEnd → List answering.SaidReply → List (List ℕ) → ServerEnd
end_behind sealed f rs texts = (answering.told_each sealed f rs texts).server_end

-- the texts of the replies that are left, the first of which stand in the frame that is open
abbrev pub texts_left : Bool → List (List ℕ) → List answering.SaidReply → List (List ℕ)
texts_left sealed front rs =
    drop (length front) (answering.concatenated (reply_rows sealed front (length (answering.concatenated front)) rs))

-- All is what is due, rest what no reply was made for yet; before are the texts of the frames that are done, each frame with its own.
-- The end f is that before all, first the nonces then, and counted those behind all.
pub record AnswerJoins (keys : Option Keys) (first counted : NonceState) (sealed : Bool) (f : ServerEnd) (all : List answering.SaidReply)
    (frames : Frames) (nonces : NonceState) (behind : Behind) (waits : Option answering.SaidReply)
    (rest : List answering.SaidReply) : Type 0 where
  pub before : List (List (List ℕ))
  pub front : List (List ℕ)
  pub idle : IsAnswerIdle waits front
  pub rows_are : reply_rows sealed [] 0 all
      ≡ before ++ reply_rows sealed front (length (answering.concatenated front)) (with_waiting waits rest)
  pub sealed_is : frames.sealed ≡ sealed
  pub written : IsWritten keys first frames nonces (answering.each_joined before) front
  -- each frame that is sealed had a nonce
  pub counts : sealed ≡ true → first.counter + length before ≤ last_counter
  pub short : AreAtMost (answering.text_limit sealed) (answering.each_joined before)
  -- the connection behind all is that behind the rest
  pub server_end : ServerEnd
  pub same : IsSameEnd f server_end
  pub shows : ShowsBehind counted behind server_end
  pub told : end_behind sealed f all (answering.concatenated (reply_rows sealed [] 0 all))
      ≡ end_behind sealed server_end (with_waiting waits rest) (texts_left sealed front (with_waiting waits rest))

-- the replies go on so; or memory is missing, no nonce is left for a frame, or the keys don't seal
abbrev pub JoinsBy : Option Keys → NonceState → NonceState → Bool → ServerEnd → List answering.SaidReply → Frames → NonceState → Behind
    → Option answering.SaidReply → List answering.SaidReply → Result Unit ConnEnd → Type 0
JoinsBy keys first counted sealed f all frames nonces behind waits rest (Ok u) =
    AnswerJoins keys first counted sealed f all frames nonces behind waits rest
JoinsBy keys first counted sealed f all frames nonces behind waits rest (Err Memory) = ⊤
JoinsBy keys first counted sealed f all frames nonces behind waits rest (Err Spent) =
    (sealed ≡ true) × (nat_le (first.counter + length (reply_rows sealed [] 0 all)) last_counter ≡ false)
JoinsBy keys first counted sealed f all frames nonces behind waits rest (Err Unsealable) = (sealed ≡ true) × (MaySeal keys → ⊥)
JoinsBy keys first counted sealed f all frames nonces behind waits rest (Err e) = ⊥
