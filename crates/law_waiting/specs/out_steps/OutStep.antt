-- What goes out on a connection whose LOCKs wait (MS-SMB2 3.3.4.2): its answers, interim and final responses, one behind the other,
-- whoever hands them in. It is over any end of a connection, told by what it makes of each.
use Rattle.std.specs.Prelude.{ℕ, ◌==◌, Bool, if◌then◌else◌, List, [], ◌∷◌, ◌++◌, take, Option, Some, None}
use Rattle.std.specs.Prelude.{Result, Ok, Err}
use Rattle.law_waiting.specs.wait_steps.WaitStep.{Response}

-- An end of a connection: its state C, a checked frame A, the replies R to one, and why it ends, E. What it makes of a frame; the bytes
-- of an answer, and of a later response to a frame of one message; and whether these two have what they need.
pub record Speaks (C A R E : Type 0) : Type 0 where
  pub checked : C → List ℕ → ℕ → Result (C × A) E
  pub answered : C → A → R → Result (C × List ℕ) E
  pub said_later : C → A → Response → Result (C × List ℕ) E
  pub may_answer : C → A → R → Bool
  pub may_say : C → A → Response → Bool

-- an answer, an interim response and a final one, by the AsyncId, as they stand on the stream
pub data OutPiece : Type 0 where
  Plain : (bytes : List ℕ) → OutPiece
  Pending : (id : ℕ) (bytes : List ℕ) → OutPiece
  Last : (id : ℕ) (bytes : List ℕ) → OutPiece

-- a request whose interim response was written, and whose final one wasn't
pub record Awaited (A : Type 0) : Type 0 where
  pub id : ℕ
  pub asked : A

pub record OutState (C A E : Type 0) : Type 0 where
  pub conn : C
  pub written : List OutPiece
  pub requests : List (Awaited A)
  pub finals : List Response  -- those that came before their interim response
  pub ended : Option E

pub data OutEvent (A R : Type 0) : Type 0 where
  Frame : (bytes : List ℕ) (now : ℕ) → OutEvent A R
  Answers : (asked : A) (replies : R) → OutEvent A R
  Waits : (asked : A) (response : Response) → OutEvent A R
  Goes : (response : Response) → OutEvent A R

pub data OutReply (A E : Type 0) : Type 0 where
  Checked : (asked : A) → OutReply A E
  Written : OutReply A E
  Kept : OutReply A E
  Ended : (why : E) → OutReply A E

pub record OutAnswer (C A E : Type 0) : Type 0 where
  pub state : OutState C A E
  pub reply : OutReply A E

-- What befell it: a list found no room, or the write failed behind so many pieces of it; why the connection then ends.
pub record Fault (E : Type 0) : Type 0 where
  pub pieces : ℕ
  pub why : E

-- ---- the lists

abbrev pub request_of : {A : Type 0} → ℕ → List (Awaited A) → Option A
request_of id [] = None
request_of id (x ∷ xs) = if x.id == id then Some x.asked else request_of id xs

abbrev pub without_request : {A : Type 0} → ℕ → List (Awaited A) → List (Awaited A)
without_request id [] = []
without_request id (x ∷ xs) = if x.id == id then xs else x ∷ without_request id xs

abbrev pub kept_final : ℕ → List Response → Option Response
kept_final id [] = None
kept_final id (x ∷ xs) = if x.async_id == id then Some x else kept_final id xs

abbrev pub without_final : ℕ → List Response → List Response
without_final id [] = []
without_final id (x ∷ xs) = if x.async_id == id then xs else x ∷ without_final id xs

-- ---- what an event comes to

abbrev pub does_nothing : {C A E : Type 0} → OutState C A E → OutReply A E → OutAnswer C A E
does_nothing s r = record { state = s; reply = r }

abbrev pub ends : {C A E : Type 0} → OutState C A E → E → OutAnswer C A E
ends s why = record { state = record s { ended = Some why }; reply = Ended why }

-- the pieces go out and the lists change, unless something befell it
abbrev pub goes_out : {C A E : Type 0} → OutState C A E → C → List OutPiece → List (Awaited A) → List Response → Option (Fault E)
    → OutAnswer C A E
goes_out s c pieces requests finals None = record {
  state = record { conn = c; written = s.written ++ pieces; requests = requests; finals = finals; ended = None };
  reply = Written;
}
goes_out s c pieces requests finals (Some f) = ends (record s { conn = c; written = s.written ++ take f.pieces pieces }) f.why

abbrev pub checks : {C A E : Type 0} → OutState C A E → Result (C × A) E → OutAnswer C A E
checks s (Err why) = ends s why
checks s (Ok x) = record { state = record s { conn = x.0 }; reply = Checked x.1 }

abbrev pub writes : {C A E : Type 0} → OutState C A E → Option (Fault E) → Result (C × List ℕ) E → OutAnswer C A E
writes s f (Err why) = ends s why
writes s f (Ok x) = goes_out s x.0 (Plain x.1 ∷ []) s.requests s.finals f

-- the interim response, and behind it the final one that is kept
abbrev pub and_last : {C A E : Type 0} → OutState C A E → Option (Fault E) → Response → List ℕ → Result (C × List ℕ) E → OutAnswer C A E
and_last s f l interim (Err why) = ends s why
and_last s f l interim (Ok x) = goes_out s x.0 (Pending l.async_id interim ∷ Last l.async_id x.1 ∷ []) s.requests
    (without_final l.async_id s.finals) f

abbrev pub last_by : {C A E : Type 0} → OutState C A E → Option (Fault E) → Response → Result (C × List ℕ) E → OutAnswer C A E
last_by s f l (Err why) = ends s why
last_by s f l (Ok x) = goes_out s x.0 (Last l.async_id x.1 ∷ []) (without_request l.async_id s.requests) s.finals f

-- a list without room keeps nothing
abbrev pub keeps : {C A E : Type 0} → OutState C A E → Option (Fault E) → Response → OutAnswer C A E
keeps s None l = record { state = record s { finals = s.finals ++ l ∷ [] }; reply = Kept }
keeps s (Some f) l = ends s f.why

module _ {C A R E : Type 0} (z : Speaks C A R E) where
  abbrev pub behind_pending : OutState C A E → Option (Fault E) → A → Response → C → List ℕ → Option Response → OutAnswer C A E
  behind_pending s f asked l c interim None =
      goes_out s c (Pending l.async_id interim ∷ []) (s.requests ++ record { id = l.async_id; asked = asked } ∷ []) s.finals f
  behind_pending s f asked l c interim (Some last) = and_last s f l interim (z.said_later c asked last)

  abbrev pub waits_by : OutState C A E → Option (Fault E) → A → Response → Result (C × List ℕ) E → OutAnswer C A E
  waits_by s f asked l (Err why) = ends s why
  waits_by s f asked l (Ok x) = behind_pending s f asked l x.0 x.1 (kept_final l.async_id s.finals)

  abbrev pub goes_by : OutState C A E → Option (Fault E) → Response → Option A → OutAnswer C A E
  goes_by s f l None = keeps s f l
  goes_by s f l (Some asked) = if z.may_say s.conn asked l then last_by s f l (z.said_later s.conn asked l) else does_nothing s Written

  abbrev pub going_on : OutState C A E → OutEvent A R → Option (Fault E) → OutAnswer C A E
  going_on s (Frame bytes now) f = checks s (z.checked s.conn bytes now)
  going_on s (Answers asked replies) f =
      if z.may_answer s.conn asked replies then writes s f (z.answered s.conn asked replies) else does_nothing s Written
  going_on s (Waits asked l) f = if z.may_say s.conn asked l then waits_by s f asked l (z.said_later s.conn asked l) else does_nothing s Written
  going_on s (Goes l) f = goes_by s f l (request_of l.async_id s.requests)

  -- behind an end every event answers it, and does nothing
  abbrev pub out_step_by : OutState C A E → OutEvent A R → Option (Fault E) → Option E → OutAnswer C A E
  out_step_by s e f (Some why) = does_nothing s (Ended why)
  out_step_by s e f None = going_on s e f

  abbrev pub out_step : OutState C A E → OutEvent A R → Option (Fault E) → OutAnswer C A E
  out_step s e f = out_step_by s e f s.ended
