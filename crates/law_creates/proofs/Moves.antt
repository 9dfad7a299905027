-- What the server's effects do to what it keeps of creates.
use Rattle.std.proofs.Common.{ℕ, ◌+◌, Bool, true, false, not, ◌&&◌, if◌then◌else◌, Option, Some, None}
use Rattle.spec_exchange.specs.Table.{put, put2, is_at}
use Rattle.spec_exchange.specs.State.{Open}
use Rattle.spec_exchange.specs.Opens.{with_guid}
use Rattle.spec_exchange.specs.Effects.{cleared}
use Rattle.law_creates.specs.Creates.{Seen}

-- a refusal is kept by its session and guid
abbrev pub refuse_in : Seen → ℕ → ℕ → ℕ → Seen
refuse_in v x q status = record v { refused = put2 v.refused x q (Some status); guids = put v.guids x (v.guids x + 1) }

-- an open becomes this session's
abbrev pub attach_to : Seen → ℕ → ℕ → Seen
attach_to v o x = record v { session_of_open = put v.session_of_open o (Some x); guids = put v.guids x (v.guids x + 1) }

-- a new open stands, of this guid
abbrev pub make_new : Seen → ℕ → Open → ℕ → ℕ → Seen
make_new v o row x q =
    record v {
      standing = put v.standing o true;
      opened = put v.opened o row;
      session_of_open = put v.session_of_open o (Some x);
      by_guid = put2 v.by_guid row.client_guid q (Some o);
      guids = put v.guids x (v.guids x + 1);
      last = o;
    }

-- an open of this guid leaves
abbrev pub leave_by : Seen → ℕ → Option ℕ → Seen
leave_by v o q = record v {
  standing = put v.standing o false;
  session_of_open = put v.session_of_open o None;
  by_guid = with_guid v.by_guid (v.opened o).client_guid q None;
}

abbrev pub closed_by : (ℕ → ℕ → Bool) → ℕ → Option ℕ → ℕ → ℕ → Bool
closed_by closed x None = closed
closed_by closed x (Some q) = put2 closed x q true

-- it leaves by a close in this session
abbrev pub shut_in : Seen → ℕ → ℕ → Option ℕ → Seen
shut_in v o x q = record (leave_by v o q) { closed = closed_by v.closed x q }

-- it leaves by its deadline
abbrev pub expire_by : Seen → ℕ → Option ℕ → Seen
expire_by v o q = record (leave_by v o q) { expired_guids = closed_by v.expired_guids (v.opened o).client_guid q }

-- an open that leaves with its session
abbrev pub goes_with : Seen → ℕ → ℕ → Bool
goes_with v x o = is_at x (v.session_of_open o) && not (v.opened o).persistent

abbrev pub named_still : Seen → ℕ → Option ℕ → Option ℕ
named_still v x None = None
named_still v x (Some o) = if goes_with v x o then None else Some o

-- a session ends
abbrev pub end_of : Seen → ℕ → Seen
end_of v x =
    record v {
      standing = λ o. v.standing o && not (goes_with v x o);
      by_guid = λ p q. named_still v x (v.by_guid p q);
      session_of_open = λ o. cleared x (v.session_of_open o);
      present = put v.present x false;
      closed = put v.closed x (λ q. false);
      refused = put v.refused x (λ q. None);
      guids = put v.guids x 0;
    }

-- a session begins
abbrev pub begin_of : Seen → ℕ → Seen
begin_of v x = record v { present = put v.present x true }
