-- A response changes neither operations nor slots.
use Rattle.std.proofs.Common.{ℕ, ◌==◌, ◌&&◌, not, Bool, true, if◌then◌else◌}
use Rattle.spec_exchange.specs.State.{Body, Reply}
use Rattle.spec_exchange.specs.Status.{disk_full}
use Rattle.spec_exchange.specs.Operations.{Outcome, NoOpen, NoSlot, Unknown, Unsettled, WasOk, WasRefused, id_in}
use Rattle.spec_exchange.specs.Operations.{is_close, is_create, is_lock}
use Rattle.spec_exchange.specs.Table.{put, put2}
use Rattle.spec_exchange.specs.Client.{Client, create_for, end_session}
use Rattle.spec_exchange.specs.ClientStep.{hear_after}
use Rattle.spec_exchange.specs.Settling.{Attaches, EndsSession, GoesAgain, Heard, Settles, answered, hear, heard, is_awaited}
use Rattle.spec_exchange.specs.Settling.{noted, noted_full, noted_ok, settle, settled, settles_open, with_no_opens}
use Rattle.client_events.specs.world_law.Asking.{AsksFit}
use Rattle.client_events.proofs.world_law.Tests.{either}

opens : (c : Client) (g : ℕ) (body : Body) → AsksFit c → AsksFit (noted_ok c g body)
opens c g body f =
    either (is_create (c.op g))
    (record c { file = put c.file g (id_in body); attached = put c.attached g c.session_number })
    (if is_close (c.op g) then record c { closed_ok = put c.closed_ok (create_for c g) true } else c)
    (λ e. record { kept = f.kept; slots = f.slots; numbers = f.numbers })
    (λ e. either (is_close (c.op g)) (record c { closed_ok = put c.closed_ok (create_for c g) true }) c
    (λ d. record { kept = f.kept; slots = f.slots; numbers = f.numbers }) (λ d. f))

notes : (c : Client) (g : ℕ) (r : Outcome) (body : Body) → AsksFit c → AsksFit (noted c g r body)
notes c g (WasOk reply) body f = opens c g body f
notes c g Unsettled body f = f
notes c g (WasRefused status) body f = f
notes c g (NoSlot create) body f = f
notes c g (NoOpen create) body f = f
notes c g (Unknown why) body f = f

fills : (c : Client) (g : ℕ) (asking : Bool) (status : ℕ) → AsksFit c → AsksFit (noted_full c g asking status)
fills c g asking status f =
    either (is_lock (c.op g) && (not asking && (status == disk_full)))
    (record c { full = put2 c.full (create_for c g) (c.slot_of g) true }) c
    (λ e. record { kept = f.kept; slots = f.slots; numbers = f.numbers }) (λ e. f)

settles_one : (c : Client) (g : ℕ) (r : Outcome) (place : ℕ) → AsksFit c → AsksFit (settled c g r place)
settles_one c g r place f = record { kept = f.kept; slots = f.slots; numbers = f.numbers }

gives_up : (c : Client) (create : ℕ) → AsksFit c → AsksFit (with_no_opens c create)
gives_up c create f = record { kept = f.kept; slots = f.slots; numbers = f.numbers }

settles_it : (c : Client) (g : ℕ) (asking : Bool) (r : Reply) (place : ℕ) (outcome : Outcome) → AsksFit c
    → AsksFit (settle c g asking r place outcome)
settles_it c g asking r place outcome f =
    let a = noted c g outcome r.body in
    let b = noted_full a g asking r.status in
    let d = settled b g outcome place in
    let fits = settles_one b g outcome place (fills a g asking r.status (notes c g outcome r.body f)) in
    either (settles_open (c.op g)) (with_no_opens d (create_for c g)) d (λ e. gives_up d (create_for c g) fits) (λ e. fits)

pub session_ends : (c : Client) → AsksFit c → AsksFit (end_session c)
session_ends c f = record { kept = f.kept; slots = f.slots; numbers = f.numbers }

hears : (c : Client) (g : ℕ) (asking : Bool) (r : Reply) (place : ℕ) (x : Heard) → AsksFit c → AsksFit (hear c g asking r place x)
hears c g asking r place (Settles outcome) f = settles_it c g asking r place outcome f
hears c g asking r place GoesAgain f = record { kept = f.kept; slots = f.slots; numbers = f.numbers }
hears c g asking r place Attaches f = record { kept = f.kept; slots = f.slots; numbers = f.numbers }
hears c g asking r place EndsSession f =
    session_ends (answered c g) (record { kept = f.kept; slots = f.slots; numbers = f.numbers })

pub responded : (c : Client) (k g : ℕ) (asking : Bool) (r : Reply) (place : ℕ) → AsksFit c → AsksFit (hear_after c k g asking r place)
responded c k g asking r place f =
    either (is_awaited c k g asking) (hear c g asking r place (heard c g asking r)) c
    (λ e. hears c g asking r place (heard c g asking r) f) (λ e. f)
