-- What a response leaves of the client, where it doesn't end the session, and where it does.
use Rattle.std.proofs.Common.{◌≡◌, ℕ, ◌==◌, ◌&&◌, not, Bool, true, false, if◌then◌else◌, refl, ◌∙◌, None}
use Rattle.spec_exchange.specs.Client.{Client, Identity, create_for}
use Rattle.spec_exchange.specs.ClientStep.{Act, AllSettled, Asks, CloseChannel, CloseChannels, Nothing, Sends}
use Rattle.spec_exchange.specs.ClientStep.{act_heard, hear_act, hear_after}
use Rattle.spec_exchange.specs.Operations.{NoOpen, NoSlot, Outcome, Unknown, Unsettled, WasOk, WasRefused, id_in}
use Rattle.spec_exchange.specs.Operations.{is_close, is_create, is_lock}
use Rattle.spec_exchange.specs.Settling.{Attaches, EndsSession, GoesAgain, Heard, Settles, hear, heard, is_awaited}
use Rattle.spec_exchange.specs.Settling.{noted, noted_full, noted_ok, settle, settled, settles_open, with_no_opens}
use Rattle.spec_exchange.specs.State.{Body, Reply}
use Rattle.spec_exchange.specs.Status.{disk_full}
use Rattle.spec_exchange.specs.Table.{put, put2}
use Rattle.world_ends.specs.Channels.{ChannelSeen, seen_of}
use Rattle.world_steps.specs.Parts.{all_close}

-- the columns at which a world in code looks, but for the client's own and what settled
pub record Columns : Type 0 where
  pub who : Identity
  pub taken : ℕ
  pub seen : ChannelSeen

abbrev pub columns_of : Client → Columns
columns_of c = record { who = c.who; taken = c.taken; seen = seen_of c }

either : (b : Bool) (c d x : Client) → columns_of c ≡ columns_of x → columns_of d ≡ columns_of x
    → columns_of (if b then c else d) ≡ columns_of x
either true c d x e f = e
either false c d x e f = f

opens : (c : Client) (g : ℕ) (body : Body) → columns_of (noted_ok c g body) ≡ columns_of c
opens c g body =
    either (is_create (c.op g)) (record c { file = put c.file g (id_in body); attached = put c.attached g c.session_number })
    (if is_close (c.op g) then record c { closed_ok = put c.closed_ok (create_for c g) true } else c) c refl
    (either (is_close (c.op g)) (record c { closed_ok = put c.closed_ok (create_for c g) true }) c c refl refl)

notes : (c : Client) (g : ℕ) (r : Outcome) (body : Body) → columns_of (noted c g r body) ≡ columns_of c
notes c g (WasOk reply) body = opens c g body
notes c g Unsettled body = refl
notes c g (WasRefused status) body = refl
notes c g (NoSlot create) body = refl
notes c g (NoOpen create) body = refl
notes c g (Unknown why) body = refl

fills : (c : Client) (g : ℕ) (asking : Bool) (status : ℕ) → columns_of (noted_full c g asking status) ≡ columns_of c
fills c g asking status =
    either (is_lock (c.op g) && (not asking && (status == disk_full)))
    (record c { full = put2 c.full (create_for c g) (c.slot_of g) true }) c c refl refl

settles_it : (c : Client) (g : ℕ) (asking : Bool) (r : Reply) (place : ℕ) (outcome : Outcome)
    → columns_of (settle c g asking r place outcome) ≡ columns_of c
settles_it c g asking r place outcome =
    let a = noted c g outcome r.body in
    let d = settled (noted_full a g asking r.status) g outcome place in
    let same : columns_of d ≡ columns_of c = fills a g asking r.status ∙ notes c g outcome r.body in
    either (settles_open (c.op g)) (with_no_opens d (create_for c g)) d c same same

-- by whether it is awaited, and what it comes to
stays_by : (b : Bool) (x : Heard) (c : Client) (g : ℕ) (asking : Bool) (r : Reply) (place : ℕ)
    → all_close (if b then act_heard x else Nothing) ≡ false
    → columns_of (if b then hear c g asking r place x else c) ≡ columns_of c
stays_by false x c g asking r place e = refl
stays_by true (Settles outcome) c g asking r place e = settles_it c g asking r place outcome
stays_by true GoesAgain c g asking r place e = refl
stays_by true Attaches c g asking r place e = refl
stays_by true EndsSession c g asking r place e = absurd (cc)

pub stays : (c : Client) (k g : ℕ) (asking : Bool) (r : Reply) (place : ℕ) → all_close (hear_act c k g asking r) ≡ false
    → columns_of (hear_after c k g asking r place) ≡ columns_of c
stays c k g asking r place e = stays_by (is_awaited c k g asking) (heard c g asking r) c g asking r place e

-- the session ends
pub record Ends (c d : Client) : Type 0 where
  pub who : d.who ≡ c.who
  pub taken : d.taken ≡ c.taken
  pub accepted : d.accepted ≡ c.accepted
  pub making : d.making ≡ None
  pub live : d.live ≡ false
  pub ready : (j : ℕ) → d.ready j ≡ false

ends_by : (b : Bool) (x : Heard) (c : Client) (g : ℕ) (asking : Bool) (r : Reply) (place : ℕ)
    → all_close (if b then act_heard x else Nothing) ≡ true → Ends c (if b then hear c g asking r place x else c)
ends_by false x c g asking r place e = absurd (cc)
ends_by true (Settles outcome) c g asking r place e = absurd (cc)
ends_by true GoesAgain c g asking r place e = absurd (cc)
ends_by true Attaches c g asking r place e = absurd (cc)
ends_by true EndsSession c g asking r place e =
    record { who = refl; taken = refl; accepted = refl; making = refl; live = refl; ready = λ j. refl }

pub session_ends : (c : Client) (k g : ℕ) (asking : Bool) (r : Reply) (place : ℕ) → all_close (hear_act c k g asking r) ≡ true
    → Ends c (hear_after c k g asking r place)
session_ends c k g asking r place e = ends_by (is_awaited c k g asking) (heard c g asking r) c g asking r place e

-- ---- what it tells

quiet_by : (b : Bool) (x : Heard) → all_close (if b then act_heard x else Nothing) ≡ false → (if b then act_heard x else Nothing) ≡ Nothing
quiet_by false x e = refl
quiet_by true (Settles outcome) e = refl
quiet_by true GoesAgain e = refl
quiet_by true Attaches e = refl
quiet_by true EndsSession e = absurd (cc)

pub quiet : (c : Client) (k g : ℕ) (asking : Bool) (r : Reply) → all_close (hear_act c k g asking r) ≡ false
    → hear_act c k g asking r ≡ Nothing
quiet c k g asking r e = quiet_by (is_awaited c k g asking) (heard c g asking r) e

pub shut : (a : Act) → all_close a ≡ true → a ≡ CloseChannels
shut CloseChannels e = refl
shut Nothing e = absurd (cc)
shut (Sends g) e = absurd (cc)
shut (Asks g) e = absurd (cc)
shut CloseChannel e = absurd (cc)
shut AllSettled e = absurd (cc)
