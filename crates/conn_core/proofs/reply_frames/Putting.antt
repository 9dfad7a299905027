-- One reply put into a frame, which is ended behind it or not.
use Rattle.std.proofs.Common.{◌≡◌, ℕ, ◌+◌, ◌-◌, ◌≤◌, Bool, true, false, List, [], ◌∷◌, ◌++◌, length, take, drop}
use Rattle.std.proofs.Common.{Option, Some, None, Result, Ok, Err, OnOk, refl, sym, ap, subst, ◌∙◌, arith}
use Rattle.spec_crypto.specs.declared.sessions.material.Keys.{Keys}
use Rattle.spec_crypto.specs.sessions.Nonces.{NonceState}
use Rattle.spec_world.specs.Ends.{ServerEnd}
use Rattle.spec_world.specs.Answering as answering
use Rattle.conn_core.specs.declared.end.ConnEnd.{ConnEnd}
use Rattle.conn_core.specs.declared.end.ConnEnd.TheVariants.{BadFrame, OutsideWindow, SecondNegotiate, Unsealable}
use Rattle.conn_core.specs.declared.end.ConnEnd.TheVariants.{Spent, Full, LinkFault, Stopped, Memory}
use Rattle.conn_core.specs.declared.reply_sealing.frames.Frames.{Frames}
use Rattle.conn_core.specs.declared.reply_sealing.frames.Placed.{Placed}
use Rattle.conn_core.specs.declared.reply_sealing.said.Said.{Said}
use Rattle.conn_core.specs.reply_sealing.Joining.{ReplyEndsBy, HasReplyRoom, IsPlaced, RoomBehind, joins_next}
use Rattle.conn_core.specs.declared.logon_state.behind.Behind.{Behind}
use Rattle.conn_core.specs.logon_state.Behind.{ShowsBehind}
use Rattle.conn_core.specs.reply_frames.Adding.{Added, AddsWith, NextFits, AnswerPuts, later_of}

not_both : (b : Bool) → b ≡ true → b ≡ false → ⊥
not_both true e f = cc
not_both false e f = cc

pub put_is : (keys : Option Keys) (first counted : NonceState) (sealed : Bool) (nonces : NonceState) (done front : List (List ℕ))
    (g : ServerEnd) (r : answering.SaidReply) (n : Option answering.SaidReply) (p : Placed) (x : Frames) (b : Behind) (response : List ℕ)
    → response ≡ take (p.span.end - p.span.start) (drop p.span.start x.out.items)
    → IsPlaced keys first sealed x nonces done front r n p → ShowsBehind counted b (answering.server_end_behind g r response)
    → AnswerPuts keys first counted sealed nonces done front g r n p.more x b
put_is keys first counted sealed nonces done front g r n p x b response is placed went = record {
  more_is = placed.more;
  size = placed.size;
  written = placed.written;
  behind_is = subst (λ (t : List ℕ). ShowsBehind counted b (answering.server_end_behind g r t)) (is ∙ placed.text) went;
}

-- ---- room

pub room_shut : (x : Frames) (more : Bool) (next : Option Said) → more ≡ false → RoomBehind x more next → HasReplyRoom x 0
room_shut x false next e h = h
room_shut x true next e h = absurd (cc)

fits_open : (x : Frames) (next : Option Said) → RoomBehind x true next → NextFits x next
fits_open x None h = absurd h
fits_open x (Some s) h = λ opened. h

pub fits_shut : (x : Frames) (next : Option Said) → x.open ≡ false → NextFits x next
fits_shut x None shut = shut
fits_shut x (Some s) shut = λ opened. absurd (not_both x.open opened shut)

ok_of : (result : Result Unit ConnEnd) (P : Type 0) → P → OnOk result P
ok_of (Ok u) P p = p
ok_of (Err e) P p = tt

shut_of : (y : Frames) (b : Bool) (next : Option Said) (result : Result Unit ConnEnd)
    → OnOk result ((y.open ≡ false) × (y.sealed ≡ b)) → OnOk result (NextFits y next)
shut_of y b next (Ok u) h = fits_shut y next h.0
shut_of y b next (Err e) h = tt

pub next_fits : (x y : Frames) (nonces after : NonceState) (more : Bool) (next : Option Said) (result : Result Unit ConnEnd)
    → RoomBehind x more next → (more ≡ true → (y ≡ x) × (after ≡ nonces))
    → (more ≡ false → OnOk result ((y.open ≡ false) × (y.sealed ≡ x.sealed))) → OnOk result (NextFits y next)
next_fits x y nonces after true next result room same shut =
    ok_of result (NextFits y next)
    (subst (λ (f : Frames). NextFits f next) (sym (same refl).0) (fits_open x next room))
next_fits x y nonces after false next result room same shut = shut_of y x.sealed next result (shut refl)

-- ---- the frame goes on or is ended

short_text : (x : Frames) (n : ℕ) → x.text + n ≡ length x.out.items → HasReplyRoom x 0 → n ≤ answering.text_limit x.sealed
short_text x n e room = (let long = room.3 in omega (arith, e, long))

sealed_same : (x y : Frames) (nonces after : NonceState) (more : Bool)
    → (more ≡ true → (y ≡ x) × (after ≡ nonces)) → (more ≡ false → (y.open ≡ false) × (y.sealed ≡ x.sealed))
    → y.sealed ≡ x.sealed
sealed_same x y nonces after true same shut = ap (λ (f : Frames). f.sealed) (same refl).0
sealed_same x y nonces after false same shut = (shut refl).1

pub added_by : (keys : Option Keys) (first counted : NonceState) (sealed : Bool) (nonces after : NonceState) (done front : List (List ℕ))
    (g : ServerEnd) (r : answering.SaidReply) (n : Option answering.SaidReply) (more : Bool) (x y : Frames) (b : Behind)
    (result : Result Unit ConnEnd)
    → x.sealed ≡ sealed → AnswerPuts keys first counted sealed nonces done front g r n more x b → (more ≡ false → HasReplyRoom x 0)
    → ReplyEndsBy keys first x.sealed more nonces y after done front (answering.said_text sealed more r) result
    → (more ≡ true → (y ≡ x) × (after ≡ nonces)) → (more ≡ false → OnOk result ((y.open ≡ false) × (y.sealed ≡ x.sealed)))
    → AddsWith keys first counted sealed nonces done front g r
    (joins_next sealed (length (answering.concatenated front)) r n) y after b result
added_by keys first counted sealed nonces after done front g r n more x y b (Ok u) is p room e same shut =
    let t : List ℕ = answering.said_text sealed more r in
    let ended = subst (λ (s : Bool). ReplyEndsBy keys first s more nonces y after done front t (Ok u)) is e in
    let added : Added keys first counted sealed nonces done front g r more y after b = record {
      sealed_is = sealed_same x y nonces after more same shut ∙ is;
      adds = ended.0;
      size = p.size;
      counted_one = ended.1;
      short = λ shuts. (
          subst (λ (s : Bool). length (answering.concatenated (front ++ t ∷ [])) ≤ answering.text_limit s) is
          (short_text x (length (answering.concatenated (front ++ t ∷ []))) p.written.text (room shuts))
          );
      behind_is = p.behind_is;
    } in
    subst (λ (m : Bool). Added keys first counted sealed nonces done front g r m y after b) p.more_is added
added_by keys first counted sealed nonces after done front g r n more x y b (Err Memory) is p room e same shut = tt
added_by keys first counted sealed nonces after done front g r n more x y b (Err Spent) is p room e same shut =
    (sym is ∙ e.1, e.2)
added_by keys first counted sealed nonces after done front g r n more x y b (Err Unsealable) is p room e same shut = (sym is ∙ e.0, e.1)
added_by keys first counted sealed nonces after done front g r n more x y b (Err BadFrame) is p room e same shut = absurd e
added_by keys first counted sealed nonces after done front g r n more x y b (Err (OutsideWindow id)) is p room e same shut = absurd e
added_by keys first counted sealed nonces after done front g r n more x y b (Err SecondNegotiate) is p room e same shut = absurd e
added_by keys first counted sealed nonces after done front g r n more x y b (Err Full) is p room e same shut = absurd e
added_by keys first counted sealed nonces after done front g r n more x y b (Err (LinkFault count)) is p room e same shut = absurd e
added_by keys first counted sealed nonces after done front g r n more x y b (Err (Stopped count)) is p room e same shut = absurd e

-- ---- the reply that waits behind both

pub fits_later : (x : Frames) (s : Said) (next waiting : Option Said) (result : Result Unit ConnEnd) → next ≡ Some s
    → OnOk result (NextFits x (Some s)) → OnOk result (NextFits x (later_of next waiting))
fits_later x s next waiting result e h =
    subst (λ (o : Option Said). OnOk result (NextFits x (later_of o waiting))) (sym e) h
