-- The step of a line's request: its end, its logons and its one frame, spelled out.
use Rattle.std.proofs.Common.{◌≡◌, ℕ, ◌+◌, ◌<◌, ◌==◌, Bool, true, false, ◌&&◌, if◌then◌else◌, List, [], ◌∷◌, ◌++◌, refl, sym, ap}
use Rattle.std.proofs.Common.{◌∙◌, subst, Option, Some, None}
use Rattle.spec_exchange.specs.Status.{success}
use Rattle.spec_exchange.specs.State.{Server}
use Rattle.spec_wire.specs.credits.Window.{HeldIds}
use Rattle.spec_crypto.specs.declared.sessions.material.Keys.{Keys}
use Rattle.spec_crypto.specs.sessions.Nonces.{last_counter}
use Rattle.spec_crypto.specs.sessions.Sealing.{sealed as sealed_under}
use Rattle.spec_world.specs.Ends.{ServerEnd, Greeting, Logons, Spent, nonce_at}
use Rattle.spec_world.specs.Hearing.{is_negotiate}
use Rattle.spec_world.specs.Negotiate.{negotiated, client_told}
use Rattle.spec_world.specs.Related.{Carry}
use Rattle.spec_world.specs.Logon.{Stays}
use Rattle.spec_world.specs.Answering.{SaidReply, said_text, gathered, texts_of, all_texts, concatenated, each_joined}
use Rattle.spec_world.specs.Answering.{sealed_each, has_nonces}
use Rattle.spec_world.specs.Answering.{frames_by, greeting_behind, server_end_moved, server_end_behind, told_each}
use Rattle.spec_world.specs.Connection.{LastTaken, Going, ConnectionStep, answered, answered_with, ended_by}
use Rattle.law_ties.proofs.events.Serving.{goes_on, is_low}

pub record LineStep (S : ConnectionStep) (L : Logons) (f : ServerEnd) (frame : List ℕ) : Type 0 where
  pub logons : S.logons ≡ L
  pub server_end : S.server_end ≡ f
  pub frames : S.frames ≡ frame ∷ []
  pub ends : S.ends ≡ None

-- the end behind it
abbrev pub counted_end : ServerEnd → Bool → HeldIds → ServerEnd
counted_end f sealed window = record f { window = window; counter = if sealed then f.counter + 1 else f.counter }

-- its frame
abbrev pub answer_frame : Keys → ServerEnd → Bool → SaidReply → List ℕ
answer_frame keys f sealed r =
    if sealed then sealed_under keys false (nonce_at f.channel f.counter) (said_text true false r ++ []) else said_text false false r ++ []

-- nothing is made, and no greeting
not_taken : {X : Type 0} (b c : Bool) (x y : X) → b ≡ false → (if b && c then x else y) ≡ y
not_taken true c x y e = absurd (let h : true ≡ false = e in cc)
not_taken false c x y e = refl

pub no_greeting : (f : ServerEnd) (r : SaidReply) (text : List ℕ) → is_negotiate r.request.header ≡ false
    → greeting_behind f.greeting r text ≡ f.greeting
no_greeting f r text e =
    let heard : Greeting = record {
      client = client_told r.request.bytes;
      chosen = negotiated r.request.bytes;
      transcript = r.request.raw ∷ text ∷ [];
    } in
    not_taken (is_negotiate r.request.header) (r.header.status == success) (Some heard) f.greeting e

end_is : (f : ServerEnd) (r : SaidReply) (text : List ℕ) → r.progress ≡ Stays → is_negotiate r.request.header ≡ false
    → server_end_behind f r text ≡ f
end_is f r text stays first =
    ap (λ p. record (server_end_moved f r text p) { greeting = greeting_behind f.greeting r text }) stays
    ∙ ap (λ (g : Option Greeting). record f { greeting = g }) (no_greeting f r text first)

abbrev pub going_with : Server → Logons → HeldIds → Option Carry → Option LastTaken → SaidReply → Going
going_with s L window carried taken r = record {
  server = s;
  logons = L;
  window = window;
  carried = carried;
  taken = taken;
  replies = r ∷ [];
}

sealed_one : (o : Option Keys) (keys : Keys) (f : ServerEnd) (text : List ℕ) → o ≡ Some keys
    → frames_by o f (text ∷ []) ≡ sealed_under keys false (nonce_at f.channel f.counter) text ∷ []
unfolding sealed_each
sealed_one o keys f text e = ap (λ q. frames_by q f (text ∷ [])) e

pub one_line : (f : ServerEnd) (sealed : Bool) (keys : Keys) (s : Server) (L : Logons) (window : HeldIds) (carried : Option Carry)
    (taken : Option LastTaken) (r : SaidReply) → f.keys ≡ Some keys → f.counter < last_counter → r.progress ≡ Stays
    → is_negotiate r.request.header ≡ false
    → LineStep (answered f sealed (going_with s L window carried taken r)) L (counted_end f sealed window) (answer_frame keys f sealed r)
unfolding gathered texts_of all_texts each_joined concatenated told_each
one_line f false keys s L window carried taken r has nonce stays first = record {
  logons = refl;
  server_end = end_is (counted_end f false window) r (said_text false false r) stays first;
  frames = refl;
  ends = refl;
}
one_line f true keys s L window carried taken r has nonce stays first =
    let g = going_with s L window carried taken r in
    let rows = (said_text true false r ∷ []) ∷ [] in
    let low : has_nonces f 1 ≡ true = is_low f.counter last_counter nonce in
    subst (λ S. LineStep S L (counted_end f true window) (answer_frame keys f true r))
    (sym (goes_on (has_nonces f 1) (ended_by s L f taken Spent) (answered_with f true g rows (each_joined rows)) low))
    (record {
      logons = refl;
      server_end = end_is (counted_end f true window) r (said_text true false r) stays first;
      frames = sealed_one f.keys keys f (concatenated (said_text true false r ∷ [])) has;
      ends = refl;
    })
