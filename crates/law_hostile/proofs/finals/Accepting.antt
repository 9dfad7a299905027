-- Where nothing is forged, a final response that the client accepts has the secret of one that the server made.
use Rattle.std.proofs.Common.{◌≡◌, ℕ, zero, suc, Bool, true, false, if◌then◌else◌, List, [], ◌∷◌, ◌++◌, ◌⊎◌, inl, inr, refl, sym, ap}
use Rattle.std.proofs.Common.{subst, arith, length, Option, Some, None, slice_get}
use Rattle.law_server.proofs.tables.Logic.{either}
use Rattle.spec_crypto.specs.sessions.Chain.{chain, chain_from, first_value, value_behind}
use Rattle.law_ties.proofs.wire_facts.Ciphers.{hash_length}
use Rattle.spec_exchange.specs.Client.{Stage, SaidSecond}
use Rattle.spec_exchange.specs.Network.{Event}
use Rattle.spec_world.specs.Settings.{WorldSettings}
use Rattle.spec_world.specs.Messages.{HeardMessage}
use Rattle.spec_world.specs.Ends.{ClientEnd}
use Rattle.spec_world.specs.Answering.{Ending}
use Rattle.spec_world.specs.Dialog.{ended_on}
use Rattle.spec_hostile.specs.RepeatRuns.{RepeatWorld, RepeatEvent, Same, Give, UpFrame, DownFrame, is_served, is_heard, uses_no_list, same_done}
use Rattle.spec_hostile.specs.RepeatRuns.{given_up, given_down, give_up, give_down, repeat_happens, repeat_start}
use Rattle.spec_hostile.specs.SignedFor.{Watched, SignedEntry, Secret, no_secret, own_secret, opening_of, PassesAt, TakenDown, TakesDown}
use Rattle.spec_hostile.specs.SignedFor.{WasSigned, watching, watched_happens, watched_run}
use Rattle.spec_hostile.specs.HostileNetwork.{repeated}
use Rattle.law_hostile.specs.unforged.Unforged.{EventSigned, AllSigned}
use Rattle.law_hostile.specs.finals.Finals.{WasMade, AcceptedWasMade, secret_of}
use Rattle.law_hostile.proofs.negotiating.Agreeing.{transcripts}
use Rattle.law_hostile.proofs.puts.Growing.{in_front, none_in, event_watched, watches_run}
use Rattle.law_hostile.proofs.puts.Replies.{in_either}
use Rattle.law_hostile.proofs.finals.Recalling.{AcceptsOne, same_recalls, down_takes, up_recalls}
use Rattle.law_hostile.proofs.finals.Signing.{By, Holds, event_holds, start_holds}

-- ---- a chain value has 64 bytes

chain_long : (v : List ℕ) (ms : List (List ℕ)) → length v ≡ 64 → length (chain_from v ms) ≡ 64
chain_long v [] e = e
chain_long v (m ∷ ms) e = chain_long (value_behind v m) ms (hash_length (v ++ m))

some_value : (n : ClientEnd) → own_secret n ≡ no_secret → ⊥
some_value n e =
    let long : length (chain n.transcript) ≡ 64 = chain_long first_value n.transcript refl in
    let none : length (chain n.transcript) ≡ 0 = ap (λ (s : Secret). length s.value) e in
    absurd (omega (arith, long, none))

-- ---- what is accepted has a secret that was made

abbrev AllMade : List Ending → List Ending → Type 0
AllMade made accepted = (i : ℕ) (a : Ending) → slice_get accepted i ≡ Some a → WasMade made (secret_of a)

none_made : (made : List Ending) → AllMade made []
none_made made i a h = absurd (none_in [] i a refl h)

one_in : (a b : Ending) (i : ℕ) → slice_get (a ∷ []) i ≡ Some b → a ≡ b
one_in a b zero h = let q : Some a ≡ Some b = h in cc
one_in a b (suc i) h = absurd (none_in [] i b refl h)

more_made : (made accepted : List Ending) (a : Ending) → WasMade made (secret_of a) → AllMade made accepted → AllMade made (accepted ++ a ∷ [])
more_made made accepted a one all i b h = by (in_either accepted (a ∷ []) i b h)
  where
    by : ((m : ℕ) × (slice_get accepted m ≡ Some b)) ⊎ ((m : ℕ) × (slice_get (a ∷ []) m ≡ Some b)) → WasMade made (secret_of b)
    by (inl m) = all m.0 b m.1
    by (inr m) = subst (λ (e : Ending). WasMade made (secret_of e)) (one_in a b m.0 m.1) one

grown : (made more accepted : List Ending) → AllMade made accepted → AllMade (made ++ more) accepted
grown made more accepted all i a h =
    let w = all i a h in record { index = w.index; ending = w.ending; at = in_front made more w.index w.ending w.at; is = w.is }

-- ---- the client takes a final response

-- the entry that it is taken for
abbrev pub entry_of : Watched → ℕ → ClientEnd → List ℕ → SignedEntry
entry_of t k n m = record { to_server = false; secret = own_secret n; place = opening_of t.repeating k; message = m }

pub taken_second : (z : WorldSettings) (t : Watched) (k : ℕ) (n : ClientEnd) (m : List ℕ) (stage : Stage) (bound : Bool)
    → stage ≡ SaidSecond bound → PassesAt z n (SaidSecond bound) m → TakenDown z t k n m (entry_of t k n m) stage
taken_second z t k n m stage bound e p =
    subst (λ s. TakenDown z t k n m (entry_of t k n m) s) (sym e) (p, refl, refl)

pub made_of : (made : List Ending) (n : ClientEnd) → By made (own_secret n) → WasMade made (own_secret n)
made_of made n (inl none) = absurd (some_value n none)
made_of made n (inr w) = w

-- the secret of what is accepted is that of the end
accepted_secret : (made : List Ending) (n : ClientEnd) (x : HeardMessage) (bound : Bool) → WasMade made (own_secret n)
    → WasMade made (secret_of (ended_on n x bound))
accepted_secret made n x bound w = w

accepts : (z : WorldSettings) (t : Watched) (k place : ℕ) (d : DownFrame) (new : List Ending)
    → slice_get t.repeating.downs place ≡ Some d → is_heard t.repeating.world k ≡ true → EventSigned z t (Give k false place) → Holds z t
    → AcceptsOne z t.repeating.world.accepted new (t.repeating.world.wires k).client_end d.frame
    (t.repeating.world.wires k).client_end.stage
    → AllMade t.repeating.world.made t.repeating.world.accepted → AllMade t.repeating.world.made new
accepts z t k place d new at on all h a old =
    let w = t.repeating.world in
    let n = (w.wires k).client_end in
    let x = entry_of t k n d.frame in
    let s : WasSigned t x =
    all x (TakesDown k place d at on refl refl (taken_second z t k n d.frame n.stage a.bound a.due a.passes)) in
    let made : WasMade w.made (own_secret n) = made_of w.made n (h.kept.2 s.0 x s.1 refl) in
    subst (AllMade w.made) (sym a.accepted)
    (more_made w.made w.accepted (ended_on n a.heard a.bound) (accepted_secret w.made n a.heard a.bound made) old)

-- ---- one event, and a run

abbrev Made : RepeatWorld → Type 0
Made r = AllMade r.world.made r.world.accepted

down_made : (z : WorldSettings) (t : Watched) (k place : ℕ) (o : Option DownFrame) → slice_get t.repeating.downs place ≡ o
    → EventSigned z t (Give k false place) → Holds z t → Made t.repeating → Made (give_down z t.repeating k o)
down_made z t k place None at all h old = old
down_made z t k place (Some d) at all h old = by_heard (is_heard t.repeating.world k) refl
  where
    by_accepted : is_heard t.repeating.world k ≡ true
        → ((given_down z t.repeating k d).world.accepted ≡ t.repeating.world.accepted)
        ⊎ AcceptsOne z t.repeating.world.accepted (given_down z t.repeating k d).world.accepted
        (t.repeating.world.wires k).client_end d.frame (t.repeating.world.wires k).client_end.stage
        → AllMade t.repeating.world.made (given_down z t.repeating k d).world.accepted
    by_accepted on (inl e) = subst (AllMade t.repeating.world.made) (sym e) old
    by_accepted on (inr a) = accepts z t k place d (given_down z t.repeating k d).world.accepted at on all h a old

    by_taken : is_heard t.repeating.world k ≡ true → Made (given_down z t.repeating k d)
    by_taken on =
        let v = given_down z t.repeating k d in
        let q = down_takes z t.repeating k d in
        subst (λ made. AllMade made v.world.accepted) (sym q.0) (by_accepted on q.1)

    by_heard : (b : Bool) → is_heard t.repeating.world k ≡ b → Made (if b then given_down z t.repeating k d else t.repeating)
    by_heard true on = by_taken on
    by_heard false on = old

same_made : (z : WorldSettings) (r : RepeatWorld) (e : Event) → Made r → Made (repeat_happens z r (Same e))
same_made z r e old =
    either Made (uses_no_list e) (same_done z r e) r
    (λ s. let q = same_recalls z r.world e s in
    subst (λ made. AllMade made (same_done z r e).world.accepted) (sym q.0) (subst (AllMade r.world.made) (sym q.1) old)) (λ _. old)

up_made : (z : WorldSettings) (r : RepeatWorld) (k : ℕ) (o : Option UpFrame) → Made r → Made (give_up z r k o)
up_made z r k None old = old
up_made z r k (Some u) old =
    either Made (is_served r.world k) (given_up z r k u) r
    (λ _. let q = up_recalls z r k u in
    subst (λ made. AllMade made (given_up z r k u).world.accepted) (sym q.1)
    (subst (AllMade (r.world.made ++ q.0)) (sym q.2) (grown r.world.made q.0 r.world.accepted old))) (λ _. old)

event_made : (z : WorldSettings) (t : Watched) (e : RepeatEvent) → EventSigned z t e → Holds z t → Made t.repeating
    → Made (repeat_happens z t.repeating e)
event_made z t (Same e) all h old = same_made z t.repeating e old
event_made z t (Give k true place) all h old = up_made z t.repeating k (slice_get t.repeating.ups place) old
event_made z t (Give k false place) all h old = down_made z t k place (slice_get t.repeating.downs place) refl all h old

run_made : (z : WorldSettings) (es : List RepeatEvent) (t : Watched) → z.client.ciphers ≡ [] → AllSigned z es t → Holds z t → Made t.repeating
    → Made (watched_run z es t).repeating
unfolding watched_run
run_made z [] t c all h old = old
run_made z (e ∷ es) t c all h old =
    run_made z es (watched_happens z t e) c all.1 (event_holds z t e c h)
    (subst Made (sym (event_watched z t e)) (event_made z t e all.0 h old))

pub accepted_was_made : AcceptedWasMade
accepted_was_made z es i a alone all at =
    let t = watching (repeat_start z) in
    let h : Made (repeated z es) =
    subst Made (watches_run z es t) (run_made z es t alone.offered all (start_holds z) (none_made [])) in
    let w = h i a at in
    let value : w.ending.chain ≡ a.chain = ap (λ (s : Secret). s.value) w.is in
    record {
      index = w.index;
      ending = w.ending;
      at = w.at;
      base = ap (λ (s : Secret). s.base) w.is;
      value = value;
      transcript = transcripts z es w.index i w.ending a w.at at value;
    }
