-- What a step of a repeat run does to the sessions that the client's dialogs name, and what its new requests name.
use Rattle.std.proofs.Common.{◌≡◌, ℕ, zero, suc, ◌+◌, ◌==◌, Bool, true, false, List, [], ◌∷◌, ◌++◌, refl, sym, ap, ◌∙◌, subst, arith}
use Rattle.std.proofs.Common.{Option, Some, None}
use Rattle.law_server.proofs.tables.Logic.{either}
use Rattle.law_records.proofs.recovery.Lists.{put_here}
use Rattle.spec_wire.specs.messages.Places.{number_of, le}
use Rattle.spec_exchange.specs.Table.{put}
use Rattle.spec_exchange.specs.Status.{success}
use Rattle.spec_exchange.specs.Operations.{Op, charge, weight}
use Rattle.spec_exchange.specs.State.{Accept, Message}
use Rattle.spec_exchange.specs.Step.{step}
use Rattle.spec_exchange.specs.Client.{Client, Stage, SaidNegotiate, SaidFirst, SaidSecond}
use Rattle.spec_exchange.specs.ClientStep.{Act, Nothing, Sends, Asks, CloseChannel, CloseChannels, AllSettled, Pushes, TakesOp, client_after, act, Pick}
use Rattle.spec_exchange.specs.Client.{may_take, take_op, own_message, ask_message}
use Rattle.spec_exchange.specs.Network.{World as Values, Event, Submit, Open, Push, Serve, Take, Cut, Drop, Restart, Crash, Wait, Finish, Sent, Token}
use Rattle.spec_exchange.specs.Network.{Received, is_possible, moments, pushed_by}
use Rattle.spec_world.specs.Settings.{WorldSettings}
use Rattle.spec_world.specs.Ends.{ClientEnd, ConnEnd}
use Rattle.spec_world.specs.Connection.{ConnectionStep, LastTaken}
use Rattle.spec_world.specs.Hearing.{begins_sealed}
use Rattle.spec_world.specs.Sending.{greeting_text}
use Rattle.spec_world.specs.Dialog.{dialog_response, ended_on}
use Rattle.spec_world.specs.World.{World, Wires, hears, take_frame, behind_frame, cut_wires, opened_wires, fresh_wires, greeting_of, paid, pushed_wires, with_values}
use Rattle.spec_world.specs.World.{pushed_with, serve_frame, served_by, step_at, values_took, replied_each}
use Rattle.spec_world.specs.Events.{Plain, bytes_happen, bytes_changed, bytes_later}
use Rattle.spec_hostile.specs.RepeatRuns.{RepeatWorld, UpFrame, DownFrame, loaded_up, loaded_down, given_up, given_down, lists_as, new_ups, puts_up}
use Rattle.spec_hostile.specs.RepeatRuns.{uses_no_list, same_done, own_connection, with_opening, is_served, is_heard}
use Rattle.spec_hostile.specs.SignedFor.{PassesAt}
use Rattle.law_ties.proofs.events.Columns.{push_keeps}
use Rattle.law_hostile.specs.ended.Requests.{AsksSession, previous_named, NamesSession}
use Rattle.law_hostile.proofs.ended.Ranks.{SameRanks, push_ranks}
use Rattle.law_hostile.proofs.ended.Turns.{SameNames, names_self, seconds_put, talked_self, talked_put, not_second, Puts, no_puts, one_puts, line_puts}
use Rattle.law_hostile.proofs.ended.Turns.{Rests, Goes, Ends, Turn, IsStill, GoesOnTo, IsAccepted, heard_turned, cut_names, cut_talked, cut_up}
use Rattle.law_hostile.proofs.finals.Recalling.{wires_loaded, conn_loaded, up_recalls}
use Rattle.law_hostile.proofs.loosely.Taking.{hearing_end}
use Rattle.law_hostile.proofs.placed.Requests.{opening_ups}
use Rattle.law_hostile.proofs.setups.Own.{greeting_command}
use Rattle.law_hostile.proofs.dialogs.Lined.{AllPut, SameEnds, ends_put, served_ends}
use Rattle.law_hostile.proofs.ids.Served.{serve_empties}
use Rattle.law_hostile.proofs.ids.Rising.{put_none, never_apart}

-- ---- worlds with the same client and the same ends of it

pub record Alike (w u : World) : Type 0 where
  pub client : u.values.client ≡ w.values.client
  pub ends : SameEnds w.wires u.wires
  pub accepted : u.accepted ≡ w.accepted

alike_self : (w : World) → Alike w w
alike_self w = record { client = refl; ends = λ j. refl; accepted = refl }

ranks_alike : (w x u y : World) → Alike w x → Alike u y → SameRanks w.values.client u.values.client
    → SameRanks x.values.client y.values.client
ranks_alike w x u y a b r =
    record {
      rank = ap (λ (c : Client). c.rank) b.client ∙ (r.rank ∙ sym (ap (λ (c : Client). c.rank) a.client));
      count = ap (λ (c : Client). c.accepted_count) b.client ∙ (r.count ∙ sym (ap (λ (c : Client). c.accepted_count) a.client));
    }

rests_alike : (w x u y : World) (k : ℕ) → Alike w x → Alike u y → Rests w u k → Rests x y k
rests_alike w x u y k a b r =
    record {
      names = record {
        pending = ap (λ (c : Client). c.pending) b.client
            ∙ ((let n = r.names in n.pending) ∙ sym (ap (λ (c : Client). c.pending) a.client));
        accepted = ap (λ (c : Client). c.accepted) b.client
            ∙ ((let n = r.names in n.accepted) ∙ sym (ap (λ (c : Client). c.accepted) a.client));
        ranks = ranks_alike w x u y a b (let n = r.names in n.ranks);
        seconds = λ j e. ap (λ (c : Client). c.stage j) a.client
            ∙ (let n = r.names in n.seconds j (ap (λ (c : Client). c.stage j) (sym b.client) ∙ e));
      };
      talked = λ j e.
          let p = r.talked j (ap (λ (n : ClientEnd). n.stage) (sym (b.ends j)) ∙ e) in (
            ap (λ (n : ClientEnd). n.transcript) (b.ends j) ∙ (p.0 ∙ ap (λ (n : ClientEnd). n.transcript) (sym (a.ends j))),
            ap (λ (n : ClientEnd). n.stage) (a.ends j) ∙ p.1,
          );
    }

goes_alike : (w x u y : World) (k : ℕ) (frame : List ℕ) → Alike w x → Alike u y → Goes w u k frame → Goes x y k frame
goes_alike w x u y k frame a b r =
    record {
      stage = ap (λ (n : ClientEnd). n.stage) (a.ends k) ∙ r.stage;
      response = r.response;
      heard = ap (λ (n : ClientEnd). dialog_response n (SaidFirst false) frame) (a.ends k) ∙ r.heard;
      pending = ap (λ (c : Client). c.pending) b.client ∙ r.pending;
      accepted = ap (λ (c : Client). c.accepted) b.client ∙ (r.accepted ∙ sym (ap (λ (c : Client). c.accepted) a.client));
      ranks = ranks_alike w x u y a b r.ranks;
      front = r.front;
      last = r.last;
      transcript = ap (λ (n : ClientEnd). n.transcript) (b.ends k) ∙ r.transcript;
      named = subst (λ (c : Client). NamesSession r.last c.pending c.accepted) (sym b.client) r.named;
      others = λ j off. b.ends j ∙ (r.others j off ∙ sym (a.ends j));
      stages = λ j off. ap (λ (c : Client). c.stage j) b.client ∙ (r.stages j off ∙ ap (λ (c : Client). c.stage j) (sym a.client));
    }

ends_alike : (z : WorldSettings) (w x u y : World) (k : ℕ) (frame : List ℕ) → Alike w x → Alike u y → Ends z w u k frame → Ends z x y k frame
ends_alike z w x u y k frame a b r =
    record {
      stage = ap (λ (n : ClientEnd). n.stage) (a.ends k) ∙ r.stage;
      passes = subst (λ n. PassesAt z n (SaidSecond false) frame) (sym (a.ends k)) r.passes;
      response = r.response;
      remembered = b.accepted
          ∙ (r.remembered
          ∙ (ap (λ l. l ++ ended_on (w.wires k).client_end r.response false ∷ []) (sym a.accepted)
          ∙ ap (λ n. x.accepted ++ ended_on n r.response false ∷ []) (sym (a.ends k))));
      pending = ap (λ (c : Client). c.pending) b.client ∙ (r.pending ∙ sym (ap (λ (c : Client). c.pending) a.client));
      accepted = ap (λ (c : Client). c.accepted) b.client ∙ (r.accepted ∙ sym (ap (λ (c : Client). c.pending) a.client));
      rank = ap (λ (c : Client). c.rank) b.client
          ∙ (r.rank ∙ sym (ap (λ (c : Client). put c.rank c.pending (c.accepted_count + 1)) a.client));
      count = ap (λ (c : Client). c.accepted_count) b.client
          ∙ (r.count ∙ sym (ap (λ (c : Client). c.accepted_count + 1) a.client));
      behind = ap (λ (n : ClientEnd). n.stage) (b.ends k) ∙ r.behind;
      others = λ j off. b.ends j ∙ (r.others j off ∙ sym (a.ends j));
      stages = λ j off. ap (λ (c : Client). c.stage j) b.client ∙ (r.stages j off ∙ ap (λ (c : Client). c.stage j) (sym a.client));
    }

turn_alike : (z : WorldSettings) (w x u y : World) (k : ℕ) (frame : List ℕ) → Alike w x → Alike u y → Turn z w u k frame → Turn z x y k frame
turn_alike z w x u y k frame a b (IsStill r) = IsStill (rests_alike w x u y k a b r)
turn_alike z w x u y k frame a b (GoesOnTo r) = GoesOnTo (goes_alike w x u y k frame a b r)
turn_alike z w x u y k frame a b (IsAccepted r) = IsAccepted (ends_alike z w x u y k frame a b r)

-- ---- what is put

-- an unsealed request for a session names the one that the client accepted last as the one before it
abbrev pub NamesLast : Client → UpFrame → Type 0
NamesLast c u = begins_sealed u.frame ≡ false → AsksSession u.frame → previous_named u.frame ≡ number_of (le 8 c.accepted)

rest_puts : (c : Client) (b : List ℕ) (bs : List (List ℕ)) → Puts c (b ∷ bs) → Puts c bs
rest_puts c b bs all i x at = all (i + 1) x (rw (plus i) at)
  where
    plus : (i : ℕ) → i + 1 ≡ suc i
    plus i = omega arith

put_names : (c : Client) (k n : ℕ) (bs : List (List ℕ)) (xs : List Sent) → Puts c bs → AllPut (NamesLast c) (puts_up k n bs xs)
unfolding puts_up
put_names c k n [] xs all i u at = absurd (let q : None ≡ Some u = at in cc)
put_names c k n (b ∷ bs) [] all i u at = absurd (let q : None ≡ Some u = at in cc)
put_names c k n (b ∷ bs) (x ∷ xs) all zero u at =
    let q : Some (record { frame = b; sent = x; connection = k; opening = n }) ≡ Some u = at in
    let s : record { frame = b; sent = x; connection = k; opening = n } ≡ u = cc in
    subst (NamesLast c) s (all 0 b refl)
put_names c k n (b ∷ bs) (x ∷ xs) all (suc i) u at = put_names c k n bs xs (rest_puts c b bs all) i u at

-- all that a step put
pub record PutsMore (r s : RepeatWorld) : Type 0 where
  pub more : List UpFrame
  pub ups : s.ups ≡ r.ups ++ more
  pub named : AllPut (NamesLast r.world.values.client) more

-- ---- a reply is given

abbrev GivesDown : WorldSettings → RepeatWorld → ℕ → DownFrame → World → Type 0
GivesDown z r k d v = Turn z r.world v k d.frame × Puts r.world.values.client (v.wires k).up

took_down : (z : WorldSettings) (r : RepeatWorld) (k : ℕ) (d : DownFrame)
    → GivesDown z r k d (hears z (behind_frame (loaded_down r k d) k [] []) k d.frame d.received.place (r.world.wires k).client_end.stage)
took_down z r k d =
    let l = loaded_down r k d in
    let b = behind_frame l k [] [] in
    let s = (r.world.wires k).client_end.stage in
    let u = hears z b k d.frame d.received.place s in
    let none : (b.wires k).up ≡ [] =
    ap (λ (x : Wires). x.up) (put_here l.wires k (record (l.wires k) { down = [] })) ∙ ap (λ (x : Wires). x.up) (wires_loaded r k d) in
    let h = heard_turned z b k d.frame d.received.place s none (ap (λ (n : ClientEnd). n.stage) (hearing_end r k d)) in
    let back : Alike b r.world = record {
      client = refl;
      ends = λ j. sym (ends_put l.wires k _ refl j ∙ ends_put r.world.wires k _ refl j);
      accepted = refl;
    } in (
      turn_alike z b r.world u u k d.frame back (alike_self u) h.turn,
      h.puts,
    )

later_down : (z : WorldSettings) (r : RepeatWorld) (k : ℕ) (d : DownFrame) (v : World) → GivesDown z r k d v → GivesDown z r k d (bytes_later v 1)
later_down z r k d v g = (
  turn_alike z r.world r.world v (bytes_later v 1) k d.frame (alike_self r.world) (record { client = refl; ends = λ j. refl; accepted = refl }) g.0,
  g.1,
)

not_down : (z : WorldSettings) (r : RepeatWorld) (k : ℕ) (d : DownFrame) → GivesDown z r k d (loaded_down r k d)
not_down z r k d =
    let l = loaded_down r k d in (
      IsStill (rests_alike r.world r.world r.world l k (alike_self r.world)
          (record { client = refl; ends = ends_put r.world.wires k _ refl; accepted = refl })
          (record { names = names_self r.world.values.client; talked = talked_self r.world.wires })),
      no_puts r.world.values.client (l.wires k).up (ap (λ (x : Wires). x.up) (wires_loaded r k d)),
    )

down_world : (z : WorldSettings) (r : RepeatWorld) (k : ℕ) (d : DownFrame)
    → GivesDown z r k d (bytes_happen z (loaded_down r k d) (Plain (Take k)))
down_world z r k d =
    let l = loaded_down r k d in
    let b = behind_frame l k [] [] in
    let here : (l.wires k).client_end ≡ (r.world.wires k).client_end = ap (λ (x : Wires). x.client_end) (wires_loaded r k d) in
    let took : GivesDown z r k d (take_frame z l k (l.wires k).down (l.values.conns k).down) =
    subst (λ bs. GivesDown z r k d (take_frame z l k bs (l.values.conns k).down)) (sym (ap (λ (x : Wires). x.down) (wires_loaded r k d)))
    (subst (λ ys. GivesDown z r k d (take_frame z l k (d.frame ∷ []) ys)) (sym (conn_loaded r k d))
    (subst (λ s. GivesDown z r k d (hears z b k d.frame d.received.place s)) (sym (ap (λ (n : ClientEnd). n.stage) here)) (took_down z r k d))) in
    either (GivesDown z r k d) (is_possible l.values (Take k)) (bytes_later (bytes_changed z l (Take k)) 1) l
    (λ _. later_down z r k d (bytes_changed z l (Take k)) took) (λ _. not_down z r k d)

-- what it leaves is collected
lists_alike : (w : World) (k : ℕ) (heard : Bool) → Alike w (lists_as w k [] [] heard)
lists_alike w k heard = record { client = refl; ends = ends_put w.wires k _ refl; accepted = refl }

pub down_turns : (z : WorldSettings) (r : RepeatWorld) (k : ℕ) (d : DownFrame)
    → Turn z r.world (given_down z r k d).world k d.frame × PutsMore r (given_down z r k d)
down_turns z r k d =
    let w = bytes_happen z (loaded_down r k d) (Plain (Take k)) in
    let g = down_world z r k d in (
      turn_alike z r.world r.world w (lists_as w k [] [] (is_heard w k)) k d.frame (alike_self r.world) (lists_alike w k (is_heard w k)) g.0,
      record {
        more = new_ups w k (r.openings k);
        ups = refl;
        named = put_names r.world.values.client k (r.openings k) (w.wires k).up (w.values.conns k).up g.1;
      },
    )

-- ---- a request is given: nothing of it is the client's

took_client : (v : Values) (k : ℕ) (token : Token) (xs : List Sent) (o : Option LastTaken) → (values_took v k token xs o).client ≡ v.client
took_client v k token xs None = refl
took_client v k token xs (Some t) = refl

each_client : (v : Values) (k : ℕ) (y : Received) (frames : List (List ℕ)) → (replied_each v k y frames).client ≡ v.client
unfolding replied_each
each_client v k y [] = refl
each_client v k y (f ∷ fs) = each_client (record v { conns = put v.conns k _ }) k y fs

by_end_client : (w : World) (k : ℕ) (bs : List (List ℕ)) (xs : List Sent) (x : Sent) (S : ConnectionStep) (o : Option ConnEnd)
    → (served_by w k bs xs x.token S o).values.client ≡ w.values.client
by_end_client w k bs xs x S None =
    each_client (values_took w.values k x.token xs S.taken) k _ S.frames ∙ took_client w.values k x.token xs S.taken
by_end_client w k bs xs x S (Some why) = took_client w.values k x.token xs S.taken

serve_client : (z : WorldSettings) (w : World) (k : ℕ) (bs : List (List ℕ)) (xs : List Sent)
    → (serve_frame z w k bs xs).values.client ≡ w.values.client
serve_client z w k [] xs = refl
serve_client z w k (b ∷ bs) [] = refl
serve_client z w k (b ∷ bs) (x ∷ xs) = let S = step_at z w k b in by_end_client w k bs xs x S S.ends

pub served_client : (z : WorldSettings) (w : World) (k : ℕ) → (bytes_happen z w (Plain (Serve k))).values.client ≡ w.values.client
served_client z w k =
    either (λ (v : World). v.values.client ≡ w.values.client) (is_possible w.values (Serve k)) (bytes_later (bytes_changed z w (Serve k)) 1) w
    (λ _. serve_client z w k (w.wires k).up (w.values.conns k).up) (λ _. refl)

pub up_rests : (z : WorldSettings) (r : RepeatWorld) (k : ℕ) (u : UpFrame) → is_served r.world k ≡ true
    → Rests r.world (given_up z r k u).world k × PutsMore r (given_up z r k u)
up_rests z r k u on =
    let v = loaded_up r k u in
    let w = bytes_happen z v (Plain (Serve k)) in
    let q = serve_empties z r k u on in
    let none : new_ups w k (r.openings k) ≡ [] =
    ap (λ ys. puts_up k (r.openings k) (w.wires k).up ys) ((q k).1 (λ off. never_apart k _ off)) ∙ put_none k (r.openings k) (w.wires k).up in
    let alike : Alike r.world (given_up z r k u).world = record {
      client = served_client z v k;
      ends = λ j. ends_put w.wires k _ refl j ∙ (served_ends z v k j ∙ ends_put r.world.wires k _ refl j);
      accepted = (up_recalls z r k u).2;
    } in (
      rests_alike r.world r.world r.world (given_up z r k u).world k (alike_self r.world) alike
          (record { names = names_self r.world.values.client; talked = talked_self r.world.wires }),
      record {
        more = [];
        ups = ap (λ us. r.ups ++ us) none;
        named = λ i x at. absurd (let q : None ≡ Some x = at in cc);
      },
    )

-- ---- an event that uses no list

pub record Stays (w u : World) (k : ℕ) : Type 0 where
  pub rests : Rests w u k
  pub puts : Puts w.values.client (u.wires k).up

greets_not : (z : WorldSettings) (salt : List ℕ) (m : Message) → AsksSession (greeting_text z.client salt m) → ⊥
greets_not z salt m a = absurd (let q : 0 ≡ 1 = sym (greeting_command z salt m (greeting_text z.client salt m) refl) ∙ a.command in cc)

no_negotiate : (b : Bool) → SaidNegotiate b ≡ SaidSecond false → ⊥
no_negotiate b e = absurd (cc)

open_stays : (z : WorldSettings) (w : World) (k : ℕ) → Stays w (opened_wires z w k) k
open_stays z w k =
    let c = w.values.client in
    let greeting = greeting_of z w k in
    let served = (step w.values.server w.values.moment (Accept k)).reply.status == success in
    let fresh = fresh_wires z w greeting served in
    record {
      rests = record {
        names = record { pending = refl; accepted = refl; ranks = record { rank = refl; count = refl }; seconds = seconds_put c.stage k (SaidNegotiate c.live) (no_negotiate c.live) };
        talked = talked_put w.wires k fresh (λ s. not_second fresh.client_end.stage (SaidNegotiate c.live) refl (no_negotiate c.live) _ s);
      };
      puts = subst (Puts c) (sym (ap (λ (v : Wires). v.up) (put_here w.wires k fresh)))
          (either (Puts c) served (greeting ∷ []) []
          (λ _. one_puts c [] greeting refl (λ bare a. absurd (greets_not z _ _ a))) (λ _. no_puts c [] refl));
    }

pushed_stays : (w : World) (k : ℕ) (c : Client) (a : Act) → (w.wires k).up ≡ [] → SameNames w.values.client c
    → Stays w (with_values (pushed_wires w k c a) (pushed_by w.values k c a)) k
pushed_stays w k c (Sends g) none names =
    let n = (w.wires k).client_end in
    record {
      rests = record { names = names; talked = talked_put w.wires k _ (λ e. (refl, e)) };
      puts = subst (Puts w.values.client) (sym (ap (λ (v : Wires). v.up) (put_here w.wires k _)))
          (one_puts w.values.client (w.wires k).up _ none
          (λ bare asks. line_puts n (own_message c k n.purse.next g) (charge (weight (c.op g))) _ bare asks));
    }
pushed_stays w k c (Asks g) none names =
    let n = (w.wires k).client_end in
    record {
      rests = record { names = names; talked = talked_put w.wires k _ (λ e. (refl, e)) };
      puts = subst (Puts w.values.client) (sym (ap (λ (v : Wires). v.up) (put_here w.wires k _)))
          (one_puts w.values.client (w.wires k).up _ none (λ bare asks. line_puts n (ask_message c k n.purse.next g) 1 _ bare asks));
    }
pushed_stays w k c Nothing none names =
    record { rests = record { names = names; talked = talked_self w.wires }; puts = no_puts w.values.client (w.wires k).up none }
pushed_stays w k c CloseChannel none names =
    record { rests = record { names = names; talked = talked_self w.wires }; puts = no_puts w.values.client (w.wires k).up none }
pushed_stays w k c CloseChannels none names =
    record { rests = record { names = names; talked = talked_self w.wires }; puts = no_puts w.values.client (w.wires k).up none }
pushed_stays w k c AllSettled none names =
    record { rests = record { names = names; talked = talked_self w.wires }; puts = no_puts w.values.client (w.wires k).up none }

push_stays : (w : World) (k : ℕ) (slotless : List ℕ) (pick : Option Pick) → (w.wires k).up ≡ [] → Stays w (pushed_with w k slotless pick) k
push_stays w k slotless pick none =
    let p = Pushes k slotless pick in
    let q = push_keeps w.values.client k slotless pick in
    pushed_stays w k (client_after w.values.client p) (act w.values.client p) none
    (record { pending = q.pending; accepted = q.accepted; ranks = push_ranks w.values.client k slotless pick; seconds = λ j e. ap (λ (f : ℕ → Stage). f j) (sym q.stage) ∙ e })

take_names : (c : Client) (g : ℕ) (op : Op) → SameNames c (client_after c (TakesOp g op))
take_names c g op =
    either (SameNames c) (may_take c g op) (take_op c g op) c (λ _. record { pending = refl; accepted = refl; ranks = record { rank = refl; count = refl }; seconds = λ j e. e }) (λ _. names_self c)

changed_stays : (z : WorldSettings) (w : World) (e : Event) → uses_no_list e ≡ true → (w.wires (own_connection e)).up ≡ []
    → Stays w (bytes_changed z w e) (own_connection e)
changed_stays z w (Submit g op) s none =
    record { rests = record { names = take_names w.values.client g op; talked = talked_self w.wires }; puts = no_puts w.values.client _ none }
changed_stays z w (Open k) s none = open_stays z w k
changed_stays z w (Push k slotless pick) s none = push_stays w k slotless (paid w k slotless pick) none
changed_stays z w (Serve k) s none = absurd (cc)
changed_stays z w (Take k) s none = absurd (cc)
changed_stays z w (Cut k) s none =
    record {
      rests = record { names = cut_names w k; talked = cut_talked w k };
      puts = no_puts w.values.client ((cut_wires w k).wires k).up (cut_up w k ∙ none);
    }
changed_stays z w (Drop k) s none =
    record {
      rests = record { names = names_self w.values.client; talked = talked_put w.wires k _ (λ e. (refl, e)) };
      puts = no_puts w.values.client _ (ap (λ (v : Wires). v.up) (put_here w.wires k _));
    }
changed_stays z w Restart s none =
    record {
      rests = record { names = names_self w.values.client; talked = λ j e. (refl, e) };
      puts = no_puts w.values.client [] refl;
    }
changed_stays z w (Crash k kept) s none = absurd (cc)
changed_stays z w (Wait n) s none = absurd (cc)
changed_stays z w (Finish refusal) s none = absurd (cc)

later_stays : (w u : World) (k n : ℕ) → Stays w u k → Stays w (bytes_later u n) k
later_stays w u k n h =
    record {
      rests = rests_alike w w u (bytes_later u n) k (alike_self w) (record { client = refl; ends = λ j. refl; accepted = refl }) h.rests;
      puts = h.puts;
    }

happen_stays : (z : WorldSettings) (w : World) (e : Event) → uses_no_list e ≡ true → (w.wires (own_connection e)).up ≡ []
    → Stays w (bytes_happen z w (Plain e)) (own_connection e)
happen_stays z w e s none =
    either (λ u. Stays w u (own_connection e)) (is_possible w.values e) (bytes_later (bytes_changed z w e) (moments e)) w
    (λ _. later_stays w (bytes_changed z w e) (own_connection e) (moments e) (changed_stays z w e s none))
    (λ _. record {
      rests = record { names = names_self w.values.client; talked = talked_self w.wires };
      puts = no_puts w.values.client (w.wires (own_connection e)).up none;
    })

pub same_rests : (z : WorldSettings) (r : RepeatWorld) (e : Event) → uses_no_list e ≡ true → (r.world.wires (own_connection e)).up ≡ []
    → Rests r.world (same_done z r e).world (own_connection e) × PutsMore r (same_done z r e)
same_rests z r e s none =
    let k = own_connection e in
    let w = bytes_happen z r.world (Plain e) in
    let h = happen_stays z r.world e s none in
    let o = (with_opening r e).openings in (
      rests_alike r.world r.world w (lists_as w k [] [] (is_heard w k)) k (alike_self r.world) (lists_alike w k (is_heard w k)) h.rests,
      record {
        more = new_ups w k (o k);
        ups = ap (λ us. us ++ new_ups w k (o k)) (opening_ups r e);
        named = put_names r.world.values.client k (o k) (w.wires k).up (w.values.conns k).up h.puts;
      },
    )
