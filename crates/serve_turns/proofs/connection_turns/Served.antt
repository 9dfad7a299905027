-- A connection that was served, from its parts.
use Rattle.std.proofs.Common.{◌≡◌, ℕ, Bool, true, false, List, [], ◌∷◌, ◌++◌}
use Rattle.std.proofs.Common.{Option, Some, None, inl, inr, refl, sym, ap, ◌∙◌, append_assoc}
use Rattle.std.proofs.Common.{subst, arith}
use Rattle.std.proofs.lemmas.List.{append-nil}
use Rattle.spec_world.specs.Ends.{first_server_end}
use Rattle.conn_core.specs.Shown.{ShowsEnd}
use Rattle.conn_core.specs.declared.end.ConnEnd.{ConnEnd}
use Rattle.conn_core.specs.declared.end.ConnEnd.TheVariants.{Memory}
use Rattle.conn_core.specs.frame_events.Dealing.{EventAnswer}
use Rattle.serve_turns.specs.connection_turns.Ending.{ended_by, ended_of, has_lost, refusal_of}
use Rattle.serve_turns.specs.connection_turns.Passing.{FramesStop, Stops}
use Rattle.serve_turns.specs.connection_turns.Serving.{IsTurnIdle, LetsGo, LetsGoBy, OnLink, OnLinkFrames, OnLinkTaken, Serves}
use Rattle.serve_turns.specs.connection_turns.Turning.{HearsOnce}
use Rattle.serve_turns.specs.declared.connection_turns.state.ConnectionState.{ConnectionState}
use Rattle.serve_turns.specs.declared.event_book.turn.Answer.{Answer}
use Rattle.serve_turns.specs.declared.event_book.turn.Turn.{Turn}
use Rattle.serve_turns.specs.declared.event_book.turn.What.TheVariants.{Accept, End}
use Rattle.serve_turns.specs.declared.link_serving.ended.Ended.{Ended}
use Rattle.serve_turns.specs.declared.shared_book.view.View.{View}
use Rattle.serve_turns.specs.event_book.History.{Placed}
use Rattle.serve_turns.specs.link_serving.Passage.{Passage, ServesOn}
use Rattle.serve_turns.proofs.connection_turns.Chains.{meet_front}
use Rattle.serve_turns.proofs.connection_turns.Linking.{passed_none}

idle : (f : ℕ) → IsTurnIdle [] [] f f
idle f = record { nothing_came = refl; nothing_written = refl; calm = refl }

module _ {B K : Type 0} (told : Type 0) (given left written : K → List ℕ) (faults : K → ℕ) (ended : K → Bool) where
  -- its frames, and the turn in which it was lost
  pub rest_served : (guid : List ℕ) (number : ℕ) (v u w : View B Turn Answer) (c : ConnectionState) (salt : List ℕ) (l n : K)
      (why : Option ConnEnd) (last : EventAnswer) (end : Ended) → ShowsEnd number guid c.conn (first_server_end salt) → c.setups ≡ 0
      → Stops told given left written faults ended v c [] l u n why → HearsOnce u (End number) last w → end ≡ ended_of why last
      → OnLinkTaken told given left written faults ended guid number v l end w n
  rest_served guid number v u w c salt l n why last end shows none stops hears is =
      record {
        came = stops.came;
        wrote = stops.wrote;
        passed = stops.passed;
        rest = record {
          turns = stops.turns ++ hears.turn ∷ [];
          own = hears.own ∙ ap (λ (l : List Placed). l ++ hears.turn ∷ []) stops.own
              ∙ append_assoc v.own stops.turns (hears.turn ∷ []);
          by = λ z h made server is_made taken meets.
              let guided : ShowsEnd c.conn.id z.guid c.conn (first_server_end salt) =
              subst (λ (g : List ℕ). ShowsEnd c.conn.id g c.conn (first_server_end salt)) (sym server)
              (subst (λ (i : ℕ). ShowsEnd i guid c.conn (first_server_end salt)) (sym shows.number) shows) in
              let frames = stops.stops z h (first_server_end salt) (meet_front z h stops.turns (hears.turn ∷ []) meets) guided
              (omega arith) in
              let own = subst (λ (i : ℕ). FramesStop z h i (first_server_end salt) 0 stops.turns [] stops.came stops.wrote (faults l)
              (faults n) (ended n) why frames.0) shows.number
              (subst (λ (i : ℕ). FramesStop z h c.conn.id (first_server_end salt) i stops.turns [] stops.came stops.wrote (faults l)
              (faults n) (ended n) why frames.0) none frames.1) in (
                frames.0,
                inl (record {
                  salt = salt;
                  made = made;
                  turns = stops.turns;
                  lost = hears.turn;
                  own_are = refl;
                  is_made = is_made;
                  taken_in = taken;
                  is_lost = hears.is;
                  why = why;
                  frames = own;
                  end_is = is ∙ ap (λ (o : EventAnswer). ended_of why o) (sym hears.replied);
                }),
              );
        };
      }

  -- there was no room for its state
  pub rest_lacked : (guid : List ℕ) (number : ℕ) (v w : View B Turn Answer) (l : K) (last : EventAnswer) (end : Ended)
      → HearsOnce v (End number) last w → end ≡ ended_of (Some Memory) last
      → OnLinkTaken told given left written faults ended guid number v l end w l
  rest_lacked guid number v w l last end hears is =
      record {
        came = [];
        wrote = [];
        passed = passed_none told given left written l;
        rest = record {
          turns = hears.turn ∷ [];
          own = hears.own;
          by = λ z h made server is_made taken meets. (
            [],
            inr (inl (record {
              made = made;
              lost = hears.turn;
              own_are = refl;
              is_made = is_made;
              taken_in = taken;
              is_lost = hears.is;
              idle = idle (faults l);
              end_is = is;
              none_sealed = refl;
            })),
          );
        };
      }

  -- either of both
  pub rest_by : (guid : List ℕ) (number : ℕ) (v u w : View B Turn Answer) (l n : K) (why : Option ConnEnd) (last : EventAnswer)
      (end : Ended) → OnLinkFrames told given left written faults ended guid number v l why u n → HearsOnce u (End number) last w
      → end ≡ ended_of why last → OnLinkTaken told given left written faults ended guid number v l end w n
  rest_by guid number v u w l n why last end (inl (c, salt, shows, none, stops)) hears is =
      rest_served guid number v u w c salt l n why last end shows none stops hears is
  rest_by guid number v u w l n why last end (inr (lacks, seat, link)) hears is =
      subst (λ (x : K). OnLinkTaken told given left written faults ended guid number v l end w x) (sym link)
      (rest_lacked guid number v w l last end (subst (λ (x : View B Turn Answer). HearsOnce x (End number) last w) seat hears)
      (is ∙ ap (λ (o : Option ConnEnd). ended_of o last) lacks))

  -- behind the turn that took it in
  pub taken_served : (guid : List ℕ) (number : ℕ) (v u w : View B Turn Answer) (l n : K) (first : EventAnswer) (end : Ended)
      → HearsOnce v (Accept number) first u → refusal_of first ≡ None
      → OnLinkTaken told given left written faults ended guid number u l end w n
      → OnLink told given left written faults ended guid number v l end w n
  taken_served guid number v u w l n first end hears taken h =
      record {
        came = h.came;
        wrote = h.wrote;
        passed = h.passed;
        served = record {
          turns = hears.turn ∷ h.rest.turns;
          own = h.rest.own ∙ ap (λ (l : List Placed). l ++ h.rest.turns) hears.own
              ∙ append_assoc v.own (hears.turn ∷ []) h.rest.turns;
          by = λ z p server meets. h.rest.by z p hears.turn server hears.is
              (ap (λ (o : EventAnswer). refusal_of o) hears.replied ∙ taken) meets.1;
        };
      }

  -- it was not taken in
  pub refused_served : (guid : List ℕ) (number : ℕ) (v w : View B Turn Answer) (l : K) (first : EventAnswer) (why : ConnEnd) (end : Ended)
      → HearsOnce v (Accept number) first w → refusal_of first ≡ Some why → has_lost first ≡ false → end ≡ ended_by why
      → OnLink told given left written faults ended guid number v l end w l
  refused_served guid number v w l first why end hears refused kept is =
      record {
        came = [];
        wrote = [];
        passed = passed_none told given left written l;
        served = record {
          turns = hears.turn ∷ [];
          own = hears.own;
          by = λ z p server meets. (
            [],
            inr (inr (inl (record {
              made = hears.turn;
              behind = [];
              own_are = refl;
              is_made = hears.is;
              why = why;
              refused = ap (λ (o : EventAnswer). refusal_of o) hears.replied ∙ refused;
              none_behind = λ none. refl;
              one_behind = λ lost. absurd (not_both (has_lost hears.turn.1.reply.reply) lost
                  (ap (λ (o : EventAnswer). has_lost o) hears.replied ∙ kept));
              idle = idle (faults l);
              end_is = is;
              none_sealed = refl;
            }))),
          );
        };
      }
    where
      not_both : (b : Bool) → b ≡ true → b ≡ false → ⊥
      not_both true p q = absurd cc
      not_both false p q = absurd cc

  pub lost_served : (guid : List ℕ) (number : ℕ) (v u w : View B Turn Answer) (l : K) (first last : EventAnswer) (why : ConnEnd)
      (end : Ended) → HearsOnce v (Accept number) first u → refusal_of first ≡ Some why → has_lost first ≡ true
      → HearsOnce u (End number) last w → end ≡ ended_by why → OnLink told given left written faults ended guid number v l end w l
  lost_served guid number v u w l first last why end hears refused lost gone is =
      record {
        came = [];
        wrote = [];
        passed = passed_none told given left written l;
        served = record {
          turns = hears.turn ∷ (gone.turn ∷ []);
          own = gone.own ∙ ap (λ (l : List Placed). l ++ gone.turn ∷ []) hears.own
              ∙ append_assoc v.own (hears.turn ∷ []) (gone.turn ∷ []);
          by = λ z p server meets. (
            [],
            inr (inr (inl (record {
              made = hears.turn;
              behind = gone.turn ∷ [];
              own_are = refl;
              is_made = hears.is;
              why = why;
              refused = ap (λ (o : EventAnswer). refusal_of o) hears.replied ∙ refused;
              none_behind = λ none. absurd (not_both (has_lost hears.turn.1.reply.reply)
                  (ap (λ (o : EventAnswer). has_lost o) hears.replied ∙ lost) none);
              one_behind = λ yes. (gone.turn, refl, gone.is);
              idle = idle (faults l);
              end_is = is;
              none_sealed = refl;
            }))),
          );
        };
      }
    where
      not_both : (b : Bool) → b ≡ true → b ≡ false → ⊥
      not_both true p q = absurd cc
      not_both false p q = absurd cc

  let_go_by : (guid : List ℕ) (number : ℕ) (v u w : View B Turn Answer) (l : K) (first : EventAnswer) (why : ConnEnd) (end : Ended)
      (lost : Bool) → has_lost first ≡ lost → HearsOnce v (Accept number) first u → refusal_of first ≡ Some why → LetsGoBy lost number u w
      → end ≡ ended_by why → OnLink told given left written faults ended guid number v l end w l
  let_go_by guid number v u w l first why end true lost hears refused goes is =
      lost_served guid number v u w l first goes.0 why end hears refused lost goes.1 is
  let_go_by guid number v u w l first why end false kept hears refused goes is =
      refused_served guid number v w l first why end
      (subst (λ (x : View B Turn Answer). HearsOnce v (Accept number) first x) (sym goes) hears) refused kept is

  pub let_go : (guid : List ℕ) (number : ℕ) (v u w : View B Turn Answer) (l : K) (first : EventAnswer) (why : ConnEnd) (end : Ended)
      → HearsOnce v (Accept number) first u → refusal_of first ≡ Some why → LetsGo number first u w → end ≡ ended_by why
      → OnLink told given left written faults ended guid number v l end w l
  let_go guid number v u w l first why end hears refused goes is =
      let_go_by guid number v u w l first why end (has_lost first) refl hears refused goes is

  -- a link that hears of its connection's end gives and takes nothing then
  pub serves_by : (serves : ℕ → Passage → View B Turn Answer → Ended → View B Turn Answer → Type 0) (place : ℕ) (guid : List ℕ)
      (number : ℕ) (v w : View B Turn Answer) (l m n : K) (end : Ended)
      → ((p : Passage) → Serves guid number p v end w → serves place p v end w)
      → OnLink told given left written faults ended guid number v l end w m →
      (told → (left n ≡ left m) × (given n ≡ given m) × (written n ≡ written m))
      → ended n ≡ ended m → faults n ≡ faults m → ServesOn told given left written faults ended serves place v l end w n
  serves_by serves place guid number v w l m n end is h still open_still calm =
      record {
        passage = record {
          came = h.came;
          wrote = h.wrote;
          faults = faults l;
          faults' = faults m;
          ended = ended m;
        };
        passes = record {
          bytes = record {
            given_is = λ t. (still t).1 ∙ h.passed.given_is t;
            left_is = λ t. h.passed.left_is t ∙ ap (λ (z : List ℕ). h.came ++ z) (sym (still t).0);
            written_is = λ t. (still t).2 ∙ h.passed.written_is t;
          };
          before = refl;
          behind = sym calm;
          closed = sym open_still;
        };
        served = is (record { came = h.came; wrote = h.wrote; faults = faults l; faults' = faults m; ended = ended m }) h.served;
      }

  -- a link that was let go with no turn
  pub serves_none : (serves : ℕ → Passage → View B Turn Answer → Ended → View B Turn Answer → Type 0) (place : ℕ) (guid : List ℕ)
      (number : ℕ) (v : View B Turn Answer) (l n : K) (end : Ended)
      → ((p : Passage) → Serves guid number p v end v → serves place p v end v) → end ≡ ended_by Memory
      → (told → (left n ≡ left l) × (given n ≡ given l) × (written n ≡ written l)) → faults n ≡ faults l
      → ServesOn told given left written faults ended serves place v l end v n
  serves_none serves place guid number v l n end as_served is still calm =
      record {
        passage = record {
          came = [];
          wrote = [];
          faults = faults l;
          faults' = faults n;
          ended = ended n;
        };
        passes = record {
          bytes = record {
            given_is = λ t. (still t).1 ∙ sym (append-nil (given l));
            left_is = λ t. sym (still t).0;
            written_is = λ t. (still t).2 ∙ sym (append-nil (written l));
          };
          before = refl;
          behind = refl;
          closed = refl;
        };
        served = as_served (record { came = []; wrote = []; faults = faults l; faults' = faults n; ended = ended n }) (record {
          turns = [];
          own = sym (append-nil v.own);
          by = λ z h server meets. (
            [],
            inr (inr (inr (record {
              none = refl;
              idle = record { nothing_came = refl; nothing_written = refl; calm = calm };
              end_is = is;
              none_sealed = refl;
            }))),
          );
        });
      }
