-- What a channel seals on a link from its first message to its last.
use Rattle.std.proofs.Common.{◌≡◌, ◌⊎◌, ℕ, zero, suc, ◌+◌, ◌≤◌, Bool, true, false, if◌then◌else◌, List, [], ◌∷◌, ◌++◌, Some, None}
use Rattle.std.proofs.Common.{inl, inr, refl, sym, ap, subst, ◌∙◌, arith, length, append_assoc, length-append}
use Rattle.std.specs.Prelude.{is_some, slice_get, Option as Perhaps}
use Rattle.spec_crypto.specs.declared.sessions.material.Keys.{Keys}
use Rattle.wire_bytes.specs.declared.session_messages.refusal.Refusal.{Refusal as DialogRefusal}
use Rattle.client_ends.specs.declared.ends.config.Bound.{Bound}
use Rattle.client_ends.specs.declared.ends.dialog.Dialog.{Dialog}
use Rattle.client_ends.specs.declared.ends.line.Line.{Line}
use Rattle.client_ends.specs.declared.line_calls.incoming.Answer.{Answer}
use Rattle.client_book.specs.Steps.{is_nothing}
use Rattle.client_book.specs.declared.turn.Told.{Told}
use Rattle.client_book.specs.declared.turn.Told.TheVariants as tells
use Rattle.client_book.specs.declared.turn.Turn.TheVariants as turns
use Rattle.client_channels.specs.channel_turns.Asides.{AsideBy, AsideKind, AsidesIn, DialogTakes, GoesOn, HasTurn, Lacks}
use Rattle.client_channels.specs.channel_turns.Asides.{Moves, Takes, TakesOrLoses}
use Rattle.client_channels.specs.channel_turns.Links.{GivesNoMore, IsAside, Loses, On, Reads, StepBy, StepKind, StepsIn, TakesFrame}
use Rattle.client_channels.specs.channel_turns.Links.{Writes, WritesPart, on}
use Rattle.client_channels.specs.channel_turns.Rounds.{bound_in}
use Rattle.client_channels.specs.channel_turns.Sealings.{Sealing, sealed_by, sealed_on_link, sealed_said}
use Rattle.client_channels.specs.channel_turns.Sides.{Accepts, Breaks, Ends, Finishes, Hears, IsDenied, IsReady, IsStale, Joins, Leaves, Lost}
use Rattle.client_channels.specs.channel_turns.Sides.{Runs, Says, Sends, Side, TakesTurn, Talks, behind_hear, behind_push, behind_ready}
use Rattle.client_channels.specs.channel_turns.Sides.{behind_refused, is_stop, over, unless_stopped}
use Rattle.client_channels.specs.channel_turns.Turning.{Placed}
use Rattle.client_channels.specs.declared.channel_turns.starting.Aim.{Aim}
use Rattle.client_channels.specs.declared.channel_turns.starting.Aim.TheVariants as aims
use Rattle.client_channels.proofs.channel_turns.Sealed.{Accepting, Comes, Front, IsBoundTo, Late, Mark, Rises, early_talks, late_heard}
use Rattle.client_channels.proofs.channel_turns.Sealed.{early_said, late_joins, late_sends, late_talks, late_writes, rises_on}

-- ---- sides behind which nothing is said

abbrev IsDone : Side → Type 0
IsDone (IsDenied why) = Unit {0}
IsDone (Finishes why) = Unit {0}
IsDone IsStale = Unit {0}
IsDone Leaves = Unit {0}
IsDone Breaks = Unit {0}
IsDone Lost = Unit {0}
IsDone Ends = Unit {0}
IsDone _ = ⊥

front_done : (a : Aim) (s : Side) → IsDone s → Front a s
front_done a (Says message s) h = absurd h
front_done a (Talks d) h = absurd h
front_done a (Joins d) h = absurd h
front_done a (Accepts keys message d) h = absurd h
front_done a (IsReady l session tree) h = absurd h
front_done a (IsDenied why) h = tt
front_done a (Finishes why) h = tt
front_done a IsStale h = tt
front_done a Leaves h = tt
front_done a (Runs l) h = absurd h
front_done a (Sends l r) h = absurd h
front_done a (Hears l b) h = absurd h
front_done a Breaks h = tt
front_done a Lost h = tt
front_done a Ends h = tt

late_done : (m : Mark) (s : Side) (c : ℕ) → IsDone s → Late m s c
late_done m (Says message s) c h = absurd h
late_done m (Talks d) c h = absurd h
late_done m (Joins d) c h = absurd h
late_done m (Accepts keys message d) c h = absurd h
late_done m (IsReady l session tree) c h = absurd h
late_done m (IsDenied why) c h = tt
late_done m (Finishes why) c h = tt
late_done m IsStale c h = tt
late_done m Leaves c h = tt
late_done m (Runs l) c h = absurd h
late_done m (Sends l r) c h = absurd h
late_done m (Hears l b) c h = absurd h
late_done m Breaks c h = tt
late_done m Lost c h = tt
late_done m Ends c h = tt

over_done : (s : Side) → IsDone (over s)
over_done (Says message s) = tt
over_done (Talks d) = tt
over_done (Joins d) = tt
over_done (Accepts keys message d) = tt
over_done (IsReady l session tree) = tt
over_done (IsDenied why) = tt
over_done (Finishes why) = tt
over_done IsStale = tt
over_done Leaves = tt
over_done (Runs l) = tt
over_done (Sends l r) = tt
over_done (Hears l b) = tt
over_done Breaks = tt
over_done Lost = tt
over_done Ends = tt

-- ---- turns of a channel

-- it stands among these turns, behind the older ones
pub record Among (older own : List Placed) (p : Placed) : Type 0 where
  pub place : ℕ
  pub behind : length older ≤ place
  pub stands : slice_get own place ≡ Some p

pub get_on : {X : Type 0} (xs ys : List X) (i : ℕ) (x : X) → slice_get xs i ≡ Some x → slice_get (xs ++ ys) i ≡ Some x
get_on {X} [] ys i x e = absurd (let both : false ≡ true = ap (λ (o : Perhaps X). is_some o) e in cc)
get_on {X} (a ∷ bs) ys zero x e = e
get_on {X} (a ∷ bs) ys (suc i) x e = get_on bs ys i x e

pub get_last : {X : Type 0} (xs : List X) (x : X) → slice_get (xs ++ x ∷ []) (length xs) ≡ Some x
get_last {X} [] x = refl
get_last {X} (a ∷ bs) x = get_last bs x

among_on : (older own more : List Placed) (p : Placed) → Among older own p → Among older (own ++ more) p
among_on older own more p h = record { place = h.place; behind = h.behind; stands = get_on own more h.place p h.stands }

-- more turns stand behind these
abbrev pub Grown : List Placed → List Placed → Type 0
Grown own own' = (more : List Placed) × (own' ≡ own ++ more)

pub grown_none : (own : List Placed) → Grown own own
grown_none own = ([], sym (none_more own))
  where
    none_more : (xs : List Placed) → xs ++ [] ≡ xs
    none_more [] = refl
    none_more (x ∷ xs) = ap (λ (ys : List Placed). x ∷ ys) (none_more xs)

pub grown_on : (a b c : List Placed) → Grown a b → Grown b c → Grown a c
grown_on a b c (more, is) (most, also) =
    (more ++ most, also ∙ (ap (λ (xs : List Placed). xs ++ most) is ∙ append_assoc a more most))

pub grown_length : (a b : List Placed) → Grown a b → length a ≤ length b
grown_length a b (more, is) =
    let long : length b ≡ length a + length more = ap (λ (xs : List Placed). length xs) is ∙ length-append a more in omega (arith, long)

among_grown : (older own own' : List Placed) (p : Placed) → Grown own own' → Among older own p → Among older own' p
among_grown older own own' p (more, is) h =
    subst (λ (xs : List Placed). Among older xs p) (sym is) (among_on older own more p h)

-- the turn in which the client is told of the session whose key a mark has
pub record Accepted (older own : List Placed) (m : Mark) : Type 0 where
  pub turn : Placed
  pub among : Among older own turn
  pub session : ℕ
  pub keys : Keys
  pub event : turn.1.event ≡ turns.Accept session keys
  pub key : m.key ≡ keys.to_server
  pub number : m.number ≡ 1

abbrev pub Source : Aim → List Placed → List Placed → Mark → Type 0
Source (aims.Make previous) older own m = Accepted older own m
Source (aims.Bind b number) older own m = IsBoundTo (aims.Bind b number) m

source_grown : (a : Aim) (older own own' : List Placed) (m : Mark) → Grown own own' → Source a older own m → Source a older own' m
source_grown (aims.Make previous) older own own' m g h = record {
  turn = h.turn;
  among = among_grown older own own' h.turn g h.among;
  session = h.session;
  keys = h.keys;
  event = h.event;
  key = h.key;
  number = h.number;
}
source_grown (aims.Bind b number) older own own' m g h = h

source_bound : (a : Aim) (older own : List Placed) (m : Mark) → IsBoundTo a m → Source a older own m
source_bound (aims.Make previous) older own m h = absurd h
source_bound (aims.Bind b number) older own m h = h

source_made : (a : Aim) (older own : List Placed) (m : Mark) → bound_in a ≡ None → Accepted older own m → Source a older own m
source_made (aims.Make previous) older own m e h = h
source_made (aims.Bind b number) older own m e h =
    absurd (let both : true ≡ false = ap (λ (o : Perhaps Bound). is_some o) e in cc)

-- ---- how far a link has come

abbrev pub Went : Aim → List Placed → List Placed → List Sealing → Side → Type 0
Went a older own xs s =
    (Front a s × (xs ≡ [])) ⊎ ((m : Mark) × Accepting a m s × (xs ≡ []))
    ⊎ ((m : Mark) × (c : ℕ) × Late m s c × Rises m 0 c xs × Source a older own m)

went_grown : (a : Aim) (older own own' : List Placed) (xs : List Sealing) (s : Side) → Grown own own' → Went a older own xs s
    → Went a older own' xs s
went_grown a older own own' xs s g (inl h) = inl h
went_grown a older own own' xs s g (inr (inl h)) = inr (inl h)
went_grown a older own own' xs s g (inr (inr (m, c, late, rises, source))) =
    inr (inr (m, c, late, rises, source_grown a older own own' m g source))

went_done : (a : Aim) (older own : List Placed) (xs : List Sealing) (s t : Side) → IsDone t → Went a older own xs s → Went a older own xs t
went_done a older own xs s t done (inl (front, none)) = inl (front_done a t done, none)
went_done a older own xs s t done (inr (inl (m, accepting, none))) = inl (front_done a t done, none)
went_done a older own xs s t done (inr (inr (m, c, late, rises, source))) = inr (inr (m, c, late_done m t c done, rises, source))

-- a late side goes on
went_late : (a : Aim) (older own : List Placed) (xs : List Sealing) (s t : Side) → (Front a s → ⊥) → ((m : Mark) → Accepting a m s → ⊥)
    → ((m : Mark) (c : ℕ) → Late m s c → Late m t c) → Went a older own xs s → Went a older own xs t
went_late a older own xs s t front accepting on (inl (h, none)) = absurd (front h)
went_late a older own xs s t front accepting on (inr (inl (m, h, none))) = absurd (accepting m h)
went_late a older own xs s t front accepting on (inr (inr (m, c, late, rises, source))) = inr (inr (m, c, on m c late, rises, source))

-- ---- what comes

went_comes : (a : Aim) (older own : List Placed) (xs : List Sealing) (s : Side) → xs ≡ [] → Comes a s → Went a older own xs s
went_comes a older own xs s none (inl h) = inl (h, none)
went_comes a older own xs s none (inr (inl (m, h))) = inr (inl (m, h, none))
went_comes a older own xs s none (inr (inr (m, late, bound))) =
    inr (inr (m, 0, late, subst (λ (ys : List Sealing). Rises m 0 0 ys) (sym none) (omega arith), source_bound a older own m bound))

talks_on : (a : Aim) (older own : List Placed) (xs : List Sealing) (d : Dialog) (message : List ℕ) (s : Side) → DialogTakes a d message s
    → Went a older own xs (Talks d) → Went a older own xs s
talks_on a older own xs d message s takes (inl (early, none)) =
    went_comes a older own xs s none (early_talks a d message s early takes)
talks_on a older own xs d message s takes (inr (inl (m, h, none))) = absurd h
talks_on a older own xs d message s takes (inr (inr (m, c, late, rises, source))) =
    inr (inr (m, c, late_talks m a d message s c late takes, rises, source))

takes_on : (a : Aim) (older own : List Placed) (xs : List Sealing) (s t : Side) (message : List ℕ) → Takes a s message t
    → Went a older own xs s → Went a older own xs t
takes_on a older own xs (Talks d) t message takes h = talks_on a older own xs d message t takes h
takes_on a older own xs (Runs l) t message takes h =
    went_late a older own xs (Runs l) t (λ f. f) (λ m f. f) (λ m c late. late_heard m l message t c late.0 late.1 takes) h
takes_on a older own xs (Says said s) t message takes h = absurd takes
takes_on a older own xs (Joins d) t message takes h = absurd takes
takes_on a older own xs (Accepts keys said d) t message takes h = absurd takes
takes_on a older own xs (IsReady l session tree) t message takes h = absurd takes
takes_on a older own xs (IsDenied why) t message takes h = absurd takes
takes_on a older own xs (Finishes why) t message takes h = absurd takes
takes_on a older own xs IsStale t message takes h = absurd takes
takes_on a older own xs Leaves t message takes h = absurd takes
takes_on a older own xs (Sends l r) t message takes h = absurd takes
takes_on a older own xs (Hears l b) t message takes h = absurd takes
takes_on a older own xs Breaks t message takes h = absurd takes
takes_on a older own xs Lost t message takes h = absurd takes
takes_on a older own xs Ends t message takes h = absurd takes

heard_on : (a : Aim) (older own : List Placed) (xs : List Sealing) (s t : Side) (message : List ℕ) → TakesOrLoses a s message t
    → Went a older own xs s → Went a older own xs t
heard_on a older own xs s t message (inl takes) h = takes_on a older own xs s t message takes h
heard_on a older own xs s t message (inr is) h =
    subst (λ (u : Side). Went a older own xs u) (sym is) (went_done a older own xs s Lost tt h)

-- ---- what it does by itself

moves_on : (a : Aim) (older own : List Placed) (xs : List Sealing) (s t : Side) → GoesOn a s t → Went a older own xs s
    → Went a older own xs t
moves_on a older own xs (Joins d) t goes h =
    went_late a older own xs (Joins d) t (λ f. f) (λ m f. f) (λ m c late. late_joins m a d t c late goes) h
moves_on a older own xs (Sends l r) t goes h =
    went_late a older own xs (Sends l r) t (λ f. f) (λ m f. f) (λ m c late. late_sends m l r t c late.0 late.1 goes) h
moves_on a older own xs (Says said s) t goes h = absurd goes
moves_on a older own xs (Talks d) t goes h = absurd goes
moves_on a older own xs (Accepts keys said d) t goes h = absurd goes
moves_on a older own xs (IsReady l session tree) t goes h = absurd goes
moves_on a older own xs (IsDenied why) t goes h = absurd goes
moves_on a older own xs (Finishes why) t goes h = absurd goes
moves_on a older own xs IsStale t goes h = absurd goes
moves_on a older own xs Leaves t goes h = absurd goes
moves_on a older own xs (Runs l) t goes h = absurd goes
moves_on a older own xs (Hears l b) t goes h = absurd goes
moves_on a older own xs Breaks t goes h = absurd goes
moves_on a older own xs Lost t goes h = absurd goes
moves_on a older own xs Ends t goes h = absurd goes

-- ---- its turns

stop_or : (stop : Bool) (a : Aim) (older own : List Placed) (xs : List Sealing) (s t : Side) → Went a older own xs s → Went a older own xs t
    → Went a older own xs (if stop then Ends else t)
stop_or true a older own xs s t h g = went_done a older own xs s Ends tt h
stop_or false a older own xs s t h g = g

-- the client is told of a session: from there on all is sealed under its key
accept_turn : (a : Aim) (older own own' : List Placed) (xs : List Sealing) (keys : Keys) (message : List ℕ) (d : Dialog) (p : Placed)
    → p.1.event ≡ turns.Accept d.session keys → Grown older own → own' ≡ own ++ p ∷ [] → Went a older own xs (Accepts keys message d)
    → Went a older own' xs (Says message (Talks d))
accept_turn a older own own' xs keys message d p event g is (inl (front, none)) = absurd front
accept_turn a older own own' xs keys message d p event g is (inr (inl (m, (make, key, number, asked, has, said), none))) =
    let among : Among older own' p = record {
      place = length own;
      behind = grown_length older own g;
      stands = subst (λ (ys : List Placed). slice_get ys (length own) ≡ Some p) (sym is) (get_last own p);
    } in
    inr (inr (
      m,
      0,
      (asked, has, said),
      subst (λ (ys : List Sealing). Rises m 0 0 ys) (sym none) (omega arith),
      source_made a older own' m make (record {
        turn = p;
        among = among;
        session = d.session;
        keys = keys;
        event = event;
        key = key;
        number = number;
      }),
    ))
accept_turn a older own own' xs keys message d p event g is (inr (inr (m, c, late, rises, source))) = absurd late

ready_turn : (nothing stop : Bool) (a : Aim) (older own : List Placed) (xs : List Sealing) (l : Line) (session tree : ℕ)
    → Went a older own xs (IsReady l session tree) → Went a older own xs (if nothing then Runs l else if stop then Ends else IsStale)
ready_turn true stop a older own xs l session tree h =
    went_late a older own xs (IsReady l session tree) (Runs l) (λ f. f) (λ m f. f) (λ m c late. late) h
ready_turn false true a older own xs l session tree h = went_done a older own xs (IsReady l session tree) Ends tt h
ready_turn false false a older own xs l session tree h = went_done a older own xs (IsReady l session tree) IsStale tt h

hear_turn : (nothing : Bool) (a : Aim) (older own : List Placed) (xs : List Sealing) (l : Line) (b : Answer)
    → Went a older own xs (Hears l b) → Went a older own xs (if nothing then Runs l else Ends)
hear_turn true a older own xs l b h = went_late a older own xs (Hears l b) (Runs l) (λ f. f) (λ m f. f) (λ m c late. late) h
hear_turn false a older own xs l b h = went_done a older own xs (Hears l b) Ends tt h

push_turn : (told : Told) (a : Aim) (older own : List Placed) (xs : List Sealing) (l : Line) → Went a older own xs (Runs l)
    → Went a older own xs (behind_push told l)
push_turn tells.Nothing a older own xs l h = h
push_turn (tells.Make previous) a older own xs l h = went_done a older own xs (Runs l) Ends tt h
push_turn (tells.Bind bound number) a older own xs l h = went_done a older own xs (Runs l) Ends tt h
push_turn (tells.Send r) a older own xs l h =
    went_late a older own xs (Runs l) (Sends l r) (λ f. f) (λ m f. f) (λ m c late. late) h
push_turn tells.Close a older own xs l h = went_done a older own xs (Runs l) Ends tt h
push_turn tells.Done a older own xs l h = went_done a older own xs (Runs l) Ends tt h
push_turn tells.Stop a older own xs l h = went_done a older own xs (Runs l) Ends tt h

refused_done : (a : Aim) (why : DialogRefusal) → IsDone (behind_refused a why)
refused_done (aims.Make previous) why = tt
refused_done (aims.Bind bound number) why = tt

turn_on : (a : Aim) (k : ℕ) (older own own' : List Placed) (xs : List Sealing) (s t : Side) (p : Placed) → Grown older own
    → own' ≡ own ++ p ∷ [] → TakesTurn a k s p.1.event p.1.reply t → Went a older own xs s → Went a older own' xs t
turn_on a k older own own' xs s t p g is takes h = by s takes h
  where
    grown : Grown own own'
    grown = (p ∷ [], is)

    to : (u : Side) → t ≡ u → Went a older own xs u → Went a older own' xs t
    to u e w = subst (λ (v : Side). Went a older own' xs v) (sym e) (went_grown a older own own' xs u grown w)

    by : (u : Side) → TakesTurn a k u p.1.event p.1.reply t → Went a older own xs u → Went a older own' xs t
    by (Accepts keys message d) (event, e) w =
        subst (λ (v : Side). Went a older own' xs v) (sym e)
        (stop_or (is_stop p.1.reply) a older own' xs (Says message (Talks d)) (Says message (Talks d))
        (accept_turn a older own own' xs keys message d p event g is w) (accept_turn a older own own' xs keys message d p event g is w))
    by (IsReady l session tree) (event, e) w =
        to (behind_ready p.1.reply l) e (ready_turn (is_nothing p.1.reply) (is_stop p.1.reply) a older own xs l session tree w)
    by (IsDenied why) (event, e) w =
        to (unless_stopped p.1.reply (behind_refused a why)) e
        (stop_or (is_stop p.1.reply) a older own xs (IsDenied why) (behind_refused a why) w
        (went_done a older own xs (IsDenied why) (behind_refused a why) (refused_done a why) w))
    by (Finishes why) (event, e) w = to Ends e (went_done a older own xs (Finishes why) Ends tt w)
    by IsStale (event, e) w = to Ends e (went_done a older own xs IsStale Ends tt w)
    by Leaves (event, e) w = to Ends e (went_done a older own xs Leaves Ends tt w)
    by (Runs l) (event, e) w = to (behind_push p.1.reply l) e (push_turn p.1.reply a older own xs l w)
    by (Hears l b) (event, e) w = to (behind_hear p.1.reply l) e (hear_turn (is_nothing p.1.reply) a older own xs l b w)
    by Breaks (event, e) w = to Ends e (went_done a older own xs Breaks Ends tt w)
    by (Says message u) takes' w = absurd takes'
    by (Talks d) takes' w = absurd takes'
    by (Joins d) takes' w = absurd takes'
    by (Sends l r) takes' w = absurd takes'
    by Lost takes' w = absurd takes'
    by Ends takes' w = absurd takes'

-- ---- any number of these

abbrev pub Stands : Aim → List Placed → List Placed → List Sealing → Side → Type 0
Stands a older own xs s = Grown older own × Went a older own xs s

aside_on : (a : Aim) (k : ℕ) (kind : AsideKind) (older own own' : List Placed) (xs : List Sealing) (s t : Side)
    → AsideBy a k kind s own t own' → Stands a older own xs s → Stands a older own' xs t
aside_on a k Moves older own own' xs s t (goes, is) (g, h) =
    subst (λ (ys : List Placed). Stands a older ys xs t) (sym is) (g, moves_on a older own xs s t goes h)
aside_on a k HasTurn older own own' xs s t step (g, h) = (
  grown_on older own own' g (step.placed ∷ [], step.own_is),
  turn_on a k older own own' xs s t step.placed g step.own_is step.takes h,
)
aside_on a k Lacks older own own' xs s t step (g, h) = (
  grown_on older own own' g (step.placed ∷ [], step.own_is),
  subst (λ (u : Side). Went a older own' xs u) (sym step.side)
      (went_grown a older own own' xs Ends (step.placed ∷ [], step.own_is) (went_done a older own xs s Ends tt h)),
)

asides_stand : (a : Aim) (k n : ℕ) (older own own' : List Placed) (xs : List Sealing) (s t : Side) → AsidesIn a k n s own t own'
    → Stands a older own xs s → Stands a older own' xs t
asides_stand a k zero older own own' xs s t (side, turns) h =
    subst (λ (ys : List Placed). Stands a older ys xs t) (sym turns) (subst (λ (u : Side). Stands a older own xs u) (sym side) h)
asides_stand a k (suc n) older own own' xs s t (side, turns, rest, (kind, step)) h =
    aside_on a k kind older turns own' xs side t step (asides_stand a k n older own turns xs s side rest h)

-- ---- a message goes out

sent : (a : Aim) (older own : List Placed) (xs : List Sealing) (s : Side) → Front a s × (sealed_said s ≡ []) → xs ≡ []
    → Went a older own (xs ++ sealed_said s) s
sent a older own xs s (front, nothing) none = inl (front, ap (λ (ys : List Sealing). ys ++ sealed_said s) none ∙ nothing)

said_on : (a : Aim) (older own : List Placed) (xs : List Sealing) (message : List ℕ) (s : Side) → Went a older own xs (Says message s)
    → Went a older own (xs ++ sealed_said s) s
said_on a older own xs message s (inl (early, none)) = sent a older own xs s (early_said a s early) none
said_on a older own xs message s (inr (inl (m, h, none))) = absurd h
said_on a older own xs message s (inr (inr (m, c, late, rises, source))) =
    let w = late_writes m s c late in
    inr (inr (m, w.0, w.1, rises_on m 0 c w.0 xs (sealed_said s) rises w.2, source))

-- ---- a link's steps

none_more : (xs : List Sealing) → xs ++ [] ≡ xs
none_more [] = refl
none_more (x ∷ xs) = ap (λ (ys : List Sealing). x ∷ ys) (none_more xs)

unsealed : (a : Aim) (older own : List Placed) (xs : List Sealing) (s : Side) → Stands a older own xs s → Stands a older own (xs ++ []) s
unsealed a older own xs s h = subst (λ (ys : List Sealing). Stands a older own ys s) (sym (none_more xs)) h

module _ {K : Type 0} (told : Type 0) (given left written : K → List ℕ) (faults : K → ℕ) (ended : K → Bool) (bars : ℕ → ℕ → Type 0)
    (a : Aim) (k : ℕ) (older : List Placed) where
  abbrev pub StandsOn : List Sealing → On K → Type 0
  StandsOn xs y = Stands a older y.own xs y.side

  step_on : (kind : StepKind) (x y : On K) (xs : List Sealing) → (step : StepBy told given left written faults ended bars a k kind x y)
      → StandsOn xs x → StandsOn (xs ++ sealed_by told given left written faults ended bars a k kind x y step) y
  step_on Reads x y xs step (g, h) =
      subst (λ (z : On K). StandsOn (xs ++ []) z) (sym step.is) (unsealed a older x.own xs x.side (g, h))
  step_on Loses x y xs step (g, h) =
      subst (λ (z : On K). StandsOn (xs ++ []) z) (sym step.is)
      (unsealed a older x.own xs Lost (g, went_done a older x.own xs x.side Lost tt h))
  step_on GivesNoMore x y xs step (g, h) =
      subst (λ (z : On K). StandsOn (xs ++ []) z) (sym step.is)
      (unsealed a older x.own xs (over x.side) (g, went_done a older x.own xs x.side (over x.side) (over_done x.side) h))
  step_on TakesFrame x y xs step (g, h) =
      subst (λ (z : On K). StandsOn (xs ++ []) z) (sym step.is)
      (unsealed a older x.own xs step.side (g, heard_on a older x.own xs x.side step.side step.message step.takes h))
  step_on Writes x y xs step (g, h) =
      subst (λ (z : On K). StandsOn (xs ++ sealed_said step.side) z) (sym step.is)
      (g, said_on a older x.own xs step.message step.side (subst (λ (s : Side). Went a older x.own xs s) step.due h))
  step_on WritesPart x y xs step (g, h) =
      subst (λ (z : On K). StandsOn (xs ++ sealed_said step.side) z) (sym step.is) (
        g,
        went_done a older x.own (xs ++ sealed_said step.side) step.side (over step.side) (over_done step.side)
            (said_on a older x.own xs step.message step.side (subst (λ (s : Side). Went a older x.own xs s) step.due h)),
      )
  step_on IsAside x y xs step h =
      subst (λ (z : On K). StandsOn (xs ++ []) z) (sym step.is)
      (unsealed a older step.own xs step.side
      (asides_stand a k step.steps.count older x.own step.own xs x.side step.side step.steps.steps h))

  pub link_stands : (n : ℕ) (x y : On K) → (steps : StepsIn told given left written faults ended bars a k n x y) → StandsOn [] x
      → StandsOn (sealed_on_link told given left written faults ended bars a k n x y steps) y
  link_stands zero x y steps h = subst (λ (z : On K). StandsOn [] z) (sym steps) h
  link_stands (suc n) x y (z, steps, (kind, step)) h =
      step_on kind z y (sealed_on_link told given left written faults ended bars a k n x z steps) step (link_stands n x z steps h)
