-- The server's end behind the replies of a frame: transcripts have the lengths that are due, and each final response that is signed
-- hashes five messages.
use Rattle.std.proofs.Common.{◌≡◌, ℕ, ◌==◌, Bool, true, false, ◌&&◌, List, [], ◌∷◌, ◌++◌, refl}
use Rattle.std.proofs.Common.{arith, sym, ◌∙◌, ap, subst, length}
use Rattle.std.proofs.Common.{Option, Some, None, is_some}
use Rattle.std.proofs.lemmas.List.{length-append}
use Rattle.spec_exchange.specs.Status.{success}
use Rattle.law_server.proofs.tables.Logic.{either}
use Rattle.spec_world.specs.Ends.{ServerEnd, Greeting}
use Rattle.spec_world.specs.Hearing.{is_negotiate}
use Rattle.spec_world.specs.Logon.{Progress, Stays, Interim, Final, greeting_transcript, made_or_greeted}
use Rattle.spec_world.specs.Answering.{SaidReply, ending_of, ending_by, greeting_behind, server_end_moved}
use Rattle.spec_world.specs.Answering.{server_end_behind, Behind, told_each, first_text, later_texts}
use Rattle.spec_world.specs.Statements.{IsWhole}
use Rattle.law_nonces.specs.negotiation.Keeping.{GreetingFits, MakingFits}
use Rattle.law_nonces.proofs.negotiation.Tables.{All, none_there, all_with, all_joined}

-- ---- replies in their order: an interim one behind a greeting, a final one where something is in the making

abbrev pub next_made : Bool → Progress → Bool
next_made b Stays = b
next_made b (Interim binding) = true
next_made b (Final binding channel encrypts) = false

abbrev pub FollowsOn : Bool → Bool → Progress → Type 0
FollowsOn greeted made Stays = Unit {0}
FollowsOn greeted made (Interim binding) = greeted ≡ true
FollowsOn greeted made (Final binding channel encrypts) = made ≡ true

abbrev pub made_behind : Bool → List SaidReply → Bool
made_behind b [] = b
made_behind b (r ∷ rs) = made_behind (next_made b r.progress) rs

abbrev pub Follow : Bool → Bool → List SaidReply → Type 0
Follow greeted made [] = Unit {0}
Follow greeted made (r ∷ rs) = FollowsOn greeted made r.progress × Follow greeted (next_made made r.progress) rs

pub made_with : (b : Bool) (rs : List SaidReply) (r : SaidReply) → made_behind b (rs ++ r ∷ []) ≡ next_made (made_behind b rs) r.progress
made_with b [] r = refl
made_with b (x ∷ rs) r = made_with (next_made b x.progress) rs r

pub follow_with : (greeted made : Bool) (rs : List SaidReply) (r : SaidReply) → Follow greeted made rs
    → FollowsOn greeted (made_behind made rs) r.progress → Follow greeted made (rs ++ r ∷ [])
follow_with greeted made [] r f new = (new, tt)
follow_with greeted made (x ∷ rs) r f new = (f.0, follow_with greeted (next_made made x.progress) rs r f.1 new)

later_on : (a b made : Bool) (p : Progress) → (a ≡ true → b ≡ true) → FollowsOn a made p → FollowsOn b made p
later_on a b made Stays more f = tt
later_on a b made (Interim binding) more f = more f
later_on a b made (Final binding channel encrypts) more f = f

later_follow : (a b made : Bool) (rs : List SaidReply) → (a ≡ true → b ≡ true) → Follow a made rs → Follow b made rs
later_follow a b made [] more f = tt
later_follow a b made (r ∷ rs) more f = (later_on a b made r.progress more f.0, later_follow a b (next_made made r.progress) rs more f.1)

-- ---- one reply

greeting_fits : (g : Option Greeting) (r : SaidReply) (t : List ℕ) → GreetingFits g → GreetingFits (greeting_behind g r t)
greeting_fits g r t fit = either GreetingFits (is_negotiate r.request.header && (r.header.status == success)) _ g (λ _. refl) (λ _. fit)

greeting_stays : (g : Option Greeting) (r : SaidReply) (t : List ℕ) → is_some g ≡ true → is_some (greeting_behind g r t) ≡ true
greeting_stays g r t e =
    either (λ o. is_some o ≡ true) (is_negotiate r.request.header && (r.header.status == success)) _ g (λ _. refl) (λ _. e)

four : (g : Option Greeting) (a b : List ℕ) → is_some g ≡ true → GreetingFits g → length (greeting_transcript g ++ (a ∷ b ∷ [])) ≡ 4
four None a b e fit = absurd (cc)
four (Some g) a b e fit = length-append g.transcript (a ∷ b ∷ []) ∙ omega (arith, fit)

five : (m : Option (List (List ℕ))) (g : Option Greeting) (a : List ℕ) → is_some m ≡ true → MakingFits m
    → length (made_or_greeted m g ++ a ∷ []) ≡ 5
five None g a e fit = absurd (cc)
five (Some t) g a e fit = length-append t (a ∷ []) ∙ omega (arith, fit)

moved_fits : (f : ServerEnd) (r : SaidReply) (t : List ℕ) (p : Progress) → GreetingFits f.greeting → MakingFits f.making
    → FollowsOn (is_some f.greeting) (is_some f.making) p → MakingFits (server_end_moved f r t p).making
moved_fits f r t Stays greeting making on = making
moved_fits f r t (Interim binding) greeting making on = four f.greeting r.request.raw t on greeting
moved_fits f r t (Final binding channel encrypts) greeting making on = tt

moved_made : (f : ServerEnd) (r : SaidReply) (t : List ℕ) (p : Progress) → is_some (server_end_moved f r t p).making
    ≡ next_made (is_some f.making) p
moved_made f r t Stays = refl
moved_made f r t (Interim binding) = refl
moved_made f r t (Final binding channel encrypts) = refl

moved_whole : (sealed : Bool) (f : ServerEnd) (r : SaidReply) (t : List ℕ) (p : Progress) → MakingFits f.making
    → FollowsOn (is_some f.greeting) (is_some f.making) p → All IsWhole (ending_by sealed f r t p)
moved_whole sealed f r t Stays making on = none_there IsWhole
moved_whole sealed f r t (Interim binding) making on = none_there IsWhole
moved_whole sealed f r t (Final binding channel encrypts) making on =
    either (All IsWhole) sealed [] _ (λ _. none_there IsWhole)
    (λ _. all_with IsWhole (ending_of f r t) [] (record {
      five = five f.making f.greeting r.request.raw on making;
      value = refl;
    }) (none_there IsWhole))

-- ---- all of them

pub record ToldFits (b : Bool) (x : Behind) : Type 0 where
  pub greeting : GreetingFits x.server_end.greeting
  pub making : MakingFits x.server_end.making
  pub made : is_some x.server_end.making ≡ b
  pub whole : All IsWhole x.endings

pub told_fits : (sealed : Bool) (f : ServerEnd) (rs : List SaidReply) (ts : List (List ℕ)) → GreetingFits f.greeting
    → MakingFits f.making → Follow (is_some f.greeting) (is_some f.making) rs
    → ToldFits (made_behind (is_some f.making) rs) (told_each sealed f rs ts)
unfolding told_each
told_fits sealed f [] ts greeting making follow = record { greeting = greeting; making = making; made = refl; whole = none_there IsWhole }
told_fits sealed f (r ∷ rs) ts greeting making follow =
    let t = first_text ts in
    let g = server_end_behind f r t in
    let made : is_some g.making ≡ next_made (is_some f.making) r.progress = moved_made f r t r.progress in
    let on : Follow (is_some g.greeting) (is_some g.making) rs =
    later_follow (is_some f.greeting) (is_some g.greeting) (is_some g.making) rs (greeting_stays f.greeting r t)
    (subst (λ b. Follow (is_some f.greeting) b rs) (sym made) follow.1) in
    let later = told_fits sealed g rs (later_texts ts) (greeting_fits f.greeting r t greeting)
    (moved_fits f r t r.progress greeting making follow.0) on in
    record {
      greeting = later.greeting;
      making = later.making;
      made = later.made ∙ ap (λ b. made_behind b rs) made;
      whole = all_joined IsWhole (ending_by sealed f r t r.progress) (told_each sealed g rs (later_texts ts)).endings
          (moved_whole sealed f r t r.progress making follow.0) later.whole;
    }
