-- What the words of a line say, where they are read.
use Rattle.std.proofs.Common.{◌≡◌, ℕ, ◌≤◌, Bool, true, false, not, ◌&&◌, ◌||◌, ◌==◌, nat_le, List, [], ◌∷◌, ◌++◌, length, codes}
use Rattle.std.proofs.Common.{Option, Some, None, is_some, Ok, IsUtf8, refl, sym, subst, arith}
use Rattle.std.specs.Str.{bytes_eq, is_utf8, str_eq_ignore_ascii_case}
use Rattle.std.specs.List.{list_any}
use Rattle.std.proofs.lemmas.Bool.{or_parts}
use Rattle.std.proofs.lemmas.Grind.{common_steps}
use Rattle.std.proofs.lemmas.Str.{IsUtf8-from_is_utf8}
use Rattle.law_commands.proofs.commands.Limits.{at_most}
use Rattle.script_words.specs.Parts.{word, number, given_by, said_by, short_text, characters, is_ascii}
use Rattle.script_words.specs.Settings as settings
use Rattle.script_words.specs.Operations as operations
use Rattle.script_words.specs.Events as events
use Rattle.script_words.specs.Words.{statement, line_part, setting, operation, event, names_setting, ends_line}
use Rattle.script_words.specs.declared.values.Code.TheVariants.{BadLine, TooLong}
use Rattle.script_words.specs.declared.values.Command.TheVariants.{Drill}
use Rattle.script_words.specs.declared.values.Given.{Given}
use Rattle.script_words.specs.declared.values.Setting.{Setting as Value}
use Rattle.script_words.specs.declared.values.Setting.TheVariants as values
use Rattle.script_words.specs.declared.values.Statement.{Statement}
use Rattle.script_words.specs.declared.values.Statement.TheVariants.{Setting, Operation, Event}
use Rattle.script_words.specs.declared.values.User.{User}
use Rattle.script_words.specs.text_lines.Script.{given_after, given_with}
use Rattle.law_ties.specs.wire_facts.Fitting.{IsPassword, IsUserName}
use Rattle.law_scripts.proofs.settings_fit.Readings.{steps, chosen, unrefused, passed, same, front, spoken, not_false}
use Rattle.law_scripts.proofs.settings_fit.Texts.{IsShare, all_ascii, name_fits, password_fits, plain, share_fits}

-- ---- what a script gave so far fits: one user at most, and a share

pub record IsUser (u : User) : Type 0 where
  pub name : IsUserName u.name
  pub password : IsPassword u.password

abbrev pub AtMostOne : List User → Type 0
AtMostOne [] = Unit {0}
AtMostOne (u ∷ []) = IsUser u
AtMostOne (u ∷ v ∷ us) = ⊥

abbrev pub MayBeShare : Option (List ℕ) → Type 0
MayBeShare None = Unit {0}
MayBeShare (Some name) = IsShare name

pub record GivenFits (g : Given) : Type 0 where
  pub users : AtMostOne g.users
  pub share : MayBeShare g.share

-- ---- texts

record IsShort (t : List ℕ) : Type 0 where
  is_text : IsUtf8 t
  few : characters t ≤ 256

short : (t x : List ℕ) → short_text t ≡ Ok x → (t ≡ x) × IsShort x
short t x e =
    let a = unrefused (not (is_utf8 t)) BadLine _ x e in
    let b = passed (nat_le (characters t) 256) _ TooLong x a.1 in
    let is : t ≡ x = same t x b.1 in (
      is,
      subst IsShort is (record {
        is_text = IsUtf8-from_is_utf8 t (not_false (is_utf8 t) a.0);
        few = at_most (characters t) 256 b.0;
      }),
    )

name_is : (users : List User) (t x : List ℕ) → settings.user_name users t ≡ Ok x → IsUserName x
name_is users t x e =
    let a = unrefused (not (is_ascii t) || settings.is_name_taken t users) BadLine _ x e in
    let p = or_parts (not (is_ascii t)) (settings.is_name_taken t users) a.0 in
    let s = short t x a.1 in
    name_fits x (all_ascii x (subst (λ (v : List ℕ). is_ascii v ≡ true) s.0 (not_false (is_ascii t) p.0))) s.1.few

share_is : (t x : List ℕ) → settings.share_name t ≡ Ok x → IsShare x
share_is t x e =
    let a = unrefused (list_any (λ (byte : ℕ). byte == 92) t || str_eq_ignore_ascii_case t (codes "IPC$")) BadLine _ x e in
    let p = or_parts (list_any (λ (byte : ℕ). byte == 92) t) (str_eq_ignore_ascii_case t (codes "IPC$")) a.0 in
    let s = short t x a.1 in
    share_fits x s.1.is_text s.1.few (plain x (subst (λ (v : List ℕ). list_any (λ (byte : ℕ). byte == 92) v ≡ false) s.0 p.0))

-- ---- settings

pub cipher_stays : (g : Given) (words : List (List ℕ)) (s : Value × List (List ℕ)) → settings.cipher words ≡ Ok s → GivenFits g
    → GivenFits (given_with g s.0)
unfolding Rattle.script_words.specs.Settings.cipher
cipher_stays g words s e h =
    let a = steps (word words) _ s e in
    let b = steps (given_by (settings.cipher_of a.0.0) a.0.1) _ s a.2 in
    subst (λ (v : Value). GivenFits (given_with g v)) (front (values.Cipher b.0.0) b.0.1 s b.2)
    (record { users = h.users; share = h.share })

pub signing_stays : (g : Given) (words : List (List ℕ)) (s : Value × List (List ℕ)) → settings.signing words ≡ Ok s → GivenFits g
    → GivenFits (given_with g s.0)
unfolding Rattle.script_words.specs.Settings.signing
signing_stays g words s e h =
    let a = steps (word words) _ s e in
    let b = steps (given_by (settings.signing_of a.0.0) a.0.1) _ s a.2 in
    subst (λ (v : Value). GivenFits (given_with g v)) (front (values.Signing b.0.0) b.0.1 s b.2)
    (record { users = h.users; share = h.share })

pub room_stays : (g : Given) (words : List (List ℕ)) (s : Value × List (List ℕ)) → settings.room words ≡ Ok s → GivenFits g
    → GivenFits (given_with g s.0)
unfolding Rattle.script_words.specs.Settings.room
room_stays g words s e h =
    let a = steps (number 268_435_456 words) _ s e in
    subst (λ (v : Value). GivenFits (given_with g v)) (front (values.Room a.0.0) a.0.1 s a.2)
    (record { users = h.users; share = h.share })

pub channels_stay : (g : Given) (words : List (List ℕ)) (s : Value × List (List ℕ)) → settings.channels words ≡ Ok s → GivenFits g
    → GivenFits (given_with g s.0)
unfolding Rattle.script_words.specs.Settings.channels
channels_stay g words s e h =
    let a = steps (number 32 words) _ s e in
    let b = steps (given_by (settings.some_channels a.0.0) a.0.1) _ s a.2 in
    subst (λ (v : Value). GivenFits (given_with g v)) (front (values.Channels b.0.0) b.0.1 s b.2)
    (record { users = h.users; share = h.share })

pub share_fits_on : (g : Given) (words : List (List ℕ)) (s : Value × List (List ℕ)) → settings.share words ≡ Ok s → GivenFits g
    → GivenFits (given_with g s.0)
unfolding Rattle.script_words.specs.Settings.share
share_fits_on g words s e h =
    let a = steps (word words) _ s e in
    let b = steps (said_by (settings.share_name a.0.0) a.0.1) _ s a.2 in
    subst (λ (v : Value). GivenFits (given_with g v)) (front (values.Share b.0.0) b.0.1 s b.2)
    (record { users = h.users; share = share_is a.0.0 b.0.0 (spoken (settings.share_name a.0.0) a.0.1 b.0 b.1) })

-- ---- a user, where there is none yet

is_zero : (n : ℕ) → (n == 0) ≡ true → n ≡ 0
is_zero n e = grind (arith, common_steps)

none_yet : (us : List User) → length us ≡ 0 → us ≡ []
none_yet [] e = refl
none_yet (u ∷ us) e = absurd (omega (arith, e))

conjunct : (b : Bool) → (b && true) ≡ false → b ≡ false
conjunct true e = absurd cc
conjunct false e = refl

no_users : (b : Bool) (us : List User) → (b || (not (length us == 0) && true)) ≡ false → us ≡ []
no_users b us e = none_yet us (is_zero (length us) (not_false (length us == 0) (conjunct (not (length us == 0))
    (or_parts b (not (length us == 0) && true) e).1)))

user_fits_on : (g : Given) (words : List (List ℕ)) (s : Value × List (List ℕ)) → settings.user g.users words ≡ Ok s → g.users ≡ []
    → GivenFits g → GivenFits (given_with g s.0)
unfolding Rattle.script_words.specs.Settings.user
user_fits_on g words s e none h =
    let a = steps (word words) _ s e in
    let b = steps (said_by (settings.user_name g.users a.0.0) a.0.1) _ s a.2 in
    let c = steps (word b.0.1) _ s b.2 in
    let d = steps (said_by (short_text c.0.0) c.0.1) _ s c.2 in
    let name = name_is g.users a.0.0 b.0.0 (spoken (settings.user_name g.users a.0.0) a.0.1 b.0 b.1) in
    let password = short c.0.0 d.0.0 (spoken (short_text c.0.0) c.0.1 d.0 d.1) in
    let u : User = record { name = b.0.0; password = d.0.0 } in
    let is : IsUser u = record { name = name; password = password_fits d.0.0 password.1.is_text password.1.few } in
    subst (λ (v : Value). GivenFits (given_with g v)) (front (values.User u) d.0.1 s d.2)
    (record { users = subst (λ (us : List User). AtMostOne (us ++ u ∷ [])) (sym none) is; share = h.share })

-- ---- a setting that may be given here

pub setting_fits : (g : Given) (name : List ℕ) (words : List (List ℕ)) (s : Value × List (List ℕ))
    → settings.setting Drill g name words ≡ Ok s → GivenFits g → GivenFits (given_with g s.0)
unfolding Rattle.script_words.specs.Settings.setting
setting_fits g name words s e h =
    chosen (bytes_eq name (codes "cipher")) _ _ s e
    (λ r. cipher_stays g words s (unrefused (g.begun || is_some g.cipher) BadLine _ s r).1 h)
    (λ t e1. chosen (bytes_eq name (codes "signing")) _ _ s e1
    (λ r. signing_stays g words s (unrefused (g.begun || is_some g.signing) BadLine _ s r).1 h)
    (λ t e2. chosen (bytes_eq name (codes "room")) _ _ s e2
    (λ r. room_stays g words s (unrefused (g.begun || is_some g.room) BadLine _ s r).1 h)
    (λ t e3. chosen (bytes_eq name (codes "user")) _ _ s e3
    (λ r. let u = unrefused (g.begun || (not (length g.users == 0) && true)) BadLine _ s r in
    user_fits_on g words s u.1 (no_users g.begun g.users u.0) h)
    (λ t e4. chosen (bytes_eq name (codes "share")) _ _ s e4
    (λ r. share_fits_on g words s (unrefused (g.begun || is_some g.share) BadLine _ s r).1 h)
    (λ t e5. let p = passed (bytes_eq name (codes "channels")) _ BadLine s e5 in
    channels_stay g words s (unrefused (g.begun || (is_some g.channels || true)) BadLine _ s p.1).1 h)))))

-- ---- a whole line

operation_stays : (creates : List Bool) (g : Given) (words : List (List ℕ)) (x : Statement × List (List ℕ))
    → operation Drill creates words ≡ Ok x → GivenFits g → GivenFits (given_after g x.0)
unfolding operation
operation_stays creates g words x e h =
    let a = steps (operations.operation creates words) _ x e in
    subst (λ (v : Statement). GivenFits (given_after g v)) (front (Operation a.0.0) a.0.1 x a.2)
    (record { users = h.users; share = h.share })

event_stays : (g : Given) (name : List ℕ) (words : List (List ℕ)) (x : Statement × List (List ℕ))
    → event Drill name words ≡ Ok x → GivenFits g → GivenFits (given_after g x.0)
unfolding event
event_stays g name words x e h =
    let a = steps (events.event name words) _ x e in
    subst (λ (v : Statement). GivenFits (given_after g v)) (front (Event a.0.0) a.0.1 x a.2)
    (record { users = h.users; share = h.share })

setting_said : (g : Given) (name : List ℕ) (words : List (List ℕ)) (x : Statement × List (List ℕ))
    → setting Drill g name words ≡ Ok x → GivenFits g → GivenFits (given_after g x.0)
unfolding setting
setting_said g name words x e h =
    let a = steps (settings.setting Drill g name words) _ x e in
    subst (λ (v : Statement). GivenFits (given_after g v)) (front (Setting a.0.0) a.0.1 x a.2)
    (setting_fits g name words a.0 a.1 h)

said_fits : (creates : List Bool) (g : Given) (words : List (List ℕ)) (x : Statement × List (List ℕ))
    → line_part Drill creates g words ≡ Ok x → GivenFits g → GivenFits (given_after g x.0)
unfolding line_part
said_fits creates g words x e h =
    let a = steps (word words) _ x e in
    chosen (bytes_eq a.0.0 (codes "op")) _ _ x a.2
    (λ r. operation_stays creates g a.0.1 x r h)
    (λ t e1. chosen (names_setting a.0.0) _ _ x e1
    (λ r. setting_said g a.0.0 a.0.1 x r h)
    (λ t2 e2. event_stays g a.0.0 a.0.1 x e2 h))

pub statement_fits : (creates : List Bool) (g : Given) (words : List (List ℕ)) (st : Statement)
    → statement Drill creates g words ≡ Ok st → GivenFits g → GivenFits (given_after g st)
unfolding statement
statement_fits creates g words st e h =
    let a = steps (line_part Drill creates g words) ends_line st e in
    let p = passed (length a.0.1 == 0) _ BadLine st a.2 in
    subst (λ (v : Statement). GivenFits (given_after g v)) (same a.0.0 st p.1) (said_fits creates g words a.0 a.1 h)
