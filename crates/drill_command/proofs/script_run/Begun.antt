-- A world before the first line of a script.
use Rattle.std.proofs.Common.{◌≡◌, ℕ, List, refl, sym, ap, subst, IfOk, IfSome, Option, Some, None, Result, Ok, Err}
use Rattle.std.proofs.Common.{◌∙◌}
use Rattle.std.specs.Prelude.{codes}
use Rattle.client_ends.specs.dialog_calls.Ending.{CanConnect}
use Rattle.law_scripts.specs.script_setup.Scripts.{drill_settings, first_user}
use Rattle.spec_exchange.specs.State.{Address}
use Rattle.client_ends.specs.declared.ends.config.ClientConfig.{ClientConfig}
use Rattle.client_ends.specs.dialog_requests.Dialogs.{CanOffer}
use Rattle.script_words.specs.declared.text_lines.settings.Settings.{Settings}
use Rattle.script_words.specs.declared.values.User.{User}
use Rattle.server_checks.specs.declared.tables.Config.{Config}
use Rattle.world_steps.specs.beginning.Starting.{IsBegunBy}
use Rattle.spec_world.specs.Settings.{ClientSettings}
use Rattle.client_book.specs.Configuring.{IsClientOf}
use Rattle.drill_command.specs.drill_setup.Setup.{IsServerOf}

pub ok_with : {T E : Type 0} {P Q : T → Type 0} (r : Result T E) → ((x : T) → P x → Q x) → IfOk r P → IfOk r Q
ok_with (Ok x) f h = f x h
ok_with (Err e) f h = h

pub ok_same : {E : Type 0} (r : Result ℕ E) (a b : ℕ) → a ≡ b → IfOk r (λ n. n ≡ a) → IfOk r (λ n. n ≡ b)
ok_same (Ok x) a b e h = h ∙ e
ok_same (Err x) a b e h = h

pub some_same : (r : Option ℕ) (a b : ℕ) → a ≡ b → IfSome r (λ n. n ≡ a) → IfSome r (λ n. n ≡ b)
some_same (Some x) a b e h = h ∙ e
some_same None a b e h = h

abbrev client_of : List ℕ → List ℕ → List ℕ → List ℕ → List ℕ → ClientSettings
client_of user password guid ciphers signings =
    record { user = user; password = password; guid = guid; ciphers = ciphers; signings = signings }

same_client : (a b p q g h c d s t : List ℕ) → a ≡ b → p ≡ q → g ≡ h → c ≡ d → s ≡ t → client_of a p g c s ≡ client_of b q h d t
same_client a b p q g h c d s t i j k l m = rw (i, j, k, l, m) refl

abbrev address_with : ℕ → ℕ → Address
address_with ip port = record { ip = ip; port = port }

same_address : (a b p q : ℕ) → a ≡ b → p ≡ q → address_with b q ≡ address_with a p
same_address a b p q e f = rw (e, f) refl

pub begun_by : (s : Settings) (u : User) (config : Config) (client : ClientConfig) (seed : List ℕ) → first_user s.users ≡ u
    → IsServerOf s config → IsClientOf s u (codes "smb311-client-01") client → CanOffer client → CanConnect s.share
    → IsBegunBy (drill_settings s seed) config (codes "smb311-server-01") client seed
unfolding drill_settings
begun_by s u config client seed first i j offers connects = record {
  client = same_client _ _ _ _ _ _ _ _ _ _ (ap (λ (v : User). v.name) first ∙ sym j.user)
      (ap (λ (v : User). v.password) first ∙ sym j.password) (sym j.guid_is) (sym j.ciphers) (sym j.signings);
  users = sym i.users;
  guid_is = refl;
  share = sym j.share;
  shared = sym i.share;
  room = sym i.room;
  encrypts = sym i.encrypts;
  address = same_address _ _ _ _ i.ip i.port;
  seed_is = refl;
  offers = offers;
  connects = subst CanConnect (sym j.share) connects;
}
